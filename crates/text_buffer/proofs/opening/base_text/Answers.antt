use Rattle.std.proofs.Common.{◌≡◌, ℕ, ◌<◌, ◌≤◌, List, [], ◌∷◌, length, get_or, sym, ap, ◌∙◌, arith, true, false, Bool}
use Rattle.std.proofs.lemmas.List.{nil_from_length}
use Rattle.lamport_clock.specs.declared.stamp.Lamport.{Lamport}
use Rattle.lamport_clock.specs.Stamps.{same_stamp}
use Rattle.lamport_clock.proofs.Later.{same_stamp_eq, same_stamp_refl}
use Rattle.op_model.specs.declared.operation.EditOp.{EditOp}
use Rattle.op_model.specs.declared.operation.Operation.{Operation}
use Rattle.op_model.specs.declared.operation.Operation.TheVariants.{Edit}
use Rattle.op_model.specs.declared.operation.Piece.{Piece}
use Rattle.op_model.specs.Histories.{base}
use Rattle.text_buffer.proofs.opening.base_text.Goals as goal
use Rattle.text_buffer.proofs.opening.base_text.Goals.{else-is_same-via-then-is_same+then-len-eq0+then-piece-eq0+else-piece-eq0-2, else-is_same-via-then-is_same+then-len-eq0+else-piece-eq0, else-is_same-via-then-is_same+else-len-eq0, else-is_same-via-else-is_same}

abbrev first_stamp : Lamport
first_stamp = record { value = 1; replica = 0 }

one_of : (ps qs : List Piece) (p : Piece) → ps ≡ qs → 1 ≤ length ps → length ps < 2 → p ≡ get_or ps 0 p → qs ≡ p ∷ []
one_of ps [] p e a b g = let n : length ps ≡ 0 = ap length e in absurd (omega arith)
one_of ps (q ∷ []) p e a b g = let s : q ≡ p = sym (g ∙ ap (λ (x : List Piece). get_or x 0 p) e) in ap (λ (x : Piece). x ∷ []) s
one_of ps (q ∷ r ∷ qs) p e a b g = let n : length ps ≡ length (q ∷ r ∷ qs) = ap length e in absurd (omega arith)

-- an edit with these parts is the base
base_from : (op : Operation) (e : EditOp) (p : Piece) (t : List ℕ) → op ≡ Edit e → same_stamp e.stamp first_stamp ≡ true → length e.version ≡ 0 → e.pieces ≡ p ∷ [] → p.start ≡ 0 → p.end ≡ 0 → t ≡ p.text → op ≡ base t
base_from op e p t o s v q a b x =
    let i : e.stamp ≡ first_stamp = same_stamp_eq e.stamp first_stamp s in
    let j : e.version ≡ [] = nil_from_length e.version v in
    let k : e.pieces ≡ record { start = 0; end = 0; text = t } ∷ [] = q ∙ (λ z. record { start = a z; end = b z; text = sym x z } ∷ []) in
    o ∙ (λ z. Edit (record { stamp = i z; version = j z; pieces = k z }))

abbrev base_edit : List ℕ → EditOp
base_edit t = record { stamp = first_stamp; version = []; pieces = record { start = 0; end = 0; text = t } ∷ [] }

edit_is : (op : Operation) (e : EditOp) (t : List ℕ) → op ≡ Edit e → op ≡ base t → e ≡ base_edit t
edit_is op e t o b = let q : Edit e ≡ Edit (base_edit t) = sym o ∙ b in cc

other_stamp : (op : Operation) (e : EditOp) (t : List ℕ) (b : Bool) → op ≡ Edit e → op ≡ base t → b ≡ same_stamp e.stamp first_stamp → b ≡ false → ⊥
other_stamp op e t b o x s f =
    let i : e.stamp ≡ first_stamp = ap (λ (y : EditOp). y.stamp) (edit_is op e t o x) in
    let k : same_stamp e.stamp first_stamp ≡ true = ap (λ (y : Lamport). same_stamp y first_stamp) i ∙ same_stamp_refl first_stamp in
    cc

seen_nothing : (op : Operation) (e : EditOp) (t : List ℕ) → op ≡ Edit e → op ≡ base t → length e.version ≡ 0
seen_nothing op e t o x = ap (λ (y : EditOp). length y.version) (edit_is op e t o x)

piece_is : (op : Operation) (e : EditOp) (t : List ℕ) (ps : List Piece) (p : Piece) → op ≡ Edit e → op ≡ base t → ps ≡ e.pieces → p ≡ get_or ps 0 p → p ≡ record { start = 0; end = 0; text = t }
piece_is op e t ps p o x s g = g ∙ ap (λ (y : List Piece). get_or y 0 p) (s ∙ ap (λ (y : EditOp). y.pieces) (edit_is op e t o x))

pub returns-then-piece-eq0-2-clause-base : goal.returns-then-piece-eq0-2-clause-base
returns-then-piece-eq0-2-clause-base c =
    base_from c.args.op.now c.in-Edit.edit c.piece-item.result c.as_str.result.now c.in-Edit.is (sym c.is_same.ensures ∙ c.if-is_same.true) (sym c.len.ensures ∙ c.if-len-eq0.true)
    (one_of c.as_slice.result.now c.in-Edit.edit.pieces c.piece-item.result c.as_slice.ensures c.in-len1.len_at_least c.in-len1.len_below c.piece-item.is) c.if-piece-eq0.true c.if-piece-eq0-2.true c.as_str.ensures

pub returns-else-is_same-clause-other : goal.returns-else-is_same-clause-other
returns-else-is_same-clause-other c t x =
    let e = c.in-Edit.edit in
    let p = piece_is c.args.op.now e t c.as_slice.result.now c.piece-item.result c.in-Edit.is x c.as_slice.ensures c.piece-item.is in
    elim c.else-is_same.branch [
      | else-is_same-via-then-is_same+then-len-eq0+then-piece-eq0+else-piece-eq0-2 w ↦ w.if-piece-eq0-2.false (ap (λ (y : Piece). y.end) p)
      | else-is_same-via-then-is_same+then-len-eq0+else-piece-eq0 w ↦ w.if-piece-eq0.false (ap (λ (y : Piece). y.start) p)
      | else-is_same-via-then-is_same+else-len-eq0 w ↦ w.if-len-eq0.false (w.len.ensures ∙ seen_nothing c.args.op.now e t c.in-Edit.is x)
      | else-is_same-via-else-is_same w ↦ other_stamp c.args.op.now e t c.is_same.result c.in-Edit.is x c.is_same.ensures w.if-is_same.false
    ]
