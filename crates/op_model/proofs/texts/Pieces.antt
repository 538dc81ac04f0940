-- Pieces in order, and how much they bring.
use Rattle.std.proofs.Common.{ℕ, [], ◌≡◌, zero, suc, ◌<◌, List, ◌∷◌, length, get_or, sym, arith, subst, refl, length-append, ◌≤◌, drop, ◌+◌, drop-cons, ap, ◌∙◌}
use Rattle.std.specs.List.{AllByRecursion}
use Rattle.op_model.specs.declared.operation.Piece.{Piece}
use Rattle.op_model.specs.Operations.{text_total}
use Rattle.op_model.specs.Shown.{texts}
use Rattle.op_model.specs.Walked.{Ordered}

-- ---- each of a list

pub each_at : (P : Piece → Type 0) (ps : List Piece) (i : ℕ) (p : Piece) → AllByRecursion P ps → i < length ps → p ≡ get_or ps i p → P p
each_at P [] i p e l q = absurd (omega (arith, l))
each_at P (x ∷ ps) zero p e l q = subst P (sym q) e.0
each_at P (x ∷ ps) (suc i) p e l q = each_at P ps i p e.1 (omega (arith, l)) q

-- ---- the new texts of pieces

pub total_is : (ps : List Piece) → text_total ps ≡ length (texts ps)
total_is [] = refl
total_is (p ∷ ps) = omega (arith, total_is ps, length-append p.text (texts ps))

pub total_drop : (i : ℕ) (ps : List Piece) → text_total (drop i ps) ≤ text_total ps
total_drop zero ps = omega arith
total_drop (suc i) [] = omega arith
total_drop (suc i) (p ∷ ps) = omega (arith, total_drop i ps)

pub ordered_down : (at from end : ℕ) (ps : List Piece) → at ≤ from → Ordered from end ps → Ordered at end ps
ordered_down at from end [] h o = omega (arith, h, o)
ordered_down at from end (p ∷ ps) h o = let k = o.0 in (omega (arith, k, h), o.1, o.2)

pub ordered_up : (at end more : ℕ) (ps : List Piece) → end ≤ more → Ordered at end ps → Ordered at more ps
ordered_up at end more [] h o = omega (arith, h, o)
ordered_up at end more (p ∷ ps) h o = (o.0, o.1, ordered_up p.end end more ps h o.2)

-- the piece that comes next
pub next_piece : (items : List Piece) (i : ℕ) (p : Piece) → i < length items → p ≡ get_or items i p → drop i items ≡ p ∷ drop (i + 1) items
next_piece items i p l e =
    let n : suc i ≡ i + 1 = omega arith in
    drop-cons items i p l ∙ ap (λ (q : Piece). q ∷ drop (suc i) items) (sym e) ∙ ap (λ (j : ℕ). p ∷ drop j items) n
