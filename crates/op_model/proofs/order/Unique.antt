-- No cell stands twice in a sequence.
use Rattle.op_model.proofs.Elements.{each_map, each_last}
use Rattle.std.proofs.Common.{◌≡◌, ℕ, suc, ◌+◌, ◌≤◌, Bool, List, [], ◌∷◌, ◌++◌, length, sym, subst, inl, inr, true, false, ◌&&◌, eqb, arith}
use Rattle.std.specs.List.{AllByRecursion}
use Rattle.std.proofs.lemmas.Bool.{cases_Bool, false_from_ne_true, and_parts, eqb-true}
use Rattle.std.proofs.lemmas.Bool.Decides.{nat_tests}
use Rattle.lamport_clock.specs.declared.stamp.Lamport.{Lamport}
use Rattle.op_model.specs.declared.operation.Operation.{Operation}
use Rattle.op_model.specs.Histories.{History}
use Rattle.op_model.specs.declared.operation.Piece.{Piece}
use Rattle.lamport_clock.specs.Stamps.{later, same_stamp}
use Rattle.lamport_clock.proofs.Later.{same_stamp_eq, later_irrefl}
use Rattle.op_model.specs.Operations.{stamp_of, version_of, pieces_of}
use Rattle.op_model.specs.Cells.{Cell, cell_at, same_cell, PathCell, path, before, put_all, text_places, new_places, left_path, both, seq_where}
use Rattle.op_model.proofs.order.Insertion.{each_insert, insert_past, insert_here}
use Rattle.op_model.proofs.order.LateOperation.{seq_nil, seq_kept, seq_unkept}
use Rattle.op_model.proofs.order.Skipping.{put}
use Rattle.op_model.proofs.order.Laying.{Past, past_down, put_all_append, end_of}
use Rattle.op_model.proofs.order.SameSets.{Desc}
use Rattle.op_model.proofs.histories.OneMore.{No, no_stamp}

pub other_way : (a b : Cell) → same_cell a b ≡ false → same_cell b a ≡ false
unfolding same_cell same_stamp
other_way a b h = grind (arith, nat_tests)

less_k : (a : Cell) (t : Lamport) (k : ℕ) → (a.stamp ≡ t → suc k ≤ a.k) → same_cell (record { stamp = t; k = k }) a ≡ false
unfolding same_cell
less_k a t k h = false_from_ne_true (same_stamp t a.stamp && eqb k a.k) (λ e. no (and_parts (same_stamp t a.stamp) (eqb k a.k) e))
  where
    no : (same_stamp t a.stamp ≡ true) × (eqb k a.k ≡ true) → ⊥
    no e = let g : suc k ≤ a.k = h (sym (same_stamp_eq t a.stamp e.0)) in let i : k ≡ a.k = eqb-true k a.k e.1 in omega arith

-- no cell stands twice
abbrev pub Unique : List PathCell → Type 0
Unique [] = Unit {0}
Unique (p ∷ s) = AllByRecursion (λ (q : PathCell). same_cell p.cell q.cell ≡ false) s × Unique s

put_unique : (x : PathCell) (s : List PathCell) → AllByRecursion (λ (y : PathCell). same_cell x.cell y.cell ≡ false) s → Unique s → Unique (put x s)
put_unique x [] e u = (tt, tt)
put_unique x (y ∷ s) e u = elim (cases_Bool (before y x)) [
  | inl b ↦ rw (insert_past before x y s b) (each_insert (λ (q : PathCell). same_cell y.cell q.cell ≡ false) before x s (other_way x.cell y.cell e.0) u.0, put_unique x s e.1 u.1)
  | inr b ↦ rw (insert_here before x y s b) (e, u)
]

text_unique : (u : List Cell) (t : Lamport) (k m : ℕ) (bs : List ℕ) (r : List PathCell) → k + length bs ≤ m → Unique r → AllByRecursion (Past t m) r
    → Unique (put_all (text_places u t k bs) r) × AllByRecursion (Past t k) (put_all (text_places u t k bs) r)
text_unique u t k m [] r h st e = (st, past_down t k m r (omega arith) e)
text_unique u t k m (b ∷ bs) r h st e =
    let c : Cell = record { stamp = t; k = k } in
    let x : PathCell = record { above = u; cell = c } in
    let z : List PathCell = put_all (text_places (u ++ cell_at t k ∷ []) t (suc k) bs) r in
    let ih = text_unique (u ++ cell_at t k ∷ []) t (suc k) m bs r (omega arith) st e in (
      put_unique x z (each_map (Past t (suc k)) (λ (y : PathCell). same_cell c y.cell ≡ false) (λ y p. less_k y.cell t k p) z ih.1) ih.0,
      each_insert (Past t k) before x z (λ i. omega arith) (past_down t k (suc k) z (omega arith) ih.1),
    )

new_unique : (v : List PathCell) (t : Lamport) (k : ℕ) (ps : List Piece) (s : List PathCell) → Unique s → AllByRecursion (Past t (end_of k ps)) s
    → Unique (put_all (new_places v t k ps) s) × AllByRecursion (Past t k) (put_all (new_places v t k ps) s)
new_unique v t k [] s u e = (u, e)
new_unique v t k (p ∷ ps) s u e =
    let ih = new_unique v t (k + length p.text) ps s u e in
    let a = put_all_append (text_places (left_path v p.start) t k p.text) (new_places v t (k + length p.text) ps) s in
    rw a (text_unique (left_path v p.start) t k (k + length p.text) p.text (put_all (new_places v t (k + length p.text) ps) s) (omega arith) ih.0 ih.1)

no_past : (t : Lamport) (k : ℕ) (s : List PathCell) → AllByRecursion (λ (p : PathCell). No t (path p)) s → AllByRecursion (Past t k) s
no_past t k [] e = tt
no_past t k (p ∷ s) e = (λ i. absurd (each_last (λ (d : Cell). d.stamp ≡ t → ⊥) p.above p.cell e.0 i), no_past t k s e.1)

pub unlike : (o : Operation) (h : History) → AllByRecursion (λ (p : Operation). later (stamp_of o) (stamp_of p) ≡ true) h → AllByRecursion (λ (p : Operation). stamp_of p ≡ stamp_of o → ⊥) h
unlike o h e = each_map (λ (p : Operation). later (stamp_of o) (stamp_of p) ≡ true) (λ (p : Operation). stamp_of p ≡ stamp_of o → ⊥) one h e
  where
    one : (p : Operation) → later (stamp_of o) (stamp_of p) ≡ true → stamp_of p ≡ stamp_of o → ⊥
    one p l i = let g : later (stamp_of o) (stamp_of o) ≡ true = subst (λ (x : Lamport). later (stamp_of o) x ≡ true) i l in let n = later_irrefl (stamp_of o) in cc

pub seq_unique : (keep : Lamport → Bool) (h : History) → Desc h → Unique (seq_where keep h)
seq_unique keep [] d = rw (seq_nil keep) tt
seq_unique keep (o ∷ h) d = elim (cases_Bool (keep (stamp_of o))) [
  | inl k ↦ rw (seq_kept keep o h k) ((new_unique (seq_where (both keep (version_of o)) h) (stamp_of o) 0 (pieces_of o) (seq_where keep h) (seq_unique keep h d.1)
      (no_past (stamp_of o) (end_of 0 (pieces_of o)) (seq_where keep h) (no_stamp (stamp_of o) keep h (unlike o h d.0)))).0)
  | inr k ↦ rw (seq_unkept keep o h k) (seq_unique keep h d.1)
]
