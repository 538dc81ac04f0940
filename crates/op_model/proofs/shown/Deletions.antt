-- The edits that delete a cell, as a list, with one operation more and in a part.
use Rattle.op_model.proofs.Elements.{each_map, each_last}
use Rattle.std.proofs.Common.{◌≡◌, ℕ, suc, eqb, ◌⊎◌, Bool, List, [], ◌∷◌, refl, sym, ◌∙◌, ap, inl, inr, true, false, cond}
use Rattle.std.proofs.lemmas.Bool.{cases_Bool, and_left, and_right, not_from_false, false_from_ne_true}
use Rattle.std.specs.List.{AllByRecursion, filter}
use Rattle.lamport_clock.specs.declared.stamp.Lamport.{Lamport}
use Rattle.op_model.specs.declared.operation.Operation.{Operation}
use Rattle.op_model.specs.Histories.{History, newer, by_stamp, kept_history}
use Rattle.lamport_clock.specs.Versions.{sees}
use Rattle.op_model.specs.declared.operation.Piece.{Piece}
use Rattle.lamport_clock.specs.Stamps.{later, same_stamp}
use Rattle.lamport_clock.proofs.Later.{same_stamp_eq, one_way}
use Rattle.op_model.specs.Operations.{stamp_of, version_of, pieces_of}
use Rattle.op_model.specs.Cells.{Cell, PathCell, path, same_cell, both, everything, seq_where}
use Rattle.op_model.specs.Shown.{in_ranges, visible_by, deleters_where}
use Rattle.op_model.specs.Facts.{stamp_first, with_deletion}
use Rattle.op_model.proofs.order.Insertion.{insert_past, insert_here}
use Rattle.op_model.proofs.order.LateOperation.{Apart}
use Rattle.op_model.proofs.order.Restricted.{Agree, seq_agree, Closed, closed_agree}
use Rattle.op_model.proofs.order.SameSets.{newer_trans, Desc}
use Rattle.op_model.proofs.histories.OneMore.{No, no_stamp}
use Rattle.op_model.proofs.shown.Parts.{deleters_agree, kept_agree}
use Rattle.op_model.proofs.shown.Deleters.{hits, hits_same, hits_tail, deleters_kept, deleters_unkept, deleters_anywhere}

hits_agree : (f g : Lamport → Bool) (o : Operation) (h : History) (c : Cell) → Agree (both f (version_of o)) (both g (version_of o)) h → hits f o h c ≡ hits g o h c
hits_agree f g o h c e = rw (
  seq_agree (both f (version_of o)) (both g (version_of o)) h e,
  kept_agree (both f (version_of o)) (both g (version_of o)) h e,
  deleters_agree (both f (version_of o)) (both g (version_of o)) h c e,
) refl

-- the edits of a closed part that delete a cell are those of all that delete it and are in the part
pub deleters_restrict : (keep : Lamport → Bool) (h : History) (c : Cell) → Closed keep h → filter keep (deleters_where everything h c) ≡ deleters_where keep h c
unfolding deleters_where
deleters_restrict keep [] c e = refl
deleters_restrict keep (o ∷ h) c e = go (cases_Bool (keep (stamp_of o))) (deleters_restrict keep h c e.1)
  where
    pick : (b : Bool) (d : List Lamport) → keep (stamp_of o) ≡ true → filter keep (cond b (stamp_of o ∷ d) d) ≡ cond b (stamp_of o ∷ filter keep d) (filter keep d)
    pick true d k = rw k refl
    pick false d k = refl

    drop : (b : Bool) (d : List Lamport) → keep (stamp_of o) ≡ false → filter keep (cond b (stamp_of o ∷ d) d) ≡ filter keep d
    drop true d k = rw k refl
    drop false d k = refl

    go : (keep (stamp_of o) ≡ true) ⊎ (keep (stamp_of o) ≡ false) → filter keep (deleters_where everything h c) ≡ deleters_where keep h c
        → filter keep (deleters_where everything (o ∷ h) c) ≡ deleters_where keep (o ∷ h) c
    go (inl k) ih = ap (filter keep) (deleters_kept everything o h c refl) ∙ pick (hits everything o h c) (deleters_where everything h c) k
        ∙ ap (λ (b : Bool). cond b (stamp_of o ∷ filter keep (deleters_where everything h c)) (filter keep (deleters_where everything h c)))
        (hits_agree everything keep o h c (closed_agree keep (version_of o) h (e.0 k)))
        ∙ ap (λ (d : List Lamport). cond (hits keep o h c) (stamp_of o ∷ d) d) ih ∙ sym (deleters_kept keep o h c k)
    go (inr k) ih = ap (filter keep) (deleters_kept everything o h c refl) ∙ drop (hits everything o h c) (deleters_where everything h c) k
        ∙ ih ∙ sym (deleters_unkept keep o h c k)

abbrev pub Older : Lamport → List Lamport → Type 0
Older t d = AllByRecursion (λ (s : Lamport). stamp_first s t ≡ false) d

pub older_in : (keep : Lamport → Bool) (op : Operation) (h : History) (c : Cell) → AllByRecursion (λ (o : Operation). newer o op ≡ false) h → Older (stamp_of op) (deleters_where keep h c)
unfolding deleters_where
older_in keep op [] c e = tt
older_in keep op (o ∷ h) c e = elim (cases_Bool (keep (stamp_of o))) [
  | inl k ↦ rw (deleters_kept keep o h c k) (one (hits keep o h c) (older_in keep op h c e.1))
  | inr k ↦ rw (deleters_unkept keep o h c k) (older_in keep op h c e.1)
]
  where
    one : (b : Bool) → Older (stamp_of op) (deleters_where keep h c) → Older (stamp_of op) (cond b (stamp_of o ∷ deleters_where keep h c) (deleters_where keep h c))
    one true f = (e.0, f)
    one false f = f

pub with_front : (t : Lamport) (d : List Lamport) → Older t d → with_deletion t d ≡ t ∷ d
with_front t [] e = refl
with_front t (s ∷ d) e = insert_here stamp_first t s d e.0

pub desc_older : (op : Operation) (o : Operation) (h : History) → newer o op ≡ false → Desc (o ∷ h) → AllByRecursion (λ (p : Operation). newer p op ≡ false) (o ∷ h)
desc_older op o h n d = (n, each_map (λ (p : Operation). later (stamp_of o) (stamp_of p) ≡ true) (λ (p : Operation). newer p op ≡ false) one h d.0)
  where
    one : (p : Operation) → later (stamp_of o) (stamp_of p) ≡ true → newer p op ≡ false
    one p l = elim (cases_Bool (newer p op)) [
      | inl t ↦ (let w : newer o p ≡ true = not_from_false (later (stamp_of p) (stamp_of o)) (one_way (stamp_of o) (stamp_of p) l) in
          let g : newer o op ≡ true = newer_trans o p op w t in cc)
      | inr f ↦ f
    ]

front_case : (keep : Lamport → Bool) (op : Operation) (h : History) (c : Cell) → keep (stamp_of op) ≡ true → AllByRecursion (λ (o : Operation). newer o op ≡ false) h
    → deleters_where keep (op ∷ h) c ≡ cond (hits keep op h c) (with_deletion (stamp_of op) (deleters_where keep h c)) (deleters_where keep h c)
front_case keep op h c k e = deleters_kept keep op h c k
    ∙ ap (λ (x : List Lamport). cond (hits keep op h c) x (deleters_where keep h c)) (sym (with_front (stamp_of op) (deleters_where keep h c) (older_in keep op h c e)))

-- op is put among the edits that delete c, where it deletes it
pub late_deletions : (keep : Lamport → Bool) (op : Operation) (h : History) (c : Cell) → Apart op h → Desc h → keep (stamp_of op) ≡ true
    → deleters_where keep (by_stamp op h) c ≡ cond (hits keep op h c) (with_deletion (stamp_of op) (deleters_where keep h c)) (deleters_where keep h c)
late_deletions keep op [] c a d e = front_case keep op [] c e tt
late_deletions keep op (o ∷ h) c a d e = elim (cases_Bool (newer o op)) [
  | inl n ↦ rw (insert_past newer op o h n) (under n (cases_Bool (keep (stamp_of o))) (late_deletions keep op h c a.1 d.1 e)
      (hits_same keep o op h c (and_right (keep (stamp_of op)) (sees (version_of o) (stamp_of op)) (a.0 n).0)
      (deleters_anywhere (both keep (version_of o)) op h c (and_right (keep (stamp_of op)) (sees (version_of o) (stamp_of op)) (a.0 n).0)))
      (hits_tail keep op o h c (and_right (keep (stamp_of o)) (sees (version_of op) (stamp_of o)) (a.0 n).1)))
  | inr n ↦ rw (insert_here newer op o h n) (front_case keep op (o ∷ h) c e (desc_older op o h n d))
]
  where
    mix : newer o op ≡ true → (b x : Bool) (d : List Lamport) → cond b (stamp_of o ∷ cond x (with_deletion (stamp_of op) d) d) (cond x (with_deletion (stamp_of op) d) d)
        ≡ cond x (with_deletion (stamp_of op) (cond b (stamp_of o ∷ d) d)) (cond b (stamp_of o ∷ d) d)
    mix n true true d = sym (insert_past stamp_first (stamp_of op) (stamp_of o) d n)
    mix n true false d = refl
    mix n false true d = refl
    mix n false false d = refl

    under : newer o op ≡ true → (keep (stamp_of o) ≡ true) ⊎ (keep (stamp_of o) ≡ false)
        → deleters_where keep (by_stamp op h) c ≡ cond (hits keep op h c) (with_deletion (stamp_of op) (deleters_where keep h c)) (deleters_where keep h c)
        → hits keep o (by_stamp op h) c ≡ hits keep o h c
        → hits keep op (o ∷ h) c ≡ hits keep op h c
        → deleters_where keep (o ∷ by_stamp op h) c ≡ cond (hits keep op (o ∷ h) c) (with_deletion (stamp_of op) (deleters_where keep (o ∷ h) c)) (deleters_where keep (o ∷ h) c)
    under n (inl k) ih g t = rw (deleters_kept keep o (by_stamp op h) c k, deleters_kept keep o h c k, g, t, ih)
        (mix n (hits keep o h c) (hits keep op h c) (deleters_where keep h c))
    under n (inr k) ih g t = rw (deleters_unkept keep o (by_stamp op h) c k, deleters_unkept keep o h c k, t) ih

-- where no place has the cell
none_there : (s : List PathCell) (i : ℕ) (ps : List Piece) (c : Cell) → AllByRecursion (λ (p : PathCell). same_cell p.cell c ≡ false) s → in_ranges s i ps c ≡ false
none_there [] i ps c e = refl
none_there (p ∷ s) i ps c e = rw (e.0, none_there s (suc i) ps c e.1) refl

other_cell : (t : Lamport) (c : Cell) (p : PathCell) → c.stamp ≡ t → (p.cell.stamp ≡ t → ⊥) → same_cell p.cell c ≡ false
unfolding same_cell
other_cell t c p i n = and_left (same_stamp p.cell.stamp c.stamp) (eqb p.cell.k c.k) (false_from_ne_true (same_stamp p.cell.stamp c.stamp) (λ b. n (same_stamp_eq p.cell.stamp c.stamp b ∙ i)))

others : (t : Lamport) (c : Cell) (s : List PathCell) → c.stamp ≡ t → AllByRecursion (λ (p : PathCell). No t (path p)) s → AllByRecursion (λ (p : PathCell). same_cell p.cell c ≡ false) s
others t c [] i e = tt
others t c (p ∷ s) i e = (other_cell t c p i (each_last (λ (d : Cell). d.stamp ≡ t → ⊥) p.above p.cell e.0), others t c s i e.1)

-- no edit of a history deletes a cell of another
pub not_deleted : (keep : Lamport → Bool) (h : History) (c : Cell) → AllByRecursion (λ (o : Operation). stamp_of o ≡ c.stamp → ⊥) h → deleters_where keep h c ≡ []
unfolding deleters_where
not_deleted keep [] c e = refl
not_deleted keep (o ∷ h) c e = elim (cases_Bool (keep (stamp_of o))) [
  | inl k ↦ rw (k, none_there (seq_where (both keep (version_of o)) h) 0 (pieces_of o) c (others c.stamp c (seq_where (both keep (version_of o)) h) refl (no_stamp c.stamp (both keep (version_of o)) h e.1)))
      (not_deleted keep h c e.1)
  | inr k ↦ rw k (not_deleted keep h c e.1)
]

pub not_hit : (keep : Lamport → Bool) (op : Operation) (h : History) (c : Cell) → AllByRecursion (λ (o : Operation). stamp_of o ≡ c.stamp → ⊥) h → hits keep op h c ≡ false
not_hit keep op h c e = and_left (in_ranges (seq_where (both keep (version_of op)) h) 0 (pieces_of op) c)
    (visible_by (kept_history (both keep (version_of op)) h) c.stamp (deleters_where (both keep (version_of op)) h c))
    (none_there (seq_where (both keep (version_of op)) h) 0 (pieces_of op) c (others c.stamp c (seq_where (both keep (version_of op)) h) refl (no_stamp c.stamp (both keep (version_of op)) h e)))
