-- What a closed version sees of the sequence is the sequence of what it sees.
use Rattle.std.proofs.Common.{◌≡◌, ℕ, suc, ◌+◌, ◌⊎◌, Bool, List, [], ◌∷◌, ◌++◌, length, refl, sym, ◌∙◌, ap, inl, inr, true, false, ◌&&◌}
use Rattle.std.specs.List.{AllByRecursion}
use Rattle.std.proofs.lemmas.Bool.{cases_Bool, and_right}
use Rattle.lamport_clock.specs.declared.stamp.Lamport.{Lamport}
use Rattle.op_model.specs.declared.operation.Operation.{Operation}
use Rattle.op_model.specs.Histories.{History}
use Rattle.lamport_clock.specs.Versions.{Entries, sees}
use Rattle.op_model.specs.declared.operation.Piece.{Piece}
use Rattle.op_model.specs.Operations.{stamp_of, version_of, pieces_of}
use Rattle.op_model.specs.Laid.{only}
use Rattle.op_model.specs.Cells.{Cell, PathCell, before, op_places, new_places, text_places, left_path, both, everything, seq_where}
use Rattle.op_model.specs.Sorted.{Ascending}
use Rattle.op_model.proofs.order.Insertion.{insert_all_up, filter_all, filter_all_none}
use Rattle.op_model.proofs.order.LateOperation.{before_trans, before_total, seq_nil, seq_kept, seq_unkept}
use Rattle.op_model.proofs.Elements.{each_append}

-- two tests that agree on the stamps of h
abbrev pub Agree : (Lamport → Bool) → (Lamport → Bool) → History → Type 0
Agree f g h = AllByRecursion (λ (o : Operation). f (stamp_of o) ≡ g (stamp_of o)) h

pub agree_both : (f g : Lamport → Bool) (v : Entries) (h : History) → Agree f g h → Agree (both f v) (both g v) h
agree_both f g v [] e = tt
agree_both f g v (o ∷ h) e = (ap (λ b. b && sees v (stamp_of o)) e.0, agree_both f g v h e.1)

pub seq_agree : (f g : Lamport → Bool) (h : History) → Agree f g h → seq_where f h ≡ seq_where g h
seq_agree f g [] e = seq_nil f ∙ sym (seq_nil g)
seq_agree f g (o ∷ h) e = go (cases_Bool (g (stamp_of o))) (seq_agree f g h e.1)
    (seq_agree (both f (version_of o)) (both g (version_of o)) h (agree_both f g (version_of o) h e.1))
  where
    go : (g (stamp_of o) ≡ true) ⊎ (g (stamp_of o) ≡ false) → seq_where f h ≡ seq_where g h
        → seq_where (both f (version_of o)) h ≡ seq_where (both g (version_of o)) h → seq_where f (o ∷ h) ≡ seq_where g (o ∷ h)
    go (inl k) a b = rw (seq_kept f o h (e.0 ∙ k), seq_kept g o h k, a, b)
    go (inr k) a b = rw (seq_unkept f o h (e.0 ∙ k), seq_unkept g o h k, a)

pub seq_up : (keep : Lamport → Bool) (h : History) → Ascending before (seq_where keep h)
seq_up keep [] = rw (seq_nil keep) tt
seq_up keep (o ∷ h) = elim (cases_Bool (keep (stamp_of o))) [
  | inl k ↦ rw (seq_kept keep o h k) (insert_all_up before before_trans before_total
      (op_places (seq_where (both keep (version_of o)) h) o) (seq_where keep h) (seq_up keep h))
  | inr k ↦ rw (seq_unkept keep o h k) (seq_up keep h)
]

-- the new places are of the edit's own stamp
abbrev pub Of : Lamport → PathCell → Type 0
Of t p = p.cell.stamp ≡ t

pub text_of : (above : List Cell) (t : Lamport) (k : ℕ) (bs : List ℕ) → AllByRecursion (Of t) (text_places above t k bs)
text_of above t k [] = tt
text_of above t k (b ∷ bs) = (refl, text_of (above ++ record { stamp = t; k = k } ∷ []) t (suc k) bs)

pub new_of : (s : List PathCell) (t : Lamport) (k : ℕ) (ps : List Piece) → AllByRecursion (Of t) (new_places s t k ps)
new_of s t k [] = tt
new_of s t k (p ∷ ps) = each_append (Of t) (text_places (left_path s p.start) t k p.text) (new_places s t (k + length p.text) ps)
    (text_of (left_path s p.start) t k p.text) (new_of s t (k + length p.text) ps)

pub each_of : (keep : Lamport → Bool) (b : Bool) (t : Lamport) (s : List PathCell) → keep t ≡ b → AllByRecursion (Of t) s → AllByRecursion (λ (p : PathCell). keep p.cell.stamp ≡ b) s
each_of keep b t [] k e = tt
each_of keep b t (p ∷ s) k e = (ap keep e.0 ∙ k, each_of keep b t s k e.1)

-- whatever an operation that passes sees in the rest passes too
abbrev pub Closed : (Lamport → Bool) → History → Type 0
Closed keep [] = Unit {0}
Closed keep (o ∷ h) = (keep (stamp_of o) ≡ true → AllByRecursion (λ (p : Operation). sees (version_of o) (stamp_of p) ≡ true → keep (stamp_of p) ≡ true) h) × Closed keep h

pub closed_agree : (keep : Lamport → Bool) (v : Entries) (h : History)
    → AllByRecursion (λ (p : Operation). sees v (stamp_of p) ≡ true → keep (stamp_of p) ≡ true) h → Agree (both everything v) (both keep v) h
closed_agree keep v [] e = tt
closed_agree keep v (o ∷ h) e = (one (cases_Bool (sees v (stamp_of o))), closed_agree keep v h e.1)
  where
    one : (sees v (stamp_of o) ≡ true) ⊎ (sees v (stamp_of o) ≡ false) → sees v (stamp_of o) ≡ (keep (stamp_of o) && sees v (stamp_of o))
    one (inl s) = let k : keep (stamp_of o) ≡ true = e.0 s in rw (k, s)
    one (inr s) = s ∙ sym (and_right (keep (stamp_of o)) _ s)

pub restrict : (keep : Lamport → Bool) (h : History) → Closed keep h → only keep (seq_where everything h) ≡ seq_where keep h
restrict keep [] c = ap (only keep) (seq_nil everything) ∙ sym (seq_nil keep)
restrict keep (o ∷ h) c = go (cases_Bool (keep (stamp_of o))) (restrict keep h c.1)
  where
    go : (keep (stamp_of o) ≡ true) ⊎ (keep (stamp_of o) ≡ false) → only keep (seq_where everything h) ≡ seq_where keep h
        → only keep (seq_where everything (o ∷ h)) ≡ seq_where keep (o ∷ h)
    go (inl k) ih = rw (
      seq_kept everything o h refl,
      seq_kept keep o h k,
      ← ih,
      ← seq_agree (both everything (version_of o)) (both keep (version_of o)) h (closed_agree keep (version_of o) h (c.0 k)),
    )
        (filter_all before before_trans before_total (λ (p : PathCell). keep p.cell.stamp) (op_places (seq_where (both everything (version_of o)) h) o) (seq_where everything h) (seq_up everything h)
        (each_of keep true (stamp_of o) (op_places (seq_where (both everything (version_of o)) h) o) k (new_of (seq_where (both everything (version_of o)) h) (stamp_of o) 0 (pieces_of o))))
    go (inr k) ih = rw (seq_kept everything o h refl, seq_unkept keep o h k, ← ih)
        (filter_all_none before before_trans before_total (λ (p : PathCell). keep p.cell.stamp) (op_places (seq_where (both everything (version_of o)) h) o) (seq_where everything h)
        (each_of keep false (stamp_of o) (op_places (seq_where (both everything (version_of o)) h) o) k (new_of (seq_where (both everything (version_of o)) h) (stamp_of o) 0 (pieces_of o))))
