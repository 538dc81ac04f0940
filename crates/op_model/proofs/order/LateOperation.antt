-- An operation that comes late: where its stamp is not the greatest, its cells go into the sequence of the others all
-- the same.
use Rattle.std.proofs.Common.{◌≡◌, ◌⊎◌, Bool, List, [], ◌∷◌, refl, inl, inr, true, false}
use Rattle.std.proofs.lemmas.List.{same_from_push}
use Rattle.std.proofs.lemmas.Bool.{cases_Bool, and_left, and_right}
use Rattle.lamport_clock.specs.declared.stamp.Lamport.{Lamport}
use Rattle.op_model.specs.declared.operation.Operation.{Operation}
use Rattle.op_model.specs.Histories.{History, newer, by_stamp}
use Rattle.op_model.specs.Operations.{stamp_of, version_of}
use Rattle.lamport_clock.specs.Versions.{sees}
use Rattle.op_model.specs.Cells.{PathCell, path, before, put_all, op_places, both, seq_where}
use Rattle.op_model.proofs.order.PathOrder.{path_trans, path_total, path_antisym}
use Rattle.op_model.proofs.order.Insertion.{insert_all_comm, insert_past, insert_here}

pub before_trans : (p q r : PathCell) → before p q ≡ true → before q r ≡ true → before p r ≡ true
before_trans p q r h g = path_trans (path p) (path q) (path r) h g

pub before_total : (p q : PathCell) → before p q ≡ false → before q p ≡ true
before_total p q h = path_total (path p) (path q) h

place_path : (p q : PathCell) → p.above ≡ q.above → p.cell ≡ q.cell → p ≡ q
place_path p q e f = λ i. record { above = e i; cell = f i }

pub before_antisym : (p q : PathCell) → before p q ≡ true → before q p ≡ true → p ≡ q
before_antisym p q h g =
    let e = same_from_push p.above q.above p.cell q.cell (path_antisym (path p) (path q) h g) in place_path p q e.0 e.1

pub put_all_comm : (xs ys s : List PathCell) → put_all xs (put_all ys s) ≡ put_all ys (put_all xs s)
put_all_comm xs ys s = insert_all_comm before before_trans before_total before_antisym xs ys s

pub seq_nil : (keep : Lamport → Bool) → seq_where keep [] ≡ []
unfolding seq_where
seq_nil keep = refl

pub seq_kept : (keep : Lamport → Bool) (op : Operation) (h : History) → keep (stamp_of op) ≡ true
    → seq_where keep (op ∷ h) ≡ put_all (op_places (seq_where (both keep (version_of op)) h) op) (seq_where keep h)
unfolding seq_where
seq_kept keep op h e = rw e

pub seq_unkept : (keep : Lamport → Bool) (op : Operation) (h : History) → keep (stamp_of op) ≡ false
    → seq_where keep (op ∷ h) ≡ seq_where keep h
unfolding seq_where
seq_unkept keep op h e = rw e

-- an operation that does not pass changes nothing, wherever it stands
pub unkept_anywhere : (keep : Lamport → Bool) (op : Operation) (h : History) → keep (stamp_of op) ≡ false
    → seq_where keep (by_stamp op h) ≡ seq_where keep h
unkept_anywhere keep op [] e = seq_unkept keep op [] e
unkept_anywhere keep op (o ∷ h) e = elim (cases_Bool (newer o op)) [
  | inl n ↦ rw (insert_past newer op o h n) (under (cases_Bool (keep (stamp_of o)))
      (unkept_anywhere keep op h e)
      (unkept_anywhere (both keep (version_of o)) op h (and_left _ _ e)))
  | inr n ↦ rw (insert_here newer op o h n) (seq_unkept keep op (o ∷ h) e)
]
  where
    under : (keep (stamp_of o) ≡ true) ⊎ (keep (stamp_of o) ≡ false)
        → seq_where keep (by_stamp op h) ≡ seq_where keep h
        → seq_where (both keep (version_of o)) (by_stamp op h) ≡ seq_where (both keep (version_of o)) h
        → seq_where keep (o ∷ by_stamp op h) ≡ seq_where keep (o ∷ h)
    under (inl k) f g = rw (seq_kept keep o (by_stamp op h) k, seq_kept keep o h k, f, g)
    under (inr k) f g = rw (seq_unkept keep o (by_stamp op h) k, seq_unkept keep o h k, f)

-- no operation of h that is newer than op sees it or is seen by it
abbrev pub Apart : Operation → History → Type 0
Apart op [] = Unit {0}
Apart op (o ∷ h) = (newer o op ≡ true → (sees (version_of o) (stamp_of op) ≡ false) × (sees (version_of op) (stamp_of o) ≡ false)) × Apart op h

pub late : (keep : Lamport → Bool) (op : Operation) (h : History) → Apart op h → keep (stamp_of op) ≡ true
    → seq_where keep (by_stamp op h) ≡ put_all (op_places (seq_where (both keep (version_of op)) h) op) (seq_where keep h)
late keep op [] a e = seq_kept keep op [] e
late keep op (o ∷ h) a e = elim (cases_Bool (newer o op)) [
  | inl n ↦ rw (insert_past newer op o h n) (under (cases_Bool (keep (stamp_of o)))
      (late keep op h a.1 e)
      (unkept_anywhere (both keep (version_of o)) op h (and_right _ _ (a.0 n).0))
      (seq_unkept (both keep (version_of op)) o h (and_right _ _ (a.0 n).1)))
  | inr n ↦ rw (insert_here newer op o h n) (seq_kept keep op (o ∷ h) e)
]
  where
    under : (keep (stamp_of o) ≡ true) ⊎ (keep (stamp_of o) ≡ false)
        → seq_where keep (by_stamp op h) ≡ put_all (op_places (seq_where (both keep (version_of op)) h) op) (seq_where keep h)
        → seq_where (both keep (version_of o)) (by_stamp op h) ≡ seq_where (both keep (version_of o)) h
        → seq_where (both keep (version_of op)) (o ∷ h) ≡ seq_where (both keep (version_of op)) h
        → seq_where keep (o ∷ by_stamp op h) ≡ put_all (op_places (seq_where (both keep (version_of op)) (o ∷ h)) op) (seq_where keep (o ∷ h))
    under (inl k) f g u = rw (seq_kept keep o (by_stamp op h) k, seq_kept keep o h k, f, g, u)
        (put_all_comm (op_places (seq_where (both keep (version_of o)) h) o) (op_places (seq_where (both keep (version_of op)) h) op) (seq_where keep h))
    under (inr k) f g u = rw (seq_unkept keep o (by_stamp op h) k, seq_unkept keep o h k, f, u)
