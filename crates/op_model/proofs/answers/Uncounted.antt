-- No undo counts an edit that is new.
use Rattle.std.proofs.Common.{[], ◌≡◌, ◌⊎◌, Bool, List, ◌∷◌, inl, inr, true, false, cond, sym, ap, ◌∙◌}
use Rattle.lamport_clock.specs.declared.stamp.Lamport.{Lamport}
use Rattle.op_model.specs.Sorted.{Member, insert_by}
use Rattle.op_model.specs.Facts.{stamp_first}
use Rattle.op_model.specs.declared.operation.Operation.{Operation}
use Rattle.op_model.specs.Histories.{History, has_edit, In}
use Rattle.op_model.specs.declared.operation.UndoCount.{UndoCount}
use Rattle.op_model.specs.Operations.{stamp_of, counts_of}
use Rattle.op_model.specs.Lawful.{Lawful}
use Rattle.op_model.specs.Answers.{answer}
use Rattle.op_model.specs.Answers.Answer.{Good}
use Rattle.op_model.proofs.answers.Good.{checked_of}
use Rattle.op_model.proofs.Elements.{each_member}
use Rattle.op_model.proofs.answers.Counted.{lawful_counted, not_there}

-- a deletion is one of those before, or the new one
pub deletion_of : (t x : Lamport) (d : List Lamport) → Member x (insert_by stamp_first t d) → (x ≡ t) ⊎ Member x d
deletion_of t x [] (inl e) = inl e
deletion_of t x [] (inr m) = absurd m
deletion_of t x (y ∷ d) m = go (stamp_first y t) m (deletion_of t x d)
  where
    go : (b : Bool) → Member x (cond b (y ∷ insert_by stamp_first t d) (t ∷ y ∷ d)) → (Member x (insert_by stamp_first t d) → (x ≡ t) ⊎ Member x d) → (x ≡ t) ⊎ Member x (y ∷ d)
    go true (inl e) f = inr (inl e)
    go true (inr n) f = elim (f n) [ inl e ↦ inl e | inr k ↦ inr (inr k) ]
    go false (inl e) f = inl e
    go false (inr n) f = inr n

-- an edit that is new in h is counted by no undo of h
pub uncounted : (h : History) (op : Operation) → Lawful h → answer h [] op ≡ Good → (o : Operation) → In h o → (c : UndoCount) → Member c (counts_of o) → c.edit ≡ stamp_of op → ⊥
uncounted h op l g o i c m e =
    let k = each_member (λ (c : UndoCount). has_edit h c.edit ≡ true) (counts_of o) c (lawful_counted h l o i) m in
    not_there h (stamp_of op) (checked_of h op g).0.new (ap (has_edit h) (sym e) ∙ k)
