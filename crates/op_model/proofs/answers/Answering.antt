-- Forks, causes, and the first of several faults.
use Rattle.std.proofs.Common.{ℕ, [], ◌≡◌, ◌∷◌, refl, Option, Some, None, Bool, ltb, true, sym, ◌∙◌, ap}
use Rattle.std.specs.Prelude.{is_none, option_map}
use Rattle.op_model.specs.declared.faults.OpFault.{OpFault}
use Rattle.op_model.specs.Choice.{first_of, when}
use Rattle.op_model.specs.declared.operation.Operation.{Operation}
use Rattle.op_model.specs.declared.faults.OpFault.TheVariants.{Forked}
use Rattle.op_model.specs.Operations.{stamp_of, version_of}
use Rattle.op_model.specs.Histories.{History, version}
use Rattle.op_model.specs.Answers.{fork_fault, first_missing}
use Rattle.lamport_clock.specs.Versions.{entry, Entries, within}
use Rattle.lamport_clock.proofs.Joined.{none_unseen}

pub first_before : (a : Option OpFault) → a ≡ first_of (a ∷ None ∷ [])
first_before None = refl
first_before (Some x) = refl

-- whether the author's operation that is kept is one that op has not seen
pub fork_by : (h : History) (op : Operation) (k n : ℕ) (b : Bool) → k ≡ entry (version h) (stamp_of op).replica → n ≡ entry (version_of op) (stamp_of op).replica → b ≡ ltb n k → when b (Forked k) ≡ fork_fault h op
fork_by h op k n b i j e = rw (e, i, j) refl

-- no cause misses where nothing is found
pub causes_known : (h : History) (v : Entries) → None ≡ first_missing h v → within v (version h) ≡ true
causes_known h v e = sym (none_unseen (version h) v) ∙ ap is_none (sym e)

pub none_later : {A B C D : Type 0} (f : A → D) (g : B → D) (k : C → D) (a : Option A) (b : Option B) (c : Option C) → None ≡ first_of (option_map f a ∷ option_map g b ∷ option_map k c ∷ []) → (b ≡ None) × (c ≡ None)
none_later f g k None None None e = (refl, refl)
none_later f g k None None (Some z) e = (refl, cc)
none_later f g k None (Some y) c e = (cc, cc)
none_later f g k (Some x) b c e = (cc, cc)
