-- What the version of a history tells: no operation has a stamp that it has not seen, and a version that sees the same is closed.
use Rattle.std.proofs.Common.{◌≡◌, ℕ, Option, Some, inl, inr, true, false, not, ◌&&◌, ltb, eqb, None}
use Rattle.std.specs.Prelude.{IfSome}
use Rattle.std.proofs.lemmas.Bool.{or_cases, eqb-true}
use Rattle.lamport_clock.specs.declared.stamp.Lamport.{Lamport}
use Rattle.lamport_clock.specs.Stamps.{same_stamp}
use Rattle.lamport_clock.specs.Versions.{Entries, entry}
use Rattle.op_model.specs.declared.operation.Operation.{Operation}
use Rattle.op_model.specs.Operations.{stamp_of, version_of}
use Rattle.op_model.specs.Histories.{History}
use Rattle.op_model.specs.Answers.{is_entry_closed}
use Rattle.op_model.specs.Lawful.{Lawful}
use Rattle.op_model.proofs.histories.Causes.{names_closed, lawful_opens}
use Rattle.op_model.proofs.answers.Closing.{entry_shared}
use Rattle.op_answers.specs.Verdicts.{tells, IsCause}

-- what an operation of a lawful history tells is so, where the version has seen all that it has
pub told_closed : (h : History) (v : Entries) (o : Option Operation) → Lawful h → IfSome o (IsCause h v) → (e : ℕ × ℕ) → tells o e ≡ true → (ltb 0 e.1 && not (is_entry_closed h v e)) ≡ false
told_closed h v None l i e t = cc
told_closed h v (Some o) l i e t =
    let m : IsCause h v o = i in
    let s : Lamport = record { value = e.1; replica = e.0 } in
    elim (or_cases (same_stamp (stamp_of o) s) (eqb (entry (version_of o) e.0) e.1) t) [
      | inl a ↦ names_closed h v e o m.0 a m.1
      | inr a ↦ entry_shared h (version_of o) v (lawful_opens h l o m.0) m.1 e (eqb-true (entry (version_of o) e.0) e.1 a)
    ]
