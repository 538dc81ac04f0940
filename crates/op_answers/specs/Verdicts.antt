-- What a verdict means.
use Rattle.std.specs.Prelude.{◌≡◌, ℕ, ◌==◌, ◌||◌, Bool, true, false, List, [], ◌∷◌, ◌++◌, Option, Some, None, option_map}
use Rattle.lamport_clock.specs.Versions.{Entries, entry, within}
use Rattle.lamport_clock.specs.Stamps.{same_stamp}
use Rattle.op_model.specs.declared.operation.Operation.{Operation}
use Rattle.op_model.specs.declared.faults.OpFault.{OpFault}
use Rattle.op_model.specs.declared.faults.OpFault.TheVariants.{Conflict, OpenVersion}
use Rattle.op_model.specs.Choice.{first_of, when}
use Rattle.op_model.specs.Operations.{stamp_of, version_of, pieces_of, counts_of}
use Rattle.op_model.specs.Histories.{History, In, seen_history}
use Rattle.op_model.specs.Shown.{full}
use Rattle.op_model.specs.Answers.{Answer, same_op, any_equal, any_stamp, fork_fault, first_missing, open_replica, range_fault, count_fault}
use Rattle.op_model.specs.Answers.Answer.{Good, Repeat, Waits, Refused}
use Rattle.op_answers.specs.declared.verdict.Verdict.{Verdict}
use Rattle.op_answers.specs.declared.verdict.Verdict.TheVariants as verdict

abbrev pub answer_of : Verdict → Answer
answer_of verdict.Good = Good
answer_of verdict.Repeat = Repeat
answer_of (verdict.Waits r v) = Waits r v
answer_of (verdict.Refused f) = Refused f

-- ---- for private clauses

-- what is found is equal
abbrev pub equals : Option Operation → Operation → Bool
equals None op = false
equals (Some o) op = same_op o op

-- what is found has seen no more than the version
abbrev pub causes : Option Operation → Entries → Bool
causes None v = false
causes (Some o) v = within (version_of o) v

-- what is found tells that an entry is closed: it is its stamp, or its version has it too
abbrev pub tells : Option Operation → ℕ × ℕ → Bool
tells None e = false
tells (Some o) e = same_stamp (stamp_of o) (record { value = e.1; replica = e.0 }) || entry (version_of o) e.0 == e.1

-- an operation of h that has seen no more than v
abbrev pub IsCause : History → Entries → Operation → Type 0
IsCause h v o = In h o × (within (version_of o) v ≡ true)

-- the fault of an operation's pieces or counts against what its version sees
abbrev pub part_fault : History → Operation → Option OpFault
part_fault h op =
    let g = seen_history h (version_of op) in
    first_of (range_fault (full g) (pieces_of op) ∷ count_fault g (counts_of op) ∷ [])

-- what stands against op's stamp at h, w waiting: an equal operation, or another of its stamp
abbrev pub stamp_objection : History → List Operation → Operation → Option Answer
stamp_objection h w op = first_of (
    when (any_equal (h ++ w) op) Repeat
    ∷ when (any_stamp (h ++ w) op) (Refused (Conflict (stamp_of op)))
    ∷ [])

-- what stands at h against what op has seen: a fork, a missing cause, or an open version
abbrev pub cause_objection : History → Operation → Option Answer
cause_objection h op = first_of (
    option_map Refused (fork_fault h op)
    ∷ option_map (λ e. Waits e.0 e.1) (first_missing h (version_of op))
    ∷ option_map (λ r. Refused (OpenVersion r)) (open_replica h (version_of op))
    ∷ [])
