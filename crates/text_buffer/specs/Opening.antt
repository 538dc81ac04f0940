-- Buffers that are opened with a list of operations.
use Rattle.std.specs.Prelude.{◌≡◌, ◌⊎◌, ℕ, List, [], length, if◌then◌else◌, Option, None, Some}
use Rattle.std.specs.List.{AllByRecursion}
use Rattle.lamport_clock.specs.declared.stamp.Lamport.{Lamport}
use Rattle.op_model.specs.declared.endings.Endings.{Endings}
use Rattle.op_model.specs.declared.faults.OpenFault.{OpenFault}
use Rattle.op_model.specs.declared.faults.OpenFault.TheVariants as opening
use Rattle.op_model.specs.declared.limits.Limits.{Limits as LimitsType}
use Rattle.op_model.specs.declared.operation.Operation.{Operation}
use Rattle.op_model.specs.declared.operation.Piece.{Piece}
use Rattle.op_model.specs.Brought.{NoFull, operations_of_calls}
use Rattle.op_model.specs.Histories.{In, SameSet, version}
use Rattle.op_model.specs.Lawful.{Honest}
use Rattle.op_model.specs.Opened.{base_open_fault, fault_at, is_base, open_fault}
use Rattle.op_model.specs.Rules.{KeepsRule, Rules}
use Rattle.op_model.specs.Shown.{text}
use Rattle.op_model.specs.Sorted.{Member}
use Rattle.op_model.specs.Steps.{IsProperStep, NoneForgotten, Step}
use Rattle.text_buffer.specs.Buffer.{BufferState, IsBuffer, after_calls, after_settle, answer_to, edit_fault, edit_of, rules, state, undo_fault, undo_of}
use Rattle.text_buffer.specs.Document.{IsFront}
use Rattle.text_buffer.specs.SnapshotLaws.{AnswerAlike}

abbrev pub rules_of : LimitsType → Endings → Rules
rules_of l e = record { limits = l; endings = e }

-- the buffer of replica r that has applied a list, with nothing waiting or refused
abbrev pub opened_with : ℕ → List Operation → LimitsType → Endings → BufferState
opened_with r ops l e = record {
  history = ops;
  waiting = [];
  refused = [];
  replica = r;
  limits = l;
  endings = e;
}

-- the fault of the first operation of a list
abbrev pub first_fault : Rules → Operation → Option OpenFault
first_fault l op = if is_base op then base_open_fault l op else Some opening.NotBase

-- the fault of the next operation of a list, once those before it are applied
abbrev pub next_fault : BufferState → Operation → Option OpenFault
next_fault b op = fault_at (length b.history) (answer_to b op)

-- a list is not opened: for its first fault, or because an allocation failed after a front of it that opens
abbrev pub IsOpenFault : Rules → List Operation → OpenFault → Type 0
IsOpenFault l ops e = (open_fault l ops ≡ Some e)
    ⊎ ((e ≡ opening.OutOfMemory)
    × ((front : List Operation) × IsFront front ops × (open_fault l front ≡ None)))

-- two buffers act alike: they have the same text and version, they answer alike, and the next edit or undo has the
-- same fault or makes the same operation
pub record ActAlike (b n : BufferState) : Type 0 where
  pub text : text b.history ≡ text n.history
  pub version : version b.history ≡ version n.history
  pub answers : AnswerAlike b.history n.history
  pub edit_faults : (ps : List Piece) → edit_fault b ps ≡ edit_fault n ps
  pub edits : (ps : List Piece) → edit_of b ps ≡ edit_of n ps
  pub undo_faults : (ts : List Lamport) → undo_fault b ts ≡ undo_fault n ts
  pub undos : (ts : List Lamport) → undo_of b ts ≡ undo_of n ts

-- a buffer with nothing waiting or refused, which has applied operations of an honest set, has applied the whole set
-- after a last settling, where calls made or took each other member, none was forgotten and no Full came
abbrev pub OpenedBuffersApplyAll : Type 0
OpenedBuffersApplyAll = (b : BufferState) → IsBuffer b → b.waiting ≡ [] → b.refused ≡ []
    → (cs : List Step) → (ops : List Operation) → AllByRecursion IsProperStep cs
    → NoneForgotten cs → Honest ops → KeepsRule b.endings ops
    → NoFull (rules b) b.replica cs (state b) → ((o : Operation) → In b.history o → In ops o)
    → ((o : Operation) → Member o (operations_of_calls (rules b) b.replica cs (state b)) → In ops o)
    → ((o : Operation) → In ops o
    → In b.history o ⊎ Member o (operations_of_calls (rules b) b.replica cs (state b)))
    → SameSet (after_settle (after_calls cs b)).history ops
