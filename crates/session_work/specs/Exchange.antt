-- The buffers of a session and the operations of its operation lines, and how these are kept.
use Rattle.std.specs.Prelude.{◌≡◌, ℕ, List, [], ◌∷◌, length, slice_get, Bool, true, false, is_some, Option, None, Some, option_and_then, option_map, Result}
use Rattle.std.specs.List.{AllByRecursion}
use Rattle.std.specs.Option.{option_map_or}
use Rattle.lamport_clock.specs.declared.stamp.Lamport.{Lamport}
use Rattle.op_model.specs.Choice.{first_of}
use Rattle.op_model.specs.declared.operation.Operation.{Operation}
use Rattle.text_buffer.specs.Buffer.{BufferState, undo_fault, undo_of}
use Rattle.session_lines.specs.Session.{unless}
use Rattle.session_lines.specs.declared.report.Report.{Report}
use Rattle.session_lines.specs.declared.report.Report.TheVariants as report
use Rattle.session_work.specs.Work.{buffer_of}
use Rattle.session_work.specs.declared.exchange.Named.{Named}
use Rattle.session_work.specs.declared.exchange.Named.TheVariants as named

-- the buffers of a session's replicas, in the header's order, and the operation of each operation line, in their order
pub record ExchangeState : Type 0 where
  pub buffers : List BufferState
  pub operations : List (Option Operation)

-- what comes of an undo of the edits with the stamps ts as operation line n, `unnamed` being the first of its numbers under which
-- no operation stands
abbrev pub undo_outcome_of : ℕ → Option ℕ → List Lamport → BufferState → Result Operation Report
undo_outcome_of n unnamed ts b =
    unless (undo_of b ts)
    (first_of (option_map (report.Unnamed n) unnamed ∷ option_map (report.UndoRefused n) (undo_fault b ts) ∷ []))

-- how many operations replica r has applied, the base among them; none where it is not there
abbrev pub applied_len : ℕ → List BufferState → ℕ
applied_len r bs = option_map_or (λ (b : BufferState). length b.history) (buffer_of r bs) 0

-- the operation that replica r applied as its operation i, the base being operation 0
abbrev pub applied_at : ℕ → ℕ → List BufferState → Option Operation
applied_at r i bs = option_and_then (λ (b : BufferState). slice_get b.history i) (buffer_of r bs)

-- the operation that stands under a number, by how it is kept
abbrev pub operation_in : List BufferState → Named → Option Operation
operation_in bs (named.Made r i) = applied_at r i bs
operation_in bs (named.Read op) = Some op.value
operation_in bs named.Nothing = None

-- whether an operation stands under a number
abbrev pub is_named : Named → Bool
is_named (named.Made r i) = true
is_named (named.Read op) = true
is_named named.Nothing = false

-- an operation that is kept by its place is there
abbrev pub IsThere : List BufferState → Named → Type 0
IsThere bs k = is_some (operation_in bs k) ≡ is_named k

abbrev pub AreThere : List BufferState → List Named → Type 0
AreThere bs ks = AllByRecursion (IsThere bs) ks

-- how an operation is kept that replica r may have made, where it had applied i operations before
abbrev pub named_made : ℕ → ℕ → Option Operation → Named
named_made r i None = named.Nothing
named_made r i (Some op) = named.Made r i
