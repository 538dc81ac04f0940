-- Why bytes are no records, by the faults of a reader that is fed all of them.
use Rattle.std.proofs.Common.{◌≡◌, ℕ, List, [], Err, inl, inr}
use Rattle.op_model.specs.declared.operation.Operation.{Operation}
use Rattle.op_wire.specs.declared.fault.WireFault.{WireFault}
use Rattle.op_wire.specs.Stream.{Fed, FeedCause, HasRead, finished, fresh}
use Rattle.c_values.specs.declared.answer.Answer.{Answer}
use Rattle.c_values.specs.Records.{IsNoRecord, wire_refusal}

-- a feed of all bytes fails
pub feed_refused : (bytes : List ℕ) → (e : WireFault) → (ops : List Operation) → (new : Fed) → (a : Answer) → FeedCause e fresh bytes [] ops new → a ≡ wire_refusal e → IsNoRecord bytes a
feed_refused bytes e ops new a cause is = (e, (ops, new, inl cause), is)

-- the bytes end inside a record
pub finish_refused : (bytes : List ℕ) → (e : WireFault) → (ops : List Operation) → (new : Fed) → (a : Answer) → HasRead fresh bytes [] ops new → finished new ≡ Err e → a ≡ wire_refusal e → IsNoRecord bytes a
finish_refused bytes e ops new a read ends is = (e, (ops, new, inr (read, ends)), is)
