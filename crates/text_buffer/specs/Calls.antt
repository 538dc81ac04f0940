-- Calls of a buffer, also those that were stopped while they settled.
use Rattle.std.specs.Prelude.{◌≡◌, ◌⊎◌, List, [], ◌∷◌, ◌++◌, length, drop, None}
use Rattle.std.specs.List.{AllByRecursion}
use Rattle.lamport_clock.specs.declared.stamp.Lamport.{Lamport}
use Rattle.op_model.specs.declared.operation.Operation.{Operation}
use Rattle.op_model.specs.Operations.{stamp_of}
use Rattle.op_model.specs.Histories.{operation_at}
use Rattle.op_model.specs.Answers.Answer.{Good}
use Rattle.op_model.specs.Lawful.{Lawful}
use Rattle.op_model.specs.Steps.{Step}
use Rattle.op_model.specs.Steps.Step.{Edits, Undoes, Takes, Settles, Forgets}
use Rattle.text_buffer.specs.Buffer.{BufferState, after_apply, after_calls, answer_to}
use Rattle.text_buffer.specs.Settling.{IsStoppedSettling}

-- a call of b was stopped while it settled, by a failed allocation, and n is left; an operation that was taken is applied by then. Other
-- calls do not settle
abbrev pub IsStopped : Step → BufferState → BufferState → Type 0
IsStopped (Edits ps) b n = ⊥
IsStopped (Undoes ts) b n = ⊥
IsStopped (Takes op) b n = (answer_to b op ≡ Good) × IsStoppedSettling (after_apply b op) n
IsStopped Settles b n = IsStoppedSettling b n
IsStopped (Forgets t) b n = ⊥

-- a call of b was stopped, and so were calls of `settle` after it, by way of the buffers between, the last one first; n is left
abbrev pub StopsLead : Step → BufferState → List BufferState → BufferState → Type 0
StopsLead c b [] n = IsStopped c b n
StopsLead c b (m ∷ between) n = StopsLead c b between m × IsStopped Settles m n

-- a call of b was stopped, and so were calls of `settle` after it, however many; n is left
abbrev pub AreStopped : Step → BufferState → BufferState → Type 0
AreStopped c b n = (between : List BufferState) × StopsLead c b between n

-- the operations that were applied from one buffer to the next
abbrev pub new_operations : BufferState → BufferState → List Operation
new_operations b n = drop (length b.history) n.history

-- from b to n some operations were applied, each good at its turn; none of these waits, and nothing waits that did not wait before
pub record IsPartly (b n : BufferState) : Type 0 where
  pub lawful : Lawful n.history
  pub prefix : n.history ≡ b.history ++ new_operations b n
  pub applied : AllByRecursion (λ (op : Operation). operation_at n.waiting (stamp_of op) ≡ None) (new_operations b n)
  pub waiting : (t : Lamport) → operation_at b.waiting t ≡ None → operation_at n.waiting t ≡ None
  pub replica : n.replica ≡ b.replica
  pub limits : n.limits ≡ b.limits
  pub endings : n.endings ≡ b.endings

-- calls brought b to n: each did what its step says; or it was one call, which was stopped
abbrev pub AreCalled : BufferState → BufferState → Type 0
AreCalled b n = ((cs : List Step) × (n ≡ after_calls cs b)) ⊎ ((c : Step) × IsStopped c b n)

-- calls brought b to n by way of the states between
abbrev pub Leads : BufferState → List BufferState → BufferState → Type 0
Leads b [] n = AreCalled b n
Leads b (m ∷ between) n = AreCalled b m × Leads m between n

-- calls brought b to n, whatever calls, and whichever of them were stopped
abbrev pub Reaches : BufferState → BufferState → Type 0
Reaches b n = (between : List BufferState) × Leads b between n
