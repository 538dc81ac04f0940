use Rattle.std.proofs.Common.{ℕ, subst, sym}
use Rattle.text_buffer.specs.Buffer.{BufferState}
use Rattle.session_work.specs.Exchange.{AreThere}
use Rattle.session_work.specs.Work.{edit_outcome}
use Rattle.session_work.proofs.Kept.{more_operations, more_there, still_there, grown}
use Rattle.session_work.proofs.exchange.Exchange.edit.Goals as goal

pub invariant_of-self : goal.invariant_of-self
invariant_of-self c = still_there c.self.inside.replicas c.edit.new.self c.edit.ensures.grows c.self.inside.named.items c.self.invariant

pub invariant_of-self-in_err-push : goal.invariant_of-self-in_err-push
invariant_of-self-in_err-push c =
    subst (AreThere c.edit.new.self) (sym c.in_err-push.ensures.items) (still_there c.self.inside.replicas c.edit.new.self c.edit.ensures.grows c.self.inside.named.items c.self.invariant)

pub invariant_of-self-2 : goal.invariant_of-self-2
invariant_of-self-2 c =
    more_there c.args.id (λ (n : ℕ) (b : BufferState). edit_outcome n c.args.pieces.now b) c.args.self.now c.self.inside.replicas c.edit.new.self c.self.inside.named.items c.push.new.self.items
    c.next_number-number.result c.applied_len-index.result c.in_ok-made.made c.named_made.result
    c.self.view_is c.next_number-number.ensures c.applied_len-index.ensures c.edit.ensures.grows c.self.invariant c.in_ok-made.ensures.after c.in_ok-made.ensures.made c.named_made.ensures c.in_ok-push.ensures.items

pub returns-clause-operations : goal.returns-clause-operations
returns-clause-operations c =
    more_operations c.args.id (λ (n : ℕ) (b : BufferState). edit_outcome n c.args.pieces.now b) c.args.self.now c.self.inside.replicas c.edit.new.self c.self.inside.named.items c.push.new.self.items
    c.next_number-number.result c.applied_len-index.result c.in_ok-made.made c.named_made.result
    c.self.view_is c.next_number-number.ensures c.applied_len-index.ensures c.edit.ensures.grows c.self.invariant c.in_ok-made.ensures.after c.in_ok-made.ensures.made c.named_made.ensures c.in_ok-push.ensures.items

pub returns-in_err-made-clause-grows : goal.returns-in_err-made-clause-grows
returns-in_err-made-clause-grows c = grown c.args.self.now c.self.inside.replicas c.edit.new.self c.self.inside.named.items c.self.view_is c.edit.ensures.grows

pub returns-in_err-push-clause-grows : goal.returns-in_err-push-clause-grows
returns-in_err-push-clause-grows c = grown c.args.self.now c.self.inside.replicas c.edit.new.self c.self.inside.named.items c.self.view_is c.edit.ensures.grows

pub returns-clause-grows : goal.returns-clause-grows
returns-clause-grows c = grown c.args.self.now c.self.inside.replicas c.edit.new.self c.self.inside.named.items c.self.view_is c.edit.ensures.grows
