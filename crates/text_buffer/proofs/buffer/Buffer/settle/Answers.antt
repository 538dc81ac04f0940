use Rattle.std.proofs.Common.{ap, length, ◌∙◌}
use Rattle.text_buffer.proofs.Settles.{after_one, after_two, no_shorter}
use Rattle.text_buffer.proofs.Stopped.{settled_goes_on}
use Rattle.text_buffer.proofs.buffer.Buffer.settle.Goals as goal

pub returns-then-len-before-clause-new : goal.returns-then-len-before-clause-new
returns-then-len-before-clause-new c = after_one c.self.inside c.self-2.inside c.args.self.now c.pass.new.self c.len-before.result c.len.result c.self.invariant c.self.view_is c.self-2.view_is
    (c.len-before.ensures ∙ ap length c.operations.ensures) (c.len.ensures ∙ ap length c.operations-2.ensures) c.in_ok-pass.ensures.ok c.if-len-before.true

pub overflow_sub-result : goal.overflow_sub-result
overflow_sub-result c = no_shorter c.self.inside c.self-3.inside c.args.self.now c.pass.new.self c.pass-2.new.self c.len-before.result c.len-2.result c.self.invariant c.self.view_is c.self-3.view_is
    (c.len-before.ensures ∙ ap length c.operations.ensures) (c.len-2.ensures ∙ ap length c.operations-3.ensures) c.in_ok-pass.ensures.ok c.in_ok-pass-2.ensures.ok

pub returns-clause-new : goal.returns-clause-new
returns-clause-new c = after_two c.self.inside c.self-2.inside c.args.self.now c.pass.new.self c.len-before.result c.len.result c.self.invariant c.self.view_is c.self-2.view_is
    (c.len-before.ensures ∙ ap length c.operations.ensures) (c.len.ensures ∙ ap length c.operations-2.ensures) c.in_ok-pass.ensures.ok c.pass-2.new.self c.if-len-before.false c.in_ok-pass-2.ensures.ok

pub returns-then-len-before-clause-goes_on : goal.returns-then-len-before-clause-goes_on
returns-then-len-before-clause-goes_on c = settled_goes_on c.args.self.now c.pass.new.self (returns-then-len-before-clause-new c)

pub returns-clause-goes_on : goal.returns-clause-goes_on
returns-clause-goes_on c = settled_goes_on c.args.self.now c.pass-2.new.self (returns-clause-new c)
