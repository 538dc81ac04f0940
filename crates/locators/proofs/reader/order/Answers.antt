use Rattle.std.proofs.Common.{◌∙◌}
use Rattle.locators.proofs.Reading.{order_step}
use Rattle.locators.proofs.reader.order.Goals as goal

pub equal-preserved : goal.equal-preserved
equal-preserved c =
    (c.step.ensures.a_ready, c.step.ensures.b_ready, c.equal.invariant.2 ∙ order_step c.equal.a c.equal.b c.step.new.a c.step.new.b c.if-a-b.false c.step.ensures)
