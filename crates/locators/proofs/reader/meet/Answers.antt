use Rattle.std.proofs.Common.{◌≡◌, ◌⊎◌, inl, inr, arith}
use Rattle.locators.specs.Locator.{middle}
use Rattle.locators.proofs.Reading.{along-step, along-ends}
use Rattle.locators.proofs.reader.meet.Goals.{then-along-test+else-b-gt0, else-along-test}
use Rattle.locators.proofs.reader.meet.Goals as goal

pub along-preserved : goal.along-preserved
along-preserved c =
    let e : middle c.along.a.run.digit c.along.b.run.digit ≡ c.along.a.run.digit = omega (arith, c.digit_between-digit.ensures, c.if-a-digit.false) in
    along-step c.args.a c.args.b c.along.a c.along.b c.step.new.a c.step.new.b c.along.invariant e c.step.ensures

pub returns : goal.returns
returns c =
    let o : (c.along.a.run.count ≡ 0) ⊎ (c.along.b.run.count ≡ 0) = elim c.along-test.branch [ then-along-test+else-b-gt0 w ↦ inr (omega (arith, w.if-b-gt0.false)) | else-along-test w ↦ inl (omega (arith, w.along-test.false)) ] in
    along-ends c.args.a c.args.b c.along.a c.along.b c.along.invariant o
