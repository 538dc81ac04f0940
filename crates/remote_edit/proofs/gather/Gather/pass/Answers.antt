use Rattle.std.proofs.Common.{◌≡◌, ℕ, ◌∙◌, sym, subst, arith}
use Rattle.std.specs.Option.{option_copied}
use Rattle.remote_edit.specs.Steps.{before, after}
use Rattle.remote_edit.specs.Starts.{IsFew}
use Rattle.remote_edit.proofs.Passing.{adv_zero}
use Rattle.remote_edit.proofs.Intake.{few_more}
use Rattle.remote_edit.proofs.gather.Gather.pass.Goals as goal

pub loop-left-preserved : goal.loop-left-preserved
loop-left-preserved c =
    let e = c.args.edit.now in
    let i = c.loop-left.invariant in
    let p = c.in_ok-left.ensures in
    record {
      order = omega (arith, i.order, p.order);
      from = p.from ∙ i.from;
      place = p.passed.place;
      goes = p.passed.goes ∙ i.goes;
      few = λ a. few_more e.version c.args.tree.now.items c.args.self.now c.loop-left.self c.pass_one.new.self c.args.count c.loop-left.left c.in_ok-left.left (i.few a) (p.few (i.few a).seen);
      fit = p.passed.fit;
      same = p.passed.same ∙ i.same;
      number = p.number ∙ i.number;
      indexed = p.indexed;
    }

pub returns-clause-few : goal.returns-clause-few
returns-clause-few c = λ a. (let z : c.loop-left.left ≡ 0 = omega (arith, c.loop-left-test.false) in subst (λ (k : ℕ). IsFew c.args.edit.now.version c.args.tree.now.items c.args.self.now c.args.count c.loop-left.self k) z (c.loop-left.invariant.few a))

pub returns-clause-gathered : goal.returns-clause-gathered
returns-clause-gathered c =
    let e = c.args.edit.now in
    let i = c.loop-left.invariant in
    let s = c.loop-left.self in
    record {
      place = i.place;
      goes = sym (adv_zero (option_copied c.args.marks) e.stamp e.version (before c.args.tree.now.items s.from s.made.items) (after c.args.tree.now.items s.at s.back) c.loop-left.left (omega (arith, c.loop-left-test.false))) ∙ i.goes;
      fit = i.fit;
      same = i.same;
    }
