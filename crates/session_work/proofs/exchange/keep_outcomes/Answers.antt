use Rattle.std.proofs.Common.{◌≡◌, ℕ, ◌+◌, ◌++◌, List, [], length, map, refl, sym, ap, ap₂, subst, arith, ◌∙◌}
use Rattle.std.specs.Result.{result_ok}
use Rattle.std.specs.Vec.Iter.{into_iter_items}
use Rattle.session_more.specs.declared.report.NumberAnswer.{NumberAnswer}
use Rattle.session_more.specs.declared.report.PartAnswer.{PartAnswer}
use Rattle.session_work.specs.Exchange.{AreThere}
use Rattle.session_work.proofs.Parts.{all_kept, one_kept, one_numbered, one_there}
use Rattle.session_work.proofs.exchange.keep_outcomes.Goals as goal

pub loop-outcome-preserved : goal.loop-outcome-preserved
loop-outcome-preserved c =
    let inv = c.loop-outcome.invariant in
    let left = into_iter_items c.loop-outcome.outcome-iterator in
    let rest = into_iter_items c.next.new.self in
    let kept = c.in_ok-kept.kept in
    let ks = c.loop-outcome.named.items in
    let said_as : ℕ → PartAnswer → NumberAnswer = λ n a. record { number = n + 1; answer = a } in
    let count : c.len-in-loop-outcome.result ≡ length ks = omega arith in
    let put = c.in_ok-push.ensures.items in
    record {
      answers = one_numbered kept (said_as c.len-in-loop-outcome.result c.in_ok-kept.answer) c.in-Some.outcome ks c.push.new.self.items c.loop-outcome.answers.items c.push-in-loop-outcome.new.self.items _ rest left (ap₂ said_as count c.in_ok-kept.ensures.answer) put c.in_ok-push-2.ensures.items c.in-Some.ensures.steps.0 inv.answers;
      operations = λ bs. one_kept bs kept c.in-Some.outcome ks c.push.new.self.items rest left _ (c.in_ok-kept.ensures.operation bs) put c.in-Some.ensures.steps.0 (inv.operations bs);
      there = λ bs a. one_there bs kept ks c.push.new.self.items (c.in_ok-kept.ensures.there bs) put (inv.there bs a);
    }

pub returns-in_err-push-clause-there : goal.returns-in_err-push-clause-there
returns-in_err-push-clause-there c = λ bs a. subst (AreThere bs) (sym c.in_err-push.ensures.items) (c.loop-outcome.invariant.there bs a)

pub returns-in_err-push-2-clause-there : goal.returns-in_err-push-2-clause-there
returns-in_err-push-2-clause-there c =
    λ bs a. one_there bs c.in_ok-kept.kept c.loop-outcome.named.items c.push.new.self.items (c.in_ok-kept.ensures.there bs) c.in_ok-push.ensures.items (c.loop-outcome.invariant.there bs a)

pub returns-clause-operations : goal.returns-clause-operations
returns-clause-operations c = λ bs. all_kept bs c.loop-outcome.named.items (into_iter_items c.loop-outcome.outcome-iterator) _ (omega (arith, c.in-None.ensures.steps.0, c.loop-outcome.outcome-iterator.rest.ok.0)) (c.loop-outcome.invariant.operations bs)
