use Rattle.std.proofs.Common.{length, ap, ◌∙◌, arith, length-append}
use Rattle.std.specs.Prelude.{option_to_list, ◌+◌}
use Rattle.remote_edit.proofs.Intake.{back_few}
use Rattle.remote_edit.proofs.walk.put_back.Goals as goal

pub returns-in_err-put-clause-cost : goal.returns-in_err-put-clause-cost
returns-in_err-put-clause-cost g c =
    let a = c.args in
    back_few a.steps.now c.put.new.steps a.from c.min-to.result a.at (length c.in_ok-all.all.items) (length a.made.items + length (option_to_list a.back)) (omega (arith, c.min-to.ensures))
    (ap length c.in_ok-all.ensures ∙ length-append a.made.items (option_to_list a.back)) c.put.ensures.cost

pub returns-clause-cost : goal.returns-clause-cost
returns-clause-cost g c =
    let a = c.args in
    back_few a.steps.now c.put.new.steps a.from c.min-to.result a.at (length c.in_ok-all.all.items) (length a.made.items + length (option_to_list a.back)) (omega (arith, c.min-to.ensures))
    (ap length c.in_ok-all.ensures ∙ length-append a.made.items (option_to_list a.back)) c.put.ensures.cost
