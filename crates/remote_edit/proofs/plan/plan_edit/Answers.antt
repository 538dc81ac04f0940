use Rattle.std.proofs.Common.{arith}
use Rattle.std.proofs.lemmas.Result.{IfOk-weaker}
use Rattle.remote_edit.proofs.plan.plan_edit.Goals as goal

pub plan_piece-requires-clause-one : goal.plan_piece-requires-clause-one
plan_piece-requires-clause-one g c = c.in-Some.ensures.0

pub plan_piece-requires-clause-changes : goal.plan_piece-requires-clause-changes
plan_piece-requires-clause-changes g c = c.in-Some.ensures.1

pub returns-in-Some-clause-change : goal.returns-in-Some-clause-change
returns-in-Some-clause-change g c = λ a o. IfOk-weaker c.plan_piece.result _ _ (λ p f n k. f c.args.steps.now n k) (c.plan_piece.ensures.cost a o)

pub returns-in-None-clause-change : goal.returns-in-None-clause-change
returns-in-None-clause-change g c = λ a o. IfOk-weaker c.plan_pieces.result _ _ (λ p f n k. let x = f n k in let y = c.plan_pieces.ensures.cost a o in omega (arith, x, y)) c.plan_pieces.ensures.change
