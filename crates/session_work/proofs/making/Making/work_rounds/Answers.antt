use Rattle.std.proofs.Common.{length, arith}
use Rattle.session_work.proofs.Rounds.{all_rounds, leaves_lines, round_first, round_more, rounds_done}
use Rattle.session_work.proofs.making.Making.work_rounds.Goals as goal

pub loop-done-init : goal.loop-done-init
loop-done-init c = round_first c.args.self.now (length c.args.ids.now) c.args.edits

pub loop-done-preserved : goal.loop-done-preserved
loop-done-preserved c =
    round_more c.args.self.now (length c.args.ids.now) c.args.edits c.loop-done.self c.work_round.new.self c.loop-done.done (omega arith) c.loop-done.invariant c.in_ok-work_round.ensures

pub returns-clause-lines : goal.returns-clause-lines
returns-clause-lines c =
    leaves_lines c.args.self.now c.loop-done.self (all_rounds c.args.self.now (length c.args.ids.now) c.args.edits)
    (rounds_done c.args.self.now (length c.args.ids.now) c.args.edits c.loop-done.self c.loop-done.done (omega arith) c.loop-done.invariant)

pub returns-clause-state : goal.returns-clause-state
returns-clause-state c = (rounds_done c.args.self.now (length c.args.ids.now) c.args.edits c.loop-done.self c.loop-done.done (omega arith) c.loop-done.invariant).state
