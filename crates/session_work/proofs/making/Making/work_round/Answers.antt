use Rattle.std.proofs.Common.{length}
use Rattle.session_work.proofs.Rounds.{round_worked}
use Rattle.session_work.proofs.making.Making.work_round.Goals as goal

pub returns : goal.returns
returns c = round_worked c.args.self.now c.take_turn.new.self c.give_last.new.self (length c.args.ids.now) c.args.number c.in_ok-take_turn.ensures c.in_ok-give_last.ensures
