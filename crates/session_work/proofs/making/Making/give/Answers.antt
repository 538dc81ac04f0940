use Rattle.std.proofs.Common.{List, refl, subst, arith}
use Rattle.session_lines.specs.declared.session.SessionLine.{SessionLine}
use Rattle.session_work.specs.MakingOn.{Works}
use Rattle.session_work.proofs.Rounds.{give_one, gives_are, going_done, going_first, going_on}
use Rattle.session_work.proofs.making.Making.give.Goals as goal

pub loop-number-init : goal.loop-number-init
loop-number-init c = going_first (give_one c.args.replica) c.args.self.now c.args.numbers.now

pub loop-number-preserved : goal.loop-number-preserved
loop-number-preserved c =
    going_on (give_one c.args.replica) c.args.self.now c.loop-number.self c.work.new.self c.args.numbers.now c.loop-number.number-index _ _
    (omega arith) refl c.loop-number.invariant c.in_ok-work.ensures

pub returns : goal.returns
returns c =
    subst (λ (ls : List SessionLine). Works c.args.self.now c.loop-number.self c.args.self.now.draws ls) (gives_are c.args.replica c.args.numbers.now)
    (going_done (give_one c.args.replica) c.args.self.now c.loop-number.self c.args.numbers.now c.loop-number.number-index (omega arith) c.loop-number.invariant)
