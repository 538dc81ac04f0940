use Rattle.std.proofs.Common.{refl, arith}
use Rattle.session_maker.specs.Made.{gives_to}
use Rattle.session_work.proofs.Rounds.{going_done, going_first, going_on}
use Rattle.session_work.proofs.making.Making.give_all.Goals as goal

pub loop-id-init : goal.loop-id-init
loop-id-init c = going_first (gives_to c.args.numbers.now) c.args.self.now c.args.ids.now

pub loop-id-preserved : goal.loop-id-preserved
loop-id-preserved c =
    going_on (gives_to c.args.numbers.now) c.args.self.now c.loop-id.self c.give.new.self c.args.ids.now c.loop-id.id-index _ _
    (omega arith) refl c.loop-id.invariant c.in_ok-give.ensures

pub returns : goal.returns
returns c = going_done (gives_to c.args.numbers.now) c.args.self.now c.loop-id.self c.args.ids.now c.loop-id.id-index (omega arith) c.loop-id.invariant
