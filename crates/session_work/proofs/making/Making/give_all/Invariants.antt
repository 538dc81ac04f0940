use Rattle.session_maker.specs.Made.{gives_to}
use Rattle.session_work.proofs.Rounds.{Going}
use Rattle.session_work.proofs.making.Making.give_all.Given as goal

abbrev pub invariant-loop-id : goal.invariant-loop-id
invariant-loop-id l = Going (gives_to l.numbers) l.fn.self l.self l.ids l.id-index
