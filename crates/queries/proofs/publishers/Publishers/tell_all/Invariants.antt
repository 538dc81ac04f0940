use Rattle.queries.proofs.Levels.{AreTold}
use Rattle.queries.proofs.publishers.Publishers.tell_all.Given as goal

abbrev pub invariant-loop-publisher : goal.invariant-loop-publisher
invariant-loop-publisher l = AreTold l.self l.worker l.publisher-index l.all.items
