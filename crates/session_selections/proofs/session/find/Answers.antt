use Rattle.session_selections.proofs.Finding.{nowhere, there}
use Rattle.session_selections.proofs.session.find.Goals as goal

pub returns-in-Some : goal.returns-in-Some
returns-in-Some c = there c.args.id c.args.replicas.now c.in-Some.index c.index-replicas-index.result c.in-Some.ensures c.index-replicas-index.is

pub returns-in-None : goal.returns-in-None
returns-in-None c = nowhere c.args.id c.args.replicas.now c.in-None.ensures
