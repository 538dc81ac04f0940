use Rattle.text_buffer.specs.Buffer.{BufferState}
use Rattle.session_work.proofs.Finding.{nowhere, there}
use Rattle.session_work.proofs.replicas.Replicas.find.Goals as goal

pub returns-in-Some : goal.returns-in-Some
returns-in-Some c = there c.args.id (λ (b : BufferState). b) c.args.self.now c.self.inside.list.items c.self.view_is c.in-Some.index c.index.result.now c.in-Some.ensures c.index.ensures

pub returns-in-None : goal.returns-in-None
returns-in-None c = nowhere c.args.id c.args.self.now c.in-None.ensures
