use Rattle.session_work.proofs.Kept.{grown}
use Rattle.session_work.proofs.Growth.{all_themselves}
use Rattle.session_work.proofs.exchange.Exchange.keep.Goals as goal

pub returns-in_err-operation-clause-grows : goal.returns-in_err-operation-clause-grows
returns-in_err-operation-clause-grows c = all_themselves c.args.self.now.buffers

pub returns-in_err-push-clause-grows : goal.returns-in_err-push-clause-grows
returns-in_err-push-clause-grows c = grown c.args.self.now c.self.inside.replicas c.self.inside.replicas c.self.inside.named.items c.self.view_is (all_themselves c.self.inside.replicas)

pub returns-clause-grows : goal.returns-clause-grows
returns-clause-grows c = grown c.args.self.now c.self.inside.replicas c.self.inside.replicas c.self.inside.named.items c.self.view_is (all_themselves c.self.inside.replicas)
