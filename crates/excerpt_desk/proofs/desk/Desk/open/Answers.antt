use Rattle.excerpt_desk.proofs.Following.{open_desk}
use Rattle.excerpt_desk.proofs.desk.Desk.open.Goals as goal

pub invariant_of-self-2 : goal.invariant_of-self-2
invariant_of-self-2 c = open_desk c.self.inside.multi c.self.inside.pages.items c.push.new.self.items c.self.inside.count c.args.buffer c.in_ok-push.ensures.items c.self.invariant
