use Rattle.std.proofs.Common.{◌∙◌, arith}
use Rattle.sum_tree.proofs.Pairs.{put_one, put_end}
use Rattle.sum_tree.proofs.here.put_last.Goals as goal

pub returns-in-None : goal.returns-in-None
returns-in-None g c = rw c.in-None.is (put_one c.args.list.now.items c.args.last c.args.front (omega (arith, c.requires.last, c.args.list.now.ok.0)))

pub returns-in-Some : goal.returns-in-Some
returns-in-Some g c = rw c.in-Some.is (c.push_reserved.ensures.items ∙ put_end c.args.list.now.items c.args.last c.args.front c.in-Some.back (c.requires.last ∙ c.args.list.now.ok.0))
