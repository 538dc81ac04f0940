use Rattle.sum_tree.proofs.Pairs.{put_one, put_two}
use Rattle.sum_tree.proofs.here.put_pair.Goals as goal

pub returns-in-None-clause-ok : goal.returns-in-None-clause-ok
returns-in-None-clause-ok g c = rw c.in-None.is (put_one c.args.list.now.items c.args.k c.args.front c.requires)

pub returns-in_ok-insert-in-Some-clause-ok : goal.returns-in_ok-insert-in-Some-clause-ok
returns-in_ok-insert-in-Some-clause-ok g c =
    rw (c.in-Some.is, c.in_ok-insert-in-Some.ensures.items) (put_two c.args.list.now.items c.args.k c.args.front c.in-Some.back c.requires)
