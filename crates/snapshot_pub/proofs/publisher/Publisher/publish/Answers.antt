use Rattle.snapshot_pub.specs.Fields.{side_pair, side_list}
use Rattle.snapshot_pub.proofs.Places.{put_same, put_matches}
use Rattle.snapshot_pub.proofs.publisher.Publisher.publish.Goals as goal

pub returns-clause-pairs : goal.returns-clause-pairs
returns-clause-pairs g c =
    rw (← c.self.view_is) (put_same side_pair c.self.inside.sides.items c.args.i c.index_mut.result.now c.publish.new.self c.index_mut.ensures.value c.publish.ensures.own)

pub returns-clause-published : goal.returns-clause-published
returns-clause-published g c =
    rw (← c.self.view_is) (put_matches side_list c.self.inside.sides.items c.args.i c.index_mut.result.now c.publish.new.self c.args.snapshot.now c.publish.result c.index_mut.ensures.value c.publish.ensures.shown)
