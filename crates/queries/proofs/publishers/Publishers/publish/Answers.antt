use Rattle.std.proofs.Common.{◌<◌, ℕ, length, set, sym, subst}
use Rattle.snapshot_pub.specs.States.{PublisherState}
use Rattle.snapshot_pub.proofs.Places.{put_same}
use Rattle.queries.specs.States.{PublishersState}
use Rattle.queries.specs.Published.{AreLevel}
use Rattle.queries.proofs.Levels.{next_level, next_lists}
use Rattle.queries.proofs.publishers.Publishers.publish.Goals as goal

pub returns-in_err-published-clause-pairs : goal.returns-in_err-published-clause-pairs
returns-in_err-published-clause-pairs g c =
    rw (← c.self.view_is) (put_same (λ (p : PublisherState). p.pairs) c.self.inside.list.items c.args.index c.index_mut.result.now c.publish_new.new.publisher c.index_mut.ensures.value c.publish_new.ensures.pairs)

pub returns-clause-pairs : goal.returns-clause-pairs
returns-clause-pairs g c =
    rw (← c.self.view_is) (put_same (λ (p : PublisherState). p.pairs) c.self.inside.list.items c.args.index c.index_mut.result.now c.publish_new.new.publisher c.index_mut.ensures.value c.publish_new.ensures.pairs)

pub returns-clause-level : goal.returns-clause-level
returns-clause-level g c =
    let s : PublishersState = record { workers = c.self.inside.workers; list = c.self.inside.list.items; sizes = c.self.inside.sizes.items } in
    let level : AreLevel s = subst AreLevel (sym c.self.view_is) c.requires.level in
    let within = subst (λ (x : PublishersState). c.args.index < length x.list) (sym c.self.view_is) c.requires.index in
    subst (λ (n : ℕ). AreLevel (record { workers = s.workers; list = set s.list c.args.index c.publish_new.new.publisher; sizes = set s.sizes c.args.index n })) (sym c.in_ok-published.ensures.size)
    (next_level s c.args.index c.index_mut.result.now c.publish_new.new.publisher c.args.snapshot.now level within c.index_mut.ensures.value c.publish_new.ensures.pairs c.publish_new.ensures.count c.in_ok-published.ensures.published)

pub returns-clause-published : goal.returns-clause-published
returns-clause-published g c =
    let s : PublishersState = record { workers = c.self.inside.workers; list = c.self.inside.list.items; sizes = c.self.inside.sizes.items } in
    let level : AreLevel s = subst AreLevel (sym c.self.view_is) c.requires.level in
    let within = subst (λ (x : PublishersState). c.args.index < length x.list) (sym c.self.view_is) c.requires.index in
    rw (← c.self.view_is)
    (next_lists s c.args.index c.index_mut.result.now c.publish_new.new.publisher c.args.snapshot.now level within c.index_mut.ensures.value c.publish_new.ensures.pairs c.publish_new.ensures.count c.in_ok-published.ensures.published)
