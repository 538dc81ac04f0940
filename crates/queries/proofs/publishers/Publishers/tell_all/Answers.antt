use Rattle.std.proofs.Common.{◌≡◌, ◌+◌, ◌<◌, List, get_or, length, sym, ap, ◌∙◌, subst, arith}
use Rattle.snapshot_pub.specs.States.{PublisherState, ToldState}
use Rattle.queries.specs.States.{PublishersState}
use Rattle.queries.proofs.Levels.{AreTold, told_more}
use Rattle.queries.proofs.publishers.Publishers.tell_all.Goals as goal

pub loop-publisher-preserved : goal.loop-publisher-preserved
loop-publisher-preserved c =
    let s : PublishersState = c.args.self.now in
    let k = c.loop-publisher.publisher-index in
    let p : PublisherState = c.publisher-item.result in
    let told : ToldState = c.in_ok-tell.field-0 in
    let list = c.deref-publisher-items.ensures.value ∙ ap (λ (x : PublishersState). x.list) c.self.view_is in
    let within : k < length s.list = omega (arith, c.loop-publisher-test.true, ap (λ (l : List PublisherState). length l) list) in
    let at : p ≡ get_or s.list k p = c.publisher-item.is ∙ ap (λ (l : List PublisherState). get_or l k p) list in
    subst (AreTold s c.args.worker (k + 1)) (sym c.in_ok-push.ensures.items)
    (told_more s c.args.worker k c.loop-publisher.all.items p told c.requires.level c.requires.worker within at c.in_ok-tell.ensures.pair c.in_ok-tell.ensures.list c.loop-publisher.invariant)
