use Rattle.std.proofs.Common.{◌≡◌, ap, sym, ◌∙◌}
use Rattle.snapshot_pub.proofs.Growing.{begins, begins_moves}
use Rattle.snapshot_pub.proofs.growth.Growth.open.Goals as goal

pub open-reached-requires : goal.open-reached-requires
open-reached-requires c = (begins, (λ xs. tt), c.alone.ensures.1)

pub compare_exchange-requires : goal.compare_exchange-requires
compare_exchange-requires c =
    let opened = c.open-reached.ensures in
    let word = c.tracked-word.ensures.0 in
    let update = c.plain-update.ensures in
    let right = c.no_pen-right.ensures in
    let book : c.open-reached.result.0.book ≡ c.tracked-word.result.book = sym (ap (λ w. w.book) word ∙ opened.2) in
    let key : c.tracked-word.result.key ≡ 0 = ap (λ w. w.key) word ∙ ap (λ n. n.key) opened.4 in (
      ap (λ w. w.tracked) word,
      book,
      right.0 ∙ book,
      update.0,
      rw (key, right.1, update.3) (begins_moves c.open-reached.result.0.log c.plain-update.result.ask),
    )
