use Rattle.std.proofs.Common.{◌≡◌, ap, sym, ◌∙◌}
use Rattle.snapshot_pub.proofs.Growing.{reserves_moves}
use Rattle.snapshot_pub.proofs.growth.reserve_next.Goals as goal

pub compare_exchange-requires : goal.compare_exchange-requires
compare_exchange-requires c =
    let word = c.requires in
    let update = c.plain-update.ensures in
    let right = c.no_pen-right.ensures in
    let book : c.again-reached.result.book ≡ c.args.word.now.book = ap (λ s. s.book) c.again-reached.ensures ∙ sym (ap (λ w. w.book) word) in (
      ap (λ w. w.tracked) word,
      book,
      right.0 ∙ book,
      update.0,
      rw (ap (λ w. w.key) word, right.1, update.3) (reserves_moves c.again-reached.result.log c.plain-update.result.ask),
    )
