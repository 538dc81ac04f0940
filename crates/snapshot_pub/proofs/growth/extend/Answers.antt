use Rattle.std.proofs.Common.{◌≡◌, ap, sym, ◌∙◌}
use Rattle.snapshot_pub.specs.Logs.{log_next, root_of}
use Rattle.snapshot_pub.proofs.Growing.{adds_moves}
use Rattle.snapshot_pub.proofs.growth.extend.Goals as goal

pub compare_exchange-requires : goal.compare_exchange-requires
compare_exchange-requires c =
    let word = c.requires.word in
    let reached = c.again-reached.ensures in
    let update = c.plain-update.ensures in
    let log = c.again-reached.result.log in
    let book : c.args.more.now.reached.book ≡ c.args.word.now.book = sym (ap (λ w. w.book) word) in
    let key : c.args.right.now.nib.key ≡ log_next log = c.requires.next ∙ ap (λ s. log_next s.log) (sym reached) in
    let root : c.plain-update.result.ask.root ≡ root_of log = ap (λ e. e.root) update.1 ∙ ap (λ s. root_of s.log) (sym reached) in (
      ap (λ w. w.tracked) word,
      ap (λ s. s.book) reached ∙ book,
      c.requires.own.0 ∙ book,
      update.0,
      rw (ap (λ w. w.key) word, update.3) (adds_moves log c.plain-update.result.ask c.args.right.now.nib c.requires.own.1 key root),
    )
