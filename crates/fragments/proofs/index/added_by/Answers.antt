use Rattle.std.proofs.Common.{◌∙◌, sym, ap, arith}
use Rattle.fragments.specs.Index.{with_entries, starts_at}
use Rattle.fragments.proofs.Beside.{all_ascending, entry_long, new_one}
use Rattle.fragments.proofs.index.added_by.Goals as goal

pub returns-then-starts_at : goal.returns-then-starts_at
returns-then-starts_at c =
    let w = with_entries c.args.recent.now c.args.entries.now.items in
    let long = entry_long c.args.entry.now w (all_ascending c.args.recent.now c.args.entries.now.items c.requires) in
    let none = ap new_one (ap (starts_at c.args.entry.now.offset) (sym c.entry_for-found.ensures) ∙ sym c.starts_at.ensures ∙ c.if-starts_at.true) in
    omega (arith, long, none)

pub returns-else-starts_at : goal.returns-else-starts_at
returns-else-starts_at c =
    let w = with_entries c.args.recent.now c.args.entries.now.items in
    let long = entry_long c.args.entry.now w (all_ascending c.args.recent.now c.args.entries.now.items c.requires) in
    let one = ap new_one (ap (starts_at c.args.entry.now.offset) (sym c.entry_for-found.ensures) ∙ sym c.starts_at.ensures ∙ c.if-starts_at.false) in
    omega (arith, long, one)
