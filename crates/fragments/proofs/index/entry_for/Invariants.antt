use Rattle.std.proofs.Common.{◌≡◌, take}
use Rattle.std.specs.Option.{option_copied}
use Rattle.fragments.specs.Index.{entry_for, with_entries}
use Rattle.fragments.proofs.index.entry_for.Given as goal

abbrev pub invariant-loop-entry : goal.invariant-loop-entry
invariant-loop-entry l = option_copied l.found ≡ entry_for l.stamp l.offset (with_entries (take l.entry-index l.recent) l.entries.items)
