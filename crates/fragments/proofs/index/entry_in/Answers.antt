use Rattle.std.proofs.Common.{sym, ◌∙◌}
use Rattle.fragments.proofs.Searching.{front_same, front_other, front_none}
use Rattle.fragments.proofs.index.entry_in.Goals as goal

pub returns-in_default : goal.returns-in_default
returns-in_default c = front_none c.args.stamp c.args.offset c.args.entries.now.items c.requires c.in_default.ensures

pub returns-then-is_same : goal.returns-then-is_same
returns-then-is_same c = front_same c.args.stamp c.args.offset c.args.entries.now.items c.in-Some.entry.now c.requires c.in-Some.ensures (sym c.is_same.ensures ∙ c.if-is_same.true)

pub returns : goal.returns
returns c = front_other c.args.stamp c.args.offset c.args.entries.now.items c.in-Some.entry.now c.requires c.in-Some.ensures (sym c.is_same.ensures ∙ c.if-is_same.false)
