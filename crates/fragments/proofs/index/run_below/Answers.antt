use Rattle.std.proofs.Common.{◌∙◌, sym}
use Rattle.fragments.proofs.Runs.{found_same, found_other, found_none}
use Rattle.fragments.proofs.index.run_below.Goals as goal

pub returns-in_default : goal.returns-in_default
returns-in_default c = found_none c.args.edit c.args.below c.args.runs.now.items c.requires.some c.requires.numbered.ascending c.in_default.ensures

pub returns-then-is_same : goal.returns-then-is_same
returns-then-is_same c = found_same c.args.edit c.args.below c.args.runs.now.items c.in-Some.run'.now c.requires.some c.requires.numbered.ascending c.in-Some.ensures (sym c.is_same.ensures ∙ c.if-is_same.true)

pub returns : goal.returns
returns c = found_other c.args.edit c.args.below c.args.runs.now.items c.in-Some.run'.now c.requires.some c.requires.numbered.ascending c.in-Some.ensures (sym c.is_same.ensures ∙ c.if-is_same.false)
