use Rattle.std.proofs.Common.{◌∙◌, refl, None}
use Rattle.fragments.proofs.Runs.{run_sought}
use Rattle.fragments.proofs.index.run_from.Goals as goal

pub returns : goal.returns
returns c = c.look_up.ensures.item ∙ run_sought c.args.key None c.args.runs.now.items refl
