use Rattle.std.proofs.Common.{◌∙◌, refl, None}
use Rattle.fragments.proofs.Searching.{sought}
use Rattle.fragments.proofs.index.first_from.Goals as goal

pub returns : goal.returns
returns c = c.look_up.ensures.item ∙ sought c.args.key None c.args.entries.now.items refl
