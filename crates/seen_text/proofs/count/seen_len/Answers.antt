use Rattle.std.proofs.Common.{◌∙◌}
use Rattle.seen_text.proofs.Begins.{seen_len_is}
use Rattle.seen_text.proofs.count.seen_len.Goals as goal

pub returns : goal.returns
returns c = λ h t l o. c.seen_cells.ensures ∙ seen_len_is h c.args.version.now c.args.fragments.now.items t l o
