use Rattle.std.proofs.Common.{ap, sym, ◌∙◌, Some}
use Rattle.anchors.specs.Standing.{standing_of}
use Rattle.anchors.proofs.Known.{least_stands, greatest_stands}
use Rattle.anchors.proofs.standing.standing_of.Goals as goal

pub returns-in-Least : goal.returns-in-Least
returns-in-Least c = λ h s. least_stands h ∙ ap (standing_of h) (sym c.in-Least.is)

pub returns-in-Greatest : goal.returns-in-Greatest
returns-in-Greatest c = λ h s. ap (λ z. Some z) c.end.ensures ∙ greatest_stands c.args.tree.now.items c.args.index.now c.args.visible.now c.args.hidden.now h s ∙ ap (standing_of h) (sym c.in-Greatest.is)
