use Rattle.std.proofs.Common.{sym, ◌∙◌}
use Rattle.op_model.specs.Cells.{cell_at}
use Rattle.anchors.proofs.Around.{at_end}
use Rattle.anchors.proofs.Known.{begins_is}
use Rattle.anchors.proofs.spot.is_between.Goals as goal

pub returns-in-None : goal.returns-in-None
returns-in-None c = λ fs w h s a. at_end h c.args.stamp c.args.k c.args.run a (sym c.spot_in.ensures.spot ∙ c.in-None.is)

pub returns-in-Some : goal.returns-in-Some
returns-in-Some c = λ fs w h s a.
    c.begins.ensures ∙ begins_is fs w c.args.visible.now c.args.hidden.now h s (cell_at c.args.stamp c.args.k) c.in-Some.spot
    (sym (a.spots c.args.k c.in-Some.spot (sym c.spot_in.ensures.spot ∙ c.in-Some.is)))
