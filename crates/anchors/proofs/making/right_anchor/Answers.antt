use Rattle.std.proofs.Common.{sym, ap, ◌∙◌}
use Rattle.std.specs.Option.{option_map}
use Rattle.anchors.specs.Making.{cell_of}
use Rattle.anchors.proofs.Made.{right_some}
use Rattle.anchors.proofs.making.right_anchor.Goals as goal
use Rattle.op_model.proofs.anchors.Standing.{right_end}

pub returns-in-None : goal.returns-in-None
returns-in-None c = λ w u h s l m. right_end h c.args.o l m (sym (ap (option_map cell_of) c.in-None.is) ∙ c.shown_byte.ensures.byte w u h s l)

pub returns-in-Some : goal.returns-in-Some
returns-in-Some c = λ w u h s l m. right_some h c.args.o c.in-Some.byte l (sym (ap (option_map cell_of) c.in-Some.is) ∙ c.shown_byte.ensures.byte w u h s l)
