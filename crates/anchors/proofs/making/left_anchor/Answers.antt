use Rattle.std.proofs.Common.{subst, sym, ap, ◌∙◌}
use Rattle.std.specs.Prelude.{Option, IfSome}
use Rattle.std.specs.Option.{option_map}
use Rattle.anchors.specs.declared.making.Byte.{Byte}
use Rattle.anchors.specs.Making.{cell_of, NextFits}
use Rattle.anchors.proofs.Made.{left_some}
use Rattle.anchors.proofs.making.left_anchor.Goals as goal
use Rattle.op_model.proofs.anchors.Standing.{left_start, left_within}

pub returns-then-o-eq0 : goal.returns-then-o-eq0
returns-then-o-eq0 c = λ w u h s l m. left_start h c.args.o c.if-o-eq0.true

pub returns-in-None : goal.returns-in-None
returns-in-None c = λ w u h s l m. absurd (left_within h c.args.o l c.if-o-eq0.false m (sym (ap (option_map cell_of) c.in-None.is) ∙ c.shown_byte.ensures.byte w u h s l))

pub returns-in-Some : goal.returns-in-Some
returns-in-Some c = λ w u h s l m. left_some h c.args.o c.in-Some.byte c.saturating_add.result c.if-o-eq0.false (sym (ap (option_map cell_of) c.in-Some.is) ∙ c.shown_byte.ensures.byte w u h s l)
    (subst (λ (r : Option Byte). IfSome r NextFits) c.in-Some.is (c.shown_byte.ensures.room w u h s)) c.saturating_add.ensures
