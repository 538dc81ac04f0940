use Rattle.std.proofs.Common.{sym, ap, ◌∙◌}
use Rattle.anchors.specs.Making.{made_anchor}
use Rattle.anchors.proofs.Orders.{anchors_come_back}
use Rattle.op_model.specs.declared.anchor.Bias.TheVariants.{Left, Right}
use Rattle.op_model.proofs.anchors.Standing.{faultless_within}
use Rattle.anchors.proofs.making.anchor_at.Goals as goal

pub returns-in-Left-clause-anchor : goal.returns-in-Left-clause-anchor
returns-in-Left-clause-anchor c = λ h s.
    ap (made_anchor h c.args.o) c.in-Left.is ∙ c.left_anchor.ensures c.args.index.now s.undos h s.stands s.lawful (faultless_within h c.args.o (sym (c.place_fault.ensures h s.shows) ∙ c.in_default.is))

pub returns-in-Right-clause-anchor : goal.returns-in-Right-clause-anchor
returns-in-Right-clause-anchor c = λ h s.
    ap (made_anchor h c.args.o) c.in-Right.is ∙ c.right_anchor.ensures c.args.index.now s.undos h s.stands s.lawful (faultless_within h c.args.o (sym (c.place_fault.ensures h s.shows) ∙ c.in_default.is))

pub returns-in-Left-clause-place : goal.returns-in-Left-clause-place
returns-in-Left-clause-place c = λ h s p.
    let e = sym (c.place_fault.ensures h s.shows) ∙ c.in_default.is in
    (anchors_come_back h s.lawful p c.args.o Left e).1 c.left_anchor.result
    (c.left_anchor.ensures c.args.index.now s.undos h s.stands s.lawful (faultless_within h c.args.o e))

pub returns-in-Right-clause-place : goal.returns-in-Right-clause-place
returns-in-Right-clause-place c = λ h s p.
    let e = sym (c.place_fault.ensures h s.shows) ∙ c.in_default.is in
    (anchors_come_back h s.lawful p c.args.o Right e).1 c.right_anchor.result
    (c.right_anchor.ensures c.args.index.now s.undos h s.stands s.lawful (faultless_within h c.args.o e))
