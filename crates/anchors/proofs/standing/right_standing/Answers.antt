use Rattle.std.proofs.Common.{sym, ap, ◌∙◌, Some, arith}
use Rattle.op_model.specs.Cells.{cell_at}
use Rattle.anchors.proofs.Around.{no_run, spot_is, around}
use Rattle.anchors.proofs.Known.{right_none, right_not, right_some}
use Rattle.anchors.proofs.standing.right_standing.Goals as goal

pub returns-in_default : goal.returns-in_default
returns-in_default c = λ h s. right_none h c.args.stamp c.args.k (no_run h c.args.stamp c.args.k c.run_of.result (c.run_of.ensures.run s.undos h s.stands s.lawful) c.in_default.is)

pub returns-in_default-spot_in : goal.returns-in_default-spot_in
returns-in_default-spot_in c = λ h s. right_none h c.args.stamp c.args.k
    (spot_is h c.args.stamp c.args.k c.run_of.result (c.run_of.ensures.run s.undos h s.stands s.lawful) c.in-Some.run' c.in-Some.is ∙ sym c.spot_in.ensures.spot ∙ c.in_default-spot_in.is)

pub returns-then-is_between : goal.returns-then-is_between
returns-then-is_between c = λ h s.
    let t = c.args.stamp in
    let k = c.args.k in
    let d = c.run_of.ensures.run s.undos h s.stands s.lawful in
    let q = sym c.spot_in.ensures.spot ∙ c.in-Some-spot_in.is in
    let a = around h t k c.run_of.result d c.in-Some.run' c.in-Some.is k c.in-Some-spot_in.spot (c.run_of.ensures.whole h s.whole) q (omega arith) (omega arith) in
    ap (λ z. Some z) c.before_cell.ensures ∙ right_some h t k c.in-Some-spot_in.spot (spot_is h t k c.run_of.result d c.in-Some.run' c.in-Some.is ∙ q)
    (sym (c.is_between.ensures c.args.tree.now.items c.args.index.now h s a) ∙ c.if-is_between.true)

pub returns : goal.returns
returns c = λ h s.
    let t = c.args.stamp in
    let k = c.args.k in
    let d = c.run_of.ensures.run s.undos h s.stands s.lawful in
    let q = sym c.spot_in.ensures.spot ∙ c.in-Some-spot_in.is in
    let a = around h t k c.run_of.result d c.in-Some.run' c.in-Some.is k c.in-Some-spot_in.spot (c.run_of.ensures.whole h s.whole) q (omega arith) (omega arith) in
    right_not h t k c.in-Some-spot_in.spot (spot_is h t k c.run_of.result d c.in-Some.run' c.in-Some.is ∙ q)
    (sym (c.is_between.ensures c.args.tree.now.items c.args.index.now h s a) ∙ c.if-is_between.false)
