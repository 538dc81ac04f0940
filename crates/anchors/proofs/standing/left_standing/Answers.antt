use Rattle.std.proofs.Common.{◌-◌, sym, ap, ◌∙◌, Some, arith}
use Rattle.anchors.proofs.Around.{no_run, spot_is, around}
use Rattle.anchors.proofs.Known.{left_zero, left_none, left_not, left_some}
use Rattle.anchors.proofs.standing.left_standing.Goals as goal

pub returns-then-k-eq0 : goal.returns-then-k-eq0
returns-then-k-eq0 c = λ h s. left_zero h c.args.stamp c.args.k c.if-k-eq0.true

pub returns-in_default : goal.returns-in_default
returns-in_default c = λ h s. left_none h c.args.stamp c.args.k c.if-k-eq0.false
    (no_run h c.args.stamp (c.args.k - 1) c.run_of.result (c.run_of.ensures.run s.undos h s.stands s.lawful) c.in_default.is)

pub returns-in_default-spot_in : goal.returns-in_default-spot_in
returns-in_default-spot_in c = λ h s. left_none h c.args.stamp c.args.k c.if-k-eq0.false
    (spot_is h c.args.stamp (c.args.k - 1) c.run_of.result (c.run_of.ensures.run s.undos h s.stands s.lawful) c.in-Some.run' c.in-Some.is ∙ sym c.spot_in.ensures.spot ∙ c.in_default-spot_in.is)

pub returns-then-is_between : goal.returns-then-is_between
returns-then-is_between c = λ h s.
    let t = c.args.stamp in
    let k = c.args.k in
    let d = c.run_of.ensures.run s.undos h s.stands s.lawful in
    let q = sym c.spot_in.ensures.spot ∙ c.in-Some-spot_in.is in
    let a = around h t (k - 1) c.run_of.result d c.in-Some.run' c.in-Some.is k c.in-Some-spot_in.spot (c.run_of.ensures.whole h s.whole) q (omega arith) (omega arith) in
    ap (λ z. Some z) c.behind_cell.ensures ∙ left_some h t k s.lawful c.if-k-eq0.false c.in-Some-spot_in.spot (spot_is h t (k - 1) c.run_of.result d c.in-Some.run' c.in-Some.is ∙ q)
    (sym (c.is_between.ensures c.args.tree.now.items c.args.index.now h s a) ∙ c.if-is_between.true)

pub returns : goal.returns
returns c = λ h s.
    let t = c.args.stamp in
    let k = c.args.k in
    let d = c.run_of.ensures.run s.undos h s.stands s.lawful in
    let q = sym c.spot_in.ensures.spot ∙ c.in-Some-spot_in.is in
    let a = around h t (k - 1) c.run_of.result d c.in-Some.run' c.in-Some.is k c.in-Some-spot_in.spot (c.run_of.ensures.whole h s.whole) q (omega arith) (omega arith) in
    left_not h t k c.if-k-eq0.false c.in-Some-spot_in.spot (spot_is h t (k - 1) c.run_of.result d c.in-Some.run' c.in-Some.is ∙ q)
    (sym (c.is_between.ensures c.args.tree.now.items c.args.index.now h s a) ∙ c.if-is_between.false)
