use Rattle.std.proofs.Common.{List, None, ◌≡◌, ◌∙◌, subst}
use Rattle.selections.specs.declared.selection.SelectionOp.{SelectionOp}
use Rattle.selections.specs.Sets.{IsGap, IsPlace, find_of}
use Rattle.selections.proofs.Kept.{gap_find, gap_put, on_err, place_put}
use Rattle.selections.proofs.sets.put.Goals as goal

pub returns-in_err-insert-in-Err-clause-absent : goal.returns-in_err-insert-in-Err-clause-absent
returns-in_err-insert-in-Err-clause-absent c =
    let g = subst (λ (z : List SelectionOp). IsGap c.args.op.stamp.replica z c.in-Err.at) c.as_slice.ensures.value c.in-Err.ensures.gap in
    on_err c.from_residual.result (find_of c.args.op.stamp.replica c.args.kept.now.items ≡ None) (gap_find c.args.op.stamp.replica c.args.kept.now.items c.in-Err.at g)

pub returns-in-Ok-clause-ok : goal.returns-in-Ok-clause-ok
returns-in-Ok-clause-ok c =
    let p = subst (λ (z : List SelectionOp). IsPlace c.args.op.stamp.replica z c.in-Ok.at) c.as_slice.ensures.value c.in-Ok.ensures.place in
    place_put 1 c.args.op c.args.kept.now.items c.in-Ok.at c.requires p

pub returns-in_ok-insert-in-Err-clause-ok : goal.returns-in_ok-insert-in-Err-clause-ok
returns-in_ok-insert-in-Err-clause-ok c =
    let g = subst (λ (z : List SelectionOp). IsGap c.args.op.stamp.replica z c.in-Err.at) c.as_slice.ensures.value c.in-Err.ensures.gap in
    c.in_ok-insert-in-Err.ensures.items ∙ gap_put c.args.op c.args.kept.now.items c.in-Err.at g
