use Rattle.std.proofs.Common.{List, sym, ap, subst, ◌∙◌}
use Rattle.selections.specs.declared.selection.SelectionOp.{SelectionOp}
use Rattle.selections.specs.Sets.{IsGap, IsPlace, SelectionState, kept_for}
use Rattle.selections.proofs.Kept.{gap_find, place_find}
use Rattle.selections.proofs.sets.SelectionSets.get.Goals as goal

pub returns-in-Ok : goal.returns-in-Ok
returns-in-Ok c =
    let p = subst (λ (z : List SelectionOp). IsPlace c.args.author z c.in-Ok.at) c.deref.ensures.value c.in-Ok.ensures.place in
    sym (place_find 1 c.args.author c.self.inside.kept.items c.in-Ok.at c.index.result.now c.self.invariant.ascending p c.index.ensures)
    ∙ ap (λ (s : SelectionState). kept_for c.args.author s) c.self.view_is

pub returns-in-Err : goal.returns-in-Err
returns-in-Err c =
    let g = subst (λ (z : List SelectionOp). IsGap c.args.author z c.in-Err.field-0) c.deref.ensures.value c.in-Err.ensures.gap in
    sym (gap_find c.args.author c.self.inside.kept.items c.in-Err.field-0 g)
    ∙ ap (λ (s : SelectionState). kept_for c.args.author s) c.self.view_is
