use Rattle.std.proofs.Common.{◌≡◌, ℕ, List, length, sym, ap, subst, arith}
use Rattle.std.proofs.lemmas.Result.{IfOk-weaker}
use Rattle.remote_edit.specs.declared.placed.Placed.{Placed}
use Rattle.remote_edit.specs.Anew.{all_anew}
use Rattle.remote_edit.specs.Undoing.{StandWithUndo, MoveWithUndo, KeepCharactersWithUndo, IsMarked}
use Rattle.remote_edit.proofs.Marked.{HaveEach, marked_fragments, marked_stands, marked_moves, marked_characters}
use Rattle.remote_edit.proofs.undo.mark_undo_counted.Goals as goal

pub returns-clause-fragments : goal.returns-clause-fragments
returns-clause-fragments g c =
    let fs = c.args.tree.now.items in let w = c.args.index.now in let us = c.args.undos.now in let ts = c.args.edits.now in let ps = c.deref.result.now in
    λ found. IfOk-weaker c.mark_places.result (λ (p : Placed). IsMarked fs w us c.args.by ts ps p) (λ (p : Placed). p.fragments.items ≡ all_anew us c.args.by ts fs) (marked_fragments fs w us c.args.by ts ps (subst (λ (qs : List ℕ). HaveEach fs w us c.args.by ts qs) (sym c.deref.ensures.value) (c.in_ok-places.ensures.found found))) c.mark_places.ensures.marked

pub returns-clause-index : goal.returns-clause-index
returns-clause-index g c =
    let fs = c.args.tree.now.items in let w = c.args.index.now in let us = c.args.undos.now in let ts = c.args.edits.now in let ps = c.deref.result.now in
    IfOk-weaker c.mark_places.result (λ (p : Placed). IsMarked fs w us c.args.by ts ps p) (λ (p : Placed). p.index ≡ w) (λ p k. k.index) c.mark_places.ensures.marked

pub returns-clause-stands : goal.returns-clause-stands
returns-clause-stands g c =
    let fs = c.args.tree.now.items in let w = c.args.index.now in let us = c.args.undos.now in let ts = c.args.edits.now in let ps = c.deref.result.now in
    IfOk-weaker c.mark_places.result (λ (p : Placed). IsMarked fs w us c.args.by ts ps p) (λ (p : Placed). StandWithUndo fs w us c.args.by ts p.fragments.items p.index) (marked_stands fs w us c.args.by ts ps (λ f. subst (λ (qs : List ℕ). HaveEach fs w us c.args.by ts qs) (sym c.deref.ensures.value) (c.in_ok-places.ensures.found f))) c.mark_places.ensures.marked

pub returns-clause-moves : goal.returns-clause-moves
returns-clause-moves g c =
    let fs = c.args.tree.now.items in let w = c.args.index.now in let us = c.args.undos.now in let ts = c.args.edits.now in let ps = c.deref.result.now in
    IfOk-weaker c.mark_places.result (λ (p : Placed). IsMarked fs w us c.args.by ts ps p) (λ (p : Placed). MoveWithUndo fs w us c.args.by ts p.moves) (marked_moves fs w us c.args.by ts ps (λ f. subst (λ (qs : List ℕ). HaveEach fs w us c.args.by ts qs) (sym c.deref.ensures.value) (c.in_ok-places.ensures.found f))) c.mark_places.ensures.marked

pub returns-clause-characters : goal.returns-clause-characters
returns-clause-characters g c =
    let fs = c.args.tree.now.items in let w = c.args.index.now in let us = c.args.undos.now in let ts = c.args.edits.now in let ps = c.deref.result.now in
    IfOk-weaker c.mark_places.result (λ (p : Placed). IsMarked fs w us c.args.by ts ps p) (λ (p : Placed). KeepCharactersWithUndo fs w us c.args.by ts p.fragments.items p.moves) (marked_characters fs w us c.args.by ts ps (λ f. subst (λ (qs : List ℕ). HaveEach fs w us c.args.by ts qs) (sym c.deref.ensures.value) (c.in_ok-places.ensures.found f))) c.mark_places.ensures.marked

pub returns-clause-cost : goal.returns-clause-cost
returns-clause-cost g c = λ found few.
    let a = c.places_for.ensures.cost found few in
    let n = c.in_ok-places.ensures.few few in
    let e = ap length c.deref.ensures.value in
    let k = c.mark_places.ensures.cost in omega (arith, a, n, e, k)
