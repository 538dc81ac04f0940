use Rattle.std.proofs.Common.{◌≡◌, ℕ, List, sym, subst}
use Rattle.std.proofs.lemmas.Result.{IfOk-weaker}
use Rattle.remote_edit.specs.declared.placed.Placed.{Placed}
use Rattle.remote_edit.specs.Anew.{all_anew}
use Rattle.remote_edit.specs.Undoing.{StandWithUndo, MoveWithUndo, KeepCharactersWithUndo, IsMarked}
use Rattle.remote_edit.proofs.Marked.{HaveEach, marked_fragments, marked_stands, marked_moves, marked_characters}
use Rattle.remote_edit.proofs.undo.mark_undo.Goals as goal

pub returns-clause-fragments : goal.returns-clause-fragments
returns-clause-fragments c =
    let fs = c.args.tree.now.items in let w = c.args.index.now in let us = c.args.undos.now in let ts = c.args.edits.now in let ps = c.deref.result.now in
    IfOk-weaker c.mark_with.result (λ (p : Placed). IsMarked fs w us c.args.by ts ps p) (λ (p : Placed). p.fragments.items ≡ all_anew us c.args.by ts fs) (marked_fragments fs w us c.args.by ts ps (subst (λ (qs : List ℕ). HaveEach fs w us c.args.by ts qs) (sym c.deref.ensures.value) c.in_ok-places.ensures)) c.mark_with.ensures

pub returns-clause-index : goal.returns-clause-index
returns-clause-index c =
    let fs = c.args.tree.now.items in let w = c.args.index.now in let us = c.args.undos.now in let ts = c.args.edits.now in let ps = c.deref.result.now in
    IfOk-weaker c.mark_with.result (λ (p : Placed). IsMarked fs w us c.args.by ts ps p) (λ (p : Placed). p.index ≡ w) (λ p k. k.index) c.mark_with.ensures

pub returns-clause-stands : goal.returns-clause-stands
returns-clause-stands c =
    let fs = c.args.tree.now.items in let w = c.args.index.now in let us = c.args.undos.now in let ts = c.args.edits.now in let ps = c.deref.result.now in
    IfOk-weaker c.mark_with.result (λ (p : Placed). IsMarked fs w us c.args.by ts ps p) (λ (p : Placed). StandWithUndo fs w us c.args.by ts p.fragments.items p.index) (marked_stands fs w us c.args.by ts ps (λ f. subst (λ (qs : List ℕ). HaveEach fs w us c.args.by ts qs) (sym c.deref.ensures.value) c.in_ok-places.ensures)) c.mark_with.ensures

pub returns-clause-moves : goal.returns-clause-moves
returns-clause-moves c =
    let fs = c.args.tree.now.items in let w = c.args.index.now in let us = c.args.undos.now in let ts = c.args.edits.now in let ps = c.deref.result.now in
    IfOk-weaker c.mark_with.result (λ (p : Placed). IsMarked fs w us c.args.by ts ps p) (λ (p : Placed). MoveWithUndo fs w us c.args.by ts p.moves) (marked_moves fs w us c.args.by ts ps (λ f. subst (λ (qs : List ℕ). HaveEach fs w us c.args.by ts qs) (sym c.deref.ensures.value) c.in_ok-places.ensures)) c.mark_with.ensures

pub returns-clause-characters : goal.returns-clause-characters
returns-clause-characters c =
    let fs = c.args.tree.now.items in let w = c.args.index.now in let us = c.args.undos.now in let ts = c.args.edits.now in let ps = c.deref.result.now in
    IfOk-weaker c.mark_with.result (λ (p : Placed). IsMarked fs w us c.args.by ts ps p) (λ (p : Placed). KeepCharactersWithUndo fs w us c.args.by ts p.fragments.items p.moves) (marked_characters fs w us c.args.by ts ps (λ f. subst (λ (qs : List ℕ). HaveEach fs w us c.args.by ts qs) (sym c.deref.ensures.value) c.in_ok-places.ensures)) c.mark_with.ensures
