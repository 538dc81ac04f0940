use Rattle.op_model.proofs.texts.WholeWalks.{texts_of as proper_texts}
use Rattle.op_model.proofs.Elements.{each_append}
use Rattle.std.proofs.Common.{◌++◌, ◌∷◌, [], List, length, sym, subst, ◌∙◌, refl}
use Rattle.std.specs.List.{AllByRecursion}
use Rattle.locators.specs.Locator.{least_digits}
use Rattle.op_model.specs.declared.operation.Operation.TheVariants.{Edit}
use Rattle.op_model.specs.Shown.{texts}
use Rattle.op_model.specs.Domains.{IsProper}
use Rattle.op_model.specs.Histories.{History}
use Rattle.op_model.specs.Walked.{IsWhole}
use Rattle.op_model.proofs.histories.MoreLawful.{lawful_more}
use Rattle.op_model.proofs.texts.Utf8Runs.{Utf8}
use Rattle.op_model.proofs.texts.WholeTexts.{byte_of}
use Rattle.op_model.proofs.shown.OnePass.{unseen_self}
use Rattle.undo_map.specs.declared.entry.UndoEntry.{UndoEntry}
use Rattle.undo_map.proofs.Entries.{entries_edit}
use Rattle.fragments.specs.declared.fragment.Fragment.{Fragment}
use Rattle.fragments.specs.Stand.{runs, IsFilled, Tell, Rise, SeesUndos}
use Rattle.fragments.proofs.Cells.{whole_fragments, utf8_more}
use Rattle.remote_edit.specs.Walk.{walk}
use Rattle.remote_edit.specs.Carried.{CarryOn}
use Rattle.remote_edit.specs.BeforeEdit.{before_edit, Brings}
use Rattle.remote_edit.proofs.Rises.{walk_rises}
use Rattle.remote_edit.proofs.Runs.{walk_tells}
use Rattle.remote_edit.proofs.Undos.{walk_undos}
use Rattle.remote_edit.proofs.Standing.{indexed_start, fit_start}
use Rattle.remote_edit.proofs.EditTexts.{told_before, brings, shown_by_counts}
use Rattle.remote_edit.proofs.Texts.{carried_texts, carried_characters}
use Rattle.remote_edit.proofs.WholeFragments.{texts_are, placed_utf8}
use Rattle.remote_edit.proofs.place.place_edit.Goals as goal

pub walk_in-requires-clause-fit : goal.walk_in-requires-clause-fit
walk_in-requires-clause-fit g c = (fit_start c.args.tree.items c.args.index c.args.undos.now (Edit c.args.op.now) c.requires).0

pub walk_in-requires-clause-unseen : goal.walk_in-requires-clause-unseen
walk_in-requires-clause-unseen g c = unseen_self c.requires.history (Edit c.args.op.now) c.requires.lawful c.requires.good

pub walk_in-requires-clause-room : goal.walk_in-requires-clause-room
walk_in-requires-clause-room g c = (fit_start c.args.tree.items c.args.index c.args.undos.now (Edit c.args.op.now) c.requires).1

pub walk_in-requires-clause-indexed : goal.walk_in-requires-clause-indexed
walk_in-requires-clause-indexed g c = indexed_start c.args.tree.items c.args.index c.args.undos.now c.requires.history (Edit c.args.op.now) c.requires.stands c.requires.lawful c.requires.good

pub edit_moves-requires-clause-shown : goal.edit_moves-requires-clause-shown
edit_moves-requires-clause-shown g c =
    let r = c.requires in
    let e = c.args.op.now in
    let u = c.args.undos.now in
    let w = c.in_ok-walk.ensures in
    let tells = walk_tells r.history (Edit e) c.args.tree.items r.lawful r.good refl r.stands.filled r.stands.cells in
    shown_by_counts (r.history ++ Edit e ∷ []) u c.in_ok-walk.walk.tree.items (r.stands.counts ∙ sym (entries_edit r.history (Edit e) refl)) w.fit.0
    (subst (λ (z : List Fragment). Tell z (r.history ++ Edit e ∷ [])) (sym w.walked) (subst (λ (v : List UndoEntry). Tell (walk v e.stamp e.version 0 0 e.pieces [] c.args.tree.items) (r.history ++ Edit e ∷ [])) (sym r.stands.counts) tells))

pub edit_moves-requires-clause-brought : goal.edit_moves-requires-clause-brought
edit_moves-requires-clause-brought g c =
    let r = c.requires in
    let e = c.args.op.now in
    subst (Brings e.stamp 0 (length (texts e.pieces))) (sym c.in_ok-walk.ensures.walked) (brings r.history (Edit e) c.args.undos.now c.args.tree.items c.args.index r.stands r.lawful r.good)

pub returns-clause-fragments : goal.returns-clause-fragments
returns-clause-fragments o c = c.in_ok-walk.ensures.walked

pub returns-clause-stands : goal.returns-clause-stands
returns-clause-stands o c = λ h s l g.
    let e = c.args.op.now in
    let fs = c.args.tree.items in
    let u = c.args.undos.now in
    let w = c.in_ok-walk.ensures in
    let tells = walk_tells h (Edit e) fs l g refl s.filled s.cells in
    record {
      cells = subst (λ (z : List Fragment). Tell z (h ++ Edit e ∷ [])) (sym w.walked) (subst (λ (v : List UndoEntry). Tell (walk v e.stamp e.version 0 0 e.pieces [] fs) (h ++ Edit e ∷ [])) (sym s.counts) tells);
      filled = w.fit.0;
      ids = subst (Rise least_digits) (sym w.walked) (walk_rises u e.stamp e.version 0 0 e.pieces [] fs s.ids);
      ascending = w.indexed.entered.ascending;
      index = w.indexed.entered.entries;
      numbered = w.indexed.numbered;
      deletions = w.indexed.deletions;
      counts = s.counts ∙ sym (entries_edit h (Edit e) refl);
      undos = subst (AllByRecursion (SeesUndos (h ++ Edit e ∷ []))) (sym w.walked) (walk_undos h (Edit e) u fs l g refl s.undos);
    }

pub returns-clause-moves : goal.returns-clause-moves
returns-clause-moves o c = λ h s l g.
    let e = c.args.op.now in
    let fs = c.args.tree.items in
    let u = c.args.undos.now in
    let w = c.in_ok-walk.ensures in
    let gs : List Fragment = walk u e.stamp e.version 0 0 e.pieces [] fs in
    let tells = walk_tells h (Edit e) fs l g refl s.filled s.cells in
    carried_texts h (Edit e) (before_edit u e.stamp gs) gs c.in_ok-moves.moves l g (told_before h (Edit e) u fs c.args.index s l g)
    (subst (λ (v : List UndoEntry). Tell (walk v e.stamp e.version 0 0 e.pieces [] fs) (h ++ Edit e ∷ [])) (sym s.counts) tells)
    (subst (λ (z : List Fragment). CarryOn e.stamp [] [] (before_edit u e.stamp z) 0 c.in_ok-moves.moves z [] (length (texts e.pieces))) w.walked c.in_ok-moves.ensures)

pub returns-clause-characters : goal.returns-clause-characters
returns-clause-characters o c = λ h s l p q g k.
    let e = c.args.op.now in
    let fs = c.args.tree.items in
    let u = c.args.undos.now in
    let i = c.args.index in
    let w = c.in_ok-walk.ensures in
    let gs : List Fragment = walk u e.stamp e.version 0 0 e.pieces [] fs in
    let next : History = h ++ Edit e ∷ [] in
    let tells : Tell gs next = subst (λ (v : List UndoEntry). Tell (walk v e.stamp e.version 0 0 e.pieces [] fs) next) (sym s.counts) (walk_tells h (Edit e) fs l g refl s.filled s.cells) in
    let old : Utf8 (byte_of next) (runs fs) = utf8_more h (Edit e) fs l (proper_texts h p) g s.cells k in
    let new : Utf8 (byte_of next) (runs gs) = placed_utf8 h (Edit e) u fs i s l g q.1 old in
    let proper : AllByRecursion IsProper next = each_append IsProper h (Edit e ∷ []) p (q, tt) in (
      subst (λ (z : List Fragment). AllByRecursion (IsWhole next) (runs z)) (sym w.walked)
          (whole_fragments next (lawful_more h (Edit e) l g) (proper_texts next proper) gs (subst (AllByRecursion IsFilled) w.walked w.fit.0) tells new),
      carried_characters h (Edit e) (before_edit u e.stamp gs) gs c.in_ok-moves.moves l g (told_before h (Edit e) u fs i s l g)
          (subst (λ (z : List Fragment). CarryOn e.stamp [] [] (before_edit u e.stamp z) 0 c.in_ok-moves.moves z [] (length (texts e.pieces))) w.walked c.in_ok-moves.ensures)
          (texts_are (byte_of next) gs new),
    )
