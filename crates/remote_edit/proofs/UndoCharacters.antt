-- Whole fragments stay whole through an undo, whose moves take whole characters.
use Rattle.op_model.proofs.texts.WholeWalks.{texts_of as proper_texts}
use Rattle.op_model.proofs.Elements.{each_append}
use Rattle.std.proofs.Common.{◌≡◌, List, [], ◌∷◌, ◌++◌, ℕ, sym, subst}
use Rattle.std.specs.List.{AllByRecursion}
use Rattle.std.specs.Str.{IsUtf8}
use Rattle.lamport_clock.specs.declared.stamp.Lamport.{Lamport}
use Rattle.op_model.specs.declared.operation.Operation.{Operation}
use Rattle.op_model.specs.declared.operation.Operation.TheVariants.{Undo}
use Rattle.op_model.specs.declared.operation.Piece.{Piece}
use Rattle.op_model.specs.declared.operation.UndoOp.{UndoOp}
use Rattle.op_model.specs.Domains.{IsProper}
use Rattle.op_model.specs.Operations.{pieces_of}
use Rattle.op_model.specs.Histories.{History}
use Rattle.op_model.specs.Cells.{Cell}
use Rattle.op_model.proofs.histories.MoreLawful.{lawful_more}
use Rattle.op_model.proofs.texts.Utf8Runs.{Utf8}
use Rattle.op_model.proofs.texts.WholeTexts.{byte_of}
use Rattle.op_model.proofs.texts.WholeRuns.{Texts}
use Rattle.undo_map.specs.declared.entry.UndoEntry.{UndoEntry}
use Rattle.fragments.specs.declared.fragment.Fragment.{Fragment}
use Rattle.fragments.specs.DeletedRuns.{IndexState}
use Rattle.fragments.specs.Stand.{runs, Stand}
use Rattle.fragments.proofs.Cells.{whole_fragments, utf8_more}
use Rattle.remote_edit.specs.declared.moves.Move.{Move}
use Rattle.remote_edit.specs.Carried.{CarryOn, IsText, KeepCharacters}
use Rattle.remote_edit.specs.Anew.{anew, all_anew}
use Rattle.remote_edit.specs.Undoing.{MayMark}
use Rattle.remote_edit.proofs.Carrying.{SameCells}
use Rattle.remote_edit.proofs.Texts.{carried_characters}
use Rattle.remote_edit.proofs.UndoMoves.{same_cells}
use Rattle.remote_edit.proofs.WholeFragments.{texts_are, texts_of_runs}

same_text : (byte : Cell → ℕ) (f g : Fragment) → SameCells f g → IsText byte f → IsText byte g
same_text byte f g e u = rw (e.0, e.1, e.2) u

anew_texts : (byte : Cell → ℕ) (w : List UndoEntry) (by : Lamport) (ts : List Lamport) (fs : List Fragment) → AllByRecursion (IsText byte) fs → AllByRecursion (IsText byte) (all_anew w by ts fs)
anew_texts byte w by ts [] u = tt
anew_texts byte w by ts (f ∷ fs) u = (same_text byte f (anew w by ts f) (same_cells w by ts f) u.0, anew_texts byte w by ts fs u.1)

pub undo_characters : (h : History) (u : UndoOp) (w : List UndoEntry) (ts : List Lamport) (by : Lamport) (fs gs : List Fragment) (i x : IndexState) (ms : List Move)
    → MayMark fs i w by ts h u → AllByRecursion IsProper h → Stand gs x w (h ++ Undo u ∷ []) → gs ≡ all_anew w by ts fs → ((t : Lamport) → CarryOn t [] [] fs 0 ms (all_anew w by ts fs) [] 0)
    → KeepCharacters fs gs ms h (Undo u)
undo_characters h u w ts by fs gs i x ms m p s e c k =
    let next : History = h ++ Undo u ∷ [] in
    let old : Utf8 (byte_of next) (runs fs) = utf8_more h (Undo u) fs m.lawful (proper_texts h p) m.good m.stands.cells k in
    let new : AllByRecursion (IsText (byte_of next)) (all_anew w by ts fs) = anew_texts (byte_of next) w by ts fs (texts_are (byte_of next) fs old) in
    let all : Texts next = each_append (λ (o : Operation). AllByRecursion (λ (q : Piece). IsUtf8 q.text) (pieces_of o)) h (Undo u ∷ []) (proper_texts h p) (tt, tt) in (
      whole_fragments next (lawful_more h (Undo u) m.lawful m.good) all gs s.filled s.cells (texts_of_runs (byte_of next) gs (subst (AllByRecursion (IsText (byte_of next))) (sym e) new)),
      carried_characters h (Undo u) fs (all_anew w by ts fs) ms m.lawful m.good m.stands.cells (c u.stamp) new,
    )
