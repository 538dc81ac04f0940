-- What an undo makes of fragments, if it changes all those that it concerns.
use Rattle.std.proofs.Common.{◌≡◌, ◌∙◌, ℕ, List}
use Rattle.std.specs.List.{AllByRecursion}
use Rattle.lamport_clock.specs.declared.stamp.Lamport.{Lamport}
use Rattle.undo_map.specs.declared.entry.UndoEntry.{UndoEntry}
use Rattle.fragments.specs.declared.fragment.Fragment.{Fragment}
use Rattle.fragments.specs.DeletedRuns.{IndexState}
use Rattle.remote_edit.specs.declared.placed.Placed.{Placed}
use Rattle.remote_edit.specs.Anew.{all_anew}
use Rattle.remote_edit.specs.Finds.{IsFound, HaveConcerned}
use Rattle.remote_edit.specs.Undoing.{StandWithUndo, MoveWithUndo, KeepCharactersWithUndo, IsMarked}
use Rattle.remote_edit.proofs.Anew.{changed_anew}
use Rattle.remote_edit.proofs.Standing.{found_of}
use Rattle.remote_edit.proofs.UndoStands.{undo_stood}
use Rattle.remote_edit.proofs.UndoMoves.{undo_carried, undo_moved}
use Rattle.remote_edit.proofs.UndoCharacters.{undo_characters}

module _ (fs : List Fragment) (w : IndexState) (us : List UndoEntry) (by : Lamport) (ts : List Lamport) (ps : List ℕ) where
  -- among the places are those of all fragments that the undo concerns
  abbrev pub HaveEach : Type 0
  HaveEach = AllByRecursion (λ (t : Lamport). HaveConcerned fs t ps) ts

  pub marked_fragments : HaveEach → (p : Placed) → IsMarked fs w us by ts ps p → p.fragments.items ≡ all_anew us by ts fs
  marked_fragments e p k = k.fragments ∙ changed_anew us by fs ps ts e

  pub marked_stands : (IsFound fs w → HaveEach) → (p : Placed) → IsMarked fs w us by ts ps p → StandWithUndo fs w us by ts p.fragments.items p.index
  marked_stands e p k = λ h u m. undo_stood h u us ts by fs p.fragments.items w p.index m.stamp m.counts m.lawful m.good m.entries m.stands (marked_fragments (e (found_of fs w _ h m.stands m.lawful)) p k) k.index

  pub marked_moves : (IsFound fs w → HaveEach) → (p : Placed) → IsMarked fs w us by ts ps p → MoveWithUndo fs w us by ts p.moves
  marked_moves e p k = λ h u m.
      let found = found_of fs w _ h m.stands m.lawful in
      undo_moved h u us ts by fs w p.moves m.stamp m.counts m.lawful m.good m.entries m.stands (λ t. undo_carried us by ts fs w found p.fragments.items p.moves t (marked_fragments (e found) p k) k.moves)

  pub marked_characters : (IsFound fs w → HaveEach) → (p : Placed) → IsMarked fs w us by ts ps p → KeepCharactersWithUndo fs w us by ts p.fragments.items p.moves
  marked_characters e p k = λ h u m q.
      let found = found_of fs w _ h m.stands m.lawful in
      let same = marked_fragments (e found) p k in
      undo_characters h u us ts by fs p.fragments.items w p.index p.moves m q (marked_stands e p k h u m) same (λ t. undo_carried us by ts fs w found p.fragments.items p.moves t same k.moves)
