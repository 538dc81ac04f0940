use Rattle.std.proofs.Common.{◌≡◌, ◌+◌, ◌*◌, ◌≤◌, take}
use Rattle.remote_edit.specs.Anew.{anew, changed_at}
use Rattle.remote_edit.specs.Finds.{is_place}
use Rattle.remote_edit.specs.Looks.{seen_count}
use Rattle.remote_edit.proofs.undo.with_undo.Given as goal

abbrev pub invariant-loop-place : goal.invariant-loop-place
invariant-loop-place g l = record {
  done : l.fragments.items ≡ changed_at (anew l.undos l.by l.edits) (is_place (take l.place-index l.places)) l.tree.items;
  seen : seen_count l.by l.fragments.items ≤ seen_count l.by l.tree.items + l.place-index;
  cost : l.steps ≤ l.initial.steps + 97 * l.place-index;
}
