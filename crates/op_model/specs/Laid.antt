-- A sequence of cells with the texts of one edit laid into it.
use Rattle.std.specs.Prelude.{ℕ, zero, suc, ◌+◌, Bool, if◌then◌else◌, List, [], ◌∷◌, ◌++◌, length}
use Rattle.std.specs.List.{filter}
use Rattle.lamport_clock.specs.declared.stamp.Lamport.{Lamport}
use Rattle.lamport_clock.specs.Stamps.{later}
use Rattle.lamport_clock.specs.Versions.{sees}
use Rattle.op_model.specs.declared.operation.Piece.{Piece}
use Rattle.op_model.specs.Operations.{stamp_of, version_of, pieces_of}
use Rattle.op_model.specs.Histories.{History, newest_first}
use Rattle.op_model.specs.Cells.{PathCell, left_path, text_places}

-- ns put past the cells at the front of s whose stamps are later than t
abbrev pub after_run : Lamport → List PathCell → List PathCell → List PathCell
after_run t ns [] = ns
after_run t ns (q ∷ s) = if later q.cell.stamp t then q ∷ after_run t ns s else ns ++ q ∷ s

-- the same from place i of s on
abbrev pub after_run_from : ℕ → Lamport → List PathCell → List PathCell → List PathCell
after_run_from zero t ns s = after_run t ns s
after_run_from (suc i) t ns [] = ns
after_run_from (suc i) t ns (q ∷ s) = q ∷ after_run_from i t ns s

-- the places whose cells pass
abbrev pub only : (Lamport → Bool) → List PathCell → List PathCell
only keep s = filter (λ (p : PathCell). keep p.cell.stamp) s

-- the place just after the n-th that passes
abbrev pub index_after : (Lamport → Bool) → List PathCell → ℕ → ℕ
index_after keep s zero = zero
index_after keep [] (suc n) = zero
index_after keep (q ∷ s) (suc n) = suc (index_after keep s (if keep q.cell.stamp then n else suc n))

-- the pieces laid into s, from the last to the first: each text directly after its left neighbour, found among
-- the cells that pass, past the cells there whose stamps are later
abbrev pub lay : (Lamport → Bool) → Lamport → ℕ → List Piece → List PathCell → List PathCell
lay keep t k [] s = s
lay keep t k (p ∷ ps) s =
    let r : List PathCell = lay keep t (k + length p.text) ps s in
    let i : ℕ = index_after keep r p.start in
    after_run_from i t (text_places (left_path r i) t k p.text) r

-- ns put in at place i
abbrev pub put_direct : ℕ → List PathCell → List PathCell → List PathCell
put_direct zero ns s = ns ++ s
put_direct (suc i) ns [] = ns
put_direct (suc i) ns (q ∷ s) = q ∷ put_direct i ns s

-- the pieces from the last to the first, each text directly after its left neighbour
abbrev pub lay_direct : (Lamport → Bool) → Lamport → ℕ → List Piece → List PathCell → List PathCell
lay_direct keep t k [] s = s
lay_direct keep t k (p ∷ ps) s =
    let r : List PathCell = lay_direct keep t (k + length p.text) ps s in
    let i : ℕ = index_after keep r p.start in
    put_direct i (text_places (left_path r i) t k p.text) r

-- the operations replayed by stamps, each text put directly after its left neighbour, where the stamps of h descend
unfoldable pub replay : History → List PathCell
replay [] = []
replay (o ∷ h) = lay_direct (sees (version_of o)) (stamp_of o) 0 (pieces_of o) (replay h)

-- the operations of h replayed by stamps
abbrev pub replay_by_stamps : History → List PathCell
replay_by_stamps h = replay (newest_first h)
