-- Where a cell stands among all cells.
use Rattle.std.specs.Prelude.{◌≡◌, ◌++◌, ◌∷◌, ℕ, ◌+◌, ◌-◌, ◌<◌, ◌≤◌, ◌^◌, ◌&&◌, Bool, true, nat_lt, nat_le, length, List, Option, Some, None, if◌then◌else◌}
use Rattle.lamport_clock.specs.declared.stamp.Lamport.{Lamport}
use Rattle.lamport_clock.specs.Stamps.{same_stamp}
use Rattle.op_model.specs.Histories.{History}
use Rattle.op_model.specs.Edits.{is_boundary}
use Rattle.op_model.specs.Cells.{Cell, seq, cells, cell_at}
use Rattle.op_model.specs.Shown.{shows, new_bytes}
use Rattle.op_model.specs.Anchors.{cells_before, shown_count}
use Rattle.op_model.specs.Lawful.{Lawful}
use Rattle.fragments.specs.declared.fragment.Fragment.{Fragment}
use Rattle.fragments.specs.DeletedRuns.{IndexState}
use Rattle.fragments.specs.Laws.{shown_len, cells_len}
use Rattle.fragments.specs.Stand.{Stand, Rise}
use Rattle.locators.specs.Locator.{least_digits}
use Rattle.undo_map.specs.declared.entry.UndoEntry.{UndoEntry}
use Rattle.anchors.specs.declared.spot.Spot.{Spot}
use Rattle.anchors.specs.declared.spot.Run.{Run}

-- whether c is shown, and how many shown cells and how many of all stand before it
abbrev pub spot : History → Cell → Spot
spot h c = record {
  is_shown = shows h c;
  shown = shown_count h (cells_before (cells (seq h)) c);
  cells = length (cells_before (cells (seq h)) c);
}

-- None where h has no such cell
abbrev pub spot_of : History → Cell → Option Spot
spot_of h c = if nat_lt c.k (length (new_bytes h c.stamp)) then Some (spot h c) else None

-- what is counted of a spot is a u64
pub record IsCounted (s : Spot) : Type 0 where
  pub fewer : s.shown ≤ s.cells
  pub room : s.cells + 1 < 2 ^ 64

-- the cells of a fragment, before which v shown cells stand, and n of all
abbrev pub run_behind : Fragment → ℕ → ℕ → Run
run_behind f v n = record {
  stamp = f.stamp;
  offset = f.offset;
  len = f.len;
  is_shown = f.visible;
  shown = v;
  cells = n;
}

-- the spot of cell k of edit t in a run
abbrev pub spot_in : Run → Lamport → ℕ → Option Spot
spot_in r t k =
    if same_stamp r.stamp t && nat_le r.offset k && nat_lt (k - r.offset) r.len
    then Some (record {
      is_shown = r.is_shown;
      shown = r.shown + (if r.is_shown then k - r.offset else 0);
      cells = r.cells + (k - r.offset);
    })
    else None

-- the cells before a run and in it are counted in a u64
pub record RunFits (r : Run) : Type 0 where
  pub shown : r.shown + r.len < 2 ^ 64
  pub cells : r.cells + r.len < 2 ^ 64
  pub fewer : r.shown ≤ r.cells

-- r is what fragments have of the one with id i, where one has it and ids ascend
abbrev pub IsRunAt : List Fragment → List ℕ → Option Run → Type 0
IsRunAt fs i r = (pre post : List Fragment) → (f : Fragment) → fs ≡ pre ++ f ∷ post → Rise least_digits fs → f.id ≡ i
    → r ≡ Some (run_behind f (shown_len pre) (cells_len pre))

-- the spot of cell k of edit t in a run, if there is one
abbrev pub spot_if : Option Run → Lamport → ℕ → Option Spot
spot_if None t k = None
spot_if (Some r) t k = spot_in r t k

-- P holds of each lawful history for which fragments and an index stand
abbrev pub OfEach : List Fragment → IndexState → (History → Type 0) → Type 0
OfEach fs w P = (u : List UndoEntry) → (h : History) → Stand fs w u h → Lawful h → P h

-- r tells where cell k of edit t of h stands, and tells nothing wrong of the edit's other cells
pub record IsRunOf (h : History) (t : Lamport) (k : ℕ) (r : Option Run) : Type 0 where
  pub here : spot_if r t k ≡ spot_of h (cell_at t k)
  pub others : (j : ℕ) → (s : Spot) → spot_if r t j ≡ Some s → Some s ≡ spot_of h (cell_at t j)

-- a run begins and ends where characters of its edit's texts do
abbrev pub IsWholeRun : History → Run → Type 0
IsWholeRun h r = (is_boundary (new_bytes h r.stamp) r.offset ≡ true)
    × (is_boundary (new_bytes h r.stamp) (r.offset + r.len) ≡ true)

-- a run of edit t of h has cell k or the one before it, and begins and ends between characters
pub record IsAround (h : History) (t : Lamport) (k : ℕ) (r : Run) : Type 0 where
  pub stamp : r.stamp ≡ t
  pub low : r.offset ≤ k
  pub high : k ≤ r.offset + r.len
  pub whole : IsWholeRun h r
  pub spots : (j : ℕ) → (s : Spot) → spot_in r t j ≡ Some s → Some s ≡ spot_of h (cell_at t j)

-- a character begins at the spot, or the text that the cell is of ends
abbrev pub begins : List ℕ → List ℕ → Spot → Bool
begins v n s = if s.is_shown then is_boundary v s.shown else is_boundary n (s.cells - s.shown)
