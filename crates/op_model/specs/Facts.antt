-- What is known of each cell, and how one operation changes it: one pass over the cells in order.
use Rattle.std.specs.Prelude.{◌≡◌, ℕ, zero, suc, ◌+◌, ◌-◌, Bool, true, false, not, if◌then◌else◌, List, [], ◌∷◌, ◌++◌, length, map}
use Rattle.std.specs.List.{filter}
use Rattle.lamport_clock.specs.declared.stamp.Lamport.{Lamport}
use Rattle.lamport_clock.specs.Stamps.{later}
use Rattle.lamport_clock.specs.Versions.{Entries, sees}
use Rattle.op_model.specs.declared.operation.Piece.{Piece}
use Rattle.op_model.specs.Sorted.{insert_by}
use Rattle.op_model.specs.Histories.{History}
use Rattle.op_model.specs.Cells.{Cell, seq, cells}
use Rattle.op_model.specs.Shown.{visible_by, deleters, shows}

-- a cell, whether it is shown, and the edits that delete it, the greatest stamp first
pub record Fact : Type 0 where
  pub cell : Cell
  pub visible : Bool
  pub deletions : List Lamport

abbrev pub fact : History → Cell → Fact
fact h c = record { cell = c; visible = shows h c; deletions = deleters h c }

-- all cells of h in order, with what is known of them
abbrev pub cell_facts : History → List Fact
cell_facts h = map (fact h) (cells (seq h))

-- the cell of q stands directly after that of p in the texts of one edit, and the same is known of both
abbrev pub Continues : Fact → Fact → Type 0
Continues p q = q ≡ record {
  cell = record {
    stamp = p.cell.stamp;
    k = suc p.cell.k;
  };
  visible = p.visible;
  deletions = p.deletions;
}

-- n cells of edit t from k on, of which the same is known
abbrev pub alike : Lamport → ℕ → ℕ → Bool → List Lamport → List Fact
alike t k zero v d = []
alike t k
    (suc n) v d = record { cell = record { stamp = t; k = k }; visible = v; deletions = d } ∷ alike t
    (suc k) n v d

-- stamps descend
abbrev pub stamp_first : Lamport → Lamport → Bool
stamp_first s t = not (later t s)

-- t among stamps that descend
abbrev pub with_deletion : Lamport → List Lamport → List Lamport
with_deletion t d = insert_by stamp_first t d

-- a cell of edit u with deletions d was shown in what v sees, w being that part of the history
abbrev pub was_visible : History → Entries → Lamport → List Lamport → Bool
was_visible w v u d = visible_by w u (filter (sees v) d)

-- what an edit t with version v makes of a cell in its ranges: it deletes it where it was shown
abbrev pub new_visible : History → Entries → Lamport → Bool → List Lamport → Bool
new_visible w v u b d = if was_visible w v u d then false else b

abbrev pub new_deletions : Lamport → History → Entries → Lamport → List Lamport → List Lamport
new_deletions t w v u d = if was_visible w v u d then with_deletion t d else d

-- ns put past those at the front whose stamps are later than t
abbrev pub past_later : Lamport → List Fact → List Fact → List Fact
past_later t ns [] = ns
past_later t ns (q ∷ s) = if later q.cell.stamp t then q ∷ past_later t ns s else (ns ++ q ∷ s)

abbrev pub put_at : ℕ → Lamport → List Fact → List Fact → List Fact
put_at zero t ns s = past_later t ns s
put_at (suc i) t ns [] = ns
put_at (suc i) t ns (q ∷ s) = q ∷ put_at i t ns s

-- the place just after the n-th that passes
abbrev pub fact_index_after : (Lamport → Bool) → List Fact → ℕ → ℕ
fact_index_after keep s zero = zero
fact_index_after keep [] (suc n) = zero
fact_index_after keep (q ∷ s) (suc n) = suc (fact_index_after keep s (if keep q.cell.stamp then n else suc n))

-- the pieces laid in from the last to the first; s begins where `at` cells that pass are gone
abbrev pub lay_facts : (Lamport → Bool) → Lamport → ℕ → ℕ → List Piece → List Fact → List Fact
lay_facts keep t at k [] s = s
lay_facts keep t at k (p ∷ ps) s =
    let r : List Fact = lay_facts keep t at (k + length p.text) ps s in
    put_at (fact_index_after keep r (p.start - at)) t (alike t k (length p.text) true []) r

-- what a mark makes of whether a cell is shown, and of its deletions
pub record Marking : Type 0 where
  pub visible : Lamport → Bool → List Lamport → Bool
  pub deletions : Lamport → List Lamport → List Lamport

abbrev pub mark : Marking → Fact → Fact
mark m q = record {
  cell = q.cell;
  visible = m.visible q.cell.stamp q.visible q.deletions;
  deletions = m.deletions q.cell.stamp q.deletions;
}

-- those that pass, counted from i, are marked where their number is hit
abbrev pub marks : Marking → (Lamport → Bool) → (ℕ → Bool) → ℕ → List Fact → List Fact
marks m keep hit i [] = []
marks m keep hit i (q ∷ s) =
    if keep q.cell.stamp then (if hit i then mark m q else q) ∷ marks m keep hit (suc i) s
    else q ∷ marks m keep hit i s

-- the marking of an edit t with version v, w being the part of the history that v sees
abbrev pub edit_marking : Lamport → History → Entries → Marking
edit_marking t w v = record { visible = new_visible w v; deletions = new_deletions t w v }
