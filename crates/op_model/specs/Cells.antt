-- Cells, left neighbours, paths, and the order of all cells.
use Rattle.std.specs.Prelude.{ℕ, zero, suc, ◌+◌, ◌==◌, nat_lt, Bool, true, false, if◌then◌else◌, ◌&&◌, ◌||◌, List, [], ◌∷◌, ◌++◌, length, map}
use Rattle.lamport_clock.specs.declared.stamp.Lamport.{Lamport}
use Rattle.lamport_clock.specs.Stamps.{later, same_stamp}
use Rattle.lamport_clock.specs.Versions.{Entries, sees}
use Rattle.op_model.specs.declared.operation.Piece.{Piece}
use Rattle.op_model.specs.declared.operation.Operation.{Operation}
use Rattle.op_model.specs.Sorted.{insert_all}
use Rattle.op_model.specs.Operations.{stamp_of, version_of, pieces_of}
use Rattle.op_model.specs.Histories.{History, newest_first}

-- byte k, from 0, of all new texts of an edit
pub record Cell : Type 0 where
  pub stamp : Lamport
  pub k : ℕ

abbrev pub cell_at : Lamport → ℕ → Cell
cell_at t k = record { stamp = t; k = k }

unfoldable pub same_cell : Cell → Cell → Bool
same_cell a b = same_stamp a.stamp b.stamp && a.k == b.k

-- a stands before its sibling b: the greater stamp, or the same stamp and the smaller k
unfoldable pub sibling_first : Cell → Cell → Bool
sibling_first a b = later a.stamp b.stamp || (same_stamp a.stamp b.stamp && nat_lt a.k b.k)

-- a cell, and above it its left neighbours from the root's child down
pub record PathCell : Type 0 where
  pub above : List Cell
  pub cell : Cell

abbrev pub path : PathCell → List Cell
path p = p.above ++ p.cell ∷ []

-- a path stands before another where it is a prefix of it, or at the first difference its cell comes first
abbrev pub path_before : List Cell → List Cell → Bool
path_before [] q = true
path_before (a ∷ p) [] = false
path_before (a ∷ p) (b ∷ q) = if same_cell a b then path_before p q else sibling_first a b

abbrev pub before : PathCell → PathCell → Bool
before p q = path_before (path p) (path q)

-- places put into a list in this order
abbrev pub put_all : List PathCell → List PathCell → List PathCell
put_all ps s = insert_all before ps s

-- the path of the cell at place i of s, the root where s ends before
abbrev pub path_at : List PathCell → ℕ → List Cell
path_at [] i = []
path_at (p ∷ s) zero = path p
path_at (p ∷ s) (suc i) = path_at s i

-- the path down to the left neighbour of a piece's first cell: the root where start is 0, else the cell at start - 1 of
-- s
abbrev pub left_path : List PathCell → ℕ → List Cell
left_path s zero = []
left_path s (suc i) = path_at s i

-- the cells of a text from k on: each is the left neighbour of the next
abbrev pub text_places : List Cell → Lamport → ℕ → List ℕ → List PathCell
text_places above t k [] = []
text_places above t k (b ∷ bs) =
    let c : Cell = record { stamp = t; k = k } in
    record { above = above; cell = c } ∷ text_places (above ++ c ∷ []) t (suc k) bs

-- the cells of an edit's pieces from k on, s being the sequence that its version sees
abbrev pub new_places : List PathCell → Lamport → ℕ → List Piece → List PathCell
new_places s t k [] = []
new_places s t k (p ∷ ps) =
    text_places (left_path s p.start) t k p.text ++ new_places s t (k + length p.text) ps

abbrev pub op_places : List PathCell → Operation → List PathCell
op_places s op = new_places s (stamp_of op) 0 (pieces_of op)

abbrev pub both : (Lamport → Bool) → Entries → Lamport → Bool
both keep v t = keep t && sees v t

-- the cells in order of the part of h whose stamps pass, where the stamps of h descend: those of each operation,
-- under the sequence of the part that its version sees, and those of the operations before it
unfoldable pub seq_where : (Lamport → Bool) → History → List PathCell
seq_where keep [] = []
seq_where keep (op ∷ h) =
    if keep (stamp_of op)
    then put_all (op_places (seq_where (both keep (version_of op)) h) op) (seq_where keep h)
    else seq_where keep h

abbrev pub everything : Lamport → Bool
everything t = true

-- all cells of h in order
unfoldable pub seq : History → List PathCell
seq h = seq_where everything (newest_first h)

abbrev pub cells : List PathCell → List Cell
cells s = map (λ (p : PathCell). p.cell) s
