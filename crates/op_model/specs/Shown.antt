-- Undo counts, deletions, shown cells, texts.
use Rattle.std.specs.Prelude.{ℕ, suc, ◌<◌, length, ◌%◌, ◌==◌, max, nat_le, nat_lt, Bool, true, false, if◌then◌else◌, not, ◌&&◌, ◌||◌, List, [], ◌∷◌, ◌++◌, map, slice_index}
use Rattle.std.specs.List.{filter}
use Rattle.lamport_clock.specs.declared.stamp.Lamport.{Lamport}
use Rattle.lamport_clock.specs.Stamps.{same_stamp}
use Rattle.op_model.specs.declared.operation.Piece.{Piece}
use Rattle.op_model.specs.declared.operation.UndoCount.{UndoCount}
use Rattle.op_model.specs.declared.operation.Operation.{Operation}
use Rattle.op_model.specs.Operations.{stamp_of, version_of, pieces_of, counts_of}
use Rattle.op_model.specs.Histories.{History, kept_history, seen_history, newest_first}
use Rattle.op_model.specs.Cells.{Cell, same_cell, PathCell, both, seq_where, seq, everything, cells}

-- the greatest count that is given to t
abbrev pub greatest_given : List UndoCount → Lamport → ℕ
greatest_given [] t = 0
greatest_given (c ∷ cs) t = if same_stamp c.edit t then max c.count (greatest_given cs t) else greatest_given cs t

-- the greatest count that an undo of h gives t, 0 if none
abbrev pub count : History → Lamport → ℕ
count [] t = 0
count (op ∷ h) t = max (greatest_given (counts_of op) t) (count h t)

abbrev pub is_undone : History → Lamport → Bool
is_undone h t = count h t % 2 == 1

abbrev pub are_undone : History → List Lamport → Bool
are_undone h [] = true
are_undone h (t ∷ ts) = is_undone h t && are_undone h ts

-- i lies in a piece's range
abbrev pub in_pieces : List Piece → ℕ → Bool
in_pieces [] i = false
in_pieces (p ∷ ps) i = (nat_le p.start i && nat_lt i p.end) || in_pieces ps i

-- c stands in s, which begins at place i, at a range of the pieces
abbrev pub in_ranges : List PathCell → ℕ → List Piece → Cell → Bool
in_ranges [] i ps c = false
in_ranges (p ∷ s) i ps c = (same_cell p.cell c && in_pieces ps i) || in_ranges s (suc i) ps c

-- a cell of edit u with deletions d is visible by the counts of h: u is not undone, and each of d is
abbrev pub visible_by : History → Lamport → List Lamport → Bool
visible_by h u d = not (is_undone h u) && are_undone h d

-- the edits that delete c, of the part of h whose stamps pass, where the stamps of h descend: those at whose ranges it
-- stands in the sequence of the part that the edit's version sees, and that it is shown in
unfoldable pub deleters_where : (Lamport → Bool) → History → Cell → List Lamport
deleters_where keep [] c = []
deleters_where keep (op ∷ h) c =
    if keep (stamp_of op) && in_ranges (seq_where (both keep (version_of op)) h) 0 (pieces_of op) c
    && visible_by (kept_history (both keep (version_of op)) h) c.stamp (deleters_where (both keep (version_of op)) h c)
    then stamp_of op ∷ deleters_where keep h c
    else deleters_where keep h c

-- c is shown in the part of h whose stamps pass, where the stamps of h descend
unfoldable pub shows_where : (Lamport → Bool) → History → Cell → Bool
shows_where keep h c = visible_by (kept_history keep h) c.stamp (deleters_where keep h c)

-- the edits of h that delete c, the greatest stamp first
abbrev pub deleters : History → Cell → List Lamport
deleters h c = deleters_where everything (newest_first h) c

-- c, a cell of h, is shown: its edit is not undone, and each edit that deletes it is
unfoldable pub shows : History → Cell → Bool
shows h c = shows_where everything (newest_first h) c

-- op, of h, deletes c: c stands at a range of op in the sequence of what op's version sees, and is shown there
abbrev pub deletes : History → Operation → Cell → Bool
deletes h op c = in_ranges (seq (seen_history h (version_of op))) 0 (pieces_of op) c
    && shows (seen_history h (version_of op)) c

abbrev pub texts : List Piece → List ℕ
texts [] = []
texts (p ∷ ps) = p.text ++ texts ps

-- the new bytes of edit t
abbrev pub new_bytes : History → Lamport → List ℕ
new_bytes [] t = []
new_bytes (op ∷ h) t = if same_stamp (stamp_of op) t then texts (pieces_of op) else new_bytes h t

-- c is byte k of all new texts of an edit of h
abbrev pub IsCell : History → Cell → Type 0
IsCell h c = c.k < length (new_bytes h c.stamp)

abbrev pub byte : History → Cell → ℕ
byte h c = slice_index (new_bytes h c.stamp) c.k

-- the shown and all bytes of the part of h whose stamps pass, where the stamps of h descend
unfoldable pub text_where : (Lamport → Bool) → History → List ℕ
text_where keep h = map (byte h) (filter (shows_where keep h) (cells (seq_where keep h)))

unfoldable pub full_where : (Lamport → Bool) → History → List ℕ
full_where keep h = map (byte h) (cells (seq_where keep h))

-- the bytes of the shown cells of h in order
unfoldable pub text : History → List ℕ
text h = text_where everything (newest_first h)

-- the bytes of all cells of h in order
unfoldable pub full : History → List ℕ
full h = full_where everything (newest_first h)

-- the bytes of the hidden cells of h in order
abbrev pub hidden_text : History → List ℕ
hidden_text h = map (byte h) (filter (λ (c : Cell). not (shows h c)) (cells (seq h)))
