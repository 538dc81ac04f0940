-- Worked rows of the lines.
use Rattle.std.proofs.Common.{◌≡◌, ℕ, List, [], ◌∷◌, refl, Some, None}
use Rattle.lamport_clock.specs.Stamps.{later, same_stamp}
use Rattle.op_model.specs.declared.operation.Operation.TheVariants.{Edit}
use Rattle.op_model.specs.declared.operation.Piece.{Piece}
use Rattle.op_model.specs.Anchors.{left_anchor, place, right_anchor}
use Rattle.op_model.specs.Cells.{same_cell, seq, seq_where, sibling_first}
use Rattle.op_model.specs.Histories.{History, base}
use Rattle.op_model.specs.Shown.{deleters_where, shows, shows_where, text, text_where}
use Rattle.multi_buffer.specs.declared.parts.BufferPieces.{BufferPieces}
use Rattle.session_more.specs.declared.report.ExcerptAnswer.TheVariants as excerpt_as
use Rattle.session_more.specs.declared.report.MoreReport.TheVariants.{Excerpt, Multi}
use Rattle.session_more.specs.declared.report.SplitRefusal.TheVariants as refused_as
use Rattle.session_excerpts.specs.declared.answers.SplitAnswer.TheVariants.{Parts, Refused}
use Rattle.session_excerpts.specs.Answers.{pieces_at}
use Rattle.session_excerpts.specs.Lines.{after_excerpt, after_sync_of, excerpt_report, medit_split, multi_report}
use Rattle.session_excerpts.specs.State.{Multis}

unfoldable open_all : ℕ
unfolding later same_stamp same_cell sibling_first seq_where seq deleters_where shows_where shows text_where text left_anchor right_anchor place
open_all = 0

abbrev change : ℕ → ℕ → List ℕ → Piece
change s e t = record { start = s; end = e; text = t }

-- the names m and n
abbrev m : List ℕ
m = 109 ∷ []

abbrev n : List ℕ
n = 110 ∷ []

-- ---- two replicas over abc, an LF and def

abbrev letters : List ℕ
letters = 97 ∷ 98 ∷ 99 ∷ 10 ∷ 100 ∷ 101 ∷ 102 ∷ []

abbrev start : History
start = base letters ∷ []

abbrev starts : List History
starts = start ∷ start ∷ []

-- ab of the first, and def of the second
abbrev one : Multis
one = after_excerpt m 0 0 2 starts []

abbrev two : Multis
two = after_excerpt m 1 4 7 starts one

made : (excerpt_report m 0 0 2 starts [] ≡ Some (Excerpt m (excerpt_as.Index 0))) × (excerpt_report m 1 4 7 starts one ≡ Some (Excerpt m (excerpt_as.Index 1)))
    × (multi_report m starts two ≡ Some (Multi m (97 ∷ 98 ∷ 10 ∷ 100 ∷ 101 ∷ 102 ∷ [])))
unfolding open_all
made = (refl, refl, refl)

-- X is put at the end of the first, and d is deleted
abbrev parts : List BufferPieces
parts = record { buffer = 0; pieces = change 2 2 (88 ∷ []) ∷ [] } ∷ record { buffer = 1; pieces = change 4 5 [] ∷ [] } ∷ []

split : (medit_split m (change 2 2 (88 ∷ []) ∷ change 3 4 [] ∷ []) starts two ≡ Some (Parts parts)) × (pieces_at 0 parts ≡ Some (change 2 2 (88 ∷ []) ∷ [])) × (pieces_at 1 parts ≡ Some (change 4 5 [] ∷ []))
    × (pieces_at 2 parts ≡ None)
unfolding open_all
split = (refl, refl, refl, refl)

-- both replicas are edited so, and excerpts cannot be joined
abbrev edits : List History
edits =
    (base letters ∷ Edit (record { stamp = record { value = 2; replica = 1 }; version = (0, 1) ∷ []; pieces = change 2 2 (88 ∷ []) ∷ [] }) ∷ [])
    ∷ (base letters ∷ Edit (record { stamp = record { value = 2; replica = 2 }; version = (0, 1) ∷ []; pieces = change 4 5 [] ∷ [] }) ∷ []) ∷ []

abbrev after_edits : Multis
after_edits = after_sync_of m edits (after_sync_of m starts two)

edited : (multi_report m edits (after_sync_of m starts two) ≡ Some (Multi m (97 ∷ 98 ∷ 88 ∷ 10 ∷ 101 ∷ 102 ∷ []))) × (medit_split m (change 2 4 [] ∷ []) edits after_edits ≡ Some (Refused (refused_as.Crosses 0)))
unfolding open_all
edited = (refl, refl)

-- ---- a change at two excerpts of one replica

abbrev beside : Multis
beside = after_excerpt m 0 2 3 ((base (97 ∷ 98 ∷ 99 ∷ []) ∷ []) ∷ []) (after_excerpt m 0 0 2 ((base (97 ∷ 98 ∷ 99 ∷ []) ∷ []) ∷ []) [])

shared : medit_split m (change 2 2 (88 ∷ []) ∷ []) ((base (97 ∷ 98 ∷ 99 ∷ []) ∷ []) ∷ []) beside ≡ Some (Refused (refused_as.Shared 0 1))
unfolding open_all
shared = refl

-- ---- a range that is refused is no excerpt, but its name is there: with an empty text, no place of which is in an excerpt

abbrev none : Multis
none = after_excerpt m 0 2 1 starts []

refused : (excerpt_report m 0 2 1 starts [] ≡ Some (Excerpt m (excerpt_as.Reversed 0))) × (excerpt_report m 0 0 8 starts [] ≡ Some (Excerpt m (excerpt_as.PastEnd 0 7)))
    × (excerpt_report m 0 0 1 ((base (195 ∷ 169 ∷ []) ∷ []) ∷ []) [] ≡ Some (Excerpt m (excerpt_as.InsideChar 0))) × (multi_report m starts none ≡ Some (Multi m []))
    × (medit_split m (change 0 0 [] ∷ []) starts none ≡ Some (Refused (refused_as.Crosses 0))) × (after_excerpt m 0 2 1 starts one ≡ after_sync_of m starts one)
unfolding open_all
refused = (refl, refl, refl, refl, refl, refl)

-- ---- excerpts of another name are others, and there may be none

apart : (excerpt_report n 1 4 7 starts one ≡ Some (Excerpt n (excerpt_as.Index 0))) × (multi_report n starts (after_excerpt n 1 4 7 starts one) ≡ Some (Multi n (100 ∷ 101 ∷ 102 ∷ [])))
    × (multi_report m starts (after_excerpt n 1 4 7 starts one) ≡ Some (Multi m (97 ∷ 98 ∷ []))) × (multi_report n starts one ≡ None) × (medit_split n [] starts one ≡ None) × (after_sync_of n starts one ≡ one)
unfolding open_all
apart = (refl, refl, refl, refl, refl, refl)
