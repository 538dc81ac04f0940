-- Edits since a version.
use Rattle.std.specs.Prelude.{ℕ, suc, ◌+◌, Bool, true, false, ◌&&◌, if◌then◌else◌, List, [], ◌∷◌, ◌++◌, map, drop, slice_range, Option, option_map}
use Rattle.lamport_clock.specs.Versions.{Entries, sees}
use Rattle.op_model.specs.Histories.{History, seen_history}
use Rattle.op_model.specs.Cells.{Cell, seq, cells}
use Rattle.op_model.specs.Shown.{shows, text}
use Rattle.op_model.specs.Choice.{first_of}
use Rattle.op_model.specs.Answers.{open_replica}
use Rattle.op_model.specs.Lawful.{unseen_replica}
use Rattle.op_model.specs.declared.anchor.TextEdit.{TextEdit}
use Rattle.op_model.specs.declared.faults.SinceFault.{SinceFault}
use Rattle.op_model.specs.declared.faults.SinceFault.TheVariants.{Unseen, OpenVersion}

-- what became of a cell: shown then and now, then alone, now alone, neither
pub data Fate : Type 0 where
  Kept Gone New Never : Fate

abbrev pub fate : Bool → Bool → Fate
fate then_shown now_shown = if then_shown then (if now_shown then Kept else Gone)
    else (if now_shown then New else Never)

-- c is a cell of what v sees, and shown there
abbrev pub is_shown_at : History → Entries → Cell → Bool
is_shown_at h v c = sees v c.stamp && shows (seen_history h v) c

abbrev pub fates : History → Entries → List Fate
fates h v = map (λ (c : Cell). fate (is_shown_at h v c) (shows h c)) (cells (seq h))

-- the fates with x before the first run
abbrev pub lengthen : Fate → List (List Fate) → List (List Fate)
lengthen x [] = (x ∷ []) ∷ []
lengthen x (r ∷ rs) = (x ∷ r) ∷ rs

-- the maximal runs without a kept cell: before, between and after the kept ones
abbrev pub runs : List Fate → List (List Fate)
runs [] = [] ∷ []
runs (Kept ∷ s) = [] ∷ runs s
runs (Gone ∷ s) = lengthen Gone (runs s)
runs (New ∷ s) = lengthen New (runs s)
runs (Never ∷ s) = lengthen Never (runs s)

abbrev pub number_gone : List Fate → ℕ
number_gone [] = 0
number_gone (Gone ∷ r) = suc (number_gone r)
number_gone (Kept ∷ r) = number_gone r
number_gone (New ∷ r) = number_gone r
number_gone (Never ∷ r) = number_gone r

abbrev pub number_new : List Fate → ℕ
number_new [] = 0
number_new (New ∷ r) = suc (number_new r)
number_new (Kept ∷ r) = number_new r
number_new (Gone ∷ r) = number_new r
number_new (Never ∷ r) = number_new r

-- a run changes the text where it has a gone or a new cell
abbrev pub changes : List Fate → Bool
changes [] = false
changes (Gone ∷ r) = true
changes (New ∷ r) = true
changes (Kept ∷ r) = changes r
changes (Never ∷ r) = changes r

-- one edit for each run that changes the text; the first begins at old and new, and between two stands one kept cell
abbrev pub edits_of : ℕ → ℕ → List (List Fate) → List TextEdit
edits_of old new [] = []
edits_of old new (r ∷ rs) =
    let old_end = old + number_gone r in
    let new_end = new + number_new r in
    if changes r then record { old = (old, old_end); new = (new, new_end) } ∷ edits_of (suc old_end) (suc new_end) rs
    else edits_of (suc old_end) (suc new_end) rs

-- the edits that take the text that v saw to the text of h; v is closed in h
unfoldable pub since : History → Entries → List TextEdit
since h v = edits_of 0 0 (runs (fates h v))

-- the text that v saw; v is closed in h
abbrev pub text_at : History → Entries → List ℕ
text_at h v = text (seen_history h v)

-- why there is no answer at v: the least replica of which v has more than h, or that at which v is not closed
abbrev pub since_fault : History → Entries → Option SinceFault
since_fault h v = first_of (
    option_map Unseen (unseen_replica h v)
    ∷ option_map OpenVersion (open_replica h v)
    ∷ [])

-- the text then from a place on, with the old range of each edit replaced by its new range of the text now
abbrev pub apply_edits : ℕ → List TextEdit → List ℕ → List ℕ → List ℕ
apply_edits at [] then_text now_text = drop at then_text
apply_edits at (e ∷ es) then_text now_text = slice_range then_text at e.old.0
    ++ (slice_range now_text e.new.0 e.new.1 ++ apply_edits e.old.1 es then_text now_text)
