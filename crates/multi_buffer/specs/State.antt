-- What contracts see of a multibuffer: excerpts of buffers, and what each buffer was when it was synced last.
use Rattle.std.specs.Prelude.{◌≡◌, ℕ, suc, ◌-◌, ◌≤◌, ◌^◌, ◌==◌, Bool, true, if◌then◌else◌, nat_le, nat_lt, List, [], ◌∷◌, ◌++◌, length, map, slice_range, Option, Some, None}
use Rattle.std.specs.List.{AllByRecursion, find}
use Rattle.op_model.specs.Histories.{History}
use Rattle.op_model.specs.Edits.{is_boundary}
use Rattle.op_model.specs.Shown.{text}
use Rattle.op_model.specs.Anchors.{left_anchor, right_anchor, known_place}
use Rattle.text_buffer.specs.Document.{IsBufferHistory}
use Rattle.multi_buffer.specs.declared.excerpt.Excerpt.{Excerpt}
use Rattle.multi_buffer.specs.declared.source.Source.{Source}

-- the excerpts in the order of `push`, and the buffers that were synced, in ascending order
pub record MultiState : Type 0 where
  pub excerpts : List Excerpt
  pub synced : List Source

abbrev pub new_state : MultiState
new_state = record { excerpts = []; synced = [] }

-- ---- buffers

abbrev pub is_of : ℕ → Source → Bool
is_of b s = s.buffer == b

-- what a buffer was when it was synced last, if it was
abbrev pub source_of : ℕ → List Source → Option Source
source_of b ss = find (is_of b) ss

abbrev pub history_in : Option Source → History
history_in None = []
history_in (Some s) = s.snapshot

-- the history of a buffer then, empty if it was never synced
abbrev pub history_of : ℕ → List Source → History
history_of b ss = history_in (source_of b ss)

-- s in place of its buffer's, or before those of greater buffers
abbrev pub put : Source → List Source → List Source
put s [] = s ∷ []
put s (r ∷ rs) = if nat_lt r.buffer s.buffer then r ∷ put s rs
    else (if is_of s.buffer r then s ∷ rs else s ∷ r ∷ rs)

-- ---- texts

-- the number of bytes of an excerpt
abbrev pub size : Excerpt → ℕ
size x = x.end - x.start

-- the bytes of an excerpt in its buffer's text
abbrev pub excerpt_text : List Source → Excerpt → List ℕ
excerpt_text ss x = slice_range (text (history_of x.buffer ss)) x.start x.end

-- texts with one LF between two
abbrev pub lines : List (List ℕ) → List ℕ
lines [] = []
lines (t ∷ []) = t
lines (t ∷ u ∷ ts) = t ++ 10 ∷ lines (u ∷ ts)

-- the text of all excerpts
abbrev pub multi_text : MultiState → List ℕ
multi_text m = lines (map (excerpt_text m.synced) m.excerpts)

-- the same, if it has no more bytes than a rope may have
abbrev pub rope_text : MultiState → Option (List ℕ)
rope_text m = if nat_le (length (multi_text m)) (2 ^ 40) then Some (multi_text m) else None

-- ---- what is true of every multibuffer

-- x is an excerpt of h: its anchors are those that are made at its places, and these are their places
pub record IsExcerpt (h : History) (x : Excerpt) : Type 0 where
  pub left : left_anchor h x.start ≡ Some x.left
  pub right : right_anchor h x.end ≡ Some x.right
  pub left_place : known_place h x.left ≡ Some x.start
  pub right_place : known_place h x.right ≡ Some x.end
  pub order : x.start ≤ x.end
  pub start : is_boundary (text h) x.start ≡ true
  pub end : is_boundary (text h) x.end ≡ true

abbrev pub IsExcerptIn : Option Source → Excerpt → Type 0
IsExcerptIn None x = ⊥
IsExcerptIn (Some s) x = IsExcerpt s.snapshot x

-- the buffer of x was synced, and x is an excerpt of it
abbrev pub IsSynced : List Source → Excerpt → Type 0
IsSynced ss x = IsExcerptIn (source_of x.buffer ss) x

-- the buffers ascend from n on
abbrev pub AscendFrom : ℕ → List Source → Type 0
AscendFrom n [] = Unit {0}
AscendFrom n (s ∷ ss) = (n ≤ s.buffer) × AscendFrom (suc s.buffer) ss

abbrev pub HasHistory : Source → Type 0
HasHistory s = IsBufferHistory s.snapshot

pub record IsMultiState (m : MultiState) : Type 0 where
  pub few : length m.excerpts ≤ 2 ^ 20
  pub ascending : AscendFrom 0 m.synced
  pub histories : AllByRecursion HasHistory m.synced
  pub excerpts : AllByRecursion (IsSynced m.synced) m.excerpts
