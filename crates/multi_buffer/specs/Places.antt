-- Places in the text of all excerpts, and in the texts of their buffers.
use Rattle.std.specs.Prelude.{ℕ, suc, ◌+◌, ◌-◌, ◌&&◌, nat_le, Bool, if◌then◌else◌, List, [], ◌∷◌, take, slice_get, Option, Some, None}
use Rattle.op_model.specs.Edits.{is_boundary}
use Rattle.op_model.specs.Shown.{text}
use Rattle.multi_buffer.specs.declared.excerpt.Excerpt.{Excerpt}
use Rattle.multi_buffer.specs.declared.source.Source.{Source}
use Rattle.multi_buffer.specs.declared.places.Place.{Place}
use Rattle.multi_buffer.specs.State.{MultiState, history_of, multi_text, size}

abbrev pub place_at : ℕ → Excerpt → ℕ → Place
place_at i x k = record { excerpt = i; buffer = x.buffer; offset = x.start + k }

-- the place that byte o of the excerpts' text has in its excerpt, the first of them being excerpt i. The closed ranges
-- of two excerpts do not meet, since an LF lies between them
abbrev pub source_place : ℕ → List Excerpt → ℕ → Option Place
source_place i [] o = None
source_place i (x ∷ xs) o = if nat_le o (size x) then Some (place_at i x o)
    else source_place (suc i) xs (o - suc (size x))

-- None where o is no position of the text, or where there is no excerpt
abbrev pub to_source : MultiState → ℕ → Option Place
to_source m o = if is_boundary (multi_text m) o then source_place 0 m.excerpts o else None

-- the bytes of excerpts, each with the LF after it
abbrev pub width : List Excerpt → ℕ
width [] = 0
width (x ∷ xs) = suc (size x) + width xs

-- p is a position of the buffer's text in the closed range of the excerpt
abbrev pub is_place : List Source → Excerpt → ℕ → Bool
is_place ss x p = nat_le x.start p && nat_le p x.end && is_boundary (text (history_of x.buffer ss)) p

abbrev pub multi_place : List Source → ℕ → ℕ → Option Excerpt → Option ℕ
multi_place ss before p None = None
multi_place ss before p (Some x) = if is_place ss x p then Some (before + (p - x.start)) else None

-- None where there is no excerpt i, or where p is no place in it
abbrev pub to_multi : MultiState → ℕ → ℕ → Option ℕ
to_multi m i p = multi_place m.synced (width (take i m.excerpts)) p (slice_get m.excerpts i)
