-- Laws of what a text with folds shows.
use Rattle.std.specs.Prelude.{false, ◌≡◌, ◌⊎◌, ℕ, suc, ◌+◌, ◌*◌, ◌≤◌, ◌==◌, if◌then◌else◌, nat_le, nat_lt, List, [], ◌∷◌, ◌++◌, drop, length}
use Rattle.fold_spans.specs.Marks.{Range, Mark, marks, begins_inner, shown_place, text_place}
use Rattle.tree_cursor.specs.declared.traits.Bias.{Bias}
use Rattle.tree_cursor.specs.declared.traits.Bias.TheVariants.{Left, Right}
use Rattle.fold_spans.specs.Spans.{marks_of, text_sum, shown_sum, span_len, shown_span, IsSpan, AreSpans}
use Rattle.fold_spans.specs.Parts.{RunStays, Edit, Part, Window, old_len, new_len, renewed, LieBetween, Fit, parts_from, AreWindows}
use Rattle.fold_spans.specs.declared.span.Span.{Span}
use Rattle.fold_spans.specs.declared.span.Span.TheVariants.{Open, Fold, Waiting}

abbrev pub In : Range → List Range → Type 0
In r [] = ⊥
In r (q ∷ qs) = (r ≡ q) ⊎ In r qs

-- r holds none of the n bytes from i on
abbrev pub IsApart : ℕ → ℕ → Range → Type 0
IsApart i n r = (r.1 ≤ i) ⊎ (i + n ≤ r.0)

-- qs are some of rs, and the others hold none of the n bytes from i on
pub record AreThose (rs qs : List Range) (i n : ℕ) : Type 0 where
  pub some : (r : Range) → In r qs → In r rs
  pub others : (r : Range) → In r rs → In r qs ⊎ IsApart i n r

abbrev pub MarksAreLocal : Type 0
MarksAreLocal = (rs qs : List Range) → (i n : ℕ) → AreThose rs qs i n → marks rs i n ≡ marks qs i n

-- kept bytes keep their marks, except the first after one that is not kept
abbrev pub KeptMarksStay : Type 0
KeptMarksStay = (rs qs : List Range) → (n : ℕ)
    → ((i j : ℕ) → RunStays rs qs i j n → marks rs (suc i) n ≡ marks qs (suc j) n)
    × (RunStays rs qs 0 0 n → marks rs 0 (suc n) ≡ marks qs 0 (suc n))

-- where the ranges rs become qs and bytes are kept between the edits
abbrev pub PartsAreMadeAgain : Type 0
PartsAreMadeAgain = (rs qs : List Range) → (end : ℕ) → (es : List Edit) → (ps : List Part)
    → LieBetween rs qs end 0 0 es → Fit end (0, 0) 0 es ps → renewed qs 0 ps (marks rs 0 (old_len ps)) ≡ marks qs 0 (new_len ps)

abbrev pub WindowsFit : Type 0
WindowsFit = (end : ℕ) → (p : ℕ × ℕ) → (i : ℕ) → (es : List Edit) → (ws : List Window) → AreWindows end p i es ws → Fit end p i es (parts_from end p i ws)

-- the shown place of a place k bytes into a span, before which so many bytes are shown
abbrev pub shown_in : Span → ℕ → ℕ → Bias → ℕ
shown_in (Open n) before k b = before + k
shown_in (Fold n fs) before k Left = if nat_le n k then before + 3 else before
shown_in (Fold n fs) before k Right = if k == 0 then before else before + 3
shown_in (Waiting fs) before k b = before

abbrev pub ShownPlaceBySpan : Type 0
ShownPlaceBySpan = (pre post : List Span) → (s : Span) → (k : ℕ) → (b : Bias) → AreSpans pre → AreSpans post → IsSpan s → k ≤ span_len s
    → shown_place (marks_of (pre ++ s ∷ post)) (text_sum pre + k) b ≡ shown_in s (shown_sum pre) k b

-- the place of a shown place k bytes into what is shown for a span, before which so many bytes of the text lie
abbrev pub text_in : Span → ℕ → ℕ → Bias → ℕ
text_in (Open n) before k b = before + k
text_in (Fold n fs) before k Left = if nat_lt k 3 then before else before + n
text_in (Fold n fs) before k Right = if k == 0 then before else before + n
text_in (Waiting fs) before k b = before

abbrev pub TextPlaceBySpan : Type 0
TextPlaceBySpan = (pre post : List Span) → (s : Span) → (k : ℕ) → (b : Bias) → AreSpans pre → AreSpans post → IsSpan s → k ≤ shown_span s
    → text_place (marks_of (pre ++ s ∷ post)) (shown_sum pre + k) b ≡ text_in s (text_sum pre) k b

abbrev pub ShownPlacesComeBack : Type 0
ShownPlacesComeBack = (ms : List Mark) → (o : ℕ) → (b c : Bias) → o ≤ length ms → begins_inner (drop o ms) ≡ false
    → text_place ms (shown_place ms o b) c ≡ o

abbrev pub ShownAtMostThrice : Type 0
ShownAtMostThrice = (ss : List Span) → AreSpans ss → shown_sum ss ≤ 3 * text_sum ss
