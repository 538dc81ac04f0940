-- Bytes that are kept while a text changes, and parts of the text whose marks are made again.
use Rattle.std.specs.Prelude.{zero, ◌≡◌, ◌⊎◌, ℕ, suc, ◌+◌, ◌-◌, ◌≤◌, ◌<◌, nat_le, List, [], ◌∷◌, ◌++◌, take, drop}
use Rattle.fold_spans.specs.Marks.{Range, Mark, marks}

-- byte i of the old text, which is byte j of the new one, is past the same ends of a range that was r and is q
pub record Stays (r q : Range) (i j : ℕ) : Type 0 where
  pub start : nat_le r.0 i ≡ nat_le q.0 j
  pub end : nat_le r.1 i ≡ nat_le q.1 j

-- the same of each range
abbrev pub AllStay : List Range → List Range → ℕ → ℕ → Type 0
AllStay [] [] i j = Unit {0}
AllStay [] (q ∷ qs) i j = ⊥
AllStay (r ∷ rs) [] i j = ⊥
AllStay (r ∷ rs) (q ∷ qs) i j = Stays r q i j × AllStay rs qs i j

-- the same of byte i and the n bytes after it
abbrev pub RunStays : List Range → List Range → ℕ → ℕ → ℕ → Type 0
RunStays rs qs i j zero = AllStay rs qs i j
RunStays rs qs i j (suc n) = AllStay rs qs i j × RunStays rs qs (suc i) (suc j) n

-- ---- edits

-- a range of the old text, and the range of the new text that stands in its place
pub record Edit : Type 0 where
  pub old : Range
  pub new : Range

-- the n bytes from x on in the old text are those from y on in the new one, and stay past the same ends of ranges
abbrev pub AreKept : List Range → List Range → ℕ → ℕ → ℕ → Type 0
AreKept rs qs x y n = (k : ℕ) → k < n → AllStay rs qs (x + k) (y + k)

-- from byte x of the old text and byte y of the new one on, bytes are kept before each edit, and after the last one up to the end
abbrev pub LieBetween : List Range → List Range → ℕ → ℕ → ℕ → List Edit → Type 0
LieBetween rs qs end x y [] = AreKept rs qs x y (end - x)
LieBetween rs qs end x y (e ∷ es) = (x ≤ e.old.0) × (e.new.0 ≡ y + (e.old.0 - x)) × AreKept rs qs x y (e.old.0 - x)
    × (e.old.0 ≤ e.old.1) × LieBetween rs qs end e.old.1 e.new.1 es

-- the end of the last edit in both texts
abbrev pub last_end : ℕ × ℕ → List Edit → ℕ × ℕ
last_end p [] = p
last_end p (e ∷ es) = last_end (e.old.1, e.new.1) es

-- the next edit begins after i, or there is none and i is not past the end
abbrev pub IsBefore : ℕ → ℕ → List Edit → Type 0
IsBefore end i [] = i ≤ end
IsBefore end i (e ∷ es) = i < e.old.0

-- i is the start of both texts, or is after the end p of the last edit
abbrev pub IsClear : ℕ × ℕ → ℕ → Type 0
IsClear p i = ((i ≡ 0) × (p.1 ≡ 0)) ⊎ (p.0 < i)

-- ---- parts

-- a part of the text: n bytes whose marks stay, or g old bytes in whose place m new ones stand
pub data Part : Type 0 where
  Same : ℕ → Part
  Again : ℕ → ℕ → Part

abbrev pub old_len : List Part → ℕ
old_len [] = 0
old_len (Same n ∷ ps) = n + old_len ps
old_len (Again g m ∷ ps) = g + old_len ps

abbrev pub new_len : List Part → ℕ
new_len [] = 0
new_len (Same n ∷ ps) = n + new_len ps
new_len (Again g m ∷ ps) = m + new_len ps

-- the old marks with those of each part that is made again in their places, from place j of the new text on
abbrev pub renewed : List Range → ℕ → List Part → List Mark → List Mark
renewed qs j [] ms = []
renewed qs j (Same n ∷ ps) ms = take n ms ++ renewed qs (j + n) ps (drop n ms)
renewed qs j (Again g m ∷ ps) ms = marks qs j m ++ renewed qs (j + m) ps (drop g ms)

-- Parts from place i on, where p is the end of the last edit: no edit touches what stays, and what is made again holds edits whole,
-- with as many bytes as before and those that they bring.
abbrev pub Fit : ℕ → ℕ × ℕ → ℕ → List Edit → List Part → Type 0
Fit end p i es [] = (es ≡ []) × (i ≡ end)
Fit end p i es (Same n ∷ ps) = IsClear p i × IsBefore end (i + n) es × Fit end p (i + n) es ps
Fit end p i es (Again g m ∷ ps) = (fs rest : List Edit) × (es ≡ fs ++ rest) × ((last_end p fs).0 ≤ i + g)
    × (p.1 + (i - p.0) + m ≡ (last_end p fs).1 + (i + g - (last_end p fs).0)) × Fit end (last_end p fs) (i + g) rest ps

-- ---- windows, as they are found among spans

-- some old bytes, and the edits that lie in them
pub record Window : Type 0 where
  pub start : ℕ
  pub end : ℕ
  pub edits : List Edit

abbrev pub same_part : ℕ → List Part
same_part zero = []
same_part (suc n) = Same (suc n) ∷ []

-- the place in the new text of place i, which is after the end p of an edit
abbrev pub new_place : ℕ × ℕ → ℕ → ℕ
new_place p i = p.1 + (i - p.0)

-- the parts from place i on: windows, and what lies between them
abbrev pub parts_from : ℕ → ℕ × ℕ → ℕ → List Window → List Part
parts_from end p i [] = same_part (end - i)
parts_from end p i (w ∷ ws) = same_part (w.start - i)
    ++ (Again (w.end - w.start) (new_place (last_end p w.edits) w.end - new_place p w.start) ∷ parts_from end (last_end p w.edits) w.end ws)

-- Windows of the edits es from place i on, after the end p of the last edit: each holds some of the next edits whole and does not begin
-- after them; if bytes lie before it, it begins before its first edit, and they lie after the last one.
abbrev pub AreWindows : ℕ → ℕ × ℕ → ℕ → List Edit → List Window → Type 0
AreWindows end p i es [] = (es ≡ []) × (i ≤ end) × (i < end → IsClear p i)
AreWindows end p i es (w ∷ ws) = (rest : List Edit) × (es ≡ w.edits ++ rest) × (i ≤ w.start) × (w.start ≤ w.end)
    × (i < w.start → IsClear p i × IsBefore end w.start es) × ((last_end p w.edits).0 ≤ w.end)
    × (new_place p w.start ≤ new_place (last_end p w.edits) w.end) × AreWindows end (last_end p w.edits) w.end rest ws
