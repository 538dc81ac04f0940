-- What a text with folded ranges shows.
use Rattle.std.specs.Prelude.{ℕ, zero, suc, ◌+◌, ◌-◌, ◌==◌, ◌&&◌, ◌||◌, nat_lt, nat_le, Bool, true, false, if◌then◌else◌, List, [], ◌∷◌, ◌++◌, length, take, drop}
use Rattle.tree_cursor.specs.declared.traits.Bias.{Bias}
use Rattle.tree_cursor.specs.declared.traits.Bias.TheVariants.{Left, Right}

-- a range of bytes: its start, and its end, which it does not hold
abbrev pub Range : Type 0
Range = ℕ × ℕ

-- a range holds byte i
abbrev pub holds : Range → ℕ → Bool
holds r i = nat_le r.0 i && nat_lt i r.1

-- a range holds byte i and the one before it
abbrev pub joins : Range → ℕ → Bool
joins r i = nat_lt r.0 i && nat_lt i r.1

-- some range holds byte i
abbrev pub is_folded : List Range → ℕ → Bool
is_folded [] i = false
is_folded (r ∷ rs) i = holds r i || is_folded rs i

-- some range holds both byte i and the one before it
abbrev pub is_joined : List Range → ℕ → Bool
is_joined [] i = false
is_joined (r ∷ rs) i = joins r i || is_joined rs i

-- what becomes of a byte: it is shown as it is; it is the first of a ⋯; it belongs to the ⋯ of the byte before it
pub data Mark : Type 0 where
  Plain First Inner : Mark

abbrev pub mark : List Range → ℕ → Mark
mark rs i = if is_joined rs i then Inner else if is_folded rs i then First else Plain

-- of n bytes from byte i on
abbrev pub marks : List Range → ℕ → ℕ → List Mark
marks rs i zero = []
marks rs i (suc n) = mark rs i ∷ marks rs (suc i) n

-- ⋯, U+22EF, in UTF-8
abbrev pub ellipsis : List ℕ
ellipsis = 226 ∷ 139 ∷ 175 ∷ []

-- what is shown at a byte
abbrev pub shown_at : Mark → ℕ → List ℕ
shown_at Plain b = b ∷ []
shown_at First b = ellipsis
shown_at Inner b = []

abbrev pub show : List Mark → List ℕ → List ℕ
show [] bs = []
show (m ∷ ms) [] = []
show (m ∷ ms) (b ∷ bs) = shown_at m b ++ show ms bs

-- what a text shows
abbrev pub shown_text : List Range → List ℕ → List ℕ
shown_text rs bs = show (marks rs 0 (length bs)) bs

-- how many bytes are shown at a byte
abbrev pub width : Mark → ℕ
width Plain = 1
width First = 3
width Inner = 0

abbrev pub shown_len : List Mark → ℕ
shown_len [] = 0
shown_len (m ∷ ms) = width m + shown_len ms

-- a place before these bytes is inside a ⋯
abbrev pub begins_inner : List Mark → Bool
begins_inner [] = false
begins_inner (Plain ∷ ms) = false
begins_inner (First ∷ ms) = false
begins_inner (Inner ∷ ms) = true

-- the shown place of place o: inside a ⋯ its start (Left) or its end (Right), else the number of bytes shown before o
abbrev pub shown_place : List Mark → ℕ → Bias → ℕ
shown_place ms o Right = shown_len (take o ms)
shown_place ms o Left = if begins_inner (drop o ms) then shown_len (take o ms) - 3 else shown_len (take o ms)

-- The place of shown place d: inside a ⋯ the start (Left) or the end (Right) of what it stands for, else the number of bytes before
-- it. All bytes of a ⋯ that ends there are before it.
abbrev pub text_place : List Mark → ℕ → Bias → ℕ
text_place [] d b = 0
text_place (Inner ∷ ms) d b = suc (text_place ms d b)
text_place (Plain ∷ ms) d b = if d == 0 then 0 else suc (text_place ms (d - 1) b)
text_place (First ∷ ms) d Left = if nat_lt d 3 then 0 else suc (text_place ms (d - 3) Left)
text_place (First ∷ ms) d Right = if d == 0 then 0 else suc (text_place ms (d - 3) Right)
