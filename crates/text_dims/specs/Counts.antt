-- What is counted of a text, which is the list of its bytes in UTF-8 (RFC 3629, section 3). There a byte begins a character
-- where it is below 128 or from 192 on, and a character past U+FFFF, which has two UTF-16 units (RFC 2781, section 2.1), is
-- one that begins with a byte from 240 on.
use Rattle.std.specs.Prelude.{ℕ, Bool, ◌+◌, ◌==◌, ◌||◌, nat_lt, nat_le, if◌then◌else◌, List, [], ◌∷◌, max, sum_by, count_by}
use Rattle.std.specs.List.{slice_split}

abbrev pub begins_char : ℕ → Bool
begins_char b = nat_lt b 128 || nat_le 192 b

-- how many UTF-16 units a character has
abbrev pub char_units : ℕ → ℕ
char_units c = if nat_lt c 65536 then 1 else 2

-- how many UTF-16 units the character has that the byte begins, 0 where it begins none
abbrev pub byte_units : ℕ → ℕ
byte_units b = if begins_char b then (if nat_lt b 240 then 1 else 2) else 0

-- whether the byte begins a character of two UTF-16 units
abbrev pub begins_wide : ℕ → Bool
begins_wide b = byte_units b == 2

abbrev pub is_newline : ℕ → Bool
is_newline b = b == 10

-- how many characters the text has
unfoldable pub char_count : List ℕ → ℕ
char_count bs = count_by begins_char bs

-- how many UTF-16 units the text has
unfoldable pub utf16_count : List ℕ → ℕ
utf16_count bs = sum_by byte_units bs

-- how many LFs the text has
unfoldable pub newline_count : List ℕ → ℕ
newline_count bs = count_by is_newline bs

-- the rows of a text: what stands before, between and after its LFs, one more than there are LFs
unfoldable pub rows : List ℕ → List (List ℕ)
rows bs = slice_split is_newline bs

-- the first of the rows
abbrev pub first_of_rows : List (List ℕ) → List ℕ
first_of_rows [] = []
first_of_rows (r ∷ rs) = r

-- the last of the rows
abbrev pub last_of_rows : List (List ℕ) → List ℕ
last_of_rows [] = []
last_of_rows (r ∷ []) = r
last_of_rows (r ∷ s ∷ rs) = last_of_rows (s ∷ rs)

-- what stands before the first LF
unfoldable pub first_row : List ℕ → List ℕ
first_row bs = first_of_rows (rows bs)

-- what stands after the last LF
unfoldable pub last_row : List ℕ → List ℕ
last_row bs = last_of_rows (rows bs)

-- the greatest of the numbers, 0 where there is none
abbrev pub greatest : List ℕ → ℕ
greatest [] = 0
greatest (n ∷ ns) = max n (greatest ns)

-- the first place of the greatest of the numbers
abbrev pub first_greatest : List ℕ → ℕ
first_greatest [] = 0
first_greatest (n ∷ ns) = if nat_le (greatest ns) n then 0 else 1 + first_greatest ns
