-- Moves: what becomes of the bytes of a shown and a hidden text, in order.
use Rattle.std.specs.Prelude.{◌≡◌, ℕ, ◌+◌, ◌^◌, ◌==◌, nat_lt, if◌then◌else◌, List, [], ◌∷◌, ◌++◌, take, drop, Option, Some, None, ⊤}
use Rattle.std.specs.Str.{IsUtf8}
use Rattle.remote_edit.specs.declared.moves.Move.{Move}
use Rattle.remote_edit.specs.declared.moves.Move.TheVariants.{Visible, Hidden, Hide, Show, Insert}

-- a shown and a hidden text
pub record Texts : Type 0 where
  pub shown : List ℕ
  pub hidden : List ℕ

abbrev pub texts_of : List ℕ → List ℕ → Texts
texts_of s h = record { shown = s; hidden = h }

-- the texts s and h, each followed by another
abbrev pub with_fronts : List ℕ → List ℕ → Texts → Texts
with_fronts s h r = texts_of (s ++ r.shown) (h ++ r.hidden)

-- the texts after moves, from a shown text s, a hidden text h and a new text n: each move takes the next bytes of one
-- of the three to the shown or to the hidden text; bytes that no move takes are in neither
abbrev pub after_moves : List Move → List ℕ → List ℕ → List ℕ → Texts
after_moves [] s h n = texts_of [] []
after_moves (Visible k ∷ ms) s h n = with_fronts (take k s) [] (after_moves ms (drop k s) h n)
after_moves (Hidden k ∷ ms) s h n = with_fronts [] (take k h) (after_moves ms s (drop k h) n)
after_moves (Hide k ∷ ms) s h n = with_fronts [] (take k s) (after_moves ms (drop k s) h n)
after_moves (Show k ∷ ms) s h n = with_fronts (take k h) [] (after_moves ms s (drop k h) n)
after_moves (Insert k ∷ ms) s h n = with_fronts (take k n) [] (after_moves ms s h (drop k n))

-- each move takes whole characters: its bytes are UTF-8
abbrev pub TakeTexts : List Move → List ℕ → List ℕ → List ℕ → Type 0
TakeTexts [] s h n = ⊤
TakeTexts (Visible k ∷ ms) s h n = IsUtf8 (take k s) × TakeTexts ms (drop k s) h n
TakeTexts (Hidden k ∷ ms) s h n = IsUtf8 (take k h) × TakeTexts ms s (drop k h) n
TakeTexts (Hide k ∷ ms) s h n = IsUtf8 (take k s) × TakeTexts ms (drop k s) h n
TakeTexts (Show k ∷ ms) s h n = IsUtf8 (take k h) × TakeTexts ms s (drop k h) n
TakeTexts (Insert k ∷ ms) s h n = IsUtf8 (take k n) × TakeTexts ms s h (drop k n)

-- two lists of moves do the same to all texts
abbrev pub DoTheSame : List Move → List Move → Type 0
DoTheSame ms ns = (s h n : List ℕ) → after_moves ms s h n ≡ after_moves ns s h n

-- the number of bytes that a move takes
abbrev pub length_of : Move → ℕ
length_of (Visible k) = k
length_of (Hidden k) = k
length_of (Hide k) = k
length_of (Show k) = k
length_of (Insert k) = k

-- two moves of the same kind as one, if its length fits in a u64
abbrev pub as_one : Move → Move → Option Move
as_one (Visible a) (Visible b) = if nat_lt (a + b) (2 ^ 64) then Some (Visible (a + b)) else None
as_one (Hidden a) (Hidden b) = if nat_lt (a + b) (2 ^ 64) then Some (Hidden (a + b)) else None
as_one (Hide a) (Hide b) = if nat_lt (a + b) (2 ^ 64) then Some (Hide (a + b)) else None
as_one (Show a) (Show b) = if nat_lt (a + b) (2 ^ 64) then Some (Show (a + b)) else None
as_one (Insert a) (Insert b) = if nat_lt (a + b) (2 ^ 64) then Some (Insert (a + b)) else None
as_one a b = None

-- a move followed by another, as one if they are of the same kind
abbrev pub join_moves : Option Move → Move → Move → List Move
join_moves (Some one) last next = one ∷ []
join_moves None last next = last ∷ next ∷ []

-- moves followed by another: one of no bytes changes nothing, one of the same kind as the last lengthens that
abbrev pub with_last : List Move → Move → List Move
with_last [] next = next ∷ []
with_last (m ∷ []) next = join_moves (as_one m next) m next
with_last (m ∷ k ∷ ms) next = m ∷ with_last (k ∷ ms) next

abbrev pub with_move : List Move → Move → List Move
with_move ms next = if length_of next == 0 then ms else with_last ms next

-- the numbers of bytes that moves take of the shown, the hidden and the new text
abbrev pub from_shown : List Move → ℕ
from_shown [] = 0
from_shown (Visible k ∷ ms) = k + from_shown ms
from_shown (Hidden k ∷ ms) = from_shown ms
from_shown (Hide k ∷ ms) = k + from_shown ms
from_shown (Show k ∷ ms) = from_shown ms
from_shown (Insert k ∷ ms) = from_shown ms

abbrev pub from_hidden : List Move → ℕ
from_hidden [] = 0
from_hidden (Visible k ∷ ms) = from_hidden ms
from_hidden (Hidden k ∷ ms) = k + from_hidden ms
from_hidden (Hide k ∷ ms) = from_hidden ms
from_hidden (Show k ∷ ms) = k + from_hidden ms
from_hidden (Insert k ∷ ms) = from_hidden ms

abbrev pub from_new : List Move → ℕ
from_new [] = 0
from_new (Visible k ∷ ms) = from_new ms
from_new (Hidden k ∷ ms) = from_new ms
from_new (Hide k ∷ ms) = from_new ms
from_new (Show k ∷ ms) = from_new ms
from_new (Insert k ∷ ms) = k + from_new ms

-- ---- laws, which src/laws.rt shows

-- moves after others take the texts that those leave, and put their bytes after those of the others
abbrev pub MovesCompose : Type 0
MovesCompose = (ms ns : List Move) → (s h n : List ℕ)
    → after_moves (ms ++ ns) s h n ≡ with_fronts (after_moves ms s h n).shown
    (after_moves ms s h n).hidden
    (after_moves ns (drop (from_shown ms) s) (drop (from_hidden ms) h) (drop (from_new ms) n))

-- a move after others does the same if it is merged with the last one
abbrev pub JoinedMovesDoTheSame : Type 0
JoinedMovesDoTheSame = (ms : List Move) → (next : Move) → DoTheSame (with_move ms next) (ms ++ next ∷ [])

-- it does not matter whether shown or hidden bytes are kept first
abbrev pub KeptBytesCommute : Type 0
KeptBytesCommute = (ms ns : List Move) → (a b : ℕ)
    → DoTheSame (ms ++ Visible a ∷ Hidden b ∷ ns) (ms ++ Hidden b ∷ Visible a ∷ ns)

-- ---- moves on the way

-- what moves have made of the texts s, h and n so far, and what is left of these for later moves
pub record HaveMoved (s h n : List ℕ) (ms : List Move) (out left : Texts) (left_new : List ℕ) : Type 0 where
  pub put : after_moves ms s h n ≡ out
  pub left_shown : drop (from_shown ms) s ≡ left.shown
  pub left_hidden : drop (from_hidden ms) h ≡ left.hidden
  pub news : drop (from_new ms) n ≡ left_new
