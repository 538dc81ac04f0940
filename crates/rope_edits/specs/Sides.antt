-- For private clauses: two texts on the way, as moves make them.
use Rattle.std.specs.Prelude.{ℕ, ◌+◌, List, [], ◌++◌, length, take, drop}
use Rattle.remote_edit.specs.declared.moves.Move.{Move}
use Rattle.remote_edit.specs.declared.moves.Move.TheVariants.{Visible, Hidden, Hide, Show, Insert}
use Rattle.remote_edit.specs.Moves.{Texts, with_fronts, after_moves, TakeTexts}

-- what was made of a text, and what of the old text no move has taken
pub record SideState : Type 0 where
  pub made : List ℕ
  pub left : List ℕ

-- nothing is made of a text
abbrev pub side_start : List ℕ → SideState
side_start text = record { made = []; left = text }

-- the next k bytes stay
abbrev pub pass_bytes : ℕ → SideState → SideState
pass_bytes k s = record { made = s.made ++ take k s.left; left = drop k s.left }

-- the next k bytes go
abbrev pub without : ℕ → SideState → SideState
without k s = record { made = s.made; left = drop k s.left }

-- a text comes
abbrev pub with_text : List ℕ → SideState → SideState
with_text text s = record { made = s.made ++ text; left = s.left }

abbrev pub side_len : SideState → ℕ
side_len s = length s.made + length s.left

-- the shown and the hidden text, and what of the new text no move has taken
pub record SidesState : Type 0 where
  pub shown : SideState
  pub hidden : SideState
  pub fresh : List ℕ

abbrev pub sides_len : SidesState → ℕ
sides_len s = side_len s.shown + side_len s.hidden + length s.fresh

-- after one move
abbrev pub after_move : Move → SidesState → SidesState
after_move (Visible k) s = record { shown = pass_bytes k s.shown; hidden = s.hidden; fresh = s.fresh }
after_move (Hidden k) s = record { shown = s.shown; hidden = pass_bytes k s.hidden; fresh = s.fresh }
after_move (Hide k) s =
    record { shown = without k s.shown; hidden = with_text (take k s.shown.left) s.hidden; fresh = s.fresh }
after_move (Show k) s =
    record { shown = with_text (take k s.hidden.left) s.shown; hidden = without k s.hidden; fresh = s.fresh }
after_move (Insert k) s =
    record { shown = with_text (take k s.fresh) s.shown; hidden = s.hidden; fresh = drop k s.fresh }

-- what moves make of the two from there on
abbrev pub outcome : SidesState → List Move → Texts
outcome s ms = with_fronts s.shown.made s.hidden.made (after_moves ms s.shown.left s.hidden.left s.fresh)

-- the moves take whole characters from there on
abbrev pub MayTake : SidesState → List Move → Type 0
MayTake s ms = TakeTexts ms s.shown.left s.hidden.left s.fresh
