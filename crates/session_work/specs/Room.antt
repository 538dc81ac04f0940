-- How many excerpts may still be made.
use Rattle.std.specs.Prelude.{ℕ, ◌+◌, ◌≤◌, ◌^◌, ⊤}
use Rattle.session_excerpts.specs.State.{AllHaveAtMost, HasRoomAt}
use Rattle.session_more.specs.declared.session.MoreLine.{MoreLine}
use Rattle.session_more.specs.declared.session.MoreLine.TheVariants.{Excerpt}
use Rattle.session_work.specs.MoreWork.{MoreState}

-- the line, if it makes an excerpt, has room for it under its name
abbrev pub HasRoomFor : MoreLine → MoreState → Type 0
HasRoomFor (Excerpt name r start end) s = HasRoomAt name s.excerpts
HasRoomFor _ s = ⊤

-- n more lines may each make one
abbrev pub HasRoom : ℕ → MoreState → Type 0
HasRoom n s = (k : ℕ) × AllHaveAtMost k s.excerpts × (k + n ≤ 2 ^ 20)
