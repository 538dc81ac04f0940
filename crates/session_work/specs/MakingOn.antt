-- What is still to be worked of a session that is made.
use Rattle.std.specs.Prelude.{◌≡◌, ℕ, List, [], ◌∷◌, ◌++◌}
use Rattle.session_lines.specs.declared.session.SessionLine.{SessionLine}
use Rattle.session_maker.specs.Made.{round_of, turn_at}
use Rattle.session_work.specs.Making.{length_at}
use Rattle.session_work.specs.Work.{State, after_all}
use Rattle.session_work.specs.Working.{state_of}
use Rattle.session_work.specs.declared.making.Making.{Making}

-- what was worked comes to
abbrev pub work_state : Making → State
work_state m = state_of m.progress

-- these lines were worked, and x is the state of the draws
pub record Works (old new : Making) (x : ℕ) (ls : List SessionLine) : Type 0 where
  pub lines : new.lines.items ≡ old.lines.items ++ ls
  pub state : work_state new ≡ after_all ls (work_state old)
  pub draws : new.draws ≡ x

-- of lines that are to be worked after `old`, the rest is left
pub record Leaves (old now : Making) (all rest : List SessionLine) : Type 0 where
  pub lines : now.lines.items ++ rest ≡ old.lines.items ++ all
  pub state : after_all rest (work_state now) ≡ after_all all (work_state old)

-- turn i of n replicas was taken
unfoldable pub TakesTurn : Making → Making → ℕ → ℕ → Type 0
TakesTurn old new n i =
    let p = turn_at after_all length_at n i old.draws (work_state old) in
    Works old new p.1 (p.0 ∷ [])

-- and what is given after it
unfoldable pub WorksRound : Making → Making → ℕ → ℕ → Type 0
WorksRound old new n i =
    let p = turn_at after_all length_at n i old.draws (work_state old) in
    Works old new p.1 (round_of n i p.0)
