-- What is written into the room that a caller gives.
use Rattle.std.specs.Prelude.{ℕ, List, ◌++◌, length, take, drop, nat_le, if◌then◌else◌}
use Rattle.c_values.specs.declared.answer.Answer.{Answer}
use Rattle.c_values.specs.declared.answer.Code.TheVariants.{Done, NoRoom}
use Rattle.c_values.specs.Answers.{answer}

-- as much of the new as fits, over the old
abbrev pub over : {X : Type 0} → List X → List X → List X
over new old = take (length old) new ++ drop (length new) old

-- the answer where n are to be written
abbrev pub room_answer : ℕ → ℕ → Answer
room_answer n room = if nat_le n room then answer Done n 0 0 else answer NoRoom n 0 0
