-- Versions, as C hands them in.
use Rattle.std.specs.Prelude.{◌≡◌, ◌⊎◌, ℕ, List, Option, None, Some}
use Rattle.lamport_clock.specs.Versions.{Entries, IsVersion}
use Rattle.c_values.specs.declared.answer.Answer.{Answer}
use Rattle.c_values.specs.declared.answer.Code.TheVariants.{Closed, OutOfRange}
use Rattle.c_values.specs.declared.seen.Seen.{Seen}
use Rattle.c_values.specs.Answers.{bare, out_of_memory}

abbrev pub entry : Seen → ℕ × ℕ
entry s = (s.replica, s.value)

abbrev pub seen : ℕ × ℕ → Seen
seen e = record { replica = e.0; value = e.1 }

-- the answer where entries are a version, or that they are none
abbrev pub IsVersionAnswer : Entries → Answer → Answer → Type 0
IsVersionAnswer v wanted a =
    (IsVersion v × (a ≡ wanted)) ⊎ (((IsVersion v → ⊥) × (a ≡ bare OutOfRange)) ⊎ (a ≡ out_of_memory))

-- the same of a handle, by what is inside
abbrev pub IsVersionAnswerInside : {X : Type 0} → Option X → Entries → (X → Answer) → Answer → Type 0
IsVersionAnswerInside None v wanted a = a ≡ bare Closed
IsVersionAnswerInside (Some x) v wanted a = IsVersionAnswer v (wanted x) a
