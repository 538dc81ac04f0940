-- Which faults the reading of an input has.
use Rattle.std.proofs.Common.{◌≡◌, ℕ, ◌+◌, ◌<◌, Bool, true, false, cond, nat_lt, List, [], ◌∷◌, ◌++◌, length, Result, Ok, Err, refl, ap, subst}
use Rattle.std.specs.Prelude.{⊤}
use Rattle.std.proofs.lemmas.Bool.{lt-ltb, ltb-true}
use Rattle.command_words.specs.declared.command.Task.{Task}
use Rattle.command_words.specs.declared.command.Task.TheVariants as task
use Rattle.session_replay.specs.Replay.{migrates, reads_session, works}
use Rattle.session_lines.specs.Before.{BeforeState, header_read}
use Rattle.session_lines.specs.Cut.{lines_of}
use Rattle.session_lines.specs.Session.{lines_limit, then_from}
use Rattle.session_lines.specs.declared.fault.DecodeFault.{DecodeFault}
use Rattle.session_lines.specs.declared.fault.DecodeFault.TheVariants.{Lines, Bad, OutOfMemory}
use Rattle.session_lines.specs.declared.fault.Word.{Word}
use Rattle.session_more.specs.Decoding.{more_line_read, more_lines_read, more_session_of, more_session_of_text, with_header}
use Rattle.session_more.specs.Lines.{more_taken_in}
use Rattle.session_more.specs.State.{MoreState, first_state}
use Rattle.session_more.specs.declared.session.MoreLine.{MoreLine}
use Rattle.session_more.specs.declared.session.MoreSession.{MoreSession}

-- ---- once its lines are few enough, an input is a session or has a bad line

abbrev IsBad : {A : Type 0} → Result A DecodeFault → Type 0
IsBad (Ok x) = ⊤
IsBad (Err (Lines n)) = ⊥
IsBad (Err (Bad n w)) = ⊤
IsBad (Err OutOfMemory) = ⊥

then_bad : {A B : Type 0} (n : ℕ) (r : Result A Word) (next : A → Result B DecodeFault) → ((x : A) → IsBad (next x)) → IsBad (then_from n r next)
then_bad n (Err w) next h = tt
then_bad n (Ok x) next h = h x

rest_bad : (s : MoreState) (before : List MoreLine) (ls : List (List ℕ)) → IsBad (more_lines_read s before ls)
rest_bad s before [] = tt
rest_bad s before (l ∷ ls) =
    then_bad (2 + length before) (more_line_read s l) (λ x. more_lines_read (more_taken_in x s) (before ++ x ∷ []) ls) (λ x. rest_bad (more_taken_in x s) (before ++ x ∷ []) ls)

with_bad : (p : List ℕ × BeforeState) (r : Result (List MoreLine) DecodeFault) → IsBad r → IsBad (with_header p r)
with_bad p (Ok ls) b = tt
with_bad p (Err (Lines n)) b = b
with_bad p (Err (Bad n w)) b = tt
with_bad p (Err OutOfMemory) b = b

session_bad : (m : Bool) (ls : List (List ℕ)) → IsBad (more_session_of m ls)
session_bad m [] = tt
session_bad m (l ∷ ls) =
    then_bad 1 (header_read m l) (λ p. with_header p (more_lines_read (first_state p.1) [] ls))
    (λ p. with_bad p (more_lines_read (first_state p.1) [] ls) (rest_bad (first_state p.1) [] ls))

not_bad : (m : Bool) (ls : List (List ℕ)) (e : DecodeFault) → more_session_of m ls ≡ Err e → IsBad {A = MoreSession} (Err e)
not_bad m ls e h = subst (IsBad {A = MoreSession}) h (session_bad m ls)

-- ---- lines are counted before any is read

pub session_of_many : (m : Bool) (input : List ℕ) → lines_limit < length (lines_of input) → more_session_of_text m input ≡ Err (Lines (length (lines_of input)))
unfolding more_session_of_text
session_of_many m input h = ap (λ b. cond b (Err (Lines (length (lines_of input)))) (more_session_of m (lines_of input))) (lt-ltb lines_limit (length (lines_of input)) h)

lines_by : (m : Bool) (input : List ℕ) (n : ℕ) (b : Bool) → nat_lt lines_limit (length (lines_of input)) ≡ b
    → cond b (Err (Lines (length (lines_of input)))) (more_session_of m (lines_of input)) ≡ Err (Lines n) → lines_limit < length (lines_of input)
lines_by m input n true l e = ltb-true lines_limit (length (lines_of input)) l
lines_by m input n false l e = absurd (not_bad m (lines_of input) (Lines n) e)

-- too many lines are reported only where there are too many
pub too_many : (m : Bool) (input : List ℕ) (n : ℕ) → more_session_of_text m input ≡ Err (Lines n) → lines_limit < length (lines_of input)
unfolding more_session_of_text
too_many m input n e = lines_by m input n (nat_lt lines_limit (length (lines_of input))) refl e

never_by : (m : Bool) (input : List ℕ) (b : Bool) → cond b (Err (Lines (length (lines_of input)))) (more_session_of m (lines_of input)) ≡ Err OutOfMemory → ⊥
never_by m input true e = cc
never_by m input false e = not_bad m (lines_of input) OutOfMemory e

-- a failed allocation is no part of what a text is
pub never_memory : (m : Bool) (input : List ℕ) → more_session_of_text m input ≡ Err OutOfMemory → ⊥
unfolding more_session_of_text
never_memory m input e = never_by m input (nat_lt lines_limit (length (lines_of input))) e

-- ---- a task that works a session

pub worked_plainly : (c : Task) → works c ≡ true → migrates c ≡ false
worked_plainly (task.Replay workers) e = refl
worked_plainly task.Check e = refl
worked_plainly task.Migrate e = absurd (cc e)
worked_plainly task.Pack e = refl
worked_plainly task.Unpack e = refl

pub worked_reads : (c : Task) → works c ≡ true → reads_session c ≡ true
worked_reads (task.Replay workers) e = refl
worked_reads task.Check e = refl
worked_reads task.Migrate e = refl
worked_reads task.Pack e = refl
worked_reads task.Unpack e = absurd (cc e)
