-- Which faults the reading of a text has.
use Rattle.std.proofs.Common.{◌≡◌, ℕ, ◌+◌, ◌<◌, Bool, true, false, cond, nat_lt, List, [], ◌∷◌, ◌++◌, length, Result, Ok, Err, refl, ap, subst, arith}
use Rattle.std.specs.Prelude.{⊤}
use Rattle.std.proofs.lemmas.Bool.{lt-ltb, ltb-true}
use Rattle.session_lines.specs.Cut.{lines_of}
use Rattle.session_lines.specs.Session.{then_from, with_header, rest_of, header_of, line_of, session_of, session_of_text, lines_limit}
use Rattle.session_lines.specs.declared.header.Header.{Header as FirstLine}
use Rattle.session_lines.specs.declared.session.SessionLine.{SessionLine}
use Rattle.session_lines.specs.declared.session.Session.{Session}
use Rattle.session_lines.specs.declared.fault.Word.{Word}
use Rattle.session_lines.specs.declared.fault.Word.TheVariants.{Header}
use Rattle.session_lines.specs.declared.fault.DecodeFault.{DecodeFault}
use Rattle.session_lines.specs.declared.fault.DecodeFault.TheVariants.{Lines, Bad, OutOfMemory}

-- ---- lines are counted before any is read

pub session_of_many : (m : Bool) (input : List ℕ) → lines_limit < length (lines_of input) → session_of_text m input ≡ Err (Lines (length (lines_of input)))
unfolding session_of_text
session_of_many m input h = ap (λ b. cond b (Err (Lines (length (lines_of input)))) (session_of m (lines_of input))) (lt-ltb lines_limit (length (lines_of input)) h)

-- a text without a byte has no line
pub session_of_nothing : (m : Bool) (input : List ℕ) → length input ≡ 0 → (session_of_text m input ≡ Err (Bad 1 Header)) × (length (lines_of input) ≡ 0)
unfolding session_of_text
session_of_nothing m [] h = (refl, refl)
session_of_nothing m (x ∷ xs) h = absurd (omega arith)

-- ---- else a line is bad

abbrev IsBad : {A : Type 0} → Result A DecodeFault → Type 0
IsBad (Ok x) = ⊤
IsBad (Err (Lines n)) = ⊥
IsBad (Err (Bad n w)) = ⊤
IsBad (Err OutOfMemory) = ⊥

then_bad : {A B : Type 0} (n : ℕ) (r : Result A Word) (next : A → Result B DecodeFault) → ((x : A) → IsBad (next x)) → IsBad (then_from n r next)
then_bad n (Err w) next h = tt
then_bad n (Ok x) next h = h x

rest_bad : (m : Bool) (h : FirstLine) (before : List SessionLine) (ls : List (List ℕ)) → IsBad (rest_of m h before ls)
rest_bad m h before [] = tt
rest_bad m h before (l ∷ ls) = then_bad (2 + length before) (line_of m h before l) (λ x. rest_of m h (before ++ x ∷ []) ls) (λ x. rest_bad m h (before ++ x ∷ []) ls)

with_bad : (h : FirstLine) (r : Result (List SessionLine) DecodeFault) → IsBad r → IsBad (with_header h r)
with_bad h (Ok ls) b = tt
with_bad h (Err (Lines n)) b = b
with_bad h (Err (Bad n w)) b = tt
with_bad h (Err OutOfMemory) b = b

session_bad : (m : Bool) (ls : List (List ℕ)) → IsBad (session_of m ls)
session_bad m [] = tt
session_bad m (l ∷ ls) = then_bad 1 (header_of m l) (λ h. with_header h (rest_of m h [] ls)) (λ h. with_bad h (rest_of m h [] ls) (rest_bad m h [] ls))

not_bad : (m : Bool) (ls : List (List ℕ)) (e : DecodeFault) → session_of m ls ≡ Err e → IsBad {A = Session} (Err e)
not_bad m ls e h = subst (IsBad {A = Session}) h (session_bad m ls)

-- too many lines are reported only where there are too many
lines_by : (m : Bool) (input : List ℕ) (n : ℕ) (b : Bool) → nat_lt lines_limit (length (lines_of input)) ≡ b
    → cond b (Err (Lines (length (lines_of input)))) (session_of m (lines_of input)) ≡ Err (Lines n) → lines_limit < length (lines_of input)
lines_by m input n true l e = ltb-true lines_limit (length (lines_of input)) l
lines_by m input n false l e = absurd (not_bad m (lines_of input) (Lines n) e)

pub too_many : (m : Bool) (input : List ℕ) (n : ℕ) → session_of_text m input ≡ Err (Lines n) → lines_limit < length (lines_of input)
unfolding session_of_text
too_many m input n e = lines_by m input n (nat_lt lines_limit (length (lines_of input))) refl e

never_by : (m : Bool) (input : List ℕ) (b : Bool) → cond b (Err (Lines (length (lines_of input)))) (session_of m (lines_of input)) ≡ Err OutOfMemory → ⊥
never_by m input true e = cc
never_by m input false e = not_bad m (lines_of input) OutOfMemory e

-- a failed allocation is no part of what a text is
pub never_memory : (m : Bool) (input : List ℕ) → session_of_text m input ≡ Err OutOfMemory → ⊥
unfolding session_of_text
never_memory m input e = never_by m input (nat_lt lines_limit (length (lines_of input))) e
