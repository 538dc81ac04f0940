-- What a session that is made is, read back from its text.
use Rattle.std.specs.Prelude.{◌≡◌, ℕ, ◌≤◌, List, Ok, false}
use Rattle.session_lines.specs.Session.{session_of_text}
use Rattle.session_lines.specs.declared.session.SessionLine.{SessionLine}
use Rattle.session_maker.specs.Made.{made_lines, session_with}
use Rattle.session_maker.specs.Written.{session_text}

-- A session of 1 to 16 replicas and at most 20,000 edits that a seed makes: its text decodes to it. It is so whatever is
-- told to be the lengths of texts: `after` works lines, and `length_at` tells how many bytes the text of a replica has.
abbrev pub MadeSessionsDecode : Type 0 → Type 0
MadeSessionsDecode S =
    (after : List SessionLine → S → S) → (length_at : ℕ → S → ℕ) → (s : S) → (seed n edits : ℕ)
    → 1 ≤ n → n ≤ 16 → edits ≤ 20000
    → let session = session_with n (made_lines after length_at seed n edits s) in
    session_of_text false (session_text session) ≡ Ok session
