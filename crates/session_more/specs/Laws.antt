-- Laws of sessions.
use Rattle.std.specs.Prelude.{◌≡◌, ℕ, List, Bool, Ok}
use Rattle.session_lines.specs.Session.{session_of_text}
use Rattle.session_lines.specs.declared.session.Session.{Session}
use Rattle.session_more.specs.Decoding.{more_session_of_text, plainly}

-- a session of the lines of `session_lines` is the same session here
abbrev pub OldSessionsStay : Type 0
OldSessionsStay =
    (migrate : Bool) (input : List ℕ) (s : Session) → session_of_text migrate input ≡ Ok s
    → more_session_of_text migrate input ≡ Ok (plainly s)
