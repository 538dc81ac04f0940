-- Sessions that are written as sessions of version 2.
use Rattle.std.specs.Prelude.{◌≡◌, ℕ, List, [], ◌∷◌, ◌++◌, false, Ok}
use Rattle.std.specs.List.{flat_map}
use Rattle.std.specs.Option.{option_map_or}
use Rattle.session_lines.specs.Cut.{lines_of}
use Rattle.session_lines.specs.Json.{value_of}
use Rattle.session_more.specs.Decoding.{more_session_of_text}
use Rattle.session_more.specs.declared.session.MoreSession.{MoreSession}
use Rattle.session_writer.specs.Values.{header_value, line_text}

-- the session with version 2
abbrev pub second : MoreSession → MoreSession
second s = record s { version = 2 }

-- the header of version 2
abbrev pub header_line : MoreSession → List ℕ
header_line s = line_text (header_value 2 s.base s.replicas)

-- a line as the compact text of its value, if it is one
abbrev pub written_line : List ℕ → List ℕ
written_line line = option_map_or line_text (value_of line) []

-- the text of a session of these lines: the header of version 2, and each line after it with nothing else changed
abbrev pub migrated_text : MoreSession → List (List ℕ) → List ℕ
migrated_text s [] = []
migrated_text s (l ∷ ls) = header_line s ++ flat_map written_line ls

-- the output is the session that the input is, as one of version 2
pub record IsMigrated (s : MoreSession) (input output : List ℕ) : Type 0 where
  pub text : output ≡ migrated_text s (lines_of input)
  pub session : more_session_of_text false output ≡ Ok (second s)
