-- A session that is made by a seed, and its summary.
use Rattle.std.specs.Prelude.{◌≡◌, ℕ, ◌+◌, List, [], ◌∷◌, ◌++◌, length, nat_eq, codes, decimal, Bool, true, Option, Ok, is_some, if◌then◌else◌, false}
use Rattle.std.specs.List.{count_by, flat_map, list_all}
use Rattle.std.specs.Cmp.Lexicographic.{pointwise}
use Rattle.std.specs.Option.{option_map_or}
use Rattle.op_model.specs.Shown.{text}
use Rattle.text_buffer.specs.Buffer.{BufferState}
use Rattle.session_lines.specs.Report.{line_text}
use Rattle.session_lines.specs.Session.{session_of_text}
use Rattle.session_lines.specs.declared.session.Session.{Session}
use Rattle.session_maker.specs.Made.{made_lines, session_with}
use Rattle.session_maker.specs.Written.{session_text}
use Rattle.session_work.specs.Work.{State, after_all, buffer_of, counts_report, opening}
use Rattle.session_work.specs.Queries.{end_of}

-- ---- the session

-- how many bytes the text of a buffer has, if it is there
abbrev pub text_len : Option BufferState → ℕ
text_len o = option_map_or (λ (b : BufferState). length (text b.history)) o 0

abbrev pub length_at : ℕ → State → ℕ
length_at r s = text_len (buffer_of r s.buffers)

-- n replicas over the base, which have done nothing yet
abbrev pub made_opening : ℕ → State
made_opening n = opening (session_with n [])

-- the session of n replicas and a number of edits that the seed makes
abbrev pub made_session : ℕ → ℕ → ℕ → Session
made_session seed n edits = session_with n (made_lines after_all length_at seed n edits (made_opening n))

-- ---- its summary

-- how many operation lines made an operation
abbrev pub made_count : State → ℕ
made_count s = count_by is_some s.operations

unfoldable pub made_line : ℕ → ℕ → List ℕ
made_line lines operations =
    codes "made " ++ (decimal lines ++ (codes " lines, " ++ (decimal operations ++ codes " operations\n")))

-- all buffers have that text
abbrev pub have_text : List ℕ → List BufferState → Bool
have_text t bs = list_all (λ b. pointwise nat_eq (text b.history) t) bs

-- the texts of all buffers are equal
abbrev pub have_equal_texts : List BufferState → Bool
have_equal_texts [] = true
have_equal_texts (b ∷ bs) = have_text (text b.history) bs

abbrev pub texts_line : Bool → List ℕ
texts_line equal = if equal then codes "texts equal\n" else codes "texts differ\n"

abbrev pub count_lines : List BufferState → List ℕ
count_lines bs = flat_map (λ b. line_text (counts_report b)) bs

-- the summary of lines that come to a state: how many there are, the header too, and how many operations they made; what
-- each replica counts; whether all texts are equal
abbrev pub summary_with : ℕ → State → List ℕ
summary_with lines s =
    made_line (1 + lines) (made_count s) ++ (count_lines s.buffers ++ texts_line (have_equal_texts s.buffers))

unfoldable pub summary_of : Session → List ℕ
summary_of s = summary_with (length s.lines) (end_of s)

-- the output is the summary of the session that is made, which is what its text decodes to
abbrev pub Makes : ℕ → ℕ → ℕ → List ℕ → Type 0
Makes seed n edits output =
    let session = made_session seed n edits in
    (output ≡ summary_of session) × (session_of_text false (session_text session) ≡ Ok session)
