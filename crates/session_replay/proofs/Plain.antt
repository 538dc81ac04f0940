-- The plain response says what an input is refused for, and what records come to.
use Rattle.std.proofs.Common.{◌≡◌, ℕ, ◌<◌, ◌≤◌, inl, inr, Bool, true, false, cond, List, length, Result, sym, ap, ◌∙◌}
use Rattle.std.proofs.lemmas.Bool.{lt-ltb, le-ltb}
use Rattle.command_words.specs.declared.command.Task.{Task}
use Rattle.command_words.specs.declared.command.Task.TheVariants as task
use Rattle.op_wire.specs.declared.fault.WireFault.{WireFault}
use Rattle.session_lines.specs.Words.{many_line}
use Rattle.session_lines.specs.declared.fault.DecodeFault.{DecodeFault}
use Rattle.session_more.specs.Decoding.{more_session_of_text}
use Rattle.session_more.specs.declared.session.MoreSession.{MoreSession}
use Rattle.session_work.specs.Work.{session_limit}
use Rattle.session_replay.specs.Laws.{RecordsArePlain, RefusalsArePlain}
use Rattle.session_replay.specs.Replay.{HasBad, HasMany, IsBad, decoded_response, large_line, records_response, response_of, response_within, stream_response}
use Rattle.session_replay.specs.declared.top.Status.{Status}
use Rattle.session_replay.specs.declared.top.Status.TheVariants as status
use Rattle.session_replay.proofs.Decoded.{session_of_many}

within : (c : Task) (input : List ℕ) → length input ≤ session_limit → response_of c input ≡ response_within c input
unfolding response_of
within c input le = ap (λ (b : Bool). cond b (status.TooLarge, large_line) (response_within c input)) (le-ltb session_limit (length input) le)

past : (c : Task) (input : List ℕ) → session_limit < length input → response_of c input ≡ (status.TooLarge, large_line)
unfolding response_of
past c input lt = ap (λ (b : Bool). cond b (status.TooLarge, large_line) (response_within c input)) (lt-ltb session_limit (length input) lt)

has_bad : (c : Task) (input : List ℕ) (r : Result MoreSession DecodeFault) (line : List ℕ) → HasBad r line → (decoded_response c input r).1 ≡ line
has_bad c input r line b = ap (λ (x : Result MoreSession DecodeFault). (decoded_response c input x).1) b.2 ∙ sym b.3

plain_bad : (c : Task) (input line : List ℕ) → IsBad c input line → (response_within c input).1 ≡ line
plain_bad (task.Replay workers) input line b = has_bad (task.Replay workers) input (more_session_of_text false input) line b
plain_bad task.Check input line b = has_bad task.Check input (more_session_of_text false input) line b
plain_bad task.Migrate input line b = has_bad task.Migrate input (more_session_of_text true input) line b
plain_bad task.Pack input line (inl b) = has_bad task.Pack input (more_session_of_text false input) line b
plain_bad task.Pack input line (inr b) =
    ap (λ (x : Result MoreSession DecodeFault). (decoded_response task.Pack input x).1) b.1 ∙ (ap (λ (x : Result (List ℕ) ℕ). (records_response x).1) b.2.1 ∙ sym b.2.2)
plain_bad task.Unpack input line b = ap (λ (x : Result (List ℕ) WireFault). (stream_response x).1) b.1 ∙ sym b.2

plain_many : (c : Task) (input : List ℕ) → HasMany c input → (response_within c input).1 ≡ many_line
plain_many (task.Replay workers) input h = ap (λ (x : Result MoreSession DecodeFault). (decoded_response (task.Replay workers) input x).1) (session_of_many false input h)
plain_many task.Check input h = ap (λ (x : Result MoreSession DecodeFault). (decoded_response task.Check input x).1) (session_of_many false input h)
plain_many task.Migrate input h = ap (λ (x : Result MoreSession DecodeFault). (decoded_response task.Migrate input x).1) (session_of_many true input h)
plain_many task.Pack input h = ap (λ (x : Result MoreSession DecodeFault). (decoded_response task.Pack input x).1) (session_of_many false input h)
plain_many task.Unpack input h = absurd h

pub refusals_are_plain : RefusalsArePlain
refusals_are_plain c input output (inl h) = ap (λ (p : Status × List ℕ). p.1) (past c input h.0) ∙ sym h.1
refusals_are_plain c input output (inr (le, inl m)) = ap (λ (p : Status × List ℕ). p.1) (within c input le) ∙ (plain_many c input m.0 ∙ sym m.1)
refusals_are_plain c input output (inr (le, inr b)) = ap (λ (p : Status × List ℕ). p.1) (within c input le) ∙ plain_bad c input output b

pub records_are_plain : RecordsArePlain
records_are_plain input output le = (
  λ d. within task.Pack input le ∙ (ap (λ (x : Result MoreSession DecodeFault). decoded_response task.Pack input x) d.1 ∙ ap (λ (x : Result (List ℕ) ℕ). records_response x) d.2),
  λ d. within task.Unpack input le ∙ ap (λ (x : Result (List ℕ) WireFault). stream_response x) d,
)
