-- What an input comes to.
use Rattle.std.specs.Prelude.{⊤, ◌≡◌, ◌&&◌, not, ℕ, ◌+◌, ◌<◌, ◌≤◌, ◌⊎◌, List, length, map, nat_lt, codes, Option, Result, Ok, Err, if◌then◌else◌, Bool, false, true}
use Rattle.session_lines.specs.Cut.{lines_of}
use Rattle.op_wire.specs.declared.fault.WireFault.{WireFault}
use Rattle.record_lines.specs.Unpacking.{lines_of_stream}
use Rattle.record_lines.specs.Words.{fault_line, long_line}
use Rattle.session_lines.specs.Session.{lines_limit}
use Rattle.session_lines.specs.Words.{bad_line, many_line}
use Rattle.session_lines.specs.declared.fault.Word.{Word}
use Rattle.session_lines.specs.declared.fault.DecodeFault.{DecodeFault}
use Rattle.session_lines.specs.declared.fault.DecodeFault.TheVariants.{Lines, Bad, OutOfMemory}
use Rattle.session_more.specs.Decoding.{more_session_of_text}
use Rattle.session_more.specs.Reports.{more_line_text, more_report_text, more_session_counts}
use Rattle.session_more.specs.declared.session.MoreSession.{MoreSession}
use Rattle.session_work.specs.MoreWork.{IsMoreSession}
use Rattle.session_work.specs.Work.{session_limit}
use Rattle.session_io.specs.Causes.{RoseBy}
use Rattle.session_io.specs.Traffic.{Had, WasRead}
use Rattle.session_writer.specs.Migrated.{IsMigrated, migrated_text}
use Rattle.session_work.specs.Making.{Makes}
use Rattle.session_replay.specs.Replies.{AreReplies, IsReport, Reply, reply_line}
use Rattle.session_work.specs.MoreQueries.{more_report_of, more_report_with, plain_end_of}
use Rattle.session_work.specs.Packing.{session_records}
use Rattle.command_words.specs.declared.command.Command.{Command}
use Rattle.command_words.specs.declared.command.Command.TheVariants as command
use Rattle.command_words.specs.declared.command.Task.{Task}
use Rattle.command_words.specs.declared.command.Task.TheVariants as task
use Rattle.session_replay.specs.declared.top.Status.{Status}
use Rattle.session_replay.specs.declared.top.Status.TheVariants as status
use Rattle.session_replay.specs.declared.top.Prepared.{Prepared}
use Rattle.session_replay.specs.declared.top.Prepared.TheVariants as prepared

-- the input is a session, and the output is its report with some replies to its queries that this number of workers
-- may give
abbrev pub Replays : List ℕ → List ℕ → ℕ → Type 0
Replays input output workers = (s : MoreSession) × (more_session_of_text false input ≡ Ok s)
    × ((ps : List Reply) × AreReplies s workers ps
    × (output ≡ more_report_text (more_report_with s (map (reply_line (plain_end_of s)) ps))))

-- the input is a session, and the output is the line with what is counted of it
abbrev pub Checks : List ℕ → List ℕ → Type 0
Checks input output =
    (s : MoreSession) × (more_session_of_text false input ≡ Ok s) × (output ≡ more_line_text (more_session_counts s))

-- the task writes a session as one of version 2, which no session of version 1 with a CR can be
abbrev pub migrates : Task → Bool
migrates (task.Replay workers) = false
migrates task.Check = false
migrates task.Migrate = true
migrates task.Pack = false
migrates task.Unpack = false

-- the task reads a session; the one that does not reads records
abbrev pub reads_session : Task → Bool
reads_session (task.Replay workers) = true
reads_session task.Check = true
reads_session task.Migrate = true
reads_session task.Pack = true
reads_session task.Unpack = false

-- it reads a session that is not to be migrated
abbrev pub works : Task → Bool
works c = reads_session c && not (migrates c)

-- the input is a session that can be one of version 2, and the output is the text of its values, which decodes to it
abbrev pub Migrates : List ℕ → List ℕ → Type 0
Migrates input output = (s : MoreSession) × (more_session_of_text true input ≡ Ok s) × IsMigrated s input output

-- the input is a session, and the output is the records of the operations that its operation lines make, by number
abbrev pub Packs : List ℕ → List ℕ → Type 0
Packs input output = (s : MoreSession) × (more_session_of_text false input ≡ Ok s) × (session_records s ≡ Ok output)

-- the output is what the task makes of the input: of a session, or, where it unpacks, of records
abbrev pub Does : Task → List ℕ → List ℕ → Type 0
Does (task.Replay workers) input output = Replays input output workers
Does task.Check input output = Checks input output
Does task.Migrate input output = Migrates input output
Does task.Pack input output = Packs input output
Does task.Unpack input output = lines_of_stream input ≡ Ok output

-- ---- what a task refuses

-- the result is a bad line, the first of an input, and this is the line that says so
abbrev pub HasBad : Result MoreSession DecodeFault → List ℕ → Type 0
HasBad r line = (n : ℕ) × (w : Word) × (r ≡ Err (Bad n w)) × (line ≡ bad_line n w)

-- the result is a session of which an operation is too long for a record, and this is the line for the first
abbrev pub HasLong : Result MoreSession DecodeFault → List ℕ → Type 0
HasLong r line = (s : MoreSession) × (r ≡ Ok s) × ((n : ℕ) × (session_records s ≡ Err n) × (line ≡ long_line n))

-- the input is not what the task can read, and this is the line that says why: the first bad line of a session, the first
-- operation that is too long, or the first fault of records
abbrev pub IsBad : Task → List ℕ → List ℕ → Type 0
IsBad (task.Replay workers) input line = HasBad (more_session_of_text false input) line
IsBad task.Check input line = HasBad (more_session_of_text false input) line
IsBad task.Migrate input line = HasBad (more_session_of_text true input) line
IsBad task.Pack input line = HasBad (more_session_of_text false input) line ⊎ HasLong (more_session_of_text false input) line
IsBad task.Unpack input line = (e : WireFault) × (lines_of_stream input ≡ Err e) × (line ≡ fault_line e)

-- the input has more lines than a session may have; records may have as many bytes as the input may
abbrev pub HasMany : Task → List ℕ → Type 0
HasMany (task.Replay workers) input = lines_limit < length (lines_of input)
HasMany task.Check input = lines_limit < length (lines_of input)
HasMany task.Migrate input = lines_limit < length (lines_of input)
HasMany task.Pack input = lines_limit < length (lines_of input)
HasMany task.Unpack input = ⊥

-- the task can make something of the input
abbrev pub IsGood : Task → List ℕ → Type 0
IsGood (task.Replay workers) input = (s : MoreSession) × (more_session_of_text false input ≡ Ok s)
IsGood task.Check input = (s : MoreSession) × (more_session_of_text false input ≡ Ok s)
IsGood task.Migrate input = (s : MoreSession) × (more_session_of_text true input ≡ Ok s)
IsGood task.Pack input = (output : List ℕ) × Packs input output
IsGood task.Unpack input = (output : List ℕ) × (lines_of_stream input ≡ Ok output)

-- it can make nothing of it, as long as the input may be
abbrev pub IsRefused : Task → List ℕ → Type 0
IsRefused (task.Replay workers) input = (e : DecodeFault) × (more_session_of_text false input ≡ Err e)
IsRefused task.Check input = (e : DecodeFault) × (more_session_of_text false input ≡ Err e)
IsRefused task.Migrate input = (e : DecodeFault) × (more_session_of_text true input ≡ Err e)
IsRefused task.Pack input =
    ((e : DecodeFault) × (more_session_of_text false input ≡ Err e))
    ⊎ ((s : MoreSession) × (more_session_of_text false input ≡ Ok s) × ((n : ℕ) × (session_records s ≡ Err n)))
IsRefused task.Unpack input = (e : WireFault) × (lines_of_stream input ≡ Err e)

-- ---- the lines without a report

abbrev pub usage_line : List ℕ
usage_line = codes "usage: zedbuf replay [--workers N] | check | make --seed N --replicas N --edits N | migrate | pack | unpack\n"

abbrev pub large_line : List ℕ
large_line = codes "too large: bytes\n"

-- ---- the plain response to an input: the status and the output, each query of a session being answered on the spot

-- a failed allocation is no part of what an input is
abbrev pub refusal : DecodeFault → Status × List ℕ
refusal (Lines n) = (status.TooLarge, many_line)
refusal (Bad n w) = (status.Session, bad_line n w)
refusal OutOfMemory = (status.Memory, codes "")

-- the records of a session, or the line for the first operation that is too long
abbrev pub records_response : Result (List ℕ) ℕ → Status × List ℕ
records_response (Ok records) = (status.Done, records)
records_response (Err n) = (status.Session, long_line n)

-- the lines of records, or the line for their first fault
abbrev pub stream_response : Result (List ℕ) WireFault → Status × List ℕ
stream_response (Ok lines) = (status.Done, lines)
stream_response (Err e) = (status.Session, fault_line e)

-- what a task writes for the session that an input is; one that unpacks reads none
abbrev pub session_response : Task → List ℕ → MoreSession → Status × List ℕ
session_response (task.Replay workers) input s = (status.Done, more_report_text (more_report_of s))
session_response task.Check input s = (status.Done, more_line_text (more_session_counts s))
session_response task.Migrate input s = (status.Done, migrated_text s (lines_of input))
session_response task.Pack input s = records_response (session_records s)
session_response task.Unpack input s = stream_response (lines_of_stream input)

abbrev pub decoded_response : Task → List ℕ → Result MoreSession DecodeFault → Status × List ℕ
decoded_response c input (Ok s) = session_response c input s
decoded_response c input (Err e) = refusal e

-- the response to an input that is no longer than it may be
abbrev pub response_within : Task → List ℕ → Status × List ℕ
response_within task.Unpack input = stream_response (lines_of_stream input)
response_within c input = decoded_response c input (more_session_of_text (migrates c) input)

unfoldable pub response_of : Task → List ℕ → Status × List ℕ
response_of c input =
    if nat_lt session_limit (length input) then (status.TooLarge, large_line) else response_within c input

-- ---- what may be written for an input

-- the input is refused, and the output is the line that says why
abbrev pub Refuses : Task → List ℕ → List ℕ → Type 0
Refuses c input output =
    ((session_limit < length input) × (output ≡ large_line))
    ⊎ ((length input ≤ session_limit) × ((HasMany c input × (output ≡ many_line)) ⊎ IsBad c input output))

-- the output is one for the input: what the task makes of it, or the line that refuses it
abbrev pub IsOutput : Task → List ℕ → List ℕ → Type 0
IsOutput c input output = ((length input ≤ session_limit) × Does c input output) ⊎ Refuses c input output

-- ---- what a command ends with

-- the source had this input left, and gave all of it, or more than a session may have
pub record WasTaken (left left_after : Option (List ℕ))
    (given given_after ends ends_after : ℕ) (input : List ℕ) : Type 0 where
  pub had : Had left input
  pub whole : length input ≤ session_limit → WasRead left left_after given given_after ends ends_after input
  pub large : session_limit < length input → RoseBy (session_limit + 1) given given_after

-- the input was read to its end, and the output is what the task makes of it; a session that is made is not read
abbrev pub Ends : Command → (left left_after : Option (List ℕ)) → (given given_after ends ends_after : ℕ)
    → List ℕ → Type 0
Ends (command.Read t) left left_after given given_after ends ends_after output =
    (input : List ℕ) × WasRead left left_after given given_after ends ends_after input
    × (length input ≤ session_limit) × Does t input output
Ends (command.Make seed n edits) left left_after given given_after ends ends_after output = Makes seed n edits output

-- ---- for private clauses

-- the status and the text respond to an input
abbrev pub IsResponse : Task → List ℕ → Status → List ℕ → Type 0
IsResponse c input st text =
    ((st ≡ status.Done) × (length input ≤ session_limit) × Does c input text)
    ⊎ (((st ≡ status.Session) × (length input ≤ session_limit) × IsBad c input text)
    ⊎ ((st ≡ status.TooLarge) × (((session_limit < length input) × (text ≡ large_line))
    ⊎ ((length input ≤ session_limit) × HasMany c input × (text ≡ many_line)))))

-- the status and the text that respond to what a source had left
pub record RespondsToSource (c : Task) (left left_after : Option (List ℕ))
    (given given_after ends ends_after : ℕ)
    (status : Status) (text : List ℕ) : Type 0 where
  pub input : List ℕ
  pub taken : WasTaken left left_after given given_after ends ends_after input
  pub response : IsResponse c input status text

-- what an input comes to where nobody waits: a response to it, or its session for at least one worker
abbrev pub IsPrepared : Task → List ℕ → Prepared → Type 0
IsPrepared c input (prepared.Response st text) = IsResponse c input st text.items
IsPrepared c input (prepared.Beside workers s) =
    (c ≡ task.Replay workers) × (1 ≤ workers) × (length input ≤ session_limit)
    × (more_session_of_text (migrates c) input ≡ Ok s) × IsMoreSession s

-- workers may answer what is left to them
abbrev pub IsReady : Prepared → Type 0
IsReady (prepared.Response st text) = ⊤
IsReady (prepared.Beside workers s) = (1 ≤ workers) × IsMoreSession s

-- the status and the text of what was prepared
abbrev pub IsWritten : Prepared → Status → List ℕ → Type 0
IsWritten (prepared.Response st text) ended written = (ended ≡ st) × (written ≡ text.items)
IsWritten (prepared.Beside workers s) ended written = (ended ≡ status.Done) × IsReport s workers written

-- what is prepared for what a source had left
pub record PreparesSource (c : Task) (left left_after : Option (List ℕ))
    (given given_after ends ends_after : ℕ) (p : Prepared) : Type 0 where
  pub input : List ℕ
  pub taken : WasTaken left left_after given given_after ends ends_after input
  pub prepared : IsPrepared c input p
