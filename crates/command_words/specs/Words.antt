-- Which words are command words, and which command they are: `clap` takes them.
use Rattle.std.specs.Prelude.{◌<◌, ◌≤◌, ◌^◌, ⊤, ℕ, List, [], ◌∷◌, map, codes, Option, Some, None, option_and_then, option_map, if◌then◌else◌, Bool, true, String, string_bytes}
use Rattle.std.specs.declared.alloc.Global.{Global}
use Rattle.std.specs.Str.{bytes_eq}
use Rattle.std.specs.Str.Parse.{digits_value, without_leading_plus}
use Rattle.clap.specs.Walk.{Row, Rule, Text, is_empty, one_of}
use Rattle.clap.specs.Simple.{App, new_app, new_rule, on_top, subcommand_of, with_rule, with_subcommand}
use Rattle.clap.specs.ValueTests.{is_unsigned_in}
use Rattle.clap.specs.Faults.{fault_of}
use Rattle.clap.specs.declared.builder.value_parser.ValueParser.{ValueParser}
use Rattle.clap.specs.declared.builder.value_parser.ValueParser.TheVariants.{Unsigned}
use Rattle.command_words.specs.declared.command.Command.{Command}
use Rattle.command_words.specs.declared.command.Command.TheVariants.{Make, Read}
use Rattle.command_words.specs.declared.command.Task.TheVariants.{Check, Migrate, Pack, Replay, Unpack}

-- ---- the command line, as `clap` is told it

-- an option `--NAME VALUE` with that parser for its value
abbrev pub option_rule : Text → ValueParser → Rule
option_rule name parser = record (new_rule name) { long = Some name; parser = Some parser }

-- an option that has to be there
abbrev pub wanted_rule : Text → ValueParser → Rule
wanted_rule name parser = record (option_rule name parser) { required = true }

-- `--workers N`, with 2 of them where they are not named
abbrev pub workers_rule : Rule
workers_rule = record (option_rule (codes "workers") (Unsigned 0 16)) { defaults = codes "2" ∷ [] }

-- `replay [--workers N]`
abbrev pub replay_line : App
replay_line = with_rule (new_app (codes "replay")) workers_rule

-- `check`
abbrev pub check_line : App
check_line = new_app (codes "check")

-- `make --seed N --replicas N --edits N`
abbrev pub make_line : App
make_line =
    with_rule (with_rule (with_rule (new_app (codes "make"))
    (wanted_rule (codes "seed") (Unsigned 0 2147483647)))
    (wanted_rule (codes "replicas") (Unsigned 1 16)))
    (wanted_rule (codes "edits") (Unsigned 0 20000))

-- `migrate`
abbrev pub migrate_line : App
migrate_line = new_app (codes "migrate")

-- `pack`
abbrev pub pack_line : App
pack_line = new_app (codes "pack")

-- `unpack`
abbrev pub unpack_line : App
unpack_line = new_app (codes "unpack")

-- the program without its commands: it has no name of a program before it, and asks for a command
abbrev pub program : App
program = on_top (λ s. record s { no_binary_name = true; subcommand_required = true }) (new_app (codes "zedbuf"))

-- one of the six
abbrev pub command_line : App
command_line =
    with_subcommand (with_subcommand (with_subcommand (with_subcommand (with_subcommand (with_subcommand program
    replay_line.top) check_line.top) make_line.top) migrate_line.top) pack_line.top) unpack_line.top

-- ---- the command

-- the whole number of `least` to `most` that a value is
abbrev pub number_in : ℕ → ℕ → Text → Option ℕ
number_in least most value =
    if is_unsigned_in least most value
    then Some (digits_value 10 (without_leading_plus value))
    else None

-- the number that an option has
abbrev pub number_of : ℕ → ℕ → Text → List Row → Option ℕ
number_of least most name found = option_and_then (number_in least most) (one_of name found)

abbrev pub replay_from : List Row → Option Command
replay_from found = option_map (λ n. Read (Replay n)) (number_of 0 16 (codes "workers") found)

abbrev pub make_from : List Row → Option Command
make_from found =
    option_and_then (λ seed. option_and_then (λ replicas.
    option_map (Make seed replicas) (number_of 0 20000 (codes "edits") found))
    (number_of 1 16 (codes "replicas") found))
    (number_of 0 2147483647 (codes "seed") found)

-- the command with that name and what was found of its options
abbrev pub command_from : Text → List Row → Option Command
command_from name found =
    if bytes_eq name (codes "replay") then replay_from found
    else if bytes_eq name (codes "check") then Some (Read Check)
    else if bytes_eq name (codes "make") then make_from found
    else if bytes_eq name (codes "migrate") then Some (Read Migrate)
    else if bytes_eq name (codes "pack") then Some (Read Pack)
    else if bytes_eq name (codes "unpack") then Some (Read Unpack)
    else None

-- the command of the words where `clap` finds no fault in them
abbrev pub command_with : List Text → Option Command
command_with words =
    if is_empty (fault_of command_line words)
    then option_and_then (λ p. command_from p.0 p.1) (subcommand_of command_line words)
    else None

abbrev pub command_of : List (String Global) → Option Command
command_of words = command_with (map string_bytes words)

-- `clap` finds no fault in the words
abbrev pub clap_takes : List (String Global) → Bool
clap_takes words = is_empty (fault_of command_line (map string_bytes words))

-- ---- what is known of each command

-- its numbers are in their ranges
abbrev pub IsInRange : Command → Type 0
IsInRange (Read (Replay workers)) = workers ≤ 16
IsInRange (Read Check) = ⊤
IsInRange (Read Migrate) = ⊤
IsInRange (Read Pack) = ⊤
IsInRange (Read Unpack) = ⊤
IsInRange (Make seed replicas edits) = (seed < 2 ^ 31) × (1 ≤ replicas) × (replicas ≤ 16) × (edits ≤ 20000)
