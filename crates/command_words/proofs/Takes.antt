-- Words in which `clap` finds no fault are a command.
use Rattle.std.proofs.Common.{◌≡◌, inl, inr, ◌||◌, ℕ, Bool, true, false, not, cond, List, [], ◌∷◌, Option, Some, None, is_some, length, ◌++◌, refl, sym, ap, ◌∙◌, subst, true≢false, option_map, ne_eqb, arith}
use Rattle.std.specs.Prelude.{codes, option_and_then}
use Rattle.std.specs.List.{find, slice_index_or}
use Rattle.std.specs.Option.{option_map_or, unwrap_or}
use Rattle.std.specs.Str.{bytes_eq}
use Rattle.std.proofs.lemmas.Slice.Eq.{bytes_eq-Decides}
use Rattle.clap.specs.Walk.{Row, Rule, Text, answers_to, default_rows, finished, has_row, is_empty, nothing_held, more_values, reading_by, with_values, rows_after, settled, walk, walk_from, with_default}
use Rattle.clap.specs.Simple.{Shape, built, entered, label_of, names_of, new_rule, new_shape, rows_at, subcommand_of}
use Rattle.clap.specs.Kinds.{Kinds, check_kinds}
use Rattle.clap.specs.Faults.{check_fault, defaults_fault, entered_fault, fault_of, level_fault, settle_fault, use_fault, walk_fault}
use Rattle.clap.specs.Takes.{is_given}
use Rattle.command_words.specs.Words.{command_from, command_line, command_with, number_of}
use Rattle.command_words.proofs.Kept.{neither, settle_keeps, walk_keeps}
use Rattle.command_words.proofs.Ranges.{AllRead, EachTakes, defaults_read, found_takes, given_there, number_there, used_reads}
use Rattle.command_words.proofs.Stops.{StopsElsewhere, walk_stops}
use Rattle.clap.specs.declared.error.kind.ErrorKind.TheVariants as kind
use Rattle.clap.specs.declared.builder.value_parser.Reading.{Reading}
use Rattle.clap.specs.declared.parser.matches.ValueSource.{ValueSource}
use Rattle.clap.specs.declared.parser.matches.ValueSource.TheVariants.{DefaultValue}
use Rattle.command_words.specs.declared.command.Command.{Command}
use Rattle.command_words.specs.declared.command.Command.TheVariants.{Make, Read}
use Rattle.command_words.specs.declared.command.Task.TheVariants.{Replay}
use Rattle.std.proofs.lemmas.Bool.{not-false, or_parts}

-- ---- a subcommand without fault

-- each option has been read, and the last checks found nothing
level_reads : (name : Text) (least most : ℕ) (s : Shape) → EachTakes name least most s.rules → (words : List Text) → level_fault s [] nothing_held words false [] ≡ []
    → AllRead name least most (rows_after s.rules [] words) × (check_fault s (rows_after s.rules [] words) false ≡ [])
level_reads name least most s takes words e =
    let P = AllRead name least most in
    let keeps = λ (p : Rule → Bool) (a : Rule) (values : List Text) (rows : List Row) (found : find p s.rules ≡ Some a) (fine : use_fault s.args_override_self a values rows ≡ []) (h : AllRead name least most rows). used_reads name least most s.args_override_self a values rows (found_takes name least most s.rules takes p a found) fine h in
    let end = (walk s.rules [] nothing_held words).held in
    let walked = neither (walk_fault s [] (walk_from nothing_held) words) _ e in
    let settles = neither (settle_fault s.rules s.args_override_self end) _ walked.1 in
    let defaults = neither (defaults_fault (settled s.rules end).rows s.rules) _ settles.1 in
    let at_end = walk_keeps s P keeps [] (walk_from nothing_held) words walked.0 tt in
    (defaults_read name least most (settled s.rules end).rows s.rules takes defaults.0 (settle_keeps s P keeps end settles.0 at_end), defaults.1)

-- an option that has a default has a row
values_there : (id : Text) (how : Reading) (source : ValueSource) (values : List Text) → bytes_eq id id ≡ true → (rows : List Row) → has_row id (with_values id how source values rows) ≡ true
values_there id how source values same [] = ap (λ b. b || false) same
values_there id how source values same (r ∷ rs) = go (bytes_eq r.id id) refl (values_there id how source values same rs)
  where
    go : (b : Bool) → bytes_eq r.id id ≡ b → has_row id (with_values id how source values rs) ≡ true → has_row id (cond b (more_values source values r ++ rs) (r ∷ with_values id how source values rs)) ≡ true
    go true e later = ap (λ b. b || has_row id rs) e
    go false e later = ap (λ b. b || has_row id (with_values id how source values rs)) e ∙ later

default_there : (a : Rule) (rows : List Row) → bytes_eq a.id a.id ≡ true → is_empty a.defaults ≡ false → has_row a.id (with_default rows a) ≡ true
default_there a rows same some = go (has_row a.id rows) refl
  where
    standing : (values : List Text) → is_empty values ≡ false → has_row a.id (default_rows a.id (reading_by a) values rows) ≡ true
    standing [] e = absurd (true≢false e)
    standing (v ∷ vs) e = values_there a.id (reading_by a) DefaultValue (v ∷ vs) same rows

    go : (b : Bool) → has_row a.id rows ≡ b → has_row a.id (cond b rows (default_rows a.id (reading_by a) a.defaults rows)) ≡ true
    go true e = e
    go false e = standing a.defaults some

-- what is asked for has been given
nothing_wanted : (b : Bool) → check_kinds false false b ≡ [] → b ≡ false
nothing_wanted true e = absurd (cc e)
nothing_wanted false e = refl

-- ---- the subcommands of the command line

abbrev subs : List Shape
subs = (built command_line).subs

abbrev replay_shape : Shape
replay_shape = slice_index_or subs 0 (new_shape [])

abbrev check_shape : Shape
check_shape = slice_index_or subs 1 (new_shape [])

abbrev make_shape : Shape
make_shape = slice_index_or subs 2 (new_shape [])

abbrev migrate_shape : Shape
migrate_shape = slice_index_or subs 3 (new_shape [])

abbrev pack_shape : Shape
pack_shape = slice_index_or subs 4 (new_shape [])

abbrev unpack_shape : Shape
unpack_shape = slice_index_or subs 5 (new_shape [])

another : {X : Type 0} → false ≡ true → X
another e = absurd (true≢false (sym e))

workers_take : EachTakes (codes "workers") 0 16 replay_shape.rules
workers_take = ((inl refl, λ e. (refl, refl)), ((inr refl, λ e. another e), tt))

seed_takes : EachTakes (codes "seed") 0 2147483647 make_shape.rules
seed_takes = ((inl refl, λ e. (refl, refl)), ((inl refl, λ e. another e), ((inl refl, λ e. another e), ((inr refl, λ e. another e), tt))))

replicas_take : EachTakes (codes "replicas") 1 16 make_shape.rules
replicas_take = ((inl refl, λ e. another e), ((inl refl, λ e. (refl, refl)), ((inl refl, λ e. another e), ((inr refl, λ e. another e), tt))))

edits_take : EachTakes (codes "edits") 0 20000 make_shape.rules
edits_take = ((inl refl, λ e. another e), ((inl refl, λ e. another e), ((inl refl, λ e. (refl, refl)), ((inr refl, λ e. another e), tt))))

abbrev IsTaken : List Text → Shape → Type 0
IsTaken words s = level_fault s [] nothing_held words false [] ≡ [] → is_some (command_from s.name (rows_after s.rules [] words)) ≡ true

workers_there : (words : List Text) → has_row (codes "workers") (rows_after replay_shape.rules [] words) ≡ true
workers_there words = go (has_row (codes "help") rows) ∙ default_there workers given refl refl
  where
    workers : Rule
    workers = slice_index_or replay_shape.rules 0 (new_rule [])

    given : List Row
    given = (settled replay_shape.rules (walk replay_shape.rules [] nothing_held words).held).rows

    rows : List Row
    rows = with_default given workers

    go : (b : Bool) → has_row (codes "workers") (cond b rows rows) ≡ has_row (codes "workers") rows
    go true = refl
    go false = refl

replay_taken : (words : List Text) → IsTaken words replay_shape
replay_taken words e =
    let rows = rows_after replay_shape.rules [] words in
    go (number_of 0 16 (codes "workers") rows) (number_there (codes "workers") 0 16 rows (level_reads (codes "workers") 0 16 replay_shape workers_take words e).0 (workers_there words))
  where
    go : (o : Option ℕ) → is_some o ≡ true → is_some (option_map (λ n. Read (Replay n)) o) ≡ true
    go None e = e
    go (Some n) e = refl

made : (seed replicas edits : Option ℕ) → is_some seed ≡ true → is_some replicas ≡ true → is_some edits ≡ true
    → is_some (option_and_then (λ s. option_and_then (λ n. option_map (Make s n) edits) replicas) seed) ≡ true
made None replicas edits a b c = a
made (Some s) None edits a b c = b
made (Some s) (Some n) None a b c = c
made (Some s) (Some n) (Some k) a b c = refl

make_taken : (words : List Text) → IsTaken words make_shape
make_taken words e =
    let rows = rows_after make_shape.rules [] words in
    let seed = level_reads (codes "seed") 0 2147483647 make_shape seed_takes words e in
    let given = nothing_wanted _ seed.1 in
    let first = or_parts (not (is_given (codes "seed") rows)) _ given in
    let second = or_parts (not (is_given (codes "replicas") rows)) _ first.1 in
    let third = or_parts (not (is_given (codes "edits") rows)) _ second.1 in
    made (number_of 0 2147483647 (codes "seed") rows) (number_of 1 16 (codes "replicas") rows) (number_of 0 20000 (codes "edits") rows)
    (number_there (codes "seed") 0 2147483647 rows seed.0 (given_there (codes "seed") rows (not-false _ first.0)))
    (number_there (codes "replicas") 1 16 rows (level_reads (codes "replicas") 1 16 make_shape replicas_take words e).0 (given_there (codes "replicas") rows (not-false _ second.0)))
    (number_there (codes "edits") 0 20000 rows (level_reads (codes "edits") 0 20000 make_shape edits_take words e).0 (given_there (codes "edits") rows (not-false _ third.0)))

-- ---- the subcommand that the words name

same_text : (a b : Text) → bytes_eq a b ≡ true → bytes_eq b a ≡ true
same_text a b e = (bytes_eq-Decides b a).1 (sym ((bytes_eq-Decides a b).0 e))

sub_taken : (words : List Text) (word : Text) → bytes_eq word (codes "help") ≡ false → (s : Shape) → find (λ x. answers_to word (label_of x)) subs ≡ Some s → IsTaken words s
sub_taken words word other s found =
    go (bytes_eq (codes "replay") word) (bytes_eq (codes "check") word) (bytes_eq (codes "make") word) (bytes_eq (codes "migrate") word) (bytes_eq (codes "pack") word) (bytes_eq (codes "unpack") word) (bytes_eq (codes "help") word) (λ e. true≢false (sym (same_text (codes "help") word e) ∙ other)) found
  where
    is : (x : Shape) → IsTaken words x → Some x ≡ Some s → IsTaken words s
    is x taken e = subst (IsTaken words) (ap (λ o. unwrap_or o x) e) taken

    go : (a b c d p u e : Bool) → (e ≡ true → ⊥)
        → cond (a || false) (Some replay_shape) (cond (b || false) (Some check_shape) (cond (c || false) (Some make_shape) (cond (d || false) (Some migrate_shape) (cond (p || false) (Some pack_shape) (cond (u || false) (Some unpack_shape) (cond (e || false) (Some (slice_index_or subs 6 (new_shape []))) None)))))) ≡ Some s → IsTaken words s
    go true b c d p u e never k = is replay_shape (replay_taken words) k
    go false true c d p u e never k = is check_shape (λ fine. refl) k
    go false false true d p u e never k = is make_shape (make_taken words) k
    go false false false true p u e never k = is migrate_shape (λ fine. refl) k
    go false false false false true u e never k = is pack_shape (λ fine. refl) k
    go false false false false false true e never k = is unpack_shape (λ fine. refl) k
    go false false false false false false true never k = absurd (never refl)
    go false false false false false false false never k = absurd (cc k)

entered_taken : (o : Option (Text × List Text)) → StopsElsewhere (built command_line).top (names_of (built command_line)) refl o → is_some (entered (built command_line) o) ≡ true → entered_fault (built command_line) o ≡ []
    → is_some (option_and_then (λ p. command_from p.0 p.1) (entered (built command_line) o)) ≡ true
entered_taken None elsewhere there fine = there
entered_taken (Some p) elsewhere there fine = go (find (λ s. answers_to p.0 (label_of s)) subs) refl there fine
  where
    go : (o : Option Shape) → find (λ s. answers_to p.0 (label_of s)) subs ≡ o → is_some (option_map (λ s. rows_at s p.1) o) ≡ true
        → option_map_or (λ s. level_fault s [] nothing_held p.1 false []) o [] ≡ [] → is_some (option_and_then (λ q. command_from q.0 q.1) (option_map (λ s. rows_at s p.1) o)) ≡ true
    go None found there fine = there
    go (Some s) found there fine = sub_taken p.1 p.0 elsewhere s found fine

subcommand_wanted : (rows : List Row) (b : Bool) → check_fault (built command_line).top rows b ≡ [] → b ≡ true
subcommand_wanted rows true e = refl
subcommand_wanted rows false e = let bad : kind.MissingSubcommand ∷ [] ≡ [] = e in absurd (cc bad)

faultless_taken : (words : List Text) → fault_of command_line words ≡ [] → is_some (option_and_then (λ p. command_from p.0 p.1) (subcommand_of command_line words)) ≡ true
faultless_taken words e =
    let top = (built command_line).top in
    let names = names_of (built command_line) in
    let end = walk top.rules names nothing_held words in
    let walked = neither (walk_fault top names (walk_from nothing_held) words) _ e in
    let below = neither (entered_fault (built command_line) end.stopped) _ walked.1 in
    let settles = neither (settle_fault top.rules top.args_override_self end.held) _ below.1 in
    let defaults = neither (defaults_fault (settled top.rules end.held).rows top.rules) _ settles.1 in
    entered_taken end.stopped (walk_stops top names refl (walk_from nothing_held) words walked.0 tt) (subcommand_wanted (finished top.rules end.held) (is_some (entered (built command_line) end.stopped)) defaults.1) below.0

-- there is a command exactly where `clap` finds no fault
pub command_there : (words : List Text) → is_some (command_with words) ≡ is_empty (fault_of command_line words)
command_there words = go (fault_of command_line words) refl
  where
    found : Option Command
    found = option_and_then (λ p. command_from p.0 p.1) (subcommand_of command_line words)

    none : (b : Bool) → b ≡ false → is_some (cond b found None) ≡ b
    none true e = absurd (true≢false e)
    none false e = refl

    go : (ks : Kinds) → fault_of command_line words ≡ ks → is_some (cond (is_empty ks) found None) ≡ is_empty ks
    go [] e = faultless_taken words e
    go (k ∷ ks) e = none (is_empty (k ∷ ks)) (ne_eqb (length (k ∷ ks)) 0 (λ some. omega arith))
