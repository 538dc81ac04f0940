-- What `clap` says of the words, in the words of this crate.
use Rattle.std.proofs.Common.{◌≡◌, inl, inr, true, cond, List, [], ◌∷◌, length, Option, None, refl, sym, ap, ◌∙◌, subst, arith}
use Rattle.std.proofs.lemmas.Bool.{ne_eqb}
use Rattle.std.specs.Prelude.{option_and_then}
use Rattle.clap.specs.Walk.{Row, Text, is_empty}
use Rattle.clap.specs.Simple.{App, is_simple, subcommand_of}
use Rattle.clap.specs.Faults.{fault_of, is_simple_and_free}
use Rattle.clap.specs.Kinds.{HasKind, IsAmong, Kinds}
use Rattle.clap.specs.Values.{kind_of}
use Rattle.clap.specs.declared.error.Error.{Error}
use Rattle.clap.specs.declared.error.kind.ErrorKind.{ErrorKind}
use Rattle.clap.specs.declared.error.kind.ErrorKind.TheVariants.{OutOfMemory}
use Rattle.clap.proofs.OnLiterals.{clap_on_literals}
use Rattle.command_words.specs.Words.{command_from, command_line, command_with}
use Rattle.command_words.specs.declared.command.Command.{Command}

-- ---- the command line is one of which `clap` tells the matches and the faults

line_is_simple : is_simple command_line ≡ true
unfolding clap_on_literals
line_is_simple = refl

line_is_free : is_simple_and_free command_line ≡ true
unfolding clap_on_literals
line_is_free = refl

-- ---- words that are taken, and words that are refused

pub taken : (a : App) (words : List Text) (o : Option (Text × List Row)) → a ≡ command_line → (is_simple_and_free a ≡ true → fault_of a words ≡ []) → (is_simple a ≡ true → o ≡ subcommand_of a words)
    → option_and_then (λ p. command_from p.0 p.1) o ≡ command_with words
taken a words o e fine found =
    let none : fault_of command_line words ≡ [] = subst (λ (b : App). is_simple_and_free b ≡ true → fault_of b words ≡ []) e fine line_is_free in
    let same : o ≡ subcommand_of command_line words = subst (λ (b : App). is_simple b ≡ true → o ≡ subcommand_of b words) e found line_is_simple in
    ap (λ q. option_and_then (λ p. command_from p.0 p.1) q) same
    ∙ ap (λ ks. cond (is_empty ks) (option_and_then (λ p. command_from p.0 p.1) (subcommand_of command_line words)) None) (sym none)

none_by : (ks : Kinds) (k : ErrorKind) (o : Option Command) → IsAmong k ks → None ≡ cond (is_empty ks) o None
none_by [] k o h = absurd h
none_by (x ∷ xs) k o h = sym (ap (λ b. cond b o None) (ne_eqb (length (x ∷ xs)) 0 (λ e. omega arith)))

refused_by : (words : List Text) (e : Error) → HasKind (fault_of command_line words) e → (kind_of e ≡ OutOfMemory → ⊥) → None ≡ command_with words
refused_by words e (inl k) no_memory = absurd (no_memory k)
refused_by words e (inr k) no_memory = none_by (fault_of command_line words) (kind_of e) (option_and_then (λ p. command_from p.0 p.1) (subcommand_of command_line words)) k

pub refused : (a : App) (words : List Text) (e : Error) → a ≡ command_line → (is_simple_and_free a ≡ true → HasKind (fault_of a words) e) → (kind_of e ≡ OutOfMemory → ⊥) → None ≡ command_with words
refused a words e is h no_memory = refused_by words e (subst (λ (b : App). is_simple_and_free b ≡ true → HasKind (fault_of b words) e) is h line_is_free) no_memory
