-- Worked rows: the definitions compute.
use Rattle.std.proofs.Common.{◌≡◌, [], ◌∷◌, Some, None, refl}
use Rattle.std.specs.Prelude.{codes}
use Rattle.clap.proofs.OnLiterals.{clap_on_literals}
use Rattle.command_words.specs.Words.{command_with}
use Rattle.command_words.specs.declared.command.Command.TheVariants.{Make, Read}
use Rattle.command_words.specs.declared.command.Task.TheVariants.{Check, Migrate, Pack, Replay, Unpack}

pub no_workers_named : command_with (codes "replay" ∷ []) ≡ Some (Read (Replay 2))
unfolding clap_on_literals
no_workers_named = refl

pub workers_by_a_sign : command_with (codes "replay" ∷ codes "--workers=02" ∷ []) ≡ Some (Read (Replay 2))
unfolding clap_on_literals
workers_by_a_sign = refl

pub too_many_workers : command_with (codes "replay" ∷ codes "--workers" ∷ codes "17" ∷ []) ≡ None
unfolding clap_on_literals
too_many_workers = refl

pub words_of_help : command_with (codes "replay" ∷ codes "--help" ∷ []) ≡ None
unfolding clap_on_literals
words_of_help = refl

pub made : command_with (codes "make" ∷ codes "--edits" ∷ codes "2" ∷ codes "--seed=1" ∷ codes "--replicas" ∷ codes "16" ∷ []) ≡ Some (Make 1 16 2)
unfolding clap_on_literals
made = refl

pub made_of_no_replica : command_with (codes "make" ∷ codes "--seed" ∷ codes "1" ∷ codes "--replicas" ∷ codes "0" ∷ codes "--edits" ∷ codes "2" ∷ []) ≡ None
unfolding clap_on_literals
made_of_no_replica = refl

pub checked : command_with (codes "check" ∷ []) ≡ Some (Read Check)
unfolding clap_on_literals
checked = refl

pub migrated : command_with (codes "migrate" ∷ []) ≡ Some (Read Migrate)
unfolding clap_on_literals
migrated = refl

pub migrated_with_workers : command_with (codes "migrate" ∷ codes "--workers" ∷ codes "2" ∷ []) ≡ None
unfolding clap_on_literals
migrated_with_workers = refl

pub packed : command_with (codes "pack" ∷ []) ≡ Some (Read Pack)
unfolding clap_on_literals
packed = refl

pub unpacked : command_with (codes "unpack" ∷ []) ≡ Some (Read Unpack)
unfolding clap_on_literals
unpacked = refl

pub unpacked_with_words : command_with (codes "unpack" ∷ codes "pack" ∷ []) ≡ None
unfolding clap_on_literals
unpacked_with_words = refl

pub no_words : command_with [] ≡ None
unfolding clap_on_literals
no_words = refl
