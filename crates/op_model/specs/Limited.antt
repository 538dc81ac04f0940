-- What passes the limits of a buffer.
use Rattle.std.specs.Prelude.{ℕ, ◌+◌, [], ◌∷◌, nat_lt, Option}
use Rattle.op_model.specs.declared.limits.Limits.{Limits as LimitsType}
use Rattle.op_model.specs.declared.faults.Unit.{Unit as LimitUnit}
use Rattle.op_model.specs.declared.faults.Unit.TheVariants.{Bytes, Entries}
use Rattle.op_model.specs.Choice.{first_of, when}
use Rattle.op_model.specs.Histories.{History, bytes_held, entries_held}

-- what a limit is met by: its unit, what is held and what is added
pub record Excess : Type 0 where
  pub unit : LimitUnit
  pub held : ℕ
  pub adds : ℕ

-- the limit that h passes with this many more bytes and entries, Bytes before Entries
abbrev pub excess : LimitsType → History → ℕ → ℕ → Option Excess
excess l h bytes entries = first_of (
    when (nat_lt l.bytes (bytes_held h + bytes)) (record { unit = Bytes; held = bytes_held h; adds = bytes })
    ∷ when (nat_lt l.entries (entries_held h + entries))
    (record { unit = Entries; held = entries_held h; adds = entries })
    ∷ [])
