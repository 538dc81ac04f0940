-- What operations are packed to: their records, or the line of the first that is too long for one.
use Rattle.std.specs.Prelude.{◌≡◌, ⊤, ℕ, Bool, true, false, List, is_some, Option, option_map, Result, Err}
use Rattle.std.specs.List.{find, flat_map}
use Rattle.op_model.specs.declared.operation.Operation.{Operation}
use Rattle.op_wire.specs.Spelling.{long_number, spelling}
use Rattle.session_lines.specs.Session.{unless}
use Rattle.record_lines.specs.declared.fault.PackFault.{PackFault}
use Rattle.record_lines.specs.declared.fault.PackFault.TheVariants.{Long, OutOfMemory}

-- a number of the operation's record passes the limit
abbrev pub is_long : Operation → Bool
is_long op = is_some (long_number op)

-- the line of the first operation that is too long, each with the number of its line
abbrev pub first_long : List (ℕ × Operation) → Option ℕ
first_long ops = option_map (λ p. p.0) (find (λ p. is_long p.1) ops)

-- the records of operations in their order, or the line of the first that is too long
unfoldable pub records_of : List (ℕ × Operation) → Result (List ℕ) ℕ
records_of ops = unless (flat_map (λ p. spelling p.1) ops) (first_long ops)

-- why the record of a line's operation is not appended: the operation is too long, or else an allocation failed
abbrev pub PushCause : PackFault → ℕ → Operation → Type 0
PushCause (Long n) line op = (n ≡ line) × (is_long op ≡ true)
PushCause OutOfMemory line op = is_long op ≡ false

-- why operations are not packed
abbrev pub PackCause : PackFault → List (ℕ × Operation) → Type 0
PackCause (Long n) ops = records_of ops ≡ Err n
PackCause OutOfMemory ops = ⊤
