-- Anchors that are made in a snapshot, and looked up in it.
use Rattle.std.specs.Prelude.{◌≡◌, ℕ, List, Option, None, Some}
use Rattle.std.specs.Option.{option_map}
use Rattle.core.specs.declared.cmp.Ordering.{Ordering}
use Rattle.core.specs.declared.cmp.Ordering.TheVariants.{Less, Equal, Greater}
use Rattle.op_model.specs.declared.anchor.Anchor.{Anchor}
use Rattle.op_model.specs.declared.anchor.Bias.{Bias}
use Rattle.op_model.specs.declared.operation.Operation.{Operation}
use Rattle.op_model.specs.declared.faults.PlaceFault.{PlaceFault}
use Rattle.op_model.specs.Anchors.{known_order, known_place, place_fault}
use Rattle.anchors.specs.Making.{made_anchor}
use Rattle.c_values.specs.declared.anchor.FlatAnchor.{FlatAnchor}
use Rattle.c_values.specs.declared.answer.Answer.{Answer}
use Rattle.c_values.specs.declared.answer.Code.TheVariants.{Done, OutOfRange, Unknown}
use Rattle.c_values.specs.Anchors.{bias_at, flat}
use Rattle.c_values.specs.Answers.{answer, bare, place_refusal}

abbrev pub order_number : Ordering → ℕ
order_number Less = 0
order_number Equal = 1
order_number Greater = 2

-- ---- answers

abbrev pub place_unless : Option PlaceFault → Answer
place_unless None = bare Done
place_unless (Some e) = place_refusal e

abbrev pub anchor_answer_at : List Operation → ℕ → Option Bias → Answer
anchor_answer_at h o None = bare OutOfRange
anchor_answer_at h o (Some b) = place_unless (place_fault h o)

abbrev pub anchor_answer : List Operation → ℕ → ℕ → Answer
anchor_answer h o n = anchor_answer_at h o (bias_at n)

-- the answer with a number, or that it is not known
abbrev pub known : Option ℕ → Answer
known None = bare Unknown
known (Some n) = answer Done n 0 0

abbrev pub resolve_answer : List Operation → Option Anchor → Answer
resolve_answer h None = bare OutOfRange
resolve_answer h (Some a) = known (known_place h a)

abbrev pub compare_answer : List Operation → Option Anchor → Option Anchor → Answer
compare_answer h None b = bare OutOfRange
compare_answer h (Some a) None = bare OutOfRange
compare_answer h (Some a) (Some b) = known (option_map order_number (known_order h a b))

-- the anchor is the one that is made at the offset
abbrev pub IsMade : List Operation → ℕ → ℕ → FlatAnchor → Type 0
IsMade h o n a = (b : Bias) → bias_at n ≡ Some b → option_map flat (made_anchor h o b) ≡ Some a

-- the same of a snapshot that a handle holds
abbrev pub IsMadeInside : Option (List Operation) → ℕ → ℕ → FlatAnchor → Type 0
IsMadeInside None o n a = ⊥
IsMadeInside (Some h) o n a = IsMade h o n a
