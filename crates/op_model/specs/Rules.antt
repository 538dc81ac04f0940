-- The rules of a buffer: its limits, and what it does with line endings.
use Rattle.std.specs.Prelude.{◌≡◌, ℕ, ◌==◌, ◌&&◌, Bool, true, false, if◌then◌else◌, List, [], ◌∷◌, map, Option, Some, None, option_map}
use Rattle.std.specs.List.{list_any, position, AllByRecursion}
use Rattle.op_model.specs.declared.operation.Piece.{Piece}
use Rattle.op_model.specs.declared.operation.Operation.{Operation}
use Rattle.op_model.specs.declared.limits.Limits.{Limits as LimitsType}
use Rattle.op_model.specs.declared.endings.Endings.{Endings}
use Rattle.op_model.specs.declared.endings.Endings.TheVariants.{AsIs, Lf}
use Rattle.op_model.specs.declared.faults.OpFault.{OpFault}
use Rattle.op_model.specs.declared.faults.OpFault.TheVariants.{CarriageReturn}
use Rattle.op_model.specs.Operations.{pieces_of}
use Rattle.op_model.specs.Histories.{History}
use Rattle.op_model.specs.Answers.{Answer, answer, shape_fault}
use Rattle.op_model.specs.Answers.Answer.{Refused}

pub record Rules : Type 0 where
  pub limits : LimitsType
  pub endings : Endings

-- a text with each CR LF, and each other CR, as one LF; cr says whether a CR stands before it
abbrev pub lf_after : Bool → List ℕ → List ℕ
lf_after cr [] = []
lf_after cr (b ∷ t) = if b == 13 then 10 ∷ lf_after true t
    else if cr && b == 10 then lf_after false t else b ∷ lf_after false t

abbrev pub lf : List ℕ → List ℕ
lf t = lf_after false t

-- a text as it enters a buffer
abbrev pub text_under : Endings → List ℕ → List ℕ
text_under AsIs t = t
text_under Lf t = lf t

-- pieces as they enter a buffer
abbrev pub pieces_under : Endings → List Piece → List Piece
pieces_under AsIs ps = ps
pieces_under Lf ps = map (λ (p : Piece). record { start = p.start; end = p.end; text = lf p.text }) ps

-- a byte is a CR
abbrev pub is_return : ℕ → Bool
is_return b = b == 13

abbrev pub has_return : Piece → Bool
has_return p = list_any is_return p.text

-- the fault that the rule finds in an operation
abbrev pub rule_fault : Endings → Operation → Option OpFault
rule_fault AsIs op = None
rule_fault Lf op = option_map CarriageReturn (position has_return (pieces_of op))

abbrev pub or_refused : Answer → Option OpFault → Answer
or_refused a None = a
or_refused a (Some f) = Refused f

-- the answer to op at h under a rule, w waiting: the rule is asked after the faults that the operation shows by itself,
-- before all others
abbrev pub answer_under : Endings → History → List Operation → Operation → Answer
answer_under e h w op = elim (shape_fault op) [
  | None ↦ or_refused (answer h w op) (rule_fault e op)
  | Some f ↦ Refused f
]

-- each operation keeps the rule on line endings
abbrev pub KeepsRule : Endings → List Operation → Type 0
KeepsRule e ops = AllByRecursion (λ (op : Operation). rule_fault e op ≡ None) ops
