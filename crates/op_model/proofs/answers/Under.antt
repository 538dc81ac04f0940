-- The answer under a rule, by the answer without it.
use Rattle.std.proofs.Common.{◌≡◌, ℕ, List, refl, sym, ◌∙◌, ap, None, Some, Option}
use Rattle.std.specs.Prelude.{option_map, unwrap_or}
use Rattle.op_model.specs.declared.endings.Endings.{Endings}
use Rattle.op_model.specs.declared.operation.Operation.{Operation}
use Rattle.op_model.specs.declared.faults.OpFault.{OpFault}
use Rattle.op_model.specs.Histories.{History}
use Rattle.op_model.specs.Answers.{Answer, answer, shape_fault}
use Rattle.op_model.specs.Answers.Answer.{Good, Repeat, Waits, Refused}
use Rattle.op_model.specs.Rules.{answer_under, rule_fault, or_refused}
use Rattle.op_model.proofs.answers.Passed.{first_here}

pub shape_first : (h : History) (w : List Operation) (op : Operation) (f : OpFault) → shape_fault op ≡ Some f → answer h w op ≡ Refused f
unfolding answer
shape_first h w op f e = ap (λ (o : Option Answer). unwrap_or o Good) (first_here (option_map Refused (shape_fault op)) _ (Refused f) (ap (option_map Refused) e))

abbrev of : Option OpFault → Answer → Option OpFault → Answer
of None a r = or_refused a r
of (Some f) a r = Refused f

under_is : (e : Endings) (h : History) (w : List Operation) (op : Operation) → answer_under e h w op ≡ of (shape_fault op) (answer h w op) (rule_fault e op)
under_is e h w op = go (shape_fault op)
  where
    go : (o : Option OpFault) → elim o [ None ↦ or_refused (answer h w op) (rule_fault e op) | Some f ↦ Refused f ] ≡ of o (answer h w op) (rule_fault e op)
    go None = refl
    go (Some f) = refl

-- an operation that keeps the rule has the plain answer
pub under_clean : (e : Endings) (h : History) (w : List Operation) (op : Operation) → rule_fault e op ≡ None → answer_under e h w op ≡ answer h w op
under_clean e h w op n = under_is e h w op ∙ ap (of (shape_fault op) (answer h w op)) n ∙ go (shape_fault op) refl
  where
    go : (o : Option OpFault) → shape_fault op ≡ o → of o (answer h w op) None ≡ answer h w op
    go None q = refl
    go (Some f) q = sym (shape_first h w op f q)

-- a fault that an operation shows by itself comes first
pub under_shape : (e : Endings) (h : History) (w : List Operation) (op : Operation) (f : OpFault) → shape_fault op ≡ Some f → answer_under e h w op ≡ Refused f
under_shape e h w op f q = under_is e h w op ∙ ap (λ o. of o (answer h w op) (rule_fault e op)) q

-- then the rule's
pub under_rule : (e : Endings) (h : History) (w : List Operation) (op : Operation) (f : OpFault) → shape_fault op ≡ None → rule_fault e op ≡ Some f → answer_under e h w op ≡ Refused f
under_rule e h w op f q r = under_is e h w op ∙ ap (λ o. of o (answer h w op) (rule_fault e op)) q ∙ ap (or_refused (answer h w op)) r

-- any answer but a refusal is the plain one, of an operation that keeps the rule
unrefused : (e : Endings) (h : History) (w : List Operation) (op : Operation) (a : Answer) → ((f : OpFault) → Refused f ≡ a → ⊥) → answer_under e h w op ≡ a → (answer h w op ≡ a) × (rule_fault e op ≡ None)
unrefused e h w op a n i = go (shape_fault op) (rule_fault e op) (sym (under_is e h w op) ∙ i)
  where
    go : (o r : Option OpFault) → of o (answer h w op) r ≡ a → (answer h w op ≡ a) × (r ≡ None)
    go None None q = (q, refl)
    go None (Some f) q = absurd (n f q)
    go (Some f) r q = absurd (n f q)

pub under_good : (e : Endings) (h : History) (w : List Operation) (op : Operation) → answer_under e h w op ≡ Good → (answer h w op ≡ Good) × (rule_fault e op ≡ None)
under_good e h w op i = unrefused e h w op Good (λ f q. cc) i

pub under_repeat : (e : Endings) (h : History) (w : List Operation) (op : Operation) → answer_under e h w op ≡ Repeat → (answer h w op ≡ Repeat) × (rule_fault e op ≡ None)
under_repeat e h w op i = unrefused e h w op Repeat (λ f q. cc) i

pub under_waits : (e : Endings) (h : History) (w : List Operation) (op : Operation) (r v : ℕ) → answer_under e h w op ≡ Waits r v → (answer h w op ≡ Waits r v) × (rule_fault e op ≡ None)
under_waits e h w op r v i = unrefused e h w op (Waits r v) (λ f q. cc) i

-- a repeat shows no fault in itself
pub repeat_shape : (h : History) (w : List Operation) (op : Operation) → answer h w op ≡ Repeat → shape_fault op ≡ None
repeat_shape h w op e = go (shape_fault op) refl
  where
    go : (o : Option OpFault) → shape_fault op ≡ o → o ≡ None
    go None q = refl
    go (Some f) q = let x = shape_first h w op f q in cc
