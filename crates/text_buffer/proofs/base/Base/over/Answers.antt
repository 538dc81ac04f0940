use Rattle.std.proofs.Common.{◌≤◌, ◌^◌, ◌∙◌, List, ℕ, [], ◌∷◌, length, sym, ap, subst}
use Rattle.op_model.specs.declared.operation.Operation.{Operation}
use Rattle.op_model.specs.Histories.{base}
use Rattle.op_model.specs.Rules.{KeepsRule}
use Rattle.text_buffer.specs.Bases.{opening_text}
use Rattle.text_buffer.proofs.LineEndings.{base_rule}
use Rattle.text_buffer.proofs.Opened.{base_alone}
use Rattle.text_buffer.proofs.base.Base.over.Goals as goal

pub over-requires : goal.over-requires
over-requires c = subst (λ (t : List ℕ). length t ≤ 2 ^ 40) (sym c.in_ok-entered.ensures) c.requires

pub invariant_of-result : goal.invariant_of-result
invariant_of-result c =
    let is = c.in_ok-over.ensures ∙ ap (λ (t : List ℕ). base t ∷ []) c.in_ok-entered.ensures in
    record {
      alone = base_alone _ _ is;
      rule = subst (KeepsRule c.args.endings) (sym is) (base_rule c.args.endings c.args.text.now);
      len = ap length (c.as_str.ensures.value ∙ sym (ap opening_text c.in_ok-over.ensures));
    }

pub returns : goal.returns
returns c =
    let is = c.in_ok-over.ensures ∙ ap (λ (t : List ℕ). base t ∷ []) c.in_ok-entered.ensures in
    ap (λ (h : List Operation). record { text = opening_text h; endings = c.args.endings }) is
