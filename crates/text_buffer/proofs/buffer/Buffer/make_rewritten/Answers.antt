use Rattle.std.proofs.Common.{◌≡◌, ◌∙◌, ◌-◌, List, None, IfOk, OnOk, sym, subst}
use Rattle.op_model.specs.declared.operation.Piece.{Piece}
use Rattle.op_model.specs.Edits.{replace_ranges}
use Rattle.op_model.specs.Made.{local_edit, local_edit_fault}
use Rattle.op_model.specs.Rules.{rule_fault}
use Rattle.op_model.specs.Shown.{text}
use Rattle.text_buffer.specs.Buffer.{BufferState, after_apply}
use Rattle.text_buffer.specs.Costs.{IsEditCost}
use Rattle.text_buffer.proofs.Costs.{kept_cost}
use Rattle.op_model.proofs.settling.OpenedRuns.{edit_rule}
use Rattle.text_buffer.proofs.LineEndings.{cost_under, rewritten_pieces}
use Rattle.text_buffer.proofs.buffer.Buffer.make_rewritten.Goals as goal

pub make_entered-requires-clause-faultless : goal.make_entered-requires-clause-faultless
make_entered-requires-clause-faultless g c =
    let b = c.args.self.now in
    let q = c.as_slice.ensures.value ∙ c.in_ok-entered.ensures ∙ sym (rewritten_pieces b.endings c.args.changes.now c.requires.rewritten) in
    subst (λ (ps : List Piece). local_edit_fault b.limits b.history ps ≡ None) (sym q) c.requires.faultless

pub make_entered-requires-clause-rule : goal.make_entered-requires-clause-rule
make_entered-requires-clause-rule g c =
    let b = c.args.self.now in
    let q = c.as_slice.ensures.value ∙ c.in_ok-entered.ensures ∙ sym (rewritten_pieces b.endings c.args.changes.now c.requires.rewritten) in
    subst (λ (ps : List Piece). rule_fault b.endings (local_edit b.history b.replica ps) ≡ None) (sym q) (edit_rule b.endings b.history b.replica c.args.changes.now)

pub returns-clause-made : goal.returns-clause-made
returns-clause-made g c =
    let b = c.args.self.now in
    let q = c.as_slice.ensures.value ∙ c.in_ok-entered.ensures ∙ sym (rewritten_pieces b.endings c.args.changes.now c.requires.rewritten) in
    subst (λ (ps : List Piece). IfOk c.make_entered.result (λ op. op ≡ local_edit b.history b.replica ps)) q c.make_entered.ensures.made

pub returns-clause-new : goal.returns-clause-new
returns-clause-new g c =
    let b = c.args.self.now in
    let q = c.as_slice.ensures.value ∙ c.in_ok-entered.ensures ∙ sym (rewritten_pieces b.endings c.args.changes.now c.requires.rewritten) in
    subst (λ (ps : List Piece). OnOk c.make_entered.result (c.make_entered.new.self ≡ after_apply b (local_edit b.history b.replica ps))) q c.make_entered.ensures.new

pub returns-clause-text : goal.returns-clause-text
returns-clause-text g c =
    let b = c.args.self.now in
    let q = c.as_slice.ensures.value ∙ c.in_ok-entered.ensures ∙ sym (rewritten_pieces b.endings c.args.changes.now c.requires.rewritten) in
    subst (λ (ps : List Piece). OnOk c.make_entered.result (text c.make_entered.new.self.history ≡ replace_ranges ps (text b.history))) q c.make_entered.ensures.text

pub returns-clause-cost : goal.returns-clause-cost
returns-clause-cost g c =
    let b = c.args.self.now in
    let q = c.as_slice.ensures.value ∙ c.in_ok-entered.ensures ∙ sym (rewritten_pieces b.endings c.args.changes.now c.requires.rewritten) in
    cost_under b.history b.endings c.args.changes.now (c.make_entered.new.steps - c.args.steps.now)
    (subst (λ (ps : List Piece). IsEditCost b.history ps (c.make_entered.new.steps - c.args.steps.now)) q c.make_entered.ensures.cost)

pub returns-in_err-entered-clause-cost : goal.returns-in_err-entered-clause-cost
returns-in_err-entered-clause-cost g c =
    kept_cost c.args.self.now.history c.args.changes.now c.args.steps.now
    (subst (λ (b : BufferState). IsEditCost b.history c.args.changes.now 0) c.self.view_is (c.known_cost.ensures c.args.changes.now))
