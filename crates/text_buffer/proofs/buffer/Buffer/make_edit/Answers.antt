use Rattle.std.proofs.Common.{◌≡◌, ◌∙◌, List, None, IfOk, OnOk, sym, subst}
use Rattle.op_model.specs.declared.operation.Piece.{Piece}
use Rattle.op_model.specs.Edits.{replace_ranges}
use Rattle.op_model.specs.Made.{local_edit, local_edit_fault}
use Rattle.op_model.specs.Rules.{rule_fault}
use Rattle.op_model.specs.Shown.{text}
use Rattle.text_buffer.specs.Buffer.{after_apply}
use Rattle.op_model.proofs.settling.OpenedRuns.{edit_rule}
use Rattle.text_buffer.proofs.LineEndings.{same_pieces}
use Rattle.text_buffer.proofs.buffer.Buffer.make_edit.Goals as goal

pub make_entered-requires-clause-faultless : goal.make_entered-requires-clause-faultless
make_entered-requires-clause-faultless g c =
    let b = c.args.self.now in
    let same = same_pieces b.endings c.args.changes.now (sym c.requires.rewrites ∙ c.if-rewrites.false) in
    subst (λ (ps : List Piece). local_edit_fault b.limits b.history ps ≡ None) same c.requires.faultless

pub make_entered-requires-clause-rule : goal.make_entered-requires-clause-rule
make_entered-requires-clause-rule g c =
    let b = c.args.self.now in
    let same = same_pieces b.endings c.args.changes.now (sym c.requires.rewrites ∙ c.if-rewrites.false) in
    subst (λ (ps : List Piece). rule_fault b.endings (local_edit b.history b.replica ps) ≡ None) same (edit_rule b.endings b.history b.replica c.args.changes.now)

pub returns-clause-made : goal.returns-clause-made
returns-clause-made g c =
    let b = c.args.self.now in
    let same = same_pieces b.endings c.args.changes.now (sym c.requires.rewrites ∙ c.if-rewrites.false) in
    subst (λ (ps : List Piece). IfOk c.make_entered.result (λ op. op ≡ local_edit b.history b.replica ps)) (sym same) c.make_entered.ensures.made

pub returns-clause-new : goal.returns-clause-new
returns-clause-new g c =
    let b = c.args.self.now in
    let same = same_pieces b.endings c.args.changes.now (sym c.requires.rewrites ∙ c.if-rewrites.false) in
    subst (λ (ps : List Piece). OnOk c.make_entered.result (c.make_entered.new.self ≡ after_apply b (local_edit b.history b.replica ps))) (sym same) c.make_entered.ensures.new

pub returns-clause-text : goal.returns-clause-text
returns-clause-text g c =
    let b = c.args.self.now in
    let same = same_pieces b.endings c.args.changes.now (sym c.requires.rewrites ∙ c.if-rewrites.false) in
    subst (λ (ps : List Piece). OnOk c.make_entered.result (text c.make_entered.new.self.history ≡ replace_ranges ps (text b.history))) (sym same) c.make_entered.ensures.text
