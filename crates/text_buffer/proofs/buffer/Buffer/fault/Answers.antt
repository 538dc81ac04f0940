use Rattle.std.proofs.Common.{◌≡◌, ◌∙◌, ℕ, List, sym, ap, arith, None, Some}
use Rattle.std.specs.Prelude.{option_map}
use Rattle.op_model.specs.Edits.{piece_fault}
use Rattle.op_model.specs.Histories.{clock}
use Rattle.op_model.specs.Operations.{text_total}
use Rattle.op_model.specs.Rules.{pieces_under}
use Rattle.op_model.specs.Shown.{text}
use Rattle.text_buffer.specs.Buffer.{BufferState}
use Rattle.text_buffer.proofs.EditFaults.{at_end, by_excess, found_full, too_long}
use Rattle.text_buffer.proofs.buffer.Buffer.fault.Goals as goal

pub returns-then-total-gt-TEXT_LIMIT : goal.returns-then-total-gt-TEXT_LIMIT
returns-then-total-gt-TEXT_LIMIT c =
    let p = ap (λ (t : List ℕ). piece_fault t c.args.changes.now) (sym (c.text.ensures ∙ ap (λ (b : BufferState). text b.history) c.self.view_is)) ∙ sym c.piece_fault.ensures ∙ c.in_default.is in
    let t = c.entered_total-total.ensures ∙ ap (λ (b : BufferState). text_total (pieces_under b.endings c.args.changes.now)) c.self.view_is in
    too_long c.args.self.now c.args.changes.now c.entered_total-total.result p t c.if-total-gt-TEXT_LIMIT.true

pub returns-then-clock : goal.returns-then-clock
returns-then-clock c =
    let p = ap (λ (t : List ℕ). piece_fault t c.args.changes.now) (sym (c.text.ensures ∙ ap (λ (b : BufferState). text b.history) c.self.view_is)) ∙ sym c.piece_fault.ensures ∙ c.in_default.is in
    let t = c.entered_total-total.ensures ∙ ap (λ (b : BufferState). text_total (pieces_under b.endings c.args.changes.now)) c.self.view_is in
    let k = sym (c.clock.ensures ∙ ap (λ (b : BufferState). clock b.history) c.self.view_is) in
    at_end c.args.self.now c.args.changes.now c.entered_total-total.result p t (omega (arith, c.if-total-gt-TEXT_LIMIT.false)) (k ∙ c.if-clock.true)

pub returns-in_err-unit : goal.returns-in_err-unit
returns-in_err-unit c =
    let p = ap (λ (t : List ℕ). piece_fault t c.args.changes.now) (sym (c.text.ensures ∙ ap (λ (b : BufferState). text b.history) c.self.view_is)) ∙ sym c.piece_fault.ensures ∙ c.in_default.is in
    let t = c.entered_total-total.ensures ∙ ap (λ (b : BufferState). text_total (pieces_under b.endings c.args.changes.now)) c.self.view_is in
    let k = c.clock.ensures ∙ ap (λ (b : BufferState). clock b.history) c.self.view_is in
    let w : c.excess.result ≡ None = search in
    let n : c.from_residual.result ≡ None = search in
    n ∙ ap (option_map found_full) (sym w)
    ∙ by_excess c.args.self.now c.args.changes.now c.entered_total-total.result p t (omega (arith, c.if-total-gt-TEXT_LIMIT.false)) (λ x. c.if-clock.false (k ∙ x)) c.excess.result c.excess.ensures

pub returns : goal.returns
returns c =
    let p = ap (λ (t : List ℕ). piece_fault t c.args.changes.now) (sym (c.text.ensures ∙ ap (λ (b : BufferState). text b.history) c.self.view_is)) ∙ sym c.piece_fault.ensures ∙ c.in_default.is in
    let t = c.entered_total-total.ensures ∙ ap (λ (b : BufferState). text_total (pieces_under b.endings c.args.changes.now)) c.self.view_is in
    let k = c.clock.ensures ∙ ap (λ (b : BufferState). clock b.history) c.self.view_is in
    let w : c.excess.result ≡ Some c.in_ok-unit.field-0 = search in
    ap (option_map found_full) (sym w)
    ∙ by_excess c.args.self.now c.args.changes.now c.entered_total-total.result p t (omega (arith, c.if-total-gt-TEXT_LIMIT.false)) (λ x. c.if-clock.false (k ∙ x)) c.excess.result c.excess.ensures
