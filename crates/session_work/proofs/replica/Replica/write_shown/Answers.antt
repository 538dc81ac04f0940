use Rattle.std.proofs.Common.{◌≡◌, ◌∙◌, ap, sym, refl}
use Rattle.op_model.specs.Shown.{text}
use Rattle.text_dims.specs.Summaries.{summary_of}
use Rattle.text_buffer.specs.Buffer.{BufferState}
use Rattle.session_work.proofs.Ends.{shown_is}
use Rattle.session_work.proofs.replica.Replica.write_shown.Goals as goal
use Rattle.session_lines.proofs.Reports.{line_reported}

pub returns : goal.returns
returns c =
    let same : c.self.inside.buffer ≡ c.args.self.now = cc c.self.view_is in
    line_reported _ _ _ _
    (shown_is c.args.self.now c.self.inside.id c.row_count.result c.summary-counted.result.now (text c.args.self.now.history) (ap (λ (b : BufferState). b.replica) (sym same) ∙ c.self.invariant)
    (c.summary-counted.ensures ∙ ap (λ (b : BufferState). summary_of (text b.history)) same) c.row_count.ensures refl)
    c.in_ok-write_text.ensures
