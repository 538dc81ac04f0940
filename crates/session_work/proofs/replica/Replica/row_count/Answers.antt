use Rattle.std.proofs.Common.{◌≡◌, ◌+◌, ◌∙◌, ap, arith}
use Rattle.op_model.specs.Shown.{text}
use Rattle.text_dims.specs.Summaries.{summary_of}
use Rattle.text_buffer.specs.Buffer.{BufferState}
use Rattle.text_dims.specs.declared.summary.TextSummary.{TextSummary}
use Rattle.text_dims.proofs.Ends.{rows_are}
use Rattle.session_work.proofs.Ends.{rows_few}
use Rattle.session_work.proofs.replica.Replica.row_count.Goals as goal

pub overflow_add-result : goal.overflow_add-result
overflow_add-result c = omega (arith, rows_few c.self.inside.buffer c.summary.result.now c.known.ensures c.summary.ensures)

pub returns : goal.returns
returns c =
    let same : c.self.inside.buffer ≡ c.args.self.now = cc c.self.view_is in
    ap (λ (s : TextSummary). s.lines.row + 1) (c.summary.ensures ∙ ap (λ (b : BufferState). summary_of (text b.history)) same) ∙ rows_are (text c.args.self.now.history)
