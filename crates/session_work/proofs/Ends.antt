-- Where a text ends, by its summary.
use Rattle.std.proofs.Common.{◌≡◌, ℕ, ◌^◌, ◌≤◌, List, length, ◌∙◌, ap, arith}
use Rattle.op_model.specs.Shown.{text}
use Rattle.text_dims.specs.declared.summary.TextSummary.{TextSummary}
use Rattle.text_dims.specs.declared.points.Point.{Point}
use Rattle.text_dims.specs.Counts.{rows}
use Rattle.text_dims.specs.Summaries.{summary_of, end_point}
use Rattle.text_dims.proofs.Ends.{end_is, bytes_are, last_row_within}
use Rattle.session_lines.specs.declared.report.TextHead.TheVariants as head
use Rattle.session_lines.specs.declared.report.Report.TheVariants as report
use Rattle.text_buffer.specs.Buffer.{BufferState, IsBuffer}
use Rattle.session_work.specs.Work.{applied_count, counts_report, text_report}

-- ---- of a buffer's text

pub rows_few : (b : BufferState) (s : TextSummary) → IsBuffer b → s ≡ summary_of (text b.history) → s.lines.row ≤ 2 ^ 40
rows_few b s k e = omega (arith, ap (λ (z : TextSummary). z.lines.row) e, last_row_within (text b.history), k.history.text_bytes, k.bytes, k.most_bytes)

pub shown_is : (b : BufferState) (r count : ℕ) (s : TextSummary) (t : List ℕ) → b.replica ≡ r → s ≡ summary_of (text b.history) → count ≡ length (rows (text b.history)) → t ≡ text b.history
    → report.Text (head.CurrentText r s.len s.lines.row s.lines.column count) t ≡ text_report b
shown_is b r count s t i e n h =
    let u : List ℕ = text b.history in
    let len : s.len ≡ length u = ap (λ (z : TextSummary). z.len) e ∙ bytes_are u in
    let point : s.lines ≡ end_point u = ap (λ (z : TextSummary). z.lines) e ∙ end_is u in
    let row : s.lines.row ≡ (end_point u).row = ap (λ (z : Point). z.row) point in
    let column : s.lines.column ≡ (end_point u).column = ap (λ (z : Point). z.column) point in
    cc

pub counts_are : (b : BufferState) (r count applied waiting refused : ℕ) (s : TextSummary) → b.replica ≡ r → s ≡ summary_of (text b.history) → count ≡ length (rows (text b.history))
    → applied ≡ applied_count b.history → waiting ≡ length b.waiting → refused ≡ length b.refused → report.Replica r s.len count applied waiting refused ≡ counts_report b
counts_are b r count applied waiting refused s i e n a w f =
    let len : s.len ≡ length (text b.history) = ap (λ (z : TextSummary). z.len) e ∙ bytes_are (text b.history) in
    cc
