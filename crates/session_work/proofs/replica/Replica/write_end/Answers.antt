use Rattle.std.proofs.Common.{◌≡◌, ◌++◌, map, ap, refl, sym, ◌∙◌}
use Rattle.op_model.specs.Shown.{text}
use Rattle.session_lines.specs.Report.{line_text}
use Rattle.text_buffer.specs.Buffer.{BufferState}
use Rattle.text_buffer.specs.Outcomes.{pair_of}
use Rattle.session_work.proofs.Reports.{end_reported}
use Rattle.session_work.proofs.replica.Replica.write_end.Goals as goal

pub returns : goal.returns
returns c =
    let same : c.self.inside.buffer ≡ c.args.self.now = cc c.self.view_is in
    end_reported c.args.self.now c.self.inside.id (map pair_of c.refused.result.now) (text c.args.self.now.history) _ _ _ _
    (ap (λ (b : BufferState). b.replica) (sym same) ∙ c.self.invariant) (c.refused.ensures ∙ ap (λ (b : BufferState). b.refused) same) refl
    (c.in_ok-write_line.ensures.ok ∙ ap (λ r. c.args.out.now.items ++ line_text r) c.counts.ensures) c.in_ok-write_refused.ensures c.in_ok-write_text.ensures
