use Rattle.std.proofs.Common.{◌≡◌, ◌-◌, ◌∙◌, length, ap, sym}
use Rattle.op_model.specs.Shown.{text}
use Rattle.text_dims.specs.Summaries.{summary_of}
use Rattle.text_buffer.specs.Buffer.{BufferState}
use Rattle.std.proofs.lemmas.List.{length-map}
use Rattle.text_buffer.specs.Outcomes.{pair_of}
use Rattle.session_work.proofs.Ends.{counts_are}
use Rattle.session_work.proofs.replica.Replica.counts.Goals as goal

pub returns : goal.returns
returns c =
    let same : c.self.inside.buffer ≡ c.args.self.now = cc c.self.view_is in
    counts_are c.args.self.now c.self.inside.id c.row_count.result c.saturating_sub.result c.len-2.result (length c.refused.result.now) c.summary.result.now
    (ap (λ (b : BufferState). b.replica) (sym same) ∙ c.self.invariant) (c.summary.ensures ∙ ap (λ (b : BufferState). summary_of (text b.history)) same) c.row_count.ensures
    (c.saturating_sub.ensures ∙ ap (λ n. n - 1) (c.len.ensures ∙ ap length (c.applied.ensures ∙ ap (λ (b : BufferState). b.history) same)))
    (c.len-2.ensures.len ∙ ap length (c.deferred.ensures ∙ ap (λ (b : BufferState). b.waiting) same))
    (sym (length-map c.refused.result.now pair_of) ∙ ap length (c.refused.ensures ∙ ap (λ (b : BufferState). b.refused) same))
