use Rattle.std.proofs.Common.{◌==◌, ◌∙◌, sym, ap}
use Rattle.std.specs.List.{position}
use Rattle.text_buffer.specs.Buffer.{BufferState, base_under}
use Rattle.session_work.proofs.Finding.{position-opened}
use Rattle.session_work.proofs.replicas.Replicas.over.Goals as goal

pub invariant_of-result : goal.invariant_of-result
invariant_of-result c = λ k lt. c.in_ok-indices.ensures k lt ∙ sym (position-opened (base_under c.args.endings c.args.base.now) k c.args.ids.now) ∙ ap (position (λ (b : BufferState). b.replica == k)) (sym c.in_ok-list.ensures)
