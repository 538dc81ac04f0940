use Rattle.std.proofs.Common.{◌≡◌, ◌+◌, length, subst, arith}
use Rattle.multi_buffer.specs.State.{MultiState, multi_text}
use Rattle.multi_buffer.proofs.Lines.{all_count}
use Rattle.multi_buffer.proofs.Sums.{few_bytes}
use Rattle.multi_buffer.proofs.multi.MultiBuffer.len.Goals as goal

pub overflow_add-result : goal.overflow_add-result
overflow_add-result c = let b = few_bytes c.self.inside.excerpts c.known.ensures in let f = c.known.ensures.few in omega (arith, b, f, c.len.ensures, c.bytes.ensures, c.breaks.ensures)

pub returns : goal.returns
returns c =
    subst (λ (m : MultiState). c.bytes.result + c.breaks.result ≡ length (multi_text m)) c.self.view_is
    (all_count c.self.inside.sources.items c.self.inside.excerpts c.self.invariant.excerpts c.len.result c.breaks.result c.bytes.result c.len.ensures c.breaks.ensures c.bytes.ensures)
