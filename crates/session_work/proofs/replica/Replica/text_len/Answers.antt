use Rattle.std.proofs.Common.{◌≡◌, ◌∙◌, length, ap, arith}
use Rattle.op_model.specs.Shown.{text}
use Rattle.text_dims.specs.declared.summary.TextSummary.{TextSummary}
use Rattle.text_dims.proofs.Ends.{bytes_are}
use Rattle.text_buffer.specs.Buffer.{BufferState, IsBuffer}
use Rattle.session_work.proofs.replica.Replica.text_len.Goals as goal

pub returns-clause-len : goal.returns-clause-len
returns-clause-len c =
    let same : c.self.inside.buffer ≡ c.args.self.now = cc c.self.view_is in
    ap (λ (z : TextSummary). z.len) c.summary.ensures ∙ bytes_are (text c.self.inside.buffer.history) ∙ ap (λ (b : BufferState). length (text b.history)) same

pub returns-clause-bound : goal.returns-clause-bound
returns-clause-bound c =
    let b : BufferState = c.self.inside.buffer in
    let k : IsBuffer b = c.known.ensures in
    omega (arith, ap (λ (z : TextSummary). z.len) c.summary.ensures, bytes_are (text b.history), k.history.text_bytes, k.bytes, k.most_bytes)
