use Rattle.std.proofs.Common.{◌≡◌, ◌∙◌, ap, subst, [], is_some, length}
use Rattle.op_model.specs.Edits.{is_boundary}
use Rattle.multi_buffer.specs.State.{MultiState, multi_text}
use Rattle.multi_buffer.specs.Places.{to_source}
use Rattle.multi_buffer.proofs.Parting.{position_is}
use Rattle.multi_buffer.proofs.multi.MultiBuffer.is_position.Goals as goal

pub returns : goal.returns
returns c =
    c.is_some.ensures ∙ ap is_some c.to_source.ensures
    ∙ subst (λ (m : MultiState). is_some (to_source m c.args.offset) ≡ is_boundary (multi_text m) c.args.offset) c.self.view_is
    (position_is c.self.inside.excerpts c.self.inside.sources.items c.self.invariant.excerpts (λ (e : c.self.inside.excerpts ≡ []). c.if-len-eq0.false (c.len.ensures ∙ ap length e)) c.args.offset)
