use Rattle.std.proofs.Common.{◌∙◌, [], ap}
use Rattle.op_model.specs.Rules.{answer_under}
use Rattle.op_model.specs.Settled.{full_fault}
use Rattle.op_model.proofs.answers.Under.{under_good}
use Rattle.text_buffer.specs.Buffer.{BufferState, rules}
use Rattle.text_buffer.specs.BufferInside.{state_of}
use Rattle.text_buffer.proofs.Applied.{IsBuffer-put, room_for}
use Rattle.text_buffer.proofs.buffer.Buffer.with_operation.Goals as goal

pub with_operation-requires : goal.with_operation-requires
with_operation-requires c =
    let b : BufferState = state_of c.self.inside in
    record {
      proper = c.requires.proper;
      good = (under_good b.endings b.history [] c.args.op (ap (λ (b : BufferState). answer_under b.endings b.history [] c.args.op) c.self.view_is ∙ c.requires.good)).0;
      room = room_for b c.args.op c.self.invariant (ap (λ (b : BufferState). full_fault (rules b) b.history c.args.op) c.self.view_is ∙ c.requires.room);
    }

pub invariant_of-result : goal.invariant_of-result
invariant_of-result c =
    IsBuffer-put (state_of c.self.inside) c.args.op c.in_ok-document.document c.self.invariant c.known.ensures
    (ap (λ (b : BufferState). answer_under b.endings b.history [] c.args.op) c.self.view_is ∙ c.requires.good)
    (ap (λ (b : BufferState). full_fault (rules b) b.history c.args.op) c.self.view_is ∙ c.requires.room) c.in_ok-document.ensures
