use Rattle.std.proofs.Common.{ap, sym, ◌∙◌}
use Rattle.text_buffer.specs.Buffer.{BufferState}
use Rattle.text_buffer.specs.Settling.{next_ready, after_next_turn}
use Rattle.text_buffer.proofs.OnWay.{turn_done}
use Rattle.text_buffer.proofs.buffer.Buffer.next_turn.Goals as goal

pub returns-clause-turn : goal.returns-clause-turn
returns-clause-turn c =
    turn_done c.args.after c.watch.new.self c.meet.new.self c.leave.new.self c.in-Some.op c.stamp-stamp.result (sym c.in_ok-op.ensures ∙ c.in-Some.is) c.stamp-stamp.ensures c.in_ok-meet.ensures.ok c.leave.ensures
    ∙ ap (λ (b : BufferState). after_next_turn (next_ready c.args.after b) b) c.watch.ensures
