use Rattle.std.proofs.Common.{sym, ◌∙◌}
use Rattle.text_buffer.specs.Settling.{IsStoppedPass}
use Rattle.text_buffer.proofs.Taken.{on_err}
use Rattle.text_buffer.proofs.OnWay.{on_start, on_turn, on_end, on_stopped}
use Rattle.text_buffer.proofs.buffer.Buffer.pass.Goals as goal

pub loop-stamp-init : goal.loop-stamp-init
loop-stamp-init c = on_start c.args.self.now

pub returns-in_err-stamp-clause-stopped : goal.returns-in_err-stamp-clause-stopped
returns-in_err-stamp-clause-stopped c = on_err c.from_residual.result (IsStoppedPass c.args.self.now c.next_turn.new.self) (on_stopped c.args.self.now c.loop-stamp.after c.loop-stamp.self c.next_turn.new.self c.loop-stamp.invariant c.in_err-stamp.ensures.err)

pub loop-stamp-smaller : goal.loop-stamp-smaller
loop-stamp-smaller c = (on_turn c.args.self.now c.loop-stamp.after c.loop-stamp.self c.next_turn.new.self c.in-Some.stamp c.loop-stamp.invariant c.in_ok-stamp.ensures.buffer.waiting_ascending (sym c.in-Some.is ∙ c.in_ok-stamp.ensures.ready) c.in_ok-stamp.ensures.turn).1

pub loop-stamp-preserved : goal.loop-stamp-preserved
loop-stamp-preserved c = (on_turn c.args.self.now c.loop-stamp.after c.loop-stamp.self c.next_turn.new.self c.in-Some.stamp c.loop-stamp.invariant c.in_ok-stamp.ensures.buffer.waiting_ascending (sym c.in-Some.is ∙ c.in_ok-stamp.ensures.ready) c.in_ok-stamp.ensures.turn).0

pub returns-clause-ok : goal.returns-clause-ok
returns-clause-ok c = on_end c.args.self.now c.loop-stamp.after c.loop-stamp.self c.next_turn.new.self c.loop-stamp.invariant (sym c.in_default.is ∙ c.in_ok-stamp.ensures.ready) c.in_ok-stamp.ensures.turn
