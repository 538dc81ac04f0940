use Rattle.std.proofs.Common.{arith, ap, length, length-drop}
use Rattle.std.proofs.lemmas.List.{take_rest}
use Rattle.session_io.proofs.Moved.{more_written}
use Rattle.session_io.proofs.traffic.write_all.Goals as goal

pub loop-done-preserved : goal.loop-done-preserved
loop-done-preserved g c = record {
  later = omega (arith, c.loop-done.invariant.later, c.in_ok-done.ensures.cause.later);
  written = more_written _ _ _ _ _ _ c.loop-done.invariant.written c.in_ok-done.ensures.bytes;
  within = omega (arith, c.in_ok-done.ensures.bound, c.loop-done.invariant.within, ap length (take_rest c.args.text.now c.loop-done.done), length-drop c.loop-done.done c.args.text.now);
}
