use Rattle.std.proofs.Common.{◌<◌, ◌+◌, ◌^◌, length}
use Rattle.op_wire.specs.Stream.{bytes_fed}
use Rattle.wire_bench.proofs.feeds.feed_all.Given as goal

abbrev pub invariant-loop-size : goal.invariant-loop-size
invariant-loop-size l = bytes_fed l.reader + length l.rest < 2 ^ 64
