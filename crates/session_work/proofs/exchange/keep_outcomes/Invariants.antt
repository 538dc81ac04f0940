use Rattle.std.proofs.Common.{◌≡◌, ◌+◌, ◌++◌, List, length, map}
use Rattle.std.specs.Result.{result_ok}
use Rattle.std.specs.Vec.Iter.{into_iter_items}
use Rattle.text_buffer.specs.Buffer.{BufferState}
use Rattle.session_work.specs.Exchange.{AreThere, operation_in}
use Rattle.session_work.specs.Parts.{numbered}
use Rattle.session_work.proofs.exchange.keep_outcomes.Given as goal

abbrev pub invariant-loop-outcome : goal.invariant-loop-outcome
invariant-loop-outcome l = record {
  answers : l.answers.items ++ numbered (length l.named.items + 1) (into_iter_items l.outcome-iterator) ≡ numbered (length l.fn.named.items + 1) l.fn.outcomes.items;
  operations : (bs : List BufferState) → map (operation_in bs) l.named.items ++ map result_ok (into_iter_items l.outcome-iterator) ≡ map (operation_in bs) l.fn.named.items ++ map result_ok l.fn.outcomes.items;
  there : (bs : List BufferState) → AreThere bs l.fn.named.items → AreThere bs l.named.items;
}
