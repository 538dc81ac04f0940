use Rattle.std.proofs.Common.{◌≡◌, List, length, drop, reverse}
use Rattle.op_model.specs.declared.operation.Operation.{Operation}
use Rattle.queries.specs.Asks.{Ask, asks_to}
use Rattle.queries.specs.Dealt.{AllAt, AreNumbered}
use Rattle.queries.specs.Final.{AreFinal}
use Rattle.queries.proofs.Merges.{IsTurn}
use Rattle.queries.proofs.gathering.in_order.Given as goal

abbrev pub invariant-loop-turn : goal.invariant-loop-turn
invariant-loop-turn g l = record {
  count : length l.lists.items ≡ length l.fn.lists.items;
  enough : (asks : List (Ask g.row.Q.Denot)) → AreNumbered asks → l.fn.count ≡ length asks → AllAt (λ w r. length r.items ≡ length (asks_to (length l.fn.lists.items) w asks)) l.fn.lists.items
      → AllAt (λ w r. length r.items ≡ length (asks_to (length l.fn.lists.items) w (drop l.turn asks))) l.lists.items;
  turns : (lasts : List (List Operation)) (asks : List (Ask g.row.Q.Denot)) → AreNumbered asks → l.fn.count ≡ length asks
      → AllAt (λ w r. AreFinal g.Q.Query.plain lasts (asks_to (length l.fn.lists.items) w asks) (reverse r.items)) l.fn.lists.items
      → IsTurn g.Q.Query.plain lasts (length l.fn.lists.items) asks (λ r. reverse r.items) l.fn.lists.items l.turn l.answers.items l.lists.items;
}
