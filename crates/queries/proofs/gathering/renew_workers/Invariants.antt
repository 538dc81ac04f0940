use Rattle.std.proofs.Common.{◌≡◌, ◌+◌, List, ◌++◌, drop, length, map, reverse, Vec, Global}
use Rattle.std.specs.List.{AllZip}
use Rattle.std.specs.Vec.Iter.{into_iter_items, into_iter_len}
use Rattle.snapshot_pub.specs.States.{ReaderState, ToldState}
use Rattle.queries.specs.Asks.{asks_of}
use Rattle.queries.specs.States.{InboxState}
use Rattle.queries.specs.declared.query.Answer.{Answer}
use Rattle.queries.specs.Final.{AreFinal, CanRenewAll}
use Rattle.queries.proofs.Renewals.{AreRenewedSoFar}
use Rattle.queries.proofs.gathering.renew_workers.Given as goal

abbrev pub invariant-loop-inbox : goal.invariant-loop-inbox
invariant-loop-inbox g l = record {
  rest : CanRenewAll g.Q.Query.plain l.sizes l.lasts (into_iter_items l.inboxes) (into_iter_items l.dones) (map (λ (v : Vec ToldState Global). v.items) (into_iter_items l.tolds));
  dones_left : into_iter_len l.dones ≡ length (into_iter_items l.dones);
  tolds_left : into_iter_len l.tolds ≡ length (into_iter_items l.tolds);
  ended : (taken : List (InboxState g.row.Q.Denot)) × (l.fn.inboxes.items ≡ taken ++ into_iter_items l.inboxes)
      × AllZip (λ (r : Vec (Answer g.row.Q.Denot g.row.A.Denot) Global) i. AreFinal g.Q.Query.plain l.lasts (asks_of i.sent) (reverse r.items)) l.lists.items taken;
  many : length l.lists.items ≡ length l.all_looked.items;
  dones_many : length l.all_looked.items + into_iter_len l.dones ≡ length l.fn.dones.items;
  dones : into_iter_items l.dones ≡ drop (length l.all_looked.items) l.fn.dones.items;
  tolds : into_iter_items l.tolds ≡ drop (length l.all_looked.items) l.fn.tolds.items;
  renewed : AreRenewedSoFar g.Q.Query.plain (map (λ (v : Vec ToldState Global). v.items) l.fn.tolds.items) l.lasts l.fn.dones.items
      (map (λ (v : Vec ReaderState Global). v.items) l.all_looked.items) (map (λ (v : Vec (Answer g.row.Q.Denot g.row.A.Denot) Global). reverse v.items) l.lists.items);
}

abbrev pub decreases-loop-inbox : goal.decreases-loop-inbox
decreases-loop-inbox g l = into_iter_len l.inboxes
