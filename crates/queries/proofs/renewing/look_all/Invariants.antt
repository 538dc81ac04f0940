use Rattle.std.proofs.Common.{◌≡◌, ◌+◌, length, drop}
use Rattle.std.specs.Vec.Iter.{into_iter_items, into_iter_len}
use Rattle.snapshot_pub.specs.States.{ReaderState}
use Rattle.queries.specs.Dealt.{AllAt, told_lists}
use Rattle.queries.specs.Final.{AreBounds, HasLooked, IsBound, last_of}
use Rattle.std.specs.Prelude.{slice_index_or}
use Rattle.queries.proofs.renewing.look_all.Given as goal

abbrev pub invariant-loop-size : goal.invariant-loop-size
invariant-loop-size l = record {
  many : length l.bounds.items ≡ l.size-index;
  seen : length l.looked.items ≡ l.size-index;
  readers_left : l.size-index + into_iter_len l.readers ≡ length l.fn.readers.items;
  tolds_left : l.size-index + into_iter_len l.tolds ≡ length l.fn.tolds.items;
  readers : into_iter_items l.readers ≡ drop l.size-index l.fn.readers.items;
  tolds : into_iter_items l.tolds ≡ drop l.size-index l.fn.tolds.items;
  looks : AllAt (λ r x. (d : ReaderState) → HasLooked (last_of (told_lists l.fn.tolds.items) r) (slice_index_or l.fn.readers.items r d) x) l.looked.items;
  are : AreBounds (told_lists l.fn.tolds.items) l.looked.items l.bounds.items;
  bounds : AllAt (IsBound (told_lists l.fn.tolds.items) l.fn.readers.items) l.bounds.items;
}
