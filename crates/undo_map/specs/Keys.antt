-- The order of keys is total.
use Rattle.std.specs.Cmp.{IsTotalOrder}
use Rattle.std.proofs.lemmas.Cmp.{on_total, then_total}
use Rattle.lamport_clock.specs.Stamps.{stamp_order}
use Rattle.undo_map.specs.declared.entry.UndoKey.{UndoKey}
use Rattle.undo_map.specs.Counts.{key_cmp}

pub key_order : IsTotalOrder key_cmp
key_order = then_total (on_total (λ (k : UndoKey). k.edit) stamp_order) (on_total (λ (k : UndoKey). k.by) stamp_order)
