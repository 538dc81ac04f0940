use Rattle.std.proofs.Common.{◌≡◌, drop, take}
use Rattle.std.specs.List.{flat_map}
use Rattle.buffer_handles.specs.Saving.{first_long, unseen_record}
use Rattle.buffer_handles.proofs.saving.unseen_records.Given as goal

abbrev pub invariant-loop-i : goal.invariant-loop-i
invariant-loop-i l = (l.bytes.items ≡ flat_map (unseen_record l.version) (take l.i l.applied.items))
    × (first_long l.version (drop l.i l.applied.items) ≡ first_long l.version l.applied.items)
