use Rattle.std.proofs.Common.{◌≡◌, map, ◌++◌}
use Rattle.multi_buffer.specs.Groups.{pieces_in}
use Rattle.multi_buffer.proofs.grouping.finish.Given as goal

abbrev pub invariant-loop-group : goal.invariant-loop-group
invariant-loop-group l = l.list.items ++ map pieces_in l.group-iterator.rest.items ≡ map pieces_in l.fn.groups.items
