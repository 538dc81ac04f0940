use Rattle.std.proofs.Common.{◌≡◌, map, take}
use Rattle.text_buffer.specs.Outcomes.{pair_of}
use Rattle.c_values.specs.Refusals.{refusal}
use Rattle.buffer_handles.proofs.waits.refusals_of.Given as goal

abbrev pub invariant-loop-one : goal.invariant-loop-one
invariant-loop-one l = l.made.items ≡ map refusal (map pair_of (take l.one-index l.refused))
