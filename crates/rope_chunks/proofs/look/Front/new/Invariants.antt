use Rattle.std.proofs.Common.{◌≡◌, ◌-◌, ◌<◌, ◌≤◌, length, take}
use Rattle.text_dims.specs.Places.{end_place, place_sum}
use Rattle.rope_chunks.proofs.look.Front.new.Given as goal

abbrev pub invariant-loop-front : goal.invariant-loop-front
invariant-loop-front l = record {
  some : 0 < l.front.len;
  within : l.front.len ≤ length l.bytes;
  place : l.front.place ≡ place_sum l.fn.start (end_place (take l.front.len l.bytes));
}

abbrev pub decreases-loop-front : goal.decreases-loop-front
decreases-loop-front l = length l.bytes - l.front.len
