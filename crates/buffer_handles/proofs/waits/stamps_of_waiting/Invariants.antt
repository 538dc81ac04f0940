use Rattle.std.proofs.Common.{◌-◌, length}
use Rattle.buffer_handles.proofs.Listing.{IsListing}
use Rattle.buffer_handles.proofs.waits.stamps_of_waiting.Given as goal

abbrev pub invariant-loop-last : goal.invariant-loop-last
invariant-loop-last l = IsListing l.waiting l.stamps.items l.last

abbrev pub decreases-loop-last : goal.decreases-loop-last
decreases-loop-last l = l.len - length l.stamps.items
