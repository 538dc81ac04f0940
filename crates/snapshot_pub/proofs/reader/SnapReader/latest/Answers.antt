use Rattle.left_right.specs.Sides.{view}
use Rattle.snapshot_pub.specs.Rule.{IsSeen, kept_pair}
use Rattle.snapshot_pub.proofs.Following.{lists_may, lists_seen, seen_pair, seen_own}
use Rattle.snapshot_pub.proofs.reader.SnapReader.latest.Goals as goal

pub invariant_of-self-in-Some : goal.invariant_of-self-in-Some
invariant_of-self-in-Some c =
    let told : IsSeen (view c.self.inside.end.place) c.in-Some.kept (view c.look_in.new.end.place) = rw c.in-Some.is at c.in_ok-kept.ensures.seen in
    seen_own _ _ c.in-Some.kept (kept_pair c.self.inside.longest) c.self.invariant told

pub take-requires-clause-own : goal.take-requires-clause-own
take-requires-clause-own c =
    let told : IsSeen (view c.self.inside.end.place) c.in-Some.kept (view c.look_in.new.end.place) = rw c.in-Some.is at c.in_ok-kept.ensures.seen in
    seen_pair _ _ c.in-Some.kept (kept_pair c.self.inside.longest) c.self.invariant told

pub returns-in-Some-clause-seen : goal.returns-in-Some-clause-seen
returns-in-Some-clause-seen c =
    let told : IsSeen (view c.self.inside.end.place) c.in-Some.kept (view c.look_in.new.end.place) = rw c.in-Some.is at c.in_ok-kept.ensures.seen in
    rw (c.take.ensures.seen, ← c.self.view_is) (lists_seen _ _ c.in-Some.kept told)

pub returns-in_err-kept-clause-seen : goal.returns-in_err-kept-clause-seen
returns-in_err-kept-clause-seen c = rw (← c.self.view_is) (lists_may _ _ c.in_err-kept.ensures.seen)
