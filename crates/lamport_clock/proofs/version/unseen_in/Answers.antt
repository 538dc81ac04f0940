use Rattle.std.proofs.Common.{◌∙◌, sym, subst, arith}
use Rattle.lamport_clock.specs.Versions.{IsVersion}
use Rattle.lamport_clock.proofs.Joining.{unseen_turn, version_drop}
use Rattle.lamport_clock.proofs.version.unseen_in.Goals as goal

pub returns-then-value_in_front-value : goal.returns-then-value_in_front-value
returns-then-value_in_front-value c =
    let i = c.loop-replica.invariant in
    let t = unseen_turn c.loop-replica.rest.now c.args.theirs.now c.split_at.result.1.now c.loop-replica.replica-index c.place_in.result i.version c.requires.theirs c.loop-replica-test.true c.place_in.ensures.place c.split_at.ensures.back in
    sym (i.same ∙ t.0 (omega (arith, c.value_in_front.ensures, c.if-value_in_front-value.true)))

pub loop-replica-preserved : goal.loop-replica-preserved
loop-replica-preserved c =
    let i = c.loop-replica.invariant in
    let t = unseen_turn c.loop-replica.rest.now c.args.theirs.now c.split_at.result.1.now c.loop-replica.replica-index c.place_in.result i.version c.requires.theirs c.loop-replica-test.true c.place_in.ensures.place c.split_at.ensures.back in
    record {
      version = subst IsVersion (sym c.split_at.ensures.back) (version_drop 0 c.place_in.result c.loop-replica.rest.now i.version);
      same = i.same ∙ t.1 (omega (arith, c.value_in_front.ensures, c.if-value_in_front-value.false));
    }
