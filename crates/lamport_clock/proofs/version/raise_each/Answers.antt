use Rattle.std.proofs.Common.{◌≡◌, ◌<◌, ◌∙◌, ap, arith, length, get_or}
use Rattle.lamport_clock.proofs.Joining.{joined_each, same_head, same_rest}
use Rattle.lamport_clock.proofs.version.raise_each.Goals as goal

pub loop-i-preserved : goal.loop-i-preserved
loop-i-preserved c =
    let u = c.loop-i.ours in
    let v = c.args.theirs.now in
    let w = c.args.ours.now in
    let i = c.loop-i.i in
    let within : i < length v = omega (arith, c.loop-i-test.true) in
    let long : length u ≡ length v = omega (arith, c.loop-i.auto.ours, c.requires.same.0) in
    let here : i < length u = omega (arith, within, long) in
    let there : i < length w = omega (arith, within, c.requires.same.0) in
    let same : (get_or u i (0, 0)).0 ≡ (get_or v i (0, 0)).0 = ap (λ e. e.0) (same_head u w i here there c.loop-i.invariant.rest) ∙ c.requires.same.1 i there in
    record {
      rest = same_rest u w i ((get_or v i (0, 0)).0, c.max-greater.result) here there c.loop-i.invariant.rest;
      same = c.loop-i.invariant.same ∙ joined_each u v i c.max-greater.result c.requires.theirs within long same c.max-greater.ensures;
    }
