use Rattle.std.proofs.Common.{◌≡◌, ◌-◌, ◌<◌, length, take, ap, arith, length-append}
use Rattle.std.specs.List.{concat}
use Rattle.rope_chunks.proofs.Spots.{read_any, entry_step, last_entry}
use Rattle.rope_chunks.proofs.spot.entry_at.Goals as goal
use Rattle.text_dims.proofs.Sums.{sum_len}

pub returns-then-rest-bytes-clause-within : goal.returns-then-rest-bytes-clause-within
returns-then-rest-bytes-clause-within c = λ d.
    let here : c.loop-k.k < length c.args.entries.now = omega (arith, c.loop-k-test.true) in
    omega (arith, c.if-rest-bytes.true, sum_len c.index-entries-k.result c.sum.result.now c.sum.ensures, ap length (read_any c.args.entries.now c.loop-k.k c.index-entries-k.result d here c.index-entries-k.is))

pub loop-k-preserved : goal.loop-k-preserved
loop-k-preserved c =
    let here : c.loop-k.k < length c.args.entries.now = omega (arith, c.loop-k-test.true) in
    omega (arith, c.if-rest-bytes.false, c.loop-k.invariant, sum_len c.index-entries-k.result c.sum.result.now c.sum.ensures, ap length (entry_step c.args.entries.now c.loop-k.k c.index-entries-k.result here c.index-entries-k.is), length-append (concat (take c.loop-k.k c.args.entries.now)) c.index-entries-k.result)

pub returns-clause-within : goal.returns-clause-within
returns-clause-within c = λ d.
    let end : c.loop-k.k ≡ length c.args.entries.now - 1 = omega (arith, c.loop-k-test.false, c.loop-k.auto.k-end) in
    rw (← end) (last_entry c.args.entries.now c.loop-k.k c.loop-k.rest c.args.offset d (omega (arith, end, c.requires.least)) c.loop-k.invariant c.requires.within)
