use Rattle.std.proofs.Common.{◌≡◌, ℕ, ◌+◌, ◌-◌, ◌<◌, ◌∙◌, length, ap, sym, subst, arith, Result, Vec, Global, IfOk}
use Rattle.std.specs.Prelude.{slice_index, slice_index_or}
use Rattle.std.specs.List.{AllZip, range_with_len}
use Rattle.std.specs.declared.alloc.AllocError.{AllocError as OutOfMemory}
use Rattle.std.proofs.lemmas.List.FromFn.{length-range_with_len}
use Rattle.std.proofs.lemmas.Slice.Zip.{AllZip-long}
use Rattle.rayon.specs.Numbers.{nat_range}
use Rattle.rayon.proofs.ListFacts.{IfOk-then}
use Rattle.rayon.proofs.ToStd.{nat_range-All}
use Rattle.snapshot_search.specs.Starts.{starts_between}
use Rattle.snapshot_search.specs.Parts.{AreCuts}
use Rattle.snapshot_search.proofs.Dividing.{item_at}
use Rattle.snapshot_search.proofs.parts.find_each.Goals as goal

pub collect-requires-clause-ready : goal.collect-requires-clause-ready
collect-requires-clause-ready g c κs within =
    let cuts = c.args.cuts.now in
    let text = c.args.rope.now in
    let ends = c.into_par_iter.ensures in
    let some = c.requires.some in
    let inside = nat_range-All (λ j. (j + 1 < length cuts) × AreCuts text cuts (length text)) 0 (length cuts - 1) (λ j low high. (omega arith, c.requires)) in
    rw (c.map.ensures.base, c.map.ensures.f, c.with_min_len.ensures.base, ends.0, ends.1) (λ k d lt. (inside k d lt, λ y p. tt))

pub returns-clause-len : goal.returns-clause-len
returns-clause-len g c =
    let n = length c.args.cuts.now - 1 in
    let some = c.requires.some in
    let ends = c.into_par_iter.ensures in
    let whole : n - 0 ≡ n = omega arith in
    IfOk-then c.collect.result _ _ c.collect.ensures (λ v h.
    let chain = rw (c.map.ensures.base, c.map.ensures.f, c.with_min_len.ensures.base) at h.1 in
    let numbers = chain.1 ∙ (λ i. nat_range (ends.0 i) (ends.1 i)) ∙ ap (range_with_len 0) whole in
    let count = ap length numbers ∙ length-range_with_len 0 n in
    let long = AllZip-long _ chain.0 h.0 chain.2 in
    let same = ap length h.2 in
    omega arith)

pub returns-clause-each : goal.returns-clause-each
returns-clause-each g c =
    let cuts = c.args.cuts.now in
    let text = c.args.rope.now in
    let needle = c.args.needle.now in
    let n = length cuts - 1 in
    let ends = c.into_par_iter.ensures in
    let whole : n - 0 ≡ n = omega arith in
    let Finds : ℕ → Result (Vec ℕ Global) OutOfMemory → Type 0 = λ j r. IfOk r (λ part. part.items ≡ starts_between text needle (slice_index cuts j) (slice_index cuts (j + 1))) in
    IfOk-then c.collect.result _ _ c.collect.ensures (λ v h j d within.
    let chain = rw (c.map.ensures.base, c.map.ensures.f, c.with_min_len.ensures.base) at h.1 in
    let numbers = chain.1 ∙ (λ i. nat_range (ends.0 i) (ends.1 i)) ∙ ap (range_with_len 0) whole in
    let all = subst (λ js. AllZip Finds js h.0) numbers chain.2 in
    subst (λ l. Finds j (slice_index_or l j d)) (sym h.2) (item_at Finds 0 n h.0 all j d (omega arith) j (omega arith)))
