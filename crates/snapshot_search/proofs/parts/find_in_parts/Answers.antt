use Rattle.std.proofs.Common.{◌≡◌, ◌+◌, ◌-◌, ◌++◌, ℕ, length, slice_index, Vec, Global, ap, sym, ◌∙◌, arith}
use Rattle.std.proofs.lemmas.Result.{IfOk-at_ok}
use Rattle.snapshot_search.specs.Starts.{starts_between}
use Rattle.snapshot_search.proofs.Dividing.{no_part, part_more, all_parts}
use Rattle.snapshot_search.proofs.parts.find_in_parts.Goals as goal

pub loop-j-init : goal.loop-j-init
loop-j-init g c = c.new-all.ensures.items ∙ no_part c.args.rope.now c.args.needle.now c.requires.some _ c.requires.cuts.first

pub loop-j-preserved : goal.loop-j-preserved
loop-j-preserved g c =
    let text = c.args.rope.now in
    let needle = c.args.needle.now in
    let cuts = c.args.cuts.now in
    let j = c.loop-j.j in
    let few = c.in_ok-found.ensures.len in
    let end = c.len-j-end.ensures in
    let each = c.in_ok-found.ensures.each j c.index.result.now (omega arith) in
    let part = IfOk-at_ok (λ (v : Vec ℕ Global). v.items ≡ starts_between text needle (slice_index cuts j) (slice_index cuts (j + 1))) (sym c.index.ensures ∙ c.in-Ok.is) each in
    part_more text needle c.loop-j.all.items c.in-Ok.part.items c.extend_from_slice.new.self.items c.requires.some (slice_index cuts j) (slice_index cuts (j + 1)) (c.requires.cuts.rise j (omega arith))
    c.loop-j.invariant part (c.in_ok-extend_from_slice-in-Ok.ensures.items ∙ ap (λ l. c.loop-j.all.items ++ l) c.as_slice.ensures.value)

pub returns : goal.returns
returns g c =
    let some = c.requires.cuts.some in
    let few = c.in_ok-found.ensures.len in
    let end = c.len-j-end.ensures in
    let at : c.loop-j.j ≡ length c.args.cuts.now - 1 = omega arith in
    all_parts c.args.rope.now c.args.needle.now c.loop-j.all.items c.requires.some _ (ap (slice_index c.args.cuts.now) at ∙ c.requires.cuts.last) c.loop-j.invariant
