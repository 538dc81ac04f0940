use Rattle.std.proofs.Common.{◌-◌, ◌∙◌, List, ℕ, ap}
use Rattle.std.specs.List.{slice_range}
use Rattle.rope_chunks.proofs.Spots.{spot_before, part_between, spot_boundary}
use Rattle.rope_chunks.proofs.cut.text_in_chunk.Goals as goal

pub range-requires-clause-start_boundary : goal.range-requires-clause-start_boundary
range-requires-clause-start_boundary c _ =
    let cs = c.args.tree.now.items in
    let s = c.spot_of-last.result in
    let first = s.place - (c.args.end - c.args.start) in
    let there = spot_before cs c.args.start c.args.end s.index s.chunk.now s.place c.spot_of-last.ensures c.requires.order c.if-last-bytes.false in
    rw c.as_str.ensures.value (spot_boundary cs c.args.start s.index s.chunk.now first there c.requires.start)

pub range-requires-clause-end_boundary : goal.range-requires-clause-end_boundary
range-requires-clause-end_boundary c =
    let cs = c.args.tree.now.items in
    let s = c.spot_of-last.result in
    rw c.as_str.ensures.value (spot_boundary cs c.args.end s.index s.chunk.now s.place c.spot_of-last.ensures c.requires.end)

pub returns : goal.returns
returns c =
    let cs = c.args.tree.now.items in
    let s = c.spot_of-last.result in
    let first = s.place - (c.args.end - c.args.start) in
    let there = spot_before cs c.args.start c.args.end s.index s.chunk.now s.place c.spot_of-last.ensures c.requires.order c.if-last-bytes.false in
    c.range.ensures.value ∙ ap (λ (t : List ℕ). slice_range t first s.place) c.as_str.ensures.value
    ∙ part_between cs c.args.start c.args.end s.index s.chunk.now first s.place there c.spot_of-last.ensures c.requires.order
