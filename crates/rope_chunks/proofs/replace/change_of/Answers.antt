use Rattle.std.proofs.Common.{◌≡◌, ◌+◌, ◌-◌, ◌∙◌, take, drop, ap, subst, arith}
use Rattle.std.specs.List.{concat}
use Rattle.std.proofs.lemmas.Option.{slice_get_within}
use Rattle.rope_chunks.specs.Spots.{IsSpot, IsChange}
use Rattle.rope_chunks.proofs.Grows.{are_short}
use Rattle.rope_chunks.proofs.Spots.{spot_boundary}
use Rattle.rope_chunks.proofs.Changes.{replaced_all}
use Rattle.rope_chunks.proofs.replace.change_of.Goals as goal

pub split_at-requires : goal.split_at-requires
split_at-requires c =
    let s = c.spot_of-first.result in
    rw c.as_str.ensures.value (spot_boundary c.args.tree.now.items c.args.start s.index s.chunk.now s.place c.spot_of-first.ensures c.requires.start)

pub split_at-requires-2 : goal.split_at-requires-2
split_at-requires-2 c =
    let s = c.spot_behind-last.result in
    let there : c.args.start + (c.args.end - c.args.start) ≡ c.args.end = omega (arith, c.requires.order) in
    let last : IsSpot c.args.tree.now.items c.args.end s.index s.chunk.now s.place = subst (λ n. IsSpot c.args.tree.now.items n s.index s.chunk.now s.place) there c.spot_behind-last.ensures.spot in
    rw c.as_str-2.ensures.value (spot_boundary c.args.tree.now.items c.args.end s.index s.chunk.now s.place last c.requires.end)

pub overflow_add-last : goal.overflow_add-last
overflow_add-last c =
    let s = c.spot_behind-last.result in
    omega (arith, slice_get_within c.args.tree.now.items s.index s.chunk.now c.spot_behind-last.ensures.spot.at, are_short c.args.tree.now.items c.requires.chunks)

pub change_to-requires-2-clause-within : goal.change_to-requires-2-clause-within
change_to-requires-2-clause-within c =
    let s = c.spot_behind-last.result in
    omega (arith, slice_get_within c.args.tree.now.items s.index s.chunk.now c.spot_behind-last.ensures.spot.at)

pub returns : goal.returns
returns c =
    let cs = c.args.tree.now.items in
    let f = c.spot_of-first.result in
    let s = c.spot_behind-last.result in
    let r = c.in_ok-change_to-2.field-0 in
    let there : c.args.start + (c.args.end - c.args.start) ≡ c.args.end = omega (arith, c.requires.order) in
    let last : IsSpot cs c.args.end s.index s.chunk.now s.place = subst (λ n. IsSpot cs n s.index s.chunk.now s.place) there c.spot_behind-last.ensures.spot in
    subst (λ bs. IsChange cs bs r.from r.to r.chunks.items)
    (replaced_all cs c.args.start c.args.end f.index s.index f.place s.place f.chunk.now s.chunk.now c.args.text.now c.split_at.result.0.now c.split_at-2.result.1.now c.as_str-3.result.now c.spot_of-first.ensures last (c.split_at.ensures.front ∙ ap (take f.place) c.as_str.ensures.value) (c.split_at-2.ensures.back ∙ ap (drop s.place) c.as_str-2.ensures.value) (c.as_str-3.ensures.value ∙ c.in_ok-whole.ensures))
    c.in_ok-change_to-2.ensures

pub returns-then-fill_one : goal.returns-then-fill_one
returns-then-fill_one c =
    let cs = c.args.tree.now.items in
    let f = c.spot_of-first.result in
    let s = c.spot_behind-last.result in
    let there : c.args.start + (c.args.end - c.args.start) ≡ c.args.end = omega (arith, c.requires.order) in
    let last : IsSpot cs c.args.end s.index s.chunk.now s.place = subst (λ n. IsSpot cs n s.index s.chunk.now s.place) there c.spot_behind-last.ensures.spot in
    record {
      order = omega (arith, c.spot_behind-last.ensures.order);
      within = omega (arith, slice_get_within cs s.index s.chunk.now last.at);
      text = replaced_all cs c.args.start c.args.end f.index s.index f.place s.place f.chunk.now s.chunk.now c.args.text.now c.split_at.result.0.now c.split_at-2.result.1.now (concat c.in_ok-chunks.chunks.items) c.spot_of-first.ensures last (c.split_at.ensures.front ∙ ap (take f.place) c.as_str.ensures.value) (c.split_at-2.ensures.back ∙ ap (drop s.place) c.as_str-2.ensures.value) c.in_ok-chunks.ensures.text;
      each = c.in_ok-chunks.ensures.each;
    }

pub overflow_add-result : goal.overflow_add-result
overflow_add-result c =
    let s = c.spot_behind-last.result in
    omega (arith, slice_get_within c.args.tree.now.items s.index s.chunk.now c.spot_behind-last.ensures.spot.at, are_short c.args.tree.now.items c.requires.chunks)
