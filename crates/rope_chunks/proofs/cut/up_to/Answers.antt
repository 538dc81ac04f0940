use Rattle.std.proofs.Common.{◌+◌, ◌∙◌, length, take, ap, sym, subst, refl, arith, length-take}
use Rattle.std.specs.List.{concat, All}
use Rattle.std.specs.Str.{IsCharBoundary}
use Rattle.std.proofs.lemmas.Str.{IsUtf8-take}
use Rattle.std.proofs.lemmas.List.Elements.{All-take}
use Rattle.std.proofs.lemmas.Option.{slice_get_within}
use Rattle.rope_chunks.specs.Chunks.{IsChunk}
use Rattle.rope_chunks.proofs.Grows.{are_short}
use Rattle.rope_chunks.proofs.Spots.{spot_boundary}
use Rattle.rope_chunks.proofs.Changes.{front_all}
use Rattle.rope_chunks.proofs.cut.up_to.Goals as goal

pub split_at-requires : goal.split_at-requires
split_at-requires c =
    let s = c.spot_of-spot.result in
    rw c.as_str.ensures.value (spot_boundary c.args.tree.now.items c.args.end s.index s.chunk.now s.place c.spot_of-spot.ensures c.requires.end)

pub overflow_add-spot : goal.overflow_add-spot
overflow_add-spot c =
    let s = c.spot_of-spot.result in
    omega (arith, slice_get_within c.args.tree.now.items s.index s.chunk.now c.spot_of-spot.ensures.at, are_short c.args.tree.now.items c.requires.chunks)

pub overflow_add-spot-2 : goal.overflow_add-spot-2
overflow_add-spot-2 c =
    let s = c.spot_of-spot.result in
    omega (arith, slice_get_within c.args.tree.now.items s.index s.chunk.now c.spot_of-spot.ensures.at, are_short c.args.tree.now.items c.requires.chunks)

pub change_to-requires-clause-within : goal.change_to-requires-clause-within
change_to-requires-clause-within c =
    let s = c.spot_of-spot.result in
    omega (arith, slice_get_within c.args.tree.now.items s.index s.chunk.now c.spot_of-spot.ensures.at, ap length c.in_ok-front.ensures, length-take (s.index + 1) c.args.tree.now.items)

pub make-requires-clause-each : goal.make-requires-clause-each
make-requires-clause-each c =
    subst (λ cs. All IsChunk cs) (sym c.in_ok-front.ensures) (All-take IsChunk (c.spot_of-spot.result.index + 1) c.args.tree.now.items c.requires.chunks.each)

pub make-requires-clause-few : goal.make-requires-clause-few
make-requires-clause-few c =
    let s = c.spot_of-spot.result in
    let cs = c.args.tree.now.items in
    omega (arith, ap length (front_all cs c.in_ok-front.front.items c.args.end s.index s.chunk.now s.place c.split_at.result.0.now _ c.spot_of-spot.ensures c.in_ok-front.ensures (c.split_at.ensures.front ∙ ap (take s.place) c.as_str.ensures.value) c.in_ok-change.ensures.text), length-take c.args.end (concat cs), c.requires.chunks.few, c.requires.end.0)

pub returns-clause-text : goal.returns-clause-text
returns-clause-text c =
    let s = c.spot_of-spot.result in
    let cs = c.args.tree.now.items in
    front_all cs c.in_ok-front.front.items c.args.end s.index s.chunk.now s.place c.split_at.result.0.now _ c.spot_of-spot.ensures c.in_ok-front.ensures (c.split_at.ensures.front ∙ ap (take s.place) c.as_str.ensures.value) (c.in_ok-make.ensures.text ∙ c.in_ok-change.ensures.text)

pub change_to-requires-text-text : goal.change_to-requires-text-text
change_to-requires-text-text c κs =
    let s = c.spot_of-spot.result in
    let cut : IsCharBoundary c.as_str.result.now s.place = rw c.as_str.ensures.value (spot_boundary c.args.tree.now.items c.args.end s.index s.chunk.now s.place c.spot_of-spot.ensures c.requires.end) in
    rw c.split_at.ensures.front (IsUtf8-take c.as_str.result.now s.place c.as_str.utf8 cut)

pub change_to-requires-clause-order : goal.change_to-requires-clause-order
change_to-requires-clause-order c = omega arith

pub same-front : goal.same-front
same-front c = refl

pub same-front-2 : goal.same-front-2
same-front-2 c = refl

pub make-requires-clause-order : goal.make-requires-clause-order
make-requires-clause-order c = c.in_ok-change.ensures.order

pub make-requires-clause-within : goal.make-requires-clause-within
make-requires-clause-within c = c.in_ok-change.ensures.within

pub make-requires-clause-new : goal.make-requires-clause-new
make-requires-clause-new c = c.in_ok-change.ensures.each
