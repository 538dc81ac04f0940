use Rattle.std.proofs.Common.{◌∙◌, length, drop, ap, sym, subst, refl, arith, length-drop}
use Rattle.std.specs.List.{concat, All}
use Rattle.std.specs.Str.{IsCharBoundary}
use Rattle.std.proofs.lemmas.Str.{IsUtf8-drop}
use Rattle.std.proofs.lemmas.List.Elements.{All-drop}
use Rattle.std.proofs.lemmas.Option.{slice_get_within}
use Rattle.rope_chunks.specs.Chunks.{IsChunk}
use Rattle.rope_chunks.proofs.Spots.{spot_boundary}
use Rattle.rope_chunks.proofs.Changes.{back_all}
use Rattle.rope_chunks.proofs.cut.from_on.Goals as goal

pub split_at-requires : goal.split_at-requires
split_at-requires c =
    let s = c.spot_of-spot.result in
    rw c.as_str.ensures.value (spot_boundary c.args.tree.now.items c.args.start s.index s.chunk.now s.place c.spot_of-spot.ensures c.requires.start)

pub change_to-requires-clause-within : goal.change_to-requires-clause-within
change_to-requires-clause-within c =
    let s = c.spot_of-spot.result in
    omega (arith, slice_get_within c.args.tree.now.items s.index s.chunk.now c.spot_of-spot.ensures.at, ap length c.in_ok-back.ensures, length-drop s.index c.args.tree.now.items)

pub make-requires-clause-each : goal.make-requires-clause-each
make-requires-clause-each c =
    subst (λ cs. All IsChunk cs) (sym c.in_ok-back.ensures) (All-drop IsChunk c.spot_of-spot.result.index c.args.tree.now.items c.requires.chunks.each)

pub make-requires-clause-few : goal.make-requires-clause-few
make-requires-clause-few c =
    let s = c.spot_of-spot.result in
    let cs = c.args.tree.now.items in
    omega (arith, ap length (back_all cs c.in_ok-back.back.items c.args.start s.index s.chunk.now s.place c.split_at.result.1.now _ c.spot_of-spot.ensures c.in_ok-back.ensures (c.split_at.ensures.back ∙ ap (drop s.place) c.as_str.ensures.value) c.in_ok-change.ensures.text), length-drop c.args.start (concat cs), c.requires.chunks.few)

pub returns-clause-text : goal.returns-clause-text
returns-clause-text c =
    let s = c.spot_of-spot.result in
    let cs = c.args.tree.now.items in
    back_all cs c.in_ok-back.back.items c.args.start s.index s.chunk.now s.place c.split_at.result.1.now _ c.spot_of-spot.ensures c.in_ok-back.ensures (c.split_at.ensures.back ∙ ap (drop s.place) c.as_str.ensures.value) (c.in_ok-make.ensures.text ∙ c.in_ok-change.ensures.text)

pub change_to-requires-text-text : goal.change_to-requires-text-text
change_to-requires-text-text c κs =
    let s = c.spot_of-spot.result in
    let cut : IsCharBoundary c.as_str.result.now s.place = rw c.as_str.ensures.value (spot_boundary c.args.tree.now.items c.args.start s.index s.chunk.now s.place c.spot_of-spot.ensures c.requires.start) in
    rw c.split_at.ensures.back (IsUtf8-drop c.as_str.result.now s.place c.as_str.utf8 cut)

pub change_to-requires-clause-order : goal.change_to-requires-clause-order
change_to-requires-clause-order c = omega arith

pub same-back : goal.same-back
same-back c = refl

pub same-back-2 : goal.same-back-2
same-back-2 c = refl

pub make-requires-clause-order : goal.make-requires-clause-order
make-requires-clause-order c = c.in_ok-change.ensures.order

pub make-requires-clause-within : goal.make-requires-clause-within
make-requires-clause-within c = c.in_ok-change.ensures.within

pub make-requires-clause-new : goal.make-requires-clause-new
make-requires-clause-new c = c.in_ok-change.ensures.each
