use Rattle.std.proofs.Common.{◌∙◌, ap, arith, drop, length, subst, sym}
use Rattle.std.specs.List.{concat}
use Rattle.std.specs.Str.{IsCharBoundary}
use Rattle.rope_chunks.proofs.Spots.{spot_boundary}
use Rattle.rope_chunks.proofs.CutTexts.{from_none, from_text, from_each}
use Rattle.rope_chunks.proofs.rope.Rope.chunks_from.Goals as goal

pub returns-then-is_empty-clause-text : goal.returns-then-is_empty-clause-text
returns-then-is_empty-clause-text c =
    let cs = c.self.inside.chunks.items in
    from_none cs c.args.start (c.is_empty.ensures.0 c.if-is_empty.true) (omega (arith, c.requires.0, ap length c.self.view_is)) ∙ ap (drop c.args.start) c.self.view_is

pub split_at-requires : goal.split_at-requires
split_at-requires c =
    let cs = c.self.inside.chunks.items in
    let s = c.spot_and_rest-rest.result.0 in
    let start : IsCharBoundary (concat cs) c.args.start = subst (λ bs. IsCharBoundary bs c.args.start) (sym c.self.view_is) c.requires in
    rw c.as_str.ensures.value (spot_boundary cs c.args.start s.index s.chunk.now s.place c.spot_and_rest-rest.ensures.spot start)

pub returns-clause-text : goal.returns-clause-text
returns-clause-text c =
    let cs = c.self.inside.chunks.items in
    let s = c.spot_and_rest-rest.result.0 in
    from_text cs s.chunk.now s.index s.place c.args.start c.split_at.result.1.now c.spot_and_rest-rest.result.1 c.spot_and_rest-rest.ensures.spot (c.split_at.ensures.back ∙ ap (drop s.place) c.as_str.ensures.value) c.spot_and_rest-rest.ensures.rest
    ∙ ap (drop c.args.start) c.self.view_is

pub returns-clause-each : goal.returns-clause-each
returns-clause-each c =
    let cs = c.self.inside.chunks.items in
    let s = c.spot_and_rest-rest.result.0 in
    let start : IsCharBoundary (concat cs) c.args.start = subst (λ bs. IsCharBoundary bs c.args.start) (sym c.self.view_is) c.requires in
    from_each cs s.chunk.now s.index s.place c.args.start c.split_at.result.1.now c.spot_and_rest-rest.result.1 c.spot_and_rest-rest.ensures.spot (c.split_at.ensures.back ∙ ap (drop s.place) c.as_str.ensures.value) c.spot_and_rest-rest.ensures.rest c.self.invariant.each start
