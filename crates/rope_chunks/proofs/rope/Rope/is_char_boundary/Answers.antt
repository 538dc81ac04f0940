use Rattle.std.proofs.Common.{sym, subst}
use Rattle.std.specs.Str.{IsCharBoundary}
use Rattle.rope_chunks.proofs.Spots.{spot_boundary, spot_bound}
use Rattle.rope_chunks.proofs.rope.Rope.is_char_boundary.Goals as goal

pub returns : goal.returns
returns c =
    let s = c.spot_of-spot.result in
    let cs = c.self.inside.chunks.items in (
      λ t. subst (λ bs. IsCharBoundary bs c.args.offset) c.self.view_is (spot_bound cs c.args.offset s.index s.chunk.now s.place c.self.invariant.each c.spot_of-spot.ensures (subst (λ bs. IsCharBoundary bs s.place) c.as_str.ensures.value (c.is_char_boundary.ensures.test.0 t))),
      λ b. c.is_char_boundary.ensures.test.1 (subst (λ bs. IsCharBoundary bs s.place) (sym c.as_str.ensures.value) (spot_boundary cs c.args.offset s.index s.chunk.now s.place c.spot_of-spot.ensures (subst (λ bs. IsCharBoundary bs c.args.offset) (sym c.self.view_is) b))),
    )
