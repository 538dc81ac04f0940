use Rattle.std.proofs.Common.{◌≡◌, length}
use Rattle.tree_cursor.specs.declared.traits.Bias.TheVariants.{Left}
use Rattle.text_dims.specs.Places.{walk}
use Rattle.rope_chunks.specs.Stops.{stop, HasRoom}
use Rattle.rope_chunks.proofs.look.stop_in.Given as goal

abbrev pub invariant-loop-front : goal.invariant-loop-front
invariant-loop-front g l = record {
  rest : stop (λ k. g.G.Target.passes l.target k Left) l.fn.start (walk l.fn.start l.fn.text) ≡ stop (λ k. g.G.Target.passes l.target k Left) l.place (walk l.place l.rest);
  room : HasRoom l.place (length l.rest);
}

abbrev pub decreases-loop-front : goal.decreases-loop-front
decreases-loop-front g l = length l.rest
