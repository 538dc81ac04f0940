use Rattle.std.proofs.Common.{◌≡◌, ◌-◌, drop, length}
use Rattle.tree_cursor.specs.declared.traits.Bias.TheVariants.{Left}
use Rattle.text_dims.specs.Places.{walk}
use Rattle.rope_chunks.specs.Stops.{stop, HasRoom}
use Rattle.rope_chunks.proofs.look.stop_by_bytes.Given as goal

abbrev pub invariant-loop-byte : goal.invariant-loop-byte
invariant-loop-byte g l = record {
  rest : stop (λ k. g.G.Target.passes l.target k Left) l.fn.start (walk l.fn.start l.bytes) ≡ stop (λ k. g.G.Target.passes l.target k Left) l.before (walk l.at (drop l.byte-index l.bytes));
  room : HasRoom l.at (length l.bytes - l.byte-index);
}
