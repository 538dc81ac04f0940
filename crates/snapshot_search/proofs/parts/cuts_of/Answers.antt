use Rattle.std.proofs.Common.{◌++◌, ◌∷◌, [], ap, ◌∙◌, arith}
use Rattle.snapshot_search.proofs.Dividing.{cuts_first}
use Rattle.snapshot_search.proofs.parts.cuts_of.Goals as goal

pub loop-init : goal.loop-init
loop-init c = record {
  cuts = cuts_first c.args.rope.now c.push.new.self.items c.known.ensures.text (c.in_ok-push.ensures.items ∙ ap (λ l. l ++ 0 ∷ []) c.new-cuts.ensures.items);
  order = omega arith;
  within = omega arith;
}
