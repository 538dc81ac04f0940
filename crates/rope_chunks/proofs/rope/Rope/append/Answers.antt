use Rattle.std.proofs.Common.{◌≡◌, ◌+◌, ◌≤◌, ◌^◌, ap, refl, length, arith}
use Rattle.std.specs.List.{concat}
use Rattle.rope_chunks.proofs.Grows.{are_chained}
use Rattle.rope_chunks.proofs.rope.Rope.append.Goals as goal

pub same-self : goal.same-self
same-self c = refl

pub invariant_of-self : goal.invariant_of-self
invariant_of-self c =
    let a : length (concat c.self.inside.chunks.items) ≡ length c.args.self.now = ap length c.self.view_is in
    let b : length (concat c.other.inside.chunks.items) ≡ length c.args.other = ap length c.other.view_is in
    let few : length (concat c.self.inside.chunks.items) + length (concat c.other.inside.chunks.items) ≤ 2 ^ 40 = omega (arith, a, b, c.requires) in
    are_chained c.self.inside.chunks.items c.other.inside.chunks.items c.in_ok-chunks.chunks.items c.in_ok-chunks.ensures.each c.in_ok-chunks.ensures.text few
