use Rattle.std.proofs.Common.{◌∙◌, ◌+◌, ◌<◌, length, ap, sym, arith}
use Rattle.std.specs.Option.{option_copied}
use Rattle.remote_edit.proofs.RangeMoves.{left_next}
use Rattle.remote_edit.proofs.edit_moves.left_after.Goals as goal

pub without-requires-clause-visible : goal.without-requires-clause-visible
without-requires-clause-visible c =
    let k = left_next c.args.tree.now.items c.args.at c.in-Some.fragment.now c.args.left (sym c.get.ensures ∙ ap option_copied c.in-Some.is) c.requires.left in omega (arith, k.0)

pub without-requires-clause-hidden : goal.without-requires-clause-hidden
without-requires-clause-hidden c =
    let k = left_next c.args.tree.now.items c.args.at c.in-Some.fragment.now c.args.left (sym c.get.ensures ∙ ap option_copied c.in-Some.is) c.requires.left in omega (arith, k.1)

pub returns-in-Some : goal.returns-in-Some
returns-in-Some c =
    let k = left_next c.args.tree.now.items c.args.at c.in-Some.fragment.now c.args.left (sym c.get.ensures ∙ ap option_copied c.in-Some.is) c.requires.left in
    let v = c.without.ensures.visible in
    let h = c.without.ensures.hidden in
    (omega (arith, k.0, v), omega (arith, k.1, h))
