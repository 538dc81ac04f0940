use Rattle.std.proofs.Common.{◌≡◌, ◌∙◌, ap, sym, subst}
use Rattle.sum_tree.proofs.here.sum_with.Goals as goal

pub add-requires : goal.add-requires
add-requires g c =
    let S = g.T.Summary.Summary in
    subst (λ (z : _). S.fits (S.op z c.args.sum.now)) (sym c.zero-new.ensures) c.requires.begun

pub add-requires-2 : goal.add-requires-2
add-requires-2 g c =
    let S = g.T.Summary.Summary in
    let begun : c.add.new.self ≡ S.op S.empty c.args.sum.now = c.in_ok-add.ensures.ok ∙ ap (λ (z : _). S.op z c.args.sum.now) c.zero-new.ensures in
    let all : S.op c.add.new.self c.sum.result.now ≡ S.op (S.op S.empty c.args.sum.now) (g.T.Item.sum_of c.args.entry.now) = ap (λ (z : _). S.op z c.sum.result.now) begun ∙ ap (S.op (S.op S.empty c.args.sum.now)) c.sum.ensures in
    subst S.fits (sym all) c.requires.fits
