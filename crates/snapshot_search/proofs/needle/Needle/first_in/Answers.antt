use Rattle.std.proofs.Common.{◌≡◌, subst}
use Rattle.memchr.specs.Find.{FindsNeedle}
use Rattle.snapshot_search.proofs.needle.Needle.first_in.Goals as goal

-- the finder looks for the needle's bytes
pub returns : goal.returns
returns c =
    let finds = c.self.invariant.finds in
    let view = c.self.view_is in
    let same : c.self.inside.finder ≡ c.args.self.now = cc in
    subst (λ needle. FindsNeedle c.args.piece.now needle 0 c.find.result) same c.find.ensures
