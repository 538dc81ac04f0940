use Rattle.std.proofs.Common.{◌≡◌, ap, sym, ◌∙◌, subst}
use Rattle.left_right.specs.Sides.{view}
use Rattle.logbook.specs.Pages.{Named}
use Rattle.snapshot_pub.specs.Rule.{AreOf, kept_pair}
use Rattle.snapshot_pub.specs.States.{ReaderState}
use Rattle.snapshot_pub.proofs.reader.SnapReader.take.Goals as goal

pub invariant_of-self : goal.invariant_of-self
invariant_of-self c =
    let pair : kept_pair c.self.inside.longest ≡ kept_pair c.args.kept = ap (λ (r : ReaderState). r.pair) c.self.view_is ∙ sym c.requires.own in
    subst (λ (b : Named). AreOf b (view c.self.inside.end.place)) pair c.self.invariant
