use Rattle.std.proofs.Common.{◌≡◌, refl, ap, sym, ◌∙◌, subst}
use Rattle.left_right.specs.Sides.{view}
use Rattle.logbook.specs.Pages.{Named}
use Rattle.snapshot_pub.specs.Rule.{AreOf, kept_pair}
use Rattle.snapshot_pub.specs.States.{ReaderState, ToldState}
use Rattle.snapshot_pub.proofs.reader.SnapReader.learn.Goals as goal

pub invariant_of-self : goal.invariant_of-self
invariant_of-self c =
    let pair : kept_pair c.self.inside.longest ≡ kept_pair c.told.inside.kept =
    ap (λ (r : ReaderState). r.pair) c.self.view_is ∙ (sym c.requires ∙ sym (ap (λ (t : ToldState). t.pair) c.told.view_is)) in
    subst (λ (b : Named). AreOf b (view c.self.inside.end.place)) pair c.self.invariant

pub same-self : goal.same-self
same-self c = refl
