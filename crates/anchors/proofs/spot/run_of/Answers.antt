use Rattle.std.proofs.Common.{sym, ap, ◌∙◌}
use Rattle.std.specs.Option.{option_copied}
use Rattle.anchors.proofs.Found.{found, not_found}
use Rattle.anchors.proofs.spot.run_of.Goals as goal

pub returns-in_default-clause-run : goal.returns-in_default-clause-run
returns-in_default-clause-run c = λ u h s l.
    not_found c.args.tree.now.items c.args.index.now u h s l c.args.stamp c.args.k (sym c.find.ensures ∙ ap option_copied c.in_default.is)

pub returns-clause-run : goal.returns-clause-run
returns-clause-run c = λ u h s l.
    found c.args.tree.now.items c.args.index.now u h s l c.args.stamp c.args.k c.in-Some.id.now c.run_at.result (sym c.find.ensures ∙ ap option_copied c.in-Some.is) c.run_at.ensures.run
