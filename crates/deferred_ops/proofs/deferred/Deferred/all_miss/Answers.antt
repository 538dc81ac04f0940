use Rattle.std.proofs.Common.{◌∙◌, subst, sym}
use Rattle.std.specs.List.{AllByRecursion}
use Rattle.std.proofs.lemmas.Bool.{and_parts}
use Rattle.deferred_ops.specs.Deferred.{AreListed, NoneSeen}
use Rattle.deferred_ops.proofs.Listing.{none_ready}
use Rattle.deferred_ops.proofs.deferred.Deferred.all_miss.Goals as goal

pub returns : goal.returns
returns c = λ e.
    let causes = c.self.inside.causes in
    let parts = and_parts _ _ (sym c.both.ensures ∙ e) in
    none_ready causes c.args.have.now c.args.self.now (subst (AllByRecursion (NoneSeen causes)) c.as_slice.ensures.entries (c.are_missed-are_missed.ensures parts.1)) (subst (AreListed causes) c.self.view_is (c.self.invariant.1 parts.0))
