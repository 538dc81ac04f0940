use Rattle.std.proofs.Common.{◌≡◌, subst, sym, refl, None}
use Rattle.op_model.specs.Histories.{History}
use Rattle.fold_map.specs.Folds.{FoldState}
use Rattle.fold_map.specs.Calls.{older_replica, IsWithin}
use Rattle.fold_map.proofs.Followed.{folds_stay}
use Rattle.fold_map.proofs.Making.{not_older}
use Rattle.fold_map.proofs.map.FoldMap.sync.Goals as goal

pub spans_after-requires-clause-within : goal.spans_after-requires-clause-within
spans_after-requires-clause-within c =
    let h : History = c.self.inside.snapshot in
    let n : older_replica h c.args.snap ≡ None = not_older h c.args.snap c.version.result.now c.version-2.result.now c.first_missing.result c.version.ensures c.version-2.ensures c.first_missing.ensures c.in_default.is in
    subst (λ (m : FoldState). older_replica m.history c.args.snap ≡ None → IsWithin m.history c.args.snap) (sym c.self.view_is) c.requires n

pub invariant_of-self : goal.invariant_of-self
invariant_of-self c =
    let h : History = c.self.inside.snapshot in
    let n : older_replica h c.args.snap ≡ None = not_older h c.args.snap c.version.result.now c.version-2.result.now c.first_missing.result c.version.ensures c.version-2.ensures c.first_missing.ensures c.in_default.is in
    record {
      folds = folds_stay h c.args.snap c.known.ensures.lawful c.known-2.ensures.lawful
          (subst (λ (m : FoldState). older_replica m.history c.args.snap ≡ None → IsWithin m.history c.args.snap) (sym c.self.view_is) c.requires n) c.self.inside.folds c.self.invariant.folds;
      spans = c.in_ok-spans.ensures;
    }

pub same-self : goal.same-self
same-self c = refl

pub same-self-in_err-spans : goal.same-self-in_err-spans
same-self-in_err-spans c = refl
