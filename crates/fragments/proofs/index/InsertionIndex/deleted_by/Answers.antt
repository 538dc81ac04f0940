use Rattle.std.proofs.Common.{◌≡◌, ◌∙◌, ◌<◌, ◌++◌, ℕ, List, length, subst, sym, ap, arith}
use Rattle.std.specs.List.{AllByRecursion, filter, find}
use Rattle.fragments.specs.declared.deleted_run.DeletedRun.{DeletedRun}
use Rattle.fragments.specs.DeletedRuns.{IndexState, AreNumbered, is_below}
use Rattle.fragments.proofs.Runs.{IsGathered, all_below, none_below, no_further, gather_one, gather_all}
use Rattle.fragments.proofs.index.InsertionIndex.deleted_by.Goals as goal

pub loop-below-init : goal.loop-below-init
loop-below-init c =
    let rs = c.args.self.now.deletions in
    let d : c.self.inside.deletions.items ≡ c.args.self.now.deletions = ap (λ (x : IndexState). x.deletions) c.self.view_is in
    let l : c.len-below.result ≡ length c.args.self.now.deletions = c.len-below.ensures ∙ ap length d in
    record {
      gathered = ap (λ (ys : List DeletedRun). ys ++ filter (is_below c.args.edit c.len-below.result) rs) c.new-runs.ensures.items
          ∙ all_below c.args.edit c.len-below.result rs (subst (λ (n : ℕ). AllByRecursion (λ (r : DeletedRun). r.number < n) rs) (sym l) (subst AreNumbered d c.self.invariant.1).below);
    }

pub returns-in_default : goal.returns-in_default
returns-in_default c =
    let rs = c.args.self.now.deletions in
    let d : c.self.inside.deletions.items ≡ c.args.self.now.deletions = ap (λ (x : IndexState). x.deletions) c.self.view_is in
    gather_all c.args.edit rs c.loop-below.runs.items c.loop-below.below (no_further c.args.edit c.loop-below.below rs (sym (c.in_default.ensures ∙ ap (find (is_below c.args.edit c.loop-below.below)) d))) c.loop-below.invariant.gathered

pub loop-below-smaller : goal.loop-below-smaller
loop-below-smaller c =
    let rs = c.args.self.now.deletions in
    let d : c.self.inside.deletions.items ≡ c.args.self.now.deletions = ap (λ (x : IndexState). x.deletions) c.self.view_is in
    (gather_one c.args.edit rs c.loop-below.runs.items c.loop-below.below c.in-Some.run'.now (subst AreNumbered d c.self.invariant.1).ascending
    (c.in-Some.ensures ∙ ap (find (is_below c.args.edit c.loop-below.below)) d) c.loop-below.invariant.gathered).1

pub loop-below-preserved : goal.loop-below-preserved
loop-below-preserved c =
    let rs = c.args.self.now.deletions in
    let d : c.self.inside.deletions.items ≡ c.args.self.now.deletions = ap (λ (x : IndexState). x.deletions) c.self.view_is in
    record {
      gathered = subst (λ (ys : List DeletedRun). IsGathered c.args.edit rs ys c.in-Some.run'.now.number) (sym c.in_ok-push.ensures.items)
          (gather_one c.args.edit rs c.loop-below.runs.items c.loop-below.below c.in-Some.run'.now (subst AreNumbered d c.self.invariant.1).ascending
          (c.in-Some.ensures ∙ ap (find (is_below c.args.edit c.loop-below.below)) d) c.loop-below.invariant.gathered).0;
    }

pub returns : goal.returns
returns c =
    let rs = c.args.self.now.deletions in
    let q : c.loop-below.below ≡ 0 = omega (arith, c.loop-below-test.false) in
    gather_all c.args.edit rs c.loop-below.runs.items c.loop-below.below (ap (λ (n : ℕ). filter (is_below c.args.edit n) rs) q ∙ none_below c.args.edit rs) c.loop-below.invariant.gathered
