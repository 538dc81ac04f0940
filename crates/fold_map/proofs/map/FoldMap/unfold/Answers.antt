use Rattle.std.proofs.Common.{◌≡◌, ℕ, ◌-◌, List, length, ap, sym, subst, refl, ◌∙◌, not, arith}
use Rattle.std.specs.List.{All, filter}
use Rattle.std.proofs.lemmas.List.Elements.{All-filter, All-same}
use Rattle.op_model.specs.Histories.{History}
use Rattle.fold_spans.specs.declared.sweep.FoldRange.{FoldRange}
use Rattle.fold_map.specs.Folds.{FoldState, IsFold}
use Rattle.fold_map.specs.Calls.{shares, unfolded}
use Rattle.fold_map.specs.Numbered.{fold_of, fold_shares, AreSpansOf}
use Rattle.fold_map.specs.declared.fold.NumberedFold.{NumberedFold}
use Rattle.fold_map.specs.Windows.{without_each}
use Rattle.fold_map.proofs.Making.{in_order, within}
use Rattle.fold_map.proofs.Removed.{gone_count, is_unfolded, gone_is}
use Rattle.fold_map.proofs.Runs.{run_order}
use Rattle.fold_map.proofs.Remade.{unfold_keeps, unfold_within, unfold_made, spans_short}
use Rattle.fold_map.proofs.map.FoldMap.unfold.Goals as goal

pub touching-near-requires : goal.touching-near-requires
touching-near-requires c = let l = in_order c.self.inside.snapshot c.args.s c.args.e (sym c.fold_fault.ensures ∙ c.in_default.is) in omega (arith, l)

pub touching-window-requires : goal.touching-window-requires
touching-window-requires c = run_order c.self.inside.spans c.args.s c.args.e c.touching-near.result c.touching-near.ensures

pub ranges_in-requires-clause-order : goal.ranges_in-requires-clause-order
ranges_in-requires-clause-order c = c.touching-window.ensures.order

pub ranges_in-requires-clause-within : goal.ranges_in-requires-clause-within
ranges_in-requires-clause-within c = c.touching-window.ensures.within

pub made_again-requires-clause-order : goal.made_again-requires-clause-order
made_again-requires-clause-order c = c.touching-window.ensures.order

pub made_again-requires-clause-within : goal.made_again-requires-clause-within
made_again-requires-clause-within c = c.touching-window.ensures.within

pub made_again-requires-clause-room : goal.made_again-requires-clause-room
made_again-requires-clause-room c =
    spans_short c.self.inside.snapshot c.known.ensures c.self.inside.folds c.self.invariant.folds c.self.inside.spans c.self.invariant.spans c.touching-window.result c.touching-near.result.start c.touching-near.result.end c.touching-window.ensures

pub made_again-requires-clause-ranges : goal.made_again-requires-clause-ranges
made_again-requires-clause-ranges c =
    let h : History = c.self.inside.snapshot in
    unfold_within h c.self.inside.folds c.self.inside.spans c.self.invariant.spans c.args.s c.args.e (within h c.args.s c.args.e (sym c.fold_fault.ensures ∙ c.in_default.is))
    c.touching-near.result c.touching-window.result c.touching-near.ensures c.touching-window.ensures c.known.ensures c.self.invariant.folds c.known-2.ensures.0 c.known-2.ensures.1
    c.in_ok-ranges.ranges.items c.in_ok-ranges.ensures c.retain_apart.new.ranges.items c.retain_apart.ensures

-- the folds that are kept
module _ (h : History) (s e : ℕ) (fs gs : List NumberedFold) (k : gs ≡ filter (λ f. not (fold_shares h s e f)) fs) where
  still_folds : All (λ f. IsFold h (fold_of f)) fs → All (λ f. IsFold h (fold_of f)) gs
  still_folds a = All-same (λ f. IsFold h (fold_of f)) gs (filter (λ f. not (fold_shares h s e f)) fs) k (All-filter (λ f. not (fold_shares h s e f)) (λ f. IsFold h (fold_of f)) fs a)

pub overflow_sub-count : goal.overflow_sub-count
overflow_sub-count c =
    let h : History = c.self.inside.snapshot in
    let q = c.in_ok-folds.ensures ∙ ap (λ (rs : List FoldRange). without_each c.args.s c.args.e rs c.self.inside.folds) c.deref.ensures.value ∙ unfold_keeps h c.self.inside.folds c.self.inside.spans c.self.invariant.spans c.args.s c.args.e (within h c.args.s c.args.e (sym c.fold_fault.ensures ∙ c.in_default.is))
    c.touching-near.result c.touching-window.result c.touching-near.ensures c.touching-window.ensures c.known.ensures c.self.invariant.folds c.known-2.ensures.0 c.known-2.ensures.1 c.in_ok-ranges.ranges.items c.in_ok-ranges.ensures in
    let a = gone_count h c.args.s c.args.e c.self.inside.folds c.in_ok-folds.folds q in omega (arith, a)

pub invariant_of-self : goal.invariant_of-self
invariant_of-self c =
    let h : History = c.self.inside.snapshot in
    let q = c.in_ok-folds.ensures ∙ ap (λ (rs : List FoldRange). without_each c.args.s c.args.e rs c.self.inside.folds) c.deref.ensures.value ∙ unfold_keeps h c.self.inside.folds c.self.inside.spans c.self.invariant.spans c.args.s c.args.e (within h c.args.s c.args.e (sym c.fold_fault.ensures ∙ c.in_default.is))
    c.touching-near.result c.touching-window.result c.touching-near.ensures c.touching-window.ensures c.known.ensures c.self.invariant.folds c.known-2.ensures.0 c.known-2.ensures.1 c.in_ok-ranges.ranges.items c.in_ok-ranges.ensures in
    record {
      folds = still_folds h c.args.s c.args.e c.self.inside.folds c.in_ok-folds.folds q c.self.invariant.folds;
      spans = subst (λ (fs : List NumberedFold). AreSpansOf h fs c.in_ok-spans.spans) (sym q)
          (unfold_made h c.self.inside.folds c.self.inside.spans c.self.invariant.spans c.args.s c.args.e (within h c.args.s c.args.e (sym c.fold_fault.ensures ∙ c.in_default.is))
          c.touching-near.result c.touching-window.result c.touching-near.ensures c.touching-window.ensures c.known.ensures c.self.invariant.folds c.known-2.ensures.0 c.known-2.ensures.1
          c.in_ok-ranges.ranges.items c.in_ok-ranges.ensures c.retain_apart.new.ranges.items c.retain_apart.ensures c.in_ok-spans.spans c.in_ok-spans.ensures);
    }

pub returns-clause-ok : goal.returns-clause-ok
returns-clause-ok c =
    let h : History = c.self.inside.snapshot in
    let q = c.in_ok-folds.ensures ∙ ap (λ (rs : List FoldRange). without_each c.args.s c.args.e rs c.self.inside.folds) c.deref.ensures.value ∙ unfold_keeps h c.self.inside.folds c.self.inside.spans c.self.invariant.spans c.args.s c.args.e (within h c.args.s c.args.e (sym c.fold_fault.ensures ∙ c.in_default.is))
    c.touching-near.result c.touching-window.result c.touching-near.ensures c.touching-window.ensures c.known.ensures c.self.invariant.folds c.known-2.ensures.0 c.known-2.ensures.1 c.in_ok-ranges.ranges.items c.in_ok-ranges.ensures in
    is_unfolded h c.args.s c.args.e c.self.inside.folds c.in_ok-folds.folds q
    ∙ ap (λ (m : FoldState). unfolded c.args.s c.args.e m) c.self.view_is

pub returns-clause-count : goal.returns-clause-count
returns-clause-count c =
    let h : History = c.self.inside.snapshot in
    let q = c.in_ok-folds.ensures ∙ ap (λ (rs : List FoldRange). without_each c.args.s c.args.e rs c.self.inside.folds) c.deref.ensures.value ∙ unfold_keeps h c.self.inside.folds c.self.inside.spans c.self.invariant.spans c.args.s c.args.e (within h c.args.s c.args.e (sym c.fold_fault.ensures ∙ c.in_default.is))
    c.touching-near.result c.touching-window.result c.touching-near.ensures c.touching-window.ensures c.known.ensures c.self.invariant.folds c.known-2.ensures.0 c.known-2.ensures.1 c.in_ok-ranges.ranges.items c.in_ok-ranges.ensures in
    let n : ℕ = c.len.result - c.len-2.result in
    let e : n ≡ length c.self.inside.folds - length c.in_ok-folds.folds = ap (λ (k : ℕ). k - c.len-2.result) c.len.ensures ∙ ap (λ (k : ℕ). length c.self.inside.folds - k) c.len-2.ensures in
    subst (λ (m : FoldState). n ≡ length (filter (shares m.history c.args.s c.args.e) m.folds)) c.self.view_is
    (gone_is h c.args.s c.args.e c.self.inside.folds c.in_ok-folds.folds n q e)

pub same-self-in_err-spans : goal.same-self-in_err-spans
same-self-in_err-spans c = refl
