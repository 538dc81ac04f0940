use Rattle.std.proofs.Common.{◌≡◌, ◌-◌, List, map, sym, subst}
use Rattle.std.specs.Prelude.{IfOk, Result, Ok, Err}
use Rattle.std.specs.List.Sorted.{IsPermutation, IsSortedBy}
use Rattle.std.specs.Ordering.{is_lt}
use Rattle.fold_spans.specs.Marks.{marks}
use Rattle.fold_spans.specs.Spans.{marks_of, text_sum, AreSpans}
use Rattle.fold_spans.specs.Sweep.{range_of, HaveFolds, sweep}
use Rattle.fold_spans.specs.declared.span.Span.{Span}
use Rattle.fold_spans.specs.declared.sweep.FoldRange.{FoldRange}
use Rattle.fold_spans.proofs.Sweeping.{sweep_spans}
use Rattle.fold_spans.proofs.Homes.{sorted_cmp, made_marks, made_folds, made_len}
use Rattle.fold_spans.proofs.sweep.spans_of.Goals as goal

-- what holds of the sweep's spans holds of the result
passes : {V E : Type 0} (r : Result V E) (items : V → List Span) (ss : List Span) (P : List Span → Type 0) → IfOk r (λ v. items v ≡ ss) → P ss → IfOk r (λ v. P (items v))
passes (Ok v) items ss P e h = subst P (sym e) h
passes (Err e) items ss P i h = i

pub returns-clause-marks : goal.returns-clause-marks
returns-clause-marks c =
    let rs : List FoldRange = c.deref.result.now in
    let p : IsPermutation c.args.ranges.items rs = subst (λ (xs : List FoldRange). IsPermutation c.args.ranges.items xs) (sym c.deref.ensures.value) c.sort_unstable.ensures.permutation in
    let s : IsSortedBy (λ x y. is_lt (sorted_cmp x y)) rs = subst (λ (xs : List FoldRange). IsSortedBy (λ x y. is_lt (sorted_cmp x y)) xs) (sym c.deref.ensures.value) c.sort_unstable.ensures.sorted in
    passes c.sorted_spans.result (λ v. v.items) (sweep c.args.start rs c.args.end) (λ ss. marks_of ss ≡ marks (map range_of c.args.ranges.items) c.args.start (c.args.end - c.args.start)) c.sorted_spans.ensures
    (made_marks c.args.ranges.items rs c.args.start c.args.end p s c.requires)

pub returns-clause-folds : goal.returns-clause-folds
returns-clause-folds c =
    let rs : List FoldRange = c.deref.result.now in
    let p : IsPermutation c.args.ranges.items rs = subst (λ (xs : List FoldRange). IsPermutation c.args.ranges.items xs) (sym c.deref.ensures.value) c.sort_unstable.ensures.permutation in
    let s : IsSortedBy (λ x y. is_lt (sorted_cmp x y)) rs = subst (λ (xs : List FoldRange). IsSortedBy (λ x y. is_lt (sorted_cmp x y)) xs) (sym c.deref.ensures.value) c.sort_unstable.ensures.sorted in
    passes c.sorted_spans.result (λ v. v.items) (sweep c.args.start rs c.args.end) (λ ss. HaveFolds c.args.start ss c.args.ranges.items) c.sorted_spans.ensures
    (made_folds c.args.ranges.items rs c.args.start c.args.end p s c.requires)

pub returns-clause-spans : goal.returns-clause-spans
returns-clause-spans c =
    let rs : List FoldRange = c.deref.result.now in
    passes c.sorted_spans.result (λ v. v.items) (sweep c.args.start rs c.args.end) AreSpans c.sorted_spans.ensures (sweep_spans rs c.args.start c.args.end)

pub returns-clause-len : goal.returns-clause-len
returns-clause-len c =
    let rs : List FoldRange = c.deref.result.now in
    let p : IsPermutation c.args.ranges.items rs = subst (λ (xs : List FoldRange). IsPermutation c.args.ranges.items xs) (sym c.deref.ensures.value) c.sort_unstable.ensures.permutation in
    let s : IsSortedBy (λ x y. is_lt (sorted_cmp x y)) rs = subst (λ (xs : List FoldRange). IsSortedBy (λ x y. is_lt (sorted_cmp x y)) xs) (sym c.deref.ensures.value) c.sort_unstable.ensures.sorted in
    passes c.sorted_spans.result (λ v. v.items) (sweep c.args.start rs c.args.end) (λ ss. text_sum ss ≡ c.args.end - c.args.start) c.sorted_spans.ensures
    (made_len c.args.ranges.items rs c.args.start c.args.end p s c.requires)
