use Rattle.std.proofs.Common.{◌≡◌, List, [], ◌∷◌, ◌++◌, length, ap, sym, subst, refl, ◌∙◌, arith}
use Rattle.op_model.specs.Histories.{History}
use Rattle.op_model.specs.Shown.{text}
use Rattle.fold_spans.specs.Spans.{text_sum}
use Rattle.fold_spans.specs.declared.sweep.FoldRange.{FoldRange}
use Rattle.fold_map.specs.Folds.{FoldState, ranges}
use Rattle.fold_map.specs.Calls.{IsFolded}
use Rattle.fold_map.specs.Numbered.{state_of, folds_of, AreSpansOf}
use Rattle.fold_map.specs.declared.fold.NumberedFold.{NumberedFold}
use Rattle.fold_map.proofs.ShownParts.{length_spans}
use Rattle.fold_map.proofs.Making.{made_is_fold, made_places, in_order, within, folds_pushed, is_folded}
use Rattle.fold_map.proofs.Runs.{starts_before, ends_past}
use Rattle.fold_map.proofs.Remade.{fold_within, with_fold, spans_short}
use Rattle.fold_map.proofs.map.FoldMap.fold.Goals as goal

pub fold_of-fold-requires : goal.fold_of-fold-requires
fold_of-fold-requires c = sym c.fold_fault.ensures ∙ c.in_default.is

pub touching-window-requires : goal.touching-window-requires
touching-window-requires c = let l = in_order c.self.inside.snapshot c.args.s c.args.e (sym c.fold_fault.ensures ∙ c.in_default.is) in omega (arith, l)

pub ranges_in-requires-clause-order : goal.ranges_in-requires-clause-order
ranges_in-requires-clause-order c = c.touching-window.ensures.order

pub ranges_in-requires-clause-within : goal.ranges_in-requires-clause-within
ranges_in-requires-clause-within c = c.touching-window.ensures.within

pub made_again-requires-clause-order : goal.made_again-requires-clause-order
made_again-requires-clause-order c = c.touching-window.ensures.order

pub made_again-requires-clause-within : goal.made_again-requires-clause-within
made_again-requires-clause-within c = c.touching-window.ensures.within

pub made_again-requires-clause-room : goal.made_again-requires-clause-room
made_again-requires-clause-room c =
    spans_short c.self.inside.snapshot c.known.ensures c.self.inside.folds c.self.invariant.folds c.self.inside.spans c.self.invariant.spans c.touching-window.result c.args.s c.args.e c.touching-window.ensures

pub made_again-requires-clause-ranges : goal.made_again-requires-clause-ranges
made_again-requires-clause-ranges c =
    let h : History = c.self.inside.snapshot in
    let f = sym c.fold_fault.ensures ∙ c.in_default.is in
    let x : NumberedFold = record { number = c.in_ok-number.number; fold = c.fold_of-fold.result } in
    let l = in_order h c.args.s c.args.e f in
    let e = within h c.args.s c.args.e f in
    let n : text_sum c.self.inside.spans ≡ length (text h) = length_spans c.self.inside.spans (ranges h (folds_of c.self.inside.folds)) (length (text h)) c.self.invariant.spans.marks in
    fold_within h c.known.ensures c.self.inside.folds c.self.invariant.folds c.self.inside.spans c.self.invariant.spans c.touching-window.result c.args.s c.args.e c.touching-window.ensures
    c.args.s c.args.e x (made_places h c.args.s c.args.e f c.known.ensures.lawful c.known.ensures.proper c.fold_of-fold.result c.fold_of-fold.ensures) (omega (arith, l))
    (starts_before c.self.inside.spans c.args.s c.args.e c.touching-window.result c.touching-window.ensures) (ends_past c.self.inside.spans c.args.s c.args.e c.touching-window.result c.touching-window.ensures (omega (arith, e, n)))
    c.known-2.ensures.0 c.known-2.ensures.1 c.add.new.ranges.items
    (c.in_ok-add.ensures ∙ ap (λ (qs : List FoldRange). qs ++ record { start = c.args.s; end = c.args.e; number = c.in_ok-number.number } ∷ []) c.in_ok-ranges.ensures)

pub invariant_of-self : goal.invariant_of-self
invariant_of-self c =
    let h : History = c.self.inside.snapshot in
    let f = sym c.fold_fault.ensures ∙ c.in_default.is in
    let x : NumberedFold = record { number = c.in_ok-number.number; fold = c.fold_of-fold.result } in
    let l = in_order h c.args.s c.args.e f in
    let e = within h c.args.s c.args.e f in
    let n : text_sum c.self.inside.spans ≡ length (text h) = length_spans c.self.inside.spans (ranges h (folds_of c.self.inside.folds)) (length (text h)) c.self.invariant.spans.marks in
    let made = c.in_ok-number.ensures.ok ∙ ap (λ (fs : List NumberedFold). fs ++ x ∷ []) c.in_ok-folds.ensures in
    record {
      folds = folds_pushed h c.self.inside.folds c.push.new.self x c.self.invariant.folds
          (made_is_fold h c.args.s c.args.e f c.known.ensures.lawful c.known.ensures.proper c.fold_of-fold.result c.fold_of-fold.ensures) made;
      spans = subst (λ (fs : List NumberedFold). AreSpansOf h fs c.in_ok-spans.spans) (sym made)
          (with_fold h c.known.ensures c.self.inside.folds c.self.invariant.folds c.self.inside.spans c.self.invariant.spans c.touching-window.result c.args.s c.args.e c.touching-window.ensures
          c.args.s c.args.e x (made_places h c.args.s c.args.e f c.known.ensures.lawful c.known.ensures.proper c.fold_of-fold.result c.fold_of-fold.ensures) (omega (arith, l))
          (starts_before c.self.inside.spans c.args.s c.args.e c.touching-window.result c.touching-window.ensures) (ends_past c.self.inside.spans c.args.s c.args.e c.touching-window.result c.touching-window.ensures (omega (arith, e, n)))
          c.known-2.ensures.0 c.known-2.ensures.1 c.add.new.ranges.items
          (c.in_ok-add.ensures ∙ ap (λ (qs : List FoldRange). qs ++ record { start = c.args.s; end = c.args.e; number = c.in_ok-number.number } ∷ []) c.in_ok-ranges.ensures)
          c.in_ok-spans.spans c.in_ok-spans.ensures);
    }

pub returns-clause-ok : goal.returns-clause-ok
returns-clause-ok c =
    let h : History = c.self.inside.snapshot in
    let x : NumberedFold = record { number = c.in_ok-number.number; fold = c.fold_of-fold.result } in
    subst (λ (m : FoldState). IsFolded m (state_of h c.push.new.self) c.args.s c.args.e) c.self.view_is
    (is_folded h c.self.inside.folds c.push.new.self c.args.s c.args.e x c.fold_of-fold.ensures
    (c.in_ok-number.ensures.ok ∙ ap (λ (fs : List NumberedFold). fs ++ x ∷ []) c.in_ok-folds.ensures))

pub same-self-in_err-number : goal.same-self-in_err-number
same-self-in_err-number c = refl

pub same-self-in_err-add : goal.same-self-in_err-add
same-self-in_err-add c = refl

pub same-self-in_err-spans : goal.same-self-in_err-spans
same-self-in_err-spans c = refl
