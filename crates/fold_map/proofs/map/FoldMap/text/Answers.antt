use Rattle.std.proofs.Common.{◌≡◌, ℕ, ◌+◌, ◌++◌, List, true, length, ap, sym, subst, ◌∙◌, arith}
use Rattle.std.specs.Prelude.{string_bytes, slice_range}
use Rattle.std.specs.Str.{IsCharBoundary}
use Rattle.std.proofs.lemmas.Str.{IsCharBoundary-start}
use Rattle.op_model.specs.Histories.{History}
use Rattle.op_model.specs.Edits.{is_boundary}
use Rattle.op_model.specs.Shown.{text}
use Rattle.op_model.proofs.texts.WholeTexts.{boundary_of, of_boundary}
use Rattle.text_buffer.specs.Document.{IsBufferHistory}
use Rattle.fold_spans.specs.Spans.{marks_of, AreSpans}
use Rattle.fold_spans.specs.declared.span.Span.{Span}
use Rattle.fold_map.specs.Folds.{FoldState, ranges, fold_marks, shown}
use Rattle.fold_map.specs.Passed.{MayPass, IsPassed}
use Rattle.fold_map.proofs.Cuts.{AreCut}
use Rattle.fold_map.proofs.Followed.{cut_ranges}
use Rattle.fold_map.proofs.ShownParts.{Upto, length_spans, upto_start, upto_may, upto_room, upto_next, upto_last, upto_all}
use Rattle.fold_map.proofs.map.FoldMap.text.Goals as goal

pub loop-index-init : goal.loop-index-init
loop-index-init c =
    let m : FoldState = c.args.self.now in
    let h : IsBufferHistory m.history = subst (λ (x : FoldState). IsBufferHistory x.history) c.self.view_is c.known.ensures in
    let e : marks_of c.tree-tree.result.now.items ≡ fold_marks m = subst (λ (x : FoldState). marks_of c.tree-tree.result.now.items ≡ fold_marks x) c.self.view_is (ap marks_of c.tree-tree.ensures ∙ c.self.invariant.spans.marks) in
    let k : AreCut (text m.history) (ranges m.history m.folds) = subst (λ (x : FoldState). AreCut (text x.history) (ranges x.history x.folds)) c.self.view_is (cut_ranges c.self.inside.snapshot c.known.ensures.lawful c.known.ensures.proper c.self.inside.folds c.self.invariant.folds) in
    upto_start (text m.history) (ranges m.history m.folds) c.tree-tree.result.now.items (string_bytes c.new-shown.result) (subst AreSpans (sym c.tree-tree.ensures) c.known-2.ensures.spans) e k
    (of_boundary (text m.history) 0 (IsCharBoundary-start (text m.history) h.utf8)) c.new-shown.ensures.bytes

-- what the rope's text says, for the loop
module _ (m : FoldState) (h : History) (bs : List ℕ) (e : bs ≡ text h) (f : text h ≡ text m.history) where
  to_rope : (o : ℕ) → is_boundary (text m.history) o ≡ true → IsCharBoundary bs o
  to_rope o b = subst (λ (xs : List ℕ). IsCharBoundary xs o) (sym (e ∙ f)) (boundary_of (text m.history) o b)

  may_rope : (s : Span) (at : ℕ) → MayPass s (text m.history) at → MayPass s bs at
  may_rope s at m = subst (λ (xs : List ℕ). MayPass s xs at) (sym (e ∙ f)) m

  of_rope : (s : Span) (from at : ℕ) (old new : List ℕ) (next : ℕ) → IsPassed s bs from at old new next → IsPassed s (text m.history) from at old new next
  of_rope s from at old new next p = subst (λ (xs : List ℕ). IsPassed s xs from at old new next) (e ∙ f) p

  part_of_rope : (from at : ℕ) → slice_range bs from at ≡ slice_range (text m.history) from at
  part_of_rope from at = ap (λ (xs : List ℕ). slice_range xs from at) (e ∙ f)

pub pass-requires-clause-start : goal.pass-requires-clause-start
pass-requires-clause-start c =
    to_rope c.args.self.now c.self.inside.snapshot c.text-text.result.now c.text-text.ensures (ap (λ (x : FoldState). text x.history) c.self.view_is) c.loop-index.from c.loop-index.invariant.begun

pub pass-requires-clause-order : goal.pass-requires-clause-order
pass-requires-clause-order c = c.loop-index.invariant.order

pub pass-requires-clause-end : goal.pass-requires-clause-end
pass-requires-clause-end c =
    let m : FoldState = c.args.self.now in
    let ss : List Span = c.tree-tree.result.now.items in
    let e : marks_of ss ≡ fold_marks m = subst (λ (x : FoldState). marks_of ss ≡ fold_marks x) c.self.view_is (ap marks_of c.tree-tree.ensures ∙ c.self.invariant.spans.marks) in
    may_rope m c.self.inside.snapshot c.text-text.result.now c.text-text.ensures (ap (λ (x : FoldState). text x.history) c.self.view_is) c.in-Some.span.now c.loop-index.at
    (upto_may (text m.history) (shown m) ss c.loop-index.index c.loop-index.from c.loop-index.at (string_bytes c.loop-index.shown) c.loop-index.invariant (length_spans ss (ranges m.history m.folds) (length (text m.history)) e) c.in-Some.span.now (sym c.in-Some.ensures))

pub pass-requires-clause-room : goal.pass-requires-clause-room
pass-requires-clause-room c =
    let m : FoldState = c.args.self.now in
    let ss : List Span = c.tree-tree.result.now.items in
    let e : marks_of ss ≡ fold_marks m = subst (λ (x : FoldState). marks_of ss ≡ fold_marks x) c.self.view_is (ap marks_of c.tree-tree.ensures ∙ c.self.invariant.spans.marks) in
    let h : IsBufferHistory m.history = subst (λ (x : FoldState). IsBufferHistory x.history) c.self.view_is c.known.ensures in
    let r = upto_room (text m.history) (shown m) ss c.loop-index.index c.loop-index.from c.loop-index.at (string_bytes c.loop-index.shown) c.loop-index.invariant (length_spans ss (ranges m.history m.folds) (length (text m.history)) e) c.in-Some.span.now (sym c.in-Some.ensures) in
    let a = h.text_bytes in
    let b = h.bytes in
    omega arith

pub overflow_add-at : goal.overflow_add-at
overflow_add-at c =
    let m : FoldState = c.args.self.now in
    let ss : List Span = c.tree-tree.result.now.items in
    let e : marks_of ss ≡ fold_marks m = subst (λ (x : FoldState). marks_of ss ≡ fold_marks x) c.self.view_is (ap marks_of c.tree-tree.ensures ∙ c.self.invariant.spans.marks) in
    let h : IsBufferHistory m.history = subst (λ (x : FoldState). IsBufferHistory x.history) c.self.view_is c.known.ensures in
    let r = upto_room (text m.history) (shown m) ss c.loop-index.index c.loop-index.from c.loop-index.at (string_bytes c.loop-index.shown) c.loop-index.invariant (length_spans ss (ranges m.history m.folds) (length (text m.history)) e) c.in-Some.span.now (sym c.in-Some.ensures) in
    let a = h.text_bytes in
    let b = h.bytes in
    omega arith

pub loop-index-preserved : goal.loop-index-preserved
loop-index-preserved c =
    let m : FoldState = c.args.self.now in
    let ss : List Span = c.tree-tree.result.now.items in
    let e : marks_of ss ≡ fold_marks m = subst (λ (x : FoldState). marks_of ss ≡ fold_marks x) c.self.view_is (ap marks_of c.tree-tree.ensures ∙ c.self.invariant.spans.marks) in
    let new : List ℕ = string_bytes c.pass.new.shown in
    let next : ℕ = c.in_ok-from.from in
    subst (λ (k : ℕ). Upto (text m.history) (shown m) ss (c.loop-index.index + 1) next (c.loop-index.at + k) new) (sym c.len-at.ensures)
    (upto_next (text m.history) (shown m) ss c.loop-index.index c.loop-index.from c.loop-index.at (string_bytes c.loop-index.shown) c.loop-index.invariant (length_spans ss (ranges m.history m.folds) (length (text m.history)) e)
    c.in-Some.span.now new next (sym c.in-Some.ensures)
    (of_rope m c.self.inside.snapshot c.text-text.result.now c.text-text.ensures (ap (λ (x : FoldState). text x.history) c.self.view_is) c.in-Some.span.now c.loop-index.from c.loop-index.at (string_bytes c.loop-index.shown) new next c.in_ok-from.ensures))

pub push_part-requires-clause-start : goal.push_part-requires-clause-start
push_part-requires-clause-start c =
    to_rope c.args.self.now c.self.inside.snapshot c.text-text.result.now c.text-text.ensures (ap (λ (x : FoldState). text x.history) c.self.view_is) c.loop-index.from c.loop-index.invariant.begun

pub push_part-requires-clause-end : goal.push_part-requires-clause-end
push_part-requires-clause-end c =
    let m : FoldState = c.args.self.now in
    let ss : List Span = c.tree-tree.result.now.items in
    let e : marks_of ss ≡ fold_marks m = subst (λ (x : FoldState). marks_of ss ≡ fold_marks x) c.self.view_is (ap marks_of c.tree-tree.ensures ∙ c.self.invariant.spans.marks) in
    to_rope m c.self.inside.snapshot c.text-text.result.now c.text-text.ensures (ap (λ (x : FoldState). text x.history) c.self.view_is) c.loop-index.at
    (upto_last (text m.history) (shown m) ss c.loop-index.index c.loop-index.from c.loop-index.at (string_bytes c.loop-index.shown) c.loop-index.invariant (length_spans ss (ranges m.history m.folds) (length (text m.history)) e) (omega arith))

pub push_part-requires-clause-order : goal.push_part-requires-clause-order
push_part-requires-clause-order c = c.loop-index.invariant.order

pub returns : goal.returns
returns c =
    let m : FoldState = c.args.self.now in
    let ss : List Span = c.tree-tree.result.now.items in
    let e : marks_of ss ≡ fold_marks m = subst (λ (x : FoldState). marks_of ss ≡ fold_marks x) c.self.view_is (ap marks_of c.tree-tree.ensures ∙ c.self.invariant.spans.marks) in
    c.in_ok-push_part.ensures
    ∙ ap (λ (bs : List ℕ). string_bytes c.loop-index.shown ++ bs) (part_of_rope m c.self.inside.snapshot c.text-text.result.now c.text-text.ensures (ap (λ (x : FoldState). text x.history) c.self.view_is) c.loop-index.from c.loop-index.at)
    ∙ upto_all (text m.history) (shown m) ss c.loop-index.index c.loop-index.from c.loop-index.at (string_bytes c.loop-index.shown) c.loop-index.invariant (length_spans ss (ranges m.history m.folds) (length (text m.history)) e) (omega arith)
