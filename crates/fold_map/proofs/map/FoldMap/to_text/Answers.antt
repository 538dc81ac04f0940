use Rattle.std.proofs.Common.{◌≡◌, ℕ, ◌<◌, ◌≤◌, List, true, false, length, Some, None, ap, sym, subst, ◌∙◌, arith}
use Rattle.op_model.specs.Histories.{History}
use Rattle.op_model.specs.Edits.{is_boundary}
use Rattle.op_model.specs.Shown.{text}
use Rattle.fold_spans.specs.Spans.{marks_of}
use Rattle.fold_map.specs.Folds.{FoldState, shown, to_text}
use Rattle.fold_map.specs.Numbered.{state_of}
use Rattle.fold_map.proofs.Followed.{cut_ranges}
use Rattle.fold_map.proofs.Answering.{len_is, text_past, text_some, text_none}
use Rattle.fold_map.proofs.map.FoldMap.to_text.Goals as goal

pub returns-then-is_boundary : goal.returns-then-is_boundary
returns-then-is_boundary c =
    let h : History = c.self.inside.snapshot in
    let m : FoldState = state_of h c.self.inside.folds in
    let cut = cut_ranges h c.known.ensures.lawful c.known.ensures.proper c.self.inside.folds c.self.invariant.folds in
    let n = len_is m c.self.inside.spans c.known-2.ensures.spans c.self.invariant.spans.marks in
    let l : c.args.d ≤ length (shown m) = omega arith in
    let t : is_boundary (text h) c.text_place-place.result ≡ true = sym (c.is_boundary.ensures ∙ ap (λ (bs : List ℕ). is_boundary bs c.text_place-place.result) c.text.ensures) ∙ c.if-is_boundary.true in
    subst (λ (x : FoldState). Some c.text_place-place.result ≡ to_text x c.args.d c.args.b) c.self.view_is
    (text_some m cut (marks_of c.self.inside.spans) c.args.d c.args.b c.text_place-place.result c.self.invariant.spans.marks l c.text_place-place.ensures t)

pub returns-else-is_boundary : goal.returns-else-is_boundary
returns-else-is_boundary c =
    let h : History = c.self.inside.snapshot in
    let m : FoldState = state_of h c.self.inside.folds in
    let cut = cut_ranges h c.known.ensures.lawful c.known.ensures.proper c.self.inside.folds c.self.invariant.folds in
    let n = len_is m c.self.inside.spans c.known-2.ensures.spans c.self.invariant.spans.marks in
    let l : c.args.d ≤ length (shown m) = omega arith in
    let t : is_boundary (text h) c.text_place-place.result ≡ false = sym (c.is_boundary.ensures ∙ ap (λ (bs : List ℕ). is_boundary bs c.text_place-place.result) c.text.ensures) ∙ c.if-is_boundary.false in
    subst (λ (x : FoldState). None ≡ to_text x c.args.d c.args.b) c.self.view_is
    (text_none m cut (marks_of c.self.inside.spans) c.args.d c.args.b c.text_place-place.result c.self.invariant.spans.marks l c.text_place-place.ensures t)

pub returns-then-d-shown_len : goal.returns-then-d-shown_len
returns-then-d-shown_len c =
    let m : FoldState = state_of c.self.inside.snapshot c.self.inside.folds in
    let n = len_is m c.self.inside.spans c.known-2.ensures.spans c.self.invariant.spans.marks in
    let l : length (shown m) < c.args.d = omega arith in
    subst (λ (x : FoldState). None ≡ to_text x c.args.d c.args.b) c.self.view_is (text_past m c.args.d c.args.b l)
