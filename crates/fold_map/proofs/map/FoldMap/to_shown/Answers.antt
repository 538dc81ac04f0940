use Rattle.std.proofs.Common.{◌≡◌, ℕ, List, true, false, length, Some, None, ap, sym, subst, ◌∙◌, arith}
use Rattle.op_model.specs.Edits.{is_boundary}
use Rattle.op_model.specs.Shown.{text}
use Rattle.fold_spans.specs.Spans.{marks_of}
use Rattle.fold_map.specs.Folds.{FoldState, ranges, to_shown}
use Rattle.fold_map.specs.Numbered.{folds_of, state_of}
use Rattle.fold_map.proofs.Cuts.{boundary_within}
use Rattle.fold_map.proofs.ShownParts.{length_spans}
use Rattle.fold_map.proofs.Answering.{shown_some, shown_none}
use Rattle.fold_map.proofs.map.FoldMap.to_shown.Goals as goal

pub shown_place-requires : goal.shown_place-requires
shown_place-requires c =
    let t : is_boundary (text c.self.inside.snapshot) c.args.o ≡ true = sym (c.is_boundary.ensures ∙ ap (λ (bs : List ℕ). is_boundary bs c.args.o) c.text.ensures) ∙ c.if-is_boundary.true in
    let w = boundary_within (text c.self.inside.snapshot) c.args.o t in
    let l = length_spans c.self.inside.spans (ranges c.self.inside.snapshot (folds_of c.self.inside.folds)) (length (text c.self.inside.snapshot)) c.self.invariant.spans.marks in
    omega arith

pub returns-then-is_boundary : goal.returns-then-is_boundary
returns-then-is_boundary c =
    let t : is_boundary (text c.self.inside.snapshot) c.args.o ≡ true = sym (c.is_boundary.ensures ∙ ap (λ (bs : List ℕ). is_boundary bs c.args.o) c.text.ensures) ∙ c.if-is_boundary.true in
    subst (λ (m : FoldState). Some c.shown_place.result ≡ to_shown m c.args.o c.args.b) c.self.view_is
    (shown_some (state_of c.self.inside.snapshot c.self.inside.folds) (marks_of c.self.inside.spans) c.args.o c.args.b c.shown_place.result c.self.invariant.spans.marks t c.shown_place.ensures)

pub returns-else-is_boundary : goal.returns-else-is_boundary
returns-else-is_boundary c =
    let t : is_boundary (text c.self.inside.snapshot) c.args.o ≡ false = sym (c.is_boundary.ensures ∙ ap (λ (bs : List ℕ). is_boundary bs c.args.o) c.text.ensures) ∙ c.if-is_boundary.false in
    subst (λ (m : FoldState). None ≡ to_shown m c.args.o c.args.b) c.self.view_is
    (shown_none (state_of c.self.inside.snapshot c.self.inside.folds) c.args.o c.args.b t)
