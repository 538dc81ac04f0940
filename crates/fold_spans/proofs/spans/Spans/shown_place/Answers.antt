use Rattle.std.proofs.Common.{◌≡◌, ◌∙◌, Option, Some, None, subst, arith, refl}
use Rattle.std.specs.Option.{option_copied}
use Rattle.fold_spans.specs.Found.{IsTextSpan}
use Rattle.fold_spans.specs.declared.span.Span.{Span}
use Rattle.fold_spans.proofs.Converts.{by_text, text_parts, past_text}
use Rattle.fold_spans.proofs.spans.Spans.shown_place.Goals as goal

pub shown_in-requires-clause-room : goal.shown_in-requires-clause-room
shown_in-requires-clause-room c =
    let item : option_copied c.at_text.result.0 ≡ Some c.in-Some-default.span.now = rw c.in-Some-default.is-0 refl in
    let f : IsTextSpan c.args.self.now c.args.offset (Some c.in-Some-default.span.now) c.at_text.result.1 = subst (λ (x : Option Span). IsTextSpan c.args.self.now c.args.offset x c.at_text.result.1) item c.at_text.ensures in
    let p = (text_parts c.args.self.now c.args.offset c.in-Some-default.span.now c.at_text.result.1 f).2 in
    let q = c.known.ensures.shown in
    omega arith

pub returns-in-Some-default : goal.returns-in-Some-default
returns-in-Some-default c =
    let item : option_copied c.at_text.result.0 ≡ Some c.in-Some-default.span.now = rw c.in-Some-default.is-0 refl in
    let f : IsTextSpan c.args.self.now c.args.offset (Some c.in-Some-default.span.now) c.at_text.result.1 = subst (λ (x : Option Span). IsTextSpan c.args.self.now c.args.offset x c.at_text.result.1) item c.at_text.ensures in
    c.shown_in.ensures ∙ by_text c.args.self.now c.known.ensures.spans c.args.offset c.args.bias c.in-Some-default.span.now c.at_text.result.1 f

pub returns-in-None-default : goal.returns-in-None-default
returns-in-None-default c =
    let none : Option Span = None in
    let item : option_copied c.at_text.result.0 ≡ none = rw c.in-None-default.is-0 refl in
    past_text c.args.self.now c.known.ensures.spans c.args.offset c.args.bias c.at_text.result.1 (subst (λ (x : Option Span). IsTextSpan c.args.self.now c.args.offset x c.at_text.result.1) item c.at_text.ensures)
