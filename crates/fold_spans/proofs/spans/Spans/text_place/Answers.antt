use Rattle.std.proofs.Common.{◌≡◌, ◌∙◌, Option, Some, None, subst, arith, refl}
use Rattle.std.specs.Option.{option_copied}
use Rattle.fold_spans.specs.Found.{IsShownSpan}
use Rattle.fold_spans.specs.declared.span.Span.{Span}
use Rattle.fold_spans.proofs.Converts.{by_shown, shown_parts, past_shown}
use Rattle.fold_spans.proofs.spans.Spans.text_place.Goals as goal

pub text_in-requires-clause-room : goal.text_in-requires-clause-room
text_in-requires-clause-room c =
    let item : option_copied c.at_shown.result.0 ≡ Some c.in-Some-default.span.now = rw c.in-Some-default.is-0 refl in
    let f : IsShownSpan c.args.self.now c.args.offset (Some c.in-Some-default.span.now) c.at_shown.result.1 = subst (λ (x : Option Span). IsShownSpan c.args.self.now c.args.offset x c.at_shown.result.1) item c.at_shown.ensures in
    let p = (shown_parts c.args.self.now c.args.offset c.in-Some-default.span.now c.at_shown.result.1 f).2 in
    let q = c.known.ensures.text in
    omega arith

pub returns-in-Some-default : goal.returns-in-Some-default
returns-in-Some-default c =
    let item : option_copied c.at_shown.result.0 ≡ Some c.in-Some-default.span.now = rw c.in-Some-default.is-0 refl in
    let f : IsShownSpan c.args.self.now c.args.offset (Some c.in-Some-default.span.now) c.at_shown.result.1 = subst (λ (x : Option Span). IsShownSpan c.args.self.now c.args.offset x c.at_shown.result.1) item c.at_shown.ensures in
    c.text_in.ensures ∙ by_shown c.args.self.now c.known.ensures.spans c.args.offset c.args.bias c.in-Some-default.span.now c.at_shown.result.1 f

pub returns-in-None-default : goal.returns-in-None-default
returns-in-None-default c =
    let none : Option Span = None in
    let item : option_copied c.at_shown.result.0 ≡ none = rw c.in-None-default.is-0 refl in
    past_shown c.args.self.now c.known.ensures.spans c.args.offset c.args.bias c.at_shown.result.1 (subst (λ (x : Option Span). IsShownSpan c.args.self.now c.args.offset x c.at_shown.result.1) item c.at_shown.ensures) c.requires
