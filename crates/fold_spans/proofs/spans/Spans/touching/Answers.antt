use Rattle.std.proofs.Common.{◌≡◌, ◌∙◌, ◌+◌, ◌<◌, ◌^◌, List, Option, Some, None, refl, subst, take, arith}
use Rattle.std.specs.Option.{option_copied}
use Rattle.std.specs.Prelude.{nat_le, nat_lt}
use Rattle.fold_spans.specs.Found.{IsTouching}
use Rattle.fold_spans.specs.Lengths.{lengths_of}
use Rattle.fold_spans.specs.declared.span.Span.{Span}
use Rattle.fold_spans.specs.Spans.{span_len}
use Rattle.fold_spans.specs.declared.touching.Touching.{Touching}
use Rattle.fold_spans.proofs.Sums.{place_after, lengths_fit}
use Rattle.fold_spans.proofs.Stops.{passed}
use Rattle.fold_spans.proofs.Touches.{spans_fit, text_fits, touching_some, touching_all}
use Rattle.fold_spans.proofs.spans.Spans.touching.Goals as goal

pub overflow_add-result : goal.overflow_add-result
overflow_add-result c =
    let ss : List Span = c.self.inside.tree.items in
    let first : c.look_up.result.1 ≡ lengths_of (take (passed (λ x. nat_le c.args.start x.text) c.none.result ss) ss) = c.look_up.ensures.place ∙ place_after c.none.result (take (passed (λ x. nat_le c.args.start x.text) c.none.result ss) ss) c.none.ensures in
    let before : c.look_up-2.result.1 ≡ lengths_of (take (passed (λ x. nat_lt c.args.end x.text) c.none-2.result ss) ss) = c.look_up-2.ensures.place ∙ place_after c.none-2.result (take (passed (λ x. nat_lt c.args.end x.text) c.none-2.result ss) ss) c.none-2.ensures in
    let item : Some c.in-Some.span.now ≡ option_copied c.look_up-2.result.0 = rw c.in-Some.is refl in
    let fit : c.look_up-2.result.1.spans + 1 < 2 ^ 64 = spans_fit ss c.args.start c.args.end c.requires c.none.result c.none-2.result c.look_up.result.1 c.look_up-2.result.1 c.none.ensures c.none-2.ensures first before c.in-Some.span.now (span_len c.in-Some.span.now) (item ∙ c.look_up-2.ensures.item) refl c.known.ensures.short in
    omega (arith, fit)

pub overflow_add-result-in-Some : goal.overflow_add-result-in-Some
overflow_add-result-in-Some c =
    let ss : List Span = c.self.inside.tree.items in
    let first : c.look_up.result.1 ≡ lengths_of (take (passed (λ x. nat_le c.args.start x.text) c.none.result ss) ss) = c.look_up.ensures.place ∙ place_after c.none.result (take (passed (λ x. nat_le c.args.start x.text) c.none.result ss) ss) c.none.ensures in
    let before : c.look_up-2.result.1 ≡ lengths_of (take (passed (λ x. nat_lt c.args.end x.text) c.none-2.result ss) ss) = c.look_up-2.ensures.place ∙ place_after c.none-2.result (take (passed (λ x. nat_lt c.args.end x.text) c.none-2.result ss) ss) c.none-2.ensures in
    let item : Some c.in-Some.span.now ≡ option_copied c.look_up-2.result.0 = rw c.in-Some.is refl in
    let fit : c.look_up-2.result.1.text + c.len.result < 2 ^ 64 = text_fits ss c.args.start c.args.end c.requires c.none.result c.none-2.result c.look_up.result.1 c.look_up-2.result.1 c.none.ensures c.none-2.ensures first before c.in-Some.span.now c.len.result (item ∙ c.look_up-2.ensures.item) c.len.ensures (lengths_fit ss c.known.ensures.fits).text in
    omega (arith, fit)

pub returns-in-Some : goal.returns-in-Some
returns-in-Some c =
    let ss : List Span = c.self.inside.tree.items in
    let first : c.look_up.result.1 ≡ lengths_of (take (passed (λ x. nat_le c.args.start x.text) c.none.result ss) ss) = c.look_up.ensures.place ∙ place_after c.none.result (take (passed (λ x. nat_le c.args.start x.text) c.none.result ss) ss) c.none.ensures in
    let before : c.look_up-2.result.1 ≡ lengths_of (take (passed (λ x. nat_lt c.args.end x.text) c.none-2.result ss) ss) = c.look_up-2.ensures.place ∙ place_after c.none-2.result (take (passed (λ x. nat_lt c.args.end x.text) c.none-2.result ss) ss) c.none-2.ensures in
    let item : Some c.in-Some.span.now ≡ option_copied c.look_up-2.result.0 = rw c.in-Some.is refl in
    let t : Touching = record { from = c.look_up.result.1.spans; to = c.look_up-2.result.1.spans + 1; start = c.look_up.result.1.text; end = c.look_up-2.result.1.text + c.len.result } in
    subst (λ (xs : List Span). IsTouching xs c.args.start c.args.end t) c.self.view_is
    (touching_some ss c.args.start c.args.end c.requires c.none.result c.none-2.result c.look_up.result.1 c.look_up-2.result.1 c.none.ensures c.none-2.ensures first before c.in-Some.span.now c.len.result (item ∙ c.look_up-2.ensures.item) c.len.ensures)

pub returns-in-None : goal.returns-in-None
returns-in-None c =
    let ss : List Span = c.self.inside.tree.items in
    let first : c.look_up.result.1 ≡ lengths_of (take (passed (λ x. nat_le c.args.start x.text) c.none.result ss) ss) = c.look_up.ensures.place ∙ place_after c.none.result (take (passed (λ x. nat_le c.args.start x.text) c.none.result ss) ss) c.none.ensures in
    let before : c.look_up-2.result.1 ≡ lengths_of (take (passed (λ x. nat_lt c.args.end x.text) c.none-2.result ss) ss) = c.look_up-2.ensures.place ∙ place_after c.none-2.result (take (passed (λ x. nat_lt c.args.end x.text) c.none-2.result ss) ss) c.none-2.ensures in
    let none : Option Span = None in
    let item : none ≡ option_copied c.look_up-2.result.0 = rw c.in-None.is refl in
    let t : Touching = record { from = c.look_up.result.1.spans; to = c.look_up-2.result.1.spans; start = c.look_up.result.1.text; end = c.look_up-2.result.1.text } in
    subst (λ (xs : List Span). IsTouching xs c.args.start c.args.end t) c.self.view_is
    (touching_all ss c.args.start c.args.end c.requires c.none.result c.none-2.result c.look_up.result.1 c.look_up-2.result.1 c.none.ensures c.none-2.ensures first before (item ∙ c.look_up-2.ensures.item))
