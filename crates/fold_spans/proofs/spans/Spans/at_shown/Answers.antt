use Rattle.std.proofs.Common.{◌∙◌, List, refl, subst, take}
use Rattle.std.specs.Option.{option_copied}
use Rattle.std.specs.Prelude.{nat_lt}
use Rattle.fold_spans.specs.Found.{IsShownSpan}
use Rattle.fold_spans.specs.declared.span.Span.{Span}
use Rattle.fold_spans.specs.declared.lengths.Lengths.{Lengths}
use Rattle.fold_spans.proofs.Sums.{place_after}
use Rattle.fold_spans.proofs.Stops.{passed, found}
use Rattle.fold_spans.proofs.spans.Spans.at_shown.Goals as goal

pub returns : goal.returns
returns c =
    let ss : List Span = c.self.inside.tree.items in
    let over = passed (λ x. nat_lt c.args.offset x.shown) c.none.result ss in
    subst (λ (xs : List Span). IsShownSpan xs c.args.offset (option_copied c.look_up.result.0) c.look_up.result.1) c.self.view_is
    (found (λ (x : Lengths). x.shown) refl (λ a b. refl) c.args.offset ss c.none.result (option_copied c.look_up.result.0) c.look_up.result.1 c.none.ensures c.look_up.ensures.item
    (c.look_up.ensures.place ∙ place_after c.none.result (take over ss) c.none.ensures))
