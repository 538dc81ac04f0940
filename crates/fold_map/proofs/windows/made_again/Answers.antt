use Rattle.std.proofs.Common.{List, ◌≤◌, ◌+◌, ◌-◌, ◌^◌, length, sym, subst}
use Rattle.fold_spans.specs.Spans.{text_sum}
use Rattle.fold_spans.specs.declared.span.Span.{Span}
use Rattle.fold_map.specs.Windows.{IsMadeAgain}
use Rattle.fold_map.proofs.windows.made_again.Goals as goal

pub make_again-requires-clause-within : goal.make_again-requires-clause-within
make_again-requires-clause-within c = subst (λ (ss : List Span). c.args.window.now.to ≤ length ss) (sym c.in_ok-made.ensures) c.requires.within

pub make_again-requires-clause-room : goal.make_again-requires-clause-room
make_again-requires-clause-room c = subst (λ (ss : List Span). text_sum ss + (c.args.window.now.end - c.args.window.now.start) ≤ 2 ^ 42) (sym c.in_ok-made.ensures) c.requires.room

pub returns : goal.returns
returns c = subst (λ (ss : List Span). IsMadeAgain c.args.window.now c.args.ranges.items ss c.make_again.new.spans) c.in_ok-made.ensures c.in_ok-make_again.ensures
