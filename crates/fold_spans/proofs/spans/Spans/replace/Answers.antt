use Rattle.std.proofs.Common.{List, subst, sym}
use Rattle.std.specs.Prelude.{OnOk, OnErr, Result, Ok, Err}
use Rattle.sum_tree.specs.Laws.{fold}
use Rattle.sum_tree.specs.Seen.{Seen}
use Rattle.sum_tree.specs.Spliced.{splice_list}
use Rattle.fold_spans.specs.Spans.{AreSpans}
use Rattle.fold_spans.specs.Lengths.{no_lengths, add_lengths, lengths_of_span, LengthsFit}
use Rattle.fold_spans.specs.declared.span.Span.{Span}
use Rattle.fold_spans.proofs.Sums.{sum_fits, AreSpans-splice}
use Rattle.fold_spans.proofs.spans.Spans.replace.Goals as goal

pub splice-requires-clause-fits : goal.splice-requires-clause-fits
splice-requires-clause-fits c =
    let P : List Span → Type 0 = λ ss. LengthsFit (fold no_lengths add_lengths lengths_of_span (splice_list c.args.from c.args.to c.args.spans.items ss)) in
    subst P (sym c.self.view_is) (sum_fits (splice_list c.args.from c.args.to c.args.spans.items c.args.self.now) c.requires.short c.requires.text c.requires.shown)

-- what follows from both outcomes
either : {A B P Q R : Type 0} (r : Result A B) → OnOk r P → OnErr r Q → (P → R) → (Q → R) → R
either (Ok x) a b f g = f a
either (Err e) a b f g = g b

pub invariant_of-self : goal.invariant_of-self
invariant_of-self c =
    either c.splice.result c.splice.ensures.ok c.splice.ensures.err
    (λ e. subst AreSpans (sym e) (AreSpans-splice c.args.from c.args.to c.args.spans.items c.self.inside.tree.items c.requires.spans c.self.invariant))
    (λ e. subst (λ (t : Seen Span). AreSpans t.items) (sym e) c.self.invariant)
