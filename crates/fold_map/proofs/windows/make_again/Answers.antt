use Rattle.std.proofs.Common.{Ok, Err, arith}
use Rattle.std.specs.Prelude.{OnOk, Result}
use Rattle.fold_spans.proofs.Sums.{AreSpans-splice}
use Rattle.fold_map.proofs.Runs.{spliced_short, text_fits, shown_fits}
use Rattle.fold_map.proofs.windows.make_again.Goals as goal

-- what follows where there is no error
passes : {V E : Type 0} (r : Result V E) (P Q : Type 0) → OnOk r P → (P → Q) → OnOk r Q
passes (Ok v) P Q p f = f p
passes (Err e) P Q p f = p

pub replace-requires-clause-short : goal.replace-requires-clause-short
replace-requires-clause-short c = spliced_short c.args.spans.now c.args.window.now.from c.args.window.now.to c.requires.order c.requires.within c.in_ok-list.list.items (omega arith) c.known.ensures.short

pub replace-requires-clause-text : goal.replace-requires-clause-text
replace-requires-clause-text c = text_fits c.args.spans.now c.args.window.now.from c.args.window.now.to c.requires.order c.requires.within c.in_ok-list.list.items _ c.in_ok-list.ensures.len c.requires.room

pub replace-requires-clause-shown : goal.replace-requires-clause-shown
replace-requires-clause-shown c =
    shown_fits c.args.spans.now c.args.window.now.from c.args.window.now.to c.requires.order c.requires.within c.in_ok-list.list.items _ c.in_ok-list.ensures.len c.requires.room
    (AreSpans-splice c.args.window.now.from c.args.window.now.to c.in_ok-list.list.items c.args.spans.now c.in_ok-list.ensures.spans c.known.ensures.spans)

pub returns : goal.returns
returns c = passes c.replace.result _ _ c.replace.ensures.ok (λ e. record {
  list = c.in_ok-list.list.items;
  spans = e;
  marks = c.in_ok-list.ensures.marks;
  folds = c.in_ok-list.ensures.folds;
  len = c.in_ok-list.ensures.len;
})
