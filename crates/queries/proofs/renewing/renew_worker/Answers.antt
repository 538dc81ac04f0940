use Rattle.std.proofs.Common.{ℕ, List, reverse, sym, subst, ◌∙◌}
use Rattle.std.specs.List.{AllZip}
use Rattle.std.proofs.lemmas.List.{length-map}
use Rattle.snapshot_pub.specs.States.{ReaderState, ToldState}
use Rattle.queries.specs.Asks.{asks_of}
use Rattle.queries.proofs.Answering.{plain_answers}
use Rattle.queries.specs.Dealt.{told_lists}
use Rattle.queries.specs.Final.{ComesTo, HaveLooked}
use Rattle.queries.proofs.Remakes.{renews}
use Rattle.queries.proofs.renewing.renew_worker.Goals as goal

pub renew_all-requires-clause-indices : goal.renew_all-requires-clause-indices
renew_all-requires-clause-indices g c = λ κs within.
    (renews g.Q.Query.plain c.as_slice.result.now c.in_ok-looked.bounds.items c.args.lasts.now (told_lists c.args.tolds.items) c.in_ok-readers.readers.items c.args.done.readers c.in_ok-readers.answers.items (asks_of c.args.inbox.sent) c.requires.fronts c.as_slice.ensures.value
    (c.in_ok-looked.ensures.count ∙ sym (length-map c.args.tolds.items (λ (t : ToldState). t.list))) c.in_ok-readers.ensures.readers c.in_ok-looked.ensures.bounds c.in_ok-readers.ensures.answered c.requires.asked).0

pub renew_all-requires-clause-plain : goal.renew_all-requires-clause-plain
renew_all-requires-clause-plain g c = λ κs within. plain_answers g.Q.Query.plain c.in_ok-readers.answers.items (asks_of c.args.inbox.sent) c.in_ok-readers.ensures.answered.each

pub returns-clause-ended : goal.returns-clause-ended
returns-clause-ended g c =
    (renews g.Q.Query.plain c.as_slice.result.now c.in_ok-looked.bounds.items c.args.lasts.now (told_lists c.args.tolds.items) c.in_ok-readers.readers.items c.args.done.readers c.in_ok-readers.answers.items (asks_of c.args.inbox.sent) c.requires.fronts c.as_slice.ensures.value
    (c.in_ok-looked.ensures.count ∙ sym (length-map c.args.tolds.items (λ (t : ToldState). t.list))) c.in_ok-readers.ensures.readers c.in_ok-looked.ensures.bounds c.in_ok-readers.ensures.answered c.requires.asked).1 (reverse c.in_ok-renewed.renewed.items) c.in_ok-renewed.ensures

pub returns-clause-renewed : goal.returns-clause-renewed
returns-clause-renewed g c = record {
  readers = subst (λ (l : List ReaderState). HaveLooked (told_lists c.args.tolds.items) l c.in_ok-looked.looked.items) c.in_ok-readers.ensures.readers c.in_ok-looked.ensures.looked;
  own = c.in_ok-readers.answers.items;
  gave = c.in_ok-readers.ensures.gave;
  bounds = c.in_ok-looked.bounds.items;
  are = c.in_ok-looked.ensures.bounds_are;
  each = subst (λ (l : List ℕ). AllZip (ComesTo g.Q.Query.plain l c.args.lasts.now) (reverse c.in_ok-renewed.renewed.items) c.in_ok-readers.answers.items) c.as_slice.ensures.value c.in_ok-renewed.ensures;
}
