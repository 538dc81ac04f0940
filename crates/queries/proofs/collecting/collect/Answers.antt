use Rattle.std.proofs.Common.{List, sym, subst, ap}
use Rattle.queries.specs.Asks.{Ask, asks_of}
use Rattle.queries.specs.Answers.{HasAnswered}
use Rattle.queries.specs.States.{DoneState, InboxState}
use Rattle.queries.proofs.Jobs.{all_taken}
use Rattle.queries.proofs.Working.{gave, if_ok}
use Rattle.queries.proofs.collecting.collect.Goals as goal

pub returns-clause-answered : goal.returns-clause-answered
returns-clause-answered g c =
    let rest = c.join.ensures in
    let inbox = c.args.inbox in
    let done = c.args.done in
    let left = rw (ap (λ (i : InboxState g.row.Q.Denot). i.sent) c.inbox.view_is, ap (λ (d : DoneState g.row.Q.Denot g.row.A.Denot). d.taken) c.done.view_is) at rest in
    let same = all_taken inbox.sent done.taken left.0 c.requires.ended.0 c.requires.ended.1 left.1 in
    let at = if_ok (λ v. v.items) (HasAnswered g.Q.Query.plain (asks_of done.taken) done.readers) done.answers c.done.inside.answers c.in_ok-answers.field-0 (sym (ap (λ (d : DoneState g.row.Q.Denot g.row.A.Denot). d.answers) c.done.view_is)) c.in_ok-answers.was c.requires.answered in
    subst (λ (ks : List (Ask g.row.Q.Denot)). HasAnswered g.Q.Query.plain ks done.readers c.in_ok-answers.field-0.items) (sym same) at

pub returns-clause-gave : goal.returns-clause-gave
returns-clause-gave g c = gave (λ v. v.items) c.args.done.answers c.done.inside.answers c.in_ok-answers.field-0 (sym (ap (λ (d : DoneState g.row.Q.Denot g.row.A.Denot). d.answers) c.done.view_is)) c.in_ok-answers.was
