use Rattle.std.proofs.Common.{rules, ◌≡◌, false, List, sym, subst, ap, ◌∙◌}
use Rattle.crossbeam_queue.specs.Passes.{view}
use Rattle.queries.specs.Queue.{pairs_of}
use Rattle.queries.specs.Asks.{Ask, asks_of}
use Rattle.queries.specs.Answers.{HasAnswered}
use Rattle.queries.specs.States.{DeskState}
use Rattle.queries.specs.declared.query.Answer.{Answer}
use Rattle.std.proofs.lemmas.Result.{IfOk-weaker}
use Rattle.queries.proofs.Working.{work_more, work_ended, if_some}
use Rattle.queries.proofs.worker.work.Goals as goal

pub returns-in-Some-End : goal.returns-in-Some-End
returns-in-Some-End g c =
    let t = rw c.in-Some-End.field-0-is at c.in-Some-End.ensures.taken in
    let e = work_ended (view c.loop.pass) (view c.take.new.pass) t.0 c.loop.invariant.open_ in
    let plain = g.Q.Query.plain in record {
      queue = search rules;
      pairs = c.loop.invariant.same ∙ ap (λ (d : DeskState). pairs_of d.readers) c.desk.view_is;
      ended = e.1;
      answered = if_some (λ v. v.items) c.answers_or_failure-answers.result (HasAnswered plain (asks_of (view c.take.new.pass).taken) c.loop.readers.items) (IfOk-weaker c.answers_or_failure-answers.result (λ v. (c.loop.failed ≡ false) × (v.items ≡ c.loop.answers.items)) (λ v. HasAnswered plain (asks_of (view c.take.new.pass).taken) c.loop.readers.items v.items)
          (λ v h.
          subst (λ (ks : List (Ask g.row.Q.Denot)). HasAnswered plain ks c.loop.readers.items v.items) (sym e.2)
          (subst (λ (as_ : List (Answer g.row.Q.Denot g.row.A.Denot)). HasAnswered plain (asks_of (view c.loop.pass).taken) c.loop.readers.items as_) (sym h.1) (c.loop.invariant.answered h.0)))
          c.answers_or_failure-answers.ensures);
    }

pub loop-preserved : goal.loop-preserved
loop-preserved g c =
    let t = rw c.in-Some-Job.field-0-is at c.in-Some-Job.ensures.taken in
    let was = c.loop.invariant in
    let also = c.answer_also-failed.ensures in
    let m = work_more g.Q.Query.plain (view c.loop.pass) (view c.take.new.pass) c.loop.readers.items c.answer_also-failed.new.readers.items c.loop.answers.items c.answer_also-failed.new.answers.items c.in-Some-Job.job c.loop.failed c.answer_also-failed.result t.0
    was.open_ was.tied also.pairs also.failed also.answered was.answered in record {
      own = search rules;
      takes = m.0;
      open_ = m.1;
      tied = m.2;
      same = also.pairs ∙ was.same;
      answered = m.3;
    }
