use Rattle.std.proofs.Common.{refl}
use Rattle.snapshot_pub.proofs.Places.{put_same}
use Rattle.snapshot_pub.specs.States.{ReaderState}
use Rattle.queries.specs.Asks.{ask_of}
use Rattle.queries.proofs.Working.{answered_more}
use Rattle.queries.proofs.worker.answer_in.Goals as goal

pub returns-in_err-answer-clause-pairs : goal.returns-in_err-answer-clause-pairs
returns-in_err-answer-clause-pairs g c =
    put_same (λ (r : ReaderState). r.pair) c.args.readers.now.items c.args.job.index c.index_mut.result.now c.answer_on.new.reader c.index_mut.ensures.value c.answer_on.ensures.pair

pub returns-in_err-push-clause-pairs : goal.returns-in_err-push-clause-pairs
returns-in_err-push-clause-pairs g c =
    put_same (λ (r : ReaderState). r.pair) c.args.readers.now.items c.args.job.index c.index_mut.result.now c.answer_on.new.reader c.index_mut.ensures.value c.answer_on.ensures.pair

pub returns-clause-pairs : goal.returns-clause-pairs
returns-clause-pairs g c =
    put_same (λ (r : ReaderState). r.pair) c.args.readers.now.items c.args.job.index c.index_mut.result.now c.answer_on.new.reader c.index_mut.ensures.value c.answer_on.ensures.pair

pub returns-clause-answered : goal.returns-clause-answered
returns-clause-answered g c = λ jobs h.
    answered_more g.Q.Query.plain c.args.readers.now.items _ c.index_mut.result.now c.answer_on.new.reader (ask_of c.args.job) c.in_ok-answer.answer (record {
      within = c.requires.own.0;
      was = c.index_mut.ensures.value;
      is = refl;
      begins = c.answer_on.ensures.begins;
      answer = c.in_ok-answer.ensures.answered;
      latest = c.in_ok-answer.ensures.latest;
    }) jobs c.args.answers.now.items _ c.in_ok-push.ensures.items h
