use Rattle.std.specs.Vec.Iter.{into_iter_items}
use Rattle.session_replay.proofs.Gathered.{line_more}
use Rattle.session_replay.proofs.beside.answer_lines.Goals as goal

pub loop-answer-preserved-in_ok-push : goal.loop-answer-preserved-in_ok-push
loop-answer-preserved-in_ok-push c =
    line_more c.loop-answer.lines.items c.push.new.self.items c.query_line.result c.in-Some.answer (into_iter_items c.next.new.self) (into_iter_items c.loop-answer.answer-iterator) c.args.answers.items c.in_ok-push.ensures.items c.query_line.ensures
    c.in-Some.ensures.steps.0 c.loop-answer.invariant

pub loop-answer-preserved : goal.loop-answer-preserved
loop-answer-preserved c =
    line_more c.loop-answer.lines.items c.push.new.self.items c.query_line.result c.in-Some.answer (into_iter_items c.next.new.self) (into_iter_items c.loop-answer.answer-iterator) c.args.answers.items c.in_ok-push.ensures.items c.query_line.ensures
    c.in-Some.ensures.steps.0 c.loop-answer.invariant

pub loop-answer-preserved-in_ok-push-2 : goal.loop-answer-preserved-in_ok-push-2
loop-answer-preserved-in_ok-push-2 c =
    line_more c.loop-answer.lines.items c.push.new.self.items c.query_line.result c.in-Some.answer (into_iter_items c.next.new.self) (into_iter_items c.loop-answer.answer-iterator) c.args.answers.items c.in_ok-push.ensures.items c.query_line.ensures
    c.in-Some.ensures.steps.0 c.loop-answer.invariant
