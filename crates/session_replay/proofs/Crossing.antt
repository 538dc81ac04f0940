-- What a query asks, and its answer, may go to another thread.
use denote.Param.Send.{IsSend, sendable}
use Rattle.std.proofs.Crossing.{crosses}
use Rattle.session_lines.specs.contracts.report.QueryAnswer as answer
use Rattle.session_replay.specs.contracts.text_query.TextQuery as question

pub question_sent : IsSend question.the_row
question_sent = search (crosses, sendable) depth 60 fits 20000

pub answer_sent : IsSend answer.the_row
answer_sent = search (crosses, sendable) depth 60 fits 20000
