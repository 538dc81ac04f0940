use Rattle.std.proofs.Common.{sym, subst}
use Rattle.std.proofs.lemmas.Result.{IfOk-weaker}
use Rattle.session_replay.specs.Replies.{IsReport}
use Rattle.session_replay.proofs.Replies.{plain_report}
use Rattle.session_replay.proofs.top.plain_report.Goals as goal

pub returns : goal.returns
returns c =
    IfOk-weaker c.report.result _ _ (λ v is. subst (IsReport c.args.session c.args.workers) (sym is) (plain_report c.args.session c.args.workers)) c.report.ensures
