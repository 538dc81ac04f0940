use Rattle.std.proofs.Common.{◌≡◌, IfOk, map, sym, subst}
use Rattle.std.specs.Option.{option_to_list}
use Rattle.session_more.specs.declared.session.MoreLine.{MoreLine}
use Rattle.session_work.specs.MoreInside.{progress_of}
use Rattle.session_work.specs.MoreQueries.{more_query_at}
use Rattle.session_work.specs.Queries.{plain_line}
use Rattle.session_work.specs.Working.{ProgressState, more_state_of}
use Rattle.session_work.proofs.more.MoreProgress.answer.Goals as goal

pub returns-in-Plain : goal.returns-in-Plain
returns-in-Plain c =
    let answered : ProgressState → MoreLine → Type 0 = λ q l. IfOk c.answer.result (λ r. option_to_list r ≡ map plain_line (more_query_at c.args.number l (more_state_of q))) in
    subst (λ q. answered q c.args.line.now) c.self.view_is (subst (answered (progress_of c.self.inside)) (sym c.in-Plain.is) c.answer.ensures)
