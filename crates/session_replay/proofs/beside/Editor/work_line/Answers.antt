use Rattle.std.proofs.Common.{◌≡◌, ℕ, ◌+◌, List, ◌++◌, length, Option, OnOk, sym, ap, ◌∙◌, subst, arith}
use Rattle.std.proofs.lemmas.Result.{on_ok_weaker}
use Rattle.queries.specs.Asks.{Ask}
use Rattle.session_more.specs.Reports.{more_report_text}
use Rattle.session_more.specs.declared.session.MoreLine.{MoreLine}
use Rattle.session_work.specs.MoreQueries.{more_query_at}
use Rattle.session_work.specs.MoreWork.{more_events, more_step}
use Rattle.session_work.specs.Working.{ProgressState, more_state_of}
use Rattle.session_replay.specs.Beside.{IsAsking, asks_among}
use Rattle.session_work.specs.Queries.{query_with}
use Rattle.session_work.specs.declared.queries.Question.{Question}
use Rattle.session_replay.proofs.Asking.{asking_steps, asks_count, more_asks_only, no_question, nothing_asked}
use Rattle.session_work.proofs.Steps.{on_any}
use Rattle.session_work.proofs.MoreReports.{nothing_written}
use Rattle.session_replay.proofs.beside.Editor.work_line.Goals as goal

pub put-requires-clause-room : goal.put-requires-clause-room
put-requires-clause-room g c = omega (arith, asks_count c.args.line (c.in-Ok.id, c.in-Ok.question) (sym c.in-Ok.ensures.ok), c.requires.room)

pub returns-in-Ok-clause-report : goal.returns-in-Ok-clause-report
returns-in-Ok-clause-report g c =
    let old = c.args.self.now.progress in
    let none = more_asks_only c.args.line (c.in-Ok.id, c.in-Ok.question) (sym c.in-Ok.ensures.ok) (more_state_of old) in
    on_any c.put.result _ (ap (λ (p : ProgressState). p.plain.report.items) c.put.ensures.same.1 ∙ nothing_written old.plain.report.items ∙ ap (λ rs. old.plain.report.items ++ more_report_text rs) (sym none.0))

pub returns-in-Ok-clause-state : goal.returns-in-Ok-clause-state
returns-in-Ok-clause-state g c =
    let none = more_asks_only c.args.line (c.in-Ok.id, c.in-Ok.question) (sym c.in-Ok.ensures.ok) (more_state_of c.args.self.now.progress) in
    on_any c.put.result _ (ap more_state_of c.put.ensures.same.1 ∙ sym none.1)

pub returns-in-Ok-clause-asking : goal.returns-in-Ok-clause-asking
returns-in-Ok-clause-asking g c =
    let s = more_state_of c.args.self.now.progress in
    let bs = c.args.self.now.progress.plain.exchange.buffers in
    let d = c.args.self.now.dispatcher in
    let p = c.args.publishers.now in
    let e = c.put.new.self.dispatcher in
    let q = c.put.new.publishers in
    let asked = subst (λ (o : Option (ℕ × Question)). OnOk c.put.result ((asks : List (Ask Question)) → IsAsking bs asks d p → IsAsking bs (asks ++ asks_among bs (query_with (length asks + 1) s.plain o)) e q))
    (sym c.in-Ok.ensures.ok) c.put.ensures.asking in
    subst (λ (now : ProgressState). OnOk c.put.result ((asks : List (Ask Question)) → IsAsking bs asks d p → IsAsking now.plain.exchange.buffers (asks ++ asks_among bs (more_query_at (length asks + 1) c.args.line s)) e q)) (sym c.put.ensures.same.1) asked

pub returns-in-Err-clause-report : goal.returns-in-Err-clause-report
returns-in-Err-clause-report g c =
    let old = c.args.self.now.progress in
    subst (λ (l : MoreLine). OnOk c.work_line.result (c.work_line.new.self.plain.report.items ≡ old.plain.report.items ++ more_report_text (more_events l (more_state_of old)))) c.in-Err.ensures.err.0 c.work_line.ensures.report

pub returns-in-Err-clause-state : goal.returns-in-Err-clause-state
returns-in-Err-clause-state g c =
    subst (λ (l : MoreLine). OnOk c.work_line.result (more_state_of c.work_line.new.self ≡ more_step l (more_state_of c.args.self.now.progress))) c.in-Err.ensures.err.0 c.work_line.ensures.state

pub returns-in-Err-clause-asking : goal.returns-in-Err-clause-asking
returns-in-Err-clause-asking g c =
    let line = c.args.line in
    let s = more_state_of c.args.self.now.progress in
    let t = more_state_of c.work_line.new.self in
    let state = subst (λ (l : MoreLine). OnOk c.work_line.result (t ≡ more_step l s)) c.in-Err.ensures.err.0 c.work_line.ensures.state in
    on_ok_weaker {P = t ≡ more_step line s} c.work_line.result (λ is asks a.
    asking_steps line s t _ _ _ is (nothing_asked s.plain.buffers asks _ _ (more_query_at (length asks + 1) line s) (no_question (length asks + 1) line s (sym c.in-Err.ensures.err.1)) a)) state
