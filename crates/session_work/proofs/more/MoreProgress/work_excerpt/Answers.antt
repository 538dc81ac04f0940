use Rattle.std.proofs.Common.{Some, sym, ap, subst, ◌∙◌}
use Rattle.std.proofs.lemmas.Result.{on_ok_weaker}
use Rattle.session_excerpts.specs.Lines.{excerpt_report}
use Rattle.session_excerpts.specs.State.{HasRoomAt}
use Rattle.session_more.specs.declared.session.MoreLine.TheVariants as line
use Rattle.session_work.specs.MoreInside.{progress_of}
use Rattle.session_work.specs.MoreWork.{index_of}
use Rattle.session_work.specs.Work.{histories}
use Rattle.session_work.specs.Working.{ProgressState, more_state_of}
use Rattle.session_work.proofs.Excerpting.{excerpted_at, excerpted_nowhere, few_snapshots, go_on_before, go_on_excerpt, go_on_stopped, index_within}
use Rattle.session_work.proofs.Selecting.{heard, unheard}
use Rattle.session_work.proofs.Steps.{on_any}
use Rattle.session_work.proofs.Worked.{Leaves, Reports, Unchanged, Unreported}
use Rattle.session_work.proofs.more.MoreProgress.work_excerpt.Goals as goal

pub returns-in_default-clause-report : goal.returns-in_default-clause-report
returns-in_default-clause-report c =
    let p = progress_of c.self.inside in
    let bs = p.plain.exchange.buffers in
    subst (Unreported (line.Excerpt c.args.name c.args.id c.args.start c.args.end)) c.self.view_is
    (unheard (λ i. excerpt_report c.args.name i c.args.start c.args.end (histories bs) p.excerpts) (index_of c.args.id bs) p.plain.report.items c.in_default.ensures)

pub returns-in_default-clause-state : goal.returns-in_default-clause-state
returns-in_default-clause-state c =
    subst (Unchanged (line.Excerpt c.args.name c.args.id c.args.start c.args.end)) c.self.view_is
    (excerpted_nowhere (more_state_of (progress_of c.self.inside)) c.args.name c.args.id c.args.start c.args.end c.in_default.ensures)

pub excerpt-requires-clause-count : goal.excerpt-requires-clause-count
excerpt-requires-clause-count c = few_snapshots c.self.inside.plain.exchange.buffers c.in_ok-snapshots.snapshots.items c.in_ok-snapshots.ensures c.self.invariant.few

pub excerpt-requires-clause-replica : goal.excerpt-requires-clause-replica
excerpt-requires-clause-replica c = index_within c.args.id c.in-Some.index c.self.inside.plain.exchange.buffers c.in_ok-snapshots.snapshots.items c.in_ok-snapshots.ensures c.in-Some.ensures

pub excerpt-requires-clause-within : goal.excerpt-requires-clause-within
excerpt-requires-clause-within c =
    go_on_before c.self.inside.plain.exchange.buffers c.in_ok-snapshots.snapshots.items c.in_ok-snapshots.ensures c.args.name c.self.inside.excerpts c.self.invariant.excerpts

pub excerpt-requires-clause-room : goal.excerpt-requires-clause-room
excerpt-requires-clause-room c = subst (λ (q : ProgressState). HasRoomAt c.args.name q.excerpts) (sym c.self.view_is) c.requires

pub returns-clause-report : goal.returns-clause-report
returns-clause-report c =
    let p = progress_of c.self.inside in
    let bs = p.plain.exchange.buffers in
    let i = c.in-Some.index in
    let said = sym c.in_ok-report.ensures.report ∙ ap (λ hs. excerpt_report c.args.name i c.args.start c.args.end hs p.excerpts) c.in_ok-snapshots.ensures in
    subst (Reports c.write_event.result c.write_event.new.out.items (line.Excerpt c.args.name c.args.id c.args.start c.args.end)) c.self.view_is
    (on_ok_weaker c.write_event.result
    (λ n. heard (λ i. excerpt_report c.args.name i c.args.start c.args.end (histories bs) p.excerpts) (index_of c.args.id bs) i (Some c.in_ok-report.report) _ _ c.in-Some.ensures said n) c.write_event.ensures)

pub returns-clause-state : goal.returns-clause-state
returns-clause-state c =
    let s = more_state_of (progress_of c.self.inside) in
    subst (Leaves c.write_event.result (record s { excerpts = c.excerpt.new.self }) (line.Excerpt c.args.name c.args.id c.args.start c.args.end)) c.self.view_is
    (on_any c.write_event.result _
    (excerpted_at s c.args.name c.args.id c.args.start c.args.end c.in-Some.index c.in_ok-snapshots.snapshots.items c.excerpt.new.self c.in-Some.ensures c.in_ok-snapshots.ensures c.in_ok-report.ensures.state))

pub invariant_of-self : goal.invariant_of-self
invariant_of-self c = record {
  few = c.self.invariant.few;
  folds = c.self.invariant.folds;
  excerpts = go_on_stopped c.self.inside.plain.exchange.buffers c.in_ok-snapshots.snapshots.items c.in_ok-snapshots.ensures c.args.name c.self.inside.excerpts c.self.invariant.excerpts c.excerpt.new.self
      c.in_err-report.ensures.err;
}

pub invariant_of-self-2 : goal.invariant_of-self-2
invariant_of-self-2 c = record {
  few = c.self.invariant.few;
  folds = c.self.invariant.folds;
  excerpts = go_on_excerpt c.self.inside.plain.exchange.buffers c.in_ok-snapshots.snapshots.items c.in_ok-snapshots.ensures c.args.name c.self.inside.excerpts c.self.invariant.excerpts
      c.in-Some.index c.args.start c.args.end c.excerpt.new.self c.in_ok-report.ensures.state;
}
