use Rattle.std.proofs.Common.{ap, subst, ◌∙◌}
use Rattle.std.proofs.lemmas.Result.{on_ok_weaker}
use Rattle.session_excerpts.specs.Lines.{multi_report}
use Rattle.session_more.specs.declared.session.MoreLine.TheVariants as line
use Rattle.session_work.specs.MoreInside.{progress_of}
use Rattle.session_work.specs.Working.{more_state_of}
use Rattle.session_work.proofs.Excerpting.{few_snapshots, go_on_after, go_on_before, go_on_stopped, synced}
use Rattle.session_work.proofs.Selecting.{returned}
use Rattle.session_work.proofs.Steps.{on_any}
use Rattle.session_work.proofs.Worked.{Leaves, Reports}
use Rattle.session_work.proofs.more.MoreProgress.work_multi.Goals as goal

pub multi-requires-clause-count : goal.multi-requires-clause-count
multi-requires-clause-count c = few_snapshots c.self.inside.plain.exchange.buffers c.in_ok-snapshots.snapshots.items c.in_ok-snapshots.ensures c.self.invariant.few

pub multi-requires-clause-within : goal.multi-requires-clause-within
multi-requires-clause-within c =
    go_on_before c.self.inside.plain.exchange.buffers c.in_ok-snapshots.snapshots.items c.in_ok-snapshots.ensures c.args.name c.self.inside.excerpts c.self.invariant.excerpts

pub returns-clause-report : goal.returns-clause-report
returns-clause-report c =
    let p = progress_of c.self.inside in
    let said = c.in_ok-report.ensures.report ∙ ap (λ hs. multi_report c.args.name hs p.excerpts) c.in_ok-snapshots.ensures in
    subst (Reports c.write_event.result c.write_event.new.out.items (line.Multi c.args.name)) c.self.view_is
    (on_ok_weaker c.write_event.result (λ n. returned _ _ _ _ said n) c.write_event.ensures)

pub returns-clause-state : goal.returns-clause-state
returns-clause-state c =
    let s = more_state_of (progress_of c.self.inside) in
    subst (Leaves c.write_event.result (record s { excerpts = c.multi.new.self }) (line.Multi c.args.name)) c.self.view_is
    (on_any c.write_event.result _ (synced s c.args.name c.in_ok-snapshots.snapshots.items c.multi.new.self c.in_ok-snapshots.ensures c.in_ok-report.ensures.state))

pub invariant_of-self : goal.invariant_of-self
invariant_of-self c = record {
  few = c.self.invariant.few;
  folds = c.self.invariant.folds;
  excerpts = go_on_stopped c.self.inside.plain.exchange.buffers c.in_ok-snapshots.snapshots.items c.in_ok-snapshots.ensures c.args.name c.self.inside.excerpts c.self.invariant.excerpts c.multi.new.self
      c.in_err-report.ensures.err;
}

pub invariant_of-self-2 : goal.invariant_of-self-2
invariant_of-self-2 c = record {
  few = c.self.invariant.few;
  folds = c.self.invariant.folds;
  excerpts = go_on_after c.self.inside.plain.exchange.buffers c.in_ok-snapshots.snapshots.items c.in_ok-snapshots.ensures c.args.name c.self.inside.excerpts c.self.invariant.excerpts c.multi.new.self
      c.in_ok-report.ensures.state;
}
