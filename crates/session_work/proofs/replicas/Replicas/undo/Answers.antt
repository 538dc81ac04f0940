use Rattle.std.proofs.Common.{ap}
use Rattle.std.specs.Option.{option_and_then}
use Rattle.std.specs.Result.{result_ok}
use Rattle.text_buffer.specs.Buffer.{BufferState}
use Rattle.session_work.specs.Exchange.{undo_outcome_of}
use Rattle.session_work.specs.Work.{after_outcome, outcome_reports}
use Rattle.session_work.proofs.Finding.{changed, nowhere, reported, told, unchanged, unreported}
use Rattle.session_work.proofs.Growth.{all_themselves, set_grows}
use Rattle.session_work.proofs.replicas.Replicas.undo.Goals as goal

pub returns-in_default-clause-report : goal.returns-in_default-clause-report
returns-in_default-clause-report c =
    unreported c.args.id c.args.self.now c.in_default.ensures (λ (b : BufferState). outcome_reports c.args.number (undo_outcome_of c.args.number c.args.unnamed c.args.edits.now b) b) c.args.out.now.items

pub returns-in_default-clause-after : goal.returns-in_default-clause-after
returns-in_default-clause-after c = unchanged c.args.id c.args.self.now c.in_default.ensures (λ (b : BufferState). after_outcome (undo_outcome_of c.args.number c.args.unnamed c.args.edits.now b) b)

pub returns-in_default-clause-made : goal.returns-in_default-clause-made
returns-in_default-clause-made c = ap (option_and_then (λ (b : BufferState). result_ok (undo_outcome_of c.args.number c.args.unnamed c.args.edits.now b))) (nowhere c.args.id c.args.self.now c.in_default.ensures)

pub returns-clause-report : goal.returns-clause-report
returns-clause-report c =
    reported c.args.id (λ (b : BufferState). b) c.args.self.now c.self.inside.list.items c.self.view_is c.in-Some.index c.index_mut.result.now c.in-Some.ensures c.index_mut.ensures.value
    (λ (b : BufferState). outcome_reports c.args.number (undo_outcome_of c.args.number c.args.unnamed c.args.edits.now b) b) c.undo.result _ _ c.undo.ensures.report

pub returns-clause-after : goal.returns-clause-after
returns-clause-after c =
    changed c.args.id (λ (b : BufferState). after_outcome (undo_outcome_of c.args.number c.args.unnamed c.args.edits.now b) b) c.args.self.now c.self.inside.list.items c.self.view_is c.in-Some.index c.index_mut.result.now c.in-Some.ensures c.index_mut.ensures.value
    c.undo.result c.undo.new.self c.undo.ensures.after

pub returns-clause-made : goal.returns-clause-made
returns-clause-made c =
    told c.args.id (λ (b : BufferState). b) c.args.self.now c.self.inside.list.items c.self.view_is c.in-Some.index c.index_mut.result.now c.in-Some.ensures c.index_mut.ensures.value
    (λ (b : BufferState). result_ok (undo_outcome_of c.args.number c.args.unnamed c.args.edits.now b)) c.undo.result c.undo.ensures.made

pub returns-in_default-clause-grows : goal.returns-in_default-clause-grows
returns-in_default-clause-grows c = all_themselves c.args.self.now

pub returns-clause-grows : goal.returns-clause-grows
returns-clause-grows c =
    set_grows c.args.self.now c.self.inside.list.items c.in-Some.index c.index_mut.result.now _ c.self.view_is c.index_mut.ensures.value c.undo.ensures.id c.undo.ensures.grows
