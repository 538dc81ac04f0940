use Rattle.std.proofs.Common.{List, sym, ap, ◌∙◌, subst}
use Rattle.op_model.specs.declared.operation.Operation.{Operation}
use Rattle.op_model.specs.declared.operation.UndoCount.{UndoCount}
use Rattle.op_model.specs.declared.operation.Piece.{Piece}
use Rattle.op_model.specs.Operations.{version_of}
use Rattle.op_model.specs.Histories.{seen_history}
use Rattle.op_model.specs.Shown.{full}
use Rattle.op_model.specs.Answers.{range_fault, count_fault}
use Rattle.op_model.specs.Lawful.{IsClosed}
use Rattle.op_model.proofs.answers.Good.{lawful_ready}
use Rattle.op_answers.specs.Verdicts.{part_fault}
use Rattle.op_answers.proofs.Answering.{range_fault-part, count_fault-part}
use Rattle.op_answers.proofs.verdict.part_fault.Goals as goal

pub returns-in-Edit : goal.returns-in-Edit
returns-in-Edit c =
    let h = c.args.applied.now in
    let v = c.in-Edit.edit.version in
    c.range_fault.ensures h c.requires.texts c.requires.lawful (subst (λ (x : Operation). IsClosed h (version_of x)) c.in-Edit.is c.requires.closed)
    ∙ ap (λ (ps : List Piece). range_fault (full (seen_history h v)) ps) c.as_slice.ensures
    ∙ range_fault-part h c.in-Edit.edit
    ∙ ap (part_fault h) (sym c.in-Edit.is)

pub count_fault-requires : goal.count_fault-requires
count_fault-requires c = (lawful_ready c.args.applied.now c.requires.lawful).0.distinct

pub returns-in-Undo : goal.returns-in-Undo
returns-in-Undo c =
    let h = c.args.applied.now in
    let v = c.in-Undo.undo.version in
    c.count_fault.ensures
    ∙ ap (λ (cs : List UndoCount). count_fault (seen_history h v) cs) c.as_slice-in-Undo.ensures
    ∙ count_fault-part h c.in-Undo.undo
    ∙ ap (part_fault h) (sym c.in-Undo.is)
