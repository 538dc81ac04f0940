use Rattle.std.proofs.Common.{sym, ◌∙◌, Some, None}
use Rattle.op_model.specs.declared.faults.UndoFault.TheVariants.{NoSuchEdit, Twice, CountEnd}
use Rattle.op_answers.proofs.LocalUndo.{unknown, twice, ended, faultless, local_of, room_of}
use Rattle.op_answers.proofs.local_undo.listed_fault.Goals as goal
use Rattle.undo_map.proofs.Seeking.{counts_at_end}

pub returns-in-Some-clause-fault : goal.returns-in-Some-clause-fault
returns-in-Some-clause-fault c = unknown c.args.applied.now c.args.edits.now c.in-Some.edit (sym c.in-Some.ensures)

pub returns-in-Some-clause-local : goal.returns-in-Some-clause-local
returns-in-Some-clause-local c = λ l. local_of l c.args.applied.now c.args.edits.now (Some (NoSuchEdit c.in-Some.edit)) (unknown c.args.applied.now c.args.edits.now c.in-Some.edit (sym c.in-Some.ensures))

pub returns-in-Some-clause-room : goal.returns-in-Some-clause-room
returns-in-Some-clause-room c = room_of c.args.applied.now c.args.undos.now c.args.edits.now (Some (NoSuchEdit c.in-Some.edit)) c.requires.counts (unknown c.args.applied.now c.args.edits.now c.in-Some.edit (sym c.in-Some.ensures))

pub returns-in-Some-first_twice-clause-fault : goal.returns-in-Some-first_twice-clause-fault
returns-in-Some-first_twice-clause-fault c = twice c.args.applied.now c.args.edits.now (sym c.in_default.ensures) c.in-Some-first_twice.edit (sym c.in-Some-first_twice.ensures)

pub returns-in-Some-first_twice-clause-local : goal.returns-in-Some-first_twice-clause-local
returns-in-Some-first_twice-clause-local c = λ l. local_of l c.args.applied.now c.args.edits.now (Some (Twice c.in-Some-first_twice.edit)) (twice c.args.applied.now c.args.edits.now (sym c.in_default.ensures) c.in-Some-first_twice.edit (sym c.in-Some-first_twice.ensures))

pub returns-in-Some-first_twice-clause-room : goal.returns-in-Some-first_twice-clause-room
returns-in-Some-first_twice-clause-room c = room_of c.args.applied.now c.args.undos.now c.args.edits.now (Some (Twice c.in-Some-first_twice.edit)) c.requires.counts (twice c.args.applied.now c.args.edits.now (sym c.in_default.ensures) c.in-Some-first_twice.edit (sym c.in-Some-first_twice.ensures))

pub returns-in-Some-first_at_end-clause-fault : goal.returns-in-Some-first_at_end-clause-fault
returns-in-Some-first_at_end-clause-fault c = ended c.args.applied.now c.args.edits.now (sym c.in_default.ensures) (sym c.in_default-first_twice.ensures) c.in-Some-first_at_end.edit (sym (counts_at_end c.args.applied.now c.args.undos.now c.args.edits.now c.requires.counts) ∙ sym c.in-Some-first_at_end.ensures)

pub returns-in-Some-first_at_end-clause-local : goal.returns-in-Some-first_at_end-clause-local
returns-in-Some-first_at_end-clause-local c = λ l. local_of l c.args.applied.now c.args.edits.now (Some (CountEnd c.in-Some-first_at_end.edit)) (ended c.args.applied.now c.args.edits.now (sym c.in_default.ensures) (sym c.in_default-first_twice.ensures) c.in-Some-first_at_end.edit (sym (counts_at_end c.args.applied.now c.args.undos.now c.args.edits.now c.requires.counts) ∙ sym c.in-Some-first_at_end.ensures))

pub returns-in-Some-first_at_end-clause-room : goal.returns-in-Some-first_at_end-clause-room
returns-in-Some-first_at_end-clause-room c = room_of c.args.applied.now c.args.undos.now c.args.edits.now (Some (CountEnd c.in-Some-first_at_end.edit)) c.requires.counts (ended c.args.applied.now c.args.edits.now (sym c.in_default.ensures) (sym c.in_default-first_twice.ensures) c.in-Some-first_at_end.edit (sym (counts_at_end c.args.applied.now c.args.undos.now c.args.edits.now c.requires.counts) ∙ sym c.in-Some-first_at_end.ensures))

pub returns-clause-fault : goal.returns-clause-fault
returns-clause-fault c = faultless c.args.applied.now c.args.edits.now (sym c.in_default.ensures) (sym c.in_default-first_twice.ensures) (sym (counts_at_end c.args.applied.now c.args.undos.now c.args.edits.now c.requires.counts) ∙ sym c.in_default-first_at_end.ensures)

pub returns-clause-local : goal.returns-clause-local
returns-clause-local c = λ l. local_of l c.args.applied.now c.args.edits.now None (faultless c.args.applied.now c.args.edits.now (sym c.in_default.ensures) (sym c.in_default-first_twice.ensures) (sym (counts_at_end c.args.applied.now c.args.undos.now c.args.edits.now c.requires.counts) ∙ sym c.in_default-first_at_end.ensures))

pub returns-clause-room : goal.returns-clause-room
returns-clause-room c = room_of c.args.applied.now c.args.undos.now c.args.edits.now None c.requires.counts (faultless c.args.applied.now c.args.edits.now (sym c.in_default.ensures) (sym c.in_default-first_twice.ensures) (sym (counts_at_end c.args.applied.now c.args.undos.now c.args.edits.now c.requires.counts) ∙ sym c.in_default-first_at_end.ensures))
