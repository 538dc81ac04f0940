use Rattle.std.proofs.Common.{◌≤◌, ◌<◌, List, length, subst}
use Rattle.std.specs.List.{AllByRecursion}
use Rattle.op_model.specs.declared.operation.UndoCount.{UndoCount}
use Rattle.op_wire.specs.Spelling.{limit, IsCount}
use Rattle.op_wire.proofs.Sizes.{long_counts, undo_size}
use Rattle.op_wire.proofs.encoding.undo_len.Goals as goal

pub returns-then-cs-clause-long : goal.returns-then-cs-clause-long
returns-then-cs-clause-long c =
    let lt = subst (λ (cs : List UndoCount). limit < length cs) c.as_slice-cs.ensures c.if-cs.true in
    rw c.as_slice-cs.ensures (long_counts c.args.undo.now c.as_slice-entries.ensures.kept lt)

pub returns-clause-ok : goal.returns-clause-ok
returns-clause-ok c =
    let le = subst (λ (cs : List UndoCount). length cs ≤ limit) c.as_slice-cs.ensures c.if-cs.false in
    let each = subst (AllByRecursion IsCount) c.as_slice-cs.ensures c.counts_fit.ensures in
    rw (c.as_slice-entries.ensures.entries, c.as_slice-cs.ensures) (undo_size c.args.undo.now c.stamp_fits.ensures c.as_slice-entries.ensures.kept each le)
