use Rattle.std.proofs.Common.{arith, refl, length}
use Rattle.std.proofs.lemmas.Bool.{le-ltb}
use Rattle.op_model.specs.Rules.{text_under}
use Rattle.text_buffer.proofs.LineEndings.{no_longer}
use Rattle.text_buffer.proofs.faults.text_fault.Goals as goal

pub returns-then-text-most-clause-fault : goal.returns-then-text-most-clause-fault
returns-then-text-most-clause-fault c =
    let k = no_longer c.args.endings c.args.text.now in
    let n = c.if-text-most.true in
    rw (le-ltb c.args.most (length (text_under c.args.endings c.args.text.now)) (omega (arith, k, n))) refl

pub returns-then-text-most-clause-room : goal.returns-then-text-most-clause-room
returns-then-text-most-clause-room c e =
    let k = no_longer c.args.endings c.args.text.now in
    let n = c.if-text-most.true in
    omega (arith, k, n)
