use Rattle.std.proofs.Common.{sym}
use Rattle.text_buffer.specs.Opening.{rules_of}
use Rattle.text_buffer.proofs.Opens.{first_broken, first_good, first_long, first_other}
use Rattle.text_buffer.proofs.opening.first_fault.Goals as goal

pub returns-in_default-clause-fault : goal.returns-in_default-clause-fault
returns-in_default-clause-fault c = sym (first_other (rules_of c.args.limits c.args.endings) c.args.op.now c.in_default.ensures.other)

pub returns-in-Some-rule_fault-clause-fault : goal.returns-in-Some-rule_fault-clause-fault
returns-in-Some-rule_fault-clause-fault c = sym (first_broken (rules_of c.args.limits c.args.endings) c.args.op.now c.in-Some.text.now c.in-Some-rule_fault.fault c.in-Some.ensures.base (sym c.in-Some-rule_fault.ensures))

pub returns-then-limits-adds-clause-fault : goal.returns-then-limits-adds-clause-fault
returns-then-limits-adds-clause-fault c = sym (first_long (rules_of c.args.limits c.args.endings) c.args.op.now c.in-Some.text.now c.in-Some.ensures.base (sym c.in_default-rule_fault.ensures) c.if-limits-adds.true)

pub returns-clause-fault : goal.returns-clause-fault
returns-clause-fault c = sym (first_good (rules_of c.args.limits c.args.endings) c.args.op.now c.in-Some.text.now c.in-Some.ensures.base (sym c.in_default-rule_fault.ensures) c.if-limits-adds.false)
