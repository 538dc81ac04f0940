use Rattle.std.proofs.Common.{sym, true, false}
use Rattle.std.proofs.lemmas.Bool.{lt-ltb, le-ltb}
use Rattle.op_answers.proofs.verdict.fork_fault.Goals as goal
use Rattle.op_model.proofs.answers.Answering.{fork_by}

pub returns-then-get-kept : goal.returns-then-get-kept
returns-then-get-kept c h e = fork_by h c.args.op.now c.get-kept.result c.get.result true (cc) (cc) (sym (lt-ltb c.get.result c.get-kept.result c.if-get-kept.true))

pub returns : goal.returns
returns c h e = fork_by h c.args.op.now c.get-kept.result c.get.result false (cc) (cc) (sym (le-ltb c.get.result c.get-kept.result c.if-get-kept.false))
