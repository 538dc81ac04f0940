use Rattle.std.proofs.Common.{◌∙◌, arith}
use Rattle.sum_tree.proofs.Lists.{taken_out}
use Rattle.sum_tree.proofs.here.put_run.Goals as goal

pub returns-in-1-eq0-clause-ok : goal.returns-in-1-eq0-clause-ok
returns-in-1-eq0-clause-ok g c =
    c.remove-old.ensures.items
    ∙ taken_out c.args.from c.args.to c.args.list.now.items c.args.run.items c.requires.order (omega (arith, c.in-1-eq0.is-0)) (omega (arith, c.in-1-eq0.is-1, c.len.ensures, c.args.run.ok))
