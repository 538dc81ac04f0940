use Rattle.std.proofs.Common.{◌+◌, Option, ap, sym, ◌∙◌}
use Rattle.fragments.specs.declared.fragment.Fragment.{Fragment}
use Rattle.remote_edit.specs.Steps.{tail, after}
use Rattle.remote_edit.proofs.Gathers.{tail_drop}
use Rattle.remote_edit.proofs.gather.Gather.go_on.Goals as goal

pub returns-in-None-clause-rest : goal.returns-in-None-clause-rest
returns-in-None-clause-rest c =
    let xs = c.args.tree.now.items in
    let i = c.args.self.now.at in
    ap (λ (b : Option Fragment). after xs (i + 1) b) c.in-None.is ∙ sym (ap (λ (b : Option Fragment). tail (after xs i b)) c.in-None.is ∙ tail_drop xs i)
