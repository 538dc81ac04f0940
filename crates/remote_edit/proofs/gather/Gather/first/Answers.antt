use Rattle.std.proofs.Common.{Option, ap, sym, ◌∙◌}
use Rattle.fragments.specs.declared.fragment.Fragment.{Fragment}
use Rattle.remote_edit.specs.Steps.{head, after}
use Rattle.remote_edit.proofs.Gathers.{head_drop}
use Rattle.remote_edit.proofs.gather.Gather.first.Goals as goal

pub returns-in-None : goal.returns-in-None
returns-in-None c = c.get.ensures ∙ sym (ap (λ (b : Option Fragment). head (after c.args.tree.now.items c.args.self.now.at b)) c.in-None.is ∙ head_drop c.args.tree.now.items c.args.self.now.at)
