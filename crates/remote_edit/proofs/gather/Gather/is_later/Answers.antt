use Rattle.std.proofs.Common.{ap, sym, ◌∙◌}
use Rattle.remote_edit.specs.Steps.{later_first, after}
use Rattle.remote_edit.proofs.Gathers.{headed, none_rest}
use Rattle.remote_edit.proofs.gather.Gather.is_later.Goals as goal

pub returns-in-None : goal.returns-in-None
returns-in-None c = sym (ap (later_first c.args.edit.now.stamp c.args.edit.now.version) (none_rest (after c.args.tree.now.items c.args.self.now.at c.args.self.now.back) c.in-None.ensures))

pub returns-in-Some : goal.returns-in-Some
returns-in-Some c = c.is_past.ensures ∙ sym (ap (later_first c.args.edit.now.stamp c.args.edit.now.version) (headed (after c.args.tree.now.items c.args.self.now.at c.args.self.now.back) c.in-Some.fragment.now c.in-Some.ensures))
