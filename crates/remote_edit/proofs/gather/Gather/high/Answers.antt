use Rattle.std.proofs.Common.{◌≡◌, List, ap, sym, ◌∙◌, subst, IfOk}
use Rattle.fragments.specs.declared.fragment.Fragment.{Fragment}
use Rattle.remote_edit.specs.Walk.{next_id}
use Rattle.remote_edit.specs.Steps.{after}
use Rattle.remote_edit.proofs.Gathers.{headed, none_rest}
use Rattle.remote_edit.proofs.gather.Gather.high.Goals as goal

pub returns-in-None : goal.returns-in-None
returns-in-None c = subst (λ (z : List Fragment). IfOk c.greatest.result (λ id. id ≡ next_id z)) (sym (none_rest (after c.args.tree.now.items c.args.self.now.at c.args.self.now.back) c.in-None.ensures)) c.greatest.ensures.digits

pub returns-in_ok-copy-in-Some : goal.returns-in_ok-copy-in-Some
returns-in_ok-copy-in-Some c = c.in_ok-copy-in-Some.ensures.digits ∙ sym (ap next_id (headed (after c.args.tree.now.items c.args.self.now.at c.args.self.now.back) c.in-Some.fragment.now c.in-Some.ensures))
