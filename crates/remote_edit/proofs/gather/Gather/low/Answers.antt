use Rattle.std.proofs.Common.{◌≡◌, ◌-◌, List, length, Some, take, sym, ◌∙◌, subst}
use Rattle.std.specs.List.{slice_get}
use Rattle.fragments.specs.declared.fragment.Fragment.{Fragment}
use Rattle.remote_edit.proofs.Gathers.{last_in}
use Rattle.remote_edit.proofs.gather.Gather.low.Goals as goal

pub returns-in_ok-copy-in-Some : goal.returns-in_ok-copy-in-Some
returns-in_ok-copy-in-Some c =
    let k = subst (λ (s : List Fragment). Some c.in-Some.fragment.now ≡ slice_get s (length s - 1)) c.deref.ensures.value c.in-Some.ensures.value in
    c.in_ok-copy-in-Some.ensures.digits ∙ sym (last_in (take c.args.self.now.from c.args.tree.now.items) c.args.self.now.made.items c.in-Some.fragment.now k)
