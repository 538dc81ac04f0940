use Rattle.std.proofs.Common.{◌∙◌, List, ap, ◌∷◌}
use Rattle.std.specs.Option.{option_copied}
use Rattle.fragments.specs.declared.fragment.Fragment.{Fragment}
use Rattle.remote_edit.specs.Marks.{touch_index}
use Rattle.remote_edit.specs.Steps.{after, tail}
use Rattle.remote_edit.proofs.Gathers.{left_none}
use Rattle.remote_edit.proofs.gather.Gather.put_halves.Goals as goal

pub returns-clause-rest : goal.returns-clause-rest
returns-clause-rest c =
    let s = c.args.self.now in
    let n = c.touch_next.new.self in
    let xs : List Fragment = c.args.tree.now.items in
    ap (λ (z : List Fragment). c.args.upper ∷ z) (left_none xs (tail (after xs s.at s.back)) n.at n.back c.in_ok-touch_next.ensures.rest c.in_ok-touch_next.ensures.none)

pub returns-clause-index : goal.returns-clause-index
returns-clause-index c = c.in_ok-touch_next.ensures.index ∙ ap (touch_index (option_copied c.args.marks) c.args.edit.now.stamp c.args.edit.now.version c.args.lower) c.in_ok-enter_both.ensures
