use Rattle.std.proofs.Common.{◌≡◌, ℕ, ◌-◌, List, sym, subst, ◌∙◌, IfOk, arith}
use Rattle.remote_edit.proofs.Places.{last_taken, none_before}
use Rattle.remote_edit.proofs.gather.id_before.Goals as goal
use Rattle.remote_edit.proofs.gather.id_before.Goals.{then-at-gt0+in_default, else-at-gt0}
use Rattle.op_model.proofs.Elements.{none_past}

pub returns-in-Some : goal.returns-in-Some
returns-in-Some c = c.in_ok-copy.ensures.digits ∙ sym (last_taken c.args.tree.now.items (c.args.at - 1) c.args.at c.in-Some.fragment.now (omega (arith, c.if-at-gt0.true)) c.in-Some.ensures)

pub returns : goal.returns
returns c = elim c.if-at-gt0.branch [
  | then-at-gt0+in_default w ↦ absurd (let k = none_past c.args.tree.now.items (c.args.at - 1) (sym w.in_default.ensures) in omega (arith, k, w.if-at-gt0.true, c.requires))
  | else-at-gt0 w ↦ subst (λ (z : List ℕ). IfOk c.least.result (λ id. id ≡ z)) (sym (none_before c.args.tree.now.items c.args.at w.if-at-gt0.false)) c.least.ensures.digits
]
