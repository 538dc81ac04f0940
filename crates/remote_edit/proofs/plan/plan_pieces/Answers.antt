use Rattle.std.proofs.Common.{◌+◌, ◌*◌, ◌≤◌, ◌^◌, length, subst, refl}
use Rattle.sum_tree.specs.Seen.{Seen}
use Rattle.op_model.specs.Walked.{Ordered}
use Rattle.op_model.specs.declared.operation.Operation.TheVariants.{Edit}
use Rattle.fragments.specs.declared.fragment.Fragment.{Fragment}
use Rattle.remote_edit.specs.Changes.{IsPlacement}
use Rattle.remote_edit.specs.declared.tree_change.TreeChange.TheVariants.{Whole}
use Rattle.remote_edit.specs.Costs.{touch_count_behind}
use Rattle.remote_edit.specs.Starts.{AllSeen}
use Rattle.remote_edit.proofs.plan.plan_pieces.Goals as goal

pub place_edit-requires : goal.place_edit-requires
place_edit-requires g c = rw c.in_ok-share.ensures c.requires

pub returns-clause-placement : goal.returns-clause-placement
returns-clause-placement g c =
    let a = c.args in
    let p = c.in_ok-placed.placed in
    let k = c.in_ok-placed.ensures in
    subst (λ (q : Seen Fragment). IsPlacement q.items a.index a.undos.now a.edit.now (record { change = Whole p.fragments; index = p.index; moves = p.moves })) c.in_ok-share.ensures
    (record { may = tt; fragments = k.fragments; stands = k.stands; moves = k.moves; characters = k.characters })

pub returns-clause-cost : goal.returns-clause-cost
returns-clause-cost g c =
    let e = c.args.edit.now in
    subst (λ (q : Seen Fragment). AllSeen e.version q.items → Ordered 0 (2 ^ 40) e.pieces → c.place_edit.new.steps ≤ c.args.steps.now + 256 * (length e.pieces + touch_count_behind 0 e.pieces q.items)) c.in_ok-share.ensures c.place_edit.ensures.cost

pub returns-in_err-placed-clause-cost : goal.returns-in_err-placed-clause-cost
returns-in_err-placed-clause-cost g c =
    let e = c.args.edit.now in
    subst (λ (q : Seen Fragment). AllSeen e.version q.items → Ordered 0 (2 ^ 40) e.pieces → c.place_edit.new.steps ≤ c.args.steps.now + 256 * (length e.pieces + touch_count_behind 0 e.pieces q.items)) c.in_ok-share.ensures c.place_edit.ensures.cost
