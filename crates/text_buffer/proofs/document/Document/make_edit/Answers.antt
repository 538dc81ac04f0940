use Rattle.std.proofs.Common.{◌≡◌, ◌++◌, ◌-◌, [], ◌∷◌, sym, subst, arith}
use Rattle.std.specs.Prelude.{IfOk, OnErr, OnOk}
use Rattle.op_model.specs.Histories.{History}
use Rattle.op_model.specs.Made.{local_edit}
use Rattle.text_buffer.specs.Costs.{IsEditCost}
use Rattle.text_buffer.specs.Document.{MayEdit}
use Rattle.text_buffer.proofs.document.Document.make_edit.Goals as goal

pub edit_in_room-requires : goal.edit_in_room-requires
edit_in_room-requires g c = subst (λ (h : History). MayEdit h c.args.replica c.args.changes.now) (sym c.make_room.ensures) c.requires

pub returns-clause-made : goal.returns-clause-made
returns-clause-made g c = subst (λ (h : History). IfOk c.edit_in_room.result (λ op. op ≡ local_edit h c.args.replica c.args.changes.now)) c.make_room.ensures c.edit_in_room.ensures.made

pub returns-clause-new : goal.returns-clause-new
returns-clause-new g c = subst (λ (h : History). OnOk c.edit_in_room.result (c.edit_in_room.new.self ≡ h ++ local_edit h c.args.replica c.args.changes.now ∷ [])) c.make_room.ensures c.edit_in_room.ensures.new

pub returns-clause-err : goal.returns-clause-err
returns-clause-err g c = subst (λ (h : History). OnErr c.edit_in_room.result (c.edit_in_room.new.self ≡ h)) c.make_room.ensures c.edit_in_room.ensures.err

pub returns-clause-cost : goal.returns-clause-cost
returns-clause-cost g c = subst (λ (h : History). IsEditCost h c.args.changes.now (c.edit_in_room.new.steps - c.args.steps.now)) c.make_room.ensures c.edit_in_room.ensures.cost

pub returns-in_err-make_room-clause-cost : goal.returns-in_err-make_room-clause-cost
returns-in_err-make_room-clause-cost g c = subst (IsEditCost c.args.self.now c.args.changes.now) (omega arith) (c.known_cost.ensures c.args.changes.now)
