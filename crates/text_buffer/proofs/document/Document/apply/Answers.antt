use Rattle.std.proofs.Common.{◌≡◌, ◌++◌, [], ◌∷◌, sym, subst}
use Rattle.std.specs.Prelude.{OnErr, OnOk}
use Rattle.op_model.specs.Histories.{History}
use Rattle.text_buffer.specs.Document.{MayGrow}
use Rattle.text_buffer.proofs.document.Document.apply.Goals as goal

pub apply_in_room-requires : goal.apply_in_room-requires
apply_in_room-requires c = subst (λ (h : History). MayGrow h c.args.op) (sym c.make_room.ensures) c.requires.grows

pub returns-clause-ok : goal.returns-clause-ok
returns-clause-ok c = subst (λ (h : History). OnOk c.apply_in_room.result (c.apply_in_room.new.self ≡ h ++ c.args.op ∷ [])) c.make_room.ensures c.apply_in_room.ensures.ok

pub returns-clause-err : goal.returns-clause-err
returns-clause-err c = subst (λ (h : History). OnErr c.apply_in_room.result (c.apply_in_room.new.self ≡ h)) c.make_room.ensures c.apply_in_room.ensures.err
