use Rattle.std.proofs.Common.{◌+◌, ◌≤◌, ◌^◌, ap, arith, refl}
use Rattle.std.proofs.lemmas.Result.{IfOk-weaker}
use Rattle.op_model.specs.declared.operation.Operation.TheVariants.{Edit}
use Rattle.op_model.specs.Operations.{text_total}
use Rattle.op_model.specs.Histories.{bytes_held}
use Rattle.op_model.specs.Shown.{hidden_text, text, texts}
use Rattle.remote_edit.proofs.Fragments.{fragments_with_edit}
use Rattle.text_buffer.proofs.Contents.{content_after, may_place, moved_texts, moves_room, take_texts}
use Rattle.text_buffer.proofs.content.Content.with_edit.Goals as goal

pub place_remote_into-requires : goal.place_remote_into-requires
place_remote_into-requires c = let m = c.requires in may_place c.args.self m.history (Edit c.args.edit.now) m.content m.known m.grows

pub after_moves-requires-clause-texts : goal.after_moves-requires-clause-texts
after_moves-requires-clause-texts c =
    let m = c.requires in
    let h = m.history in
    let k = m.content in
    take_texts c.in_ok-placed.placed.moves c.args.self.text c.args.self.hidden (texts c.as_slice.result.now) (text h) (hidden_text h) (texts c.args.edit.now.pieces) k.shown k.hidden (ap texts c.as_slice.ensures)
    (c.in_ok-placed.ensures.characters h k.stand m.known.lawful m.known.proper m.grows.proper m.grows.good k.whole).1

pub after_moves-requires-clause-room : goal.after_moves-requires-clause-room
after_moves-requires-clause-room c =
    let m = c.requires in
    let n = text_total c.args.edit.now.pieces in
    let e = ap text_total c.as_slice.ensures in
    let b : bytes_held m.history + n ≤ 2 ^ 40 = m.grows.room.bytes in
    let r = moves_room c.args.self m.history n m.content b in
    omega (arith, e, r)

pub returns : goal.returns
returns c =
    let e = c.args.edit.now in
    let s = c.args.self in
    let p = c.in_ok-placed.placed in
    let n = texts c.as_slice.result.now in
    IfOk-weaker c.after_moves.result _ _ (λ x d h k b g. content_after x p h (Edit e) s.undos s.undos n (moved_texts x p s.undos s.text s.hidden (text h) (hidden_text h) n k.shown k.hidden d) (ap texts c.as_slice.ensures) refl
    (fragments_with_edit h e s.undos s.fragments.items p.fragments.items k.stand.counts k.fragments c.in_ok-placed.ensures.fragments)
    (c.in_ok-placed.ensures.stands h k.stand b.lawful g.good)
    (c.in_ok-placed.ensures.characters h k.stand b.lawful b.proper g.proper g.good k.whole).0
    (c.in_ok-placed.ensures.moves h k.stand b.lawful g.good)) c.after_moves.ensures
