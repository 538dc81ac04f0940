use Rattle.std.proofs.Common.{List, ◌+◌, ◌≤◌, ◌^◌, sym, ap, subst, arith}
use Rattle.std.proofs.lemmas.Result.{IfOk-weaker}
use Rattle.op_model.specs.declared.operation.Operation.TheVariants.{Edit}
use Rattle.op_model.specs.declared.operation.Piece.{Piece}
use Rattle.op_model.specs.Operations.{text_total}
use Rattle.op_model.specs.Histories.{bytes_held}
use Rattle.op_model.specs.Shown.{hidden_text, text, texts}
use Rattle.remote_edit.specs.Changes.{after_change}
use Rattle.remote_edit.specs.Fragments.{fragments_of}
use Rattle.remote_edit.specs.Moves.{TakeTexts}
use Rattle.remote_edit.proofs.Fragments.{fragments_with_edit}
use Rattle.text_buffer.proofs.Contents.{content_seen, history_seen, may_place}
use Rattle.text_buffer.proofs.Drafts.{draft_after}
use Rattle.text_buffer.proofs.document.Document.draft_with_edit.Goals as goal

pub plan_remote-requires : goal.plan_remote-requires
plan_remote-requires c =
    let h = c.args.self.now in
    let k = content_seen c.self.inside h c.self.invariant c.self.view_is in
    let s = history_seen c.self.inside h c.self.invariant c.self.view_is in
    may_place c.self.inside.content h (Edit c.args.edit.now) k s c.requires

pub draft_of-requires-clause-texts : goal.draft_of-requires-clause-texts
draft_of-requires-clause-texts c =
    let h = c.args.self.now in
    let k = content_seen c.self.inside h c.self.invariant c.self.view_is in
    let s = history_seen c.self.inside h c.self.invariant c.self.view_is in
    subst (λ (ps : List Piece). TakeTexts c.in_ok-placement.placement.moves (text h) (hidden_text h) (texts ps)) (sym c.as_slice.ensures)
    (c.in_ok-placement.ensures.characters h k.stand s.lawful s.proper c.requires.proper c.requires.good k.whole).1

pub draft_of-requires-clause-room : goal.draft_of-requires-clause-room
draft_of-requires-clause-room c =
    let e = ap text_total c.as_slice.ensures in
    let r : bytes_held c.args.self.now + text_total c.args.edit.now.pieces ≤ 2 ^ 40 = c.requires.room.bytes in
    omega (arith, e, r)

pub returns : goal.returns
returns c =
    let h = c.args.self.now in
    let k = content_seen c.self.inside h c.self.invariant c.self.view_is in
    let s = history_seen c.self.inside h c.self.invariant c.self.view_is in
    let fs = c.self.inside.content.fragments.items in
    let p = c.in_ok-placement.ensures in
    IfOk-weaker c.draft_of.result _ _ (λ x m. draft_after x c.in_ok-placement.placement fs (fragments_of h) h (Edit c.args.edit.now) c.self.inside.content.undos c.in_ok-share.field-0 (texts c.as_slice.result.now) m (ap texts c.as_slice.ensures) c.in_ok-share.ensures
    k.fragments p.may (fragments_with_edit h c.args.edit.now c.self.inside.content.undos fs (after_change c.in_ok-placement.placement.change fs) k.stand.counts k.fragments p.fragments)
    (p.stands h k.stand s.lawful c.requires.good)
    (p.characters h k.stand s.lawful s.proper c.requires.proper c.requires.good k.whole).0
    (p.moves h k.stand s.lawful c.requires.good)) c.draft_of.ensures
