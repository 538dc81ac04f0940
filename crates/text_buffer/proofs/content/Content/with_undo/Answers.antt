use Rattle.std.proofs.Common.{◌∙◌, ◌+◌, ◌≤◌, ◌^◌, [], map, refl, ap, arith}
use Rattle.std.proofs.lemmas.Result.{IfOk-weaker}
use Rattle.op_model.specs.declared.operation.Operation.TheVariants.{Undo}
use Rattle.op_model.specs.declared.operation.UndoCount.{UndoCount}
use Rattle.op_model.specs.Histories.{bytes_held}
use Rattle.op_model.specs.Shown.{hidden_text, text}
use Rattle.remote_edit.specs.Undoing.{MayMark}
use Rattle.remote_edit.proofs.Fragments.{fragments_with_undo}
use Rattle.remote_edit.proofs.Standing.{found_of}
use Rattle.text_buffer.proofs.Applied.{counts_fit}
use Rattle.text_buffer.proofs.Contents.{content_after, may_mark, moved_texts, moves_room, take_texts}
use Rattle.text_buffer.proofs.content.Content.with_undo.Goals as goal

pub put_undo-requires : goal.put_undo-requires
put_undo-requires c = let m = c.requires in counts_fit m.history c.args.undo.now c.args.self.undos m.known m.content.stand.counts m.grows.room

pub after_moves-requires-clause-texts : goal.after_moves-requires-clause-texts
after_moves-requires-clause-texts c =
    let m = c.requires in
    let h = m.history in
    let k = m.content in
    let u = c.args.undo.now in
    let edits = c.as_slice-2.ensures.value ∙ c.in_ok-edits.ensures ∙ ap (map (λ (x : UndoCount). x.edit)) c.as_slice.ensures in
    let may : MayMark c.args.self.fragments.items c.args.self.index c.in_ok-undos.undos u.stamp c.as_slice-2.result.now h u =
    may_mark c.args.self h u c.in_ok-undos.undos c.as_slice-2.result.now k m.known m.grows (c.in_ok-undos.ensures.history h k.stand.counts) edits in
    take_texts c.in_ok-placed.placed.moves c.args.self.text c.args.self.hidden [] (text h) (hidden_text h) [] k.shown k.hidden refl
    (c.in_ok-placed.ensures.characters h u may m.known.proper k.whole).1

pub after_moves-requires-clause-room : goal.after_moves-requires-clause-room
after_moves-requires-clause-room c =
    let m = c.requires in
    let b : bytes_held m.history + 0 ≤ 2 ^ 40 = m.grows.room.bytes in
    let r = moves_room c.args.self m.history 0 m.content b in
    omega (arith, r)

pub returns : goal.returns
returns c =
    let u = c.args.undo.now in
    let s = c.args.self in
    let p = c.in_ok-placed.placed in
    let w = c.in_ok-undos.undos in
    let ts = c.as_slice-2.result.now in
    let edits = c.as_slice-2.ensures.value ∙ c.in_ok-edits.ensures ∙ ap (map (λ (x : UndoCount). x.edit)) c.as_slice.ensures in
    IfOk-weaker c.after_moves.result _ _ (λ x d h k b g. let counts = c.in_ok-undos.ensures.history h k.stand.counts in
    let may : MayMark s.fragments.items s.index w u.stamp ts h u = may_mark s h u w ts k b g counts edits in
    content_after x p h (Undo u) w w [] (moved_texts x p w s.text s.hidden (text h) (hidden_text h) [] k.shown k.hidden d) refl refl
    (fragments_with_undo h u w ts s.fragments.items p.fragments.items counts edits k.fragments (c.in_ok-placed.ensures.fragments (found_of s.fragments.items s.index _ h may.stands may.lawful)))
    (c.in_ok-placed.ensures.stands h u may) (c.in_ok-placed.ensures.characters h u may b.proper k.whole).0 (c.in_ok-placed.ensures.moves h u may)) c.after_moves.ensures

pub same-text : goal.same-text
same-text c = refl

pub same-hidden : goal.same-hidden
same-hidden c = refl

pub same-undos : goal.same-undos
same-undos c = refl

pub slice_bounds-after_moves-end : goal.slice_bounds-after_moves-end
slice_bounds-after_moves-end c = refl
