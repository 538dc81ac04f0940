use Rattle.std.proofs.Common.{◌≡◌, ◌∙◌, [], ◌∷◌, ◌++◌, None, ap, subst}
use Rattle.op_model.specs.Made.{local_edit, local_edit_fault}
use Rattle.op_model.specs.Rules.{rule_fault}
use Rattle.op_model.specs.Shown.{text}
use Rattle.text_buffer.specs.Buffer.{BufferState, IsBuffer}
use Rattle.text_buffer.specs.BufferInside.{state_of}
use Rattle.text_buffer.proofs.Edited.{good_of, good_under, room_made}
use Rattle.text_buffer.proofs.Applied.{IsBuffer-put}
use Rattle.text_buffer.proofs.buffer.Buffer.make_entered.Goals as goal

pub make_edit-requires : goal.make_edit-requires
make_edit-requires g c = record {
  replica = (c.self.invariant.least_replica, c.self.invariant.greatest_replica);
  limits = c.self.inside.limits;
  most_bytes = c.self.invariant.most_bytes;
  most_entries = c.self.invariant.most_entries;
  faultless = ap (λ (b : BufferState). local_edit_fault b.limits b.history c.args.pieces.now) c.self.view_is ∙ c.requires.faultless;
}

pub invariant_of-self-2 : goal.invariant_of-self-2
invariant_of-self-2 g c =
    let b : BufferState = state_of c.self.inside in
    let e : local_edit_fault b.limits b.history c.args.pieces.now ≡ None = ap (λ (b : BufferState). local_edit_fault b.limits b.history c.args.pieces.now) c.self.view_is ∙ c.requires.faultless in
    let n : rule_fault b.endings (local_edit b.history b.replica c.args.pieces.now) ≡ None =
    ap (λ (b : BufferState). rule_fault b.endings (local_edit b.history b.replica c.args.pieces.now)) c.self.view_is ∙ c.requires.rule in
    IsBuffer-put b (local_edit b.history b.replica c.args.pieces.now) c.make_edit.new.self c.self.invariant c.known.ensures
    (good_under b c.args.pieces.now c.self.invariant e n) (room_made b c.args.pieces.now e) c.in_ok-made.ensures.new

pub returns-clause-text : goal.returns-clause-text
returns-clause-text g c =
    ap text (c.in_ok-made.ensures.new ∙ ap (λ (b : BufferState). b.history ++ local_edit b.history b.replica c.args.pieces.now ∷ []) c.self.view_is)
    ∙ (good_of c.args.self.now c.args.pieces.now (subst IsBuffer c.self.view_is c.self.invariant) c.requires.faultless).1
