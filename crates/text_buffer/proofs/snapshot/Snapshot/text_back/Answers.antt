use Rattle.std.proofs.Common.{◌≡◌, ◌∙◌, ℕ, List, [], length, ap, refl, subst, arith}
use Rattle.op_model.specs.Shown.{text, hidden_text}
use Rattle.op_model.proofs.texts.Lengths.{both_bytes}
use Rattle.remote_edit.specs.Moves.{Texts, after_moves}
use Rattle.text_buffer.specs.Document.{IsContent}
use Rattle.text_buffer.proofs.Standing.{may_tell}
use Rattle.text_buffer.proofs.snapshot.Snapshot.text_back.Goals as goal

pub apply_moves-requires-clause-texts : goal.apply_moves-requires-clause-texts
apply_moves-requires-clause-texts c =
    let h = c.args.self.now in
    let k : IsContent c.content-content.result.now h = subst (IsContent c.content-content.result.now) c.self.view_is c.content-content.ensures in
    rw (c.as_slice.ensures, k.shown, k.hidden) (c.in_ok-moves.ensures.characters h (may_tell c.content-content.result.now h c.args.version.now k c.known.ensures.lawful c.requires) c.known.ensures.proper k.whole)

pub apply_moves-requires-clause-room : goal.apply_moves-requires-clause-room
apply_moves-requires-clause-room c =
    let h = c.args.self.now in
    let k : IsContent c.content-content.result.now h = subst (IsContent c.content-content.result.now) c.self.view_is c.content-content.ensures in
    let s = ap (λ (z : List ℕ). length z) k.shown in
    let n = ap (λ (z : List ℕ). length z) k.hidden in
    let b = both_bytes h in
    let m = c.known.ensures.bytes in
    omega (arith, s, n, b, m)

pub returns : goal.returns
returns c =
    let h = c.args.self.now in
    let k : IsContent c.content-content.result.now h = subst (IsContent c.content-content.result.now) c.self.view_is c.content-content.ensures in
    let same : after_moves c.as_slice.result.now c.content-content.result.now.text c.content-content.result.now.hidden [] ≡ after_moves c.in_ok-moves.moves (text h) (hidden_text h) [] = rw (c.as_slice.ensures, k.shown, k.hidden) refl in
    c.in_ok-to_string.ensures ∙ ap (λ (x : Texts). x.shown) (c.in_ok-texts.ensures ∙ same)
    ∙ c.in_ok-moves.ensures.text h (may_tell c.content-content.result.now h c.args.version.now k c.known.ensures.lawful c.requires)
