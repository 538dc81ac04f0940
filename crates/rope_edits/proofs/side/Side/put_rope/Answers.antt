use Rattle.std.proofs.Common.{ℕ, refl, sym, subst, arith}
use Rattle.std.proofs.lemmas.Str.{IsCharBoundary-start, IsCharBoundary-end, IsCharBoundary-at_seam, IsUtf8-between}
use Rattle.std.specs.List.{slice_range}
use Rattle.std.specs.Str.{IsCharBoundary, IsUtf8}
use Rattle.rope_edits.proofs.side.Side.put_rope.Goals as goal

pub same-self : goal.same-self
same-self c = refl

pub slice-requires-2-clause-start : goal.slice-requires-2-clause-start
slice-requires-2-clause-start c = IsCharBoundary-start c.self.inside.rope c.known.ensures.text

pub same-self-in_err-rope : goal.same-self-in_err-rope
same-self-in_err-rope c = refl

pub same-self-in_err-append : goal.same-self-in_err-append
same-self-in_err-append c = refl

pub same-self-in_err-append-2 : goal.same-self-in_err-append-2
same-self-in_err-append-2 c = refl

pub invariant_of-self : goal.invariant_of-self
invariant_of-self c =
    let rope = c.self.inside.rope in
    let made = c.self.inside.made in
    let u : IsUtf8 (slice_range rope made c.len.result) = IsUtf8-between rope made c.len.result c.known.ensures.text (omega (arith, c.len.ensures, c.self.invariant.0)) c.self.invariant
    (subst (λ (n : ℕ). IsCharBoundary rope n) (sym c.len.ensures) (IsCharBoundary-end rope)) in
    subst (λ (n : ℕ). IsCharBoundary c.append-2.new.self n) (sym c.len-made.ensures)
    (IsCharBoundary-at_seam c.append-2.new.self c.append.new.self c.in_ok-left.left c.in_ok-append-2.ensures.ok (subst IsUtf8 (sym c.in_ok-left.ensures) u))
