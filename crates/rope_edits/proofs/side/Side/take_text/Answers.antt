use Rattle.std.proofs.Common.{◌∙◌, ◌++◌, length, List, ℕ, take, sym, ap, subst}
use Rattle.std.specs.Str.{IsCharBoundary, IsUtf8}
use Rattle.rope_edits.specs.Sides.{SideState}
use Rattle.rope_edits.proofs.Sides.{stop_at, parts_without}
use Rattle.rope_edits.proofs.side.Side.take_text.Goals as goal

pub text_of-requires-clause-end : goal.text_of-requires-clause-end
text_of-requires-clause-end c = (stop_at c.self.inside.rope c.self.inside.made c.args.bytes c.end_of-end.result c.known.ensures.text c.self.invariant
    (subst (λ (s : SideState). IsUtf8 (take c.args.bytes s.left)) (sym c.self.view_is) c.requires) (c.end_of-end.ensures ∙ ap (λ (s : SideState). length (s.made ++ take c.args.bytes s.left)) (sym c.self.view_is))).boundary

pub replace-requires-clause-end : goal.replace-requires-clause-end
replace-requires-clause-end c = (stop_at c.self.inside.rope c.self.inside.made c.args.bytes c.end_of-end.result c.known.ensures.text c.self.invariant
    (subst (λ (s : SideState). IsUtf8 (take c.args.bytes s.left)) (sym c.self.view_is) c.requires) (c.end_of-end.ensures ∙ ap (λ (s : SideState). length (s.made ++ take c.args.bytes s.left)) (sym c.self.view_is))).boundary

pub invariant_of-self : goal.invariant_of-self
invariant_of-self c = subst (λ (r : List ℕ). IsCharBoundary r c.self.inside.made) (sym c.in_err-replace.ensures.err) c.self.invariant

pub invariant_of-self-2 : goal.invariant_of-self-2
invariant_of-self-2 c = (parts_without c.self.inside.rope c.replace.new.self c.self.inside.made c.args.bytes c.end_of-end.result c.known.ensures.text c.self.invariant
    (stop_at c.self.inside.rope c.self.inside.made c.args.bytes c.end_of-end.result c.known.ensures.text c.self.invariant
    (subst (λ (s : SideState). IsUtf8 (take c.args.bytes s.left)) (sym c.self.view_is) c.requires) (c.end_of-end.ensures ∙ ap (λ (s : SideState). length (s.made ++ take c.args.bytes s.left)) (sym c.self.view_is)))
    c.in_ok-replace.ensures.ok).boundary
