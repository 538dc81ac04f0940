use Rattle.std.proofs.Common.{◌∙◌, ◌++◌, length, take, sym, ap, subst}
use Rattle.std.specs.Str.{IsUtf8}
use Rattle.rope_edits.specs.Sides.{SideState, pass_bytes}
use Rattle.rope_edits.proofs.Sides.{side_is, stop_at}
use Rattle.rope_edits.proofs.side.Side.pass.Goals as goal

pub invariant_of-self : goal.invariant_of-self
invariant_of-self c = (stop_at c.self.inside.rope c.self.inside.made c.args.bytes c.end_of-self-inside.result c.known.ensures.text c.self.invariant
    (subst (λ (s : SideState). IsUtf8 (take c.args.bytes s.left)) (sym c.self.view_is) c.requires) (c.end_of-self-inside.ensures ∙ ap (λ (s : SideState). length (s.made ++ take c.args.bytes s.left)) (sym c.self.view_is))).boundary

pub returns : goal.returns
returns c =
    let s = stop_at c.self.inside.rope c.self.inside.made c.args.bytes c.end_of-self-inside.result c.known.ensures.text c.self.invariant
    (subst (λ (s : SideState). IsUtf8 (take c.args.bytes s.left)) (sym c.self.view_is) c.requires) (c.end_of-self-inside.ensures ∙ ap (λ (s : SideState). length (s.made ++ take c.args.bytes s.left)) (sym c.self.view_is)) in
    side_is _ _ _ _ s.front s.back ∙ ap (pass_bytes c.args.bytes) c.self.view_is
