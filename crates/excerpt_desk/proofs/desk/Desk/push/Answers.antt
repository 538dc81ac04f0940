use Rattle.std.proofs.Common.{◌+◌, refl, subst, sym}
use Rattle.excerpt_desk.specs.Desk.{DeskState, IsNowIn}
use Rattle.excerpt_desk.proofs.Following.{may_sync_desk, push_desk}
use Rattle.excerpt_desk.proofs.desk.Desk.push.Goals as goal

pub same-self : goal.same-self
same-self c = refl

pub push-requires-clause-within : goal.push-requires-clause-within
push-requires-clause-within c =
    let now : IsNowIn c.self.inside.pages.items c.args.page c.args.snapshot = subst (λ (d : DeskState). IsNowIn d.pages c.args.page c.args.snapshot) (sym c.self.view_is) c.requires in
    may_sync_desk c.self.inside.multi c.self.inside.multi c.self.inside.pages.items c.self.inside.count c.args.page c.args.snapshot now c.self.invariant

pub invariant_of-self-2 : goal.invariant_of-self-2
invariant_of-self-2 c =
    let now : IsNowIn c.self.inside.pages.items c.args.page c.args.snapshot = subst (λ (d : DeskState). IsNowIn d.pages c.args.page c.args.snapshot) (sym c.self.view_is) c.requires in
    push_desk c.self.inside.multi c.push.new.self c.self.inside.pages.items c.self.inside.count c.args.page c.args.snapshot now c.self.invariant c.args.s c.args.e (c.self.inside.count + 1) c.in_ok-index.ensures.new refl
