use Rattle.std.proofs.Common.{subst, sym}
use Rattle.excerpt_desk.specs.Desk.{DeskState, IsNowIn}
use Rattle.excerpt_desk.proofs.Following.{may_sync_desk, sync_desk}
use Rattle.excerpt_desk.proofs.desk.Desk.sync_page.Goals as goal

pub sync-requires : goal.sync-requires
sync-requires c =
    let now : IsNowIn c.self.inside.pages.items c.args.page c.args.snapshot = subst (λ (d : DeskState). IsNowIn d.pages c.args.page c.args.snapshot) (sym c.self.view_is) c.requires in
    may_sync_desk c.self.inside.multi c.self.inside.multi c.self.inside.pages.items c.self.inside.count c.args.page c.args.snapshot now c.self.invariant

pub invariant_of-self : goal.invariant_of-self
invariant_of-self c =
    let now : IsNowIn c.self.inside.pages.items c.args.page c.args.snapshot = subst (λ (d : DeskState). IsNowIn d.pages c.args.page c.args.snapshot) (sym c.self.view_is) c.requires in
    sync_desk c.self.inside.multi c.sync.new.self c.self.inside.pages.items c.self.inside.count c.args.page c.args.snapshot now c.self.invariant c.sync.result c.sync.ensures.ok c.sync.ensures.err
