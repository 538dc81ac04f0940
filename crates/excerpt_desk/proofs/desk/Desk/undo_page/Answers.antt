use Rattle.std.proofs.Common.{◌<◌, length, refl, set, subst, sym}
use Rattle.excerpt_desk.specs.Desk.{DeskState}
use Rattle.excerpt_desk.proofs.Following.{set_desk}
use Rattle.excerpt_desk.proofs.desk.Desk.undo_page.Goals as goal

pub invariant_of-self : goal.invariant_of-self
invariant_of-self c =
    let there : c.args.page < length c.self.inside.pages.items = subst (λ (d : DeskState). c.args.page < length d.pages) (sym c.self.view_is) c.requires in
    set_desk c.self.inside.multi c.self.inside.pages.items (set c.self.inside.pages.items c.args.page c.undo.new.buffer) c.self.inside.count c.args.page c.undo.new.buffer c.index_mut.result.now
    there c.index_mut.ensures.value c.undo.ensures refl c.self.invariant
