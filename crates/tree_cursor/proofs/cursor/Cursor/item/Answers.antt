use Rattle.std.proofs.Common.{◌∙◌}
use Rattle.tree_cursor.proofs.Counts.{get_ahead}
use Rattle.tree_cursor.proofs.cursor.Cursor.item.Goals as goal

pub returns : goal.returns
returns g c =
    let i = c.self.inside in
    rw (← c.self.view_is) (c.entry_item.ensures ∙ get_ahead i.tree.now.items i.path.items i.halt.item i.index c.self.invariant.1.here)
