use Rattle.std.proofs.Common.{◌≡◌, ℕ, ◌+◌, min, ap, sym, ◌∙◌, arith, length, take, drop}
use Rattle.std.specs.List.{slice_get}
use Rattle.tree_cursor.specs.Places.{place_behind, filter_count}
use Rattle.tree_cursor.proofs.Counts.{filter_passes, filtering, get_ahead}
use Rattle.tree_cursor.proofs.Walks.{at_further, walk_begins}
use Rattle.tree_cursor.proofs.filter.FilterCursor.next.Goals as goal

pub invariant_of-self : goal.invariant_of-self
invariant_of-self g c =
    let i = c.self.inside in
    let w = c.walk-halt in
    let whole = i.tree.now.items in
    let from = g.D.Plain.plain i.from in
    let k = i.next + w.result.passed in
    let at = at_further g.D.Moves.moved g.D.Moves.fits g.T.Summary.Summary.empty g.T.Summary.Summary.op g.T.Item.sum_of whole i.path.items from (g.D.Plain.plain i.end) i.next w.result.passed w.new.path.items w.result.item (g.D.Plain.plain w.result.start) (g.D.Plain.plain w.result.end) c.self.invariant.0 c.self.invariant.1 c.self.invariant.3 w.ensures.at in
    let b = walk_begins w.result.item at in
    let m = c.index_behind-self-inside.ensures in
    (grind (arith, m, b.0), b.1 ∙ ap (λ (n : ℕ). drop n whole) (sym m), at.starts, b.2 ∙ ap (λ (n : ℕ). place_behind g.D.Moves.moved g.T.Item.sum_of from (take n whole)) (sym m), at.room)

pub returns-clause-item : goal.returns-clause-item
returns-clause-item g c =
    let i = c.self.inside in
    let w = c.walk-halt in
    let whole = i.tree.now.items in
    let from = g.D.Plain.plain i.from in
    let k = i.next + w.result.passed in
    let at = at_further g.D.Moves.moved g.D.Moves.fits g.T.Summary.Summary.empty g.T.Summary.Summary.op g.T.Item.sum_of whole i.path.items from (g.D.Plain.plain i.end) i.next w.result.passed w.new.path.items w.result.item (g.D.Plain.plain w.result.start) (g.D.Plain.plain w.result.end) c.self.invariant.0 c.self.invariant.1 c.self.invariant.3 w.ensures.at in
    let keeps = g.K.Keep.keeps i.keep in
    let count : w.result.passed ≡ filter_count keeps g.T.Item.sum_of (drop i.next whole) = w.ensures.passed ∙ filter_passes g.D.Moves.moved g.T.Item.sum_of keeps (g.D.Plain.plain i.end) 0 i.path.items ∙ ap (filter_count keeps g.T.Item.sum_of) c.self.invariant.1 in
    rw (← c.self.view_is) (c.entry_item.ensures ∙ get_ahead whole w.new.path.items w.result.item k at.here ∙ ap (λ (n : ℕ). slice_get whole (i.next + n)) count)

pub returns-clause-moved : goal.returns-clause-moved
returns-clause-moved g c =
    let i = c.self.inside in
    let w = c.walk-halt in
    let whole = i.tree.now.items in
    let from = g.D.Plain.plain i.from in
    let k = i.next + w.result.passed in
    let at = at_further g.D.Moves.moved g.D.Moves.fits g.T.Summary.Summary.empty g.T.Summary.Summary.op g.T.Item.sum_of whole i.path.items from (g.D.Plain.plain i.end) i.next w.result.passed w.new.path.items w.result.item (g.D.Plain.plain w.result.start) (g.D.Plain.plain w.result.end) c.self.invariant.0 c.self.invariant.1 c.self.invariant.3 w.ensures.at in
    let b = walk_begins w.result.item at in
    let m = c.index_behind-self-inside.ensures in
    let keeps = g.K.Keep.keeps i.keep in
    let count : w.result.passed ≡ filter_count keeps g.T.Item.sum_of (drop i.next whole) = w.ensures.passed ∙ filter_passes g.D.Moves.moved g.T.Item.sum_of keeps (g.D.Plain.plain i.end) 0 i.path.items ∙ ap (filter_count keeps g.T.Item.sum_of) c.self.invariant.1 in
    let past : c.index_behind-self-inside.result ≡ min (i.next + filter_count keeps g.T.Item.sum_of (drop i.next whole) + 1) (length whole) = m ∙ b.0 ∙ ap (λ (n : ℕ). min (i.next + n + 1) (length whole)) count in
    rw (← c.self.view_is) (ap (λ (n : ℕ). filtering whole i.from i.keep (i.next + n) c.index_behind-self-inside.result) count ∙ ap (filtering whole i.from i.keep (i.next + filter_count keeps g.T.Item.sum_of (drop i.next whole))) past)
