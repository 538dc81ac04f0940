use Rattle.std.proofs.Common.{◌≤◌, ◌^◌, ◌∙◌, List, length, slice_get, sym, ap, subst}
use Rattle.fragments.specs.declared.index_entry.IndexEntry.{IndexEntry}
use Rattle.fragments.specs.Index.{with_entry}
use Rattle.fragments.proofs.Beside.{first_short}
use Rattle.fragments.proofs.recent.move_in.Goals as goal

pub insert-requires-clause-short : goal.insert-requires-clause-short
insert-requires-clause-short c =
    let l = c.loop-first in
    let first = ap (λ (es : List IndexEntry). slice_get es 0) (sym c.deref.ensures.value) ∙ sym c.in-Some.ensures.value in
    subst (λ (e : IndexEntry). length (with_entry e l.tree.items) ≤ 2 ^ 40) (sym c.in_ok-entry.ensures)
    (first_short l.entries.items l.tree.items c.in-Some.first.now l.invariant.ascending first l.invariant.short)
