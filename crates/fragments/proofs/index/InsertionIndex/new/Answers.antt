use Rattle.std.proofs.Common.{◌≡◌, ◌∙◌, List, length, ap, refl, subst, sym, arith}
use Rattle.fragments.specs.declared.index_entry.IndexEntry.{IndexEntry}
use Rattle.fragments.specs.Index.{IsAscending, with_entries}
use Rattle.fragments.specs.DeletedRuns.{AreNumbered}
use Rattle.fragments.proofs.Indexes.{none_ascending}
use Rattle.fragments.proofs.Runs.{none_numbered}
use Rattle.fragments.proofs.index.InsertionIndex.new.Goals as goal

pub same-recent : goal.same-recent
same-recent c = refl

pub same-entries : goal.same-entries
same-entries c = refl

pub invariant_of-result : goal.invariant_of-result
invariant_of-result c =
    let none : length (with_entries c.in_ok-recent.recent c.in_ok-entries.entries.items) ≡ 0 = ap (λ (b : List IndexEntry). length (with_entries b c.in_ok-entries.entries.items)) c.in_ok-recent.ensures ∙ ap length c.in_ok-entries.ensures.items in
    (subst IsAscending (sym c.in_ok-entries.ensures.items) none_ascending, subst AreNumbered (sym c.in_ok-deletions.ensures.items) none_numbered, omega (arith, none))
