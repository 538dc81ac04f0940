use Rattle.std.proofs.Common.{◌≡◌, ◌≤◌, ◌^◌, ◌∙◌, List, length, refl, sym, ap, subst}
use Rattle.fragments.specs.declared.index_entry.IndexEntry.{IndexEntry}
use Rattle.fragments.specs.Index.{IsAscending, with_entries}
use Rattle.fragments.specs.DeletedRuns.{AreNumbered}
use Rattle.fragments.proofs.index.InsertionIndex.share.Goals as goal

pub same-recent : goal.same-recent
same-recent c = refl

pub same-entries : goal.same-entries
same-entries c = refl

pub invariant_of-result : goal.invariant_of-result
invariant_of-result c =
    let all : with_entries c.in_ok-recent.recent c.in_ok-entries.entries.items ≡ with_entries c.self.inside.recent c.self.inside.entries.items =
    ap (λ (b : List IndexEntry). with_entries b c.in_ok-entries.entries.items) c.in_ok-recent.ensures ∙ ap (λ t. with_entries c.self.inside.recent t.items) c.in_ok-entries.ensures in (
      subst IsAscending (sym (ap (λ t. t.items) c.in_ok-entries.ensures)) c.self.invariant.0,
      subst AreNumbered (sym (ap (λ t. t.items) c.in_ok-deletions.ensures)) c.self.invariant.1,
      subst (λ (w : List IndexEntry). length w ≤ 2 ^ 40) (sym all) c.self.invariant.2,
    )
