-- Summaries of fragments.
use Rattle.std.specs.Prelude.{◌≡◌, ℕ, ◌+◌, ◌<◌, ◌^◌, Bool, List, [], ◌∷◌, Option, Some, None, if◌then◌else◌}
use Rattle.std.specs.Cmp.Lexicographic.{slice_cmp}
use Rattle.std.specs.Ordering.{nat_cmp}
use Rattle.tree_cursor.specs.Keys.{greater, cmp_less}
use Rattle.lamport_clock.specs.declared.stamp.Lamport.{Lamport}
use Rattle.lamport_clock.specs.Versions.{Entries, AreEntries, raise, join_versions}
use Rattle.fragments.specs.declared.fragment.Fragment.{Fragment}
use Rattle.fragments.specs.declared.fragment.FragmentSummary.{FragmentSummary}
use Rattle.fragments.specs.Spans.{join_spans, AreSpans}

abbrev pub no_fragments : FragmentSummary
no_fragments = record { visible = 0; hidden = 0; last_id = None; span = []; greatest = [] }

abbrev pub id_less : List ℕ → List ℕ → Bool
id_less a b = cmp_less (slice_cmp nat_cmp) a b

abbrev pub greater_id : Option (List ℕ) → Option (List ℕ) → Option (List ℕ)
greater_id a b = greater id_less a b

abbrev pub summaries : FragmentSummary → FragmentSummary → FragmentSummary
summaries a b = record {
  visible = a.visible + b.visible;
  hidden = a.hidden + b.hidden;
  last_id = greater_id a.last_id b.last_id;
  span = join_spans a.span b.span;
  greatest = join_versions a.greatest b.greatest;
}

-- a sum that fragments may have: without stamps there are no cells
pub record IsSummary (s : FragmentSummary) : Type 0 where
  pub spans : AreSpans s.span
  pub none : s.span ≡ [] → s.visible + s.hidden ≡ 0
  pub entries : AreEntries s.greatest

abbrev pub SummaryFits : FragmentSummary → Type 0
SummaryFits s = s.visible + s.hidden < 2 ^ 64

-- the sum of a single fragment has one stamp
abbrev pub IsOne : FragmentSummary → Type 0
IsOne s = (t : Lamport) × (s.span ≡ record { replica = t.replica; least = t.value; greatest = t.value } ∷ [])

-- v after it has seen these stamps
abbrev pub with_stamps : List Lamport → Entries → Entries
with_stamps [] v = v
with_stamps (t ∷ d) v = with_stamps d (raise v t)

-- the summary of one fragment
abbrev pub summary_of : Fragment → FragmentSummary
summary_of f = record {
  visible = if f.visible then f.len else 0;
  hidden = if f.visible then 0 else f.len;
  last_id = Some f.id;
  span = record { replica = f.stamp.replica; least = f.stamp.value; greatest = f.stamp.value } ∷ [];
  greatest = with_stamps (f.stamp ∷ f.deletions) (join_versions [] f.max_undos);
}

-- ---- for private clauses

-- the sum of both, but with the id of the first
abbrev pub all_but_id : FragmentSummary → FragmentSummary → FragmentSummary
all_but_id a b = record {
  visible = a.visible + b.visible;
  hidden = a.hidden + b.hidden;
  last_id = a.last_id;
  span = join_spans a.span b.span;
  greatest = join_versions a.greatest b.greatest;
}

-- y has the greatest id of x and y, and all stamps and versions that x has
pub record Absorbs (y x : FragmentSummary) : Type 0 where
  pub id : greater_id x.last_id y.last_id ≡ y.last_id
  pub span : join_spans y.span x.span ≡ y.span
  pub greatest : join_versions y.greatest x.greatest ≡ y.greatest
