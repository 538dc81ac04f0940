-- Sums of fragments that have seen an edit, and those that may have cells that edits concern.
use Rattle.std.proofs.Common.{Bool, leb, List, ◌&&◌}
use Rattle.std.specs.List.{list_any}
use Rattle.lamport_clock.specs.declared.stamp.Lamport.{Lamport}
use Rattle.lamport_clock.specs.Versions.{sees}
use Rattle.fragments.specs.declared.fragment.FragmentSummary.{FragmentSummary}
use Rattle.fragments.specs.declared.spans.Span.{Span}

-- a sum has seen edit t
abbrev pub sees_edit : Lamport → FragmentSummary → Bool
sees_edit t s = sees s.greatest t

-- one of the spans begins no later than t
abbrev pub begins_by : Lamport → List Span → Bool
begins_by t u = list_any (λ x. leb x.least t.value) u

-- a run of fragments may have cells that edit t inserted or deletes: some are no later than t, and t was seen
abbrev pub may_concern : FragmentSummary → Lamport → Bool
may_concern s t = begins_by t s.span && sees s.greatest t

-- the same of one of the edits
abbrev pub may_concern_any : List Lamport → FragmentSummary → Bool
may_concern_any ts s = list_any (may_concern s) ts
