-- Spans: the least and the greatest value of some stamps by replica, replicas ascending.
use Rattle.std.specs.Prelude.{◌≡◌, ℕ, suc, ◌≤◌, ◌==◌, ◌&&◌, Bool, true, false, List, [], ◌∷◌, nat_lt, nat_le, max, min, if◌then◌else◌, Option, Some, None, slice_get}
use Rattle.lamport_clock.specs.Versions.{Entries, entry}
use Rattle.fragments.specs.declared.spans.Span.{Span}

-- the least span that has both
abbrev pub hull : Span → Span → Span
hull a b = record { replica = a.replica; least = min a.least b.least; greatest = max a.greatest b.greatest }

-- u with the span of a replica widened, or inserted at its place
abbrev pub with_span : Span → List Span → List Span
with_span x [] = x ∷ []
with_span x (y ∷ u) = if nat_lt y.replica x.replica then y ∷ with_span x u
    else (if y.replica == x.replica then hull y x ∷ u else x ∷ y ∷ u)

-- u widened by the spans of v
abbrev pub join_spans : List Span → List Span → List Span
join_spans u [] = u
join_spans u (x ∷ v) = join_spans (with_span x u) v

-- the replicas ascend from n on, and each span has a stamp
abbrev pub AreSpansFrom : ℕ → List Span → Type 0
AreSpansFrom n [] = Unit {0}
AreSpansFrom n (x ∷ u) = (n ≤ x.replica) × (x.least ≤ x.greatest) × AreSpansFrom (suc x.replica) u

abbrev pub AreSpans : List Span → Type 0
AreSpans u = AreSpansFrom 0 u

-- v sees all stamps of the spans; it sees none of them
abbrev pub sees_all : Entries → List Span → Bool
sees_all v [] = true
sees_all v (x ∷ u) = nat_le x.greatest (entry v x.replica) && sees_all v u

abbrev pub sees_none : Entries → List Span → Bool
sees_none v [] = true
sees_none v (x ∷ u) = nat_lt (entry v x.replica) x.least && sees_none v u

-- ---- for private clauses

-- the number of spans before the place of replica r
abbrev pub spans_before : List Span → ℕ → ℕ
spans_before [] r = 0
spans_before (x ∷ u) r = if nat_lt x.replica r then suc (spans_before u r) else 0

-- there is a span at the place of replica r
abbrev pub has_replica : List Span → ℕ → Bool
has_replica [] r = false
has_replica (x ∷ u) r = if nat_lt x.replica r then has_replica u r else x.replica == r

-- there is one for each replica of v
abbrev pub has_replicas : List Span → List Span → Bool
has_replicas u [] = true
has_replicas u (x ∷ v) = has_replica u x.replica && has_replicas u v

-- u has all stamps of the span x
abbrev pub covers : List Span → Span → Bool
covers [] x = false
covers (y ∷ u) x = if nat_lt y.replica x.replica then covers u x
    else (y.replica == x.replica && (nat_le y.least x.least && nat_le x.greatest y.greatest))

-- it has those of each span of v
abbrev pub covers_all : List Span → List Span → Bool
covers_all u [] = true
covers_all u (x ∷ v) = covers u x && covers_all u v

-- the span at an index if it is replica r's, otherwise None
abbrev pub IsSpanAt : List Span → ℕ → ℕ → Option Span → Type 0
IsSpanAt u i r (Some x) = (slice_get u i ≡ Some x) × (x.replica ≡ r)
IsSpanAt u i r None = (x : Span) → slice_get u i ≡ Some x → x.replica ≡ r → ⊥
