-- The excerpts of each buffer with their indexes, and how far some of them reach, for private clauses.
use Rattle.std.specs.Prelude.{◌≡◌, ℕ, suc, ◌+◌, ◌≤◌, ◌==◌, ◌&&◌, nat_le, nat_lt, min, max, Bool, false, if◌then◌else◌, List, [], ◌∷◌, drop, length, Option, Some, None}
use Rattle.std.specs.List.{filter}
use Rattle.tree_cursor.specs.Place.{Filtering}
use Rattle.tree_cursor.specs.Places.{filter_count}
use Rattle.multi_buffer.specs.declared.excerpt.Excerpt.{Excerpt}
use Rattle.multi_buffer.specs.declared.members.Member.{Member}
use Rattle.multi_buffer.specs.declared.parts.Part.{Part}
use Rattle.multi_buffer.specs.declared.reach.Bounds.{Bounds}
use Rattle.multi_buffer.specs.declared.reach.Meeting.{Meeting}
use Rattle.multi_buffer.specs.declared.reach.NoPlace.{NoPlace}
use Rattle.multi_buffer.specs.declared.reach.Reach.{Reach}
use Rattle.multi_buffer.specs.Found.{AreShort}

-- ---- members

abbrev pub member : ℕ → Excerpt → Member
member i x = record { index = i; excerpt = x }

abbrev pub is_of : ℕ → Member → Bool
is_of b m = m.excerpt.buffer == b

-- the excerpts of buffer b, the first of all being excerpt i
abbrev pub members_from : ℕ → ℕ → List Excerpt → List Member
members_from b i [] = []
members_from b i (x ∷ xs) = if x.buffer == b then member i x ∷ members_from b (suc i) xs else members_from b (suc i) xs

-- the buffers of members ascend from n on
abbrev pub BuffersAscend : ℕ → List Member → Type 0
BuffersAscend n [] = Unit {0}
BuffersAscend n (m ∷ ms) = (n ≤ m.excerpt.buffer) × BuffersAscend m.excerpt.buffer ms

-- the members of all excerpts: buffers ascending, and those of one buffer in the order of their indexes
pub record AreMembers (xs : List Excerpt) (ms : List Member) : Type 0 where
  pub order : BuffersAscend 0 ms
  pub count : length ms ≡ length xs
  pub each : (b : ℕ) → filter (is_of b) ms ≡ members_from b 0 xs

-- what is true of excerpts and their members
pub record AreExcerpts (xs : List Excerpt) (ms : List Member) : Type 0 where
  pub short : AreShort xs
  pub members : AreMembers xs ms

-- m after those of its buffer and of lesser ones
abbrev pub put_member : Member → List Member → List Member
put_member m [] = m ∷ []
put_member m (n ∷ ns) = if nat_lt m.excerpt.buffer n.excerpt.buffer then m ∷ n ∷ ns else n ∷ put_member m ns

-- ---- how far they reach

abbrev pub no_reach : Reach
no_reach = record { bounds = None }

abbrev pub join_bounds : Bounds → Bounds → Bounds
join_bounds a b = record {
  first = min a.first b.first;
  last = max a.last b.last;
  start = min a.start b.start;
  end = max a.end b.end;
}

abbrev pub join : Option Bounds → Option Bounds → Option Bounds
join None q = q
join (Some a) None = Some a
join (Some a) (Some b) = Some (join_bounds a b)

abbrev pub add_reach : Reach → Reach → Reach
add_reach a b = record { bounds = join a.bounds b.bounds }

abbrev pub AnyReach : Reach → Type 0
AnyReach a = Unit {0}

abbrev pub bounds_of : Member → Bounds
bounds_of m = record { first = m.excerpt.buffer; last = m.excerpt.buffer; start = m.excerpt.start; end = m.excerpt.end }

abbrev pub reach_of : Member → Reach
reach_of m = record { bounds = Some (bounds_of m) }

-- ---- what may be among them

abbrev pub holds_buffer : ℕ → Option Bounds → Bool
holds_buffer b None = false
holds_buffer b (Some r) = nat_le r.first b && nat_le b r.last

abbrev pub holds_greater : ℕ → Option Bounds → Bool
holds_greater b None = false
holds_greater b (Some r) = nat_lt b r.last

-- one of the part's buffer whose closed range meets the part's
abbrev pub holds_meeting : Part → Option Bounds → Bool
holds_meeting q None = false
holds_meeting q (Some r) = (nat_le r.first q.buffer && nat_le q.buffer r.last) && (nat_le r.start q.end && nat_le q.start r.end)

-- where the members of buffers greater than b begin
abbrev pub place_after : ℕ → List Member → ℕ
place_after b ms = filter_count (λ r. holds_greater b r.bounds) reach_of ms

-- the member is one of the part's buffer, and its closed range meets the part's
abbrev pub is_meeting : Part → Member → Bool
is_meeting q m = is_of q.buffer m && (nat_le m.excerpt.start q.end && nat_le q.start m.excerpt.end)

-- the index of the first member that is not excerpt i
abbrev pub first_other : ℕ → List Member → Option ℕ
first_other i [] = None
first_other i (m ∷ ms) = if m.index == i then first_other i ms else Some m.index

-- ---- walks over the members that meet a part

abbrev pub MeetingWalk : Type 0
MeetingWalk = Filtering Member NoPlace Meeting

-- the index of the next one
abbrev pub next_met : MeetingWalk → ℕ
next_met a = a.next + filter_count (λ r. holds_meeting a.keep.part r.bounds) reach_of (drop a.next a.items)

-- c is a one step on
abbrev pub IsNextMet : MeetingWalk → MeetingWalk → Type 0
IsNextMet a c = c ≡ record a { given = next_met a; next = min (next_met a + 1) (length a.items) }

-- ---- as places: none

abbrev pub StaysHere : ℕ → ℕ → Type 0
StaysHere p q = Unit {0}

abbrev pub stay : ℕ → Reach → Option ℕ
stay p r = Some p

abbrev pub AlwaysFits : ℕ → Reach → Type 0
AlwaysFits p r = Unit {0}
