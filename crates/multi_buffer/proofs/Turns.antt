-- Walks over the members of a buffer, and over those that meet a part.
use Rattle.std.proofs.Common.{◌≡◌, inl, inr, ℕ, ◌+◌, ◌-◌, ◌<◌, true, false, eqb, List, [], ◌∷◌, length, map, drop, min, Some, None, refl, sym, ap, ◌∙◌, subst, arith}
use Rattle.std.specs.Prelude.{slice_get}
use Rattle.std.specs.List.{filter}
use Rattle.std.proofs.lemmas.Bool.{cases_Bool, eq-eqb}
use Rattle.std.proofs.lemmas.Option.{slice_get_within}
use Rattle.op_model.specs.Histories.{History}
use Rattle.text_buffer.specs.Document.{IsBufferHistory}
use Rattle.sum_tree.specs.Spliced.{splice_list}
use Rattle.tree_cursor.specs.Place.{Filtering}
use Rattle.tree_cursor.specs.Places.{filter_count}
use Rattle.multi_buffer.specs.declared.excerpt.Excerpt.{Excerpt}
use Rattle.multi_buffer.specs.declared.members.Member.{Member}
use Rattle.multi_buffer.specs.declared.parts.Part.{Part}
use Rattle.multi_buffer.specs.declared.reach.Meeting.{Meeting}
use Rattle.multi_buffer.specs.declared.reach.NoPlace.{NoPlace}
use Rattle.multi_buffer.specs.declared.reach.OfBuffer.{OfBuffer}
use Rattle.multi_buffer.specs.declared.reach.Reach.{Reach}
use Rattle.multi_buffer.specs.Calls.{followed, followed_in}
use Rattle.multi_buffer.specs.Following.{AllMayFollow, MayFollow}
use Rattle.multi_buffer.specs.Found.{AreShort}
use Rattle.multi_buffer.specs.Members.{member, AreMembers, AreExcerpts, first_other, holds_buffer, is_meeting, next_met, reach_of, MeetingWalk, IsNextMet}
use Rattle.multi_buffer.specs.Splits.{sharing}
use Rattle.multi_buffer.proofs.Followed.{follow_at, AreShort-follow}
use Rattle.multi_buffer.proofs.Indexed.{on_member, over_members, over_meeting, AreHalf, IsStep, AreMembers-map, half_begins, half_step, half_ends, half_members_end, half_short, meets_none, meets_other, meets_own, sharing_begins}

-- ---- the members of a buffer

abbrev pub Walk : Type 0
Walk = Filtering Member NoPlace OfBuffer

-- the index of the next member of the buffer
abbrev pub next_own : Walk → ℕ
next_own a = a.next + filter_count (λ (r : Reach). holds_buffer a.keep.buffer r.bounds) reach_of (drop a.next a.items)

-- c is a one step on
abbrev pub IsOn : Walk → Walk → Type 0
IsOn a c = c ≡ record a { given = next_own a; next = min (next_own a + 1) (length a.items) }

-- the excerpts xs of buffer b that the walk has passed follow h
pub record IsTurn (b : ℕ) (h : History) (xs ys : List Excerpt) (ns : List Member) (a : Walk) : Type 0 where
  pub half : AreHalf b (followed_in b h) xs ys a.items ns a.next
  pub kept : AreMembers xs a.items
  pub own : a.keep.buffer ≡ b

module _ (b : ℕ) (h : History) where
  others_stay : (x : Excerpt) → eqb x.buffer b ≡ false → followed_in b h x ≡ x
  others_stay x e = rw e refl

  same_buffer : (x : Excerpt) → (followed_in b h x).buffer ≡ x.buffer
  same_buffer x = elim (cases_Bool (eqb x.buffer b)) [
    | inl t ↦ rw t refl
    | inr t ↦ rw t refl
  ]

  own_follows : (x : Excerpt) → x.buffer ≡ b → followed_in b h x ≡ followed h x
  own_follows x e = let t : eqb x.buffer b ≡ true = eq-eqb x.buffer b e in rw t refl

  pub turn_begins : (xs zs ys : List Excerpt) (ms ns : List Member) (p : NoPlace) (k : OfBuffer) (a : Walk) → AreMembers zs ms → zs ≡ xs → ys ≡ zs → ns ≡ ms → k.buffer ≡ b
      → a ≡ record { items = ms; from = p; keep = k; given = 0; next = 0 } → IsTurn b h xs ys ns a
  turn_begins xs zs ys ms ns p k a m v e f g s =
      let items : a.items ≡ ms = ap (λ (w : Walk). w.items) s in
      let next : a.next ≡ 0 = ap (λ (w : Walk). w.next) s in
      let kept : AreMembers xs ms = subst (λ (us : List Excerpt). AreMembers us ms) v m in
      let first : AreHalf b (followed_in b h) xs ys ms ns 0 =
      subst (λ (us : List Excerpt). AreHalf b (followed_in b h) xs us ms ns 0) (sym (e ∙ v))
      (subst (λ (os : List Member). AreHalf b (followed_in b h) xs xs ms os 0) (sym f) (half_begins b (followed_in b h) others_stay same_buffer xs ms kept)) in
      record {
        half = subst (λ (os : List Member). AreHalf b (followed_in b h) xs ys os ns a.next) (sym items) (subst (λ (n : ℕ). AreHalf b (followed_in b h) xs ys ms ns n) (sym next) first);
        kept = subst (AreMembers xs) (sym items) kept;
        own = ap (λ (w : Walk). w.keep.buffer) s ∙ g;
      }

  module _ (xs ys : List Excerpt) (ns : List Member) (a c : Walk) (t : IsTurn b h xs ys ns a) (o : IsOn a c) where
    place_is : next_own a ≡ a.next + over_members b (followed_in b h) others_stay same_buffer (drop a.next a.items)
    place_is = ap (λ (n : ℕ). a.next + filter_count (λ (r : Reach). holds_buffer n r.bounds) reach_of (drop a.next a.items)) t.own

    items_are : c.items ≡ a.items
    items_are = ap (λ (w : Walk). w.items) o

    given_is : c.given ≡ next_own a
    given_is = ap (λ (w : Walk). w.given) o

    own_is : c.keep.buffer ≡ b
    own_is = ap (λ (w : Walk). w.keep.buffer) o ∙ t.own

    on : (us : List Excerpt) (os : List Member) (n : ℕ) → n ≡ c.next → AreHalf b (followed_in b h) xs us a.items os n → IsTurn b h xs us os c
    on us os n e half = record {
      half = subst (λ (ls : List Member). AreHalf b (followed_in b h) xs us ls os c.next) (sym items_are) (subst (AreHalf b (followed_in b h) xs us a.items os) e half);
      kept = subst (AreMembers xs) (sym items_are) t.kept;
      own = own_is;
    }

    module _ (m : Member) (s : slice_get a.items (next_own a) ≡ Some m) where
      step : IsStep b (followed_in b h) xs ys a.items ns (next_own a) m
      step = half_step b (followed_in b h) others_stay same_buffer xs ys a.items ns a.next t.half (next_own a) place_is m s

      next_is : next_own a + 1 ≡ c.next
      next_is = let l = step.place_too in let n = ap (λ (w : Walk). w.next) o in omega arith

      changed : (y : Excerpt) → y ≡ followed h m.excerpt → y ≡ followed_in b h m.excerpt
      changed y e = e ∙ sym (own_follows m.excerpt step.buffer)

      pub turn_within : m.index < length ys
      turn_within = step.within

      pub turn_place : (i : ℕ) → i ≡ c.given → i < length ns
      turn_place i e = let l = step.place in let g = given_is in omega arith

      pub turn_follows : AllMayFollow b h xs → MayFollow h m.excerpt
      turn_follows k = follow_at b h xs m.index m.excerpt k step.there step.buffer

      pub turn_short : (y : Excerpt) → y ≡ followed h m.excerpt → IsBufferHistory h → AllMayFollow b h xs → AreShort xs → AreShort (splice_list m.index (m.index + 1) (y ∷ []) ys)
      turn_short y e i k l =
          subst (λ (z : Excerpt). AreShort (splice_list m.index (m.index + 1) (z ∷ []) ys)) (sym (changed y e))
          (half_short b (followed_in b h) others_stay same_buffer xs (splice_list m.index (m.index + 1) (followed_in b h m.excerpt ∷ []) ys) a.items
          (splice_list (next_own a) (next_own a + 1) (on_member (followed_in b h) m ∷ []) ns) (next_own a + 1) step.put l (AreShort-follow b h i xs k l))

      pub turn_put : (y : Excerpt) (i : ℕ) (us : List Excerpt) (os : List Member) → y ≡ followed h m.excerpt → i ≡ c.given
          → us ≡ splice_list m.index (m.index + 1) (y ∷ []) ys → os ≡ splice_list i (i + 1) (member m.index y ∷ []) ns → IsTurn b h xs us os c
      turn_put y i us os e j p q =
          on us os (next_own a + 1) next_is
          (subst (λ (vs : List Excerpt). AreHalf b (followed_in b h) xs vs a.items os (next_own a + 1))
          (sym (p ∙ ap (λ (z : Excerpt). splice_list m.index (m.index + 1) (z ∷ []) ys) (changed y e)))
          (subst (λ (vs : List Member). AreHalf b (followed_in b h) xs (splice_list m.index (m.index + 1) (followed_in b h m.excerpt ∷ []) ys) a.items vs (next_own a + 1))
          (sym (q ∙ ap (λ (z : Excerpt). splice_list i (i + 1) (member m.index z ∷ []) ns) (changed y e)
          ∙ ap (λ (n : ℕ). splice_list n (n + 1) (on_member (followed_in b h) m ∷ []) ns) (j ∙ given_is))) step.put))

      pub turn_stay : (y : Excerpt) → y ≡ followed h m.excerpt → y ≡ m.excerpt → IsTurn b h xs ys ns c
      turn_stay y e f = on ys ns (next_own a + 1) next_is (step.stay (sym (changed y e) ∙ f))

      pub turn_smaller : length c.items - c.next < length a.items - a.next
      turn_smaller = let l = step.place_too in let n = next_is in let i = ap length items_are in omega arith

    module _ (s : slice_get a.items (next_own a) ≡ None) where
      pub turn_ends : ys ≡ map (followed_in b h) xs
      turn_ends = half_ends b (followed_in b h) others_stay same_buffer xs ys a.items ns a.next t.half (next_own a) place_is s

      pub turn_leaves : IsBufferHistory h → AllMayFollow b h xs → AreShort xs → AreExcerpts ys ns
      turn_leaves i k l =
          let members : ns ≡ map (on_member (followed_in b h)) a.items = half_members_end b (followed_in b h) others_stay same_buffer xs ys a.items ns a.next t.half (next_own a) place_is s in
          subst (λ (us : List Excerpt). AreExcerpts us ns) (sym turn_ends)
          (subst (AreExcerpts (map (followed_in b h) xs)) (sym members) (record {
            short = AreShort-follow b h i xs k l;
            members = AreMembers-map b (followed_in b h) others_stay same_buffer xs a.items t.kept;
          }))

-- ---- the members that meet a part

-- the excerpt that shares a place with part q is among the members that are left
pub record IsSeeking (q : Part) (xs : List Excerpt) (a : MeetingWalk) : Type 0 where
  pub first : first_other q.excerpt (filter (is_meeting q) (drop a.next a.items)) ≡ sharing 0 q xs
  pub part : a.keep.part ≡ q

module _ (q : Part) (xs : List Excerpt) where
  pub seeking_begins : (zs : List Excerpt) (ms : List Member) (p : NoPlace) (k : Meeting) (a : MeetingWalk) → AreMembers zs ms → zs ≡ xs → k.part ≡ q
      → a ≡ record { items = ms; from = p; keep = k; given = 0; next = 0 } → IsSeeking q xs a
  seeking_begins zs ms p k a m v g s = record {
    first =
        ap (λ (w : MeetingWalk). first_other q.excerpt (filter (is_meeting q) (drop w.next w.items))) s
        ∙ sharing_begins q zs ms m ∙ ap (sharing 0 q) v;
    part = ap (λ (w : MeetingWalk). w.keep.part) s ∙ g;
  }

  module _ (a c : MeetingWalk) (t : IsSeeking q xs a) (o : IsNextMet a c) where
    part_place : next_met a ≡ a.next + over_meeting q (drop a.next a.items)
    part_place = ap (λ (r : Part). a.next + over_meeting r (drop a.next a.items)) t.part

    module _ (m : Member) (s : slice_get a.items (next_met a) ≡ Some m) where
      pub seeking_found : eqb m.index q.excerpt ≡ false → Some m.index ≡ sharing 0 q xs
      seeking_found e = sym (meets_other q a.items a.next (next_met a) part_place m s e) ∙ t.first

      next_part : c.next ≡ next_met a + 1
      next_part = let l = slice_get_within a.items (next_met a) m s in let n = ap (λ (w : MeetingWalk). w.next) o in omega arith

      pub seeking_on : eqb m.index q.excerpt ≡ true → IsSeeking q xs c
      seeking_on e = record {
        first =
            ap (λ (ms : List Member). first_other q.excerpt (filter (is_meeting q) (drop c.next ms))) (ap (λ (w : MeetingWalk). w.items) o)
            ∙ ap (λ (n : ℕ). first_other q.excerpt (filter (is_meeting q) (drop n a.items))) next_part
            ∙ sym (meets_own q a.items a.next (next_met a) part_place m s e) ∙ t.first;
        part = ap (λ (w : MeetingWalk). w.keep.part) o ∙ t.part;
      }

      pub seeking_smaller : length c.items - c.next < length a.items - a.next
      seeking_smaller =
          let l = slice_get_within a.items (next_met a) m s in let n = next_part in
          let i = ap (λ (w : MeetingWalk). length w.items) o in omega arith

    pub seeking_ends : slice_get a.items (next_met a) ≡ None → None ≡ sharing 0 q xs
    seeking_ends s = sym (meets_none q a.items a.next (next_met a) part_place s) ∙ t.first
