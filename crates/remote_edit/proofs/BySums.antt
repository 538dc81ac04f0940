-- The fragments that a filter by sums finds are all that edits concern.
use Rattle.std.proofs.Common.{◌≡◌, ℕ, zero, suc, ◌+◌, ◌<◌, ◌≤◌, min, Bool, true, false, leb, None, Some, List, [], ◌∷◌, ◌++◌, length, drop, sym, ap, ◌∙◌, arith, inl, inr, slice_get}
use Rattle.std.proofs.lemmas.Bool.{cases_Bool, cases_lt, and_parts, and_from, or_left, both_ways}
use Rattle.std.proofs.lemmas.Option.{same_Some, slice_get_within}
use Rattle.std.specs.List.{AllByRecursion, list_any}
use Rattle.tree_cursor.specs.Places.{filter_count}
use Rattle.lamport_clock.specs.declared.stamp.Lamport.{Lamport}
use Rattle.lamport_clock.specs.Stamps.{same_stamp}
use Rattle.lamport_clock.specs.Versions.{join_versions, sees}
use Rattle.op_model.specs.Sorted.{Member}
use Rattle.op_model.proofs.Elements.{any_member, member_left, member_right, none_past}
use Rattle.fragments.specs.declared.fragment.Fragment.{Fragment}
use Rattle.fragments.specs.declared.fragment.FragmentSummary.{FragmentSummary}
use Rattle.fragments.specs.Summaries.{summary_of}
use Rattle.fragments.specs.SummaryLaws.{stamps_seen}
use Rattle.remote_edit.specs.Anew.{concerns}
use Rattle.remote_edit.specs.Concern.{begins_by, may_concern, may_concern_any}
use Rattle.remote_edit.specs.Finds.{HaveConcerned}
use Rattle.remote_edit.proofs.Finds.{each_of}

-- an edit that concerns a fragment may concern its sum
concerns_may : (f : Fragment) (t : Lamport) → concerns f t ≡ true → may_concern (summary_of f) t ≡ true
concerns_may f t h =
    let k = and_parts (leb f.stamp.value t.value) (list_any (same_stamp t) (f.stamp ∷ f.deletions)) h in
    and_from (begins_by t (summary_of f).span) (sees (summary_of f).greatest t) (or_left (leb f.stamp.value t.value) false k.0) (stamps_seen (f.stamp ∷ f.deletions) (join_versions [] f.max_undos) t k.1)

-- ---- what a filter passes

passed_here : (keeps : FragmentSummary → Bool) (j : ℕ) (xs : List Fragment) (x : Fragment) → slice_get xs j ≡ Some x → j < filter_count keeps summary_of xs → keeps (summary_of x) ≡ false
passed_here keeps j [] x e l = absurd (cc)
passed_here keeps zero (y ∷ xs) x e l = elim (cases_Bool (keeps (summary_of y))) [
  | inl k ↦ (let m : 0 < 0 = rw k at l in absurd (omega (arith, m)))
  | inr k ↦ ap (λ (z : Fragment). keeps (summary_of z)) (sym (same_Some y x e)) ∙ k
]
passed_here keeps (suc j) (y ∷ xs) x e l = elim (cases_Bool (keeps (summary_of y))) [
  | inl k ↦ (let m : suc j < 0 = rw k at l in absurd (omega (arith, m)))
  | inr k ↦ (let m : suc j < 1 + filter_count keeps summary_of xs = rw k at l in passed_here keeps j xs x e (omega (arith, m)))
]

passed_over : (keeps : FragmentSummary → Bool) (n j : ℕ) (xs : List Fragment) (x : Fragment) → slice_get xs j ≡ Some x → n ≤ j → j < n + filter_count keeps summary_of (drop n xs) → keeps (summary_of x) ≡ false
passed_over keeps zero j xs x e l m = passed_here keeps j xs x e (omega (arith, m))
passed_over keeps (suc n) j [] x e l m = absurd (cc)
passed_over keeps (suc n) zero (y ∷ xs) x e l m = absurd (omega (arith, l))
passed_over keeps (suc n) (suc j) (y ∷ xs) x e l m = passed_over keeps n j xs x e (omega (arith, l)) (omega (arith, m))

-- ---- a walk by the filter

-- among ps are the places below n of the fragments that may be concerned
abbrev pub HavePassed : List Fragment → List Lamport → ℕ → List ℕ → Type 0
HavePassed fs ts n ps = (i : ℕ) (f : Fragment) → slice_get fs i ≡ Some f → i < n → may_concern_any ts (summary_of f) ≡ true → Member i ps

-- the walk gives fragment i next: it is further then, and has its place
pub record IsFurther (fs : List Fragment) (ts : List Lamport) (n i after : ℕ) (ps : List ℕ) : Type 0 where
  pub forward : n < after
  pub within : after ≤ length fs
  pub passed : HavePassed fs ts after (ps ++ i ∷ [])

pub one_further : (fs items : List Fragment) (ts us : List Lamport) (n i after : ℕ) (ps : List ℕ) (f : Fragment) → items ≡ fs → us ≡ ts → HavePassed fs ts n ps
    → slice_get items (n + filter_count (may_concern_any us) summary_of (drop n items)) ≡ Some f → i ≡ n + filter_count (may_concern_any us) summary_of (drop n items) → after ≡ min (i + 1) (length items)
    → IsFurther fs ts n i after ps
one_further fs items ts us n i after ps f e d s g q a =
    let at : i ≡ n + filter_count (may_concern_any ts) summary_of (drop n fs) =
    q ∙ ap (λ (z : List Fragment). n + filter_count (may_concern_any us) summary_of (drop n z)) e ∙ ap (λ (z : List Lamport). n + filter_count (may_concern_any z) summary_of (drop n fs)) d in
    let here : slice_get items i ≡ Some f = ap (slice_get items) q ∙ g in
    let l = slice_get_within items i f here in
    let k = ap length e in
    let on : after ≡ i + 1 = omega (arith, a, l) in
    record {
      forward = omega (arith, at, on);
      within = omega (arith, on, l, k);
      passed = λ j h z m c. elim (cases_lt j n) [
        | inl b ↦ member_left j ps (i ∷ []) (s j h z b c)
        | inr b ↦ elim (cases_lt j i) [
          | inl o ↦ absurd (both_ways _ (passed_over (may_concern_any ts) n j fs h z b (omega (arith, o, at))) c)
          | inr o ↦ member_right j ps (i ∷ []) (inl (let y : j ≡ i = omega (arith, o, m, on) in y))
        ]
      ];
    }

pub none_passed : (fs : List Fragment) (ts : List Lamport) (ps : List ℕ) → HavePassed fs ts 0 ps
none_passed fs ts ps = λ i f e l c. absurd (omega (arith, l))

-- no further fragment is given: all that edits concern are there
pub all_passed : (fs items : List Fragment) (ts us : List Lamport) (n : ℕ) (ps : List ℕ) → items ≡ fs → us ≡ ts → HavePassed fs ts n ps
    → slice_get items (n + filter_count (may_concern_any us) summary_of (drop n items)) ≡ None → AllByRecursion (λ (t : Lamport). HaveConcerned fs t ps) ts
all_passed fs items ts us n ps e d s g = each_of (λ (t : Lamport). HaveConcerned fs t ps) ts (λ t m i f z c. go i f z (any_member (may_concern (summary_of f)) ts t m (concerns_may f t c)))
  where
    same : n + filter_count (may_concern_any us) summary_of (drop n items) ≡ n + filter_count (may_concern_any ts) summary_of (drop n fs)
    same = ap (λ (z : List Fragment). n + filter_count (may_concern_any us) summary_of (drop n z)) e ∙ ap (λ (z : List Lamport). n + filter_count (may_concern_any z) summary_of (drop n fs)) d

    go : (i : ℕ) (f : Fragment) → slice_get fs i ≡ Some f → may_concern_any ts (summary_of f) ≡ true → Member i ps
    go i f z c = elim (cases_lt i n) [
      | inl b ↦ s i f z b c
      | inr b ↦ (let l = slice_get_within fs i f z in
          let k = none_past items (n + filter_count (may_concern_any us) summary_of (drop n items)) g in
          let h = ap length e in
          absurd (both_ways _ (passed_over (may_concern_any ts) n i fs f z b (omega (arith, l, k, h, same))) c))
    ]
