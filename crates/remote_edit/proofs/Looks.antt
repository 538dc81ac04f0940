-- The looks at fragments by which an index finds those that an edit concerns.
use Rattle.std.proofs.Common.{◌≡◌, ℕ, suc, ◌+◌, ◌-◌, ◌<◌, ◌≤◌, Bool, true, false, cond, ◌&&◌, List, [], ◌∷◌, refl, sym, ap, ◌∙◌, arith, subst, inl, inr, leb, nat_lt}
use Rattle.std.specs.List.{AllByRecursion, count_by, sum_by, filter}
use Rattle.std.proofs.lemmas.Bool.{cases_Bool, and_from, and_parts, le-leb, leb-true, lt-ltb, ltb-true}
use Rattle.std.proofs.lemmas.List.Sums.{sum_by-cons}
use Rattle.lamport_clock.specs.declared.stamp.Lamport.{Lamport}
use Rattle.lamport_clock.specs.Stamps.{same_stamp}
use Rattle.lamport_clock.proofs.Later.{same_stamp_eq, same_stamp_refl}
use Rattle.op_model.specs.Sorted.{EachPair, Member}
use Rattle.op_model.proofs.Elements.{each_member, member_at}
use Rattle.fragments.specs.declared.fragment.Fragment.{Fragment}
use Rattle.fragments.specs.declared.deleted_run.DeletedRun.{DeletedRun}
use Rattle.fragments.specs.DeletedRuns.{IndexState, few_runs, is_run_of, has_deleted, run_count, has_cell, times_in, deletion_count}
use Rattle.fragments.specs.Stand.{IsFilled}
use Rattle.remote_edit.specs.Indexes.{IsApart}
use Rattle.remote_edit.specs.Finds.{IsFound}
use Rattle.remote_edit.specs.Looks.{edit_looks, begins_in, cell_looks, run_looks}
use Rattle.remote_edit.proofs.Finds.{Here}

-- ---- sums

-- what a count takes for one
abbrev one_if : Bool → ℕ
one_if b = cond b 1 0

-- what holds of the numbers for each member holds of their sums
sums_within : {A : Type 0} (f g h : A → ℕ) (xs : List A) → ((x : A) → Member x xs → f x + g x ≤ h x) → sum_by f xs + sum_by g xs ≤ sum_by h xs
sums_within f g h [] l = omega arith
sums_within f g h (x ∷ xs) l =
    let a = sum_by-cons f x xs in
    let b = sum_by-cons g x xs in
    let c = sum_by-cons h x xs in
    let here = l x (inl refl) in
    let ih = sums_within f g h xs (λ y m. l y (inr m)) in
    omega (arith, a, b, c, here, ih)

sums_of : {A : Type 0} (f h : A → ℕ) (xs : List A) → ((x : A) → f x ≤ h x) → sum_by f xs ≤ sum_by h xs
sums_of {A} f h xs l = let k = sums_within f (λ (x : A). 0) h xs (λ x m. let z = l x in omega (arith, z)) in omega (arith, k)

-- ---- fragments that begin in a range

begins_by : (s : Lamport) (from n last : ℕ) (f : Fragment) → n ≤ last → one_if (begins_in s from n f) ≤ one_if (begins_in s from last f)
begins_by s from n last f l = elim (cases_Bool (begins_in s from n f)) [
  | inl e ↦ (let p = and_parts (same_stamp f.stamp s && nat_lt from f.offset) (leb f.offset n) e in
      let q = leb-true _ _ p.1 in
      let k : begins_in s from last f ≡ true = and_from _ _ p.0 (le-leb f.offset last (omega (arith, q, l))) in rw (e, k) (omega arith))
  | inr e ↦ rw e (omega arith)
]

-- more begin by a later cell
pub begins_more : (s : Lamport) (from n last : ℕ) (fs : List Fragment) → n ≤ last → count_by (begins_in s from n) fs ≤ count_by (begins_in s from last) fs
begins_more s from n last fs l = sums_of (λ (f : Fragment). one_if (begins_in s from n f)) (λ (f : Fragment). one_if (begins_in s from last f)) fs (λ f. begins_by s from n last f l)

-- one more, if this one begins there
begins_one : (s : Lamport) (from n last : ℕ) (f : Fragment) (fs : List Fragment) → begins_in s from last f ≡ true → f.offset ≡ suc n → n ≤ last → Member f fs
    → count_by (begins_in s from n) fs + 1 ≤ count_by (begins_in s from last) fs
begins_one s from n last f [] e o l m = absurd m
begins_one s from n last f (g ∷ fs) e o l (inl q) =
    let a = sum_by-cons (λ (x : Fragment). one_if (begins_in s from n x)) g fs in
    let b = sum_by-cons (λ (x : Fragment). one_if (begins_in s from last x)) g fs in
    let c = begins_more s from n last fs l in
    let here : one_if (begins_in s from last g) ≡ 1 = ap (λ (x : Fragment). one_if (begins_in s from last x)) (sym q) ∙ ap one_if e in
    let none : one_if (begins_in s from n g) ≡ 0 = ap (λ (x : Fragment). one_if (begins_in s from n x)) (sym q) ∙ late (begins_in s from n f) refl in
    omega (arith, a, b, c, here, none)
  where
    late : (b : Bool) → begins_in s from n f ≡ b → one_if b ≡ 0
    late false h = refl
    late true h = let z = leb-true _ _ (and_parts (same_stamp f.stamp s && nat_lt from f.offset) (leb f.offset n) h).1 in absurd (omega (arith, z, o))
begins_one s from n last f (g ∷ fs) e o l (inr m) =
    let a = sum_by-cons (λ (x : Fragment). one_if (begins_in s from n x)) g fs in
    let b = sum_by-cons (λ (x : Fragment). one_if (begins_in s from last x)) g fs in
    let c = begins_by s from n last g l in
    let ih = begins_one s from n last f fs e o l m in
    omega (arith, a, b, c, ih)

-- after a look that finds the fragment here, fewer are to be found
pub one_look : (fs : List Fragment) (x : IndexState) (found : IsFound fs x) (s : Lamport) (from k i o n : ℕ) → Here fs x found s k i o → from < o → o ≡ suc n
    → count_by (begins_in s from n) fs + 1 ≤ count_by (begins_in s from k) fs
one_look fs x found s from k i o n h l e =
    let f = h.fragment in
    let q = h.offset in
    let b = h.by in
    let same : same_stamp f.stamp s ≡ true = subst (λ (t : Lamport). same_stamp f.stamp t ≡ true) h.stamp (same_stamp_refl f.stamp) in
    let here : begins_in s from k f ≡ true = and_from _ _ (and_from _ _ same (lt-ltb from f.offset (omega (arith, l, q)))) (le-leb f.offset k (omega (arith, q, b))) in
    begins_one s from n k f fs here (omega (arith, q, e)) (omega (arith, b, e)) (member_at fs i f h.at)

-- ---- the runs of an edit

run_begins : (t : Lamport) (r : DeletedRun) (f : Fragment) → is_run_of t r ≡ true → one_if (begins_in r.stamp r.offset (r.offset + (r.len - 1)) f) ≤ one_if (has_deleted t f.stamp f.offset r)
run_begins t r f e = elim (cases_Bool (begins_in r.stamp r.offset (r.offset + (r.len - 1)) f)) [
  | inl h ↦ (let p = and_parts (same_stamp f.stamp r.stamp && nat_lt r.offset f.offset) (leb f.offset (r.offset + (r.len - 1))) h in
      let q = and_parts (same_stamp f.stamp r.stamp) (nat_lt r.offset f.offset) p.0 in
      let low = ltb-true _ _ q.1 in
      let high = leb-true _ _ p.1 in
      let same : same_stamp r.stamp f.stamp ≡ true = subst (λ (s : Lamport). same_stamp r.stamp s ≡ true) (sym (same_stamp_eq f.stamp r.stamp q.0)) (same_stamp_refl r.stamp) in
      let k : has_deleted t f.stamp f.offset r ≡ true = and_from _ _ (and_from _ _ (and_from _ _ e same) (le-leb r.offset f.offset (omega (arith, low)))) (lt-ltb f.offset (r.offset + r.len) (omega (arith, low, high))) in rw (h, k) (omega arith))
  | inr h ↦ rw h (omega arith)
]

-- each fragment begins in no more of them than have its first cell
runs_begin : (t : Lamport) (rs : List DeletedRun) (fs : List Fragment) → sum_by (run_looks fs) (filter (is_run_of t) rs) ≤ count_by (is_run_of t) rs + sum_by (λ (f : Fragment). run_count t f.stamp f.offset rs) fs
runs_begin t [] fs = omega arith
runs_begin t (r ∷ rs) fs =
    let c = sum_by-cons (λ (y : DeletedRun). one_if (is_run_of t y)) r rs in
    let ih = runs_begin t rs fs in
    elim (cases_Bool (is_run_of t r)) [
      | inl e ↦ (let a = sum_by-cons (run_looks fs) r (filter (is_run_of t) rs) in
          let one : one_if (is_run_of t r) ≡ 1 = ap one_if e in
          let s = sums_within (λ (f : Fragment). one_if (begins_in r.stamp r.offset (r.offset + (r.len - 1)) f)) (λ (f : Fragment). run_count t f.stamp f.offset rs) (λ (f : Fragment). run_count t f.stamp f.offset (r ∷ rs)) fs (λ f m. (let k = run_begins t r f e in omega (arith, k))) in
          let z : sum_by (run_looks fs) (filter (is_run_of t) (r ∷ rs)) ≡ sum_by (run_looks fs) (r ∷ filter (is_run_of t) rs) = ap (λ (b : Bool). sum_by (run_looks fs) (cond b (r ∷ filter (is_run_of t) rs) (filter (is_run_of t) rs))) e in
          omega (arith, a, c, one, s, z, ih))
      | inr e ↦ (let s = sums_of (λ (f : Fragment). run_count t f.stamp f.offset rs) (λ (f : Fragment). run_count t f.stamp f.offset (r ∷ rs)) fs (λ f. omega arith) in
          let z : sum_by (run_looks fs) (filter (is_run_of t) (r ∷ rs)) ≡ sum_by (run_looks fs) (filter (is_run_of t) rs) = ap (λ (b : Bool). sum_by (run_looks fs) (cond b (r ∷ filter (is_run_of t) rs) (filter (is_run_of t) rs))) e in
          omega (arith, c, s, z, ih))
    ]

-- ---- the fragment of a cell is the one that has it

not_beside : (f g : Fragment) → IsApart f g → 0 < f.len → 0 < g.len → (b : Bool) → has_cell f.stamp f.offset g ≡ b → b ≡ false
not_beside f g a l m false h = refl
not_beside f g a l m true h =
    let p = and_parts (same_stamp g.stamp f.stamp && leb g.offset f.offset) (nat_lt f.offset (g.offset + g.len)) h in
    let q = and_parts (same_stamp g.stamp f.stamp) (leb g.offset f.offset) p.0 in
    let low = leb-true _ _ q.1 in
    let high = ltb-true _ _ p.1 in
    absurd (elim (a (sym (same_stamp_eq g.stamp f.stamp q.0))) [ inl z ↦ omega (arith, z, low, l) | inr z ↦ omega (arith, z, high) ])

none_beside : (t : Lamport) (f : Fragment) (gs : List Fragment) → 0 < f.len → AllByRecursion (IsApart f) gs → AllByRecursion IsFilled gs → deletion_count t f.stamp f.offset gs ≡ 0
none_beside t f [] l a h = refl
none_beside t f (g ∷ gs) l a h = let e = not_beside f g a.0 l h.0.0 (has_cell f.stamp f.offset g) refl in let ih = none_beside t f gs l a.1 h.1 in rw e (omega (arith, ih))

turn : (f g : Fragment) → IsApart f g → IsApart g f
turn f g a = λ e. elim (a (sym e)) [ inl z ↦ inr z | inr z ↦ inl z ]

-- an edit deletes its first cell as often as it deletes the fragment
own_deletions : (t : Lamport) (f : Fragment) (fs : List Fragment) → EachPair IsApart fs → AllByRecursion IsFilled fs → Member f fs → deletion_count t f.stamp f.offset fs ≤ times_in t f.deletions
own_deletions t f [] a h m = absurd m
own_deletions t f (g ∷ fs) a h (inl e) =
    let none = none_beside t g fs h.0.0 a.0 h.1 in
    let here : (b : Bool) → cond b (times_in t g.deletions) 0 ≤ times_in t g.deletions = bounded (times_in t g.deletions) in
    let k = here (has_cell g.stamp g.offset g) in
    subst (λ (x : Fragment). deletion_count t x.stamp x.offset (g ∷ fs) ≤ times_in t x.deletions) (sym e) (omega (arith, none, k))
  where
    bounded : (n : ℕ) (b : Bool) → cond b n 0 ≤ n
    bounded n true = omega arith
    bounded n false = omega arith
own_deletions t f (g ∷ fs) a h (inr m) =
    let l = each_member IsFilled fs f h.1 m in
    let e = not_beside f g (turn g f (each_member (IsApart g) fs f a.0 m)) l.0 h.0.0 (has_cell f.stamp f.offset g) refl in
    let ih = own_deletions t f fs a.1 h.1 m in
    rw e (omega (arith, ih))

-- ---- what an edit concerns

own_begins : (t : Lamport) (n last : ℕ) (f : Fragment) → one_if (begins_in t n last f) ≤ one_if (same_stamp f.stamp t)
own_begins t n last f = elim (cases_Bool (begins_in t n last f)) [
  | inl e ↦ (let q = (and_parts (same_stamp f.stamp t) (nat_lt n f.offset) (and_parts (same_stamp f.stamp t && nat_lt n f.offset) (leb f.offset last) e).0).0 in rw (e, q) (omega arith))
  | inr e ↦ rw e (omega arith)
]

pub edit_found : (fs : List Fragment) (x : IndexState) → IsFound fs x → few_runs x.deletions ≡ true → (t : Lamport) (last : ℕ)
    → cell_looks t 0 last fs + sum_by (run_looks fs) (filter (is_run_of t) x.deletions) ≤ edit_looks fs x.deletions t
edit_found fs x found few t last =
    let rs = x.deletions in
    let a = runs_begin t rs fs in
    let s = sums_within (λ (f : Fragment). one_if (begins_in t 0 last f)) (λ (f : Fragment). run_count t f.stamp f.offset rs) (λ (f : Fragment). times_in t (f.stamp ∷ f.deletions)) fs
    (λ f m. (let o = own_begins t 0 last f in
    let e = found.deletions few t f.stamp f.offset in
    let k = own_deletions t f fs found.apart found.filled m in
    omega (arith, o, e, k))) in
    omega (arith, a, s)
