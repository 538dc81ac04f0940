-- The runs of an index are those of fragments that are split, inserted, marked and shown.
use Rattle.std.proofs.Common.{◌≡◌, ℕ, ◌+◌, ◌<◌, ◌≤◌, ◌⊎◌, Bool, true, false, cond, ◌&&◌, Option, List, [], ◌∷◌, ◌++◌, refl, sym, ap, ◌∙◌, arith, inl, inr, Some, None, length, nat_lt, leb, map}
use Rattle.std.proofs.lemmas.Bool.{cases_Bool, cases_lt, and_from, and_left, le-leb, lt-leb, lt-ltb, le-ltb}
use Rattle.lamport_clock.specs.declared.stamp.Lamport.{Lamport}
use Rattle.lamport_clock.specs.Stamps.{same_stamp}
use Rattle.lamport_clock.specs.Versions.{Entries}
use Rattle.op_model.specs.Facts.{with_deletion, stamp_first}
use Rattle.undo_map.specs.declared.entry.UndoEntry.{UndoEntry}
use Rattle.fragments.specs.declared.fragment.Fragment.{Fragment}
use Rattle.fragments.specs.declared.deleted_run.DeletedRun.{DeletedRun}
use Rattle.fragments.specs.DeletedRuns.{IndexState, AreNumbered, AreRunsOf, with_run, keep_run, run_count, has_cell, times_in, deletion_count}
use Rattle.fragments.proofs.Runs.{one_run, run_added, all_kept, numbered_kept}
use Rattle.fragments.proofs.Deletions.{one_deletion, deletion_append, deletion_mid}
use Rattle.remote_edit.specs.Marks.{was_shown, touch, touch_index}
use Rattle.remote_edit.specs.Walk.{front, back, new_fragment}

-- ---- a fragment that is split

-- whether a fragment of the edit has a cell, by the cell's number
abbrev HasAt : Lamport → ℕ → Fragment → Type 0
HasAt s k f = ((has_cell s k f ≡ true) × (f.offset ≤ k) × (k < f.offset + f.len))
    ⊎ ((has_cell s k f ≡ false) × ((k < f.offset) ⊎ (f.offset + f.len ≤ k)))

has_at : (s : Lamport) (k : ℕ) (f : Fragment) → same_stamp f.stamp s ≡ true → HasAt s k f
has_at s k f e = elim (cases_lt k f.offset) [
  | inl l ↦ inr (middle_false (same_stamp f.stamp s) (leb f.offset k) (nat_lt k (f.offset + f.len)) (lt-leb f.offset k l), inl l)
  | inr l ↦ elim (cases_lt k (f.offset + f.len)) [
    | inl m ↦ inl (and_from _ _ (and_from _ _ e (le-leb f.offset k l)) (lt-ltb k (f.offset + f.len) m), l, m)
    | inr m ↦ inr (last_false (same_stamp f.stamp s) (leb f.offset k) (le-ltb k (f.offset + f.len) m), inr m)
  ]
]
  where
    middle_false : (a b c : Bool) → b ≡ false → ((a && b) && c) ≡ false
    middle_false true b c h = and_left b c h
    middle_false false b c h = refl

    last_false : (a b : Bool) {c : Bool} → c ≡ false → ((a && b) && c) ≡ false
    last_false true true h = h
    last_false true false h = refl
    last_false false b h = refl

other_edit : (s : Lamport) (k : ℕ) (f : Fragment) → same_stamp f.stamp s ≡ false → has_cell s k f ≡ false
other_edit s k f e = and_left (same_stamp f.stamp s && leb f.offset k) (nat_lt k (f.offset + f.len)) (and_left (same_stamp f.stamp s) (leb f.offset k) e)

counted : (t s : Lamport) (k : ℕ) (f : Fragment) → has_cell s k f ≡ true → one_deletion t s k f ≡ times_in t f.deletions
counted t s k f e = rw e refl

not_counted : (t s : Lamport) (k : ℕ) (f : Fragment) → has_cell s k f ≡ false → one_deletion t s k f ≡ 0
not_counted t s k f e = rw e refl

-- the two parts of a fragment have its deletions
split_deletions : (t s : Lamport) (k n : ℕ) (id : List ℕ) (f : Fragment) → n < f.len → one_deletion t s k (front f n id) + one_deletion t s k (back f n) ≡ one_deletion t s k f
split_deletions t s k n id f l = elim (cases_Bool (same_stamp f.stamp s)) [
  | inr e ↦ (let a = not_counted t s k (front f n id) (other_edit s k (front f n id) e) in
      let b = not_counted t s k (back f n) (other_edit s k (back f n) e) in
      let c = not_counted t s k f (other_edit s k f e) in omega (arith, a, b, c))
  | inl e ↦ go (has_at s k (front f n id) e) (has_at s k (back f n) e) (has_at s k f e)
]
  where
    go : HasAt s k (front f n id) → HasAt s k (back f n) → HasAt s k f → one_deletion t s k (front f n id) + one_deletion t s k (back f n) ≡ one_deletion t s k f
    go (inl a) (inl b) c = let x = a.2 in let y = b.1 in absurd (omega (arith, x, y))
    go (inl a) (inr b) (inl c) =
        let x = counted t s k (front f n id) a.0 in let y = not_counted t s k (back f n) b.0 in let z = counted t s k f c.0 in omega (arith, x, y, z)
    go (inl a) (inr b) (inr (c, inl d)) = let x = a.1 in absurd (omega (arith, x, d))
    go (inl a) (inr b) (inr (c, inr d)) = let x = a.2 in absurd (omega (arith, x, d, l))
    go (inr a) (inl b) (inl c) =
        let x = not_counted t s k (front f n id) a.0 in let y = counted t s k (back f n) b.0 in let z = counted t s k f c.0 in omega (arith, x, y, z)
    go (inr a) (inl b) (inr (c, inl d)) = let x = b.1 in absurd (omega (arith, x, d))
    go (inr a) (inl b) (inr (c, inr d)) = let x = b.2 in absurd (omega (arith, x, d, l))
    go (inr a) (inr b) (inr c) =
        let x = not_counted t s k (front f n id) a.0 in let y = not_counted t s k (back f n) b.0 in let z = not_counted t s k f c.0 in omega (arith, x, y, z)
    go (inr (a, inl d)) (inr b) (inl c) = let x = c.1 in absurd (omega (arith, x, d))
    go (inr (a, inr d)) (inr (b, inl g)) (inl c) = absurd (omega (arith, d, g))
    go (inr (a, inr d)) (inr (b, inr g)) (inl c) = let x = c.2 in absurd (omega (arith, x, g, l))

pub runs_split : (pre r : List Fragment) (f : Fragment) (n : ℕ) (id : List ℕ) (rs : List DeletedRun) → n < f.len → AreRunsOf (pre ++ f ∷ r) rs → AreRunsOf (pre ++ front f n id ∷ back f n ∷ r) rs
runs_split pre r f n id rs l h = λ m t s k.
    let e = split_deletions t s k n id f l in
    h m t s k ∙ sym (deletion_mid t s k pre (front f n id ∷ back f n ∷ []) (f ∷ []) r (omega (arith, e)))

-- ---- a new fragment

new_deletions : (b : Bool) → cond b 0 0 + 0 ≡ 0
new_deletions true = omega arith
new_deletions false = omega arith

pub runs_new : (pre r : List Fragment) (t : Lamport) (k n : ℕ) (id : List ℕ) (rs : List DeletedRun) → AreRunsOf (pre ++ r) rs → AreRunsOf (pre ++ new_fragment t k n id ∷ r) rs
runs_new pre r t k n id rs h = λ m u s j.
    let e = new_deletions (has_cell s j (new_fragment t k n id)) in
    h m u s j ∙ sym (deletion_mid u s j pre (new_fragment t k n id ∷ []) [] r (omega (arith, e)))

-- ---- a fragment that is marked

more_times : (t u : Lamport) (d : List Lamport) → times_in u (with_deletion t d) ≡ cond (same_stamp t u) 1 0 + times_in u d
more_times t u [] = refl
more_times t u (x ∷ d) = elim (cases_Bool (stamp_first x t)) [
  | inl e ↦ rw e (let h = more_times t u d in omega (arith, h))
  | inr e ↦ rw e refl
]

one_more : (h b : Bool) (n : ℕ) → cond h (cond b 1 0 + n) 0 ≡ cond (b && h) 1 0 + cond h n 0
one_more true true n = omega arith
one_more true false n = omega arith
one_more false true n = refl
one_more false false n = refl

and_three : (b x y z : Bool) → (((b && x) && y) && z) ≡ (b && ((x && y) && z))
and_three true x y z = refl
and_three false x y z = refl

abbrev Deleted : Lamport → Fragment → Fragment
Deleted t f = record { id = f.id; stamp = f.stamp; offset = f.offset; len = f.len; visible = false; deletions = with_deletion t f.deletions; max_undos = f.max_undos }

deleted_more : (t u s : Lamport) (k i : ℕ) (f : Fragment) → one_deletion u s k (Deleted t f) ≡ one_run u s k (record { edit = t; number = i; stamp = f.stamp; offset = f.offset; len = f.len }) + one_deletion u s k f
deleted_more t u s k i f = ap (λ (n : ℕ). cond (has_cell s k f) n 0) (more_times t u f.deletions) ∙ one_more (has_cell s k f) (same_stamp t u) (times_in u f.deletions)
    ∙ ap (λ (b : Bool). cond b 1 0 + one_deletion u s k f) (sym (and_three (same_stamp t u) (same_stamp f.stamp s) (leb f.offset k) (nat_lt k (f.offset + f.len))))

runs_marked : (pre r : List Fragment) (t : Lamport) (f : Fragment) (rs : List DeletedRun) → AreNumbered rs → AreRunsOf (pre ++ f ∷ r) rs → AreRunsOf (pre ++ Deleted t f ∷ r) (keep_run t f.stamp f.offset f.len rs)
runs_marked pre r t f rs a h = λ m u s k.
    let kept = all_kept t f.stamp f.offset f.len rs m in
    let p = run_added u s t f.stamp k f.offset f.len rs a in
    let q = deleted_more t u s k (length rs) f in
    let x = deletion_append u s k pre (f ∷ r) in
    let y = deletion_append u s k pre (Deleted t f ∷ r) in
    let z = h kept.0 u s k in
    let e : run_count u s k (keep_run t f.stamp f.offset f.len rs) ≡ run_count u s k (with_run t f.stamp f.offset f.len rs) = ap (run_count u s k) kept.1 in
    omega (arith, p, q, x, y, z, e)

pub touch_entries : (m : Option (List UndoEntry)) (t : Lamport) (v : Entries) (f : Fragment) (x : IndexState) → (touch_index m t v f x).entries ≡ x.entries
touch_entries None t v f x = refl
touch_entries (Some w) t v f x = elim (cases_Bool (was_shown w v f.stamp f.deletions)) [ inl e ↦ rw e refl | inr e ↦ rw e refl ]

pub touch_numbered : (m : Option (List UndoEntry)) (t : Lamport) (v : Entries) (f : Fragment) (x : IndexState) → AreNumbered x.deletions → AreNumbered (touch_index m t v f x).deletions
touch_numbered None t v f x a = a
touch_numbered (Some w) t v f x a = elim (cases_Bool (was_shown w v f.stamp f.deletions)) [
  | inl e ↦ rw e (numbered_kept t f.stamp f.offset f.len x.deletions a)
  | inr e ↦ rw e a
]

pub runs_touched : (m : Option (List UndoEntry)) (t : Lamport) (v : Entries) (pre r : List Fragment) (f : Fragment) (x : IndexState) → AreNumbered x.deletions → AreRunsOf (pre ++ f ∷ r) x.deletions
    → AreRunsOf (pre ++ touch m t v f ∷ r) (touch_index m t v f x).deletions
runs_touched None t v pre r f x a h = h
runs_touched (Some w) t v pre r f x a h = elim (cases_Bool (was_shown w v f.stamp f.deletions)) [
  | inl e ↦ rw e (runs_marked pre r t f x.deletions a h)
  | inr e ↦ rw e h
]

-- ---- fragments with the same cells and deletions

pub runs_same : (m : Fragment → Fragment) → ((f : Fragment) → ((m f).stamp ≡ f.stamp) × ((m f).offset ≡ f.offset) × ((m f).len ≡ f.len) × ((m f).deletions ≡ f.deletions))
    → (t s : Lamport) (k : ℕ) (fs : List Fragment) → deletion_count t s k (map m fs) ≡ deletion_count t s k fs
runs_same m e t s k [] = refl
runs_same m e t s k (f ∷ fs) = let z = e f in rw (z.0, z.1, z.2, z.3) (ap (λ (n : ℕ). one_deletion t s k f + n) (runs_same m e t s k fs))
