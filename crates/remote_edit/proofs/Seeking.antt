-- A seek by the cells that a version sees goes over whole fragments.
use Rattle.std.proofs.Common.{◌≡◌, ℕ, suc, ◌+◌, ◌-◌, ◌<◌, ◌≤◌, ◌⊎◌, Bool, Option, List, [], ◌∷◌, ◌++◌, length, take, drop, refl, sym, ap, ◌∙◌, arith, subst, cond, true, false, None, inl, inr, leb, take-append-drop, append_assoc}
use Rattle.std.proofs.lemmas.Bool.{cases_Bool, lt-leb, leb-true, leb-false, lt-ltb, and_from}
use Rattle.std.proofs.lemmas.List.{append-nil, length-take-le, length-drop, drop-drop}
use Rattle.std.proofs.Math.Seq.{take-add}
use Rattle.lamport_clock.specs.declared.stamp.Lamport.{Lamport}
use Rattle.lamport_clock.specs.Versions.{Entries, sees, entry}
use Rattle.tree_cursor.specs.Places.{behind, place_behind, seek_count}
use Rattle.tree_cursor.specs.Counting.{number_passes}
use Rattle.tree_cursor.specs.declared.traits.Bias.TheVariants.{Left}
use Rattle.fragments.specs.declared.fragment.Fragment.{Fragment}
use Rattle.fragments.specs.Summaries.{summary_of}
use Rattle.fragments.specs.SummaryLaws.{one_admitted}
use Rattle.fragments.specs.SeenPlaces.{At, move_at}
use Rattle.fragments.specs.declared.dimensions.FullAt.{FullAt}
use Rattle.tree_cursor.specs.Place.{CursorState}
use Rattle.remote_edit.specs.Walk.{seen_bytes, advance}
use Rattle.remote_edit.specs.Steps.{seen_stop, IsSought}
use Rattle.fragments.proofs.Counts.{own_cells, places_count_cells}
use Rattle.fragments.proofs.Cells.{IsWithin}
use Rattle.fragments.specs.SeenPlaceLaws.{all_in, none_in}
use Rattle.remote_edit.proofs.Passing.{own, own_len, seen_cons, seen_append, adv_unseen, adv_whole}

-- one fragment is added whole
pub move_one : (v : Entries) (n : ℕ) (f : Fragment) → behind (v, n) (move_at (v, n) (summary_of f)) ≡ (v, n + own v f)
move_one v n f = elim (cases_Bool (sees v f.stamp)) [
  | inl s ↦ (let e = all_in (v, n) (summary_of f) (and_from _ _ s refl) in let c = own_cells f in
      ap (behind (v, n)) e ∙ ap (λ (k : ℕ). place v k) (let g : own v f ≡ f.len = rw s refl in omega (arith, c, g)))
  | inr s ↦ (let e = none_in (v, n) (summary_of f) (one_admitted f) (and_from _ _ (lt-ltb _ _ (leb-false f.stamp.value (entry v f.stamp.replica) s)) refl) in
      ap (behind (v, n)) e ∙ ap (λ (k : ℕ). place v k) (let g : own v f ≡ 0 = rw s refl in omega (arith, g)))
]
  where
    place : Entries → ℕ → At
    place v k = (v, k)

module _ (v : Entries) (goal : ℕ) where
  abbrev pub sought : ℕ → List Fragment → ℕ
  sought n fs = seek_count move_at summary_of (λ p. number_passes goal p.1 Left) (v, n) fs

  sought_cons : (n : ℕ) (f : Fragment) (fs : List Fragment) → sought n (f ∷ fs) ≡ cond (leb goal (n + own v f)) 0 (1 + sought (n + own v f) fs)
  sought_cons n f fs = ap (λ (p : At). cond (leb goal p.1) 0 (1 + seek_count move_at summary_of (λ p. number_passes goal p.1 Left) p fs)) (move_one v n f)

  -- what lies before the goal is gone over
  pub sought_past : (n : ℕ) (a b : List Fragment) → n + seen_bytes v a < goal → sought n (a ++ b) ≡ length a + sought (n + seen_bytes v a) b
  sought_past n [] b h = let e : n + 0 ≡ n = omega arith in rw e (omega arith)
  sought_past n (f ∷ a) b h =
      let x = seen_cons v f a in
      let ih = sought_past (n + own v f) a b (omega arith) in
      let e : n + own v f + seen_bytes v a ≡ n + seen_bytes v (f ∷ a) = omega arith in
      let ih2 : sought (n + own v f) (a ++ b) ≡ length a + sought (n + seen_bytes v (f ∷ a)) b = ih ∙ ap (λ (k : ℕ). length a + sought k b) e in
      sought_cons n f (a ++ b) ∙ ap (λ (c : Bool). cond c 0 (1 + sought (n + own v f) (a ++ b))) (lt-leb goal (n + own v f) (omega arith)) ∙ omega arith

  -- a seek from n on
  record Gone (t : Lamport) (n : ℕ) (pre fs : List Fragment) (k : ℕ) : Type 0 where
    within : k ≤ length fs
    low : n + seen_bytes v (take k fs) < goal
    goes : advance None t v (goal - (n + seen_bytes v (take k fs))) (pre ++ take k fs) (drop k fs) ≡ advance None t v (goal - n) pre fs

  gone_none : (t : Lamport) (n : ℕ) (pre fs : List Fragment) → n < goal → Gone t n pre fs 0
  gone_none t n pre fs h =
      let e : n + 0 ≡ n = omega arith in
      record { within = omega arith; low = omega arith; goes = ap (λ (k : ℕ). advance None t v (goal - k) (pre ++ []) fs) e ∙ ap (λ (q : List Fragment). advance None t v (goal - n) q fs) (append-nil pre) }

  gone_more : (t : Lamport) (n j : ℕ) (pre fs : List Fragment) (f : Fragment) → n < goal → n + own v f < goal → Gone t (n + own v f) (pre ++ f ∷ []) fs j → Gone t n pre (f ∷ fs) (suc j)
  gone_more t n j pre fs f h l g =
      let x = seen_cons v f (take j fs) in
      let lo = g.low in
      let wi = g.within in
      let e : n + seen_bytes v (f ∷ take j fs) ≡ n + own v f + seen_bytes v (take j fs) = omega arith in
      record {
        within = omega arith;
        low = omega arith;
        goes = ap (λ (k : ℕ). advance None t v (goal - k) (pre ++ f ∷ take j fs) (drop j fs)) e
            ∙ ap (λ (q : List Fragment). advance None t v (goal - (n + own v f + seen_bytes v (take j fs))) q (drop j fs)) (sym (append_assoc pre (f ∷ []) (take j fs)))
            ∙ g.goes ∙ sym (step (cases_Bool (sees v f.stamp)));
      }
    where
      step : (sees v f.stamp ≡ true) ⊎ (sees v f.stamp ≡ false) → advance None t v (goal - n) pre (f ∷ fs) ≡ advance None t v (goal - (n + own v f)) (pre ++ f ∷ []) fs
      step (inl q) = let o : own v f ≡ f.len = rw q refl in adv_whole None t v pre fs f (goal - n) (omega arith) q (omega arith) ∙ ap (λ (k : ℕ). advance None t v k (pre ++ f ∷ []) fs) (let z : goal - n - f.len ≡ goal - (n + own v f) = omega arith in z)
      step (inr q) = let o : own v f ≡ 0 = rw q refl in adv_unseen None t v pre fs f (goal - n) (omega arith) q ∙ ap (λ (k : ℕ). advance None t v k (pre ++ f ∷ []) fs) (let z : goal - n ≡ goal - (n + own v f) = omega arith in z)

  gone : (t : Lamport) (n : ℕ) (pre fs : List Fragment) → n < goal → Gone t n pre fs (sought n fs)
  gone t n pre [] h = gone_none t n pre [] h
  gone t n pre (f ∷ fs) h = elim (cases_Bool (leb goal (n + own v f))) [
    | inl e ↦ subst (Gone t n pre (f ∷ fs)) (sym (sought_cons n f fs ∙ ap (λ (c : Bool). cond c 0 (1 + sought (n + own v f) fs)) e)) (gone_none t n pre (f ∷ fs) h)
    | inr e ↦ (let l : n + own v f < goal = leb-false goal (n + own v f) e in
        let q : sought n (f ∷ fs) ≡ suc (sought (n + own v f) fs) = sought_cons n f fs ∙ ap (λ (c : Bool). cond c 0 (1 + sought (n + own v f) fs)) e ∙ omega arith in
        subst (Gone t n pre (f ∷ fs)) (sym q) (gone_more t n (sought (n + own v f) fs) pre fs f h l (gone t (n + own v f) (pre ++ f ∷ []) fs l)))
  ]

  pub sought_low : (t : Lamport) (n : ℕ) (pre fs : List Fragment) → n < goal → n + seen_bytes v (take (sought n fs) fs) < goal
  sought_low t n pre fs h = (gone t n pre fs h).low

  -- the goal is in the first, with n cells before it
  abbrev pub IsIn : ℕ → List Fragment → Type 0
  IsIn n [] = Unit {0}
  IsIn n (f ∷ fs) = goal ≤ n + own v f

  stop : (n : ℕ) (fs : List Fragment) → IsIn (n + seen_bytes v (take (sought n fs) fs)) (drop (sought n fs) fs)
  stop n [] = tt
  stop n (f ∷ fs) = elim (cases_Bool (leb goal (n + own v f))) [
    | inl e ↦ (let l = leb-true goal (n + own v f) e in
        let q : sought n (f ∷ fs) ≡ 0 = sought_cons n f fs ∙ ap (λ (c : Bool). cond c 0 (1 + sought (n + own v f) fs)) e in
        let here : IsIn (n + seen_bytes v (take 0 (f ∷ fs))) (drop 0 (f ∷ fs)) = omega (arith, l) in
        subst (λ (k : ℕ). IsIn (n + seen_bytes v (take k (f ∷ fs))) (drop k (f ∷ fs))) (sym q) here)
    | inr e ↦ (let q : sought n (f ∷ fs) ≡ suc (sought (n + own v f) fs) = sought_cons n f fs ∙ ap (λ (c : Bool). cond c 0 (1 + sought (n + own v f) fs)) e ∙ omega arith in
        let x = seen_cons v f (take (sought (n + own v f) fs) fs) in
        let m : n + own v f + seen_bytes v (take (sought (n + own v f) fs) fs) ≡ n + seen_bytes v (f ∷ take (sought (n + own v f) fs) fs) = omega (arith, x) in
        subst (λ (k : ℕ). IsIn (n + seen_bytes v (take k (f ∷ fs))) (drop k (f ∷ fs))) (sym q) (subst (λ (k : ℕ). IsIn k (drop (sought (n + own v f) fs) fs)) m (stop (n + own v f) fs)))
  ]

  pub seek_gone : (t : Lamport) (xs : List Fragment) (n i place k : ℕ) → goal ≡ place + n → place ≡ seen_bytes v (take i xs) → i ≤ length xs → 0 < n → k ≡ sought 0 xs
      → IsSought t v xs n i (goal - seen_bytes v (take k xs)) k (seen_bytes v (take k xs)) × ((seen_bytes v (take k xs) ≤ goal) × ((i ≤ k) × IsIn (seen_bytes v (take k xs)) (drop k xs)))
  seek_gone t xs n i place k g p l s e =
      let d : List Fragment = drop i xs in
      let z : 0 + seen_bytes v (take i xs) ≡ place = omega arith in
      let a : sought 0 xs ≡ i + sought place d = ap (sought 0) (sym (take-append-drop i xs)) ∙ sought_past 0 (take i xs) d (omega arith)
      ∙ ap (λ (m : ℕ). m + sought (0 + seen_bytes v (take i xs)) d) (length-take-le i xs l) ∙ ap (λ (m : ℕ). i + sought m d) z in
      let j : ℕ = sought place d in
      let is : k ≡ i + j = e ∙ a in
      let o = gone t place (take i xs) d (omega arith) in
      let lo = o.low in
      let wi = o.within in
      let ln = length-drop i xs in
      let tk : take k xs ≡ take i xs ++ take j d = ap (λ (m : ℕ). take m xs) is ∙ take-add i j xs in
      let dk : drop k xs ≡ drop j d = ap (λ (m : ℕ). drop m xs) is ∙ sym (drop-drop j i xs) in
      let kk : seen_bytes v (take k xs) ≡ place + seen_bytes v (take j d) = ap (seen_bytes v) tk ∙ seen_append v (take i xs) (take j d) ∙ omega arith in
      let gn : goal - place ≡ n = omega arith in (
        record {
          goes = ap (λ (m : ℕ). advance None t v (goal - m) (take k xs) (drop k xs)) kk ∙ ap (λ (q : List Fragment). advance None t v (goal - (place + seen_bytes v (take j d))) q (drop k xs)) tk
              ∙ ap (advance None t v (goal - (place + seen_bytes v (take j d))) (take i xs ++ take j d)) dk ∙ o.goes ∙ ap (λ (m : ℕ). advance None t v m (take i xs) d) gn;
          within = omega arith;
          place = refl;
        },
        (omega arith, (omega (arith, is), subst (IsIn (seen_bytes v (take k xs))) (sym dk) (subst (λ (m : ℕ). IsIn m (drop j d)) (sym kk) (stop place d)))),
      )

-- fewer cells lie before the stop
pub seek_low : (v : Entries) (goal : ℕ) (xs : List Fragment) (k : ℕ) → 0 < goal → k ≡ seen_stop v goal xs → seen_bytes v (take k xs) < goal
seek_low v goal xs k h e =
    let t : Lamport = record { value = 0; replica = 0 } in
    let g = sought_low v goal t 0 [] xs h in
    let z : 0 + seen_bytes v (take (seen_stop v goal xs) xs) ≡ seen_bytes v (take (seen_stop v goal xs) xs) = omega arith in
    subst (λ (j : ℕ). seen_bytes v (take j xs) < goal) (sym e) (omega (arith, z, g))

-- what a seek gives
pub found : (t : Lamport) (v : Entries) (xs : List Fragment) (n i place index bytes : ℕ) → index ≡ seen_stop v (place + n) xs → bytes ≡ seen_bytes v (take index xs)
    → place ≡ seen_bytes v (take i xs) → i ≤ length xs → 0 < n
    → IsSought t v xs n i (place + n - bytes) index bytes × ((bytes ≤ place + n) × ((i ≤ index) × IsIn v (place + n) bytes (drop index xs)))
found t v xs n i place index bytes k b ep l h =
    let s = seek_gone v (place + n) t xs n i place index refl ep l h k in (
      subst (λ (m : ℕ). IsSought t v xs n i (place + n - m) index m) (sym b) s.0,
      (subst (λ (m : ℕ). m ≤ place + n) (sym b) s.1.0, (s.1.1.0, subst (λ (m : ℕ). IsIn v (place + n) m (drop index xs)) (sym b) s.1.1.1)),
    )

-- so no more cells are left to pass than it has
pub in_first : (v : Entries) (goal q k : ℕ) (fs : List Fragment) → IsIn v goal q fs → q + k ≡ goal → IsWithin k fs
in_first v goal q k [] h e = tt
in_first v goal q k (f ∷ fs) h e = let o = own_len v f in omega (arith, h, e, o)

-- where a cursor's seek from the first item stops
module _ {P S T D : Type 0} (moved : P → S → Option P) (sum_of : T → S) (stops : P → Bool) (plain : D → P) where
  pub cursor_stop : (xs : List T) (start : D) (cur new : CursorState T D) (index : ℕ) (got : P) → cur.items ≡ xs → cur.index ≡ 0 → cur.from ≡ start
      → new ≡ record cur { index = cur.index + seek_count moved sum_of stops (place_behind moved sum_of (plain cur.from) (take cur.index cur.items)) (drop cur.index cur.items) }
      → index ≡ new.index → got ≡ place_behind moved sum_of (plain new.from) (take new.index new.items)
      → (index ≡ seek_count moved sum_of stops (plain start) xs) × (got ≡ place_behind moved sum_of (plain start) (take index xs))
  cursor_stop xs start cur new index got ei ej ef em ek eg =
      let count : ℕ → List T → D → ℕ = λ j ys d. j + seek_count moved sum_of stops (place_behind moved sum_of (plain d) (take j ys)) (drop j ys) in
      let is : index ≡ count 0 xs start = ek ∙ ap (λ (z : CursorState T D). z.index) em ∙ ap (λ (j : ℕ). count j cur.items cur.from) ej ∙ ap (λ (ys : List T). count 0 ys cur.from) ei ∙ ap (λ (d : D). count 0 xs d) ef in
      let items : new.items ≡ xs = ap (λ (z : CursorState T D). z.items) em ∙ ei in
      let from : new.from ≡ start = ap (λ (z : CursorState T D). z.from) em ∙ ef in
      let behind_of : ℕ → List T → D → P = λ j ys d. place_behind moved sum_of (plain d) (take j ys) in
      (is ∙ omega arith, eg ∙ ap (λ (j : ℕ). behind_of j new.items new.from) (sym ek) ∙ ap (λ (ys : List T). behind_of index ys new.from) items ∙ ap (λ (d : D). behind_of index xs d) from)

-- the cells that a version sees before the stop
abbrev pub at_of : FullAt → At
at_of d = (d.version.now, d.bytes)

pub stop_bytes : (v : Entries) (got : FullAt) (n : ℕ) (xs : List Fragment) → at_of got ≡ place_behind move_at summary_of (v, 0) (take n xs) → got.bytes ≡ seen_bytes v (take n xs)
stop_bytes v got n xs e = ap (λ (p : At). p.1) (e ∙ (places_count_cells (take n xs) 0).2 v) ∙ omega arith
