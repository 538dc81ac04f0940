-- The fragments that an index finds: of a cell, of a range of cells, and those that an edit concerns.
use Rattle.std.proofs.Common.{◌≡◌, ℕ, zero, suc, ◌+◌, ◌-◌, ◌<◌, ◌≤◌, ◌^◌, min, get_or, Bool, true, false, not, ◌&&◌, ◌||◌, Option, List, [], ◌∷◌, ◌++◌, length, take, refl, sym, ap, ◌∙◌, arith, subst, inl, inr, Some, None, leb, nat_lt, option_map, slice_get}
use Rattle.std.specs.List.{AllByRecursion, list_any, filter}
use Rattle.std.proofs.lemmas.Bool.{cases_Bool, cases_lt, and_from, and_parts, both_ways, le-leb, leb-true, lt-ltb, ltb-true}
use Rattle.std.proofs.lemmas.Option.{same_Some}
use Rattle.std.proofs.lemmas.List.{take_all, take_more}
use Rattle.lamport_clock.specs.declared.stamp.Lamport.{Lamport}
use Rattle.lamport_clock.specs.Stamps.{same_stamp}
use Rattle.lamport_clock.proofs.Later.{same_stamp_eq, same_stamp_refl}
use Rattle.locators.specs.Locator.{least_digits}
use Rattle.op_model.specs.Sorted.{EachPair, Member}
use Rattle.op_model.proofs.Elements.{each_member, each_append, each_map, member_at, member_left, member_right, filter_has}
use Rattle.op_model.proofs.order.CellsOnce.{member_map}
use Rattle.fragments.specs.declared.fragment.Fragment.{Fragment}
use Rattle.fragments.specs.declared.deleted_run.DeletedRun.{DeletedRun}
use Rattle.fragments.specs.declared.index_entry.IndexEntry.{IndexEntry}
use Rattle.fragments.specs.Index.{covers, entry_for, id_for}
use Rattle.fragments.specs.DeletedRuns.{IndexState, few_runs, is_run_of, has_deleted, run_count, has_cell, times_in, deletion_count}
use Rattle.fragments.specs.Stand.{IsFilled, Rise, entry_of}
use Rattle.fragments.specs.Summaries.{summary_of}
use Rattle.fragments.proofs.Founds.{fragment_of, IsSound, sound, IsBest, best}
use Rattle.fragments.proofs.Indexes.{id_entry}
use Rattle.fragments.proofs.Rises.{not_self, less_is, rise_above}
use Rattle.fragments.proofs.Deletions.{one_deletion}
use Rattle.remote_edit.specs.Indexes.{IsApart}
use Rattle.remote_edit.specs.Finds.{is_from, place_from, IsFound, place_at, place_of_id, place_of, HaveAll, HaveCells, HaveRun, HaveConcerned}

-- what holds of each member
pub each_of : {A : Type 0} (P : A → Type 0) (xs : List A) → ((x : A) → Member x xs → P x) → AllByRecursion P xs
each_of P [] f = tt
each_of P (x ∷ xs) f = (f x (inl refl), each_of P xs (λ y m. f y (inr m)))

-- ---- the place of an id

pub place_found : (low : List ℕ) (fs : List Fragment) (j : ℕ) (g : Fragment) → Rise low fs → slice_get fs j ≡ Some g → place_from g.id fs ≡ j
place_found low [] j g r e = absurd (cc)
place_found low (f ∷ fs) zero g r e =
    let q : f ≡ g = same_Some f g e in
    let s : is_from g.id (summary_of f) ≡ true = ap (λ (z : Fragment). is_from g.id (summary_of z)) q ∙ ap not (not_self g.id) in
    rw s refl
place_found low (f ∷ fs) (suc j) g r e =
    let l : is_from g.id (summary_of f) ≡ false = ap not (less_is f.id g.id (rise_above f.id fs g r.2 (member_at fs j g e))) in
    let h = place_found f.id fs j g r.2 e in
    rw l (omega (arith, h))

-- ---- fragments apart

pair_at : {A : Type 0} (R : A → A → Type 0) (xs : List A) (i j : ℕ) (a b : A) → EachPair R xs → i < j → slice_get xs i ≡ Some a → slice_get xs j ≡ Some b → R a b
pair_at R [] i j a b h l e f = absurd (cc)
pair_at {A} R (x ∷ xs) zero zero a b h l e f = absurd (omega (arith, l))
pair_at {A} R (x ∷ xs) zero (suc j) a b h l e f = subst (λ (z : A). R z b) (same_Some x a e) (each_member (R x) xs b h.0 (member_at xs j b f))
pair_at R (x ∷ xs) (suc i) zero a b h l e f = absurd (omega (arith, l))
pair_at R (x ∷ xs) (suc i) (suc j) a b h l e f = pair_at R xs i j a b h.1 (omega (arith, l)) e f

-- fragments with a cell in common are at one place
module _ (fs : List Fragment) (apart : EachPair IsApart fs) where
  same_place : (i j k : ℕ) (f g : Fragment) → slice_get fs i ≡ Some f → slice_get fs j ≡ Some g → f.stamp ≡ g.stamp
      → f.offset ≤ k → k < f.offset + f.len → g.offset ≤ k → k < g.offset + g.len → i ≡ j
  same_place i j k f g e d s a b m n = elim (cases_lt i j) [
    | inl l ↦ absurd (elim (pair_at IsApart fs i j f g apart l e d s) [ inl z ↦ omega (arith, z, b, m) | inr z ↦ omega (arith, z, n, a) ])
    | inr l ↦ elim (cases_lt j i) [
      | inl o ↦ absurd (elim (pair_at IsApart fs j i g f apart o d e (sym s)) [ inl z ↦ omega (arith, z, n, a) | inr z ↦ omega (arith, z, b, m) ])
      | inr o ↦ omega (arith, l, o)
    ]
  ]

-- ---- the entry of a cell

none_of : (r : Option IndexEntry) → option_map (λ (e : IndexEntry). e.id) r ≡ None → r ≡ None
none_of None h = refl
none_of (Some e) h = absurd (cc)

module _ (fs : List Fragment) (x : IndexState) (found : IsFound fs x) where
  covered : (s : Lamport) (k : ℕ) (f : Fragment) → f.stamp ≡ s → f.offset ≤ k → covers s k (entry_of f) ≡ true
  covered s k f e l = and_from _ _ (subst (λ (t : Lamport). same_stamp f.stamp t ≡ true) e (same_stamp_refl f.stamp)) (le-leb f.offset k l)

  entered : (i : ℕ) (f : Fragment) → slice_get fs i ≡ Some f → Member (entry_of f) x.entries
  entered i f e = (found.entries (entry_of f)).1 (member_map entry_of f fs (member_at fs i f e))

  nearest_to : (s : Lamport) (k i : ℕ) (f : Fragment) → slice_get fs i ≡ Some f → f.stamp ≡ s → f.offset ≤ k → IsBest (entry_of f) (entry_for s k x.entries)
  nearest_to s k i f e q l = best s k (entry_of f) x.entries (entered i f e) (covered s k f q l)

  -- no fragment of the edit begins by the cell
  none_by : (s : Lamport) (k : ℕ) → id_for s k x.entries ≡ None → (i : ℕ) (f : Fragment) → slice_get fs i ≡ Some f → f.stamp ≡ s → f.offset ≤ k → ⊥
  none_by s k h i f e q l = subst (IsBest (entry_of f)) (none_of _ h) (nearest_to s k i f e q l)

  pub place_by : (g : Fragment) → Member g fs → (j : ℕ) × (slice_get fs j ≡ Some g)
  place_by g m = go fs m
    where
      go : (gs : List Fragment) → Member g gs → (j : ℕ) × (slice_get gs j ≡ Some g)
      go [] n = absurd n
      go (y ∷ gs) (inl q) = (0, ap (λ (z : Fragment). Some z) (sym q))
      go (y ∷ gs) (inr n) = let k = go gs n in (suc k.0, k.1)

  -- the fragment at a place is the last of its edit that begins by cell k
  pub record Here (s : Lamport) (k i o : ℕ) : Type 0 where
    pub fragment : Fragment
    pub at : slice_get fs i ≡ Some fragment
    pub stamp : fragment.stamp ≡ s
    pub offset : fragment.offset ≡ o
    pub by : o ≤ k
    pub last : (j : ℕ) (f : Fragment) → slice_get fs j ≡ Some f → f.stamp ≡ s → f.offset ≤ k → f.offset ≤ o

  here_id : (s : Lamport) (k : ℕ) (id : List ℕ) → id_for s k x.entries ≡ Some id → (i : ℕ) × (o : ℕ) × (place_at (place_from id fs) (slice_get fs (place_from id fs)) ≡ Some (i, o)) × Here s k i o
  here_id s k id h =
      let e = id_entry id (entry_for s k x.entries) h in
      let so : IsSound s k x.entries (Some e.0) = subst (IsSound s k x.entries) e.1 (sound s k x.entries) in
      let g = fragment_of e.0 fs ((found.entries e.0).0 so.0) in
      let p = place_by g.0 g.1 in
      let same : g.0.id ≡ id = ap (λ (z : IndexEntry). z.id) (sym g.2) ∙ e.2 in
      let at : place_from id fs ≡ p.0 = ap (λ (z : List ℕ). place_from z fs) (sym same) ∙ place_found least_digits fs p.0 g.0 found.ids p.1 in
      let got : slice_get fs (place_from id fs) ≡ Some g.0 = ap (slice_get fs) at ∙ p.1 in
      let c = and_parts (same_stamp e.0.stamp s) (leb e.0.offset k) so.1 in
      let st : g.0.stamp ≡ s = ap (λ (z : IndexEntry). z.stamp) (sym g.2) ∙ same_stamp_eq e.0.stamp s c.0 in
      let of : e.0.offset ≡ g.0.offset = ap (λ (z : IndexEntry). z.offset) g.2 in
      let low : e.0.offset ≤ k = leb-true _ _ c.1 in (
        p.0,
        g.0.offset,
        (ap (place_at (place_from id fs)) got ∙ ap (λ (n : ℕ). Some (n, g.0.offset)) at),
        record {
          fragment = g.0;
          at = p.1;
          stamp = st;
          offset = refl;
          by = omega (arith, of, low);
          last = λ j f a b l. (let n : f.offset ≤ e.0.offset = subst (IsBest (entry_of f)) e.1 (nearest_to s k j f a b l) in omega (arith, n, of));
        },
      )

  pub here_of : (s : Lamport) (k i o : ℕ) → place_of s k x.entries fs ≡ Some (i, o) → Here s k i o
  here_of s k i o h = go (id_for s k x.entries) refl
    where
      go : (r : Option (List ℕ)) → id_for s k x.entries ≡ r → Here s k i o
      go None e = absurd (let q : None ≡ Some (i, o) = ap (λ (z : Option (List ℕ)). place_of_id z fs) (sym e) ∙ h in cc)
      go (Some id) e =
          let k2 = here_id s k id e in
          let q : (k2.0, k2.1) ≡ (i, o) = same_Some _ _ (sym k2.2 ∙ ap (λ (z : Option (List ℕ)). place_of_id z fs) (sym e) ∙ h) in
          subst (λ (z : ℕ × ℕ). Here s k z.0 z.1) q k2.3

  pub none_here : (s : Lamport) (k : ℕ) → place_of s k x.entries fs ≡ None → (i : ℕ) (f : Fragment) → slice_get fs i ≡ Some f → f.stamp ≡ s → f.offset ≤ k → ⊥
  none_here s k h = go (id_for s k x.entries) refl
    where
      go : (r : Option (List ℕ)) → id_for s k x.entries ≡ r → (i : ℕ) (f : Fragment) → slice_get fs i ≡ Some f → f.stamp ≡ s → f.offset ≤ k → ⊥
      go None e = none_by s k e
      go (Some id) e = let k2 = here_id s k id e in absurd (let q : Some (k2.0, k2.1) ≡ None = sym k2.2 ∙ ap (λ (z : Option (List ℕ)). place_of_id z fs) (sym e) ∙ h in cc)

  -- ---- a range of cells

  -- among ps are the places of the fragments of the edit that begin after cell k and by the last one
  abbrev pub Above : Lamport → ℕ → ℕ → List ℕ → Type 0
  Above s k last ps = (i : ℕ) (f : Fragment) → slice_get fs i ≡ Some f → f.stamp ≡ s → k < f.offset → f.offset ≤ last → Member i ps

  filled_at : (i : ℕ) (f : Fragment) → slice_get fs i ≡ Some f → IsFilled f
  filled_at i f e = each_member IsFilled fs f found.filled (member_at fs i f e)

  -- a fragment of the edit that begins where the one here does is at its place
  at_first : (s : Lamport) (k i o : ℕ) → Here s k i o → (j : ℕ) (f : Fragment) → slice_get fs j ≡ Some f → f.stamp ≡ s → f.offset ≡ o → j ≡ i
  at_first s k i o h j f e q z =
      let a = (filled_at j f e).0 in
      let b = (filled_at i h.fragment h.at).0 in
      let c = h.offset in
      same_place fs found.apart j i o f h.fragment e h.at (q ∙ sym h.stamp) (omega (arith, z)) (omega (arith, z, a)) (omega (arith, c)) (omega (arith, c, b))

  put_last : (ps : List ℕ) (i j : ℕ) → j ≡ i → Member j (ps ++ i ∷ [])
  put_last ps i j e = member_right j ps (i ∷ []) (inl e)

  pub reached : (s : Lamport) (k i o from last : ℕ) (ps : List ℕ) → Here s k i o → Above s k last ps → o ≤ from → HaveCells fs s from last (ps ++ i ∷ [])
  reached s k i o from last ps h a l = λ j c f e q m n u v. elim (cases_lt k f.offset) [
    | inl z ↦ member_left j ps (i ∷ []) (a j f e q z (omega (arith, u, n)))
    | inr z ↦ (let b = h.last j f e q z in
        let d = h.offset in
        let w = (filled_at i h.fragment h.at).0 in
        put_last ps i j (elim (cases_lt f.offset o) [
          | inl y ↦ same_place fs found.apart j i o f h.fragment e h.at (q ∙ sym h.stamp) (omega (arith, y)) (omega (arith, v, l, m)) (omega (arith, d)) (omega (arith, d, w))
          | inr y ↦ at_first s k i o h j f e q (omega (arith, y, b))
        ]))
  ]

  pub further : (s : Lamport) (k i o last n : ℕ) (ps : List ℕ) → Here s k i o → Above s k last ps → o ≡ suc n → Above s n last (ps ++ i ∷ [])
  further s k i o last n ps h a z = λ j f e q l m. elim (cases_lt k f.offset) [
    | inl y ↦ member_left j ps (i ∷ []) (a j f e q y m)
    | inr y ↦ (let b = h.last j f e q y in put_last ps i j (at_first s k i o h j f e q (omega (arith, b, l, z))))
  ]

  pub ended : (s : Lamport) (k from last : ℕ) (ps : List ℕ) → place_of s k x.entries fs ≡ None → Above s k last ps → HaveCells fs s from last ps
  ended s k from last ps h a = λ j c f e q m n u v. elim (cases_lt k f.offset) [
    | inl z ↦ a j f e q z (omega (arith, u, n))
    | inr z ↦ absurd (none_here s k h j f e q z)
  ]

  pub above_last : (s : Lamport) (last : ℕ) (ps : List ℕ) → Above s last last ps
  above_last s last ps = λ j f e q l m. absurd (omega (arith, l, m))

  -- ---- what an edit concerns

  times_some : (t : Lamport) (d : List Lamport) → list_any (same_stamp t) d ≡ true → 1 ≤ times_in t d
  times_some t [] h = absurd (cc)
  times_some t (u ∷ d) h = elim (cases_Bool (same_stamp u t)) [
    | inl e ↦ rw e (omega arith)
    | inr e ↦ (let n : same_stamp t u ≡ false = other_way t u e in
        let k = times_some t d (ap (λ (b : Bool). b || list_any (same_stamp t) d) (sym n) ∙ h) in rw e (omega (arith, k)))
  ]
    where
      other_way : (a b : Lamport) → same_stamp b a ≡ false → same_stamp a b ≡ false
      other_way a b e = elim (cases_Bool (same_stamp a b)) [
        | inr f ↦ f
        | inl f ↦ (let q : a ≡ b = same_stamp_eq a b f in absurd (both_ways _ e (subst (λ (z : Lamport). same_stamp z a ≡ true) q (same_stamp_refl a))))
      ]

  count_some : (t s : Lamport) (k : ℕ) (gs : List Fragment) (f : Fragment) → Member f gs → 1 ≤ one_deletion t s k f → 1 ≤ deletion_count t s k gs
  count_some t s k [] f m l = absurd m
  count_some t s k (g ∷ gs) f (inl e) l = let q : one_deletion t s k f ≡ one_deletion t s k g = ap (one_deletion t s k) e in omega (arith, l, q)
  count_some t s k (g ∷ gs) f (inr m) l = let h = count_some t s k gs f m l in omega (arith, h)

  run_some : (t s : Lamport) (k : ℕ) (rs : List DeletedRun) → 1 ≤ run_count t s k rs → (r : DeletedRun) × Member r rs × (has_deleted t s k r ≡ true)
  run_some t s k [] l = absurd (omega (arith, l))
  run_some t s k (r ∷ rs) l = elim (cases_Bool (has_deleted t s k r)) [
    | inl e ↦ (r, inl refl, e)
    | inr e ↦ (let n : run_count t s k (r ∷ rs) ≡ run_count t s k rs = rw e (omega arith) in let h = run_some t s k rs (omega (arith, l, n)) in (h.0, inr h.1, h.2))
  ]

  -- a fragment that an edit deletes begins in one of its runs
  pub record InRun (t : Lamport) (f : Fragment) : Type 0 where
    pub run : DeletedRun
    pub one : Member run (filter (is_run_of t) x.deletions)
    pub stamp : f.stamp ≡ run.stamp
    pub from : run.offset ≤ f.offset
    pub before : f.offset < run.offset + run.len

  pub in_run : few_runs x.deletions ≡ true → (t : Lamport) (i : ℕ) (f : Fragment) → slice_get fs i ≡ Some f → list_any (same_stamp t) f.deletions ≡ true → InRun t f
  in_run few t i f e d =
      let l = (filled_at i f e).0 in
      let has : has_cell f.stamp f.offset f ≡ true = and_from _ _ (and_from _ _ (same_stamp_refl f.stamp) (le-leb f.offset f.offset (omega arith))) (lt-ltb f.offset (f.offset + f.len) (omega (arith, l))) in
      let n = times_some t f.deletions d in
      let c : one_deletion t f.stamp f.offset f ≡ times_in t f.deletions = rw has refl in
      let a = count_some t f.stamp f.offset fs f (member_at fs i f e) (omega (arith, n, c)) in
      let q = found.deletions few t f.stamp f.offset in
      let r = run_some t f.stamp f.offset x.deletions (omega (arith, a, q)) in
      let p = and_parts (same_stamp r.0.edit t && same_stamp r.0.stamp f.stamp && leb r.0.offset f.offset) (nat_lt f.offset (r.0.offset + r.0.len)) r.2 in
      let p1 = and_parts (same_stamp r.0.edit t && same_stamp r.0.stamp f.stamp) (leb r.0.offset f.offset) p.0 in
      let p2 = and_parts (same_stamp r.0.edit t) (same_stamp r.0.stamp f.stamp) p1.0 in
      record {
        run = r.0;
        one = filter_has (is_run_of t) r.0 x.deletions r.1 p2.0;
        stamp = sym (same_stamp_eq r.0.stamp f.stamp p2.1);
        from = leb-true _ _ p1.1;
        before = ltb-true _ _ p.1;
      }

  -- the fragments with cells of the edit, and those with cells of its runs, are all that it concerns
  pub concerned : few_runs x.deletions ≡ true → (t : Lamport) (ps : List ℕ) → HaveCells fs t 0 (2 ^ 64 - 1) ps → AllByRecursion (λ (r : DeletedRun). HaveRun fs r ps) (filter (is_run_of t) x.deletions) → HaveConcerned fs t ps
  concerned few t ps h k = λ i f e c.
      let z = and_parts (leb f.stamp.value t.value) (list_any (same_stamp t) (f.stamp ∷ f.deletions)) c in
      let fl = filled_at i f e in
      let l = fl.0 in
      let room = fl.1 in
      elim (cases_Bool (same_stamp t f.stamp)) [
        | inl q ↦ h i f.offset f e (sym (same_stamp_eq t f.stamp q)) (omega arith) (omega (arith, room)) (omega arith) (omega (arith, l))
        | inr q ↦ (let d : list_any (same_stamp t) f.deletions ≡ true = ap (λ (b : Bool). b || list_any (same_stamp t) f.deletions) (sym q) ∙ z.1 in
            let r = in_run few t i f e d in
            each_member (λ (y : DeletedRun). HaveRun fs y ps) (filter (is_run_of t) x.deletions) r.run k r.one i f.offset f e r.stamp r.from r.before (omega arith) (omega (arith, l)))
      ]

  -- the fragments of a run's cells, up to the last number that a cell has
  pub run_found : (r : DeletedRun) (last : ℕ) (ps : List ℕ) → last ≡ min (r.offset + (r.len - 1)) (2 ^ 64 - 1) → HaveCells fs r.stamp r.offset last ps → HaveRun fs r ps
  run_found r last ps e h = λ i k f a b m n u v. h i k f a b m (let z = (filled_at i f a).1 in omega (arith, e, m, n, v, z)) u v

-- ---- more places

-- one more item of which something is true
pub each_more : {A : Type 0} (P Q : A → Type 0) → ((x : A) → P x → Q x) → (xs : List A) (i : ℕ) (d : A) → i < length xs → AllByRecursion P (take i xs) → Q (get_or xs i d) → AllByRecursion Q (take (i + 1) xs)
each_more P Q f xs i d l h q = subst (AllByRecursion Q) (sym (take_more xs i d l)) (each_append Q (take i xs) (get_or xs i d ∷ []) (each_map P Q f (take i xs) h) (q, tt))

pub each_taken : {A : Type 0} (P : A → Type 0) (xs : List A) (i : ℕ) → length xs ≤ i → AllByRecursion P (take i xs) → AllByRecursion P xs
each_taken P xs i l h = subst (AllByRecursion P) (take_all i xs l) h

pub all_have : (ps qs rs : List ℕ) → HaveAll ps qs → HaveAll qs rs → HaveAll ps rs
all_have ps qs rs a b = λ i m. b i (a i m)

pub have_pushed : (ps qs : List ℕ) (j : ℕ) → qs ≡ ps ++ j ∷ [] → HaveAll ps qs
have_pushed ps qs j e = λ i m. subst (Member i) (sym e) (member_left i ps (j ∷ []) m)

pub cells_kept : (fs : List Fragment) (s : Lamport) (from last : ℕ) (ps qs : List ℕ) → HaveAll ps qs → HaveCells fs s from last ps → HaveCells fs s from last qs
cells_kept fs s from last ps qs a h = λ i k f e q m n u v. a i (h i k f e q m n u v)

pub run_kept : (fs : List Fragment) (r : DeletedRun) (ps qs : List ℕ) → HaveAll ps qs → HaveRun fs r ps → HaveRun fs r qs
run_kept fs r ps qs a h = λ i k f e q m n u v. a i (h i k f e q m n u v)

pub concerned_kept : (fs : List Fragment) (t : Lamport) (ps qs : List ℕ) → HaveAll ps qs → HaveConcerned fs t ps → HaveConcerned fs t qs
concerned_kept fs t ps qs a h = λ i f e c. a i (h i f e c)
