-- The index of fragments, entry by entry.
use Rattle.std.proofs.Common.{ℕ, [], ◌≡◌, Bool, true, false, cond, ltb, List, ◌∷◌, Option, Some, None, sym, inl, inr, refl, map, ◌⊎◌, ◌↔◌, ◌++◌, ap, suc, ◌≤◌, length, ◌∙◌, arith, subst}
use Rattle.std.proofs.lemmas.Bool.{cases_Bool}
use Rattle.std.specs.Option.{option_map}
use Rattle.std.specs.List.{slice_index_or, AllByRecursion}
use Rattle.std.specs.declared.cmp.Ordering.TheVariants.{Less}
use Rattle.std.proofs.lemmas.Cmp.{tied_itself}
use Rattle.std.proofs.lemmas.List.{length-map}
use Rattle.op_model.specs.Sorted.{Member, EachPair}
use Rattle.op_model.proofs.Elements.{member_left, member_right, member_either, split_at, length_mid, each_member, place_of}
use Rattle.fragments.specs.declared.index_entry.IndexEntry.{IndexEntry}
use Rattle.fragments.specs.Index.{nearest, covers, entry_for, IsAscending, key_of, with_entry, key_cmp, key_order}
use Rattle.fragments.specs.declared.fragment.Fragment.{Fragment}
use Rattle.fragments.specs.Stand.{entry_of, IsIndexOf}
use Rattle.fragments.proofs.Entries.{entry_takes_its_place}
use Rattle.lamport_clock.specs.declared.stamp.Lamport.{Lamport}
use Rattle.sum_tree.proofs.Keys.{ascending_rest}

-- ---- entries

pub member_more : (y e : IndexEntry) (w : List IndexEntry) (r : Option IndexEntry) → ((x : IndexEntry) → r ≡ Some x → Member x w) → Some (nearest y r) ≡ Some e → Member e (y ∷ w)
member_more y e w None f q = let i : y ≡ e = cc in inl (sym i)
member_more y e w (Some z) f q = go (ltb y.offset z.offset) q
  where
    go : (b : Bool) → Some (cond b z y) ≡ Some e → Member e (y ∷ w)
    go true i = inr (f e i)
    go false i = let j : y ≡ e = cc in inl (sym j)

pub entry_member : (t : Lamport) (o : ℕ) (w : List IndexEntry) (e : IndexEntry) → entry_for t o w ≡ Some e → Member e w
entry_member t o [] e q = absurd (cc)
entry_member t o (y ∷ w) e q = elim (cases_Bool (covers t o y)) [
  | inl c ↦ member_more y e w (entry_for t o w) (λ x i. entry_member t o w x i) (rw c at q)
  | inr c ↦ inr (entry_member t o w e (rw c at q))
]

pub id_entry : (i : List ℕ) (r : Option IndexEntry) → option_map (λ (e : IndexEntry). e.id) r ≡ Some i → (e : IndexEntry) × (r ≡ Some e) × (e.id ≡ i)
id_entry i None q = absurd (cc)
id_entry i (Some e) q = (e, refl, cc)

pub mid_entry : (e : IndexEntry) (pre r : List Fragment) (a : Fragment) → Member e (map entry_of (pre ++ a ∷ r)) ↔ ((e ≡ entry_of a) ⊎ Member e (map entry_of (pre ++ r)))
mid_entry e [] r a = (λ m. m, λ m. m)
mid_entry e (x ∷ pre) r a = go (mid_entry e pre r a)
  where
    go : Member e (map entry_of (pre ++ a ∷ r)) ↔ ((e ≡ entry_of a) ⊎ Member e (map entry_of (pre ++ r))) → Member e (map entry_of (x ∷ pre ++ a ∷ r)) ↔ ((e ≡ entry_of a) ⊎ Member e (map entry_of (x ∷ pre ++ r)))
    go ih = (to, from)
      where
        to : (e ≡ entry_of x) ⊎ Member e (map entry_of (pre ++ a ∷ r)) → (e ≡ entry_of a) ⊎ ((e ≡ entry_of x) ⊎ Member e (map entry_of (pre ++ r)))
        to (inl q) = inr (inl q)
        to (inr m) = elim (ih.0 m) [ inl q ↦ inl q | inr n ↦ inr (inr n) ]

        from : (e ≡ entry_of a) ⊎ ((e ≡ entry_of x) ⊎ Member e (map entry_of (pre ++ r))) → (e ≡ entry_of x) ⊎ Member e (map entry_of (pre ++ a ∷ r))
        from (inl q) = inr (ih.1 (inl q))
        from (inr (inl q)) = inl q
        from (inr (inr n)) = inr (ih.1 (inr n))

-- the entries of an index with one more
pub with_one_more : (e : IndexEntry) (a : Fragment) (w : List IndexEntry) → IsAscending w
    → Member e (with_entry (entry_of a) w) ↔ ((e ≡ entry_of a) ⊎ (Member e w × (key_of e ≡ key_of (entry_of a) → ⊥)))
with_one_more e a w s = (entry_takes_its_place (entry_of a) w s).1 e

-- a fragment replaced by one with the same entry
pub same_entries : (pre r : List Fragment) (f g : Fragment) → entry_of g ≡ entry_of f → map entry_of (pre ++ g ∷ r) ≡ map entry_of (pre ++ f ∷ r)
same_entries [] r f g e = ap (λ z. z ∷ map entry_of r) e
same_entries (x ∷ pre) r f g e = ap (λ z. entry_of x ∷ z) (same_entries pre r f g e)

-- ---- no more entries than fragments

abbrev Differ : {A : Type 0} → A → A → Type 0
Differ a b = a ≡ b → ⊥

left_member : {A : Type 0} (x z : A) (a b : List A) → Member z (a ++ x ∷ b) → Differ x z → Member z (a ++ b)
left_member x z a b m d = elim (member_either z a (x ∷ b) m) [
  | inl k ↦ member_left z a b k
  | inr (inl e) ↦ absurd (d (sym e))
  | inr (inr k) ↦ member_right z a b k
]

within : {A : Type 0} (xs ys : List A) → EachPair Differ xs → ((z : A) → Member z xs → Member z ys) → length xs ≤ length ys
within [] ys d m = omega arith
within (x ∷ xs) ys d m =
    let k = split_at x ys (m x (inl refl)) in
    let ih = within xs (k.0 ++ k.1) d.1 (λ z n. left_member x z k.0 k.1 (subst (Member z) k.2 (m z (inr n))) (each_member (Differ x) xs z d.0 n)) in
    let e : length ys ≡ suc (length (k.0 ++ k.1)) = ap length k.2 ∙ length_mid k.0 k.1 x in
    omega arith

ascending_first : (e z : IndexEntry) (w : List IndexEntry) → IsAscending (e ∷ w) → Member z w → Differ e z
ascending_first e z w h m q =
    let k = place_of z e w m in
    let l = k.1 in
    let less : key_cmp (key_of e) (key_of (slice_index_or w k.0 e)) ≡ Less = h 0 (suc k.0) e (omega arith) (omega arith) in
    let same : key_cmp (key_of e) (key_of e) ≡ Less = ap (λ (y : IndexEntry). key_cmp (key_of e) (key_of y)) (q ∙ sym k.2) ∙ less in
    let tied = tied_itself key_order (key_of e) in cc

ascending_differ : (w : List IndexEntry) → IsAscending w → EachPair Differ w
ascending_differ [] h = tt
ascending_differ (e ∷ w) h = (all w (λ z m. ascending_first e z w h m), ascending_differ w (ascending_rest key_cmp key_of e w h))
  where
    all : (s : List IndexEntry) → ((z : IndexEntry) → Member z s → Differ e z) → AllByRecursion (Differ e) s
    all [] f = tt
    all (x ∷ s) f = (f x (inl refl), all s (λ z m. f z (inr m)))

pub few_entries : (fs : List Fragment) (w : List IndexEntry) → IsAscending w → IsIndexOf fs w → length w ≤ length fs
few_entries fs w a i = let k = within w (map entry_of fs) (ascending_differ w a) (λ z m. (i z).0 m) in let l = length-map fs entry_of in omega arith

pub none_ascending : IsAscending []
none_ascending = λ i j d l m. absurd (omega arith)
