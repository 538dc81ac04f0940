-- An index with one more entry.
use Rattle.std.proofs.Common.{◌≡◌, ℕ, ◌+◌, ◌≤◌, ◌⊎◌, true, List, ◌∷◌, length, refl, sym, ap, ◌∙◌, subst, inl, inr}
use Rattle.std.proofs.lemmas.Cmp.{tied_itself}
use Rattle.std.specs.Ordering.{nat_cmp, ordering_then, is_lt, is_eq, is_gt}
use Rattle.std.specs.declared.cmp.Ordering.{Ordering}
use Rattle.std.specs.declared.cmp.Ordering.TheVariants.{Less, Equal, Greater}
use Rattle.std.specs.List.{filter}
use Rattle.sum_tree.proofs.Keys.{ascending_inserted, inserted_short}
use Rattle.lamport_clock.specs.declared.stamp.Lamport.{Lamport}
use Rattle.lamport_clock.proofs.Order.{is_eq-same}
use Rattle.lamport_clock.specs.Stamps.{stamp_cmp}
use Rattle.lamport_clock.proofs.Later.{same_stamp_eq}
use Rattle.op_model.specs.Sorted.{Member}
use Rattle.op_model.proofs.Elements.{member_left, member_right, member_either, filter_has, filter_of}
use Rattle.fragments.specs.declared.index_entry.IndexKey.{IndexKey}
use Rattle.fragments.specs.declared.index_entry.IndexEntry.{IndexEntry}
use Rattle.fragments.specs.Index.{key_of, key_cmp, key_order, with_entry}
use Rattle.fragments.specs.Laws.{EntryTakesItsPlace}
use Rattle.locators.proofs.Between.{nat_cmp-Equal}

pub then_equal : (a b : Ordering) → ordering_then a b ≡ Equal → (a ≡ Equal) × (b ≡ Equal)
then_equal Less b h = cc
then_equal Equal b h = (refl, h)
then_equal Greater b h = cc

abbrev key : Lamport → ℕ → IndexKey
key s o = record { stamp = s; offset = record { 0 = o } }

pub key_is : (a b : IndexKey) → key_cmp a b ≡ Equal → a ≡ b
key_is a b h =
    let k = then_equal (stamp_cmp a.stamp b.stamp) (nat_cmp b.offset.0 a.offset.0) h in
    let s : a.stamp ≡ b.stamp = same_stamp_eq a.stamp b.stamp (sym (is_eq-same a.stamp b.stamp) ∙ ap is_eq k.0) in
    ap (λ z. key z a.offset.0) s ∙ ap (key b.stamp) (sym (nat_cmp-Equal b.offset.0 a.offset.0 k.1))

abbrev to : IndexEntry → IndexEntry → Ordering
to x e = key_cmp (key_of e) (key_of x)

pub self_equal : (x e : IndexEntry) → key_of e ≡ key_of x → to x e ≡ Equal
self_equal x e q = ap (λ k. key_cmp k (key_of x)) q ∙ tied_itself key_order (key_of x)

more_of : (x e : IndexEntry) (w : List IndexEntry) → Member e (with_entry x w) → (e ≡ x) ⊎ (Member e w × (key_of e ≡ key_of x → ⊥))
more_of x e w m = elim (member_either e (filter (λ z. is_lt (to x z)) w) (x ∷ filter (λ z. is_gt (to x z)) w) m) [
  | inl n ↦ (let k = filter_of (λ z. is_lt (to x z)) e w n in inr (k.0, λ q. let f : is_lt Equal ≡ true = ap is_lt (sym (self_equal x e q)) ∙ k.1 in cc))
  | inr (inl q) ↦ inl q
  | inr (inr n) ↦ (let k = filter_of (λ z. is_gt (to x z)) e w n in inr (k.0, λ q. let f : is_gt Equal ≡ true = ap is_gt (sym (self_equal x e q)) ∙ k.1 in cc))
]

more_has : (x e : IndexEntry) (w : List IndexEntry) → (e ≡ x) ⊎ (Member e w × (key_of e ≡ key_of x → ⊥)) → Member e (with_entry x w)
more_has x e w (inl q) = member_right e (filter (λ z. is_lt (to x z)) w) (x ∷ filter (λ z. is_gt (to x z)) w) (inl q)
more_has x e w (inr h) = go (to x e) refl
  where
    go : (c : Ordering) → to x e ≡ c → Member e (with_entry x w)
    go Less q = member_left e (filter (λ z. is_lt (to x z)) w) (x ∷ filter (λ z. is_gt (to x z)) w) (filter_has (λ z. is_lt (to x z)) e w h.0 (ap is_lt q))
    go Equal q = absurd (h.1 (key_is (key_of e) (key_of x) q))
    go Greater q = member_right e (filter (λ z. is_lt (to x z)) w) (x ∷ filter (λ z. is_gt (to x z)) w) (inr (filter_has (λ z. is_gt (to x z)) e w h.0 (ap is_gt q)))

pub entry_takes_its_place : EntryTakesItsPlace
entry_takes_its_place x w a = (ascending_inserted key_cmp key_of key_order x w a, λ e. (more_of x e w, more_has x e w))

-- ---- the number of entries

pub with_entry_long : (e : IndexEntry) (w : List IndexEntry) → length (with_entry e w) ≤ length w + 1
with_entry_long e w = inserted_short key_cmp key_of key_order e w

pub grown : (e : IndexEntry) (w n : List IndexEntry) → n ≡ with_entry e w → length n ≤ length w + 1
grown e w n q = subst (λ z. length z ≤ length w + 1) (sym q) (with_entry_long e w)
