-- One more count is kept.
use Rattle.std.proofs.Common.{◌≡◌, ℕ, suc, ◌≤◌, max, Bool, true, false, cond, ◌&&◌, List, [], ◌∷◌, length, get_or, refl, sym, ap, ◌∙◌, inl, inr, ◌⊎◌, Option, None, Some, arith, ◌+◌, subst}
use Rattle.std.proofs.lemmas.Bool.{cases_Bool}
use Rattle.std.proofs.lemmas.Cmp.{alike_right}
use Rattle.std.proofs.lemmas.Map.Lookups.{CmpEqualImpliesEq, exact_pairs}
use Rattle.std.specs.List.{find}
use Rattle.std.specs.Ordering.{is_eq}
use Rattle.std.specs.declared.cmp.Ordering.TheVariants.{Less, Equal}
use Rattle.sum_tree.specs.Keyed.{item_of_key, insert_item}
use Rattle.sum_tree.proofs.Keys.{inserted_short, ascending_rest}
use Rattle.undo_map.specs.declared.entry.UndoKey.{UndoKey}
use Rattle.undo_map.specs.declared.entry.UndoEntry.{UndoEntry}
use Rattle.undo_map.specs.Counts.{key_of, key_cmp, greatest, IsAscending, count_at_key, with_count, counts_for}
use Rattle.lamport_clock.specs.declared.stamp.Lamport.{Lamport}
use Rattle.lamport_clock.specs.Stamps.{same_stamp, stamp_cmp}
use Rattle.lamport_clock.specs.Versions.{Entries, sees}
use Rattle.lamport_clock.proofs.Order.{exact_stamps, is_equal}
use Rattle.undo_map.proofs.Greatest.{OfKeys, adds, greatest-with_count}
use Rattle.undo_map.specs.Keys.{key_order}
use Rattle.undo_map.proofs.Early.{none_counts}

-- the count of an entry, 0 where there is none
abbrev pub count_in : Option UndoEntry → ℕ
count_in None = 0
count_in (Some e) = e.count

apart : (k : UndoKey) (e f : UndoEntry) → key_cmp (key_of e) (key_of f) ≡ Less → is_eq (key_cmp (key_of e) k) ≡ true → is_eq (key_cmp (key_of f) k) ≡ false
apart k e f l q = go (cases_Bool (is_eq (key_cmp (key_of f) k)))
  where
    go : (is_eq (key_cmp (key_of f) k) ≡ true) ⊎ (is_eq (key_cmp (key_of f) k) ≡ false) → is_eq (key_cmp (key_of f) k) ≡ false
    go (inr n) = n
    go (inl y) = let same : key_cmp (key_of e) (key_of f) ≡ Equal = alike_right key_order (key_of f) k (key_of e) (is_equal _ y) ∙ is_equal _ q in let bad : Less ≡ Equal = sym l ∙ same in cc

pub count_held : (w : List UndoEntry) (k : UndoKey) → IsAscending w → count_at_key k w ≡ count_in (item_of_key key_cmp key_of k w)
count_held [] k a = refl
count_held (e ∷ w) k a =
    let p : UndoEntry → Bool = λ f. is_eq (key_cmp (key_of f) k) in
    elim (p e) as (λ b. p e ≡ b → cond b (max e.count (greatest p w)) (greatest p w) ≡ count_in (cond b (Some e) (find p w))) [
      | true ↦ λ q. let none : greatest p w ≡ 0 = none_counts p w (λ i d l. apart k e (get_or w i d) (a 0 (suc i) d (omega arith) (omega arith)) q) in omega arith
      | false ↦ λ q. count_held w k (ascending_rest key_cmp key_of e w a)
    ] refl

-- the entry that is put in
pub set_in : (e : UndoEntry) (w u : List UndoEntry) (h x : ℕ) → w ≡ u → h ≡ count_at_key (key_of e) w → x ≡ max e.count h → insert_item key_cmp key_of (record e { count = x }) w ≡ with_count e u
set_in e w u h x v q r = ap (λ (y : ℕ). insert_item key_cmp key_of (record e { count = y }) w) (r ∙ ap (max e.count) q) ∙ ap (with_count e) v

exact_keys : CmpEqualImpliesEq key_cmp
exact_keys k l h = ap (λ (p : Lamport × Lamport). record { edit = p.0; by = p.1 }) (exact_pairs stamp_cmp stamp_cmp exact_stamps exact_stamps (k.edit, k.by) (l.edit, l.by) h)

-- what is counted for an edit depends on the keys alone
of_keys : (t : Lamport) (at : Option Entries) → OfKeys (counts_for t at)
of_keys t at e f h = go at (exact_keys (key_of e) (key_of f) (is_equal _ h))
  where
    go : (at : Option Entries) → key_of e ≡ key_of f → counts_for t at e ≡ counts_for t at f
    go None k = ap (λ (l : UndoKey). same_stamp l.edit t) k
    go (Some v) k = ap (λ (l : UndoKey). same_stamp l.edit t && sees v l.by) k

pub counts_set : (e : UndoEntry) (w n : List UndoEntry) (t : Lamport) (at : Option Entries) → n ≡ with_count e w → greatest (counts_for t at) n ≡ max (greatest (counts_for t at) w) (adds (counts_for t at) e)
counts_set e w n t at q = ap (greatest (counts_for t at)) q ∙ greatest-with_count (counts_for t at) e w (of_keys t at)

-- ---- how many there are

pub with_count_long : (e : UndoEntry) (w : List UndoEntry) → length (with_count e w) ≤ length w + 1
with_count_long e w = inserted_short key_cmp key_of key_order (record e { count = max e.count (count_at_key (key_of e) w) }) w

pub grown : (e : UndoEntry) (w n : List UndoEntry) → n ≡ with_count e w → length n ≤ length w + 1
grown e w n q = subst (λ z. length z ≤ length w + 1) (sym q) (with_count_long e w)
