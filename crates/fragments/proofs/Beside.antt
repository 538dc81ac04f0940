-- Entries put into an index one by one: what is found among them, and how many there are.
use Rattle.std.proofs.Common.{◌≡◌, ℕ, ◌+◌, ◌<◌, ◌≤◌, ◌⊎◌, Bool, true, false, cond, ◌&&◌, List, [], ◌∷◌, ◌++◌, length, eq-eqb, ne_eqb, take, drop, get_or, slice_get, add-one, take-append-drop, ◌^◌, refl, sym, ap, ◌∙◌, subst, inl, inr, Option, None, Some, arith, leb, nat_lt}
use Rattle.std.proofs.Math.Seq.{take-suc}
use Rattle.std.specs.List.{All, filter}
use Rattle.std.proofs.lemmas.Bool.{cases_Bool, cases_lt, and_parts, lt-ltb, le-ltb}
use Rattle.std.specs.Ordering.{nat_cmp, ordering_then, is_lt, is_gt}
use Rattle.std.specs.declared.cmp.Ordering.{Ordering}
use Rattle.std.specs.declared.cmp.Ordering.TheVariants.{Less, Equal, Greater}
use Rattle.sum_tree.proofs.Keys.{ascending_rest, ascending_inserted, filter_yes, filter_no, passed}
use Rattle.lamport_clock.specs.declared.stamp.Lamport.{Lamport}
use Rattle.lamport_clock.specs.Stamps.{same_stamp}
use Rattle.lamport_clock.proofs.Order.{same_both_Equal}
use Rattle.lamport_clock.proofs.Later.{same_stamp_eq, same_stamp_refl}
use Rattle.fragments.specs.declared.index_entry.IndexKey.{IndexKey}
use Rattle.fragments.specs.declared.index_entry.IndexEntry.{IndexEntry}
use Rattle.fragments.specs.Index.{key_of, key_cmp, key_order, IsAscending, with_entry, with_entries, covers, nearest, entry_for, entry_or, starts_at, first_from}
use Rattle.fragments.proofs.Entries.{key_is, self_equal}
use Rattle.fragments.proofs.Searching.{NoneNearer, behind_first, none_nearer, nearest_first, not_below, past_covers, at, front_entry, of_edit}
use Rattle.locators.proofs.Between.{nat_cmp-Less}

-- ---- an entry put before, in the place of, or after the first one

module _ (e x : IndexEntry) (w : List IndexEntry) where
  abbrev lower : List IndexEntry
  lower = filter (λ y. is_lt (key_cmp (key_of y) (key_of e))) w

  abbrev upper : List IndexEntry
  upper = filter (λ y. is_gt (key_cmp (key_of y) (key_of e))) w

  abbrev put_by : Ordering → List IndexEntry
  put_by c = cond (is_lt c) (x ∷ lower) lower ++ e ∷ cond (is_gt c) (x ∷ upper) upper

  put_after : key_cmp (key_of x) (key_of e) ≡ Less → with_entry e (x ∷ w) ≡ x ∷ with_entry e w
  put_after q = ap put_by q

  module _ (a : IsAscending (x ∷ w)) (c : Ordering) (q : key_cmp (key_of x) (key_of e) ≡ c) (n : is_lt c ≡ false) where
    all_greater : All (λ y. key_cmp (key_of y) (key_of e) ≡ Greater) w
    all_greater j d l = passed key_cmp key_of key_order (key_of e) x (get_or w j d) c q n (behind_first x w a j d l)

    none_lower : lower ≡ []
    none_lower = filter_no (λ y. is_lt (key_cmp (key_of y) (key_of e))) w (λ j d l. ap is_lt (all_greater j d l))

    all_upper : upper ≡ w
    all_upper = filter_yes (λ y. is_gt (key_cmp (key_of y) (key_of e))) w (λ j d l. ap is_gt (all_greater j d l))

  put_in_place : IsAscending (x ∷ w) → key_cmp (key_of x) (key_of e) ≡ Equal → with_entry e (x ∷ w) ≡ e ∷ w
  put_in_place a q = ap put_by q ∙ ap (λ (u : List IndexEntry). u ++ e ∷ upper) (none_lower a Equal q refl) ∙ ap (λ (u : List IndexEntry). e ∷ u) (all_upper a Equal q refl)

  put_before : IsAscending (x ∷ w) → key_cmp (key_of x) (key_of e) ≡ Greater → with_entry e (x ∷ w) ≡ e ∷ x ∷ w
  put_before a q = ap put_by q ∙ ap (λ (u : List IndexEntry). u ++ e ∷ x ∷ upper) (none_lower a Greater q refl) ∙ ap (λ (u : List IndexEntry). e ∷ x ∷ u) (all_upper a Greater q refl)

-- ---- what is found

-- the entry with the greater offset, whichever is asked first
further : (x e : IndexEntry) (r : Option IndexEntry) → e.offset < x.offset → nearest x (Some (nearest e r)) ≡ nearest e (Some (nearest x r))
further x e None l = rw (not_below x.offset e.offset l, lt-ltb e.offset x.offset l) refl
further x e (Some f) l = go (cases_lt e.offset f.offset)
  where
    -- an entry that is further than e
    past : (z : IndexEntry) → e.offset < z.offset → nearest e (Some z) ≡ z
    past z m = rw (lt-ltb e.offset z.offset m) refl

    both : (b : Bool) → e.offset < f.offset → e.offset < (cond b f x).offset
    both true m = m
    both false m = l

    go : (e.offset < f.offset) ⊎ (f.offset ≤ e.offset) → nearest x (Some (nearest e (Some f))) ≡ nearest e (Some (nearest x (Some f)))
    go (inl m) = ap (λ (z : IndexEntry). nearest x (Some z)) (past f m) ∙ sym (past (nearest x (Some f)) (both (nat_lt x.offset f.offset) m))
    go (inr m) =
        let at_e : nearest e (Some f) ≡ e = rw (le-ltb e.offset f.offset m) refl in
        let at_x : nearest x (Some f) ≡ x = rw (not_below x.offset f.offset (omega (arith, m, l))) refl in
        ap (λ (z : IndexEntry). nearest x (Some z)) at_e ∙ rw (not_below x.offset e.offset l) refl ∙ sym (ap (λ (z : IndexEntry). nearest e (Some z)) at_x ∙ past x l)

-- an entry before another one: it does not matter which is asked first
swapped : (t : Lamport) (o : ℕ) (x e : IndexEntry) (r : Option IndexEntry) → key_cmp (key_of x) (key_of e) ≡ Less → entry_or t o x (entry_or t o e r) ≡ entry_or t o e (entry_or t o x r)
swapped t o x e r l = go (cases_Bool (covers t o x)) (cases_Bool (covers t o e))
  where
    go : (covers t o x ≡ true) ⊎ (covers t o x ≡ false) → (covers t o e ≡ true) ⊎ (covers t o e ≡ false) → entry_or t o x (entry_or t o e r) ≡ entry_or t o e (entry_or t o x r)
    go (inr a) b = rw a refl
    go (inl a) (inr b) = rw (a, b) refl
    go (inl a) (inl b) =
        let i = and_parts (same_stamp x.stamp t) (leb x.offset o) a in
        let k = and_parts (same_stamp e.stamp t) (leb e.offset o) b in
        let c : key_cmp (key_of x) (key_of e) ≡ nat_cmp e.offset x.offset = ap (λ (z : Ordering). ordering_then z (nat_cmp e.offset x.offset)) (same_both_Equal x.stamp t e.stamp i.0 k.0) in
        rw (a, b) (ap (λ (z : IndexEntry). Some z) (further x e r (nat_cmp-Less e.offset x.offset (sym c ∙ l))))

-- an entry in the place of one with its key
replaced : (t : Lamport) (o : ℕ) (x e : IndexEntry) (w : List IndexEntry) → IsAscending (x ∷ w) → key_of x ≡ key_of e → entry_or t o e (entry_for t o w) ≡ entry_or t o e (entry_or t o x (entry_for t o w))
replaced t o x e w a k = go (cases_Bool (covers t o e))
  where
    same : covers t o x ≡ covers t o e
    same = ap (λ (z : IndexKey). same_stamp z.stamp t && leb z.offset.0 o) k

    offset : x.offset ≡ e.offset
    offset = ap (λ (z : IndexKey). z.offset.0) k

    none : (r : Option IndexEntry) → NoneNearer x r → NoneNearer e r
    none None n = n
    none (Some y) n = subst (λ (i : ℕ). nat_lt i y.offset ≡ false) offset n

    go : (covers t o e ≡ true) ⊎ (covers t o e ≡ false) → entry_or t o e (entry_for t o w) ≡ entry_or t o e (entry_or t o x (entry_for t o w))
    go (inr b) = rw (same ∙ b, b) refl
    go (inl b) =
        let i = and_parts (same_stamp x.stamp t) (leb x.offset o) (same ∙ b) in
        let n = none_nearer t o x w i.0 (behind_first x w a) in
        let at_e = nearest_first e (entry_for t o w) (none (entry_for t o w) n) in
        let at_x = nearest_first x (entry_for t o w) n in
        let over : nearest e (Some x) ≡ e = rw (le-ltb e.offset x.offset (omega (arith, offset))) refl in
        rw (same ∙ b, b) (ap (λ (z : IndexEntry). Some z) (at_e ∙ sym (ap (λ (z : IndexEntry). nearest e (Some z)) at_x ∙ over)))

pub entry_put : (t : Lamport) (o : ℕ) (e : IndexEntry) (w : List IndexEntry) → IsAscending w → entry_for t o (with_entry e w) ≡ entry_or t o e (entry_for t o w)
entry_put t o e [] a = refl
entry_put t o e (x ∷ w) a = go (key_cmp (key_of x) (key_of e)) refl (entry_put t o e w (ascending_rest key_cmp key_of x w a))
  where
    go : (c : Ordering) → key_cmp (key_of x) (key_of e) ≡ c → entry_for t o (with_entry e w) ≡ entry_or t o e (entry_for t o w) → entry_for t o (with_entry e (x ∷ w)) ≡ entry_or t o e (entry_for t o (x ∷ w))
    go Less q h = ap (entry_for t o) (put_after e x w q) ∙ ap (entry_or t o x) h ∙ swapped t o x e (entry_for t o w) q
    go Equal q h = ap (entry_for t o) (put_in_place e x w a q) ∙ replaced t o x e w a (key_is (key_of x) (key_of e) q)
    go Greater q h = ap (entry_for t o) (put_before e x w a q)

-- ---- how many there are

-- how many there are more with an entry: none if one begins where it does
abbrev pub new_one : Bool → ℕ
new_one b = cond b 0 1

starts_with : (e x : IndexEntry) (w : List IndexEntry) → IsAscending (x ∷ w) → is_lt (key_cmp (key_of x) (key_of e)) ≡ false → entry_for e.stamp e.offset (x ∷ w) ≡ cond (same_stamp x.stamp e.stamp) (Some x) None
starts_with e x w a n =
    let first : first_from (key_of e) (x ∷ w) ≡ Some x = rw n refl in
    sym (front_entry e.stamp e.offset (x ∷ w) a) ∙ ap (of_edit e.stamp) first

abbrev count : IndexEntry → Option IndexEntry → ℕ
count e o = new_one (starts_at e.offset o)

pub entry_long : (e : IndexEntry) (w : List IndexEntry) → IsAscending w → length (with_entry e w) ≡ length w + new_one (starts_at e.offset (entry_for e.stamp e.offset w))
entry_long e [] a = refl
entry_long e (x ∷ w) a = go (key_cmp (key_of x) (key_of e)) refl (entry_long e w (ascending_rest key_cmp key_of x w a))
  where
    -- the first entry begins at the cell of e only if their keys are the same
    apart : key_cmp (key_of x) (key_of e) ≡ Greater → starts_at e.offset (cond (same_stamp x.stamp e.stamp) (Some x) None) ≡ false
    apart q = elim (cases_Bool (same_stamp x.stamp e.stamp)) [
      | inr s ↦ rw s refl
      | inl s ↦ rw s (ne_eqb x.offset e.offset (λ j.
          let k : key_of x ≡ key_of e = ap (λ (t : Lamport). at t x.offset) (same_stamp_eq x.stamp e.stamp s) ∙ ap (at e.stamp) j in
          let r = sym (self_equal e x k) ∙ q in cc))
    ]

    go : (c : Ordering) → key_cmp (key_of x) (key_of e) ≡ c → length (with_entry e w) ≡ length w + count e (entry_for e.stamp e.offset w) → length (with_entry e (x ∷ w)) ≡ length (x ∷ w) + count e (entry_for e.stamp e.offset (x ∷ w))
    go Less q h =
        let past : entry_for e.stamp e.offset (x ∷ w) ≡ entry_for e.stamp e.offset w = rw (past_covers e.stamp e.offset x (ap is_lt q)) refl in
        omega (arith, ap length (put_after e x w q), h, ap (count e) past)
    go Equal q h =
        let k = key_is (key_of x) (key_of e) q in
        let s : same_stamp x.stamp e.stamp ≡ true = ap (λ (z : IndexKey). same_stamp z.stamp e.stamp) k ∙ same_stamp_refl e.stamp in
        let b : starts_at e.offset (Some x) ≡ true = eq-eqb x.offset e.offset (ap (λ (z : IndexKey). z.offset.0) k) in
        let c : count e (entry_for e.stamp e.offset (x ∷ w)) ≡ 0 = ap (count e) (starts_with e x w a (ap is_lt q) ∙ ap (λ (z : Bool). cond z (Some x) None) s) ∙ ap new_one b in
        omega (arith, ap length (put_in_place e x w a q), c)
    go Greater q h =
        let c : count e (entry_for e.stamp e.offset (x ∷ w)) ≡ 1 = ap (count e) (starts_with e x w a (ap is_lt q)) ∙ ap new_one (apart q) in
        omega (arith, ap length (put_before e x w a q), c)

-- an index does not shrink
pub no_fewer : (e : IndexEntry) (w : List IndexEntry) → IsAscending w → length w ≤ length (with_entry e w)
no_fewer e w a = omega (arith, entry_long e w a)

-- ---- several entries

pub with_last : (es : List IndexEntry) (e : IndexEntry) (w : List IndexEntry) → with_entries (es ++ e ∷ []) w ≡ with_entry e (with_entries es w)
with_last [] e w = refl
with_last (x ∷ es) e w = with_last es e (with_entry x w)

pub all_ascending : (es w : List IndexEntry) → IsAscending w → IsAscending (with_entries es w)
all_ascending [] w a = a
all_ascending (e ∷ es) w a = all_ascending es (with_entry e w) (ascending_inserted key_cmp key_of key_order e w a)

pub all_no_fewer : (es w : List IndexEntry) → IsAscending w → length w ≤ length (with_entries es w)
all_no_fewer [] w a = omega arith
all_no_fewer (e ∷ es) w a = omega (arith, no_fewer e w a, all_no_fewer es (with_entry e w) (ascending_inserted key_cmp key_of key_order e w a))

pub with_both : (es gs w : List IndexEntry) → with_entries (es ++ gs) w ≡ with_entries gs (with_entries es w)
with_both [] gs w = refl
with_both (e ∷ es) gs w = with_both es gs (with_entry e w)

-- there are no fewer with all entries put in than with the first n
pub part_short : (n : ℕ) (es w : List IndexEntry) → IsAscending w → length (with_entries (take n es) w) ≤ length (with_entries es w)
part_short n es w a =
    subst (λ (us : List IndexEntry). length (with_entries (take n es) w) ≤ length (with_entries us w)) (take-append-drop n es)
    (subst (λ (us : List IndexEntry). length (with_entries (take n es) w) ≤ length us) (sym (with_both (take n es) (drop n es) w)) (all_no_fewer (drop n es) (with_entries (take n es) w) (all_ascending (take n es) w a)))

-- the first entry fits
pub first_short : (es w : List IndexEntry) (e : IndexEntry) → IsAscending w → slice_get es 0 ≡ Some e → length (with_entries es w) ≤ 2 ^ 40 → length (with_entry e w) ≤ 2 ^ 40
first_short [] w e a q l = cc
first_short (x ∷ es) w e a q l =
    let i : x ≡ e = cc in
    let s : length (with_entry x w) ≤ 2 ^ 40 = omega (arith, all_no_fewer es (with_entry x w) (ascending_inserted key_cmp key_of key_order x w a), l) in
    subst (λ (z : IndexEntry). length (with_entry z w) ≤ 2 ^ 40) i s

-- the first n + 1 entries put in
next : (es w : List IndexEntry) (n : ℕ) (x : IndexEntry) → x ≡ get_or es n x → n < length es → with_entries (take (n + 1) es) w ≡ with_entry x (with_entries (take n es) w)
next es w n x q l =
    ap (λ (k : ℕ). with_entries (take k es) w) (add-one n)
    ∙ ap (λ (us : List IndexEntry). with_entries us w) (take-suc es n x l)
    ∙ with_last (take n es) (get_or es n x) w
    ∙ ap (λ (z : IndexEntry). with_entry z (with_entries (take n es) w)) (sym q)

pub found_next : (t : Lamport) (o : ℕ) (es w : List IndexEntry) → IsAscending w → (n : ℕ) (x : IndexEntry) → x ≡ get_or es n x → n < length es
    → entry_for t o (with_entries (take (n + 1) es) w) ≡ entry_or t o x (entry_for t o (with_entries (take n es) w))
found_next t o es w a n x q l = ap (entry_for t o) (next es w n x q l) ∙ entry_put t o x (with_entries (take n es) w) (all_ascending (take n es) w a)

pub count_next : (es w : List IndexEntry) (n : ℕ) (x : IndexEntry) → x ≡ get_or es n x → n < length es → length (with_entries (take (n + 1) es) w) ≡ length (with_entry x (with_entries (take n es) w))
count_next es w n x q l = ap length (next es w n x q l)
