-- Operations at the indices of their stamps.
use Rattle.std.proofs.Common.{◌≡◌, ℕ, zero, suc, ◌+◌, ◌<◌, ◌≤◌, ◌^◌, ◌⊎◌, Bool, true, false, cond, List, [], ◌∷◌, ◌++◌, length, length-append, get_or, refl, sym, ◌∙◌, ap, subst, inl, inr, arith, Option, Some, None}
use Rattle.std.specs.List.{filter, find, slice_get}
use Rattle.std.specs.Option.{option_or}
use Rattle.std.specs.Ordering.{is_lt, is_eq, is_gt}
use Rattle.std.specs.declared.cmp.Ordering.{Ordering}
use Rattle.std.specs.declared.cmp.Ordering.TheVariants.{Less, Equal, Greater}
use Rattle.std.proofs.lemmas.Bool.{cases_Bool, cases_lt}
use Rattle.std.proofs.lemmas.Option.{slice_get_within, get_or_from_slice_get, slice_get-get_or}
use Rattle.std.proofs.lemmas.List.{get_or_append_left, get_or-append-add}
use Rattle.std.proofs.lemmas.List.Folds.{find-append}
use Rattle.sum_tree.specs.Keyed.{Ascending, below, above, insert_item}
use Rattle.lamport_clock.specs.declared.stamp.Lamport.{Lamport}
use Rattle.sum_tree.proofs.Keys.{inserted_short, option_or_none}
use Rattle.lamport_clock.specs.Stamps.{same_stamp, stamp_cmp, stamp_order}
use Rattle.lamport_clock.proofs.Order.{is_eq-same, stamp_cmp-refl}
use Rattle.lamport_clock.proofs.Later.{same_stamp_eq, same_stamp_refl}
use Rattle.op_model.specs.declared.operation.Operation.{Operation}
use Rattle.op_model.specs.Operations.{stamp_of}
use Rattle.op_model.specs.Histories.{History, operation_at}
use Rattle.applied_ops.specs.declared.stamp_entry.StampEntry.{StampEntry}
use Rattle.applied_ops.specs.Placed.{stamp_at, entry_at, AreEntriesOf}

abbrev has : Lamport → Operation → Bool
has t o = same_stamp (stamp_of o) t

-- ---- where the operation of a stamp stands

record StandsAt (h : History) (t : Lamport) : Type 0 where
  pub op : Operation
  pub index : ℕ
  pub is : operation_at h t ≡ Some op
  pub stamp : stamp_of op ≡ t
  pub within : index < length h
  pub at : (d : Operation) → get_or h index d ≡ op

stands : (h : History) (t : Lamport) → StandsAt h t ⊎ (operation_at h t ≡ None)
stands [] t = inr refl
stands (o ∷ h) t = go (cases_Bool (has t o)) (stands h t)
  where
    go : (has t o ≡ true) ⊎ (has t o ≡ false) → StandsAt h t ⊎ (operation_at h t ≡ None) → StandsAt (o ∷ h) t ⊎ (operation_at (o ∷ h) t ≡ None)
    go (inl e) r = inl (record { op = o; index = 0; is = ap (λ (b : Bool). cond b (Some o) (operation_at h t)) e; stamp = same_stamp_eq (stamp_of o) t e; within = omega arith; at = λ d. refl })
    go (inr e) (inl f) = let l = f.within in inl (record { op = f.op; index = suc f.index; is = ap (λ (b : Bool). cond b (Some o) (operation_at h t)) e ∙ f.is; stamp = f.stamp; within = omega arith; at = f.at })
    go (inr e) (inr n) = inr (ap (λ (b : Bool). cond b (Some o) (operation_at h t)) e ∙ n)

-- where no operation has the stamp, none that stands anywhere has
other_stamp : (h : History) (t : Lamport) (i : ℕ) (d : Operation) → operation_at h t ≡ None → i < length h → has t (get_or h i d) ≡ false
other_stamp [] t i d n l = absurd (omega arith)
other_stamp (o ∷ h) t i d n l = go i (has t o) refl n l (other_stamp h t)
  where
    go : (i : ℕ) (b : Bool) → has t o ≡ b → cond b (Some o) (operation_at h t) ≡ None → i < suc (length h)
        → ((i : ℕ) (d : Operation) → operation_at h t ≡ None → i < length h → has t (get_or h i d) ≡ false) → has t (get_or (o ∷ h) i d) ≡ false
    go i true e n l f = cc
    go zero false e n l f = e
    go (suc i) false e n l f = f i d n (omega arith)

-- ---- what entries tell

module _ (ps : List StampEntry) (h : History) (t : Lamport) (k : AreEntriesOf ps h) where
  led : (f : StandsAt h t) → entry_at ps t ≡ Some (record { stamp = t; index = f.index })
  led f = subst (λ (s : Lamport). entry_at ps s ≡ Some (record { stamp = s; index = f.index })) (ap stamp_of (f.at f.op) ∙ f.stamp) (k.1 f.index f.op f.within)

  pub unplaced : None ≡ entry_at ps t → operation_at h t ≡ None
  unplaced e = elim (stands h t) [
    | inl f ↦ let q = e ∙ led f in cc
    | inr n ↦ n
  ]

  module _ (p : StampEntry) (e : Some p ≡ entry_at ps t) where
    index_is : (f : StandsAt h t) → p.index ≡ f.index
    index_is f = let q : Some p ≡ Some (record { stamp = t; index = f.index }) = e ∙ led f in let r : p ≡ record { stamp = t; index = f.index } = cc in ap (λ (x : StampEntry). x.index) r

    pub past : None ≡ slice_get h p.index → operation_at h t ≡ None
    past n = elim (stands h t) [
      | inl f ↦ let some = slice_get-get_or h f.index f.op f.within in let q = n ∙ ap (slice_get h) (index_is f) ∙ some in cc
      | inr m ↦ m
    ]

    module _ (o : Operation) (g : Some o ≡ slice_get h p.index) where
      op_is : (f : StandsAt h t) → o ≡ f.op
      op_is f = sym (get_or_from_slice_get h p.index o f.op (sym g)) ∙ ap (λ (i : ℕ). get_or h i f.op) (index_is f) ∙ f.at f.op

      pub found : has t o ≡ true → Some o ≡ operation_at h t
      found s = elim (stands h t) [
        | inl f ↦ ap Some (op_is f) ∙ sym f.is
        | inr n ↦
            let other = other_stamp h t p.index o n (slice_get_within h p.index o (sym g)) in
            let q = sym s ∙ ap (has t) (sym (get_or_from_slice_get h p.index o o (sym g))) ∙ other in
            cc
      ]

      pub another : has t o ≡ false → operation_at h t ≡ None
      another s = elim (stands h t) [
        | inl f ↦ let q = sym (same_stamp_refl t) ∙ ap (λ (u : Lamport). same_stamp u t) (sym f.stamp) ∙ ap (has t) (sym (op_is f)) ∙ s in cc
        | inr n ↦ n
      ]

-- ---- one place more

module _ {X : Type 0} (q f : X → Bool) (b : Bool) (w : (x : X) → q x ≡ true → f x ≡ b) where
  -- a filter that does not tell apart what a search finds
  find_filter : (xs : List X) → find q (filter f xs) ≡ cond b (find q xs) None
  find_filter [] = elim b as (λ (c : Bool). ◌≡◌ {A = Option X} None (cond c None None)) [ true ↦ refl | false ↦ refl ]
  find_filter (x ∷ xs) = go (cases_Bool (q x)) (find_filter xs)
    where
      go : (q x ≡ true) ⊎ (q x ≡ false) → find q (filter f xs) ≡ cond b (find q xs) None → find q (filter f (x ∷ xs)) ≡ cond b (find q (x ∷ xs)) None
      go (inl e) r = rw (w x e, e) (kept b r)
        where
          kept : (c : Bool) → find q (filter f xs) ≡ cond c (find q xs) None → find q (cond c (x ∷ filter f xs) (filter f xs)) ≡ cond c (Some x) None
          kept true r = rw e refl
          kept false r = r
      go (inr e) r = rw e (skipped (f x) ∙ r)
        where
          skipped : (c : Bool) → find q (cond c (x ∷ filter f xs) (filter f xs)) ≡ find q (filter f xs)
          skipped true = rw e refl
          skipped false = refl

abbrev is_at : Lamport → StampEntry → Bool
is_at t p = is_eq (stamp_cmp p.stamp t)

at_stamp : (t : Lamport) (p : StampEntry) → is_at t p ≡ true → p.stamp ≡ t
at_stamp t p e = same_stamp_eq p.stamp t (sym (is_eq-same p.stamp t) ∙ e)

module _ (p : StampEntry) (ps : List StampEntry) where
  low_found : (t : Lamport) → entry_at (below stamp_cmp stamp_at p.stamp ps) t ≡ cond (is_lt (stamp_cmp t p.stamp)) (entry_at ps t) None
  low_found t = find_filter (is_at t) (λ x. is_lt (stamp_cmp x.stamp p.stamp)) (is_lt (stamp_cmp t p.stamp)) (λ x e. ap (λ (s : Lamport). is_lt (stamp_cmp s p.stamp)) (at_stamp t x e)) ps

  high_found : (t : Lamport) → entry_at (above stamp_cmp stamp_at p.stamp ps) t ≡ cond (is_gt (stamp_cmp t p.stamp)) (entry_at ps t) None
  high_found t = find_filter (is_at t) (λ x. is_gt (stamp_cmp x.stamp p.stamp)) (is_gt (stamp_cmp t p.stamp)) (λ x e. ap (λ (s : Lamport). is_gt (stamp_cmp s p.stamp)) (at_stamp t x e)) ps

  -- its stamp leads to it
  pub put_at : entry_at (insert_item stamp_cmp stamp_at p ps) p.stamp ≡ Some p
  put_at = find-append (is_at p.stamp) (below stamp_cmp stamp_at p.stamp ps) (p ∷ above stamp_cmp stamp_at p.stamp ps)
      ∙ ap (λ (o : Option StampEntry). option_or o (entry_at (p ∷ above stamp_cmp stamp_at p.stamp ps) p.stamp)) (low_found p.stamp ∙ ap (λ (o : Ordering). cond (is_lt o) (entry_at ps p.stamp) None) (stamp_cmp-refl p.stamp))
      ∙ ap (λ (o : Ordering). cond (is_eq o) (Some p) (entry_at (above stamp_cmp stamp_at p.stamp ps) p.stamp)) (stamp_cmp-refl p.stamp)

  -- all others lead where they led
  pub put_beside : (t : Lamport) → (p.stamp ≡ t → ⊥) → entry_at (insert_item stamp_cmp stamp_at p ps) t ≡ entry_at ps t
  put_beside t n =
      find-append (is_at t) (below stamp_cmp stamp_at p.stamp ps) (p ∷ above stamp_cmp stamp_at p.stamp ps)
      ∙ ap (λ (o : Option StampEntry). option_or o (entry_at (p ∷ above stamp_cmp stamp_at p.stamp ps) t)) (low_found t)
      ∙ ap (λ (o : Option StampEntry). option_or (cond (is_lt (stamp_cmp t p.stamp)) (entry_at ps t) None) o) (passed (cases_Bool (is_at t p)) ∙ high_found t)
      ∙ one (stamp_cmp t p.stamp) refl
    where
      passed : (is_at t p ≡ true) ⊎ (is_at t p ≡ false) → entry_at (p ∷ above stamp_cmp stamp_at p.stamp ps) t ≡ entry_at (above stamp_cmp stamp_at p.stamp ps) t
      passed (inl e) = absurd (n (at_stamp t p e))
      passed (inr e) = rw e refl

      one : (o : Ordering) → stamp_cmp t p.stamp ≡ o → option_or (cond (is_lt o) (entry_at ps t) None) (cond (is_gt o) (entry_at ps t) None) ≡ entry_at ps t
      one Less e = option_or_none (entry_at ps t)
      one Equal e = absurd (n (sym (same_stamp_eq t p.stamp (sym (is_eq-same t p.stamp) ∙ ap is_eq e))))
      one Greater e = refl

abbrev Leads : List StampEntry → ℕ → Operation → Type 0
Leads ps i o = entry_at ps (stamp_of o) ≡ Some (record { stamp = stamp_of o; index = i })

pub none_placed : (ps : List StampEntry) (h : History) → ps ≡ [] → h ≡ [] → AreEntriesOf ps h
none_placed ps h e g = rw (e, g) ((λ i j d l m. absurd (omega arith)), λ i d l. absurd (omega arith))

module _ (ps new : List StampEntry) (h : History) (p : StampEntry) (k : AreEntriesOf ps h) (n : operation_at h p.stamp ≡ None) (a : Ascending stamp_cmp stamp_at new) (e : new ≡ insert_item stamp_cmp stamp_at p ps) where
  -- a further place changes nothing
  pub kept : AreEntriesOf new h
  kept = (a, λ i d l. ap (λ (qs : List StampEntry). entry_at qs (stamp_of (get_or h i d))) e ∙ put_beside p ps (stamp_of (get_or h i d)) (λ s. apart i d l s) ∙ k.1 i d l)
    where
      apart : (i : ℕ) (d : Operation) → i < length h → p.stamp ≡ stamp_of (get_or h i d) → ⊥
      apart i d l s = let q = sym (same_stamp_refl p.stamp) ∙ ap (λ (u : Lamport). same_stamp u p.stamp) s ∙ other_stamp h p.stamp i d n l in cc

  -- and leads to a further operation
  pub placed : (x : Operation) → p.stamp ≡ stamp_of x → p.index ≡ length h → AreEntriesOf new (h ++ x ∷ [])
  placed x s j = (a, λ i d l. at i d l)
    where
      last : Leads new (length h) x
      last = ap (λ (qs : List StampEntry). entry_at qs (stamp_of x)) e ∙ ap (entry_at (insert_item stamp_cmp stamp_at p ps)) (sym s) ∙ put_at p ps
          ∙ ap Some (λ i. record { stamp = s i; index = j i })

      at : (i : ℕ) (d : Operation) → i < length (h ++ x ∷ []) → Leads new i (get_or (h ++ x ∷ []) i d)
      at i d l = go (cases_lt i (length h))
        where
          go : (i < length h) ⊎ (length h ≤ i) → Leads new i (get_or (h ++ x ∷ []) i d)
          go (inl m) = subst (Leads new i) (sym (get_or_append_left h (x ∷ []) d i m)) (kept.1 i d m)
          go (inr m) =
              let long = length-append h (x ∷ []) in
              let q : length h + 0 ≡ i = omega arith in
              let here : get_or (h ++ x ∷ []) i d ≡ x = ap (λ (k : ℕ). get_or (h ++ x ∷ []) k d) (sym q) ∙ get_or-append-add h (x ∷ []) 0 d in
              let r : length h ≡ i = omega arith in
              subst (Leads new i) (sym here) (subst (λ (k : ℕ). Leads new k x) r last)

-- ---- how many there are

pub inserted_long : (p : StampEntry) (ps : List StampEntry) → length ps < 2 ^ 40 → length (insert_item stamp_cmp stamp_at p ps) ≤ 2 ^ 40
inserted_long p ps l = omega (arith, inserted_short stamp_cmp stamp_at stamp_order p ps, l)

pub pushed_long : (h : History) (x : Operation) → length h < 2 ^ 40 → length (h ++ x ∷ []) ≤ 2 ^ 40
pushed_long h x l = let long = length-append h (x ∷ []) in omega arith
