-- Insertion in an order: in which turn elements are put in does not matter.
use Rattle.std.proofs.Common.{◌≡◌, ◌⊎◌, Bool, List, [], ◌∷◌, refl, sym, ◌∙◌, ap, inl, inr, true, false, cond}
use Rattle.std.proofs.lemmas.Bool.{cases_Bool}
use Rattle.std.specs.List.{AllByRecursion, filter}
use Rattle.op_model.specs.Sorted.{insert_by, insert_all, Ascending, Member}
use Rattle.op_model.proofs.Elements.{each_map, each_filter}

-- the two first orders of x and y before r
pair_comm : {A : Type 0} (x y : A) (r : List A) (a b : Bool) → (a ≡ false → b ≡ true) → (a ≡ true → b ≡ true → x ≡ y)
    → cond a (y ∷ x ∷ r) (x ∷ y ∷ r) ≡ cond b (x ∷ y ∷ r) (y ∷ x ∷ r)
pair_comm x y r true true t e = let h : x ≡ y = e refl refl in cc
pair_comm x y r true false t e = refl
pair_comm x y r false true t e = refl
pair_comm x y r false false t e = let h : false ≡ true = t refl in cc

pub insert_past : {A : Type 0} (le : A → A → Bool) (x y : A) (s : List A) → le y x ≡ true → insert_by le x (y ∷ s) ≡ y ∷ insert_by le x s
insert_past le x y s h = rw h

pub insert_here : {A : Type 0} (le : A → A → Bool) (x y : A) (s : List A) → le y x ≡ false → insert_by le x (y ∷ s) ≡ x ∷ y ∷ s
insert_here le x y s h = rw h

module _ {A : Type 0} (le : A → A → Bool)
    (trans : (x y z : A) → le x y ≡ true → le y z ≡ true → le x z ≡ true)
    (total : (x y : A) → le x y ≡ false → le y x ≡ true) where
  step_one : (x y z : A) (s : List A) → le z x ≡ true → le z y ≡ false
      → insert_by le x (insert_by le y (z ∷ s)) ≡ insert_by le y (insert_by le x (z ∷ s))
  step_one x y z s p q =
      let yx : le y x ≡ true = trans y z x (total z y q) p in
      ap (insert_by le x) (insert_here le y z s q) ∙ insert_past le x y (z ∷ s) yx ∙ ap (λ r. y ∷ r) (insert_past le x z s p)
      ∙ sym (ap (insert_by le y) (insert_past le x z s p) ∙ insert_here le y z (insert_by le x s) q)

  step_comm : (x y z : A) (s : List A) → (le x y ≡ true → le y x ≡ true → x ≡ y)
      → insert_by le x (insert_by le y s) ≡ insert_by le y (insert_by le x s)
      → (a b : Bool) → le z x ≡ a → le z y ≡ b
      → insert_by le x (insert_by le y (z ∷ s)) ≡ insert_by le y (insert_by le x (z ∷ s))
  step_comm x y z s e ih true true p q =
      ap (insert_by le x) (insert_past le y z s q) ∙ insert_past le x z (insert_by le y s) p ∙ ap (λ r. z ∷ r) ih
      ∙ sym (ap (insert_by le y) (insert_past le x z s p) ∙ insert_past le y z (insert_by le x s) q)
  step_comm x y z s e ih true false p q = step_one x y z s p q
  step_comm x y z s e ih false true p q = sym (step_one y x z s q p)
  step_comm x y z s e ih false false p q =
      ap (insert_by le x) (insert_here le y z s q)
      ∙ ap (λ r. cond (le y x) (y ∷ r) (x ∷ y ∷ z ∷ s)) (insert_here le x z s p)
      ∙ pair_comm x y (z ∷ s) (le y x) (le x y) (total y x) (λ yx xy. e xy yx)
      ∙ sym (ap (insert_by le y) (insert_here le x z s p) ∙ ap (λ r. cond (le x y) (x ∷ r) (y ∷ x ∷ z ∷ s)) (insert_here le y z s q))

  pub insert_comm : (x y : A) (s : List A) → (le x y ≡ true → le y x ≡ true → x ≡ y)
      → insert_by le x (insert_by le y s) ≡ insert_by le y (insert_by le x s)
  insert_comm x y [] e = pair_comm x y [] (le y x) (le x y) (total y x) (λ yx xy. e xy yx)
  insert_comm x y (z ∷ s) e = step_comm x y z s e (insert_comm x y s e) (le z x) (le z y) refl refl

  module _ (anti : (x y : A) → le x y ≡ true → le y x ≡ true → x ≡ y) where
    pub insert_all_one : (x : A) (xs s : List A) → insert_all le xs (insert_by le x s) ≡ insert_by le x (insert_all le xs s)
    insert_all_one x [] s = refl
    insert_all_one x (y ∷ xs) s = ap (insert_by le y) (insert_all_one x xs s) ∙ insert_comm y x (insert_all le xs s) (anti y x)

    pub insert_all_comm : (xs ys s : List A) → insert_all le xs (insert_all le ys s) ≡ insert_all le ys (insert_all le xs s)
    insert_all_comm xs [] s = refl
    insert_all_comm xs (y ∷ ys) s = insert_all_one y xs (insert_all le ys s) ∙ ap (insert_by le y) (insert_all_comm xs ys s)

pub each_insert : {A : Type 0} (P : A → Type 0) (le : A → A → Bool) (x : A) (s : List A) → P x → AllByRecursion P s → AllByRecursion P (insert_by le x s)
each_insert P le x [] h e = (h, tt)
each_insert P le x (y ∷ s) h e = elim (le y x) as (λ b. AllByRecursion P (cond b (y ∷ insert_by le x s) (x ∷ y ∷ s)))
    [ true ↦ (e.0, each_insert P le x s h e.1) | false ↦ (h, e) ]

pub each_insert_all : {A : Type 0} (P : A → Type 0) (le : A → A → Bool) (xs s : List A) → AllByRecursion P xs → AllByRecursion P s → AllByRecursion P (insert_all le xs s)
each_insert_all P le [] s h e = e
each_insert_all P le (x ∷ xs) s h e = each_insert P le x (insert_all le xs s) h.0 (each_insert_all P le xs s h.1 e)

module _ {A : Type 0} (le : A → A → Bool)
    (trans : (x y z : A) → le x y ≡ true → le y z ≡ true → le x z ≡ true)
    (total : (x y : A) → le x y ≡ false → le y x ≡ true) where
  pub insert_up : (x : A) (s : List A) → Ascending le s → Ascending le (insert_by le x s)
  insert_up x [] u = (tt, tt)
  insert_up x (y ∷ s) u = elim (cases_Bool (le y x)) [
    | inl h ↦ rw (insert_past le x y s h) (each_insert (λ z. le y z ≡ true) le x s h u.0, insert_up x s u.1)
    | inr h ↦ (let xy : le x y ≡ true = total y x h in
        rw (insert_here le x y s h) ((xy, each_map (λ z. le y z ≡ true) (λ z. le x z ≡ true) (λ z yz. trans x y z xy yz) s u.0), (u.0, u.1)))
  ]

  pub insert_all_up : (xs s : List A) → Ascending le s → Ascending le (insert_all le xs s)
  insert_all_up [] s u = u
  insert_all_up (x ∷ xs) s u = insert_up x (insert_all le xs s) (insert_all_up xs s u)

  insert_front : (x : A) (s : List A) → AllByRecursion (λ z. le z x ≡ false) s → insert_by le x s ≡ x ∷ s
  insert_front x [] e = refl
  insert_front x (y ∷ s) e = insert_here le x y s e.0

  not_before : (x y z : A) → le y x ≡ false → le y z ≡ true → le z x ≡ false
  not_before x y z h g = elim (cases_Bool (le z x))
      [ inl t ↦ (let k : le y x ≡ true = trans y z x g t in cc) | inr f ↦ f ]

  pub filter_insert : (keep : A → Bool) (x : A) (s : List A) → Ascending le s → keep x ≡ true
      → filter keep (insert_by le x s) ≡ insert_by le x (filter keep s)
  filter_insert keep x [] u k = rw k
  filter_insert keep x (y ∷ s) u k = go (cases_Bool (le y x)) (cases_Bool (keep y)) (filter_insert keep x s u.1 k)
    where
      go : (le y x ≡ true) ⊎ (le y x ≡ false) → (keep y ≡ true) ⊎ (keep y ≡ false)
          → filter keep (insert_by le x s) ≡ insert_by le x (filter keep s)
          → filter keep (insert_by le x (y ∷ s)) ≡ insert_by le x (filter keep (y ∷ s))
      go (inl h) (inl g) ih = rw (insert_past le x y s h, g) (ap (λ r. y ∷ r) ih ∙ sym (insert_past le x y (filter keep s) h))
      go (inl h) (inr g) ih = rw (insert_past le x y s h, g) ih
      go (inr h) (inl g) ih = rw (insert_here le x y s h, k, g) (sym (insert_here le x y (filter keep s) h))
      go (inr h) (inr g) ih = rw (insert_here le x y s h, k, g) (sym (insert_front x (filter keep s)
          (each_filter (λ z. le z x ≡ false) keep s (each_map (λ z. le y z ≡ true) (λ z. le z x ≡ false) (λ z yz. not_before x y z h yz) s u.0))))

  pub filter_insert_none : (keep : A → Bool) (x : A) (s : List A) → keep x ≡ false
      → filter keep (insert_by le x s) ≡ filter keep s
  filter_insert_none keep x [] k = rw k
  filter_insert_none keep x (y ∷ s) k = elim (cases_Bool (le y x)) [
    | inl h ↦ rw (insert_past le x y s h) (ap (λ r. cond (keep y) (y ∷ r) r) (filter_insert_none keep x s k))
    | inr h ↦ rw (insert_here le x y s h, k)
  ]

  pub filter_all : (keep : A → Bool) (xs s : List A) → Ascending le s → AllByRecursion (λ x. keep x ≡ true) xs
      → filter keep (insert_all le xs s) ≡ insert_all le xs (filter keep s)
  filter_all keep [] s u e = refl
  filter_all keep (x ∷ xs) s u e =
      filter_insert keep x (insert_all le xs s) (insert_all_up xs s u) e.0 ∙ ap (insert_by le x) (filter_all keep xs s u e.1)

  pub filter_all_none : (keep : A → Bool) (xs s : List A) → AllByRecursion (λ x. keep x ≡ false) xs
      → filter keep (insert_all le xs s) ≡ filter keep s
  filter_all_none keep [] s e = refl
  filter_all_none keep (x ∷ xs) s e =
      filter_insert_none keep x (insert_all le xs s) e.0 ∙ filter_all_none keep xs s e.1

pub member_one : {A : Type 0} (le : A → A → Bool) (x : A) (s : List A) → Member x (insert_by le x s)
member_one le x [] = inl refl
member_one le x (y ∷ s) = elim (le y x) as (λ b. Member x (cond b (y ∷ insert_by le x s) (x ∷ y ∷ s))) [ true ↦ inr (member_one le x s) | false ↦ inl refl ]

pub member_past : {A : Type 0} (le : A → A → Bool) (z x : A) (s : List A) → Member z s → Member z (insert_by le x s)
member_past le z x [] m = absurd m
member_past le z x (y ∷ s) m = elim (le y x) as (λ b. Member z (cond b (y ∷ insert_by le x s) (x ∷ y ∷ s)))
    [ true ↦ elim m [ inl e ↦ inl e | inr n ↦ inr (member_past le z x s n) ] | false ↦ inr m ]

pub member_old : {A : Type 0} (le : A → A → Bool) (z : A) (xs s : List A) → Member z s → Member z (insert_all le xs s)
member_old le z [] s m = m
member_old le z (x ∷ xs) s m = member_past le z x (insert_all le xs s) (member_old le z xs s m)

pub member_new : {A : Type 0} (le : A → A → Bool) (xs s : List A) → AllByRecursion (λ x. Member x (insert_all le xs s)) xs
member_new le [] s = tt
member_new le (x ∷ xs) s = (
  member_one le x (insert_all le xs s),
  each_map (λ y. Member y (insert_all le xs s)) (λ y. Member y (insert_by le x (insert_all le xs s))) (λ y m. member_past le y x (insert_all le xs s) m) xs (member_new le xs s),
)
