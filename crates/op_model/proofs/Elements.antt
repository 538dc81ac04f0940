-- General facts that std lacks: what holds of each element of a list and of its parts, numbers one after another, what
-- stands in a list, tests of lists, and facts of Booleans and of tests of numbers.
use Rattle.std.proofs.Common.{refl, ◌≡◌, ◌∙◌, sym, ap, ◌⊎◌, inl, inr, ◌&&◌, ◌||◌, ℕ, zero, suc, ◌+◌, ◌<◌, ◌≤◌, eqb, arith, take, drop, Bool, true, false, List, [], ◌∷◌, ◌++◌, Some, cond, ◌-◌, subst, length, None, replicate, ◌==◌, get_or, ⊎_elim, map, set}
use Rattle.std.specs.Prelude.{not, slice_get, slice_range}
use Rattle.std.specs.List.{All, AllByRecursion, AllPairs, AllZip, filter, list_any, range_with_len, slice_index_or, find}
use Rattle.std.proofs.Math.Bool.{or-true}
use Rattle.std.proofs.lemmas.Bool.{cases_Bool, ne_eqb, cases_lt}
use Rattle.std.proofs.lemmas.Bool.Decides.{nat_tests}
use Rattle.std.proofs.lemmas.List.Elements.{All-head, All-tail}
use Rattle.std.proofs.lemmas.List.{drop_all, drop_more, get_or-map, get_or_default}
use Rattle.op_model.specs.Sorted.{Member, EachPair}
use Rattle.op_model.specs.declared.operation.Operation.{Operation}

pub each_left : {A : Type 0} (P : A → Type 0) (xs ys : List A) → AllByRecursion P (xs ++ ys) → AllByRecursion P xs
each_left P [] ys e = tt
each_left P (x ∷ xs) ys e = (e.0, each_left P xs ys e.1)

pub each_right : {A : Type 0} (P : A → Type 0) (xs ys : List A) → AllByRecursion P (xs ++ ys) → AllByRecursion P ys
each_right P [] ys e = e
each_right P (x ∷ xs) ys e = each_right P xs ys e.1

-- what holds of each holds of a member
pub each_member : {A : Type 0} (P : A → Type 0) (s : List A) (x : A) → AllByRecursion P s → Member x s → P x
each_member P [] x e m = absurd m
each_member P (y ∷ s) x e m = elim m [ inl i ↦ subst P (sym i) e.0 | inr n ↦ each_member P s x e.1 n ]

pub each_append : {A : Type 0} (P : A → Type 0) (xs ys : List A) → AllByRecursion P xs → AllByRecursion P ys → AllByRecursion P (xs ++ ys)
each_append P [] ys e f = f
each_append P (x ∷ xs) ys e f = (e.0, each_append P xs ys e.1 f)

pub each_take : {A : Type 0} (P : A → Type 0) (n : ℕ) (s : List A) → AllByRecursion P s → AllByRecursion P (take n s)
each_take P zero s e = tt
each_take P (suc n) [] e = tt
each_take P (suc n) (x ∷ s) e = (e.0, each_take P n s e.1)

pub each_drop : {A : Type 0} (P : A → Type 0) (n : ℕ) (s : List A) → AllByRecursion P s → AllByRecursion P (drop n s)
each_drop P zero s e = e
each_drop P (suc n) [] e = tt
each_drop P (suc n) (x ∷ s) e = each_drop P n s e.1

pub each_filter : {A : Type 0} (P : A → Type 0) (p : A → Bool) (s : List A) → AllByRecursion P s → AllByRecursion P (filter p s)
each_filter P p [] e = tt
each_filter P p (x ∷ s) e = elim (p x) as (λ b. AllByRecursion P (cond b (x ∷ filter p s) (filter p s)))
    [ true ↦ (e.0, each_filter P p s e.1) | false ↦ each_filter P p s e.1 ]

pub each_last : {A : Type 0} (P : A → Type 0) (xs : List A) (x : A) → AllByRecursion P (xs ++ x ∷ []) → P x
each_last P [] x e = e.0
each_last P (y ∷ xs) x e = each_last P xs x e.1

pub each_map : {A : Type 0} (P Q : A → Type 0) → ((x : A) → P x → Q x) → (s : List A) → AllByRecursion P s → AllByRecursion Q s
each_map P Q f [] e = tt
each_map P Q f (x ∷ s) e = (f x e.0, each_map P Q f s e.1)

pub each_both : {A : Type 0} (P Q R : A → Type 0) → ((x : A) → P x → Q x → R x) → (s : List A) → AllByRecursion P s → AllByRecursion Q s → AllByRecursion R s
each_both P Q R f [] a b = tt
each_both P Q R f (x ∷ s) a b = (f x a.0 b.0, each_both P Q R f s a.1 b.1)

-- each element is related to itself
pub zip_itself : {A : Type 0} (R : A → A → Type 0) → ((x : A) → R x x) → (xs : List A) → AllZip R xs xs
zip_itself R r [] = tt
zip_itself R r (x ∷ xs) = (r x, zip_itself R r xs)

pub All-single : {A : Type 0} (P : A → Type 0) (x : A) → P x → All P (x ∷ [])
All-single P x h zero d below = h
All-single P x h (suc k) d below = absurd (omega arith)

pub AllPairs-nil : {A : Type 0} (R : A → A → Type 0) → AllPairs R []
AllPairs-nil R = λ i j d lt within. absurd (omega arith)

pub each_unit : {A : Type 0} (xs : List A) → AllByRecursion (λ (x : A). Unit {0}) xs
each_unit [] = tt
each_unit (x ∷ xs) = (tt, each_unit xs)

-- one number more
pub range_more : (a n : ℕ) → range_with_len a (suc n) ≡ range_with_len a n ++ (a + n) ∷ []
range_more a zero = ap (λ (m : ℕ). m ∷ []) (omega arith)
range_more a (suc n) = ap (λ (l : List ℕ). a ∷ l) (range_more (a + 1) n ∙ ap (λ (m : ℕ). range_with_len (a + 1) n ++ m ∷ []) (omega arith))

-- ---- what stands in a list

-- a member of one of two lists is one of both together, and the other way
pub member_left : {A : Type 0} (x : A) (xs ys : List A) → Member x xs → Member x (xs ++ ys)
member_left x [] ys m = absurd m
member_left x (y ∷ xs) ys (inl e) = inl e
member_left x (y ∷ xs) ys (inr m) = inr (member_left x xs ys m)

pub member_right : {A : Type 0} (x : A) (xs ys : List A) → Member x ys → Member x (xs ++ ys)
member_right x [] ys m = m
member_right x (y ∷ xs) ys m = inr (member_right x xs ys m)

pub member_either : {A : Type 0} (x : A) (xs ys : List A) → Member x (xs ++ ys) → Member x xs ⊎ Member x ys
member_either x [] ys m = inr m
member_either x (y ∷ xs) ys (inl e) = inl (inl e)
member_either x (y ∷ xs) ys (inr m) = elim (member_either x xs ys m) [ inl k ↦ inl (inr k) | inr k ↦ inr k ]

pub filter_has : {A : Type 0} (p : A → Bool) (x : A) (xs : List A) → Member x xs → p x ≡ true → Member x (filter p xs)
filter_has p x [] m e = m
filter_has p x (y ∷ xs) (inl q) e = let k : p y ≡ true = ap p (sym q) ∙ e in rw k (inl q)
filter_has p x (y ∷ xs) (inr m) e = elim (cases_Bool (p y)) [ inl k ↦ rw k (inr (filter_has p x xs m e)) | inr k ↦ rw k (filter_has p x xs m e) ]

pub filter_of : {A : Type 0} (p : A → Bool) (x : A) (xs : List A) → Member x (filter p xs) → Member x xs × (p x ≡ true)
filter_of p x [] m = absurd m
filter_of {A} p x (y ∷ xs) m = go (p y) refl m (filter_of p x xs)
  where
    go : (b : Bool) → p y ≡ b → Member x (cond b (y ∷ filter p xs) (filter p xs)) → (Member x (filter p xs) → Member x xs × (p x ≡ true)) → Member x (y ∷ xs) × (p x ≡ true)
    go true e (inl q) rest = (inl q, ap p q ∙ e)
    go true e (inr n) rest = let k = rest n in (inr k.0, k.1)
    go false e n rest = let k = rest n in (inr k.0, k.1)

pub member_at : {A : Type 0} (xs : List A) (i : ℕ) (x : A) → slice_get xs i ≡ Some x → Member x xs
member_at [] i x e = cc
member_at (y ∷ xs) zero x e = let f : x ≡ y = cc in inl f
member_at (y ∷ xs) (suc i) x e = inr (member_at xs i x e)

-- what stands before a member, and what after it
pub split_at : {A : Type 0} (x : A) (xs : List A) → Member x xs → (ys zs : List A) × (xs ≡ ys ++ x ∷ zs)
split_at x [] m = absurd m
split_at x (y ∷ xs) (inl e) = ([], xs, ap (λ z. z ∷ xs) (sym e))
split_at x (y ∷ xs) (inr m) = let k = split_at x xs m in (y ∷ k.0, k.1, ap (λ z. y ∷ z) k.2)

-- ---- lists that are one

-- lists that are one have one first element, and one rest
pub same_first : {A : Type 0} {x y : A} {xs ys : List A} → x ∷ xs ≡ y ∷ ys → x ≡ y
same_first e = cc

pub same_rest : {A : Type 0} {x y : A} {xs ys : List A} → x ∷ xs ≡ y ∷ ys → xs ≡ ys
same_rest e = cc

-- ---- Booleans

pub or_no : (c b : Bool) → c ≡ false → (c || b) ≡ b
or_no c b e = rw e refl

pub no_more : (b c : Bool) → c ≡ false → (b || c) ≡ b
no_more true c e = refl
no_more false c e = e

-- not both
pub both_false : (x y : Bool) → x ≡ true → y ≡ true → (x && y) ≡ false → ⊥
both_false x y p q n = let z : (true && true) ≡ false = rw (p, q) at n in cc

pub and_swap : (x y z : Bool) → (x && (y && z)) ≡ (y && (x && z))
and_swap true true z = refl
and_swap true false z = refl
and_swap false true z = refl
and_swap false false z = refl

pub and_not : (x y : Bool) → (x ≡ true → y ≡ true) → (x && not y) ≡ false
and_not true y f = let e = f refl in rw e refl
and_not false y f = refl

-- what holds only where a false test holds is false
pub false_from : (x y : Bool) → (x ≡ true → y ≡ true) → y ≡ false → x ≡ false
false_from false y f e = refl
false_from true y f e = let k = f refl in cc

pub neither : (b c : Bool) → ((b && false) || c) ≡ c
neither true c = refl
neither false c = refl

-- ---- tests of numbers

pub eqb_less : (x y : ℕ) → x < y → eqb y x ≡ false
eqb_less x y e = grind (arith, nat_tests)

pub less_than : (x y : ℕ) → x ≤ y → eqb x y ≡ false → x < y
less_than x y a b = grind (arith, nat_tests)

-- ---- tests of lists

-- a test that is true of an element is true of some element
pub any_member : {A : Type 0} (p : A → Bool) (xs : List A) (x : A) → Member x xs → p x ≡ true → list_any p xs ≡ true
any_member p [] x m h = absurd m
any_member p (y ∷ xs) x (inl e) h = let k : p y ≡ true = ap p (sym e) ∙ h in rw k refl
any_member p (y ∷ xs) x (inr m) h = rw (any_member p xs x m h) (or-true (p y))

-- where each element that passes one test passes another: some element passes that, where one passes the first
any_up : {A : Type 0} (p q : A → Bool) → ((x : A) → p x ≡ true → q x ≡ true) → (xs : List A) → list_any p xs ≡ true → list_any q xs ≡ true
any_up p q f [] h = h
any_up p q f (x ∷ xs) h = elim (cases_Bool (p x)) [
  | inl e ↦ rw (f x e) refl
  | inr e ↦ rw (any_up p q f xs (ap (λ (b : Bool). b || list_any p xs) (sym e) ∙ h)) (or-true (q x))
]

-- and none passes the first, where none passes that
pub none_up : {A : Type 0} (p q : A → Bool) → ((x : A) → p x ≡ true → q x ≡ true) → (xs : List A) → list_any q xs ≡ false → list_any p xs ≡ false
none_up p q f xs h = elim (cases_Bool (list_any p xs)) [
  | inl e ↦ (let k = any_up p q f xs e in cc)
  | inr e ↦ e
]

take_nothing : {A : Type 0} (n : ℕ) → (let e : List A = [] in e) ≡ take n []
take_nothing zero = refl
take_nothing (suc n) = refl

-- the first b are the first a and those from a to b
pub take_split : {A : Type 0} (s : List A) (a b : ℕ) → a ≤ b → take b s ≡ take a s ++ slice_range s a b
take_split s zero b h = let e : b ≡ b - 0 = omega arith in ap (λ n. take n s) e
take_split [] (suc a) zero h = absurd (omega arith)
take_split [] (suc a) (suc b) h = take_nothing (suc b - suc a)
take_split (x ∷ s) (suc a) zero h = absurd (omega arith)
take_split (x ∷ s) (suc a) (suc b) h = let e : b - a ≡ suc b - suc a = omega arith in
    ap (λ z. x ∷ z) (take_split s a b (omega arith)) ∙ ap (λ n. x ∷ (take a s ++ take n (drop a s))) e

-- ---- pairs

pub pairs_right : {A : Type 0} (R : A → A → Type 0) (xs ys : List A) → EachPair R (xs ++ ys) → EachPair R ys
pairs_right R [] ys h = h
pairs_right R (x ∷ xs) ys h = pairs_right R xs ys h.1

pub pairs_across : {A : Type 0} (R : A → A → Type 0) (a b : A) (xs ys : List A) → EachPair R (xs ++ ys) → Member a xs → Member b ys → R a b
pairs_across R a b [] ys h m n = absurd m
pairs_across R a b (x ∷ xs) ys h (inl e) n = subst (λ z. R z b) (sym e) (each_member (R x) (xs ++ ys) b h.0 (member_right b xs ys n))
pairs_across R a b (x ∷ xs) ys h (inr m) n = pairs_across R a b xs ys h.1 m n

-- one is put in
pub pairs_in : {A : Type 0} (R : A → A → Type 0) (xs ys : List A) (a : A) → EachPair R (xs ++ ys) → AllByRecursion (λ x. R x a) xs → AllByRecursion (R a) ys → EachPair R (xs ++ a ∷ ys)
pairs_in R [] ys a h k l = (l, h)
pairs_in R (x ∷ xs) ys a h k l = (each_append (R x) xs (a ∷ ys) (each_left (R x) xs ys h.0) (k.0, each_right (R x) xs ys h.0), pairs_in R xs ys a h.1 k.1 l)

-- one is left out
pub pairs_out : {A : Type 0} (R : A → A → Type 0) (xs ys : List A) (a : A) → EachPair R (xs ++ a ∷ ys) → EachPair R (xs ++ ys) × AllByRecursion (λ x. R x a) xs × AllByRecursion (R a) ys
pairs_out R [] ys a h = (h.1, tt, h.0)
pairs_out R (x ∷ xs) ys a h =
    let ih = pairs_out R xs ys a h.1 in
    let r = each_right (R x) xs (a ∷ ys) h.0 in
    ((each_append (R x) xs ys (each_left (R x) xs (a ∷ ys) h.0) r.1, ih.0), (r.0, ih.1), ih.2)

pub length_mid : {A : Type 0} (a b : List A) (x : A) → length (a ++ x ∷ b) ≡ suc (length (a ++ b))
length_mid [] b x = refl
length_mid (y ∷ a) b x = ap suc (length_mid a b x)

pub place_of : {A : Type 0} (x d : A) (xs : List A) → Member x xs → (j : ℕ) × (j < length xs) × (slice_index_or xs j d ≡ x)
place_of x d [] m = absurd m
place_of x d (y ∷ xs) (inl e) = (0, omega arith, sym e)
place_of x d (y ∷ xs) (inr m) = let k = place_of x d xs m in let l = k.1 in (suc k.0, omega arith, k.2)

pub find_filter : (p q : Operation → Bool) (w : List Operation) → find (λ o. p o && q o) w ≡ find q (filter p w)
find_filter p q [] = refl
find_filter p q (o ∷ w) = elim (p o) as (λ b. cond (b && q o) (Some o) (find (λ o. p o && q o) w) ≡ find q (cond b (o ∷ filter p w) (filter p w))) [
  | true ↦ ap (cond (q o) (Some o)) (find_filter p q w)
  | false ↦ find_filter p q w
]

pub find_same : {A : Type 0} (p q : A → Bool) (ts : List A) → ((t : A) → p t ≡ q t) → find p ts ≡ find q ts
find_same p q [] e = refl
find_same p q (t ∷ ts) e = ap (λ (b : Bool). cond b (Some t) (find p ts)) (e t) ∙ ap (cond (q t) (Some t)) (find_same p q ts e)

pub found_past : (t : Operation → Bool) (v w : List Operation) → AllByRecursion (λ (o : Operation). t o ≡ false) v → find t (v ++ w) ≡ find t w
found_past t [] w e = refl
found_past t (o ∷ v) w e = rw e.0 (found_past t v w e.1)

-- ---- lists

-- the n-th that passes, n being the number of those before it that do
pub got_at : {A : Type 0} (p : A → Bool) (xs : List A) (x : A) (ys : List A) → p x ≡ true → slice_get (filter p (xs ++ x ∷ ys)) (length (filter p xs)) ≡ Some x
got_at p [] x ys e = rw e refl
got_at p (y ∷ xs) x ys e = elim (cases_Bool (p y)) [ inl k ↦ rw k (got_at p xs x ys e) | inr k ↦ rw k (got_at p xs x ys e) ]

-- where nothing is read the list has ended
pub none_past : {A : Type 0} (xs : List A) (i : ℕ) → slice_get xs i ≡ None → length xs ≤ i
none_past [] i h = omega arith
none_past (y ∷ xs) zero h = cc
none_past (y ∷ xs) (suc i) h = let l = none_past xs i h in omega arith

pub same_all : {X : Type 0} (xs : List X) (x : X) → All (λ y. y ≡ x) xs → xs ≡ replicate (length xs) x
same_all [] x a = refl
same_all (y ∷ xs) x a = let head = All-head (λ z. z ≡ x) y xs a in let tail = same_all xs x (All-tail (λ z. z ≡ x) y xs a) in cc (head, tail)

pub none_paired : {X Y : Type 0} (R : X → Y → Type 0) (xs : List X) (ys : List Y) → AllZip R xs ys → ys ≡ [] → xs ≡ []
none_paired R [] ys p e = refl
none_paired R (x ∷ xs) [] p e = absurd p
none_paired R (x ∷ xs) (y ∷ ys) p e = absurd (cc e)

-- none goes where no worker is
pub none_go : {X : Type 0} (turn : X → ℕ) (xs : List X) (w : ℕ) → ((x : X) → turn x < w) → filter (λ x. turn x == w) xs ≡ []
none_go turn [] w h = refl
none_go turn (x ∷ xs) w h = let no : (turn x == w) ≡ false = ne_eqb (turn x) w (λ e. absurd (omega (arith, e, h x))) in
    ap (λ (b : Bool). cond b (x ∷ filter (λ y. turn y == w) xs) (filter (λ y. turn y == w) xs)) no ∙ none_go turn xs w h

-- what is left of a list from some place on begins with what stands there
pub drop_at : {X : Type 0} (xs : List X) (k : ℕ) (x : X) (rest : List X) (d : X) → drop k xs ≡ x ∷ rest → (k < length xs) × (get_or xs k d ≡ x) × (drop (k + 1) xs ≡ rest)
drop_at xs k x rest d e = ⊎_elim
    (λ (within : k < length xs). let more = drop_more xs k d within in (within, cc (more, e), cc (more, e)))
    (λ (far : length xs ≤ k). let none = drop_all k xs far in absurd (cc (none, e)))
    (cases_lt k (length xs))

-- what is the same at each place is the same list
pub range_map : {X B : Type 0} (f : ℕ → B) (g : X → B) (xs : List X) (a : ℕ) → ((i : ℕ) (d : X) → i < length xs → g (get_or xs i d) ≡ f (a + i)) → map g xs ≡ map f (range_with_len a (length xs))
range_map f g [] a h = refl
range_map f g (x ∷ xs) a h =
    let head : g x ≡ f a = h 0 x (omega arith) ∙ ap f (omega arith) in
    let tail : map g xs ≡ map f (range_with_len (a + 1) (length xs)) = range_map f g xs (a + 1) (λ i d lt. h (suc i) d (omega (arith, lt)) ∙ ap f (omega arith)) in
    cc (head, tail)

-- where two lists are alike under a map, what stands at one place is
pub same_at : {X Y B : Type 0} (f : X → B) (g : Y → B) (xs : List X) (ys : List Y) (w : ℕ) (x : X) (y : Y) → map f xs ≡ map g ys → w < length xs → length ys ≡ length xs → f (get_or xs w x) ≡ g (get_or ys w y)
same_at f g xs ys w x y same within count =
    sym (get_or-map f xs w x (f x) within) ∙ (ap (λ l. get_or l w (f x)) same ∙ get_or-map g ys w y (f x) (omega (arith, within, count)))

-- what is paired is so at each place
pub paired_at : {X Y : Type 0} (R : X → Y → Type 0) (xs : List X) (ys : List Y) (w : ℕ) (x : X) (y : Y) → AllZip R xs ys → w < length xs → R (get_or xs w x) (get_or ys w y)
paired_at R [] ys w x y p within = absurd (omega arith)
paired_at R (a ∷ xs) [] w x y p within = absurd p
paired_at R (a ∷ xs) (b ∷ ys) zero x y p within = p.0
paired_at R (a ∷ xs) (b ∷ ys) (suc w) x y p within = paired_at R xs ys w x y p.1 (omega arith)

pub all_from_places : {A : Type 0} (xs : List (List A)) (y : List A) → ((j : ℕ) → j < length xs → get_or xs j [] ≡ y) → All (λ x. x ≡ y) xs
all_from_places xs y h k d below = get_or_default xs k d [] below ∙ h k below

pub set_below : {A : Type 0} (xs : List (List A)) (i : ℕ) (y : List A) → i < length xs → ((j : ℕ) → j < i → get_or xs j [] ≡ y) → (j : ℕ) → j < i + 1 → get_or (set xs i y) j [] ≡ y
set_below [] i y within h j below = absurd (omega arith)
set_below (x ∷ xs) zero y within h zero below = refl
set_below (x ∷ xs) zero y within h (suc j) below = absurd (omega arith)
set_below (x ∷ xs) (suc i) y within h zero below = h zero (omega arith)
set_below (x ∷ xs) (suc i) y within h (suc j) below = set_below xs i y (omega arith) (λ k lt. h (suc k) (omega arith)) j (omega arith)
