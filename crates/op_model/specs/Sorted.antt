-- Lists in an order, and what holds of each element.
use Rattle.std.specs.Prelude.{◌≡◌, ◌⊎◌, Bool, true, List, [], ◌∷◌, if◌then◌else◌, ⊤}
use Rattle.std.specs.List.{AllByRecursion}

-- x put before the first y that does not stand before it
abbrev pub insert_by : {A : Type 0} → (A → A → Bool) → A → List A → List A
insert_by first x [] = x ∷ []
insert_by first x (y ∷ s) = if first y x then y ∷ insert_by first x s else x ∷ y ∷ s

abbrev pub insert_all : {A : Type 0} → (A → A → Bool) → List A → List A → List A
insert_all first [] s = s
insert_all first (x ∷ xs) s = insert_by first x (insert_all first xs s)

-- x is one of the list
abbrev pub Member : {A : Type 0} → A → List A → Type 0
Member x [] = ⊥
Member x (y ∷ s) = (x ≡ y) ⊎ Member x s

-- R of each element and each later one
abbrev pub EachPair : {A : Type 0} → (A → A → Type 0) → List A → Type 0
EachPair R [] = ⊤
EachPair R (x ∷ s) = AllByRecursion (R x) s × EachPair R s

-- each element stands before all that follow
abbrev pub Ascending : {A : Type 0} → (A → A → Bool) → List A → Type 0
Ascending first s = EachPair (λ x y. first x y ≡ true) s
