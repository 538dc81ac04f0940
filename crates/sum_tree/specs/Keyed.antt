-- Lists in ascending order of keys.
use Rattle.std.specs.Prelude.{◌≡◌, ℕ, ◌+◌, ◌-◌, ◌<◌, ◌≤◌, List, ◌∷◌, ◌++◌, length, take, drop, get_or, Option, Some, None, Result, Ok, Err}
use Rattle.std.specs.List.{AllPairs, filter, find}
use Rattle.std.specs.Ordering.{is_lt, is_eq, is_gt}
use Rattle.std.specs.declared.cmp.Ordering.{Ordering}
use Rattle.std.specs.declared.cmp.Ordering.TheVariants.{Less}

-- each item's key is less than those of all later items
abbrev pub Ascending : {T K : Type 0} → (K → K → Ordering) → (T → K) → List T → Type 0
Ascending cmp key xs = AllPairs (λ x y. cmp (key x) (key y) ≡ Less) xs

-- the items whose keys are less than k, and those whose keys are greater
abbrev pub below : {T K : Type 0} → (K → K → Ordering) → (T → K) → K → List T → List T
below cmp key k xs = filter (λ x. is_lt (cmp (key x) k)) xs

abbrev pub above : {T K : Type 0} → (K → K → Ordering) → (T → K) → K → List T → List T
above cmp key k xs = filter (λ x. is_gt (cmp (key x) k)) xs

-- the item whose key is equal to k, if there is one
abbrev pub item_of_key : {T K : Type 0} → (K → K → Ordering) → (T → K) → K → List T → Option T
item_of_key cmp key k xs = find (λ x. is_eq (cmp (key x) k)) xs

-- the list with x inserted by its key, in place of an item with an equal key
abbrev pub insert_item : {T K : Type 0} → (K → K → Ordering) → (T → K) → T → List T → List T
insert_item cmp key x xs = below cmp key (key x) xs ++ x ∷ above cmp key (key x) xs

-- the list without the item whose key is equal to k
abbrev pub remove_key : {T K : Type 0} → (K → K → Ordering) → (T → K) → K → List T → List T
remove_key cmp key k xs = below cmp key k xs ++ above cmp key k xs

-- item i has key k; or no item has, and i is the index where one would be inserted
abbrev pub IsPlace : {T K : Type 0} → (K → K → Ordering) → (T → K) → K → List T → Result ℕ ℕ → Type 0
IsPlace {T} cmp key k xs (Ok i) = (i < length xs) × (take i xs ≡ below cmp key k xs)
    × (drop (i + 1) xs ≡ above cmp key k xs)
    × ((d : T) → item_of_key cmp key k xs ≡ Some (get_or xs i d))
IsPlace cmp key k xs (Err i) = (i ≤ length xs) × (take i xs ≡ below cmp key k xs)
    × (drop i xs ≡ above cmp key k xs) × (item_of_key cmp key k xs ≡ None)

-- if a key is given, it is that of the last item
abbrev pub IsLastKey : {T K : Type 0} → (T → K) → List T → Option K → Type 0
IsLastKey key xs None = Unit {0}
IsLastKey {T} key xs (Some k) = (d : T) → k ≡ key (get_or xs (length xs - 1) d)
