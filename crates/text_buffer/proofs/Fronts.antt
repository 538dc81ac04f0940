-- Fronts of one history.
use Rattle.std.proofs.Common.{ℕ, ◌≡◌, ◌≤◌, List, [], ◌∷◌, ◌++◌, drop, length, refl, ap, sym, ◌∙◌, arith, length-append, append_assoc, zero, suc, get_or, ◌<◌, ◌+◌, set, subst}
use Rattle.std.proofs.lemmas.List.{append-nil, length-set}
use Rattle.std.specs.List.{AllZip, All}
use Rattle.std.proofs.lemmas.List.Elements.{All-set}
use Rattle.op_model.specs.declared.operation.Operation.{Operation}
use Rattle.op_model.proofs.Elements.{set_below}
use Rattle.text_buffer.specs.Document.{IsFront}

pub front_itself : (xs : List Operation) → IsFront xs xs
front_itself xs = ([], sym (append-nil xs))

pub front_trans : (xs ys zs : List Operation) → IsFront xs ys → IsFront ys zs → IsFront xs zs
front_trans xs ys zs p q = (p.0 ++ q.0, q.1 ∙ (ap (λ (l : List Operation). l ++ q.0) p.1 ∙ append_assoc xs p.0 q.0))

pub front_length : (xs ys : List Operation) → IsFront xs ys → length xs ≤ length ys
front_length xs ys f = omega (arith, ap (λ (l : List Operation). length l) f.1, length-append xs f.0)

-- what comes after a front
pub front-rest : (xs zs : List Operation) → IsFront xs zs → zs ≡ xs ++ drop (length xs) zs
front-rest [] zs p = refl
front-rest (x ∷ xs) [] p = absurd (cc (p.1))
front-rest (x ∷ xs) (z ∷ zs) p = let rest = front-rest xs zs (p.0, cc (p.1)) in cc (p.1, rest)

-- of two fronts of one list, the shorter is a front of the longer
pub front_shorter : (xs ys zs : List Operation) → IsFront xs zs → IsFront ys zs → length xs ≤ length ys → IsFront xs ys
front_shorter [] ys zs p q le = (ys, refl)
front_shorter (x ∷ xs) [] zs p q le = absurd (omega arith)
front_shorter (x ∷ xs) (y ∷ ys) [] p q le = absurd (cc (p.1))
front_shorter (x ∷ xs) (y ∷ ys) (z ∷ zs) p q le =
    let rest = front_shorter xs ys zs (p.0, cc (p.1)) (q.0, cc (q.1)) (omega arith) in (rest.0, cc (p.1, q.1, rest.1))

-- of what a reader knew, as much as was last published begins that
pub bound_holds : (old new told h : List Operation) (n : ℕ) → IsFront old new → IsFront told new → n ≤ length told → IsFront h old → length h ≤ n → IsFront h told
bound_holds old new told h n grows learned most known few = front_shorter h told new (front_trans h old new known grows) learned (omega arith)

-- each list begins the one at its place
pub fronts_at : (xs ys : List (List Operation)) (r : ℕ) → AllZip IsFront xs ys → IsFront (get_or xs r []) (get_or ys r [])
fronts_at [] [] r p = front_itself []
fronts_at [] (y ∷ ys) r p = absurd p
fronts_at (x ∷ xs) [] r p = absurd p
fronts_at (x ∷ xs) (y ∷ ys) zero p = p.0
fronts_at (x ∷ xs) (y ∷ ys) (suc r) p = fronts_at xs ys r p.1

-- a list that the last one begins is replaced by it
pub published_more : (old new : List (List Operation)) (i n : ℕ) (y : List Operation) → new ≡ set old i y → i < n → length old ≡ n → All (λ x. IsFront x y) old → ((j : ℕ) → j < i → get_or old j [] ≡ y)
    → (length new ≡ n) × All (λ x. IsFront x y) new × ((j : ℕ) → j < i + 1 → get_or new j [] ≡ y)
published_more old new i n y is within count grows published =
    let here : i < length old = omega arith in (
      ap (λ (l : List (List Operation)). length l) is ∙ (length-set old i y ∙ count),
      subst (All (λ x. IsFront x y)) (sym is) (All-set (λ x. IsFront x y) old i y (front_itself y) grows),
      λ j below. subst (λ (l : List (List Operation)). get_or l j [] ≡ y) (sym is) (set_below old i y here published j below),
    )

-- where one list grows, each does or stays
pub lists_grow : (ls : List (List Operation)) (i : ℕ) (new : List Operation) → IsFront (get_or ls i []) new → (k : ℕ) → IsFront (get_or ls k []) (get_or (set ls i new) k [])
lists_grow [] i new f k = front_itself []
lists_grow (l ∷ ls) zero new f zero = f
lists_grow (l ∷ ls) zero new f (suc k) = front_itself (get_or ls k [])
lists_grow (l ∷ ls) (suc i) new f zero = front_itself l
lists_grow (l ∷ ls) (suc i) new f (suc k) = lists_grow ls i new f k
