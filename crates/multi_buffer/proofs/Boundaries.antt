-- Boundaries of characters in texts that are joined and cut.
use Rattle.std.proofs.Common.{◌≡◌, ℕ, zero, suc, ◌+◌, ◌-◌, ◌≤◌, ◌<◌, ◌||◌, ◌&&◌, Bool, true, false, leb, ltb, List, [], ◌∷◌, ◌++◌, length, take, drop, refl, sym, ap, ◌∙◌, arith}
use Rattle.std.specs.Prelude.{slice_index, slice_range}
use Rattle.std.proofs.lemmas.Bool.{leb-true, le-leb, lt-leb}
use Rattle.op_model.specs.Edits.{is_boundary}

same_test : (a b : Bool) → (a ≡ true → b ≡ true) → (b ≡ true → a ≡ true) → a ≡ b
same_test true b f g = sym (f refl)
same_test false true f g = g refl
same_test false false f g = refl

leb_suc : (i n : ℕ) → leb (suc i) (suc n) ≡ leb i n
leb_suc i n = same_test (leb (suc i) (suc n)) (leb i n) (λ e. (let h = leb-true (suc i) (suc n) e in le-leb i n (omega arith))) (λ e. (let h = leb-true i n e in le-leb (suc i) (suc n) (omega arith)))

-- a character begins with byte b
abbrev pub begins : ℕ → Bool
begins b = ltb b 128 || leb 192 b

within : (p q r : Bool) → p ≡ true → q ≡ false → (p && (q || r)) ≡ r
within p q r e f = rw (e, f) refl

at_end : (p q r : Bool) → p ≡ true → q ≡ true → (p && (q || r)) ≡ true
at_end p q r e f = rw (e, f) refl

boundary_zero : (b : ℕ) (bs : List ℕ) → is_boundary (b ∷ bs) 0 ≡ begins b
boundary_zero b bs = within (leb 0 (length (b ∷ bs))) (leb (length (b ∷ bs)) 0) (begins b) (le-leb 0 (length (b ∷ bs)) (omega arith)) (lt-leb (length (b ∷ bs)) 0 (omega arith))

boundary_suc : (b i : ℕ) (bs : List ℕ) → is_boundary (b ∷ bs) (suc i) ≡ is_boundary bs i
boundary_suc b i bs =
    let t : Bool = begins (slice_index bs i) in
    ap (λ (x : Bool). x && (leb (suc (length bs)) (suc i) || t)) (leb_suc i (length bs)) ∙ ap (λ (x : Bool). leb i (length bs) && (x || t)) (leb_suc (length bs) i)

pub boundary_end : (bs : List ℕ) → is_boundary bs (length bs) ≡ true
boundary_end bs = at_end (leb (length bs) (length bs)) (leb (length bs) (length bs)) (begins (slice_index bs (length bs))) (le-leb (length bs) (length bs) (omega arith)) (le-leb (length bs) (length bs) (omega arith))

pub boundary_within : (bs : List ℕ) (i : ℕ) → is_boundary bs i ≡ true → i ≤ length bs
boundary_within bs i e = leb-true i (length bs) (and_left (leb i (length bs)) (leb (length bs) i || begins (slice_index bs i)) e)
  where
    and_left : (a b : Bool) → (a && b) ≡ true → a ≡ true
    and_left true b f = refl
    and_left false b f = f

-- up to a byte that begins a character the boundaries are those of the front
pub front_boundary : (t : List ℕ) (b : ℕ) (r : List ℕ) (k : ℕ) → begins b ≡ true → k ≤ length t → is_boundary (t ++ b ∷ r) k ≡ is_boundary t k
front_boundary [] b r zero c l = boundary_zero b r ∙ c ∙ sym (boundary_end [])
front_boundary [] b r (suc k) c l = absurd (omega arith)
front_boundary (x ∷ t) b r zero c l = boundary_zero x (t ++ b ∷ r) ∙ sym (boundary_zero x t)
front_boundary (x ∷ t) b r (suc k) c l = boundary_suc x k (t ++ b ∷ r) ∙ front_boundary t b r k c (omega arith) ∙ sym (boundary_suc x k t)

-- after it they are those of the rest
pub rest_boundary : (t : List ℕ) (b : ℕ) (r : List ℕ) (i : ℕ) → length t < i → is_boundary (t ++ b ∷ r) i ≡ is_boundary r (i - suc (length t))
rest_boundary t b r zero l = absurd (omega arith)
rest_boundary [] b r (suc i) l = boundary_suc b i r ∙ (let e : i ≡ suc i - suc 0 = omega arith in ap (λ (n : ℕ). is_boundary r n) e)
rest_boundary (x ∷ t) b r (suc i) l =
    boundary_suc x i (t ++ b ∷ r) ∙ rest_boundary t b r i (omega arith)
    ∙ (let e : i - suc (length t) ≡ suc i - suc (length (x ∷ t)) = omega arith in ap (λ (n : ℕ). is_boundary r n) e)

drop_boundary : (n i : ℕ) (bs : List ℕ) → n ≤ length bs → is_boundary (drop n bs) i ≡ is_boundary bs (n + i)
drop_boundary zero i bs l = let e : i ≡ 0 + i = omega arith in ap (λ (k : ℕ). is_boundary bs k) e
drop_boundary (suc n) i [] l = absurd (omega arith)
drop_boundary (suc n) i (b ∷ bs) l =
    drop_boundary n i bs (omega arith) ∙ sym (boundary_suc b (n + i) bs)
    ∙ (let e : suc (n + i) ≡ suc n + i = omega arith in ap (λ (k : ℕ). is_boundary (b ∷ bs) k) e)

take_boundary : (n i : ℕ) (bs : List ℕ) → n ≤ length bs → is_boundary bs n ≡ true → i ≤ n → is_boundary (take n bs) i ≡ is_boundary bs i
take_boundary zero zero bs l e m = boundary_end [] ∙ sym e
take_boundary zero (suc i) bs l e m = absurd (omega arith)
take_boundary (suc n) i [] l e m = absurd (omega arith)
take_boundary (suc n) zero (b ∷ bs) l e m = boundary_zero b (take n bs) ∙ sym (boundary_zero b bs)
take_boundary (suc n) (suc i) (b ∷ bs) l e m =
    boundary_suc b i (take n bs) ∙ take_boundary n i bs (omega arith) (sym (boundary_suc b n bs) ∙ e) (omega arith) ∙ sym (boundary_suc b i bs)

drop_count : (n : ℕ) (bs : List ℕ) → length (drop n bs) ≡ length bs - n
drop_count zero bs = omega arith
drop_count (suc n) [] = omega arith
drop_count (suc n) (b ∷ bs) = let e = drop_count n bs in omega arith

take_count : (n : ℕ) (bs : List ℕ) → n ≤ length bs → length (take n bs) ≡ n
take_count zero bs l = refl
take_count (suc n) [] l = absurd (omega arith)
take_count (suc n) (b ∷ bs) l = let e = take_count n bs (omega arith) in omega arith

-- the bytes s..e
pub slice_count : (bs : List ℕ) (s e : ℕ) → e ≤ length bs → length (slice_range bs s e) ≡ e - s
slice_count bs s e l = let d = drop_count s bs in take_count (e - s) (drop s bs) (omega arith)

pub slice_boundary : (bs : List ℕ) (s e i : ℕ) → s ≤ e → is_boundary bs e ≡ true → i ≤ e - s → is_boundary (slice_range bs s e) i ≡ is_boundary bs (s + i)
slice_boundary bs s e i o f m =
    let l = boundary_within bs e f in
    let d = drop_count s bs in
    let g : s + (e - s) ≡ e = omega arith in
    take_boundary (e - s) i (drop s bs) (omega arith) (drop_boundary s (e - s) bs (omega arith) ∙ ap (λ (k : ℕ). is_boundary bs k) g ∙ f) m
    ∙ drop_boundary s i bs (omega arith)
