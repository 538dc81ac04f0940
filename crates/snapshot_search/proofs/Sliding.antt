-- How far a needle may be moved on with no place passed over.
use Rattle.std.proofs.Common.{◌≡◌, ℕ, ◌+◌, ◌-◌, ◌<◌, ◌≤◌, List, [], ◌∷◌, ◌++◌, length, slice_index, sym, ap, subst, ◌∙◌, arith, ⊎_elim}
use Rattle.std.proofs.Common.{length-append}
use Rattle.std.proofs.lemmas.Bool.{cases_lt}
use Rattle.std.proofs.lemmas.List.{get_or_append_left, get_or_push}
use Rattle.snapshot_search.specs.Shifts.{Agrees, IsFallback, AreFallbacks, Slides, Moves}

pub Agrees-fewer : (text needle : List ℕ) (s m n : ℕ) → m ≤ n → Agrees text needle s n → Agrees text needle s m
Agrees-fewer text needle s m n le a = λ j h. a j (omega arith)

-- what the needle has at e is what the text has at s + e
shifted : (text needle : List ℕ) (s q t n : ℕ) → s < t → t < s + q → s + q ≤ t + n → Agrees text needle s q → Agrees text needle t n
    → Agrees needle needle (t - s) (q - (t - s))
shifted text needle s q t n low high reach a b =
    λ j h.
    let place : s + (t - s + j) ≡ t + j = omega arith in
    sym (a (t - s + j) (omega arith)) ∙ (ap (slice_index text) place ∙ b j (omega arith))

-- where q bytes stand, the needle may be moved on to the fallback of q
pub moved_on : (text needle : List ℕ) (s q k : ℕ) → IsFallback needle q k → Agrees text needle s q → Agrees text needle (s + q - k) k
moved_on text needle s q k f a =
    let fewer = f.fewer in
    λ j h.
    let place : s + q - k + j ≡ s + (q - k + j) = omega arith in
    ap (slice_index text) place ∙ (a (q - k + j) (omega arith) ∙ f.ends j h)

pub none_passed : (text needle : List ℕ) (s q k : ℕ) → IsFallback needle q k → Agrees text needle s q
    → (t n : ℕ) → s < t → t < s + q - k → s + q ≤ t + n → ¬ Agrees text needle t n
none_passed text needle s q k f a t n low high reach b =
    let fewer = f.fewer in
    f.most (t - s) (omega arith) (omega arith) (shifted text needle s q t n low (omega arith) reach a b)

-- Slides

-- where the next byte is another, the needle is moved on to the fallback
pub slides_on : (needle : List ℕ) (q b k l : ℕ) → k ≤ q → Slides needle q b k → (slice_index needle k ≡ b → ⊥) → IsFallback needle k l → Slides needle q b l
slides_on needle q b k l le slid differs f text s a e =
    let fewer = f.fewer in
    let was = slid text s a e in
    let p = s + q - k in
    let place : p + k - l ≡ s + q - l = omega arith in
    record {
      stands = subst (λ i. Agrees text needle i l) place (moved_on text needle p k l f was.stands);
      none = λ t low high stands.
          ⊎_elim (λ (before : t < p). was.none t low before stands)
          (λ (behind : p ≤ t).
          ⊎_elim (λ (after : p < t). none_passed text needle p k l f was.stands t (s + q + 1 - t) after (omega arith) (omega arith) stands)
          (λ (here : t ≤ p).
          let at : t + k ≡ s + q = omega arith in
          differs (sym (stands k (omega arith)) ∙ (ap (slice_index text) at ∙ e)))
          (cases_lt p t))
          (cases_lt t p);
    }

-- the table

-- one byte more of the needle
pub next_fallback : (needle : List ℕ) (i k r : ℕ) → r ≤ k + 1 → IsFallback needle i k → Moves needle k (slice_index needle i) r → IsFallback needle (i + 1) r
next_fallback needle i k r le f moves =
    let fewer = f.fewer in
    let at : i - k + k ≡ i = omega arith in
    let moved = moves needle (i - k) f.ends (ap (slice_index needle) at) in
    let place : i - k + k + 1 - r ≡ i + 1 - r = omega arith in
    record {
      fewer = omega arith;
      ends = subst (λ p. Agrees needle needle p r) place moved.stands;
      most = λ d some low stands.
          ⊎_elim (λ (before : d < i - k). f.most d some before (Agrees-fewer needle needle d (i - d) (i + 1 - d) (omega arith) stands))
          (λ (behind : i - k ≤ d).
          let reach : i + 1 - d ≡ i - k + k + 1 - d = omega arith in
          moved.none d behind (omega arith) (subst (λ n. Agrees needle needle d n) reach stands))
          (cases_lt d (i - k));
    }

pub fallback_at : (needle table : List ℕ) (q : ℕ) → AreFallbacks needle table → 0 < q → q ≤ length table → IsFallback needle q (slice_index table (q - 1))
fallback_at needle table q each some le =
    let at : q - 1 + 1 ≡ q = omega arith in
    subst (λ n. IsFallback needle n (slice_index table (q - 1))) at (each (q - 1) (omega arith))

pub one_more : (needle table more : List ℕ) (k : ℕ) → AreFallbacks needle table → more ≡ table ++ k ∷ [] → IsFallback needle (length table + 1) k → AreFallbacks needle more
one_more needle table more k each is last =
    subst (AreFallbacks needle) (sym is)
    (λ i h.
    ⊎_elim (λ (old : i < length table). subst (IsFallback needle (i + 1)) (sym (get_or_append_left table (k ∷ []) 0 i old)) (each i old))
    (λ (new : length table ≤ i).
    let here : length table ≡ i = omega (arith, length-append table (k ∷ [])) in
    subst (IsFallback needle (i + 1)) (sym (get_or_push table k 0 i here)) (subst (λ n. IsFallback needle (n + 1) k) here last))
    (cases_lt i (length table)))
