-- Texts that are cut, and the chunks between two offsets.
use Rattle.std.proofs.Common.{◌≡◌, ℕ, zero, suc, ◌+◌, ◌-◌, ◌<◌, ◌≤◌, ◌⊎◌, inl, inr, true, false, eqb, List, [], ◌∷◌, ◌++◌, length, get_or, take, drop, refl, ap, sym, subst, ◌∙◌, arith, append_assoc, append-nil, length-append, length-drop, take-append-drop}
use Rattle.std.specs.Prelude.{nat_le}
use Rattle.std.specs.List.{All, concat, slice_range}
use Rattle.std.specs.Str.{IsUtf8, IsCharBoundary}
use Rattle.std.proofs.lemmas.Bool.{cases_Bool}
use Rattle.std.proofs.lemmas.Bool.Decides.{nat_tests}
use Rattle.std.proofs.lemmas.List.{take-append-le, get_or-append-add, get_or_append_left, length-take-le}
use Rattle.std.proofs.lemmas.List.Elements.{All-nil, All-cons, All-head, All-tail, All-drop}
use Rattle.std.proofs.lemmas.Str.{IsUtf8-take, IsUtf8-drop}
use Rattle.std.proofs.Math.Seq.{take-append-add}
use Rattle.rope_chunks.specs.Chunks.{IsChunk}
use Rattle.rope_chunks.specs.Spots.{IsSpot, with_first, texts_up_to}
use Rattle.rope_chunks.proofs.Grows.{chunk_at}
use Rattle.rope_chunks.proofs.Spots.{spot_back, spot_boundary}

-- ---- boundaries

module _ (t rest : List ℕ) (n : ℕ) (b : IsCharBoundary (t ++ rest) n) where
  pub front_bound : n ≤ length t → IsCharBoundary t n
  front_bound l = (
    l,
    λ m high.
        let same : get_or (t ++ rest) n 0 ≡ get_or t n 0 = get_or_append_left t rest 0 n m in
        let more : n < length (t ++ rest) = omega (arith, length-append t rest, m) in
        subst (λ x. 192 ≤ x) same (b.1 more (subst (λ x. 128 ≤ x) (sym same) high)),
  )

  pub rest_bound : length t ≤ n → IsCharBoundary rest (n - length t)
  rest_bound l = (
    omega (arith, b.0, length-append t rest, l),
    λ m high.
        let at : length t + (n - length t) ≡ n = omega (arith, l) in
        let same : get_or (t ++ rest) n 0 ≡ get_or rest (n - length t) 0 = ap (λ (k : ℕ). get_or (t ++ rest) k 0) (sym at) ∙ get_or-append-add t rest (n - length t) 0 in
        let more : n < length (t ++ rest) = omega (arith, length-append t rest, l, m) in
        subst (λ x. 192 ≤ x) same (b.1 more (subst (λ x. 128 ≤ x) (sym same) high)),
  )

-- ---- cut texts

pub concat_first : (f : List ℕ) (ts : List (List ℕ)) → concat (with_first f ts) ≡ f ++ concat ts
concat_first [] ts = refl
concat_first (b ∷ bs) ts = refl

concat_step : (t : List ℕ) (ts : List (List ℕ)) (n : ℕ) → n ≤ length (t ++ concat ts) → (length t ≤ n → concat (texts_up_to (n - length t) ts) ≡ take (n - length t) (concat ts)) → eqb n 0 ≡ false → (nat_le (length t) n ≡ true) ⊎ (nat_le (length t) n ≡ false) → concat (texts_up_to n (t ∷ ts)) ≡ take n (t ++ concat ts)
concat_step t ts n l more e (inl f) =
    let m : length t ≤ n = grind (arith, nat_tests, f) in
    let at : length t + (n - length t) ≡ n = omega (arith, m) in
    rw (e, f) (ap (λ (bs : List ℕ). t ++ bs) (more m) ∙ sym (ap (λ (k : ℕ). take k (t ++ concat ts)) (sym at) ∙ take-append-add t (concat ts) (n - length t)))
concat_step t ts n l more e (inr f) =
    let m : n ≤ length t = grind (arith, nat_tests, f) in
    rw (e, f) (append-nil (take n t) ∙ sym (take-append-le n t (concat ts) m))

concat_cases : (t : List ℕ) (ts : List (List ℕ)) (n : ℕ) → n ≤ length (t ++ concat ts) → (length t ≤ n → concat (texts_up_to (n - length t) ts) ≡ take (n - length t) (concat ts)) → (eqb n 0 ≡ true) ⊎ (eqb n 0 ≡ false) → concat (texts_up_to n (t ∷ ts)) ≡ take n (t ++ concat ts)
concat_cases t ts n l more (inl e) = let z : n ≡ 0 = grind (arith, nat_tests, e) in rw z refl
concat_cases t ts n l more (inr e) = concat_step t ts n l more e (cases_Bool (nat_le (length t) n))

pub concat_up_to : (ts : List (List ℕ)) (n : ℕ) → n ≤ length (concat ts) → concat (texts_up_to n ts) ≡ take n (concat ts)
concat_up_to [] zero l = refl
concat_up_to [] (suc n) l = refl
concat_up_to (t ∷ ts) n l =
    concat_cases t ts n l (λ m. concat_up_to ts (n - length t) (omega (arith, l, length-append t (concat ts), m))) (cases_Bool (eqb n 0))

pub none_left : (ts : List (List ℕ)) → texts_up_to 0 ts ≡ []
none_left [] = refl
none_left (t ∷ ts) = refl

-- a text that is longer than what is left of the bytes is cut, and is the last
pub last_cut : (ts rest : List (List ℕ)) (t f : List ℕ) (n : ℕ) → ts ≡ t ∷ rest → 0 < n → n < length t → f ≡ take n t → texts_up_to n ts ≡ f ∷ texts_up_to 0 rest
last_cut ts rest t f n e some l cut =
    let z : eqb n 0 ≡ false = grind (arith, nat_tests, some) in
    let w : nat_le (length t) n ≡ false = grind (arith, nat_tests, l) in
    let last : texts_up_to n (t ∷ rest) ≡ take n t ∷ [] = rw (z, w) refl in
    ap (texts_up_to n) e ∙ last ∙ ap (λ (xs : List ℕ). xs ∷ []) (sym cut) ∙ ap (λ (xs : List (List ℕ)). f ∷ xs) (sym (none_left rest))

-- each is a chunk, if each was before the cut
each_step : (t : List ℕ) (ts : List (List ℕ)) (n : ℕ) → IsChunk t → IsCharBoundary (t ++ concat ts) n → (length t ≤ n → All IsChunk (texts_up_to (n - length t) ts)) → eqb n 0 ≡ false → (nat_le (length t) n ≡ true) ⊎ (nat_le (length t) n ≡ false) → All IsChunk (texts_up_to n (t ∷ ts))
each_step t ts n here b more e (inl f) =
    let m : length t ≤ n = grind (arith, nat_tests, f) in
    rw (e, f) (All-cons IsChunk t (texts_up_to (n - length t) ts) here (more m))
each_step t ts n here b more e (inr f) =
    let m : n ≤ length t = grind (arith, nat_tests, f) in
    let k : 0 < n = grind (arith, nat_tests, e) in
    let len : length (take n t) ≡ n = length-take-le n t m in
    let cut : IsChunk (take n t) = record {
      text = IsUtf8-take t n here.text (front_bound t (concat ts) n b m);
      some = omega (arith, len, k);
      few = omega (arith, len, m, here.few);
    } in
    rw (e, f) (All-cons IsChunk (take n t) [] cut (All-nil IsChunk))

each_cases : (t : List ℕ) (ts : List (List ℕ)) (n : ℕ) → IsChunk t → IsCharBoundary (t ++ concat ts) n → (length t ≤ n → All IsChunk (texts_up_to (n - length t) ts)) → (eqb n 0 ≡ true) ⊎ (eqb n 0 ≡ false) → All IsChunk (texts_up_to n (t ∷ ts))
each_cases t ts n here b more (inl e) = rw e (All-nil IsChunk)
each_cases t ts n here b more (inr e) = each_step t ts n here b more e (cases_Bool (nat_le (length t) n))

pub each_up_to : (ts : List (List ℕ)) (n : ℕ) → All IsChunk ts → IsCharBoundary (concat ts) n → All IsChunk (texts_up_to n ts)
each_up_to [] n a b = All-nil IsChunk
each_up_to (t ∷ ts) n a b =
    each_cases t ts n (All-head IsChunk t ts a) b (λ m. each_up_to ts (n - length t) (All-tail IsChunk t ts a) (rest_bound t (concat ts) n b m)) (cases_Bool (eqb n 0))

pub each_first : (f : List ℕ) (ts : List (List ℕ)) → IsUtf8 f → length f ≤ 128 → All IsChunk ts → All IsChunk (with_first f ts)
each_first [] ts u l a = a
each_first (b ∷ bs) ts u l a = All-cons IsChunk (b ∷ bs) ts (record { text = u; some = omega arith; few = l }) a

-- ---- from an offset on

-- no chunks have no bytes, so the one offset in them is 0
pub from_none : (cs : List (List ℕ)) (start : ℕ) → cs ≡ [] → start ≤ length (concat cs) → concat cs ≡ drop start (concat cs)
from_none cs start e l =
    let none : start ≡ 0 = omega (arith, l, ap (λ (xs : List (List ℕ)). length (concat xs)) e) in
    ap (λ (k : ℕ). drop k (concat cs)) (sym none)

pub from_cut : (bs : List ℕ) (start end : ℕ) → IsCharBoundary bs start → IsCharBoundary bs end → start ≤ end → IsCharBoundary (drop start bs) (end - start)
from_cut bs start end a b l =
    let front : length (take start bs) ≡ start = length-take-le start bs a.0 in
    let whole : IsCharBoundary (take start bs ++ drop start bs) end = subst (λ (xs : List ℕ). IsCharBoundary xs end) (sym (take-append-drop start bs)) b in
    let n : end - length (take start bs) ≡ end - start = omega (arith, front) in
    subst (λ (k : ℕ). IsCharBoundary (drop start bs) k) n (rest_bound (take start bs) (drop start bs) end whole (omega (arith, front, l)))

-- what is left of the chunk at an offset, and the chunks after it
module _ (cs : List (List ℕ)) (c : List ℕ) (i r start : ℕ) (f : List ℕ) (ts : List (List ℕ)) (s : IsSpot cs start i c r) (first : f ≡ drop r c) (rest : ts ≡ drop (i + 1) cs) where
  pub from_text : concat (with_first f ts) ≡ drop start (concat cs)
  from_text = concat_first f ts ∙ ap (λ (xs : List ℕ). xs ++ concat ts) first ∙ ap (λ (xs : List (List ℕ)). drop r c ++ concat xs) rest ∙ sym (spot_back cs start i c r s)

  pub from_each : All IsChunk cs → IsCharBoundary (concat cs) start → All IsChunk (with_first f ts)
  from_each each a =
      let chunk : IsChunk c = chunk_at cs i c each s.at in
      let text : IsUtf8 f = rw first (IsUtf8-drop c r chunk.text (spot_boundary cs start i c r s a)) in
      let few : length f ≤ 128 = omega (arith, ap length first, length-drop r c, chunk.few) in
      let others : All IsChunk ts = rw rest (All-drop IsChunk (i + 1) cs each) in
      each_first f ts text few others
