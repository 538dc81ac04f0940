-- What holds of the children of a node together.
use Rattle.std.proofs.Common.{◌≡◌, ℕ, suc, ◌+◌, ◌*◌, ◌^◌, ◌<◌, ◌≤◌, List, [], ◌∷◌, ◌++◌, length, get_or, take, drop, sym, ap, subst, refl, ◌∙◌, take-append-drop, arith, length-append, add-one, append_assoc}
use Rattle.std.proofs.Math.Nat.{pow-succ', pow-le-pow_right, mul-le-mul_right, suc-mul, one-le-pow}
use Rattle.std.proofs.lemmas.List.{take_more, append-nil}
use Rattle.std.proofs.lemmas.List.Concat.{flat_map-append}
use Rattle.std.specs.List.{All}
use Rattle.sum_tree.specs.Laws.{SummaryLaws, fold}
use Rattle.sum_tree.proofs.Folds.{fold-start, fold-then, fold_admitted, fits_left, fits_right}
use Rattle.sum_tree.specs.Seen.{Seen}
use Rattle.sum_tree.specs.Shape.{join_items, IsChild}

pub pow_more : (n : ℕ) → 6 ^ (n + 1) ≡ 6 * 6 ^ n
pow_more n = rw add-one (pow-succ' 6 n)

pub low : (n m : ℕ) → 6 ^ n ≤ m → m ≤ 2 ^ 40 → n ≤ 15
low n m h k = let up : 16 ≤ n → 6 ^ 16 ≤ 6 ^ n = λ l. pow-le-pow_right (omega arith) l in grind (arith, up)

pub low_twice : (n m : ℕ) → 2 * 6 ^ n ≤ m → m ≤ 2 ^ 40 → n ≤ 15
low_twice n m h k = low n m (omega arith) k

module _ {T : Type 0} where
  pub joined-append : (ts us : List (Seen T)) → join_items (ts ++ us) ≡ join_items ts ++ join_items us
  joined-append ts us = flat_map-append (λ (t : Seen T). t.items) ts us

  pub joined_single : (t : Seen T) → join_items (t ∷ []) ≡ t.items
  joined_single t = append-nil t.items

  pub joined-take_more : (ts : List (Seen T)) (i : ℕ) (t : Seen T) → i < length ts → t ≡ get_or ts i t → join_items (take (i + 1) ts) ≡ join_items (take i ts) ++ t.items
  joined-take_more ts i t within read =
      let more : take (i + 1) ts ≡ take i ts ++ (t ∷ []) = take_more ts i t within ∙ ap (λ (y : Seen T). take i ts ++ (y ∷ [])) (sym read) in
      ap join_items more ∙ joined-append (take i ts) (t ∷ []) ∙ ap (λ (ys : List T). join_items (take i ts) ++ ys) (joined_single t)

  pub joined-split : (ts : List (Seen T)) (i : ℕ) → join_items (take i ts) ++ join_items (drop i ts) ≡ join_items ts
  joined-split ts i = sym (joined-append (take i ts) (drop i ts)) ∙ ap join_items (take-append-drop i ts)

  -- the items of one child come after those of the children before it
  pub joined_around : (ts : List (Seen T)) (k : ℕ) (t : Seen T) → k < length ts → t ≡ get_or ts k t → join_items ts ≡ join_items (take k ts) ++ (t.items ++ join_items (drop (k + 1) ts))
  joined_around ts k t within read =
      sym (joined-split ts (k + 1))
      ∙ ap (λ xs. xs ++ join_items (drop (k + 1) ts)) (joined-take_more ts k t within read)
      ∙ append_assoc (join_items (take k ts)) t.items (join_items (drop (k + 1) ts))

  -- each child of a node of height h has 6 ^ h items at least
  pub many_joined : (h : ℕ) (ts : List (Seen T)) → All (IsChild h) ts → length ts * 6 ^ h ≤ length (join_items ts)
  many_joined h [] a = omega arith
  many_joined h (t ∷ ts) a =
      let first : 6 ^ h ≤ length t.items = subst (λ (n : ℕ). 6 ^ n ≤ length t.items) (a 0 t (omega arith)).lower (a 0 t (omega arith)).many in
      let rest : length ts * 6 ^ h ≤ length (join_items ts) = many_joined h ts (λ k d p. a (suc k) d (omega (arith, p))) in
      omega (arith, first, rest, suc-mul (length ts) (6 ^ h), length-append t.items (join_items ts))

  pub child_filled : (h : ℕ) (t : Seen T) → IsChild h t → 1 ≤ length t.items
  child_filled h t c = omega (arith, c.many, one-le-pow (t.height + 1) 6 (omega arith))

  -- six children of height h - 1 have enough for height h
  pub many_enough : (h : ℕ) (ts : List (Seen T)) → All (IsChild h) ts → 6 ≤ length ts → 6 ^ (h + 1) ≤ length (join_items ts)
  many_enough h ts a l =
      let all : length ts * 6 ^ h ≤ length (join_items ts) = many_joined h ts a in
      let six : 6 * 6 ^ h ≤ length ts * 6 ^ h = mul-le-mul_right (6 ^ h) l in
      omega (arith, all, six, pow_more h)

  -- what is joined so far is at most all
  pub joined-take_le : (ts : List (Seen T)) (i : ℕ) → length (join_items (take i ts)) ≤ length (join_items ts)
  joined-take_le ts i = omega (arith, ap length (joined-split ts i), length-append (join_items (take i ts)) (join_items (drop i ts)))

  pub step_len : (ts : List (Seen T)) (i : ℕ) (t : Seen T) (m n : ℕ) → i < length ts → t ≡ get_or ts i t → m ≡ length (join_items (take i ts)) → n ≡ length t.items → m + n ≡ length (join_items (take (i + 1) ts))
  step_len ts i t m n within read e f = omega (arith, ap length (joined-take_more ts i t within read), length-append (join_items (take i ts)) t.items)

  module _ {S : Type 0} {empty : S} {op : S → S → S} {admits fits : S → Type 0} (laws : SummaryLaws empty op admits fits) (sum_of : T → S) (admitted : (x : T) → admits (sum_of x)) where
    -- the sums of children, added up, are the sum of all that is in them
    pub fold-joined : (a : S) (ts : List (Seen T)) → admits a → fold a op (λ (t : Seen T). fold empty op sum_of t.items) ts ≡ fold a op sum_of (join_items ts)
    fold-joined a [] p = refl
    fold-joined a (t ∷ ts) p =
        let one : fold a op sum_of t.items ≡ op a (fold empty op sum_of t.items) = fold-start laws sum_of admitted a t.items p in
        let here : admits (op a (fold empty op sum_of t.items)) = laws.op_admitted a (fold empty op sum_of t.items) p (fold_admitted laws sum_of admitted t.items) in
        fold-joined (op a (fold empty op sum_of t.items)) ts here ∙ ap (λ (b : S). fold b op sum_of (join_items ts)) (sym one) ∙ sym (fold-then laws sum_of admitted a t.items (join_items ts))

    pub all_joined : (ts : List (Seen T)) → fold empty op (λ (t : Seen T). fold empty op sum_of t.items) ts ≡ fold empty op sum_of (join_items ts)
    all_joined ts = fold-joined empty ts laws.empty_admitted

    pub fits_joined_take : (ts : List (Seen T)) (i : ℕ) → fits (fold empty op sum_of (join_items ts)) → fits (fold empty op sum_of (join_items (take i ts)))
    fits_joined_take ts i h = fits_left laws sum_of admitted (join_items (take i ts)) (join_items (drop i ts)) (subst (λ (zs : List T). fits (fold empty op sum_of zs)) (sym (joined-split ts i)) h)

    pub fits_joined_drop : (ts : List (Seen T)) (i : ℕ) → fits (fold empty op sum_of (join_items ts)) → fits (fold empty op sum_of (join_items (drop i ts)))
    fits_joined_drop ts i h = fits_right laws sum_of admitted (join_items (take i ts)) (join_items (drop i ts)) (subst (λ (zs : List T). fits (fold empty op sum_of zs)) (sym (joined-split ts i)) h)

  pub joined-drop_le : (ts : List (Seen T)) (i : ℕ) → length (join_items (drop i ts)) ≤ length (join_items ts)
  joined-drop_le ts i = omega (arith, ap length (joined-split ts i), length-append (join_items (take i ts)) (join_items (drop i ts)))

  -- a child of a short tree is low, and so is a node with two children
  pub child_is_low : (h : ℕ) (t : Seen T) → IsChild h t → length t.items ≤ 2 ^ 40 → t.height + 1 ≤ 15
  child_is_low h t c l = low (t.height + 1) (length t.items) c.many l

  pub inner_is_tall : (h : ℕ) (ts : List (Seen T)) → All (IsChild h) ts → 2 ≤ length ts → 2 * 6 ^ h ≤ length (join_items ts)
  inner_is_tall h ts a l =
      let all : length ts * 6 ^ h ≤ length (join_items ts) = many_joined h ts a in
      let two : 2 * 6 ^ h ≤ length ts * 6 ^ h = mul-le-mul_right (6 ^ h) l in
      omega (arith, all, two)

  pub inner_is_low : (h : ℕ) (ts : List (Seen T)) → All (IsChild h) ts → 2 ≤ length ts → length (join_items ts) ≤ 2 ^ 40 → h ≤ 15
  inner_is_low h ts a l short = low_twice h (length (join_items ts)) (inner_is_tall h ts a l) short
