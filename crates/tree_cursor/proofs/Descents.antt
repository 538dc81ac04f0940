-- How few looks a walk takes that goes down.
use Rattle.std.proofs.Common.{◌≡◌, ◌≢◌, ℕ, ◌+◌, ◌*◌, ◌<◌, ◌≤◌, ◌⊎◌, inl, inr, Bool, true, false, cond, Option, Some, None, List, [], ◌∷◌, ◌++◌, length, drop, ap, sym, refl, ◌∙◌, arith, length-append}
use Rattle.std.specs.Prelude.{IsSome}
use Rattle.std.proofs.lemmas.List.{drop_at}
use Rattle.sum_tree.specs.Laws.{SummaryLaws, fold}
use Rattle.sum_tree.specs.Seen.{Seen}
use Rattle.sum_tree.proofs.Folds.{fold-append, fold_single, fold_admitted}
use Rattle.tree_cursor.specs.Places.{AlwaysAdds, DimensionLaws, behind, place_behind, walk_count}
use Rattle.tree_cursor.specs.Rules.{LooksAtEnds}
use Rattle.tree_cursor.specs.Halts.{place_over}
use Rattle.tree_cursor.specs.Rest.{Rest}
use Rattle.tree_cursor.specs.Walking.{IsDescending}

same_behind : {X : Type 0} (ys xs zs : List X) → ys ++ xs ≡ ys ++ zs → xs ≡ zs
same_behind ys xs zs e = sym (drop_at ys xs (length ys) refl) ∙ ap (drop (length ys)) e ∙ drop_at ys zs (length ys) refl

not_empty : {X : Type 0} (xs : List X) → 1 ≤ length xs → xs ≢ []
not_empty xs l e = omega (arith, l, ap length e)

module _ {T : Type 0} where
  some_inner : (before : Rest T) (index goal : ℕ) → 1 ≤ length before.items → index ≤ goal → (before.items ≡ before.inner) ⊎ (goal < index + length before.inner) → before.inner ≢ []
  some_inner before index goal some within (inl all) = not_empty before.inner (omega (arith, some, ap length all))
  some_inner before index goal some within (inr lt) = not_empty before.inner (omega (arith, lt, within))

  stays : (before after : Rest T) (ys : List T) (index goal : ℕ) → before.items ≡ ys ++ after.items → before.inner ≡ ys ++ after.inner → (before.items ≡ before.inner) ⊎ (goal < index + length before.inner) → (after.items ≡ after.inner) ⊎ (goal < (index + length ys) + length after.inner)
  stays before after ys index goal e f (inl all) = inl (same_behind ys after.items after.inner (sym e ∙ all ∙ f))
  stays before after ys index goal e f (inr lt) = inr (omega (arith, lt, ap length f, length-append ys after.inner))

  -- what holds of more steps holds of fewer
  pub fewer : (path : Rest T) (k steps most index goal : ℕ) → k ≤ steps → IsDescending path steps most index goal → IsDescending path k most index goal
  fewer path k steps most index goal l d = (omega (arith, d.0), d.1)

  -- the walk goes over a node
  pub goes_over : (before after : Rest T) (t : Seen T) (steps most index goal : ℕ) → before.items ≡ t.items ++ after.items → (1 ≤ length t.items) × (before.inner ≢ [] → (before.inner ≡ t.items ++ after.inner) × (1 + after.looks ≤ before.looks) × (1 + 12 * (t.height + 1) ≤ before.looks)) → index ≤ goal → IsDescending before steps most index goal → IsDescending after (steps + 1) most (index + length t.items) goal
  goes_over before after t steps most index goal e took within d =
      let some : 1 ≤ length before.items = omega (arith, took.0, ap length e, length-append t.items after.items) in
      let k = took.1 (some_inner before index goal some within d.1) in
      (omega (arith, k.1, d.0), stays before after t.items index goal e k.0 d.1)

  -- the walk goes over an item, or halts at it
  pub goes_on : (before after : Rest T) (x : T) (steps most index goal : ℕ) → before.items ≡ x ∷ after.items → (before.inner ≢ [] → (before.inner ≡ x ∷ after.inner) × (1 + after.looks ≤ before.looks)) → index ≤ goal → IsDescending before steps most index goal → IsDescending after (steps + 1) most (index + 1) goal
  goes_on before after x steps most index goal e took within d =
      let some : 1 ≤ length before.items = omega (arith, ap length e) in
      let k = took (some_inner before index goal some within d.1) in
      (omega (arith, k.1, d.0), stays before after (x ∷ []) index goal e k.0 d.1)

  -- the walk goes into a node in which it halts
  pub goes_into : (before after new : Rest T) (t : Seen T) (steps most index goal : ℕ) → before.items ≡ t.items ++ after.items → (1 ≤ length t.items) × (before.inner ≢ [] → (before.inner ≡ t.items ++ after.inner) × (1 + after.looks ≤ before.looks) × (1 + 12 * (t.height + 1) ≤ before.looks)) → index ≤ goal → new.inner ≡ t.items → new.looks ≤ 12 * (t.height + 1) → goal < index + length t.items → IsDescending before steps most index goal → IsDescending new (steps + 1) most index goal
  goes_into before after new t steps most index goal e took within inner looks halts d =
      let some : 1 ≤ length before.items = omega (arith, took.0, ap length e, length-append t.items after.items) in
      let k = took.1 (some_inner before index goal some within d.1) in
      (omega (arith, k.2, looks, d.0), inr (omega (arith, halts, ap length inner)))

stopped_at : {P : Type 0} (b : Bool) (q : P) → cond b None (Some q) ≡ None → b ≡ true
stopped_at true q e = refl
stopped_at false q e = cc

-- where a sum is added whole and is not gone over, the walk halts at its end
pub stopped : {P : Type 0} (halts : P → Bool) (o : Option P) → IsSome o → place_over halts o ≡ None → (q : P) × (o ≡ Some q) × (halts q ≡ true)
stopped halts None s e = cc
stopped halts (Some q) s e = (q, refl, stopped_at (halts q) q e)

module _ {P S T : Type 0} {moved : P → S → Option P} {fits : P → S → Type 0} {empty : S} {op : S → S → S} {admits single : S → Type 0} {later : P → P → Type 0} (dim : DimensionLaws empty op admits single later moved fits) {afits : S → Type 0} (laws : SummaryLaws empty op admits afits) (sum_of : T → S) (admitted : (x : T) → admits (sum_of x)) where
  -- a sum that is added whole leads where its items lead
  sum_leads : (p q : P) (ys : List T) → moved p (fold empty op sum_of ys) ≡ Some q → place_behind moved sum_of p ys ≡ q
  sum_leads p q [] m = sym (dim.nothing p q m)
  sum_leads p q (y ∷ ys) m =
      let split : fold empty op sum_of (y ∷ ys) ≡ op (sum_of y) (fold empty op sum_of ys) = fold-append laws sum_of admitted (y ∷ []) ys ∙ ap (λ (s : S). op s (fold empty op sum_of ys)) (fold_single laws sum_of admitted y) in
      let part = dim.parts p q (sum_of y) (fold empty op sum_of ys) (admitted y) (fold_admitted laws sum_of admitted ys) (ap (moved p) (sym split) ∙ m) in
      ap (λ (r : P). place_behind moved sum_of r ys) (ap (behind p) part.1) ∙ sum_leads part.0 q ys part.2

  module _ (halts : S → P → ℕ → Bool) (ends : LooksAtEnds halts) where
    first_halts : (b : Bool) (n k : ℕ) → (b ≡ false → n < k) → cond b 0 (1 + n) < 1 + k
    first_halts true n k f = omega arith
    first_halts false n k f = omega (arith, f refl)

    -- a walk that halts at the end of some items halts among them
    halts_among : (s : S) (p : P) (i j : ℕ) (ys xs : List T) → 1 ≤ length ys → j ≡ i + length ys → halts s (place_behind moved sum_of p ys) j ≡ true → walk_count moved sum_of halts p i (ys ++ xs) < length ys
    halts_among s p i j [] xs l n h = absurd (omega (arith, l))
    halts_among s p i j (y ∷ []) xs l n h =
        let r = behind p (moved p (sum_of y)) in
        let last : i + 1 ≡ j = omega (arith, n) in
        let here : halts (sum_of y) r (i + 1) ≡ true = ends (sum_of y) s r (i + 1) ∙ ap (halts s r) last ∙ h in
        omega (arith, ap (λ (b : Bool). cond b 0 (1 + walk_count moved sum_of halts r (i + 1) xs)) here)
    halts_among s p i j (y ∷ z ∷ ys) xs l n h =
        let r = behind p (moved p (sum_of y)) in
        let on : walk_count moved sum_of halts r (i + 1) ((z ∷ ys) ++ xs) < length (z ∷ ys) = halts_among s r (i + 1) j (z ∷ ys) xs (omega arith) (omega (arith, n)) h in
        let first = first_halts (halts (sum_of y) r (i + 1)) (walk_count moved sum_of halts r (i + 1) ((z ∷ ys) ++ xs)) (length (z ∷ ys)) (λ e. on) in
        omega (arith, first)

    -- a walk that does not go over a node whose sum is added whole halts in it
    pub halts_within : (p : P) (i j goal : ℕ) (s : S) (ys xs left : List T) → AlwaysAdds moved → 1 ≤ length ys → s ≡ fold empty op sum_of ys → j ≡ i + length ys → left ≡ ys ++ xs → place_over (λ q. halts s q j) (moved p s) ≡ None → i + walk_count moved sum_of halts p i left ≡ goal → goal < i + length ys
    halts_within p i j goal s ys xs left adds some f n e none sought =
        let k = stopped (λ q. halts s q j) (moved p s) (adds p s) none in
        let leads : place_behind moved sum_of p ys ≡ k.0 = sum_leads p k.0 ys (ap (moved p) (sym f) ∙ k.1) in
        let among : walk_count moved sum_of halts p i (ys ++ xs) < length ys = halts_among s p i j ys xs some n (ap (λ (q : P). halts s q j) leads ∙ k.2) in
        omega (arith, among, sought, ap (walk_count moved sum_of halts p i) e)
