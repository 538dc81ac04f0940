-- The place of the shown place of a place.
use Rattle.std.proofs.Common.{◌≡◌, ℕ, zero, suc, ◌+◌, ◌-◌, ◌≤◌, false, eqb, List, [], ◌∷◌, take, drop, length, refl, ap, ◌∙◌, arith}
use Rattle.std.specs.Prelude.{nat_lt}
use Rattle.std.proofs.lemmas.Bool.Decides.{nat_tests}
use Rattle.fold_spans.specs.Marks.{Mark, shown_len, begins_inner, text_place}
use Rattle.tree_cursor.specs.declared.traits.Bias.{Bias}
use Rattle.fold_spans.specs.Marks.Mark.{Plain, First, Inner}
use Rattle.tree_cursor.specs.declared.traits.Bias.TheVariants.{Left, Right}
use Rattle.fold_spans.specs.Laws.{ShownPlacesComeBack}

at_none : (ms : List Mark) (b : Bias) → begins_inner ms ≡ false → text_place ms 0 b ≡ 0
at_none [] b e = refl
at_none (Plain ∷ ms) b e = refl
at_none (First ∷ ms) Left e = refl
at_none (First ∷ ms) Right e = refl
at_none (Inner ∷ ms) b e = cc

over_first : (b : Bias) (ms : List Mark) (m : ℕ) → text_place (First ∷ ms) (3 + m) b ≡ suc (text_place ms m b)
over_first Left ms m = let x : nat_lt (3 + m) 3 ≡ false = grind (arith, nat_tests) in let y : 3 + m - 3 ≡ m = omega arith in rw x (ap (λ (z : ℕ). suc (text_place ms z Left)) y)
over_first Right ms m = let x : eqb (3 + m) 0 ≡ false = grind (arith, nat_tests) in let y : 3 + m - 3 ≡ m = omega arith in rw x (ap (λ (z : ℕ). suc (text_place ms z Right)) y)

over_open : (b : Bias) (ms : List Mark) (m : ℕ) → text_place (Plain ∷ ms) (1 + m) b ≡ suc (text_place ms m b)
over_open b ms m = let x : eqb (1 + m) 0 ≡ false = grind (arith, nat_tests) in let y : 1 + m - 1 ≡ m = omega arith in rw x (ap (λ (z : ℕ). suc (text_place ms z b)) y)

back : (ms : List Mark) (o : ℕ) (b : Bias) → o ≤ length ms → begins_inner (drop o ms) ≡ false → text_place ms (shown_len (take o ms)) b ≡ o
back ms zero b l e = at_none ms b e
back [] (suc o) b l e = absurd (omega arith)
back (Plain ∷ ms) (suc o) b l e = over_open b ms (shown_len (take o ms)) ∙ ap suc (back ms o b (omega arith) e)
back (First ∷ ms) (suc o) b l e = over_first b ms (shown_len (take o ms)) ∙ ap suc (back ms o b (omega arith) e)
back (Inner ∷ ms) (suc o) b l e = let z : 0 + shown_len (take o ms) ≡ shown_len (take o ms) = omega arith in ap (λ (n : ℕ). suc (text_place ms n b)) z ∙ ap suc (back ms o b (omega arith) e)

pub shown_places_come_back : ShownPlacesComeBack
shown_places_come_back ms o Left c l e = rw e (back ms o c l e)
shown_places_come_back ms o Right c l e = back ms o c l e
