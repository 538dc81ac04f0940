-- Where the first line of a text ends.
use Rattle.std.proofs.Common.{◌≡◌, ℕ, suc, ◌+◌, ◌-◌, ◌<◌, ◌≤◌, List, [], ◌∷◌, length, take, drop, refl, subst, sym, ap, ◌∙◌, arith, cond, Bool, true, false, not, ◌==◌, add-one, None, Some, nat_lt}
use Rattle.std.proofs.lemmas.Bool.{ltb-false}
use Rattle.std.proofs.lemmas.List.Sums.{prefix_len-le-length, sum_by-cons}
use Rattle.std.proofs.lemmas.List.{take_all, drop_all}
use Rattle.std.specs.List.{onto_first, position, position_or_len, prefix_len}
use Rattle.text_dims.specs.Counts.{newline_count}
use Rattle.session_lines.specs.Cut.{lines_of}

pub first_cut : (text : List ℕ) → 0 < length text → let n = position_or_len (λ b. b == 10) text in lines_of text ≡ take n text ∷ lines_of (drop (suc n) text)
first_cut [] h = absurd (omega arith)
first_cut (x ∷ []) h =
    elim (x == 10) as (λ b. let n = cond (not b) (suc (prefix_len (λ x. not (x == 10)) [])) 0 in cond b ([] ∷ lines_of []) (onto_first x (lines_of [])) ≡ take n (x ∷ []) ∷ lines_of (drop (suc n) (x ∷ []))) [ true ↦ refl | false ↦ refl ]
first_cut (x ∷ y ∷ text) h =
    let rest = first_cut (y ∷ text) (omega arith) in
    let m = prefix_len (λ x. not (x == 10)) (y ∷ text) in
    let e : 1 + m ≡ suc m = omega arith in
    let step : onto_first x (lines_of (y ∷ text)) ≡ take (1 + m) (x ∷ y ∷ text) ∷ lines_of (drop (suc (1 + m)) (x ∷ y ∷ text)) =
    subst (λ (k : ℕ). onto_first x (lines_of (y ∷ text)) ≡ take k (x ∷ y ∷ text) ∷ lines_of (drop (suc k) (x ∷ y ∷ text))) (sym e) (ap (onto_first x) rest) in
    elim (x == 10) as (λ b. let n = cond (not b) (1 + m) 0 in cond b ([] ∷ lines_of (y ∷ text)) (onto_first x (lines_of (y ∷ text))) ≡ take n (x ∷ y ∷ text) ∷ lines_of (drop (suc n) (x ∷ y ∷ text))) [ true ↦ refl | false ↦ step ]

pub at_none : (b : Bool) (k : ℕ) → None ≡ cond b (Some k) None → b ≡ false
at_none true k e = cc
at_none false k e = refl

pub len_of_none : (text : List ℕ) → None ≡ position (λ b. b == 10) text → length text ≡ position_or_len (λ b. b == 10) text
len_of_none text e = omega (arith, ltb-false _ _ (at_none (nat_lt (position_or_len (λ b. b == 10) text) (length text)) (position_or_len (λ b. b == 10) text) e), prefix_len-le-length (λ b. not (b == 10)) text)

pub cut_here : (text rest : List ℕ) (n : ℕ) → n ≡ position_or_len (λ b. b == 10) text → 0 < length text → rest ≡ drop (n + 1) text → lines_of text ≡ take n text ∷ lines_of rest
cut_here text rest n e h r = rw (r, e, add-one) (first_cut text h)

pub whole_line : (text : List ℕ) (n : ℕ) → n ≡ position_or_len (λ b. b == 10) text → 0 < length text → length text ≤ n → lines_of text ≡ text ∷ []
whole_line text n e h le = cut_here text [] n e h (sym (drop_all (n + 1) text (omega arith))) ∙ ap (λ l. l ∷ []) (take_all n text le)

-- ---- how many lines there are

length-onto_first : (x k : ℕ) (ls : List (List ℕ)) → length ls ≡ 1 + k → length (onto_first x ls) ≡ 1 + k
length-onto_first x k [] e = absurd (omega arith)
length-onto_first x k (l ∷ ls) e = e

one_line : (x : ℕ) (b : Bool) → length (cond b ([] ∷ []) (onto_first x [])) ≡ 1 + 0
one_line x true = refl
one_line x false = refl

counted_more : (x k : ℕ) (ls : List (List ℕ)) (b : Bool) → length ls ≡ 1 + k → length (cond b ([] ∷ ls) (onto_first x ls)) ≡ 1 + (cond b 1 0 + k)
counted_more x k ls true e = omega arith
counted_more x k ls false e = length-onto_first x k ls e ∙ omega arith

-- a text has one line more than line feeds before its last byte
pub lines_count : (x : ℕ) (xs : List ℕ) → length (lines_of (x ∷ xs)) ≡ 1 + newline_count (take (length xs) (x ∷ xs))
unfolding newline_count
lines_count x [] = one_line x (x == 10)
lines_count x (y ∷ ys) =
    counted_more x (newline_count (take (length ys) (y ∷ ys))) (lines_of (y ∷ ys)) (x == 10) (lines_count y ys)
    ∙ ap (λ n. 1 + n) (sym (sum_by-cons (λ b. cond (b == 10) 1 0) x (take (length ys) (y ∷ ys))))

pub lines_counted : (text : List ℕ) → 0 < length text → length (lines_of text) ≡ 1 + newline_count (take (length text - 1) text)
lines_counted [] h = absurd (omega arith)
lines_counted (x ∷ xs) h = let e : suc (length xs) - 1 ≡ length xs = omega arith in rw e (lines_count x xs)
