-- Kept bytes keep their marks.
use Rattle.std.proofs.Common.{◌≡◌, ℕ, zero, suc, ◌+◌, ◌&&◌, ◌||◌, Bool, false, not, List, [], ◌∷◌, ◌++◌, refl, sym, ap, ◌∙◌, arith, take, drop}
use Rattle.std.specs.Prelude.{nat_le, nat_lt}
use Rattle.std.proofs.lemmas.Bool.Decides.{nat_tests}
use Rattle.fold_spans.specs.Marks.{Range, holds, joins, is_folded, is_joined, mark, marks, Mark}
use Rattle.fold_spans.specs.Laws.{KeptMarksStay}
use Rattle.fold_spans.specs.Parts.{Stays, AllStay, RunStays, Part, old_len, new_len, renewed}
use Rattle.fold_spans.specs.Parts.Part.{Same, Again}
use Rattle.fold_spans.proofs.Local.{same_mark}

less_is : (a b : ℕ) → nat_lt a b ≡ not (nat_le b a)
less_is a b = grind (arith, nat_tests)

less_suc : (a b : ℕ) → nat_lt a (suc b) ≡ nat_le a b
less_suc a b = grind (arith, nat_tests)

same_less : (a b i j : ℕ) → nat_le a i ≡ nat_le b j → nat_lt i a ≡ nat_lt j b
same_less a b i j e = less_is i a ∙ ap not e ∙ sym (less_is j b)

same_holds : (r q : Range) (i j : ℕ) → Stays r q i j → holds r i ≡ holds q j
same_holds r q i j s = ap (λ (b : Bool). b && nat_lt i r.1) s.start ∙ ap (λ (b : Bool). nat_le q.0 j && b) (same_less r.1 q.1 i j s.end)

same_joins : (r q : Range) (i j : ℕ) → Stays r q i j → Stays r q (suc i) (suc j) → joins r (suc i) ≡ joins q (suc j)
same_joins r q i j s t = ap (λ (b : Bool). b && nat_lt (suc i) r.1) (less_suc r.0 i ∙ s.start ∙ sym (less_suc q.0 j))
    ∙ ap (λ (b : Bool). nat_lt q.0 (suc j) && b) (same_less r.1 q.1 (suc i) (suc j) t.end)

same_folded : (rs qs : List Range) (i j : ℕ) → AllStay rs qs i j → is_folded rs i ≡ is_folded qs j
same_folded [] [] i j s = refl
same_folded [] (q ∷ qs) i j s = absurd s
same_folded (r ∷ rs) [] i j s = absurd s
same_folded (r ∷ rs) (q ∷ qs) i j s = ap (λ (b : Bool). b || is_folded rs i) (same_holds r q i j s.0) ∙ ap (λ (b : Bool). holds q j || b) (same_folded rs qs i j s.1)

same_joined : (rs qs : List Range) (i j : ℕ) → AllStay rs qs i j → AllStay rs qs (suc i) (suc j) → is_joined rs (suc i) ≡ is_joined qs (suc j)
same_joined [] [] i j s t = refl
same_joined [] (q ∷ qs) i j s t = absurd s
same_joined (r ∷ rs) [] i j s t = absurd s
same_joined (r ∷ rs) (q ∷ qs) i j s t =
    ap (λ (b : Bool). b || is_joined rs (suc i)) (same_joins r q i j s.0 t.0) ∙ ap (λ (b : Bool). joins q (suc j) || b) (same_joined rs qs i j s.1 t.1)

none_joined : (rs : List Range) → is_joined rs 0 ≡ false
none_joined [] = refl
none_joined (r ∷ rs) = let e : nat_lt r.0 0 ≡ false = grind (arith, nat_tests) in rw e (none_joined rs)

first_stays : (rs qs : List Range) (i j n : ℕ) → RunStays rs qs i j n → AllStay rs qs i j
first_stays rs qs i j zero s = s
first_stays rs qs i j (suc n) s = s.0

behind : (rs qs : List Range) (n i j : ℕ) → RunStays rs qs i j n → marks rs (suc i) n ≡ marks qs (suc j) n
behind rs qs zero i j s = refl
behind rs qs (suc n) i j s =
    let t : AllStay rs qs (suc i) (suc j) = first_stays rs qs (suc i) (suc j) n s.1 in
    ap (λ (m : Mark). m ∷ marks rs (suc (suc i)) n) (same_mark rs qs (suc i) (suc j) (same_folded rs qs (suc i) (suc j) t) (same_joined rs qs i j s.0 t))
    ∙ ap (λ (ms : List Mark). mark qs (suc j) ∷ ms) (behind rs qs n (suc i) (suc j) s.1)

pub kept_marks_stay : KeptMarksStay
kept_marks_stay rs qs n = (
  λ i j s. behind rs qs n i j s,
  λ s. ap (λ (m : Mark). m ∷ marks rs 1 n) (same_mark rs qs 0 0 (same_folded rs qs 0 0 (first_stays rs qs 0 0 n s)) (none_joined rs ∙ sym (none_joined qs)))
      ∙ ap (λ (ms : List Mark). mark qs 0 ∷ ms) (behind rs qs n 0 0 s),
)

-- ---- part by part

pub marks_split : (rs : List Range) (n i m k : ℕ) → i + n ≡ k → marks rs i (n + m) ≡ marks rs i n ++ marks rs k m
marks_split rs zero i m k e = let a : 0 + m ≡ m = omega arith in let b : i ≡ k = omega arith in rw a (ap (λ (x : ℕ). marks rs x m) b)
marks_split rs (suc n) i m k e = let a : suc n + m ≡ suc (n + m) = omega arith in rw a (ap (λ (ms : List Mark). mark rs i ∷ ms) (marks_split rs n (suc i) m k (omega arith)))

take_marks : (rs : List Range) (n i : ℕ) (ms : List Mark) → take n (marks rs i n ++ ms) ≡ marks rs i n
take_marks rs zero i ms = refl
take_marks rs (suc n) i ms = ap (λ (x : List Mark). mark rs i ∷ x) (take_marks rs n (suc i) ms)

drop_marks : (rs : List Range) (n i : ℕ) (ms : List Mark) → drop n (marks rs i n ++ ms) ≡ ms
drop_marks rs zero i ms = refl
drop_marks rs (suc n) i ms = drop_marks rs n (suc i) ms

-- the marks of the parts that stay are the same
abbrev pub AreStaying : List Range → List Range → ℕ → ℕ → List Part → Type 0
AreStaying rs qs i j [] = Unit {0}
AreStaying rs qs i j (Same n ∷ ps) = (marks rs i n ≡ marks qs j n) × AreStaying rs qs (i + n) (j + n) ps
AreStaying rs qs i j (Again g m ∷ ps) = AreStaying rs qs (i + g) (j + m) ps

-- then the old marks with those of each part that is made again in their places are the new ones
pub parts_renewed : (rs qs : List Range) (ps : List Part) (i j : ℕ) → AreStaying rs qs i j ps → renewed qs j ps (marks rs i (old_len ps)) ≡ marks qs j (new_len ps)
parts_renewed rs qs [] i j s = refl
parts_renewed rs qs (Same n ∷ ps) i j s =
    let e : marks rs i (n + old_len ps) ≡ marks rs i n ++ marks rs (i + n) (old_len ps) = marks_split rs n i (old_len ps) (i + n) refl in
    ap (λ (ms : List Mark). take n ms ++ renewed qs (j + n) ps (drop n ms)) e
    ∙ ap (λ (ms : List Mark). ms ++ renewed qs (j + n) ps (drop n (marks rs i n ++ marks rs (i + n) (old_len ps)))) (take_marks rs n i (marks rs (i + n) (old_len ps)) ∙ s.0)
    ∙ ap (λ (ms : List Mark). marks qs j n ++ renewed qs (j + n) ps ms) (drop_marks rs n i (marks rs (i + n) (old_len ps)))
    ∙ ap (λ (ms : List Mark). marks qs j n ++ ms) (parts_renewed rs qs ps (i + n) (j + n) s.1) ∙ sym (marks_split qs n j (new_len ps) (j + n) refl)
parts_renewed rs qs (Again g m ∷ ps) i j s =
    let e : marks rs i (g + old_len ps) ≡ marks rs i g ++ marks rs (i + g) (old_len ps) = marks_split rs g i (old_len ps) (i + g) refl in
    ap (λ (ms : List Mark). marks qs j m ++ renewed qs (j + m) ps (drop g ms)) e
    ∙ ap (λ (ms : List Mark). marks qs j m ++ renewed qs (j + m) ps ms) (drop_marks rs g i (marks rs (i + g) (old_len ps)))
    ∙ ap (λ (ms : List Mark). marks qs j m ++ ms) (parts_renewed rs qs ps (i + g) (j + m) s) ∙ sym (marks_split qs m j (new_len ps) (j + m) refl)
