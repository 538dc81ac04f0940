-- Where ranges begin and end between characters, so does every ⋯, and places between characters go to such places.
use Rattle.std.proofs.Common.{◌≡◌, ◌⊎◌, inl, inr, ℕ, zero, suc, ◌+◌, ◌-◌, ◌≤◌, ◌<◌, ◌||◌, ◌&&◌, Bool, true, false, cond, eqb, leb, ltb, List, [], ◌∷◌, ◌++◌, length, drop, refl, sym, ap, ◌∙◌, subst, arith, append_assoc}
use Rattle.std.specs.Prelude.{slice_index}
use Rattle.std.proofs.lemmas.Bool.{cases_Bool, leb-true, le-leb, lt-leb, lt-ltb, le-ltb, ltb-true, ltb-false, ne_eqb, false≢true}
use Rattle.std.proofs.lemmas.List.{length_push}
use Rattle.tree_cursor.specs.declared.traits.Bias.{Bias}
use Rattle.tree_cursor.specs.declared.traits.Bias.TheVariants.{Left, Right}
use Rattle.op_model.specs.Edits.{is_boundary}
use Rattle.fold_spans.specs.Marks.{Range, Mark, holds, joins, is_folded, is_joined, mark, marks, show, shown_len, text_place, begins_inner}
use Rattle.fold_spans.specs.Marks.Mark.{Plain, First, Inner}
use Rattle.fold_spans.specs.Laws.{In}
use Rattle.fold_spans.proofs.Local.{held, joined}
use Rattle.fold_map.specs.Folds.{is_inside}

-- ---- tests

same_test : (a b : Bool) → (a ≡ true → b ≡ true) → (b ≡ true → a ≡ true) → a ≡ b
same_test true b f g = sym (f refl)
same_test false true f g = g refl
same_test false false f g = refl

and_left : (a b : Bool) → (a && b) ≡ true → a ≡ true
and_left true b e = refl
and_left false b e = e

and_both : (a b : Bool) → a ≡ true → b ≡ true → (a && b) ≡ true
and_both a b e f = rw (e, f) refl

and_no : (a b : Bool) → a ≡ false → (a && b) ≡ false
and_no a b e = rw e refl

or_first : (a b : Bool) → a ≡ true → (a || b) ≡ true
or_first a b e = rw e refl

or_second : (a b : Bool) → b ≡ true → (a || b) ≡ true
or_second true b e = refl
or_second false b e = e

or_cases : (a b : Bool) → (a || b) ≡ true → (a ≡ true) ⊎ (b ≡ true)
or_cases true b e = inl refl
or_cases false b e = inr e

or_none : (a b : Bool) → (a || b) ≡ false → b ≡ false
or_none true b e = cc
or_none false b e = e

or_false : (a : Bool) → a ≡ (a || false)
or_false true = refl
or_false false = refl

or_same : (a b c d : Bool) → a ≡ b → c ≡ d → (a || c) ≡ (b || d)
or_same a b c d e f = rw (e, f) refl

cond_yes : (t : Bool) (x y : ℕ) → t ≡ true → cond t x y ≡ x
cond_yes t x y e = rw e refl

cond_no : (t : Bool) (x y : ℕ) → t ≡ false → cond t x y ≡ y
cond_no t x y e = rw e refl

test_yes : (t x y : Bool) → t ≡ true → cond t x y ≡ x
test_yes t x y e = rw e refl

test_no : (t x y : Bool) → t ≡ false → cond t x y ≡ y
test_no t x y e = rw e refl

leb_suc : (i n : ℕ) → leb (suc i) (suc n) ≡ leb i n
leb_suc i n = same_test (leb (suc i) (suc n)) (leb i n) (λ e. (let h = leb-true (suc i) (suc n) e in le-leb i n (omega arith))) (λ e. (let h = leb-true i n e in le-leb (suc i) (suc n) (omega arith)))

-- ---- boundaries

-- a character begins with byte b
abbrev pub begins : ℕ → Bool
begins b = ltb b 128 || leb 192 b

within : (p q r : Bool) → p ≡ true → q ≡ false → (p && (q || r)) ≡ r
within p q r e f = rw (e, f) refl

at_end : (p q r : Bool) → p ≡ true → q ≡ true → (p && (q || r)) ≡ true
at_end p q r e f = rw (e, f) refl

pub boundary_zero : (b : ℕ) (bs : List ℕ) → is_boundary (b ∷ bs) 0 ≡ begins b
boundary_zero b bs = within (leb 0 (length (b ∷ bs))) (leb (length (b ∷ bs)) 0) (begins b) (le-leb 0 (length (b ∷ bs)) (omega arith)) (lt-leb (length (b ∷ bs)) 0 (omega arith))

pub boundary_suc : (b i : ℕ) (bs : List ℕ) → is_boundary (b ∷ bs) (suc i) ≡ is_boundary bs i
boundary_suc b i bs =
    let t : Bool = begins (slice_index bs i) in
    ap (λ (x : Bool). x && (leb (suc (length bs)) (suc i) || t)) (leb_suc i (length bs)) ∙ ap (λ (x : Bool). leb i (length bs) && (x || t)) (leb_suc (length bs) i)

pub boundary_end : (bs : List ℕ) → is_boundary bs (length bs) ≡ true
boundary_end bs = at_end (leb (length bs) (length bs)) (leb (length bs) (length bs)) (begins (slice_index bs (length bs))) (le-leb (length bs) (length bs) (omega arith)) (le-leb (length bs) (length bs) (omega arith))

pub boundary_within : (bs : List ℕ) (i : ℕ) → is_boundary bs i ≡ true → i ≤ length bs
boundary_within bs i e = leb-true i (length bs) (and_left (leb i (length bs)) (leb (length bs) i || begins (slice_index bs i)) e)

pub boundary_past : (bs : List ℕ) (i : ℕ) → length bs < i → is_boundary bs i ≡ false
boundary_past bs i l = and_no (leb i (length bs)) (leb (length bs) i || begins (slice_index bs i)) (lt-leb i (length bs) l)

boundary_at : (pre : List ℕ) (x : ℕ) (s : List ℕ) → is_boundary (pre ++ x ∷ s) (length pre) ≡ begins x
boundary_at [] x s = boundary_zero x s
boundary_at (y ∷ pre) x s = boundary_suc y (length pre) (pre ++ x ∷ s) ∙ boundary_at pre x s

pub boundary_drop : (n : ℕ) (bs : List ℕ) → n ≤ length bs → is_boundary (drop n bs) 0 ≡ is_boundary bs n
boundary_drop zero bs l = refl
boundary_drop (suc n) [] l = absurd (omega arith)
boundary_drop (suc n) (b ∷ bs) l = boundary_drop n bs (omega arith) ∙ sym (boundary_suc b n bs)

-- ---- ranges that begin and end between characters

abbrev pub AreCut : List ℕ → List Range → Type 0
AreCut bs rs = (r : Range) → In r rs → (is_boundary bs r.0 ≡ true) × (is_boundary bs r.1 ≡ true)

folded_by : (rs : List Range) (i : ℕ) → is_folded rs i ≡ true → (r : Range) × In r rs × (r.0 ≤ i) × (i < r.1)
folded_by [] i e = cc
folded_by (r ∷ rs) i e = elim (or_cases (holds r i) (is_folded rs i) e) [
  | inl x ↦ (r, inl refl, (held r i x).0, (held r i x).1)
  | inr x ↦ let w = folded_by rs i x in (w.0, inr w.1, w.2, w.3)
]

unjoined : (rs : List Range) (i : ℕ) (r : Range) → In r rs → is_joined rs i ≡ false → r.0 < i → i < r.1 → ⊥
unjoined [] i r n e a b = n
unjoined (q ∷ rs) i r (inl x) e a b =
    let y : joins r i ≡ true = and_both (ltb r.0 i) (ltb i r.1) (lt-ltb r.0 i a) (lt-ltb i r.1 b) in
    let z : joins q i ≡ true = subst (λ (p : Range). joins p i ≡ true) x y in
    false≢true (sym e ∙ or_first (joins q i) (is_joined rs i) z)
unjoined (q ∷ rs) i r (inr x) e a b = unjoined rs i r x (or_none (joins q i) (is_joined rs i) e) a b

pub joined_folded : (rs : List Range) (i : ℕ) → is_joined rs i ≡ true → is_folded rs i ≡ true
joined_folded [] i e = e
joined_folded (r ∷ rs) i e = elim (or_cases (joins r i) (is_joined rs i) e) [
  | inl x ↦ let w = joined r i x in let v = w.0 in or_first (holds r i) (is_folded rs i) (and_both (leb r.0 i) (ltb i r.1) (le-leb r.0 i (omega arith)) (lt-ltb i r.1 w.1))
  | inr x ↦ or_second (holds r i) (is_folded rs i) (joined_folded rs i x)
]

module _ (bs : List ℕ) (rs : List Range) (c : AreCut bs rs) where
  -- the first byte of a ⋯ begins a character
  pub first_cut : (i : ℕ) → is_joined rs i ≡ false → is_folded rs i ≡ true → is_boundary bs i ≡ true
  first_cut i j f =
      let w = folded_by rs i f in
      elim (cases_Bool (ltb w.0.0 i)) [
        | inl t ↦ absurd (unjoined rs i w.0 w.1 j (ltb-true w.0.0 i t) w.3)
        | inr t ↦ let u = ltb-false w.0.0 i t in let v = w.2 in let q : w.0.0 ≡ i = omega arith in subst (λ (n : ℕ). is_boundary bs n ≡ true) q (c w.0 w.1).0
      ]

  -- and so does the byte after its last, or the text ends there
  pub after_cut : (i : ℕ) → is_joined rs (suc i) ≡ false → is_folded rs i ≡ true → is_boundary bs (suc i) ≡ true
  after_cut i j f =
      let w = folded_by rs i f in
      elim (cases_Bool (ltb (suc i) w.0.1)) [
        | inl t ↦ let v = w.2 in absurd (unjoined rs (suc i) w.0 w.1 j (omega arith) (ltb-true (suc i) w.0.1 t))
        | inr t ↦ let u = ltb-false (suc i) w.0.1 t in let v = w.3 in let q : w.0.1 ≡ suc i = omega arith in subst (λ (n : ℕ). is_boundary bs n ≡ true) q (c w.0 w.1).1
      ]

-- ---- marks that change between characters

-- marks and bytes of which the one before is folded where p holds: characters begin where a ⋯ begins and after one
abbrev pub IsCut : Bool → List Mark → List ℕ → Type 0
IsCut p [] [] = Unit {0}
IsCut p [] (b ∷ bs) = ⊥
IsCut p (Plain ∷ ms) [] = ⊥
IsCut p (Plain ∷ ms) (b ∷ bs) = (p ≡ true → begins b ≡ true) × IsCut false ms bs
IsCut p (First ∷ ms) [] = ⊥
IsCut p (First ∷ ms) (b ∷ bs) = (begins b ≡ true) × IsCut true ms bs
IsCut p (Inner ∷ ms) [] = ⊥
IsCut p (Inner ∷ ms) (b ∷ bs) = IsCut true ms bs

one_mark : (p q : Bool) (m : Mark) (ms : List Mark) (x : ℕ) (s : List ℕ) → IsCut q ms s → (m ≡ First → begins x ≡ true) → (m ≡ Plain → p ≡ true → begins x ≡ true) → (m ≡ Plain → q ≡ false) → (m ≡ First → q ≡ true) → (m ≡ Inner → q ≡ true) → IsCut p (m ∷ ms) (x ∷ s)
one_mark p q Plain ms x s c a b d e f = (b refl, subst (λ (z : Bool). IsCut z ms s) (d refl) c)
one_mark p q First ms x s c a b d e f = (a refl, subst (λ (z : Bool). IsCut z ms s) (e refl) c)
one_mark p q Inner ms x s c a b d e f = subst (λ (z : Bool). IsCut z ms s) (f refl) c

mark_first : (j f : Bool) → cond j Inner (cond f First Plain) ≡ First → (j ≡ false) × (f ≡ true)
mark_first true f e = cc
mark_first false true e = (refl, refl)
mark_first false false e = cc

mark_plain : (j f : Bool) → cond j Inner (cond f First Plain) ≡ Plain → (j ≡ false) × (f ≡ false)
mark_plain true f e = cc
mark_plain false true e = cc
mark_plain false false e = (refl, refl)

mark_inner : (j f : Bool) → cond j Inner (cond f First Plain) ≡ Inner → j ≡ true
mark_inner true f e = refl
mark_inner false true e = cc
mark_inner false false e = cc

abbrev pub is_after : List Range → ℕ → Bool
is_after rs zero = false
is_after rs (suc i) = is_folded rs i

module _ (whole : List ℕ) (rs : List Range) (c : AreCut whole rs) where
  after_is_cut : (i : ℕ) → is_after rs i ≡ true → is_joined rs i ≡ false → is_boundary whole i ≡ true
  after_is_cut zero e j = cc
  after_is_cut (suc i) e j = after_cut whole rs c i j e

  cut_from : (pre s : List ℕ) (i : ℕ) → whole ≡ pre ++ s → i ≡ length pre → IsCut (is_after rs i) (marks rs i (length s)) s
  cut_from pre [] i e f = tt
  cut_from pre (x ∷ s) i e f =
      let at : is_boundary whole i ≡ begins x = ap (λ (w : List ℕ). is_boundary w i) e ∙ ap (λ (n : ℕ). is_boundary (pre ++ x ∷ s) n) f ∙ boundary_at pre x s in
      let next : suc i ≡ length (pre ++ x ∷ []) = (let g = length_push pre x in omega arith) in
      one_mark (is_after rs i) (is_folded rs i) (mark rs i) (marks rs (suc i) (length s)) x s
      (cut_from (pre ++ x ∷ []) s (suc i) (e ∙ sym (append_assoc pre (x ∷ []) s)) next)
      (λ m. let w = mark_first (is_joined rs i) (is_folded rs i) m in sym at ∙ first_cut whole rs c i w.0 w.1)
      (λ m p. sym at ∙ after_is_cut i p (mark_plain (is_joined rs i) (is_folded rs i) m).0)
      (λ m. (mark_plain (is_joined rs i) (is_folded rs i) m).1)
      (λ m. (mark_first (is_joined rs i) (is_folded rs i) m).1)
      (λ m. joined_folded rs i (mark_inner (is_joined rs i) (is_folded rs i) m))

  pub cut_marks : IsCut false (marks rs 0 (length whole)) whole
  cut_marks = cut_from [] whole 0 refl refl

-- ---- places

place_none : (ms : List Mark) (bs : List ℕ) (b : Bias) → IsCut true ms bs → is_boundary bs (text_place ms 0 b) ≡ true
place_none [] [] b c = boundary_end []
place_none [] (x ∷ bs) b c = absurd c
place_none (Plain ∷ ms) [] b c = absurd c
place_none (Plain ∷ ms) (x ∷ bs) b c = boundary_zero x bs ∙ c.0 refl
place_none (First ∷ ms) [] b c = absurd c
place_none (First ∷ ms) (x ∷ bs) Left c = boundary_zero x bs ∙ c.0
place_none (First ∷ ms) (x ∷ bs) Right c = boundary_zero x bs ∙ c.0
place_none (Inner ∷ ms) [] b c = absurd c
place_none (Inner ∷ ms) (x ∷ bs) b c = boundary_suc x (text_place ms 0 b) bs ∙ place_none ms bs b c

over_plain : (ms : List Mark) (d : ℕ) (b : Bias) → text_place (Plain ∷ ms) (suc d) b ≡ suc (text_place ms d b)
over_plain ms d b = let y : suc d - 1 ≡ d = omega arith in cond_no (eqb (suc d) 0) 0 (suc (text_place ms (suc d - 1) b)) (ne_eqb (suc d) 0 (λ e. omega arith)) ∙ ap (λ (z : ℕ). suc (text_place ms z b)) y

inside_plain : (ms : List Mark) (d : ℕ) → is_inside (Plain ∷ ms) (suc d) ≡ is_inside ms d
inside_plain ms d = let y : suc d - 1 ≡ d = omega arith in test_no (eqb (suc d) 0) false (is_inside ms (suc d - 1)) (ne_eqb (suc d) 0 (λ e. omega arith)) ∙ ap (λ (z : ℕ). is_inside ms z) y

over_first : (ms : List Mark) (m : ℕ) (b : Bias) → text_place (First ∷ ms) (suc (suc (suc m))) b ≡ suc (text_place ms m b)
over_first ms m Left = let y : suc (suc (suc m)) - 3 ≡ m = omega arith in cond_no (ltb (suc (suc (suc m))) 3) 0 (suc (text_place ms (suc (suc (suc m)) - 3) Left)) (le-ltb (suc (suc (suc m))) 3 (omega arith)) ∙ ap (λ (z : ℕ). suc (text_place ms z Left)) y
over_first ms m Right = let y : suc (suc (suc m)) - 3 ≡ m = omega arith in cond_no (eqb (suc (suc (suc m))) 0) 0 (suc (text_place ms (suc (suc (suc m)) - 3) Right)) (ne_eqb (suc (suc (suc m))) 0 (λ e. omega arith)) ∙ ap (λ (z : ℕ). suc (text_place ms z Right)) y

inside_first : (ms : List Mark) (m : ℕ) → is_inside (First ∷ ms) (suc (suc (suc m))) ≡ is_inside ms m
inside_first ms m = let y : suc (suc (suc m)) - 3 ≡ m = omega arith in test_no (ltb (suc (suc (suc m))) 3) (ltb 0 (suc (suc (suc m)))) (is_inside ms (suc (suc (suc m)) - 3)) (le-ltb (suc (suc (suc m))) 3 (omega arith)) ∙ ap (λ (z : ℕ). is_inside ms z) y

inside_low : (ms : List Mark) (d : ℕ) → 0 < d → d < 3 → is_inside (First ∷ ms) d ≡ true
inside_low ms d a l = test_yes (ltb d 3) (ltb 0 d) (is_inside ms (d - 3)) (lt-ltb d 3 l) ∙ lt-ltb 0 d a

-- the first three bytes of what is shown at the first byte of a ⋯
low_place : (ms : List Mark) (x : ℕ) (bs : List ℕ) (b : Bias) (d : ℕ) → begins x ≡ true → IsCut true ms bs → d < 3 → is_boundary (x ∷ bs) (text_place (First ∷ ms) d b) ≡ true
low_place ms x bs Left d g c l = ap (λ (n : ℕ). is_boundary (x ∷ bs) n) (cond_yes (ltb d 3) 0 (suc (text_place ms (d - 3) Left)) (lt-ltb d 3 l)) ∙ boundary_zero x bs ∙ g
low_place ms x bs Right d g c l = elim (cases_Bool (eqb d 0)) [
  | inl t ↦ ap (λ (n : ℕ). is_boundary (x ∷ bs) n) (cond_yes (eqb d 0) 0 (suc (text_place ms (d - 3) Right)) t) ∙ boundary_zero x bs ∙ g
  | inr t ↦ let y : d - 3 ≡ 0 = omega arith in
      ap (λ (n : ℕ). is_boundary (x ∷ bs) n) (cond_no (eqb d 0) 0 (suc (text_place ms (d - 3) Right)) t ∙ ap (λ (z : ℕ). suc (text_place ms z Right)) y) ∙ boundary_suc x (text_place ms 0 Right) bs ∙ place_none ms bs Right c
]

low_shown : (ms : List Mark) (x : ℕ) (bs : List ℕ) (d : ℕ) → d < 3 → (is_boundary (show (First ∷ ms) (x ∷ bs)) d || is_inside (First ∷ ms) d) ≡ true
low_shown ms x bs zero l = or_first (is_boundary (show (First ∷ ms) (x ∷ bs)) 0) (is_inside (First ∷ ms) 0) (boundary_zero 226 (139 ∷ 175 ∷ show ms bs))
low_shown ms x bs (suc d) l = or_second (is_boundary (show (First ∷ ms) (x ∷ bs)) (suc d)) (is_inside (First ∷ ms) (suc d)) (inside_low ms (suc d) (omega arith) l)

-- a place of what is shown is one between characters or inside a ⋯ exactly where the place of it is between characters
pub places_match : (ms : List Mark) (bs : List ℕ) (p : Bool) (b : Bias) (d : ℕ) → IsCut p ms bs → d ≤ shown_len ms → is_boundary bs (text_place ms d b) ≡ (is_boundary (show ms bs) d || is_inside ms d)
places_match [] [] p b d c l = let z : 0 ≡ d = (let m : d ≤ 0 = l in omega arith) in or_false (is_boundary [] 0) ∙ ap (λ (n : ℕ). is_boundary [] n || false) z
places_match [] (x ∷ bs) p b d c l = absurd c
places_match (Plain ∷ ms) [] p b d c l = absurd c
places_match (Plain ∷ ms) (x ∷ bs) p b zero c l = boundary_zero x bs ∙ or_false (begins x) ∙ ap (λ (t : Bool). t || false) (sym (boundary_zero x (show ms bs)))
places_match (Plain ∷ ms) (x ∷ bs) p b (suc d) c l =
    let m : suc d ≤ 1 + shown_len ms = l in
    ap (λ (n : ℕ). is_boundary (x ∷ bs) n) (over_plain ms d b) ∙ boundary_suc x (text_place ms d b) bs ∙ places_match ms bs false b d c.1 (omega arith)
    ∙ sym (or_same (is_boundary (x ∷ show ms bs) (suc d)) (is_boundary (show ms bs) d) (is_inside (Plain ∷ ms) (suc d)) (is_inside ms d) (boundary_suc x d (show ms bs)) (inside_plain ms d))
places_match (First ∷ ms) [] p b d c l = absurd c
places_match (First ∷ ms) (x ∷ bs) p b (suc (suc (suc d))) c l =
    let m : suc (suc (suc d)) ≤ 3 + shown_len ms = l in
    let three : is_boundary (show (First ∷ ms) (x ∷ bs)) (suc (suc (suc d))) ≡ is_boundary (show ms bs) d = boundary_suc 226 (suc (suc d)) (139 ∷ 175 ∷ show ms bs) ∙ boundary_suc 139 (suc d) (175 ∷ show ms bs) ∙ boundary_suc 175 d (show ms bs) in
    ap (λ (n : ℕ). is_boundary (x ∷ bs) n) (over_first ms d b) ∙ boundary_suc x (text_place ms d b) bs ∙ places_match ms bs true b d c.1 (omega arith)
    ∙ sym (or_same (is_boundary (show (First ∷ ms) (x ∷ bs)) (suc (suc (suc d)))) (is_boundary (show ms bs) d) (is_inside (First ∷ ms) (suc (suc (suc d)))) (is_inside ms d) three (inside_first ms d))
places_match (First ∷ ms) (x ∷ bs) p b zero c l = low_place ms x bs b 0 c.0 c.1 (omega arith) ∙ sym (low_shown ms x bs 0 (omega arith))
places_match (First ∷ ms) (x ∷ bs) p b (suc zero) c l = low_place ms x bs b 1 c.0 c.1 (omega arith) ∙ sym (low_shown ms x bs 1 (omega arith))
places_match (First ∷ ms) (x ∷ bs) p b (suc (suc zero)) c l = low_place ms x bs b 2 c.0 c.1 (omega arith) ∙ sym (low_shown ms x bs 2 (omega arith))
places_match (Inner ∷ ms) [] p b d c l = absurd c
places_match (Inner ∷ ms) (x ∷ bs) p b d c l = let m : d ≤ 0 + shown_len ms = l in boundary_suc x (text_place ms d b) bs ∙ places_match ms bs true b d c (omega arith)

-- ---- past the end

pub length_show : (ms : List Mark) (bs : List ℕ) → length ms ≡ length bs → length (show ms bs) ≡ shown_len ms
length_show [] bs e = refl
length_show (m ∷ ms) [] e = absurd (omega (arith, e))
length_show (Plain ∷ ms) (b ∷ bs) e = let r = length_show ms bs (omega (arith, e)) in omega (arith, r)
length_show (First ∷ ms) (b ∷ bs) e = let r = length_show ms bs (omega (arith, e)) in omega (arith, r)
length_show (Inner ∷ ms) (b ∷ bs) e = let r = length_show ms bs (omega (arith, e)) in omega (arith, r)

pub inside_past : (ms : List Mark) (d : ℕ) → shown_len ms ≤ d → is_inside ms d ≡ false
inside_past [] d l = refl
inside_past (Plain ∷ ms) zero l = absurd (let m : 1 + shown_len ms ≤ 0 = l in omega arith)
inside_past (Plain ∷ ms) (suc d) l = let m : 1 + shown_len ms ≤ suc d = l in inside_plain ms d ∙ inside_past ms d (omega arith)
inside_past (First ∷ ms) (suc (suc (suc d))) l = let m : 3 + shown_len ms ≤ suc (suc (suc d)) = l in inside_first ms d ∙ inside_past ms d (omega arith)
inside_past (First ∷ ms) zero l = absurd (let m : 3 + shown_len ms ≤ 0 = l in omega arith)
inside_past (First ∷ ms) (suc zero) l = absurd (let m : 3 + shown_len ms ≤ 1 = l in omega arith)
inside_past (First ∷ ms) (suc (suc zero)) l = absurd (let m : 3 + shown_len ms ≤ 2 = l in omega arith)
inside_past (Inner ∷ ms) d l = let m : 0 + shown_len ms ≤ d = l in inside_past ms d (omega arith)

pub none_past : (ms : List Mark) (bs : List ℕ) (d : ℕ) → length ms ≡ length bs → shown_len ms < d → (is_boundary (show ms bs) d || is_inside ms d) ≡ false
none_past ms bs d e l =
    let n = length_show ms bs e in
    or_same (is_boundary (show ms bs) d) false (is_inside ms d) false (boundary_past (show ms bs) d (omega arith)) (inside_past ms d (omega arith))

-- ---- along spans

-- a place that is not inside a ⋯, after a byte that is folded
pub cut_here : (ms : List Mark) (bs : List ℕ) → IsCut true ms bs → begins_inner ms ≡ false → is_boundary bs 0 ≡ true
cut_here [] [] c e = boundary_end []
cut_here [] (x ∷ bs) c e = absurd c
cut_here (Plain ∷ ms) [] c e = absurd c
cut_here (Plain ∷ ms) (x ∷ bs) c e = boundary_zero x bs ∙ c.0 refl
cut_here (First ∷ ms) [] c e = absurd c
cut_here (First ∷ ms) (x ∷ bs) c e = boundary_zero x bs ∙ c.0
cut_here (Inner ∷ ms) bs c e = cc

pub cut_rest : (ms ns : List Mark) (p : Bool) (bs : List ℕ) → IsCut p (ms ++ ns) bs → (q : Bool) × IsCut q ns (drop (length ms) bs)
cut_rest [] ns p bs c = (p, c)
cut_rest (Plain ∷ ms) ns p [] c = absurd c
cut_rest (Plain ∷ ms) ns p (x ∷ bs) c = cut_rest ms ns false bs c.1
cut_rest (First ∷ ms) ns p [] c = absurd c
cut_rest (First ∷ ms) ns p (x ∷ bs) c = cut_rest ms ns true bs c.1
cut_rest (Inner ∷ ms) ns p [] c = absurd c
cut_rest (Inner ∷ ms) ns p (x ∷ bs) c = cut_rest ms ns true bs c
