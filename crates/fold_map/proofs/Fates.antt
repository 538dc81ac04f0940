-- Ranges of folds after what became of cells: bytes that are kept are past the same ends.
use Rattle.std.proofs.Common.{◌≡◌, inl, inr, ℕ, zero, suc, ◌+◌, ◌-◌, ◌≤◌, ◌<◌, Bool, true, false, cond, List, [], ◌∷◌, ◌++◌, map, take, refl, sym, ap, ◌∙◌, subst, arith, append_assoc, append-nil}
use Rattle.std.specs.Prelude.{◌⊎◌, nat_le}
use Rattle.std.proofs.lemmas.Bool.{cases_lt}
use Rattle.std.proofs.lemmas.Bool.Decides.{nat_tests}
use Rattle.op_model.specs.declared.anchor.TextEdit.{TextEdit}
use Rattle.op_model.specs.Since.{Fate, lengthen, runs, number_gone, number_new, changes, edits_of}
use Rattle.op_model.specs.Since.Fate.{Kept, Gone, New, Never}
use Rattle.op_model.specs.Places.{number_then, number_now}
use Rattle.fold_spans.specs.Marks.{Range}
use Rattle.fold_spans.specs.Parts.{AllStay, AreKept, Edit, LieBetween, last_end}

-- ---- the cells before a gap, and those before a kept cell

zero_low : (a b : ℕ) → nat_le 0 a ≡ nat_le 0 b
zero_low a b = grind (arith, nat_tests)

suc_high : (a b : ℕ) → nat_le (suc a) 0 ≡ nat_le (suc b) 0
suc_high a b = grind (arith, nat_tests)

suc_both : (a b : ℕ) → nat_le (suc a) (suc b) ≡ nat_le a b
suc_both a b = grind (arith, nat_tests)

-- as many are shown then before the gap as before the kept cell at most, exactly where as many are now
pub passed_alike : (pre post : List Fate) (g : ℕ) → nat_le (number_then (take g (pre ++ Kept ∷ post))) (number_then pre) ≡ nat_le (number_now (take g (pre ++ Kept ∷ post))) (number_now pre)
passed_alike [] post zero = refl
passed_alike [] post (suc g) = suc_high (number_then (take g post)) (number_now (take g post))
passed_alike (c ∷ pre) post zero = zero_low (number_then (c ∷ pre)) (number_now (c ∷ pre))
passed_alike (Kept ∷ pre) post (suc g) =
    suc_both (number_then (take g (pre ++ Kept ∷ post))) (number_then pre) ∙ passed_alike pre post g ∙ sym (suc_both (number_now (take g (pre ++ Kept ∷ post))) (number_now pre))
passed_alike (Gone ∷ pre) post (suc g) = suc_both (number_then (take g (pre ++ Kept ∷ post))) (number_then pre) ∙ passed_alike pre post g
passed_alike (New ∷ pre) post (suc g) = passed_alike pre post g ∙ sym (suc_both (number_now (take g (pre ++ Kept ∷ post))) (number_now pre))
passed_alike (Never ∷ pre) post (suc g) = passed_alike pre post g

-- ---- numbers of cells of two lists

then_add : (p s : List Fate) → number_then (p ++ s) ≡ number_then p + number_then s
then_add [] s = omega arith
then_add (Kept ∷ p) s = let e = then_add p s in omega arith
then_add (Gone ∷ p) s = let e = then_add p s in omega arith
then_add (New ∷ p) s = then_add p s
then_add (Never ∷ p) s = then_add p s

now_add : (p s : List Fate) → number_now (p ++ s) ≡ number_now p + number_now s
now_add [] s = omega arith
now_add (Kept ∷ p) s = let e = now_add p s in omega arith
now_add (Gone ∷ p) s = now_add p s
now_add (New ∷ p) s = let e = now_add p s in omega arith
now_add (Never ∷ p) s = now_add p s

gone_add : (p s : List Fate) → number_gone (p ++ s) ≡ number_gone p + number_gone s
gone_add [] s = omega arith
gone_add (Kept ∷ p) s = gone_add p s
gone_add (Gone ∷ p) s = let e = gone_add p s in omega arith
gone_add (New ∷ p) s = gone_add p s
gone_add (Never ∷ p) s = gone_add p s

new_add : (p s : List Fate) → number_new (p ++ s) ≡ number_new p + number_new s
new_add [] s = omega arith
new_add (Kept ∷ p) s = new_add p s
new_add (Gone ∷ p) s = new_add p s
new_add (New ∷ p) s = let e = new_add p s in omega arith
new_add (Never ∷ p) s = new_add p s

none_changed : (u : List Fate) → changes u ≡ false → (number_gone u ≡ 0) × (number_new u ≡ 0)
none_changed [] e = (refl, refl)
none_changed (Kept ∷ u) e = none_changed u e
none_changed (Gone ∷ u) e = cc
none_changed (New ∷ u) e = cc
none_changed (Never ∷ u) e = none_changed u e

-- ---- runs with some cells before them

abbrev prepend : List Fate → List (List Fate) → List (List Fate)
prepend u [] = u ∷ []
prepend u (r ∷ rs) = (u ++ r) ∷ rs

prepend_more : (u : List Fate) (z : Fate) (rs : List (List Fate)) → prepend u (lengthen z rs) ≡ prepend (u ++ z ∷ []) rs
prepend_more u z [] = refl
prepend_more u z (r ∷ rs) = ap (λ (x : List Fate). x ∷ rs) (sym (append_assoc u (z ∷ []) r))

prepend_last : (u : List Fate) (rs : List (List Fate)) → prepend u ([] ∷ rs) ≡ u ∷ rs
prepend_last u rs = ap (λ (x : List Fate). x ∷ rs) (append-nil u)

lengthened : (z : Fate) (rs : List (List Fate)) → prepend [] (lengthen z rs) ≡ lengthen z rs
lengthened z [] = refl
lengthened z (r ∷ rs) = refl

prepend_none : (s : List Fate) → prepend [] (runs s) ≡ runs s
prepend_none [] = refl
prepend_none (Kept ∷ s) = refl
prepend_none (Gone ∷ s) = lengthened Gone (runs s)
prepend_none (New ∷ s) = lengthened New (runs s)
prepend_none (Never ∷ s) = lengthened Never (runs s)

-- ---- edits, and kept bytes between them

abbrev pub as_edit : TextEdit → Edit
as_edit e = record { old = e.old; new = e.new }

abbrev run_edit : ℕ → ℕ → List Fate → TextEdit
run_edit a b u = record { old = (a, a + number_gone u); new = (b, b + number_new u) }

-- no new range is reversed
abbrev pub AreOrdered : List Edit → Type 0
AreOrdered [] = Unit {0}
AreOrdered (e ∷ es) = (e.new.0 ≤ e.new.1) × AreOrdered es

-- the bytes after the last edit are as many in the old text of N bytes as in the new one of M
pub record IsEnd (N M x y : ℕ) (es : List Edit) : Type 0 where
  pub length : M ≡ (last_end (x, y) es).1 + (N - (last_end (x, y) es).0)
  pub within : (last_end (x, y) es).0 ≤ N
  pub grows : y ≤ (last_end (x, y) es).1
  pub ordered : AreOrdered es

module _ (F : List Fate) (N M : ℕ) (rs qs : List Range) (all : N ≡ number_then F) (all_now : M ≡ number_now F) (stays : (pre post : List Fate) → F ≡ pre ++ Kept ∷ post → AllStay rs qs (number_then pre) (number_now pre)) where
  -- the fates pre are passed, of which the last ones are the run u, which begins at a and b; the last edit ends at x and y
  record IsAt (pre u : List Fate) (x y a b : ℕ) : Type 0 where
    old : a + number_gone u ≡ number_then pre
    new : b + number_new u ≡ number_now pre
    order : x ≤ a
    moved : b ≡ y + (a - x)
    kept : AreKept rs qs x y (a - x)

  one_more : (pre u : List Fate) (x y a b : ℕ) (z : Fate) (g m : ℕ) → number_gone (z ∷ []) ≡ g → number_then (z ∷ []) ≡ g → number_new (z ∷ []) ≡ m → number_now (z ∷ []) ≡ m → IsAt pre u x y a b → IsAt (pre ++ z ∷ []) (u ++ z ∷ []) x y a b
  one_more pre u x y a b z g m c d e f i = record {
    old = let p = gone_add u (z ∷ []) in let q = then_add pre (z ∷ []) in let o = i.old in omega (arith, p, q, o, c, d);
    new = let p = new_add u (z ∷ []) in let q = now_add pre (z ∷ []) in let o = i.new in omega (arith, p, q, o, e, f);
    order = i.order;
    moved = i.moved;
    kept = i.kept;
  }

  -- a kept cell ends the run
  byte : (pre s u : List Fate) (x y a b : ℕ) → F ≡ pre ++ Kept ∷ s → IsAt pre u x y a b → AllStay rs qs (a + number_gone u) (b + number_new u)
  byte pre s u x y a b e i = subst (λ (k : ℕ). AllStay rs qs (a + number_gone u) k) (sym i.new) (subst (λ (k : ℕ). AllStay rs qs k (number_now pre)) (sym i.old) (stays pre s e))

  at_place : (i j k l : ℕ) → k ≡ i → l ≡ j → AllStay rs qs i j → AllStay rs qs k l
  at_place i j k l e f s = subst (λ (n : ℕ). AllStay rs qs k n) (sym f) (subst (λ (n : ℕ). AllStay rs qs n j) (sym e) s)

  after_edit : (pre s u : List Fate) (x y a b : ℕ) → F ≡ pre ++ Kept ∷ s → IsAt pre u x y a b
      → IsAt (pre ++ Kept ∷ []) [] (a + number_gone u) (b + number_new u) (suc (a + number_gone u)) (suc (b + number_new u))
  after_edit pre s u x y a b e i = record {
    old = let q = then_add pre (Kept ∷ []) in let o = i.old in omega (arith, q, o);
    new = let q = now_add pre (Kept ∷ []) in let o = i.new in omega (arith, q, o);
    order = omega arith;
    moved = omega arith;
    kept = λ k l. (let z : k ≡ 0 = omega (arith, l) in at_place (a + number_gone u) (b + number_new u) (a + number_gone u + k) (b + number_new u + k) (omega (arith, z)) (omega (arith, z)) (byte pre s u x y a b e i));
  }

  without_edit : (pre s u : List Fate) (x y a b : ℕ) → F ≡ pre ++ Kept ∷ s → number_gone u ≡ 0 → number_new u ≡ 0 → IsAt pre u x y a b → IsAt (pre ++ Kept ∷ []) [] x y (suc (a + number_gone u)) (suc (b + number_new u))
  without_edit pre s u x y a b e g m i = record {
    old = let q = then_add pre (Kept ∷ []) in let o = i.old in omega (arith, q, o);
    new = let q = now_add pre (Kept ∷ []) in let o = i.new in omega (arith, q, o);
    order = let o = i.order in omega (arith, o);
    moved = let o = i.order in let p = i.moved in omega (arith, o, p, g, m);
    kept = λ k l. go k l (cases_lt k (a - x));
  }
    where
      go : (k : ℕ) → k < suc (a + number_gone u) - x → (k < a - x) ⊎ (a - x ≤ k) → AllStay rs qs (x + k) (y + k)
      go k l (inl t) = i.kept k t
      go k l (inr t) = let o = i.order in let p = i.moved in
          at_place (a + number_gone u) (b + number_new u) (x + k) (y + k) (omega (arith, o, l, t, g)) (omega (arith, o, p, l, t, g, m)) (byte pre s u x y a b e i)

  -- the edits from a run on
  abbrev Lie : ℕ → ℕ → List TextEdit → Type 0
  Lie x y es = LieBetween rs qs N x y (map as_edit es) × IsEnd N M x y (map as_edit es)

  at_end : (t : Bool) (pre u : List Fate) (x y a b : ℕ) → F ≡ pre ++ [] → t ≡ changes u → IsAt pre u x y a b → Lie x y (cond t (run_edit a b u ∷ []) [])
  at_end true pre u x y a b e c i =
      let whole : N ≡ a + number_gone u = all ∙ ap number_then (e ∙ append-nil pre) ∙ sym i.old in
      let new : M ≡ b + number_new u = all_now ∙ ap number_now (e ∙ append-nil pre) ∙ sym i.new in
      let o = i.order in
      let m = i.moved in (
        (i.order, i.moved, i.kept, omega arith, λ k l. absurd (omega (arith, l, whole))),
        record { length = omega (arith, whole, new); within = omega (arith, whole); grows = omega (arith, m); ordered = (omega arith, tt) },
      )
  at_end false pre u x y a b e c i =
      let whole : N ≡ a + number_gone u = all ∙ ap number_then (e ∙ append-nil pre) ∙ sym i.old in
      let new : M ≡ b + number_new u = all_now ∙ ap number_now (e ∙ append-nil pre) ∙ sym i.new in
      let g = (none_changed u (sym c)).0 in
      let h = (none_changed u (sym c)).1 in
      let o = i.order in
      let m = i.moved in
      let n : a - x ≡ N - x = omega (arith, whole, g) in
      (subst (AreKept rs qs x y) n i.kept, record { length = omega (arith, whole, new, g, h, o, m); within = omega (arith, whole, o); grows = omega arith; ordered = tt })

  at_kept : (t : Bool) (pre s u : List Fate) (x y a b : ℕ) → F ≡ pre ++ Kept ∷ s → t ≡ changes u → IsAt pre u x y a b
      → ((x y : ℕ) → IsAt (pre ++ Kept ∷ []) [] x y (suc (a + number_gone u)) (suc (b + number_new u)) → Lie x y (edits_of (suc (a + number_gone u)) (suc (b + number_new u)) (runs s)))
      → Lie x y (cond t (run_edit a b u ∷ edits_of (suc (a + number_gone u)) (suc (b + number_new u)) (runs s)) (edits_of (suc (a + number_gone u)) (suc (b + number_new u)) (runs s)))
  at_kept true pre s u x y a b e c i f =
      let w = f (a + number_gone u) (b + number_new u) (after_edit pre s u x y a b e i) in
      let o = i.order in
      let m = i.moved in
      let g = w.1.grows in
      ((i.order, i.moved, i.kept, omega arith, w.0), record { length = w.1.length; within = w.1.within; grows = omega (arith, m, g); ordered = (omega arith, w.1.ordered) })
  at_kept false pre s u x y a b e c i f = let w = none_changed u (sym c) in f x y (without_edit pre s u x y a b e w.0 w.1 i)

  on : (z : Fate) (s pre u : List Fate) (x y a b : ℕ) → Lie x y (edits_of a b (prepend (u ++ z ∷ []) (runs s))) → Lie x y (edits_of a b (prepend u (lengthen z (runs s))))
  on z s pre u x y a b l = subst (λ (xs : List (List Fate)). Lie x y (edits_of a b xs)) (sym (prepend_more u z (runs s))) l

  lie : (s pre u : List Fate) (x y a b : ℕ) → F ≡ pre ++ s → IsAt pre u x y a b → Lie x y (edits_of a b (prepend u (runs s)))
  lie [] pre u x y a b e i = subst (λ (xs : List (List Fate)). Lie x y (edits_of a b xs)) (sym (prepend_last u [])) (at_end (changes u) pre u x y a b e refl i)
  lie (Kept ∷ s) pre u x y a b e i =
      subst (λ (xs : List (List Fate)). Lie x y (edits_of a b xs)) (sym (prepend_last u (runs s)))
      (at_kept (changes u) pre s u x y a b e refl i
      (λ v w j. subst (λ (xs : List (List Fate)). Lie v w (edits_of (suc (a + number_gone u)) (suc (b + number_new u)) xs)) (prepend_none s)
      (lie s (pre ++ Kept ∷ []) [] v w (suc (a + number_gone u)) (suc (b + number_new u)) (e ∙ sym (append_assoc pre (Kept ∷ []) s)) j)))
  lie (Gone ∷ s) pre u x y a b e i = on Gone s pre u x y a b (lie s (pre ++ Gone ∷ []) (u ++ Gone ∷ []) x y a b (e ∙ sym (append_assoc pre (Gone ∷ []) s)) (one_more pre u x y a b Gone 1 0 refl refl refl refl i))
  lie (New ∷ s) pre u x y a b e i = on New s pre u x y a b (lie s (pre ++ New ∷ []) (u ++ New ∷ []) x y a b (e ∙ sym (append_assoc pre (New ∷ []) s)) (one_more pre u x y a b New 0 1 refl refl refl refl i))
  lie (Never ∷ s) pre u x y a b e i = on Never s pre u x y a b (lie s (pre ++ Never ∷ []) (u ++ Never ∷ []) x y a b (e ∙ sym (append_assoc pre (Never ∷ []) s)) (one_more pre u x y a b Never 0 0 refl refl refl refl i))

  pub edits_lie_between : Lie 0 0 (edits_of 0 0 (runs F))
  edits_lie_between = subst (λ (xs : List (List Fate)). Lie 0 0 (edits_of 0 0 xs)) (prepend_none F)
      (lie F [] [] 0 0 0 0 refl (record { old = refl; new = refl; order = omega arith; moved = refl; kept = λ k l. absurd (omega (arith, l)) }))
