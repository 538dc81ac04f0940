-- Lists of edits in parts: the first ones, and some last ones.
use Rattle.std.proofs.Common.{◌≡◌, ℕ, zero, suc, ◌+◌, ◌-◌, ◌≤◌, ◌<◌, List, [], ◌∷◌, ◌++◌, length, map, take, drop, get_or, Some, refl, sym, ap, ◌∙◌, subst, arith, append_assoc}
use Rattle.std.specs.Prelude.{slice_get}
use Rattle.std.proofs.lemmas.List.{map-append, take-append-drop, take-take, length-drop, length-take}
use Rattle.std.proofs.lemmas.Option.{same_Some, slice_get-get_or}
use Rattle.op_model.specs.declared.anchor.TextEdit.{TextEdit}
use Rattle.fold_spans.specs.Marks.{Range}
use Rattle.fold_spans.specs.Found.{IsTouching}
use Rattle.fold_spans.specs.Parts.{AreKept, Edit, LieBetween, last_end}
use Rattle.fold_spans.specs.declared.span.Span.{Span}
use Rattle.fold_spans.specs.declared.touching.Touching.{Touching}
use Rattle.fold_map.specs.Windows.{last_of, AreInOrder, IsRunFrom, IsLastWindow}
use Rattle.fold_map.proofs.Fates.{as_edit, AreOrdered}

-- ---- ends

pub last_end_parts : (p : ℕ × ℕ) (fs bs : List Edit) → last_end p (fs ++ bs) ≡ last_end (last_end p fs) bs
last_end_parts p [] bs = refl
last_end_parts p (e ∷ fs) bs = last_end_parts (e.old.1, e.new.1) fs bs

pub last_end_of : (e : TextEdit) (es : List TextEdit) → last_end (e.old.1, e.new.1) (map as_edit es) ≡ ((last_of e es).old.1, (last_of e es).new.1)
last_end_of e [] = refl
last_end_of e (x ∷ es) = last_end_of x es

-- the end of the last of some first edits
pub last_end_at : (p : ℕ × ℕ) (es : List TextEdit) (k : ℕ) (x : TextEdit) → slice_get es k ≡ Some x → last_end p (map as_edit (take (suc k) es)) ≡ (x.old.1, x.new.1)
last_end_at p [] k x e = cc
last_end_at p (y ∷ es) zero x e = ap (λ (z : TextEdit). (z.old.1, z.new.1)) (same_Some y x e)
last_end_at p (y ∷ es) (suc k) x e = last_end_at (y.old.1, y.new.1) es k x e

-- ---- kept bytes, in parts

module _ (rs qs : List Range) (n : ℕ) where
  pub between_parts : (x y : ℕ) (fs bs : List Edit) → LieBetween rs qs n x y (fs ++ bs) → LieBetween rs qs n (last_end (x, y) fs).0 (last_end (x, y) fs).1 bs
  between_parts x y [] bs l = l
  between_parts x y (e ∷ fs) bs l = between_parts e.old.1 e.new.1 fs bs l.4

  pub last_kept : (x y : ℕ) (es : List Edit) → LieBetween rs qs n x y es → AreKept rs qs (last_end (x, y) es).0 (last_end (x, y) es).1 (n - (last_end (x, y) es).0)
  last_kept x y [] l = l
  last_kept x y (e ∷ es) l = last_kept e.old.1 e.new.1 es l.4

  pub old_ends : (x y : ℕ) (fs bs : List Edit) → LieBetween rs qs n x y (fs ++ bs) → x ≤ (last_end (x, y) fs).0
  old_ends x y [] bs l = omega arith
  old_ends x y (e ∷ fs) bs l = let i = old_ends e.old.1 e.new.1 fs bs l.4 in let a = l.0 in let b = l.3 in omega (arith, i, a, b)

  pub new_ends : (x y : ℕ) (fs bs : List Edit) → LieBetween rs qs n x y (fs ++ bs) → AreOrdered (fs ++ bs) → y ≤ (last_end (x, y) fs).1
  new_ends x y [] bs l o = omega arith
  new_ends x y (e ∷ fs) bs l o = let i = new_ends e.old.1 e.new.1 fs bs l.4 o.1 in let a = l.1 in let b = o.0 in omega (arith, i, a, b)

pub ordered_part : (fs bs : List Edit) → AreOrdered (fs ++ bs) → AreOrdered bs
ordered_part [] bs o = o
ordered_part (e ∷ fs) bs o = ordered_part fs bs o.1

-- ---- the edits from index n on of the first l

module _ (es : List TextEdit) (l n : ℕ) (e : TextEdit) (others : List TextEdit) (d : drop n (take l es) ≡ e ∷ others) where
  abbrev firsts : List TextEdit
  firsts = take l es

  pub is_less : n < length firsts
  is_less = let a = length-drop n firsts in let b = ap length d in omega (arith, a, b)

  pub is_before : n < l
  is_before = let a = is_less in let b = length-take l es in omega (arith, a, b)

  pub fewer : take n firsts ≡ take n es
  fewer = let b = is_before in take-take n l es (omega (arith, b))

  pub first_parts : firsts ≡ take n es ++ (e ∷ others)
  first_parts = sym (take-append-drop n firsts) ∙ ap (λ (xs : List TextEdit). take n firsts ++ xs) d ∙ ap (λ (xs : List TextEdit). xs ++ (e ∷ others)) fewer

  pub all_parts : map as_edit es ≡ map as_edit (take n es) ++ (as_edit e ∷ (map as_edit others ++ map as_edit (drop l es)))
  all_parts =
      ap (map as_edit) (sym (take-append-drop l es)) ∙ map-append as_edit firsts (drop l es)
      ∙ ap (λ (xs : List TextEdit). map as_edit xs ++ map as_edit (drop l es)) first_parts
      ∙ ap (λ (xs : List Edit). xs ++ map as_edit (drop l es)) (map-append as_edit (take n es) (e ∷ others))
      ∙ append_assoc (map as_edit (take n es)) (as_edit e ∷ map as_edit others) (map as_edit (drop l es))

  -- where the first l of them end
  pub ends_there : last_end (0, 0) (map as_edit firsts) ≡ ((last_of e others).old.1, (last_of e others).new.1)
  ends_there =
      ap (λ (xs : List TextEdit). last_end (0, 0) (map as_edit xs)) first_parts
      ∙ ap (last_end (0, 0)) (map-append as_edit (take n es) (e ∷ others))
      ∙ last_end_parts (0, 0) (map as_edit (take n es)) (as_edit e ∷ map as_edit others)
      ∙ last_end_of e others

  pub ends_before_it : (k : ℕ) (x : TextEdit) → suc k ≡ n → slice_get firsts k ≡ Some x → last_end (0, 0) (map as_edit (take n es)) ≡ (x.old.1, x.new.1)
  ends_before_it k x s q =
      ap (λ (xs : List TextEdit). last_end (0, 0) (map as_edit xs)) (sym fewer)
      ∙ ap (λ (i : ℕ). last_end (0, 0) (map as_edit (take i firsts))) (sym s)
      ∙ last_end_at (0, 0) firsts k x q

-- ---- the last edits that share spans

last_alone : (es : List TextEdit) (i : ℕ) (x : TextEdit) → suc i ≡ length es → slice_get es i ≡ Some x → drop i es ≡ x ∷ []
last_alone [] i x l e = cc
last_alone (y ∷ es) (suc i) x l e = last_alone es i x (omega (arith, l)) e
last_alone (y ∷ []) zero x l e = ap (λ (z : TextEdit). z ∷ []) (same_Some y x e)
last_alone (y ∷ z ∷ es) zero x l e = absurd (omega (arith, l))

one_before : (es : List TextEdit) (i : ℕ) (x : TextEdit) → slice_get es i ≡ Some x → drop i es ≡ x ∷ drop (suc i) es
one_before [] i x e = cc
one_before (y ∷ es) (suc i) x e = one_before es i x e
one_before (y ∷ es) zero x e = ap (λ (z : TextEdit). z ∷ es) (same_Some y x e)

pub some_last : (es : List TextEdit) (x : TextEdit) → Some x ≡ slice_get es (length es - 1) → suc (length es - 1) ≡ length es
some_last [] x e = cc
some_last (y ∷ es) x e = omega arith

-- the edits from index n on, of which x is the last, and the run of their spans
pub record Sharing (ss : List Span) (es : List TextEdit) (x : TextEdit) (n : ℕ) (t : Touching) : Type 0 where
  pub window : IsRunFrom ss es n t
  pub last : last_of window.first window.others ≡ x

module _ (ss : List Span) (es : List TextEdit) (x : TextEdit) where
  pub one_shares : (n : ℕ) (t : Touching) → suc n ≡ length es → slice_get es n ≡ Some x → IsTouching ss x.old.0 x.old.1 t → Sharing ss es x n t
  one_shares n t l e i = record { window = record { first = x; others = []; edits = last_alone es n x l e; run = i }; last = refl }

  pub last_in_order : (n : ℕ) → AreInOrder es → suc n ≡ length es → slice_get es n ≡ Some x → x.old.0 ≤ x.old.1
  last_in_order n o l e = o (take n es) x [] (sym (take-append-drop n es) ∙ ap (λ (xs : List TextEdit). take n es ++ xs) (last_alone es n x l e))

  module _ (n : ℕ) (t : Touching) (s : Sharing ss es x n t) where
    -- the edit before them
    pub previous : (k : ℕ) (d : TextEdit) → suc k ≡ n → slice_get es k ≡ Some (get_or es k d)
    previous k d p = let a = length-drop n es in let b = ap length s.window.edits in slice_get-get_or es k d (omega (arith, a, b, p))

    module _ (k : ℕ) (e : TextEdit) (p : suc k ≡ n) (q : slice_get es k ≡ Some e) where
      with_one : drop k es ≡ e ∷ (s.window.first ∷ s.window.others)
      with_one = one_before es k e q ∙ ap (λ (i : ℕ). e ∷ drop i es) p ∙ ap (λ (xs : List TextEdit). e ∷ xs) s.window.edits

      pub one_more_in_order : AreInOrder es → e.old.0 ≤ x.old.1
      one_more_in_order o =
          let a = o (take k es) e (s.window.first ∷ s.window.others) (sym (take-append-drop k es) ∙ ap (λ (xs : List TextEdit). take k es ++ xs) with_one) in
          let b = ap (λ (y : TextEdit). y.old.1) s.last in omega (arith, a, b)

      pub one_more_shares : (u : Touching) → IsTouching ss e.old.0 x.old.1 u → Sharing ss es x k u
      one_more_shares u i = record {
        window = record { first = e; others = s.window.first ∷ s.window.others; edits = with_one; run = subst (λ (y : TextEdit). IsTouching ss e.old.0 y.old.1 u) (sym s.last) i };
        last = s.last;
      }

    pub is_first : n ≡ 0 → IsLastWindow ss es (Some (n, t))
    is_first z = (s.window, λ k y p q. absurd (omega (arith, z, p)))

    pub is_apart : (k : ℕ) (e : TextEdit) → suc k ≡ n → slice_get es k ≡ Some e → e.old.1 < t.start → IsLastWindow ss es (Some (n, t))
    is_apart k e p q l = (s.window, λ j y r u. before j y r u)
      where
        before : (j : ℕ) (y : TextEdit) → suc j ≡ n → slice_get es j ≡ Some y → y.old.1 < t.start
        before j y r u =
            let i : j ≡ k = omega (arith, p, r) in
            let z : e ≡ y = same_Some e y (sym q ∙ ap (slice_get es) (sym i) ∙ u) in
            subst (λ (w : TextEdit). w.old.1 < t.start) z l

-- ---- edits by their indexes

same_head : (x y : TextEdit) (xs ys : List TextEdit) → x ∷ xs ≡ y ∷ ys → x ≡ y
same_head x y xs ys e = cc

same_tail : (x y : TextEdit) (xs ys : List TextEdit) → x ∷ xs ≡ y ∷ ys → xs ≡ ys
same_tail x y xs ys e = cc

pub first_is : (es : List TextEdit) (l n : ℕ) (e : TextEdit) (others : List TextEdit) (x : TextEdit) → drop n (take l es) ≡ e ∷ others → slice_get es n ≡ Some x → x ≡ e
first_is [] l n e others x d q = cc
first_is (y ∷ es) zero zero e others x d q = cc
first_is (y ∷ es) zero (suc n) e others x d q = cc
first_is (y ∷ es) (suc l) zero e others x d q = sym (same_Some y x q) ∙ same_head y e (take l es) others d
first_is (y ∷ es) (suc l) (suc n) e others x d q = first_is es l n e others x d q

last_at : (y : TextEdit) (es : List TextEdit) (l : ℕ) (x : TextEdit) → slice_get (y ∷ es) l ≡ Some x → x ≡ last_of y (take l es)
last_at y es zero x q = sym (same_Some y x q)
last_at y [] (suc l) x q = cc
last_at y (z ∷ es) (suc l) x q = last_at z es l x q

pub last_is : (es : List TextEdit) (l n : ℕ) (e : TextEdit) (others : List TextEdit) (k : ℕ) (x : TextEdit) → drop n (take l es) ≡ e ∷ others → suc k ≡ l → slice_get es k ≡ Some x → x ≡ last_of e others
last_is [] l n e others k x d p q = cc
last_is (y ∷ es) zero n e others k x d p q = absurd (omega (arith, p))
last_is (y ∷ es) (suc l) zero e others k x d p q =
    let i : k ≡ l = omega (arith, p) in
    last_at y es l x (ap (slice_get (y ∷ es)) (sym i) ∙ q)
    ∙ ap (λ (z : TextEdit). last_of z (take l es)) (same_head y e (take l es) others d) ∙ ap (last_of e) (same_tail y e (take l es) others d)
last_is (y ∷ es) (suc zero) (suc n) e others zero x d p q = absurd (none n d)
  where
    none : (n : ℕ) → drop n [] ≡ e ∷ others → ⊥
    none zero d = cc
    none (suc n) d = cc
last_is (y ∷ es) (suc (suc l)) (suc n) e others zero x d p q = absurd (omega (arith, p))
last_is (y ∷ es) (suc l) (suc n) e others (suc k) x d p q = last_is es l n e others k x d (omega (arith, p)) q
