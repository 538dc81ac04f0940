-- Steps of a walk that gathers what replaces a range.
use Rattle.std.proofs.Common.{◌≡◌, ℕ, zero, suc, ◌+◌, ◌-◌, ◌<◌, ◌≤◌, ◌^◌, Option, List, [], ◌∷◌, ◌++◌, length, take, drop, refl, sym, ap, ◌∙◌, arith, subst, not, ◌&&◌, true, false, Some, None, append_assoc}
use Rattle.std.specs.List.{AllByRecursion, slice_get}
use Rattle.std.proofs.lemmas.Bool.{and_parts, not-true}
use Rattle.std.proofs.lemmas.List.{append-nil}
use Rattle.lamport_clock.specs.declared.stamp.Lamport.{Lamport}
use Rattle.lamport_clock.specs.Stamps.{later}
use Rattle.lamport_clock.specs.Versions.{Entries, sees}
use Rattle.locators.specs.Locator.{between_digits}
use Rattle.op_model.proofs.Elements.{each_append, each_left, each_right}
use Rattle.undo_map.specs.declared.entry.UndoEntry.{UndoEntry}
use Rattle.fragments.specs.declared.fragment.Fragment.{Fragment}
use Rattle.fragments.specs.Stand.{IsFilled}
use Rattle.fragments.specs.Laws.{cells_len}
use Rattle.fragments.proofs.Counts.{cells_len-append}
use Rattle.remote_edit.specs.Marks.{touch}
use Rattle.remote_edit.specs.Walk.{seen_bytes, Fit, last_id, front, back, new_fragment, next_id, advance, skip_later, put_new}
use Rattle.remote_edit.specs.Steps.{later_first, head, tail, before, after, IsOnWay, IsAt}
use Rattle.remote_edit.proofs.Places.{touch_len, touch_stamp}
use Rattle.remote_edit.proofs.Passing.{seen_more, seen_own, unseen_own, seen_within, adv_unseen, adv_whole, adv_split, adv_zero}

pub head_drop : (xs : List Fragment) (i : ℕ) → head (drop i xs) ≡ slice_get xs i
head_drop [] zero = refl
head_drop [] (suc i) = refl
head_drop (x ∷ xs) zero = refl
head_drop (x ∷ xs) (suc i) = head_drop xs i

tail_suc : (xs : List Fragment) (i : ℕ) → tail (drop i xs) ≡ drop (suc i) xs
tail_suc [] zero = refl
tail_suc [] (suc i) = refl
tail_suc (x ∷ xs) zero = refl
tail_suc (x ∷ xs) (suc i) = tail_suc xs i

pub tail_drop : (xs : List Fragment) (i : ℕ) → tail (drop i xs) ≡ drop (i + 1) xs
tail_drop xs i = tail_suc xs i ∙ ap (λ (k : ℕ). drop k xs) (let q : suc i ≡ i + 1 = omega arith in q)

-- with one that comes next
pub headed : (rest : List Fragment) (f : Fragment) → Some f ≡ head rest → rest ≡ f ∷ tail rest
headed [] f e = cc
headed (x ∷ xs) f e = let q : x ≡ f = cc in ap (λ (z : Fragment). z ∷ xs) q

fit_one : (pre r : List Fragment) (f : Fragment) → Fit (pre ++ f ∷ r) → (0 < f.len) × (f.offset + f.len < 2 ^ 64) × (f.len ≤ 2 ^ 40)
fit_one pre r f h =
    let k = each_right IsFilled pre (f ∷ r) h.0 in
    let b = cells_len-append pre (f ∷ r) in
    let h1 = h.1 in (k.0.0, k.0.1, omega arith)

-- one replaced by others with as many cells
pub fit_swap : (pre r ys : List Fragment) (f : Fragment) → Fit (pre ++ f ∷ r) → AllByRecursion IsFilled ys → cells_len ys ≡ f.len → Fit (pre ++ (ys ++ r)) × (cells_len (pre ++ (ys ++ r)) ≡ cells_len (pre ++ f ∷ r))
fit_swap pre r ys f h k e =
    let b1 = cells_len-append pre (f ∷ r) in
    let b2 = cells_len-append pre (ys ++ r) in
    let b3 = cells_len-append ys r in
    let g = each_right IsFilled pre (f ∷ r) h.0 in
    let h1 = h.1 in
    let q : cells_len (pre ++ (ys ++ r)) ≡ cells_len (pre ++ f ∷ r) = omega arith in
    ((each_append IsFilled pre (ys ++ r) (each_left IsFilled pre (f ∷ r) h.0) (each_append IsFilled ys r k g.1), (omega arith)), q)

module _ (m : Option (List UndoEntry)) (t : Lamport) (v : Entries) where
  -- over one that v does not see
  gather_unseen : (pre r : List Fragment) (f : Fragment) (n p : ℕ) → 0 < n → sees v f.stamp ≡ false → Fit (pre ++ f ∷ r) → p ≡ seen_bytes v pre → IsOnWay m t v n pre (f ∷ r) n (pre ++ f ∷ []) r p
  gather_unseen pre r f n p h s k q =
      let a = append_assoc pre (f ∷ []) r in
      let c = seen_more v (pre ++ f ∷ []) pre f p 0 refl q (unseen_own v f s) in
      record {
        place = omega arith;
        goes = sym (adv_unseen m t v pre r f n h s);
        fit = subst Fit (sym a) k;
        same = ap cells_len a;
        less = omega arith;
      }

  gather_whole : (pre r : List Fragment) (f g : Fragment) (n p : ℕ) → g ≡ touch m t v f → 0 < n → f.len ≤ n → sees v f.stamp ≡ true → Fit (pre ++ f ∷ r) → p ≡ seen_bytes v pre → IsOnWay m t v n pre (f ∷ r) (n - f.len) (pre ++ g ∷ []) r (p + f.len)
  gather_whole pre r f g n p e h l s k q =
      let o = fit_one pre r f k in
      let o0 = o.0 in
      let o1 = o.1 in
      let gl : g.len ≡ f.len = ap (λ (z : Fragment). z.len) e ∙ (touch_len m t v f).0 in
      let go : g.offset ≡ f.offset = ap (λ (z : Fragment). z.offset) e ∙ (touch_len m t v f).1 in
      let gs : g.stamp ≡ f.stamp = ap (λ (z : Fragment). z.stamp) e ∙ touch_stamp m t v f in
      let fl : AllByRecursion IsFilled (g ∷ []) = (((omega arith), (omega arith)), tt) in
      let w = fit_swap pre r (g ∷ []) f k fl (omega arith) in
      let a = append_assoc pre (g ∷ []) r in
      record {
        place = seen_more v (pre ++ g ∷ []) pre g p f.len refl q (seen_own v g (ap (sees v) gs ∙ s) ∙ gl);
        goes = ap (λ (z : Fragment). advance m t v (n - f.len) (pre ++ z ∷ []) r) e ∙ sym (adv_whole m t v pre r f n h s l);
        fit = subst Fit (sym a) w.0;
        same = ap cells_len a ∙ w.1;
        less = omega arith;
      }

  gather_split : (pre r : List Fragment) (f g b : Fragment) (n p : ℕ) → g ≡ touch m t v (front f n (between_digits (last_id pre) f.id)) → b ≡ back f n → 0 < n → n < f.len → sees v f.stamp ≡ true → Fit (pre ++ f ∷ r) → p ≡ seen_bytes v pre
      → IsOnWay m t v n pre (f ∷ r) 0 (pre ++ g ∷ []) (b ∷ r) (p + n)
  gather_split pre r f g b n p e d h l s k q =
      let a : Fragment = front f n (between_digits (last_id pre) f.id) in
      let o = fit_one pre r f k in
      let o1 = o.1 in
      let gl : g.len ≡ n = ap (λ (z : Fragment). z.len) e ∙ (touch_len m t v a).0 in
      let go : g.offset ≡ f.offset = ap (λ (z : Fragment). z.offset) e ∙ (touch_len m t v a).1 in
      let gs : g.stamp ≡ f.stamp = ap (λ (z : Fragment). z.stamp) e ∙ touch_stamp m t v a in
      let bl : b.len ≡ f.len - n = ap (λ (z : Fragment). z.len) d in
      let bo : b.offset ≡ f.offset + n = ap (λ (z : Fragment). z.offset) d in
      let fl : AllByRecursion IsFilled (g ∷ b ∷ []) = (((omega arith), (omega arith)), (((omega arith), (omega arith)), tt)) in
      let w = fit_swap pre r (g ∷ b ∷ []) f k fl (omega arith) in
      let c = append_assoc pre (g ∷ []) (b ∷ r) in
      record {
        place = seen_more v (pre ++ g ∷ []) pre g p n refl q (seen_own v g (ap (sees v) gs ∙ s) ∙ gl);
        goes = ap (λ (z : Fragment). advance m t v 0 (pre ++ z ∷ []) (b ∷ r)) e ∙ ap (λ (z : Fragment). advance m t v 0 (pre ++ touch m t v a ∷ []) (z ∷ r)) d ∙ adv_zero m t v (pre ++ touch m t v a ∷ []) (back f n ∷ r) 0 refl ∙ sym (adv_split m t v pre r f n h s l);
        fit = subst Fit (sym c) w.0;
        same = ap cells_len c ∙ w.1;
        less = omega arith;
      }

  -- with the parts of the place named
  pub on_unseen : (pre rest pre2 rest2 : List Fragment) (f : Fragment) (n p : ℕ) → Some f ≡ head rest → 0 < n → sees v f.stamp ≡ false → Fit (pre ++ rest) → p ≡ seen_bytes v pre
      → pre2 ≡ pre ++ f ∷ [] → rest2 ≡ tail rest → IsOnWay m t v n pre rest n pre2 rest2 p
  on_unseen pre rest pre2 rest2 f n p e h s k q a b =
      let w = headed rest f e in
      let g = gather_unseen pre (tail rest) f n p h s (subst (λ (z : List Fragment). Fit (pre ++ z)) w k) q in
      rw (a, b) (subst (λ (z : List Fragment). IsOnWay m t v n pre z n (pre ++ f ∷ []) (tail rest) p) (sym w) g)

  pub on_whole : (pre rest pre2 rest2 : List Fragment) (f g : Fragment) (n p p2 : ℕ) → Some f ≡ head rest → g ≡ touch m t v f → 0 < n → f.len ≤ n → sees v f.stamp ≡ true → Fit (pre ++ rest) → p ≡ seen_bytes v pre
      → pre2 ≡ pre ++ g ∷ [] → rest2 ≡ tail rest → p2 ≡ p + f.len → IsOnWay m t v n pre rest (n - f.len) pre2 rest2 p2
  on_whole pre rest pre2 rest2 f g n p p2 e x h l s k q a b d =
      let w = headed rest f e in
      let o = gather_whole pre (tail rest) f g n p x h l s (subst (λ (z : List Fragment). Fit (pre ++ z)) w k) q in
      rw (a, b, d) (subst (λ (z : List Fragment). IsOnWay m t v n pre z (n - f.len) (pre ++ g ∷ []) (tail rest) (p + f.len)) (sym w) o)

  pub on_split : (pre rest pre2 rest2 : List Fragment) (f g b : Fragment) (n p p2 : ℕ) → Some f ≡ head rest → g ≡ touch m t v (front f n (between_digits (last_id pre) f.id)) → b ≡ back f n → 0 < n → n < f.len → sees v f.stamp ≡ true
      → Fit (pre ++ rest) → p ≡ seen_bytes v pre → pre2 ≡ pre ++ g ∷ [] → rest2 ≡ b ∷ tail rest → p2 ≡ p + n → IsOnWay m t v n pre rest 0 pre2 rest2 p2
  on_split pre rest pre2 rest2 f g b n p p2 e x y h l s k q a c d =
      let w = headed rest f e in
      let o = gather_split pre (tail rest) f g b n p x y h l s (subst (λ (z : List Fragment). Fit (pre ++ z)) w k) q in
      rw (a, c, d) (subst (λ (z : List Fragment). IsOnWay m t v n pre z 0 (pre ++ g ∷ []) (b ∷ tail rest) (p + n)) (sym w) o)

pub grown : (xs made made2 : List Fragment) (i j : ℕ) (g : Fragment) → j ≡ i → made2 ≡ made ++ g ∷ [] → before xs j made2 ≡ before xs i made ++ g ∷ []
grown xs made made2 i j g e q = ap (λ (n : ℕ). before xs n made2) e ∙ ap (before xs i) q ∙ sym (append_assoc (take i xs) made (g ∷ []))

pub left_none : (xs r : List Fragment) (j : ℕ) (b : Option Fragment) → after xs j b ≡ r → b ≡ None → drop j xs ≡ r
left_none xs r j b e q = sym (ap (after xs j) q) ∙ e

pub last_in : (a s : List Fragment) (f : Fragment) → Some f ≡ slice_get s (length s - 1) → last_id (a ++ s) ≡ f.id
last_in [] [] f e = cc
last_in [] (x ∷ []) f e = let q : x ≡ f = cc in ap (λ (z : Fragment). z.id) q
last_in [] (x ∷ y ∷ s) f e =
    let p : suc (suc (length s)) - 1 ≡ suc (length s) = omega arith in
    let q : length s ≡ suc (length s) - 1 = omega arith in
    last_in [] (y ∷ s) f (e ∙ ap (slice_get (x ∷ y ∷ s)) p ∙ ap (slice_get (y ∷ s)) q)
last_in (x ∷ []) [] f e = cc
last_in (x ∷ []) (y ∷ s) f e = last_in [] (y ∷ s) f e
last_in (x ∷ z ∷ a) s f e = last_in (z ∷ a) s f e

pub room_of : (v : Entries) (pre rest : List Fragment) (f : Fragment) (p : ℕ) → Fit (pre ++ rest) → p ≡ seen_bytes v pre → Some f ≡ head rest → (p ≤ 2 ^ 40) × (f.len ≤ 2 ^ 40) × (f.offset + f.len < 2 ^ 64)
room_of v pre rest f p h q e =
    let w = headed rest f e in
    let o = fit_one pre (tail rest) f (subst (λ (z : List Fragment). Fit (pre ++ z)) w h) in
    let a = seen_within v pre in
    let b = cells_len-append pre rest in
    let c = h.1 in (omega arith, o.2, o.1)

pub some_len : (pre rest : List Fragment) (f : Fragment) → Fit (pre ++ rest) → Some f ≡ head rest → 0 < f.len
some_len pre rest f h e = (fit_one pre (tail rest) f (subst (λ (z : List Fragment). Fit (pre ++ z)) (headed rest f e) h)).0

pub none_rest : (rest : List Fragment) → None ≡ head rest → rest ≡ []
none_rest [] e = refl
none_rest (x ∷ r) e = cc

-- ---- the ends of loops

pub none_kept : (xs made rest : List Fragment) (i : ℕ) → None ≡ head rest → (before xs i made ≡ before xs i made ++ take 1 rest) × (rest ≡ tail rest)
none_kept xs made rest i e =
    let w : rest ≡ [] = none_rest rest e in
    let t : take 1 rest ≡ [] = ap (take 1) w in
    (sym (ap (λ (z : List Fragment). before xs i made ++ z) t ∙ append-nil (before xs i made)), w ∙ sym (ap tail w))

pub record Kept (t : Lamport) (v : Entries) (pre rest pre2 rest2 : List Fragment) (p : ℕ) : Type 0 where
  pub place : p ≡ seen_bytes v pre2
  pub goes : skip_later t v pre2 rest2 ≡ skip_later t v pre rest
  pub fit : Fit (pre2 ++ rest2)
  pub same : cells_len (pre2 ++ rest2) ≡ cells_len (pre ++ rest)
  pub less : length rest2 < length rest

pub over_later : (t : Lamport) (v : Entries) (pre rest pre2 rest2 : List Fragment) (p : ℕ) → later_first t v rest ≡ true → p ≡ seen_bytes v pre → Fit (pre ++ rest) → pre2 ≡ pre ++ take 1 rest → rest2 ≡ tail rest → Kept t v pre rest pre2 rest2 p
over_later t v pre [] pre2 rest2 p e q h a b = cc
over_later t v pre (f ∷ r) pre2 rest2 p e q h a b =
    let u : sees v f.stamp ≡ false = not-true (sees v f.stamp) (and_parts (later f.stamp t) (not (sees v f.stamp)) e).1 in
    let c = seen_more v (pre ++ f ∷ []) pre f p 0 refl q (unseen_own v f u) in
    let d = append_assoc pre (f ∷ []) r in
    let g : Kept t v pre (f ∷ r) (pre ++ f ∷ []) r p = record { place = omega arith; goes = sym (step f r e); fit = subst Fit (sym d) h; same = ap cells_len d; less = omega arith } in
    rw (a, b) g
  where
    step : (f : Fragment) (r : List Fragment) → (later f.stamp t && not (sees v f.stamp)) ≡ true → skip_later t v pre (f ∷ r) ≡ skip_later t v (pre ++ f ∷ []) r
    step f r e = rw e refl

pub over_new : (v : Entries) (t : Lamport) (pre rest pre2 : List Fragment) (f : Fragment) (k n p : ℕ) → 0 < n → sees v t ≡ false → p ≡ seen_bytes v pre → Fit (pre ++ rest) → cells_len (pre ++ rest) + n ≤ 2 ^ 40 → k + n < 2 ^ 64
    → f ≡ new_fragment t k n (between_digits (last_id pre) (next_id rest)) → pre2 ≡ pre ++ f ∷ [] → IsAt v (put_new t k n pre rest) (cells_len (pre ++ rest) + n) pre2 rest p
over_new v t pre rest pre2 f k zero p h s q fi r o e a = absurd (omega arith)
over_new v t pre rest pre2 f k (suc n) p h s q fi r o e a =
    let g : Fragment = new_fragment t k (suc n) (between_digits (last_id pre) (next_id rest)) in
    let x : pre2 ≡ pre ++ g ∷ [] = a ∙ ap (λ (z : Fragment). pre ++ z ∷ []) e in
    let c = seen_more v (pre ++ g ∷ []) pre g p 0 refl q (unseen_own v g s) in
    let d = append_assoc pre (g ∷ []) rest in
    let b1 = cells_len-append pre rest in
    let b2 = cells_len-append pre (g ∷ rest) in
    let fl = each_append IsFilled pre (g ∷ rest) (each_left IsFilled pre rest fi.0) ((h, o), each_right IsFilled pre rest fi.0) in
    let m : cells_len ((pre ++ g ∷ []) ++ rest) ≡ cells_len (pre ++ rest) + suc n = ap cells_len d ∙ omega arith in
    let w : IsAt v (put_new t k (suc n) pre rest) (cells_len (pre ++ rest) + suc n) (pre ++ g ∷ []) rest p = record { place = omega arith; goes = refl; fit = subst Fit (sym d) (fl, (omega arith)); same = m } in
    rw x w
