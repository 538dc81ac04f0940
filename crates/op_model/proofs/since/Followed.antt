-- The edits since a version take the text then to the text now.
use Rattle.std.proofs.Common.{◌≡◌, ℕ, zero, suc, ◌+◌, ◌-◌, ◌≤◌, ◌⊎◌, Bool, List, [], ◌∷◌, ◌++◌, length, map, take, drop, refl, sym, ◌∙◌, ap, subst, inl, inr, true, false, cond, ◌&&◌, arith, append_assoc, ◌||◌, nat_lt}
use Rattle.std.specs.Prelude.{slice_range}
use Rattle.std.specs.List.{AllByRecursion, filter}
use Rattle.std.proofs.lemmas.Bool.{cases_Bool, lt-ltb}
use Rattle.std.proofs.lemmas.List.{length-map, drop_all, append-nil}
use Rattle.std.proofs.lemmas.List.Folds.{drop_split}
use Rattle.std.proofs.Math.Bool.{or-true}
use Rattle.lamport_clock.specs.Versions.{Entries, sees}
use Rattle.op_model.specs.Histories.{History, newest_first, seen_history}
use Rattle.op_model.specs.Cells.{Cell, PathCell, everything, seq_where, seq, cells}
use Rattle.op_model.specs.Shown.{byte, shows, text_where, text}
use Rattle.op_model.specs.Lawful.{Lawful, IsClosed}
use Rattle.op_model.specs.Since.{Fate, fate, is_shown_at, lengthen, runs, number_gone, number_new, changes, edits_of, since, text_at, apply_edits}
use Rattle.op_model.specs.Since.Fate.{Gone, New, Never, Kept}
use Rattle.op_model.proofs.Elements.{same_first, same_rest, both_false}
use Rattle.op_model.proofs.order.Restricted.{restrict}
use Rattle.op_model.proofs.shown.Parts.{shown_seen}
use Rattle.op_model.proofs.shown.Bytes.{text_seen}
use Rattle.op_model.proofs.texts.Utf8Runs.{take_front, drop_past, drop_more}
use Rattle.op_model.proofs.histories.ClosedVersions.{cells_only, closed_part}

-- ---- parts of lists

take_more : (n : ℕ) (xs : List ℕ) (x : ℕ) (rest : List ℕ) → drop n xs ≡ x ∷ rest → take (suc n) xs ≡ take n xs ++ x ∷ []
take_more zero [] x rest e = cc
take_more zero (y ∷ xs) x rest e = let i : y ≡ x = cc in ap (λ z. z ∷ []) i
take_more (suc n) [] x rest e = cc
take_more (suc n) (y ∷ xs) x rest e = ap (λ z. y ∷ z) (take_more n xs x rest e)

slice_more : (xs : List ℕ) (i j : ℕ) (x : ℕ) (rest : List ℕ) → i ≤ j → drop j xs ≡ x ∷ rest → slice_range xs i (suc j) ≡ slice_range xs i j ++ x ∷ []
slice_more xs i j x rest l e =
    let n : suc j - i ≡ suc (j - i) = omega arith in
    ap (λ (k : ℕ). take k (drop i xs)) n ∙ take_more (j - i) (drop i xs) x rest (drop_more xs i (j - i) j (omega arith) ∙ e)

slice_none : (xs : List ℕ) (i : ℕ) → slice_range xs i i ≡ []
slice_none xs i = let n : i - i ≡ 0 = omega arith in ap (λ (k : ℕ). take k (drop i xs)) n

-- ---- a list of which some stood then and some stand now

module _ {A : Type 0} (f : A → ℕ) (a b : A → Bool) where
  abbrev pub was : List A → List ℕ
  was s = map f (filter a s)

  abbrev pub now : List A → List ℕ
  now s = map f (filter b s)

  abbrev pub fates_of : List A → List Fate
  fates_of s = map (λ (x : A). fate (a x) (b x)) s

  abbrev pub Unkept : List A → Type 0
  Unkept r = AllByRecursion (λ (x : A). (a x && b x) ≡ false) r

  -- up to the end, or up to the first that is kept
  abbrev pub Ends : List A → List A → Type 0
  Ends s r = (s ≡ r) × (runs (fates_of s) ≡ fates_of r ∷ [])

  abbrev pub Goes : List A → List A → Type 0
  Goes s r = (x : A) × (t : List A) × (s ≡ r ++ x ∷ t) × (a x ≡ true) × (b x ≡ true) × (runs (fates_of s) ≡ fates_of r ∷ runs (fates_of t))

  abbrev pub Cut : List A → Type 0
  Cut s = (r : List A) × Unkept r × (Ends s r ⊎ Goes s r)

  grow : (y : A) (s : List A) (z : Fate) → fate (a y) (b y) ≡ z → runs (z ∷ fates_of s) ≡ lengthen z (runs (fates_of s)) → (a y && b y) ≡ false → Cut s → Cut (y ∷ s)
  grow y s z e l n c = (
    y ∷ c.0,
    (n, c.1),
    elim c.2 [
      | inl w ↦ inl (ap (λ (k : List A). y ∷ k) w.0, next (fates_of c.0) [] w.1)
      | inr w ↦ inr (w.0, w.1, ap (λ (k : List A). y ∷ k) w.2, w.3, w.4, next (fates_of c.0) (runs (fates_of w.1)) w.5)
    ],
  )
    where
      next : (r : List Fate) (rest : List (List Fate)) → runs (fates_of s) ≡ r ∷ rest → runs (fates_of (y ∷ s)) ≡ (fate (a y) (b y) ∷ r) ∷ rest
      next r rest q = ap (λ (w : Fate). runs (w ∷ fates_of s)) e ∙ l ∙ ap (lengthen z) q ∙ ap (λ (w : Fate). (w ∷ r) ∷ rest) (sym e)

  pub cut : (s : List A) → Cut s
  cut [] = ([], tt, inl (refl, refl))
  cut (y ∷ s) = go (cases_Bool (a y)) (cases_Bool (b y)) (cut s)
    where
      go : (a y ≡ true) ⊎ (a y ≡ false) → (b y ≡ true) ⊎ (b y ≡ false) → Cut s → Cut (y ∷ s)
      go (inl p) (inl q) c = ([], tt, inr (y, s, refl, p, q, rw (p, q) refl))
      go (inl p) (inr q) c = grow y s Gone (rw (p, q) refl) refl (rw (p, q) refl) c
      go (inr p) (inl q) c = grow y s New (rw (p, q) refl) refl (rw p refl) c
      go (inr p) (inr q) c = grow y s Never (rw (p, q) refl) refl (rw p refl) c

  pub gone_is : (r : List A) → Unkept r → number_gone (fates_of r) ≡ length (filter a r)
  gone_is [] u = refl
  gone_is (y ∷ r) u = go (cases_Bool (a y)) (cases_Bool (b y)) (gone_is r u.1)
    where
      go : (a y ≡ true) ⊎ (a y ≡ false) → (b y ≡ true) ⊎ (b y ≡ false) → number_gone (fates_of r) ≡ length (filter a r) → number_gone (fates_of (y ∷ r)) ≡ length (filter a (y ∷ r))
      go (inl p) (inl q) ih = absurd (both_false (a y) (b y) p q u.0)
      go (inl p) (inr q) ih = rw (p, q) (ap suc ih)
      go (inr p) (inl q) ih = rw (p, q) ih
      go (inr p) (inr q) ih = rw (p, q) ih

  pub new_is : (r : List A) → Unkept r → number_new (fates_of r) ≡ length (filter b r)
  new_is [] u = refl
  new_is (y ∷ r) u = go (cases_Bool (a y)) (cases_Bool (b y)) (new_is r u.1)
    where
      go : (a y ≡ true) ⊎ (a y ≡ false) → (b y ≡ true) ⊎ (b y ≡ false) → number_new (fates_of r) ≡ length (filter b r) → number_new (fates_of (y ∷ r)) ≡ length (filter b (y ∷ r))
      go (inl p) (inl q) ih = absurd (both_false (a y) (b y) p q u.0)
      go (inl p) (inr q) ih = rw (p, q) ih
      go (inr p) (inl q) ih = rw (p, q) (ap suc ih)
      go (inr p) (inr q) ih = rw (p, q) ih

  -- where nothing changed, nothing stood and nothing stands
  unchanged : (r : List A) → Unkept r → changes (fates_of r) ≡ false → (filter a r ≡ []) × (filter b r ≡ [])
  unchanged [] u e = (refl, refl)
  unchanged (y ∷ r) u e = go (cases_Bool (a y)) (cases_Bool (b y)) (unchanged r u.1)
    where
      go : (a y ≡ true) ⊎ (a y ≡ false) → (b y ≡ true) ⊎ (b y ≡ false) → (changes (fates_of r) ≡ false → (filter a r ≡ []) × (filter b r ≡ []))
          → (filter a (y ∷ r) ≡ []) × (filter b (y ∷ r) ≡ [])
      go (inl p) (inl q) f = absurd (both_false (a y) (b y) p q u.0)
      go (inl p) (inr q) f = let z : true ≡ false = rw (p, q) at e in cc
      go (inr p) (inl q) f = let z : true ≡ false = rw (p, q) at e in cc
      go (inr p) (inr q) f = let z : changes (fates_of r) ≡ false = rw (p, q) at e in rw (p, q) (f z)

  part : (g : A → Bool) (r : List A) (x : A) (t : List A) → g x ≡ true → map f (filter g (r ++ x ∷ t)) ≡ map f (filter g r) ++ f x ∷ map f (filter g t)
  part g [] x t e = rw e refl
  part g (y ∷ r) x t e = elim (g y) as (λ c. map f (cond c (y ∷ filter g (r ++ x ∷ t)) (filter g (r ++ x ∷ t))) ≡ map f (cond c (y ∷ filter g r) (filter g r)) ++ f x ∷ map f (filter g t))
      [ true ↦ ap (λ z. f y ∷ z) (part g r x t e) | false ↦ part g r x t e ]

  module _ (old_text new_text : List ℕ) where
    abbrev Follows : List (List Fate) → List A → Type 0
    Follows rs s = (at old new : ℕ) → at ≤ old → drop old old_text ≡ was s → drop new new_text ≡ now s
        → apply_edits at (edits_of old new rs) old_text new_text ≡ slice_range old_text at old ++ now s

    last_run : (r : List A) → Unkept r → Follows (fates_of r ∷ []) r
    last_run r u at old new l p q = go (cases_Bool (changes (fates_of r)))
      where
        g : ℕ
        g = number_gone (fates_of r)

        n : ℕ
        n = number_new (fates_of r)

        go : (changes (fates_of r) ≡ true) ⊎ (changes (fates_of r) ≡ false) → apply_edits at (edits_of old new (fates_of r ∷ [])) old_text new_text ≡ slice_range old_text at old ++ now r
        go (inl e) =
            let gi = gone_is r u in
            let ni = new_is r u in
            let gl = length-map (filter a r) f in
            let nl = length-map (filter b r) f in
            let x : slice_range new_text new (new + n) ≡ now r =
            ap (take (new + n - new)) q ∙ ap (take (new + n - new)) (sym (append-nil (now r))) ∙ take_front (now r) [] (new + n - new) (omega arith) in
            let y : drop (old + g) old_text ≡ [] = sym (drop_more old_text old g (old + g) refl) ∙ ap (drop g) p ∙ drop_all g (was r) (omega arith) in
            rw e (ap (λ (z : List ℕ). slice_range old_text at old ++ (z ++ drop (old + g) old_text)) x
            ∙ ap (λ (z : List ℕ). slice_range old_text at old ++ (now r ++ z)) y ∙ ap (λ (z : List ℕ). slice_range old_text at old ++ z) (append-nil (now r)))
        go (inr e) = let k = unchanged r u e in
            rw e (drop_split old_text at old l ∙ ap (λ (z : List ℕ). slice_range old_text at old ++ z) (p ∙ ap (map f) k.0 ∙ sym (ap (map f) k.1)))

    next_run : (r : List A) (x : A) (t : List A) (rs : List (List Fate)) → Unkept r → a x ≡ true → b x ≡ true → Follows rs t → Follows (fates_of r ∷ rs) (r ++ x ∷ t)
    next_run r x t rs u ax bx ih at old new l p q = go (cases_Bool (changes (fates_of r)))
      where
        g : ℕ
        g = number_gone (fates_of r)

        n : ℕ
        n = number_new (fates_of r)

        gs : g ≡ length (was r)
        gs = let gi = gone_is r u in let gl = length-map (filter a r) f in omega arith

        ns : n ≡ length (now r)
        ns = let ni = new_is r u in let nl = length-map (filter b r) f in omega arith

        old_at : drop (old + g) old_text ≡ f x ∷ was t
        old_at = sym (drop_more old_text old g (old + g) refl) ∙ ap (drop g) (p ∙ part a r x t ax) ∙ drop_past (was r) (f x ∷ was t) g (let e = gs in omega arith)
            ∙ (let z : g - length (was r) ≡ 0 = (let e = gs in omega arith) in ap (λ (k : ℕ). drop k (f x ∷ was t)) z)

        old_on : drop (suc (old + g)) old_text ≡ was t
        old_on = sym (drop_more old_text (old + g) 1 (suc (old + g)) (omega arith)) ∙ ap (drop 1) old_at

        new_at : drop (new + n) new_text ≡ f x ∷ now t
        new_at = sym (drop_more new_text new n (new + n) refl) ∙ ap (drop n) (q ∙ part b r x t bx) ∙ drop_past (now r) (f x ∷ now t) n (let e = ns in omega arith)
            ∙ (let z : n - length (now r) ≡ 0 = (let e = ns in omega arith) in ap (λ (k : ℕ). drop k (f x ∷ now t)) z)

        new_on : drop (suc (new + n)) new_text ≡ now t
        new_on = sym (drop_more new_text (new + n) 1 (suc (new + n)) (omega arith)) ∙ ap (drop 1) new_at

        go : (changes (fates_of r) ≡ true) ⊎ (changes (fates_of r) ≡ false) → apply_edits at (edits_of old new (fates_of r ∷ rs)) old_text new_text ≡ slice_range old_text at old ++ now (r ++ x ∷ t)
        go (inl e) =
            let y : slice_range new_text new (new + n) ≡ now r =
            ap (take (new + n - new)) (q ∙ part b r x t bx) ∙ take_front (now r) (f x ∷ now t) (new + n - new) (let k = ns in omega arith) in
            let z : apply_edits (old + g) (edits_of (suc (old + g)) (suc (new + n)) rs) old_text new_text ≡ f x ∷ now t =
            ih (old + g) (suc (old + g)) (suc (new + n)) (omega arith) old_on new_on
            ∙ ap (λ (k : List ℕ). k ++ now t) (slice_more old_text (old + g) (old + g) (f x) (was t) (omega arith) old_at ∙ ap (λ (k : List ℕ). k ++ f x ∷ []) (slice_none old_text (old + g))) in
            rw e (ap (λ (k : List ℕ). slice_range old_text at old ++ (k ++ apply_edits (old + g) (edits_of (suc (old + g)) (suc (new + n)) rs) old_text new_text)) y
            ∙ ap (λ (k : List ℕ). slice_range old_text at old ++ (now r ++ k)) z ∙ ap (λ (k : List ℕ). slice_range old_text at old ++ k) (sym (part b r x t bx)))
        go (inr e) =
            let k = unchanged r u e in
            let wn : was r ≡ [] = ap (map f) k.0 in
            let nn : now r ≡ [] = ap (map f) k.1 in
            let g0 : old + g ≡ old = (let m = gs in let w = ap length wn in omega arith) in
            let z : slice_range old_text at (suc (old + g)) ≡ slice_range old_text at old ++ f x ∷ [] =
            slice_more old_text at (old + g) (f x) (was t) (omega arith) old_at ∙ ap (λ (j : ℕ). slice_range old_text at j ++ f x ∷ []) g0 in
            rw e (ih at (suc (old + g)) (suc (new + n)) (omega arith) old_on new_on ∙ ap (λ (j : List ℕ). j ++ now t) z ∙ append_assoc (slice_range old_text at old) (f x ∷ []) (now t)
            ∙ ap (λ (j : List ℕ). slice_range old_text at old ++ j) (sym (part b r x t bx ∙ ap (λ (j : List ℕ). j ++ f x ∷ now t) nn)))

    follows : (rs : List (List Fate)) (s : List A) → runs (fates_of s) ≡ rs → Follows rs s
    follows [] s e = go (cut s)
      where
        go : Cut s → Follows [] s
        go c = elim c.2 [ inl w ↦ absurd (none (sym e ∙ w.1)) | inr w ↦ absurd (none (sym e ∙ w.5)) ]
          where
            none : {r : List Fate} {rest : List (List Fate)} → [] ≡ r ∷ rest → ⊥
            none i = cc
    follows (r0 ∷ rs) s e = go (cut s) (λ t i. follows rs t i)
      where
        go : Cut s → ((t : List A) → runs (fates_of t) ≡ rs → Follows rs t) → Follows (r0 ∷ rs) s
        go c ih = elim c.2 [
          | inl w ↦ subst (λ (z : List A). Follows (r0 ∷ rs) z) (sym w.0) (subst (λ (z : List (List Fate)). Follows z c.0) (sym w.1 ∙ e) (last_run c.0 c.1))
          | inr w ↦ (let q : fates_of c.0 ∷ runs (fates_of w.1) ≡ r0 ∷ rs = sym w.5 ∙ e in
              let j : runs (fates_of w.1) ≡ rs = same_rest q in
              subst (λ (z : List A). Follows (r0 ∷ rs) z) (sym w.2) (subst (λ (z : List Fate). Follows (z ∷ rs) (c.0 ++ w.0 ∷ w.1)) (same_first q) (next_run c.0 w.0 w.1 rs c.1 w.3 w.4 (ih w.1 j))))
        ]

-- ---- the texts of a history

filter_both : (p q : Cell → Bool) (s : List Cell) → filter p (filter q s) ≡ filter (λ (c : Cell). q c && p c) s
filter_both p q [] = refl
filter_both p q (c ∷ s) = go (cases_Bool (q c)) (cases_Bool (p c)) (filter_both p q s)
  where
    go : (q c ≡ true) ⊎ (q c ≡ false) → (p c ≡ true) ⊎ (p c ≡ false) → filter p (filter q s) ≡ filter (λ (d : Cell). q d && p d) s
        → filter p (filter q (c ∷ s)) ≡ filter (λ (d : Cell). q d && p d) (c ∷ s)
    go (inl x) (inl y) ih = rw (x, y) (ap (λ z. c ∷ z) ih)
    go (inl x) (inr y) ih = rw (x, y) ih
    go (inr x) y ih = rw x ih

-- the text at a closed version by the cells of the whole history
pub text_then : (h : History) (l : Lawful h) (v : Entries) → IsClosed h v → text_at h v ≡ map (byte (newest_first h)) (filter (is_shown_at h v) (cells (seq h)))
unfolding text_where seq
text_then h l v c =
    let n : History = newest_first h in
    text_seen h v
    ∙ ap (λ (t : Cell → Bool). map (byte n) (filter t (cells (seq_where (sees v) n)))) (λ i d. sym (shown_seen h v d) i)
    ∙ ap (λ (s : List PathCell). map (byte n) (filter (shows (seen_history h v)) (cells s))) (sym (restrict (sees v) n (closed_part h l v c)))
    ∙ ap (λ (s : List Cell). map (byte n) (filter (shows (seen_history h v)) s)) (cells_only (sees v) (seq_where everything n))
    ∙ ap (map (byte n)) (filter_both (shows (seen_history h v)) (λ (d : Cell). sees v d.stamp) (cells (seq_where everything n)))

pub text_now : (h : History) → text h ≡ map (byte (newest_first h)) (filter (shows h) (cells (seq h)))
unfolding text text_where shows seq
text_now h = refl

pub since_told : (h : History) (v : Entries) → Lawful h → IsClosed h v → apply_edits 0 (since h v) (text_at h v) (text h) ≡ text h
unfolding since
since_told h v l c =
    let s : List Cell = cells (seq h) in
    follows (byte (newest_first h)) (is_shown_at h v) (shows h) (text_at h v) (text h) (runs (Rattle.op_model.specs.Since.fates h v)) s refl 0 0 0 (omega arith) (text_then h l v c) (text_now h)
    ∙ sym (text_now h)

pub changes_is : (r : List Fate) → changes r ≡ (nat_lt 0 (number_gone r) || nat_lt 0 (number_new r))
changes_is [] = refl
changes_is (Gone ∷ r) = rw (lt-ltb 0 (suc (number_gone r)) (omega arith)) refl
changes_is (New ∷ r) = rw (lt-ltb 0 (suc (number_new r)) (omega arith)) (sym (or-true (nat_lt 0 (number_gone r))))
changes_is (Kept ∷ r) = changes_is r
changes_is (Never ∷ r) = changes_is r
