-- The edits since a version begin and end at character boundaries of both texts.
use Rattle.std.proofs.Common.{◌≡◌, ℕ, suc, ◌+◌, ◌-◌, ◌≤◌, ◌⊎◌, Bool, List, [], ◌∷◌, ◌++◌, length, map, drop, refl, sym, ◌∙◌, ap, subst, inl, inr, true, false, cond, ◌&&◌, arith, append_assoc}
use Rattle.std.specs.Prelude.{IsUtf8, IsCharBoundary}
use Rattle.std.specs.List.{AllByRecursion, filter}
use Rattle.std.proofs.lemmas.Bool.{cases_Bool}
use Rattle.std.proofs.lemmas.List.{length-append, length-map, map-append, length-drop}
use Rattle.std.proofs.lemmas.List.Elements.{filter-append}
use Rattle.std.proofs.lemmas.Str.{IsUtf8-nil, IsCharBoundary-from_drop}
use Rattle.lamport_clock.specs.declared.stamp.Lamport.{Lamport}
use Rattle.lamport_clock.specs.Versions.{Entries, sees}
use Rattle.op_model.specs.declared.anchor.TextEdit.{TextEdit}
use Rattle.op_model.specs.Histories.{History, Distinct, seen_history}
use Rattle.op_model.specs.Domains.{IsProper}
use Rattle.op_model.specs.Cells.{Cell, seq, cells}
use Rattle.op_model.specs.Shown.{shows, text}
use Rattle.op_model.specs.Facts.{Fact, fact, cell_facts, was_visible}
use Rattle.op_model.specs.Walked.{Run, facts_of}
use Rattle.op_model.specs.Lawful.{Lawful, IsClosed}
use Rattle.op_model.specs.Since.{Fate, fates, is_shown_at, runs, number_gone, number_new, changes, edits_of, since, text_at}
use Rattle.op_model.proofs.Elements.{same_first, same_rest}
use Rattle.op_model.proofs.answers.Good.{lawful_ready}
use Rattle.op_model.proofs.texts.Utf8Runs.{drop_past, drop_more, bytes, Utf8}
use Rattle.op_model.proofs.texts.WholeTexts.{byte_of, Whole, lawful_whole}
use Rattle.op_model.proofs.texts.WholeRuns.{passes, utf8_where, told_where, told_parted}
use Rattle.op_model.proofs.texts.WholeWalks.{texts_of}
use Rattle.op_model.proofs.histories.ClosedVersions.{shown_closed}
use Rattle.op_model.proofs.since.Followed.{was, now, fates_of, Unkept, Cut, cut, gone_is, new_is, text_then, text_now}

module _ {A : Type 0} (f : A → ℕ) where
  -- past the front part of what stands from place i on
  past : (g : A → Bool) (xs : List ℕ) (i k : ℕ) (r rest : List A) → i ≤ length xs → drop i xs ≡ map f (filter g (r ++ rest)) → k ≡ length (filter g r)
      → (i + k ≤ length xs) × (drop (i + k) xs ≡ map f (filter g rest))
  past g xs i k r rest l e q =
      let p : drop i xs ≡ map f (filter g r) ++ map f (filter g rest) = e ∙ ap (map f) (filter-append g r rest) ∙ map-append f (filter g r) (filter g rest) in
      let n = length-map (filter g r) f in
      let d = length-drop i xs in
      let m = length-append (map f (filter g r)) (map f (filter g rest)) in
      let o = ap length p in
      let z : k - length (map f (filter g r)) ≡ 0 = omega arith in
      (omega arith, sym (drop_more xs i k (i + k) refl) ∙ ap (drop k) p ∙ drop_past (map f (filter g r)) (map f (filter g rest)) k (omega arith) ∙ ap (λ (j : ℕ). drop j (map f (filter g rest))) z)

  past_one : (g : A → Bool) (xs : List ℕ) (i : ℕ) (x : A) (rest : List A) → g x ≡ true → i ≤ length xs → drop i xs ≡ map f (filter g (x ∷ rest)) → (suc i ≤ length xs) × (drop (suc i) xs ≡ map f (filter g rest))
  past_one g xs i x rest t l e =
      let k = past g xs i 1 (x ∷ []) rest l e (rw t refl) in
      let n : i + 1 ≡ suc i = omega arith in
      subst (λ (j : ℕ). (j ≤ length xs) × (drop j xs ≡ map f (filter g rest))) n k

module _ {A : Type 0} (f : A → ℕ) (a b : A → Bool) (whole : List A) where
  -- the bytes of s then, and those now, are UTF-8
  abbrev Fine : List A → Type 0
  Fine s = IsUtf8 (was f a b s) × IsUtf8 (now f a b s)

  -- s is all, or stands after one that is kept
  abbrev Behind : List A → Type 0
  Behind s = (whole ≡ s) ⊎ ((pre : List A) × (x : A) × (whole ≡ pre ++ x ∷ s) × (a x ≡ true) × (b x ≡ true))

  kept_apart : (p q : Bool) → (p && q) ≡ false → p ≡ true → q ≡ true → ⊥
  kept_apart p q n e g = let z : (true && true) ≡ false = rw (e, g) at n in cc

  behind_next : (r : List A) (x : A) (t : List A) → a x ≡ true → b x ≡ true → Behind (r ++ x ∷ t) → Behind t
  behind_next r x t ax bx (inl e) = inr (r, x, e, ax, bx)
  behind_next r x t ax bx (inr w) = inr (w.0 ++ w.1 ∷ r, x, w.2 ∙ sym (append_assoc w.0 (w.1 ∷ r) (x ∷ t)), ax, bx)

  before : (s : List A) → Behind s → (pre : List A) × (whole ≡ pre ++ s)
  before s (inl e) = ([], e)
  before s (inr w) = (w.0 ++ w.1 ∷ [], w.2 ∙ sym (append_assoc w.0 (w.1 ∷ []) s))

  module _ (all : Fine whole) (apart : (xs : List A) (x y : A) (ys : List A) → whole ≡ xs ++ x ∷ y ∷ ys → (a x ≡ a y → b x ≡ b y → ⊥) → Fine (y ∷ ys)) where
    fine_here : (y : A) (s : List A) → (a y && b y) ≡ false → Behind (y ∷ s) → Fine (y ∷ s)
    fine_here y s n (inl e) = subst Fine e all
    fine_here y s n (inr w) = apart w.0 w.1 y s w.2 (λ p q. kept_apart (a y) (b y) n (sym p ∙ w.3) (sym q ∙ w.4))

    fine_next : (y : A) (r : List A) (x : A) (t : List A) → Unkept f a b (y ∷ r) → a x ≡ true → b x ≡ true → (pre : List A) → whole ≡ pre ++ ((y ∷ r) ++ x ∷ t) → Fine (x ∷ t)
    fine_next y [] x t u ax bx pre e = apart pre y x t e (λ p q. kept_apart (a y) (b y) u.0 (p ∙ ax) (q ∙ bx))
    fine_next y (z ∷ r) x t u ax bx pre e = fine_next z r x t u.1 ax bx (pre ++ y ∷ []) (e ∙ sym (append_assoc pre (y ∷ []) ((z ∷ r) ++ x ∷ t)))

    module _ (old_text new_text : List ℕ) where
      abbrev pub At : TextEdit → Type 0
      At e = (IsCharBoundary old_text e.old.0 × IsCharBoundary old_text e.old.1) × (IsCharBoundary new_text e.new.0 × IsCharBoundary new_text e.new.1)

      abbrev Bounded : List (List Fate) → List A → Type 0
      Bounded rs s = Behind s → (old new : ℕ) → old ≤ length old_text → new ≤ length new_text → drop old old_text ≡ was f a b s → drop new new_text ≡ now f a b s → AllByRecursion At (edits_of old new rs)

      -- a place with UTF-8 after it
      bound : (xs : List ℕ) (i : ℕ) (s : List ℕ) → i ≤ length xs → drop i xs ≡ s → IsUtf8 s → IsCharBoundary xs i
      bound xs i s l e u = IsCharBoundary-from_drop xs i l (subst IsUtf8 (sym e) u)

      last_run : (r : List A) → Unkept f a b r → Bounded (fates_of f a b r ∷ []) r
      last_run [] u bh old new lo ln p q = tt
      last_run (y ∷ r) u bh old new lo ln p q = elim (changes (fates_of f a b (y ∷ r))) as (λ c. AllByRecursion At (cond c (e ∷ []) [])) [ true ↦ (at, tt) | false ↦ tt ]
        where
          s : List A
          s = y ∷ r

          e : TextEdit
          e = record { old = (old, old + number_gone (fates_of f a b (y ∷ r))); new = (new, new + number_new (fates_of f a b (y ∷ r))) }

          nil : (xs : List A) → xs ≡ xs ++ []
          nil [] = refl
          nil (x ∷ xs) = ap (λ z. x ∷ z) (nil xs)

          at : (IsCharBoundary old_text old × IsCharBoundary old_text (old + number_gone (fates_of f a b (y ∷ r)))) × (IsCharBoundary new_text new × IsCharBoundary new_text (new + number_new (fates_of f a b (y ∷ r))))
          at =
              let h = fine_here y r u.0 bh in
              let m = past f a old_text old (number_gone (fates_of f a b (y ∷ r))) (y ∷ r) [] lo (p ∙ ap (λ (z : List A). map f (filter a z)) (nil (y ∷ r))) (gone_is f a b (y ∷ r) u) in
              let n = past f b new_text new (number_new (fates_of f a b (y ∷ r))) (y ∷ r) [] ln (q ∙ ap (λ (z : List A). map f (filter b z)) (nil (y ∷ r))) (new_is f a b (y ∷ r) u) in (
                (bound old_text old (was f a b (y ∷ r)) lo p h.0, bound old_text (old + number_gone (fates_of f a b (y ∷ r))) [] m.0 m.1 IsUtf8-nil),
                (bound new_text new (now f a b (y ∷ r)) ln q h.1, bound new_text (new + number_new (fates_of f a b (y ∷ r))) [] n.0 n.1 IsUtf8-nil),
              )

      next_run : (r : List A) (x : A) (t : List A) (rs : List (List Fate)) → Unkept f a b r → a x ≡ true → b x ≡ true → Bounded rs t → Bounded (fates_of f a b r ∷ rs) (r ++ x ∷ t)
      next_run r x t rs u ax bx ih bh old new lo ln p q = go r refl (cases_Bool (changes (fates_of f a b r)))
        where
          m : (old + number_gone (fates_of f a b r) ≤ length old_text) × (drop (old + number_gone (fates_of f a b r)) old_text ≡ was f a b (x ∷ t))
          m = past f a old_text old (number_gone (fates_of f a b r)) r (x ∷ t) lo p (gone_is f a b r u)

          n : (new + number_new (fates_of f a b r) ≤ length new_text) × (drop (new + number_new (fates_of f a b r)) new_text ≡ now f a b (x ∷ t))
          n = past f b new_text new (number_new (fates_of f a b r)) r (x ∷ t) ln q (new_is f a b r u)

          rest : AllByRecursion At (edits_of (suc (old + number_gone (fates_of f a b r))) (suc (new + number_new (fates_of f a b r))) rs)
          rest =
              let i = past_one f a old_text (old + number_gone (fates_of f a b r)) x t ax m.0 m.1 in
              let j = past_one f b new_text (new + number_new (fates_of f a b r)) x t bx n.0 n.1 in
              ih (behind_next r x t ax bx bh) (suc (old + number_gone (fates_of f a b r))) (suc (new + number_new (fates_of f a b r))) i.0 j.0 i.1 j.1

          go : (k : List A) → r ≡ k → (changes (fates_of f a b r) ≡ true) ⊎ (changes (fates_of f a b r) ≡ false) → AllByRecursion At (edits_of old new (fates_of f a b r ∷ rs))
          go k w (inr c) = rw c rest
          go [] w (inl c) = let z : false ≡ true = sym (ap (λ (z : List A). changes (fates_of f a b z)) w) ∙ c in cc
          go (y ∷ k) w (inl c) =
              let v : Unkept f a b (y ∷ k) = subst (Unkept f a b) w u in
              let g : Behind (y ∷ (k ++ x ∷ t)) = subst (λ (z : List A). Behind (z ++ x ∷ t)) w bh in
              let h : Fine (r ++ x ∷ t) = subst (λ (z : List A). Fine (z ++ x ∷ t)) (sym w) (fine_here y (k ++ x ∷ t) v.0 g) in
              let pre = before ((y ∷ k) ++ x ∷ t) g in
              let i : Fine (x ∷ t) = fine_next y k x t v ax bx pre.0 pre.1 in
              rw c (
                (
                  (bound old_text old (was f a b (r ++ x ∷ t)) lo p h.0, bound old_text (old + number_gone (fates_of f a b r)) (was f a b (x ∷ t)) m.0 m.1 i.0),
                  (bound new_text new (now f a b (r ++ x ∷ t)) ln q h.1, bound new_text (new + number_new (fates_of f a b r)) (now f a b (x ∷ t)) n.0 n.1 i.1),
                ),
                rest,
              )

      pub bounded : (rs : List (List Fate)) (s : List A) → runs (fates_of f a b s) ≡ rs → Bounded rs s
      bounded [] s e = λ bh old new lo ln p q. tt
      bounded (r0 ∷ rs) s e = go (cut f a b s) (λ t i. bounded rs t i)
        where
          go : Cut f a b s → ((t : List A) → runs (fates_of f a b t) ≡ rs → Bounded rs t) → Bounded (r0 ∷ rs) s
          go c ih = elim c.2 [
            | inl w ↦ subst (λ (z : List A). Bounded (r0 ∷ rs) z) (sym w.0) (subst (λ (z : List (List Fate)). Bounded z c.0) (sym w.1 ∙ e) (last_run c.0 c.1))
            | inr w ↦ (let q : fates_of f a b c.0 ∷ runs (fates_of f a b w.1) ≡ r0 ∷ rs = sym w.5 ∙ e in
                let j : runs (fates_of f a b w.1) ≡ rs = same_rest q in
                subst (λ (z : List A). Bounded (r0 ∷ rs) z) (sym w.2) (subst (λ (z : List Fate). Bounded (z ∷ rs) (c.0 ++ w.0 ∷ w.1)) (same_first q) (next_run c.0 w.0 w.1 rs c.1 w.3 w.4 (ih w.1 j))))
          ]

-- ---- the texts of a history

module _ (h : History) (l : Lawful h) (proper : AllByRecursion IsProper h) (v : Entries) (c : IsClosed h v) where
  d : Distinct h
  d = (lawful_ready h l).0.distinct

  -- whether a cell was shown, by its fact
  abbrev was_told : Lamport → Bool → List Lamport → Bool
  was_told t x e = sees v t && was_visible (seen_history h v) v t e

  was_is : (x : Cell) → is_shown_at h v x ≡ passes (byte_of h) was_told (fact h x)
  was_is x = ap (λ (e : Bool). sees v x.stamp && e) (shown_closed h l v c x)

  fine_told : (rs : List Run) (s : List Cell) → Utf8 (byte_of h) rs → facts_of rs ≡ map (fact h) s → Fine (byte_of h) (is_shown_at h v) (shows h) (cells (seq h)) s
  fine_told rs s u e = (
    subst IsUtf8 (sym (ap (λ (g : Cell → Bool). map (byte_of h) (filter g s)) (λ i x. was_is x i) ∙ told_where h d (passes (byte_of h) was_told) s ∙ ap (λ (z : List Fact). bytes (byte_of h) (filter (passes (byte_of h) was_told) z)) (sym e)))
        (utf8_where (byte_of h) was_told rs u),
    subst IsUtf8 (sym (told_where h d (λ (q : Fact). q.visible) s ∙ ap (λ (z : List Fact). bytes (byte_of h) (filter (λ (q : Fact). q.visible) z)) (sym e)))
        (utf8_where (byte_of h) (λ t x e. x) rs u),
  )

  w : Whole h
  w = lawful_whole h l (texts_of h proper)

  parted : (xs : List Cell) (x y : Cell) (ys : List Cell) → cells (seq h) ≡ xs ++ x ∷ y ∷ ys → (is_shown_at h v x ≡ is_shown_at h v y → shows h x ≡ shows h y → ⊥)
      → Fine (byte_of h) (is_shown_at h v) (shows h) (cells (seq h)) (y ∷ ys)
  parted xs x y ys e n =
      let t : cell_facts h ≡ map (fact h) xs ++ fact h x ∷ fact h y ∷ map (fact h) ys = ap (map (fact h)) e ∙ map-append (fact h) xs (x ∷ y ∷ ys) in
      let k = told_parted h d (texts_of h proper) w (map (fact h) xs) (map (fact h) ys) (fact h x) (fact h y) t (λ i.
      n (was_is x ∙ sym (ap (passes (byte_of h) was_told) i) ∙ sym (was_is y)) (sym (ap (λ (q : Fact). q.visible) i))) in
      fine_told k.0 (y ∷ ys) k.1 k.2

  pub since_bounded : AllByRecursion (λ (e : TextEdit). (IsCharBoundary (text_at h v) e.old.0 × IsCharBoundary (text_at h v) e.old.1) × (IsCharBoundary (text h) e.new.0 × IsCharBoundary (text h) e.new.1)) (since h v)
  unfolding since
  since_bounded = bounded (byte_of h) (is_shown_at h v) (shows h) (cells (seq h)) (fine_told w.runs (cells (seq h)) w.utf8 w.tell) parted (text_at h v) (text h)
      (runs (fates h v)) (cells (seq h)) refl (inl refl) 0 0 (omega arith) (omega arith) (text_then h l v c) (text_now h)
