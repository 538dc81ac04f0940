-- The places of shown cells among all cells.
use Rattle.std.proofs.Common.{◌≡◌, ℕ, zero, suc, ◌+◌, ◌-◌, ◌<◌, ◌≤◌, ltb, Bool, true, false, cond, List, [], ◌∷◌, ◌++◌, map, take, drop, refl, sym, ap, ◌∙◌, arith, inl, inr, subst}
use Rattle.std.proofs.lemmas.Bool.{cases_Bool, le-ltb, lt-ltb, ltb-true, ltb-false}
use Rattle.tree_cursor.specs.Places.{place_behind, seek_count}
use Rattle.tree_cursor.specs.Counting.{number_passes}
use Rattle.tree_cursor.specs.declared.traits.Bias.TheVariants.{Right}
use Rattle.lamport_clock.specs.declared.stamp.Lamport.{Lamport}
use Rattle.op_model.specs.declared.operation.Piece.{Piece}
use Rattle.op_model.specs.Histories.{History}
use Rattle.op_model.specs.Cells.{Cell, seq, cells}
use Rattle.op_model.specs.Shown.{shows}
use Rattle.op_model.specs.Facts.{Fact, fact, alike}
use Rattle.op_model.specs.Walked.{facts_of}
use Rattle.op_model.specs.Made.{full_offset, full_piece}
use Rattle.fragments.specs.declared.fragment.Fragment.{Fragment}
use Rattle.fragments.specs.Summaries.{summary_of}
use Rattle.fragments.specs.Stand.{runs, Tell}
use Rattle.fragments.specs.Laws.{shown_len, cells_len}
use Rattle.remote_edit.specs.declared.passed.Passed.{Passed}
use Rattle.remote_edit.specs.Passed.{move_passed}
use Rattle.remote_edit.specs.Carried.{hidden_len}
use Rattle.remote_edit.specs.Offsets.{full_in, piece_in}
use Rattle.remote_edit.proofs.PassedPlaces.{passed_behind}

-- ---- among the facts of cells

offset_of : List Fact → ℕ → ℕ
offset_of [] o = 0
offset_of (q ∷ s) zero = cond q.visible 0 (suc (offset_of s zero))
offset_of (q ∷ s) (suc o) = suc (offset_of s (cond q.visible o (suc o)))

told_offset : (h : History) (s : List Cell) (o : ℕ) → offset_of (map (fact h) s) o ≡ full_offset (shows h) s o
unfolding offset_of
told_offset h [] o = refl
told_offset h (c ∷ s) zero = ap (λ n. cond (shows h c) 0 (suc n)) (told_offset h s zero)
told_offset h (c ∷ s) (suc o) = ap suc (told_offset h s (cond (shows h c) o (suc o)))

shown_in : (t : Lamport) (k n : ℕ) (d : List Lamport) (s : List Fact) (o : ℕ) → o < n → offset_of (alike t k n true d ++ s) o ≡ o
unfolding offset_of
shown_in t k zero d s o h = absurd (omega (arith, h))
shown_in t k (suc n) d s zero h = refl
shown_in t k (suc n) d s (suc o) h = ap suc (shown_in t (suc k) n d s o (omega (arith, h)))

shown_past : (t : Lamport) (k n : ℕ) (d : List Lamport) (s : List Fact) (o : ℕ) → n ≤ o → offset_of (alike t k n true d ++ s) o ≡ n + offset_of s (o - n)
unfolding offset_of
shown_past t k zero d s o h = let q : o - 0 ≡ o = omega arith in rw q (omega arith)
shown_past t k (suc n) d s zero h = absurd (omega (arith, h))
shown_past t k (suc n) d s (suc o) h = let q : suc o - suc n ≡ o - n = omega arith in let ih = shown_past t (suc k) n d s o (omega (arith, h)) in rw q (omega (arith, ih))

hidden_past : (t : Lamport) (k n : ℕ) (d : List Lamport) (s : List Fact) (o : ℕ) → offset_of (alike t k n false d ++ s) o ≡ n + offset_of s o
unfolding offset_of
hidden_past t k zero d s o = omega arith
hidden_past t k (suc n) d s zero = let ih = hidden_past t (suc k) n d s zero in omega (arith, ih)
hidden_past t k (suc n) d s (suc o) = let ih = hidden_past t (suc k) n d s (suc o) in omega (arith, ih)

full_is : (fs : List Fragment) (o : ℕ) → full_in fs o ≡ offset_of (facts_of (runs fs)) o
unfolding offset_of
full_is [] o = refl
full_is (f ∷ fs) o = go f.visible (λ n. full_is fs n)
  where
    go : (b : Bool) → ((n : ℕ) → full_in fs n ≡ offset_of (facts_of (runs fs)) n)
        → cond b (cond (ltb o f.len) o (f.len + full_in fs (o - f.len))) (f.len + full_in fs o) ≡ offset_of (alike f.stamp f.offset f.len b f.deletions ++ facts_of (runs fs)) o
    go true ih = elim (cases_Bool (ltb o f.len)) [
      | inl e ↦ rw e (sym (shown_in f.stamp f.offset f.len f.deletions (facts_of (runs fs)) o (ltb-true o f.len e)))
      | inr e ↦ rw e (ap (λ n. f.len + n) (ih (o - f.len)) ∙ sym (shown_past f.stamp f.offset f.len f.deletions (facts_of (runs fs)) o (ltb-false o f.len e)))
    ]
    go false ih = ap (λ n. f.len + n) (ih o) ∙ sym (hidden_past f.stamp f.offset f.len f.deletions (facts_of (runs fs)) o)

pub full_in_history : (h : History) (fs : List Fragment) → Tell fs h → (o : ℕ) → full_in fs o ≡ full_offset (shows h) (cells (seq h)) o
full_in_history h fs e o = full_is fs o ∙ ap (λ s. offset_of s o) e ∙ told_offset h (cells (seq h)) o

piece_is : (h : History) (fs : List Fragment) → Tell fs h → (p : Piece) → piece_in fs p ≡ full_piece h p
piece_is h fs e p = rw (full_in_history h fs e p.start, full_in_history h fs e (p.end - 1)) refl

pub pieces_are : (h : History) (fs : List Fragment) → Tell fs h → (ps : List Piece) → map (piece_in fs) ps ≡ map (full_piece h) ps
pieces_are h fs e [] = refl
pieces_are h fs e (p ∷ ps) = ap (λ q. q ∷ map (piece_in fs) ps) (piece_is h fs e p) ∙ ap (λ qs. full_piece h p ∷ qs) (pieces_are h fs e ps)

pub full_low : (fs : List Fragment) (o : ℕ) → full_in fs o ≤ cells_len fs
full_low [] o = omega arith
full_low (f ∷ fs) o = go f.visible (full_low fs (o - f.len)) (full_low fs o)
  where
    go : (b : Bool) → full_in fs (o - f.len) ≤ cells_len fs → full_in fs o ≤ cells_len fs → cond b (cond (ltb o f.len) o (f.len + full_in fs (o - f.len))) (f.len + full_in fs o) ≤ f.len + cells_len fs
    go true h k = elim (cases_Bool (ltb o f.len)) [ inl e ↦ rw e (let l : o < f.len = ltb-true o f.len e in omega (arith, l)) | inr e ↦ rw e (omega (arith, h)) ]
    go false h k = omega (arith, k)

-- ---- a seek

abbrev sought : ℕ → ℕ → ℕ → List Fragment → ℕ
sought o a b fs = seek_count move_passed summary_of (λ p. number_passes o p.0 Right) (a, b) fs

hidden_next : (f : Fragment) (fs : List Fragment) (v : Bool) (k : ℕ) → f.visible ≡ v → hidden_len (take (1 + k) (f ∷ fs)) ≡ cond v (hidden_len (take k fs)) (f.len + hidden_len (take k fs))
hidden_next f fs v k e = let q : 1 + k ≡ suc k = omega arith in ap (λ n. hidden_len (take n (f ∷ fs))) q ∙ ap (λ b. cond b (hidden_len (take k fs)) (f.len + hidden_len (take k fs))) e

seek_hidden : (fs : List Fragment) (o a b : ℕ) → a ≤ o → o ≤ a + shown_len fs → full_in fs (o - a) ≡ (o - a) + hidden_len (take (sought o a b fs) fs)
seek_hidden [] o a b l h = omega (arith, l, h)
seek_hidden (f ∷ fs) o a b l h = go f.visible refl h (λ c d. seek_hidden fs o c d)
  where
    go : (v : Bool) → f.visible ≡ v → o ≤ a + cond v (f.len + shown_len fs) (shown_len fs) → ((c d : ℕ) → c ≤ o → o ≤ c + shown_len fs → full_in fs (o - c) ≡ (o - c) + hidden_len (take (sought o c d fs) fs))
        → cond v (cond (ltb (o - a) f.len) (o - a) (f.len + full_in fs (o - a - f.len))) (f.len + full_in fs (o - a))
        ≡ (o - a) + hidden_len (take (cond (ltb o (a + cond v f.len 0)) 0 (1 + sought o (a + cond v f.len 0) (b + cond v 0 f.len) fs)) (f ∷ fs))
    go true e h ih = elim (cases_Bool (ltb o (a + f.len))) [
      | inl t ↦ (let g : o < a + f.len = ltb-true o (a + f.len) t in
          let u : ltb (o - a) f.len ≡ true = lt-ltb (o - a) f.len (omega (arith, g, l)) in rw (t, u) (omega arith))
      | inr t ↦ (let g : a + f.len ≤ o = ltb-false o (a + f.len) t in
          let u : ltb (o - a) f.len ≡ false = le-ltb (o - a) f.len (omega (arith, g)) in
          let q : o - a - f.len ≡ o - (a + f.len) = omega arith in
          let i = ih (a + f.len) (b + 0) g (omega (arith, h)) in
          let n = hidden_next f fs true (sought o (a + f.len) (b + 0) fs) e in
          rw (t, u, q) (omega (arith, i, n, g)))
    ]
    go false e h ih =
        let t : ltb o (a + 0) ≡ false = le-ltb o (a + 0) (omega (arith, l)) in
        let q : o - (a + 0) ≡ o - a = omega arith in
        let i : full_in fs (o - a) ≡ (o - a) + hidden_len (take (sought o (a + 0) (b + f.len) fs) fs) = subst (λ n. full_in fs n ≡ n + hidden_len (take (sought o (a + 0) (b + f.len) fs) fs)) q (ih (a + 0) (b + f.len) (omega (arith, l)) (omega (arith, h))) in
        let n = hidden_next f fs false (sought o (a + 0) (b + f.len) fs) e in
        rw t (omega (arith, i, n))

-- what a look-up gives
pub found : (xs : List Fragment) (o : ℕ) (got : Passed) → (got.visible, got.hidden) ≡ place_behind move_passed summary_of (0, 0) (take (sought o 0 0 xs) xs)
    → o ≤ shown_len xs → full_in xs o ≡ o + got.hidden
found xs o got e l =
    let k : List Fragment = take (sought o 0 0 xs) xs in
    let g : got.hidden ≡ 0 + hidden_len k = ap (λ (p : ℕ × ℕ). p.1) (e ∙ passed_behind 0 0 k) in
    let z : o - 0 ≡ o = omega arith in
    let h : full_in xs o ≡ o + hidden_len k = subst (λ n. full_in xs n ≡ n + hidden_len k) z (seek_hidden xs o 0 0 (omega arith) (omega (arith, l))) in
    omega (arith, h, g)
