-- The bytes of the cells that a version sees, and where each lies in the shown or the hidden text.
use Rattle.std.proofs.Common.{◌≡◌, ℕ, zero, suc, ◌+◌, ◌<◌, List, [], ◌∷◌, ◌++◌, length, get_or, refl, sym, ap, ◌∙◌, arith, cond, true, false, not, Bool, append_assoc}
use Rattle.std.proofs.lemmas.List.{length-append}
use Rattle.lamport_clock.specs.declared.stamp.Lamport.{Lamport}
use Rattle.lamport_clock.specs.Versions.{Entries, sees}
use Rattle.op_model.specs.Cells.{Cell}
use Rattle.op_model.proofs.texts.Utf8Runs.{kept_bytes, get_right}
use Rattle.fragments.specs.declared.fragment.Fragment.{Fragment}
use Rattle.fragments.specs.Stand.{runs}
use Rattle.fragments.specs.Laws.{shown_len}
use Rattle.remote_edit.specs.Walk.{seen_bytes}
use Rattle.remote_edit.specs.Carried.{cell_bytes, shown_bytes, hidden_bytes, hidden_len}
use Rattle.remote_edit.proofs.WholeFragments.{alike_bytes}
use Rattle.remote_edit.proofs.Carrying.{bytes_of, long, shown_first, hidden_first, shown_append, hidden_append, shown_long, hidden_long}

-- ---- the bytes of fragments

module _ (byte : Cell → ℕ) where
  unfoldable pub cell_at : Fragment → ℕ → ℕ
  cell_at f d = byte (record { stamp = f.stamp; k = f.offset + d })

  nth : (t : Lamport) (k n d : ℕ) (s : List ℕ) → d < n → get_or (cell_bytes byte t k n ++ s) d 0 ≡ byte (record { stamp = t; k = k + d })
  nth t k zero d s h = absurd (omega (arith, h))
  nth t k (suc n) zero s h = let e : k ≡ k + 0 = omega arith in ap (λ (j : ℕ). byte (record { stamp = t; k = j })) e
  nth t k (suc n) (suc d) s h = let e : suc k + d ≡ k + suc d = omega arith in nth t (suc k) n d s (omega (arith, h)) ∙ ap (λ (j : ℕ). byte (record { stamp = t; k = j })) e

  module _ (v : Entries) where
    abbrev pub seen_in : List Fragment → List ℕ
    seen_in fs = kept_bytes byte (sees v) (runs fs)

    seen_first : (f : Fragment) (fs : List Fragment) → seen_in (f ∷ fs) ≡ cond (sees v f.stamp) (bytes_of byte f ++ seen_in fs) (seen_in fs)
    seen_first f fs = ap (λ (z : List ℕ). cond (sees v f.stamp) (z ++ seen_in fs) (seen_in fs)) (alike_bytes byte f.stamp f.offset f.len f.visible f.deletions)

    pub seen_in_append : (xs ys : List Fragment) → seen_in (xs ++ ys) ≡ seen_in xs ++ seen_in ys
    seen_in_append [] ys = refl
    seen_in_append (x ∷ xs) ys = seen_first x (xs ++ ys) ∙ ap (λ (z : List ℕ). cond (sees v x.stamp) (bytes_of byte x ++ z) z) (seen_in_append xs ys) ∙ go (sees v x.stamp) ∙ ap (λ (z : List ℕ). z ++ seen_in ys) (sym (seen_first x xs))
      where
        go : (b : Bool) → cond b (bytes_of byte x ++ (seen_in xs ++ seen_in ys)) (seen_in xs ++ seen_in ys) ≡ cond b (bytes_of byte x ++ seen_in xs) (seen_in xs) ++ seen_in ys
        go true = sym (append_assoc (bytes_of byte x) (seen_in xs) (seen_in ys))
        go false = refl

    pub seen_long : (xs : List Fragment) → seen_bytes v xs ≡ length (seen_in xs)
    seen_long [] = refl
    seen_long (x ∷ xs) = go (sees v x.stamp) (seen_long xs) ∙ ap length (sym (seen_first x xs))
      where
        go : (b : Bool) → seen_bytes v xs ≡ length (seen_in xs) → cond b (x.len + seen_bytes v xs) (seen_bytes v xs) ≡ length (cond b (bytes_of byte x ++ seen_in xs) (seen_in xs))
        go true e = let a = length-append (bytes_of byte x) (seen_in xs) in let l = long byte x.stamp x.offset x.len in omega (arith, a, l, e)
        go false e = e

    -- the byte at d of f, with pre before it
    module _ (pre post : List Fragment) (f : Fragment) (d : ℕ) (h : d < f.len) where
      pub seen_at : sees v f.stamp ≡ true → get_or (seen_in (pre ++ f ∷ post)) (seen_bytes v pre + d) 0 ≡ cell_at f d
      unfolding cell_at
      seen_at s = ap (λ (z : List ℕ). get_or z (seen_bytes v pre + d) 0) (seen_in_append pre (f ∷ post))
          ∙ get_right (seen_in pre) (seen_in (f ∷ post)) (seen_bytes v pre + d) d (ap (λ (n : ℕ). n + d) (seen_long pre))
          ∙ ap (λ (z : List ℕ). get_or z d 0) (seen_first f post ∙ ap (λ (b : Bool). cond b (bytes_of byte f ++ seen_in post) (seen_in post)) s)
          ∙ nth f.stamp f.offset f.len d (seen_in post) h

      pub shown_at : f.visible ≡ true → get_or (shown_bytes byte (pre ++ f ∷ post)) (shown_len pre + d) 0 ≡ cell_at f d
      unfolding cell_at
      shown_at s = ap (λ (z : List ℕ). get_or z (shown_len pre + d) 0) (shown_append byte pre (f ∷ post))
          ∙ get_right (shown_bytes byte pre) (shown_bytes byte (f ∷ post)) (shown_len pre + d) d (ap (λ (n : ℕ). n + d) (shown_long byte pre))
          ∙ ap (λ (z : List ℕ). get_or z d 0) (shown_first byte f post ∙ ap (λ (b : Bool). cond b (bytes_of byte f ++ shown_bytes byte post) (shown_bytes byte post)) s)
          ∙ nth f.stamp f.offset f.len d (shown_bytes byte post) h

      pub hidden_at : f.visible ≡ false → get_or (hidden_bytes byte (pre ++ f ∷ post)) (hidden_len pre + d) 0 ≡ cell_at f d
      unfolding cell_at
      hidden_at s = ap (λ (z : List ℕ). get_or z (hidden_len pre + d) 0) (hidden_append byte pre (f ∷ post))
          ∙ get_right (hidden_bytes byte pre) (hidden_bytes byte (f ∷ post)) (hidden_len pre + d) d (ap (λ (n : ℕ). n + d) (hidden_long byte pre))
          ∙ ap (λ (z : List ℕ). get_or z d 0) (hidden_first byte f post ∙ ap (λ (b : Bool). cond (not b) (bytes_of byte f ++ hidden_bytes byte post) (hidden_bytes byte post)) s)
          ∙ nth f.stamp f.offset f.len d (hidden_bytes byte post) h
