-- The number of cells that a version sees, and one step over a fragment.
use Rattle.std.proofs.Common.{◌≡◌, ℕ, zero, suc, ◌+◌, ◌-◌, ◌<◌, ◌≤◌, ◌^◌, Option, List, [], ◌∷◌, ◌++◌, take, refl, ap, ◌∙◌, arith, cond, true, false, inl, inr}
use Rattle.std.proofs.lemmas.Bool.{le-leb, lt-leb, cases_Bool}
use Rattle.lamport_clock.specs.declared.stamp.Lamport.{Lamport}
use Rattle.lamport_clock.specs.Versions.{Entries, sees}
use Rattle.locators.specs.Locator.{between_digits}
use Rattle.undo_map.specs.declared.entry.UndoEntry.{UndoEntry}
use Rattle.fragments.specs.declared.fragment.Fragment.{Fragment}
use Rattle.fragments.specs.Laws.{cells_len}
use Rattle.fragments.proofs.Cells.{cells_len-cut}
use Rattle.remote_edit.specs.Marks.{touch}
use Rattle.remote_edit.specs.Walk.{seen_bytes, Fit, last_id, front, back, zip, advance}

-- ---- the cells that a version sees

abbrev pub own : Entries → Fragment → ℕ
own v f = cond (sees v f.stamp) f.len 0

pub seen_cons : (v : Entries) (f : Fragment) (fs : List Fragment) → seen_bytes v (f ∷ fs) ≡ own v f + seen_bytes v fs
seen_cons v f fs = elim (cases_Bool (sees v f.stamp)) [ inl s ↦ rw s refl | inr s ↦ rw s (omega arith) ]

pub seen_append : (v : Entries) (a b : List Fragment) → seen_bytes v (a ++ b) ≡ seen_bytes v a + seen_bytes v b
seen_append v [] b = omega arith
seen_append v (f ∷ a) b = let ih = seen_append v a b in let x = seen_cons v f (a ++ b) in let y = seen_cons v f a in omega arith

pub own_len : (v : Entries) (f : Fragment) → own v f ≤ f.len
own_len v f = elim (cases_Bool (sees v f.stamp)) [ inl s ↦ rw s (omega arith) | inr s ↦ rw s (omega arith) ]

pub seen_within : (v : Entries) (fs : List Fragment) → seen_bytes v fs ≤ cells_len fs
seen_within v [] = omega arith
seen_within v (f ∷ fs) = let ih = seen_within v fs in let x = seen_cons v f fs in let y = own_len v f in omega arith

-- one fragment further
pub seen_more : (v : Entries) (ys : List Fragment) (pre : List Fragment) (g : Fragment) (p n : ℕ) → ys ≡ pre ++ g ∷ [] → p ≡ seen_bytes v pre → own v g ≡ n → p + n ≡ seen_bytes v ys
seen_more v ys pre g p n e q o = let a = ap (seen_bytes v) e ∙ seen_append v pre (g ∷ []) in let b = seen_cons v g [] in omega arith

pub seen_own : (v : Entries) (f : Fragment) → sees v f.stamp ≡ true → own v f ≡ f.len
seen_own v f s = rw s refl

pub unseen_own : (v : Entries) (f : Fragment) → sees v f.stamp ≡ false → own v f ≡ 0
unseen_own v f s = rw s refl

module _ (m : Option (List UndoEntry)) (t : Lamport) (v : Entries) where
  pub adv_unseen : (pre r : List Fragment) (f : Fragment) (n : ℕ) → 0 < n → sees v f.stamp ≡ false → advance m t v n pre (f ∷ r) ≡ advance m t v n (pre ++ f ∷ []) r
  adv_unseen pre r f zero h s = absurd (omega arith)
  adv_unseen pre r f (suc n) h s = rw s refl

  pub adv_whole : (pre r : List Fragment) (f : Fragment) (n : ℕ) → 0 < n → sees v f.stamp ≡ true → f.len ≤ n → advance m t v n pre (f ∷ r) ≡ advance m t v (n - f.len) (pre ++ touch m t v f ∷ []) r
  adv_whole pre r f zero h s l = absurd (omega arith)
  adv_whole pre r f (suc n) h s l = rw (s, le-leb f.len (suc n) l) refl

  pub adv_split : (pre r : List Fragment) (f : Fragment) (n : ℕ) → 0 < n → sees v f.stamp ≡ true → n < f.len
      → advance m t v n pre (f ∷ r) ≡ zip (pre ++ touch m t v (front f n (between_digits (last_id pre) f.id)) ∷ []) (back f n ∷ r)
  adv_split pre r f zero h s l = absurd (omega arith)
  adv_split pre r f (suc n) h s l = rw (s, lt-leb f.len (suc n) l) refl

  pub adv_zero : (pre r : List Fragment) (n : ℕ) → n ≡ 0 → advance m t v n pre r ≡ zip pre r
  adv_zero pre [] n e = refl
  adv_zero pre (f ∷ r) n e = ap (λ (k : ℕ). advance m t v k pre (f ∷ r)) e

-- ---- room

pub place_room : (v : Entries) (xs : List Fragment) (i p : ℕ) → Fit xs → p ≡ seen_bytes v (take i xs) → p ≤ 2 ^ 40
place_room v xs i p h e = let a = seen_within v (take i xs) in let b = cells_len-cut xs i in let c = h.1 in omega arith
