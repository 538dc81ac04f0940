-- Fragments of which some are replaced by others.
use Rattle.std.proofs.Common.{◌≡◌, ℕ, zero, suc, ◌≤◌, List, [], ◌∷◌, take, refl, ap, ◌∙◌, arith, Option, Bool, cond, true, false, Some, None}
use Rattle.std.specs.List.{slice_get}
use Rattle.locators.specs.Locator.{least_digits}
use Rattle.lamport_clock.specs.declared.stamp.Lamport.{Lamport}
use Rattle.lamport_clock.specs.Versions.{Entries}
use Rattle.op_model.specs.Facts.{with_deletion}
use Rattle.undo_map.specs.declared.entry.UndoEntry.{UndoEntry}
use Rattle.fragments.specs.declared.fragment.Fragment.{Fragment}
use Rattle.remote_edit.specs.Marks.{was_shown, touch}
use Rattle.remote_edit.specs.Walk.{last_id}

-- ---- the fragment before a place

pub last_taken : (xs : List Fragment) (n i : ℕ) (f : Fragment) → i ≡ suc n → Some f ≡ slice_get xs n → last_id (take i xs) ≡ f.id
last_taken xs n i f q e = ap (λ j. last_id (take j xs)) q ∙ go xs n e
  where
    go : (xs : List Fragment) (n : ℕ) → Some f ≡ slice_get xs n → last_id (take (suc n) xs) ≡ f.id
    go [] n e = cc
    go (x ∷ xs) zero e = cc
    go (x ∷ []) (suc n) e = cc
    go (x ∷ y ∷ xs) (suc n) e = go (y ∷ xs) n e

pub none_before : (xs : List Fragment) (i : ℕ) → i ≤ 0 → last_id (take i xs) ≡ least_digits
none_before xs zero h = refl
none_before xs (suc i) h = absurd (omega arith)

-- ---- a fragment that is touched

pub touch_len : (m : Option (List UndoEntry)) (t : Lamport) (v : Entries) (f : Fragment) → ((touch m t v f).len ≡ f.len) × ((touch m t v f).offset ≡ f.offset)
touch_len None t v f = (refl, refl)
touch_len (Some w) t v f = elim (was_shown w v f.stamp f.deletions) as (λ (b : Bool). ((cond b (record { id = f.id; stamp = f.stamp; offset = f.offset; len = f.len; visible = false; deletions = with_deletion t f.deletions; max_undos = f.max_undos }) f).len ≡ f.len) × ((cond b (record { id = f.id; stamp = f.stamp; offset = f.offset; len = f.len; visible = false; deletions = with_deletion t f.deletions; max_undos = f.max_undos }) f).offset ≡ f.offset)) [ true ↦ (refl, refl) | false ↦ (refl, refl) ]

pub touch_stamp : (m : Option (List UndoEntry)) (t : Lamport) (v : Entries) (f : Fragment) → (touch m t v f).stamp ≡ f.stamp
touch_stamp None t v f = refl
touch_stamp (Some w) t v f = elim (was_shown w v f.stamp f.deletions) as (λ (b : Bool). (cond b (record { id = f.id; stamp = f.stamp; offset = f.offset; len = f.len; visible = false; deletions = with_deletion t f.deletions; max_undos = f.max_undos }) f).stamp ≡ f.stamp) [ true ↦ refl | false ↦ refl ]

pub touch_id : (m : Option (List UndoEntry)) (t : Lamport) (v : Entries) (f : Fragment) → (touch m t v f).id ≡ f.id
touch_id None t v f = refl
touch_id (Some w) t v f = elim (was_shown w v f.stamp f.deletions) as (λ (b : Bool). (cond b (record { id = f.id; stamp = f.stamp; offset = f.offset; len = f.len; visible = false; deletions = with_deletion t f.deletions; max_undos = f.max_undos }) f).id ≡ f.id) [ true ↦ refl | false ↦ refl ]
