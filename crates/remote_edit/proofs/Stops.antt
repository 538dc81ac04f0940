-- Where seeks stop, and the cells before it.
use Rattle.std.proofs.Common.{◌≡◌, ℕ, ◌+◌, ◌<◌, ◌≤◌, ◌^◌, List, take, refl, sym, ap, ◌∙◌, arith, subst}
use Rattle.tree_cursor.specs.Places.{place_behind, seek_count}
use Rattle.tree_cursor.specs.Counting.{number_passes}
use Rattle.tree_cursor.specs.declared.traits.Bias.TheVariants.{Left}
use Rattle.lamport_clock.specs.Versions.{Entries}
use Rattle.fragments.specs.declared.fragment.Fragment.{Fragment}
use Rattle.fragments.specs.Summaries.{summary_of}
use Rattle.fragments.specs.Laws.{shown_len, cells_len}
use Rattle.fragments.proofs.Cells.{cells_len-cut}
use Rattle.remote_edit.specs.declared.passed.Passed.{Passed}
use Rattle.remote_edit.specs.Passed.{SeenPlace, move_passed, move_seen}
use Rattle.remote_edit.specs.Places.{IsAfter}
use Rattle.remote_edit.specs.Starts.{AllSeen}
use Rattle.remote_edit.specs.Steps.{seen_stop}
use Rattle.remote_edit.specs.Walk.{seen_bytes}
use Rattle.remote_edit.proofs.PassedPlaces.{all_cells, passed_behind, seek_seen, seen_behind}
use Rattle.remote_edit.proofs.Starts.{seen_all}
use Rattle.remote_edit.proofs.Unasked.{stop_passed, stop_unasked}

-- before the first
pub none_after : (xs : List Fragment) (i : ℕ) → i ≡ 0 → IsAfter (record { visible = 0; hidden = 0 }) (take i xs)
none_after xs i e = subst (λ (n : ℕ). IsAfter (record { visible = 0; hidden = 0 }) (take n xs)) (sym e) (refl, refl)

-- ---- by all cells

pub plain_index : (v : Entries) (goal index : ℕ) (xs : List Fragment) → AllSeen v xs → index ≡ seek_count move_passed summary_of (λ p. number_passes goal (p.0 + p.1) Left) (0, 0) xs → index ≡ seen_stop v goal xs
plain_index v goal index xs h e = e ∙ stop_passed (λ n. number_passes goal n Left) 0 0 xs ∙ stop_unasked v (λ n. number_passes goal n Left) 0 xs h

pub plain_after : (p : Passed) (n : ℕ) (xs : List Fragment) → (p.visible, p.hidden) ≡ place_behind move_passed summary_of (0, 0) (take n xs) → IsAfter p (take n xs)
plain_after p n xs e =
    let k = e ∙ passed_behind 0 0 (take n xs) in
    (ap (λ (q : ℕ × ℕ). q.0) k ∙ omega arith, ap (λ (q : ℕ × ℕ). q.1) k ∙ omega arith)

pub plain_place : (v : Entries) (p : Passed) (n : ℕ) (xs : List Fragment) → AllSeen v xs → IsAfter p (take n xs) → p.visible + p.hidden ≡ seen_bytes v (take n xs)
plain_place v p n xs h a = let s = a.0 in let d = a.1 in let c = all_cells (take n xs) in let b = seen_all v n xs h in omega (arith, s, d, c, b)

pub plain_low : (p : Passed) (n : ℕ) (xs : List Fragment) → IsAfter p (take n xs) → p.visible + p.hidden ≤ cells_len xs
plain_low p n xs a = let s = a.0 in let d = a.1 in let c = all_cells (take n xs) in let b = cells_len-cut xs n in omega (arith, s, d, c, b)

-- ---- by those that a version sees

pub asked_index : (v : Entries) (goal index : ℕ) (xs : List Fragment) → index ≡ seek_count move_seen summary_of (λ p. number_passes goal p.0.0.1 Left) (((v, 0), 0), 0) xs → index ≡ seen_stop v goal xs
asked_index v goal index xs e = e ∙ seek_seen (λ p. number_passes goal p.1 Left) (v, 0) 0 0 xs

pub asked_place : (v w : Entries) (b s h n : ℕ) (xs : List Fragment) → (((w, b), s), h) ≡ place_behind move_seen summary_of (((v, 0), 0), 0) (take n xs)
    → (b ≡ seen_bytes v (take n xs)) × IsAfter (record { visible = s; hidden = h }) (take n xs)
asked_place v w b s h n xs e =
    let k = e ∙ seen_behind v 0 0 0 (take n xs) in
    (ap (λ (q : SeenPlace). q.0.0.1) k ∙ omega arith, (ap (λ (q : SeenPlace). q.0.1) k ∙ omega arith, ap (λ (q : SeenPlace). q.1) k ∙ omega arith))
