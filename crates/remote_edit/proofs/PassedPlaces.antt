-- The places after fragments count their shown and their hidden cells, and so do their sums.
use Rattle.std.proofs.Common.{◌≡◌, ℕ, ◌+◌, ◌≤◌, ◌^◌, Bool, true, false, cond, List, [], ◌∷◌, ◌++◌, Option, Some, refl, ap, ◌∙◌, arith}
use Rattle.std.specs.Option.{option_map}
use Rattle.sum_tree.specs.Laws.{fold}
use Rattle.tree_cursor.specs.Places.{place_behind, seek_count}
use Rattle.lamport_clock.specs.Versions.{Entries, sees}
use Rattle.op_model.specs.Walked.{kept_len}
use Rattle.fragments.specs.declared.fragment.Fragment.{Fragment}
use Rattle.fragments.specs.declared.fragment.FragmentSummary.{FragmentSummary}
use Rattle.fragments.specs.Summaries.{no_fragments, summaries, summary_of}
use Rattle.fragments.specs.SeenPlaces.{At, move_visible, move_at}
use Rattle.fragments.specs.Stand.{runs}
use Rattle.fragments.specs.Laws.{shown_len, cells_len}
use Rattle.fragments.proofs.Counts.{visible_more, visible_sum, places_count_cells}
use Rattle.fragments.proofs.Cells.{at_whole, number_whole}
use Rattle.remote_edit.specs.Beside.{beside, move_beside}
use Rattle.remote_edit.specs.Passed.{move_passed, PassedFits, move_seen, SeenFits}
use Rattle.remote_edit.specs.Carried.{hidden_len}
use Rattle.remote_edit.proofs.Beside.{count_beside, place_beside}

abbrev move_at_visible : At × ℕ → FragmentSummary → Option (At × ℕ)
move_at_visible = move_beside move_at (λ s. s.visible)

visible_whole : (p : At × ℕ) (f : Fragment) → (q : At × ℕ) × (move_at_visible p (summary_of f) ≡ Some q)
visible_whole p f = let k = at_whole p.0 f in (beside (p.1 + (summary_of f).visible) k.0, ap (option_map (beside (p.1 + (summary_of f).visible))) k.1)

-- ---- the numbers

hidden_more : (f : Fragment) (fs : List Fragment) → hidden_len (f ∷ fs) ≡ (summary_of f).hidden + hidden_len fs
hidden_more f fs = go f.visible
  where
    go : (b : Bool) → cond b (hidden_len fs) (f.len + hidden_len fs) ≡ cond b 0 f.len + hidden_len fs
    go true = omega arith
    go false = refl

pub all_cells : (fs : List Fragment) → shown_len fs + hidden_len fs ≡ cells_len fs
all_cells [] = omega arith
all_cells (f ∷ fs) = go f.visible (all_cells fs)
  where
    go : (b : Bool) → shown_len fs + hidden_len fs ≡ cells_len fs → cond b (f.len + shown_len fs) (shown_len fs) + cond b (hidden_len fs) (f.len + hidden_len fs) ≡ f.len + cells_len fs
    go true e = omega (arith, e)
    go false e = omega (arith, e)

pub hidden_append_len : (xs ys : List Fragment) → hidden_len (xs ++ ys) ≡ hidden_len xs + hidden_len ys
hidden_append_len [] ys = omega arith
hidden_append_len (x ∷ xs) ys = go x.visible (hidden_append_len xs ys)
  where
    go : (b : Bool) → hidden_len (xs ++ ys) ≡ hidden_len xs + hidden_len ys → cond b (hidden_len (xs ++ ys)) (x.len + hidden_len (xs ++ ys)) ≡ cond b (hidden_len xs) (x.len + hidden_len xs) + hidden_len ys
    go true e = e
    go false e = omega (arith, e)

-- ---- places

-- the numbers paired with a place do not change where a seek stops
pub seek_seen : (stops : At → Bool) (p : At) (a b : ℕ) (fs : List Fragment) → seek_count move_seen summary_of (λ q. stops q.0.0) ((p, a), b) fs ≡ seek_count move_at summary_of stops p fs
seek_seen stops p a b fs =
    count_beside move_at_visible (λ s. s.hidden) summary_of visible_whole (λ q. stops q.0) (beside a p) b fs
    ∙ count_beside move_at (λ s. s.visible) summary_of at_whole stops p a fs

pub seen_behind : (v : Entries) (n a b : ℕ) (fs : List Fragment) → place_behind move_seen summary_of (((v, n), a), b) fs ≡ (((v, n + kept_len (sees v) (runs fs)), a + shown_len fs), b + hidden_len fs)
seen_behind v n a b fs =
    place_beside move_at_visible (λ s. s.hidden) summary_of visible_whole hidden_len refl hidden_more ((v, n), a) b fs
    ∙ ap (beside (b + hidden_len fs)) (place_beside move_at (λ s. s.visible) summary_of at_whole shown_len refl visible_more (v, n) a fs
    ∙ ap (beside (a + shown_len fs)) ((places_count_cells fs n).2 v))

pub passed_behind : (m n : ℕ) (fs : List Fragment) → place_behind move_passed summary_of (m, n) fs ≡ (m + shown_len fs, n + hidden_len fs)
passed_behind m n fs = place_beside move_visible (λ s. s.hidden) summary_of number_whole hidden_len refl hidden_more m n fs ∙ ap (beside (n + hidden_len fs)) (places_count_cells fs m).1

-- ---- sums

pub hidden_sum : (s : FragmentSummary) (fs : List Fragment) → (fold s summaries summary_of fs).hidden ≡ s.hidden + hidden_len fs
hidden_sum s [] = omega arith
hidden_sum s (f ∷ fs) = let e = hidden_more f fs in let ih = hidden_sum (summaries s (summary_of f)) fs in omega (arith, e, ih)

pub whole_sum : (fs : List Fragment) → ((fold no_fragments summaries summary_of fs).visible ≡ shown_len fs) × ((fold no_fragments summaries summary_of fs).hidden ≡ hidden_len fs)
whole_sum fs = let a = visible_sum no_fragments fs in let b = hidden_sum no_fragments fs in (omega (arith, a), omega (arith, b))

-- if there are at most 2^40 cells, each place fits
pub seen_fits : (v : Entries) (fs : List Fragment) → cells_len fs ≤ 2 ^ 40 → SeenFits (((v, 0), 0), 0) (fold no_fragments summaries summary_of fs)
seen_fits v fs h = let a = (whole_sum fs).0 in let b = (whole_sum fs).1 in let c = all_cells fs in ((omega (arith, a, b, c, h), omega (arith, a, c, h)), omega (arith, b, c, h))

pub passed_fits : (fs : List Fragment) → cells_len fs ≤ 2 ^ 40 → PassedFits (0, 0) (fold no_fragments summaries summary_of fs)
passed_fits fs h = let a = (whole_sum fs).0 in let b = (whole_sum fs).1 in let c = all_cells fs in (omega (arith, a, c, h), omega (arith, b, c, h))
