-- Where a version sees all fragments, a seek by all cells stops where one by the cells that the version sees does.
use Rattle.std.proofs.Common.{◌≡◌, ℕ, ◌+◌, Bool, true, List, [], ◌∷◌, take, refl, sym, ap, ◌∙◌, arith, cond}
use Rattle.std.proofs.lemmas.Bool.{and_parts}
use Rattle.sum_tree.specs.Laws.{fold}
use Rattle.tree_cursor.specs.Places.{place_behind, seek_count}
use Rattle.lamport_clock.specs.Versions.{Entries}
use Rattle.fragments.specs.declared.fragment.Fragment.{Fragment}
use Rattle.fragments.specs.declared.fragment.FragmentSummary.{FragmentSummary}
use Rattle.fragments.specs.Spans.{sees_all}
use Rattle.fragments.specs.SpanLaws.{all_parts}
use Rattle.fragments.specs.Summaries.{summaries, summary_of}
use Rattle.fragments.specs.SeenPlaces.{At, cells_of, move_full, move_at}
use Rattle.fragments.proofs.Counts.{own_cells, places_count_cells}
use Rattle.remote_edit.specs.Passed.{move_passed}
use Rattle.remote_edit.specs.Starts.{AllSeen}
use Rattle.remote_edit.specs.Walk.{seen_bytes}
use Rattle.remote_edit.proofs.Passing.{own, seen_own}
use Rattle.remote_edit.proofs.Seeking.{move_one}
use Rattle.remote_edit.proofs.Starts.{seen_all}

-- one that sees all stamps of a sum sees the fragments
pub all_of_sum : (v : Entries) (s : FragmentSummary) (fs : List Fragment) → sees_all v (fold s summaries summary_of fs).span ≡ true → (sees_all v s.span ≡ true) × AllSeen v fs
all_of_sum v s [] e = (e, tt)
all_of_sum v s (f ∷ fs) e =
    let ih = all_of_sum v (summaries s (summary_of f)) fs e in
    let k = all_parts v s.span (summary_of f).span ih.0 in
    (k.0, ((and_parts _ _ k.1).0, ih.1))

-- a seek by all cells stops where one by the cells that it sees does
pub stop_unasked : (v : Entries) (stops : ℕ → Bool) (n : ℕ) (fs : List Fragment) → AllSeen v fs → seek_count move_full summary_of stops n fs ≡ seek_count move_at summary_of (λ p. stops p.1) (v, n) fs
stop_unasked v stops n [] h = refl
stop_unasked v stops n (f ∷ fs) h =
    let c = own_cells f in
    let o = seen_own v f h.0 in
    let e : n + cells_of (summary_of f) ≡ n + own v f = omega (arith, c, o) in
    ap (λ (k : ℕ). cond (stops k) 0 (1 + seek_count move_full summary_of stops k fs)) e
    ∙ ap (λ (k : ℕ). cond (stops (n + own v f)) 0 (1 + k)) (stop_unasked v stops (n + own v f) fs h.1)
    ∙ sym (ap (λ (p : At). cond (stops p.1) 0 (1 + seek_count move_at summary_of (λ q. stops q.1) p fs)) (move_one v n f))

-- and has passed as many
pub place_unasked : (v : Entries) (n p : ℕ) (fs : List Fragment) → AllSeen v fs → p ≡ place_behind move_full summary_of 0 (take n fs) → p ≡ seen_bytes v (take n fs)
place_unasked v n p fs h e = let a = (places_count_cells (take n fs) 0).0 in let b = seen_all v n fs h in omega (arith, e, a, b)

-- nor does it matter whether shown and hidden cells are counted apart
pub stop_passed : (stops : ℕ → Bool) (a b : ℕ) (fs : List Fragment) → seek_count move_passed summary_of (λ p. stops (p.0 + p.1)) (a, b) fs ≡ seek_count move_full summary_of stops (a + b) fs
stop_passed stops a b [] = refl
stop_passed stops a b (f ∷ fs) =
    let s : FragmentSummary = summary_of f in
    let e : a + s.visible + (b + s.hidden) ≡ a + b + cells_of s = omega arith in
    ap (λ (k : ℕ). cond (stops (a + s.visible + (b + s.hidden))) 0 (1 + k)) (stop_passed stops (a + s.visible) (b + s.hidden) fs)
    ∙ ap (λ (k : ℕ). cond (stops k) 0 (1 + seek_count move_full summary_of stops k fs)) e
