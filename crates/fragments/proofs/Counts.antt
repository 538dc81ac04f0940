-- The places after fragments count their cells.
use Rattle.std.proofs.Common.{◌≡◌, ℕ, ◌+◌, Bool, true, false, cond, List, [], ◌∷◌, ◌++◌, length, Option, refl, ap, ◌∙◌, arith, inl, inr, subst}
use Rattle.std.proofs.lemmas.Bool.{cases_Bool, and_from, leb-false, lt-ltb}
use Rattle.std.proofs.lemmas.List.{length-append}
use Rattle.std.specs.List.{AllByRecursion}
use Rattle.lamport_clock.specs.Versions.{Entries, sees, entry}
use Rattle.sum_tree.specs.Laws.{fold}
use Rattle.tree_cursor.specs.Places.{behind, place_behind}
use Rattle.op_model.specs.Facts.{alike}
use Rattle.op_model.specs.Walked.{kept_len, facts_of}
use Rattle.op_model.proofs.texts.Utf8Runs.{length_alike}
use Rattle.op_model.specs.declared.operation.Operation.{Operation}
use Rattle.op_model.specs.Operations.{counts_of, is_edit}
use Rattle.op_model.specs.Histories.{History}
use Rattle.op_model.specs.Sorted.{Member}
use Rattle.op_model.proofs.histories.Lawful.{in_append}
use Rattle.op_model.proofs.shown.OnePass.{no_counts}
use Rattle.fragments.specs.declared.fragment.Fragment.{Fragment}
use Rattle.fragments.specs.declared.fragment.FragmentSummary.{FragmentSummary}
use Rattle.fragments.specs.Summaries.{summaries, summary_of}
use Rattle.fragments.specs.SummaryLaws.{one_admitted}
use Rattle.fragments.specs.SeenPlaces.{At, cells_of, move_full, move_visible, move_at}
use Rattle.fragments.specs.Stand.{runs, SeesUndos}
use Rattle.fragments.specs.Laws.{PlacesCountCells, shown_len, cells_len}
use Rattle.fragments.specs.SeenPlaceLaws.{all_in, none_in}

all_or_none : (b : Bool) (n : ℕ) → cond b n 0 + cond b 0 n ≡ n
all_or_none true n = omega arith
all_or_none false n = omega arith

pub own_cells : (f : Fragment) → cells_of (summary_of f) ≡ f.len
own_cells f = all_or_none f.visible f.len

pub cells_len-append : (a b : List Fragment) → cells_len (a ++ b) ≡ cells_len a + cells_len b
cells_len-append [] b = omega arith
cells_len-append (f ∷ a) b = let ih = cells_len-append a b in omega arith

-- the sum of fragments counts their cells
pub fold_cells : (s : FragmentSummary) (fs : List Fragment) → cells_of (fold s summaries summary_of fs) ≡ cells_of s + cells_len fs
fold_cells s [] = omega arith
fold_cells s (f ∷ fs) = let ih = fold_cells (summaries s (summary_of f)) fs in let o = own_cells f in omega arith

-- and so do their facts
pub length_facts : (fs : List Fragment) → length (facts_of (runs fs)) ≡ cells_len fs
length_facts [] = refl
length_facts (f ∷ fs) =
    let a = length-append (alike f.stamp f.offset f.len f.visible f.deletions) (facts_of (runs fs)) in
    let b = length_alike f.stamp f.offset f.len f.visible f.deletions in
    let ih = length_facts fs in omega arith

full_behind : (fs : List Fragment) (n : ℕ) → place_behind move_full summary_of n fs ≡ n + cells_len fs
full_behind [] n = omega arith
full_behind (f ∷ fs) n = let c = own_cells f in full_behind fs (n + cells_of (summary_of f)) ∙ omega arith

pub visible_more : (f : Fragment) (fs : List Fragment) → shown_len (f ∷ fs) ≡ (summary_of f).visible + shown_len fs
visible_more f fs = go f.visible
  where
    go : (b : Bool) → cond b (f.len + shown_len fs) (shown_len fs) ≡ cond b f.len 0 + shown_len fs
    go true = refl
    go false = omega arith

pub visible_sum : (s : FragmentSummary) (fs : List Fragment) → (fold s summaries summary_of fs).visible ≡ s.visible + shown_len fs
visible_sum s [] = omega arith
visible_sum s (f ∷ fs) = let e = visible_more f fs in let ih = visible_sum (summaries s (summary_of f)) fs in omega (arith, e, ih)

visible_at : (b : Bool) (n k m : ℕ) → n + cond b k 0 + m ≡ n + cond b (k + m) m
visible_at true n k m = omega arith
visible_at false n k m = omega arith

visible_behind : (fs : List Fragment) (n : ℕ) → place_behind move_visible summary_of n fs ≡ n + shown_len fs
visible_behind [] n = omega arith
visible_behind (f ∷ fs) n = visible_behind fs (n + cond f.visible f.len 0) ∙ visible_at f.visible n f.len (shown_len fs)

place : Entries → ℕ → At
place v n = (v, n)

seen_behind : (v : Entries) (fs : List Fragment) (n : ℕ) → place_behind move_at summary_of (v, n) fs ≡ (v, n + kept_len (sees v) (runs fs))
unfolding place
seen_behind v [] n = ap (place v) (omega arith)
seen_behind v (f ∷ fs) n = elim (cases_Bool (sees v f.stamp)) [
  | inl h ↦ (let c = own_cells f in
      let k : kept_len (sees v) (runs (f ∷ fs)) ≡ f.len + kept_len (sees v) (runs fs) = rw h refl in
      ap (λ (q : Option At). place_behind move_at summary_of (behind (place v n) q) fs) (all_in (v, n) (summary_of f) (and_from _ _ h refl))
      ∙ seen_behind v fs (n + cells_of (summary_of f)) ∙ ap (place v) (omega arith))
  | inr h ↦ (let k : kept_len (sees v) (runs (f ∷ fs)) ≡ kept_len (sees v) (runs fs) = rw h refl in
      ap (λ (q : Option At). place_behind move_at summary_of (behind (place v n) q) fs)
      (none_in (v, n) (summary_of f) (one_admitted f) (and_from _ _ (lt-ltb (entry v f.stamp.replica) f.stamp.value (leb-false _ _ h)) refl))
      ∙ seen_behind v fs n ∙ ap (place v) (omega arith))
]

pub places_count_cells : PlacesCountCells
places_count_cells fs n = (full_behind fs n, visible_behind fs n, λ v. seen_behind v fs n)

-- the history with an edit has the same undos
pub sees_more : (h : History) (op : Operation) → is_edit op ≡ true → (fs : List Fragment) → AllByRecursion (SeesUndos h) fs → AllByRecursion (SeesUndos (h ++ op ∷ [])) fs
sees_more h op e [] s = tt
sees_more h op e (f ∷ fs) s = (one, sees_more h op e fs s.1)
  where
    one : SeesUndos (h ++ op ∷ []) f
    one o i c m n = elim (in_append h op o i) [
      | inl k ↦ s.0 o k c m n
      | inr q ↦ absurd (subst (Member c) (ap counts_of q ∙ no_counts op e) m)
    ]
