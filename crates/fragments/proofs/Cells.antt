-- The cells of fragments: their number, which are shown, and their facts.
use Rattle.std.proofs.Common.{ℕ, [], ◌≡◌, ◌+◌, List, ◌∷◌, ◌++◌, refl, sym, ap, ◌∙◌, append_assoc, Bool, true, false, cond, arith, length, ◌<◌, subst, ◌≤◌, ◌^◌, take, drop, take-append-drop, Option, Some, None, inl, inr, not, ◌&&◌}
use Rattle.std.specs.List.{filter, AllByRecursion}
use Rattle.std.proofs.lemmas.List.{length-map}
use Rattle.std.specs.Prelude.{option_to_list}
use Rattle.std.proofs.lemmas.Bool.{cases_Bool, and_from, leb-false, lt-ltb}
use Rattle.op_model.specs.Facts.{alike, cell_facts, fact, Fact}
use Rattle.op_model.specs.Walked.{facts_of, Run, IsWhole}
use Rattle.op_model.proofs.shown.Alike.{visible_in, visible_append, visible_alike, told_shown, visible_shown}
use Rattle.op_model.specs.Histories.{History, newest_first, Distinct, seen_history}
use Rattle.op_model.specs.Cells.{seq, cells, everything}
use Rattle.op_model.specs.Shown.{shows, full, new_bytes, IsCell}
use Rattle.op_model.specs.Anchors.{shown_count, shown_cells}
use Rattle.op_model.proofs.shown.FactCells.{told_cells}
use Rattle.op_model.proofs.order.CellsOnce.{length_cells}
use Rattle.op_model.proofs.answers.Good.{full_length, lawful_ready, good_more}
use Rattle.op_model.proofs.Elements.{each_map}
use Rattle.op_model.specs.Lawful.{Lawful, IsClosed}
use Rattle.op_model.proofs.texts.Utf8Runs.{Utf8, bytes, kept_bytes, facts_kept}
use Rattle.op_model.proofs.texts.WholeTexts.{byte_of, of_boundary, bytes_told, utf8_agree}
use Rattle.op_model.proofs.texts.WholeRuns.{Texts, Cut, told_cells as told_facts, cut_runs, whole_runs}
use Rattle.op_model.specs.declared.operation.Operation.{Operation}
use Rattle.op_model.specs.Answers.{answer}
use Rattle.op_model.specs.Answers.Answer.{Good}
use Rattle.op_model.proofs.texts.Hidden.{seen_told}
use Rattle.fragments.specs.declared.fragment.Fragment.{Fragment}
use Rattle.fragments.specs.Stand.{runs, Tell, IsFilled}
use Rattle.fragments.specs.Laws.{shown_len, cells_len}
use Rattle.fragments.proofs.Counts.{length_facts, fold_cells, cells_len-append}
use Rattle.fragments.specs.Summaries.{no_fragments, summaries, summary_of, SummaryFits}
use Rattle.fragments.specs.SummaryLaws.{one_admitted}
use Rattle.fragments.specs.SeenPlaces.{At, cells_of, move_at, move_visible}
use Rattle.fragments.specs.SeenPlaceLaws.{all_in, none_in}
use Rattle.sum_tree.specs.Laws.{fold}
use Rattle.lamport_clock.specs.Versions.{sees, entry, Entries}
use Rattle.lamport_clock.specs.declared.stamp.Lamport.{Lamport}
use Rattle.lamport_clock.specs.Stamps.{later}

pub facts_append : (xs ys : List Fragment) → facts_of (runs (xs ++ ys)) ≡ facts_of (runs xs) ++ facts_of (runs ys)
facts_append [] ys = refl
facts_append (f ∷ xs) ys = ap (λ z. alike f.stamp f.offset f.len f.visible f.deletions ++ z) (facts_append xs ys) ∙ sym (append_assoc (alike f.stamp f.offset f.len f.visible f.deletions) (facts_of (runs xs)) (facts_of (runs ys)))

pub visible_runs : (fs : List Fragment) → visible_in (facts_of (runs fs)) ≡ shown_len fs
unfolding visible_in
visible_runs [] = refl
visible_runs (f ∷ fs) = visible_append (alike f.stamp f.offset f.len f.visible f.deletions) (facts_of (runs fs))
    ∙ go f.visible (visible_in (alike f.stamp f.offset f.len f.visible f.deletions)) (visible_alike f.stamp f.offset f.len f.visible f.deletions) (visible_runs fs)
  where
    go : (b : Bool) (n : ℕ) → n ≡ cond b f.len 0 → visible_in (facts_of (runs fs)) ≡ shown_len fs → n + visible_in (facts_of (runs fs)) ≡ cond b (f.len + shown_len fs) (shown_len fs)
    go true n e i = omega (arith, e, i)
    go false n e i = omega (arith, e, i)

-- all shown cells
pub all_visible : (h : History) (fs : List Fragment) → Tell fs h → length (filter (shows h) (cells (seq h))) ≡ shown_len fs
all_visible h fs e = ap (shown_count h) (sym (told_cells h (cells (seq h)))) ∙ visible_shown h (cell_facts h) (told_shown h (cells (seq h))) ∙ ap visible_in (sym e) ∙ visible_runs fs

pub one_shown : (x : Fragment) → shown_len (x ∷ []) ≡ cond x.visible x.len 0
one_shown x = go x.visible
  where
    go : (b : Bool) → cond b (x.len + 0) 0 ≡ cond b x.len 0
    go true = omega arith
    go false = refl

pub cells_len-told : (fs : List Fragment) (h : History) → Tell fs h → cells_len fs ≡ length (full h)
unfolding full seq
cells_len-told fs h e = sym (length_facts fs) ∙ ap length e ∙ length-map (cells (seq h)) (fact h) ∙ length_cells (seq h) ∙ sym (full_length everything (newest_first h))

pub filled_runs : (fs : List Fragment) → AllByRecursion IsFilled fs → AllByRecursion (λ (r : Run). 0 < r.len) (runs fs)
filled_runs [] h = tt
filled_runs (f ∷ fs) h = (h.0.0, filled_runs fs h.1)

pub whole_fragments : (h : History) → Lawful h → Texts h → (fs : List Fragment) → AllByRecursion IsFilled fs → Tell fs h → Utf8 (byte_of h) (runs fs) → AllByRecursion (IsWhole h) (runs fs)
whole_fragments h l u fs f s w =
    let d : Distinct h = (lawful_ready h l).0.distinct in
    let k = cut_runs h d u (runs fs) (filled_runs fs f) (subst (λ (x : List Fact). AllByRecursion (λ (y : Fact). IsCell h y.cell) x) (sym s) (told_facts h d)) w in
    each_map (λ (x : Run). Cut h d x.stamp x.offset x.len) (IsWhole h) (λ x b. (of_boundary (new_bytes h x.stamp) x.offset b.0, of_boundary (new_bytes h x.stamp) (x.offset + x.len) b.1)) (runs fs) k

-- ---- the bytes in the history with one more operation

-- whole fragments have bytes of UTF-8 there too
pub utf8_more : (h : History) (op : Operation) (fs : List Fragment) → Lawful h → Texts h → answer h [] op ≡ Good → Tell fs h → AllByRecursion (IsWhole h) (runs fs) → Utf8 (byte_of (h ++ op ∷ [])) (runs fs)
utf8_more h op fs l u g s w =
    let r = lawful_ready h l in
    let e = subst (λ (x : List Fact). AllByRecursion (λ (q : Fact). byte_of h q.cell ≡ byte_of (h ++ op ∷ []) q.cell) x) (sym s) (bytes_told h op r.0.distinct (good_more h op r g).0.0.distinct) in
    utf8_agree (byte_of h) (byte_of (h ++ op ∷ [])) (runs fs) e (whole_runs h l u (runs fs) w)

pub fits : (fs : List Fragment) → cells_len fs ≤ 2 ^ 40 → SummaryFits (fold no_fragments summaries summary_of fs)
fits fs h = let e = fold_cells no_fragments fs in omega arith

pub few : (fs : List Fragment) → AllByRecursion IsFilled fs → length fs ≤ cells_len fs
few [] h = omega arith
few (f ∷ fs) h = let ih = few fs h.1 in let g = h.0.0 in omega arith

-- ---- shown cells among fragments

pub shown_number : (fs : List Fragment) (h : History) → Tell fs h → length (shown_cells h) ≡ shown_len fs
shown_number fs h e = all_visible h fs e

pub cells_len-cut : (ys : List Fragment) (i : ℕ) → cells_len ys ≡ cells_len (take i ys) + cells_len (drop i ys)
cells_len-cut ys i = sym (ap cells_len (take-append-drop i ys)) ∙ cells_len-append (take i ys) (drop i ys)

pub one_over : (b : Option Fragment) → length (option_to_list b) ≤ 1
one_over None = omega arith
one_over (Some f) = omega arith

-- ---- one fragment is added whole

pub at_whole : (p : At) (f : Fragment) → (q : At) × (move_at p (summary_of f) ≡ Some q)
at_whole p f = elim (cases_Bool (sees p.0 f.stamp)) [
  | inl s ↦ ((p.0, p.1 + cells_of (summary_of f)), all_in p (summary_of f) (and_from _ _ s refl))
  | inr s ↦ ((p.0, p.1), none_in p (summary_of f) (one_admitted f) (and_from _ _ (lt-ltb (entry p.0 f.stamp.replica) f.stamp.value (leb-false _ _ s)) refl))
]

pub number_whole : (n : ℕ) (f : Fragment) → (m : ℕ) × (move_visible n (summary_of f) ≡ Some m)
number_whole n f = (n + (summary_of f).visible, refl)

pub shown_append_len : (xs ys : List Fragment) → shown_len (xs ++ ys) ≡ shown_len xs + shown_len ys
shown_append_len [] ys = omega arith
shown_append_len (x ∷ xs) ys = go x.visible (shown_append_len xs ys)
  where
    go : (b : Bool) → shown_len (xs ++ ys) ≡ shown_len xs + shown_len ys → cond b (x.len + shown_len (xs ++ ys)) (shown_len (xs ++ ys)) ≡ cond b (x.len + shown_len xs) (shown_len xs) + shown_len ys
    go true e = omega (arith, e)
    go false e = e

-- none is passed for a later edit
pub later_none : (t : Lamport) (v : Entries) (f : Fragment) → sees v f.stamp ≡ true → (later f.stamp t && not (sees v f.stamp)) ≡ false
later_none t v f h = rw h (go (later f.stamp t))
  where
    go : (b : Bool) → (b && false) ≡ false
    go true = refl
    go false = refl

-- ---- a seek over whole fragments, to one in which the last cells to pass lie

-- no more than the k cells to pass are in the first
abbrev pub IsWithin : ℕ → List Fragment → Type 0
IsWithin k [] = Unit {0}
IsWithin k (f ∷ fs) = k ≤ f.len

pub seen_full : (h : History) (v : Entries) (fs : List Fragment) → Tell fs h → Lawful h → IsClosed h v → kept_bytes (byte_of h) (sees v) (runs fs) ≡ full (seen_history h v)
seen_full h v fs t l c = sym (facts_kept (byte_of h) (sees v) (runs fs)) ∙ ap (λ (s : List Fact). bytes (byte_of h) (filter (λ (q : Fact). sees v q.cell.stamp) s)) t ∙ sym (seen_told h v l c)

pub shown_less : (fs : List Fragment) → shown_len fs ≤ cells_len fs
shown_less [] = omega arith
shown_less (f ∷ fs) = go f.visible (shown_less fs)
  where
    go : (b : Bool) → shown_len fs ≤ cells_len fs → cond b (f.len + shown_len fs) (shown_len fs) ≤ f.len + cells_len fs
    go true h = omega (arith, h)
    go false h = omega (arith, h)

pub within_none : (k : ℕ) (fs : List Fragment) → k ≡ 0 → IsWithin k fs
within_none k [] e = tt
within_none k (f ∷ fs) e = omega (arith, e)
