-- Facts that are alike, and how many facts are visible.
use Rattle.std.proofs.Common.{ℕ, [], ◌≡◌, zero, suc, ◌+◌, ◌<◌, ◌≤◌, Bool, List, ap, arith, inl, inr, ◌∷◌, map, refl, cond, true, false, length, ◌++◌, sym, ◌∙◌}
use Rattle.std.proofs.lemmas.Bool.{cases_lt, cases_Bool}
use Rattle.std.specs.List.{AllByRecursion, filter}
use Rattle.lamport_clock.specs.declared.stamp.Lamport.{Lamport}
use Rattle.lamport_clock.specs.Stamps.{later}
use Rattle.lamport_clock.specs.Versions.{sees}
use Rattle.op_model.specs.Sorted.{Member}
use Rattle.op_model.specs.Cells.{cell_at, Cell, seq, seq_where}
use Rattle.op_model.specs.Facts.{alike, Fact, fact, past_later, put_at, cell_facts}
use Rattle.op_model.proofs.shown.FactCells.{cells_in}
use Rattle.op_model.specs.Histories.{History, newest_first}
use Rattle.op_model.specs.Shown.{shows}
use Rattle.op_model.specs.Anchors.{shown_count}
use Rattle.op_model.specs.declared.operation.Operation.{Operation}
use Rattle.op_model.specs.Operations.{version_of}
use Rattle.op_model.specs.Answers.{answer}
use Rattle.op_model.specs.Answers.Answer.{Good}
use Rattle.op_model.specs.Lawful.{Lawful}
use Rattle.op_model.specs.Walked.{Run, facts_of, kept_len}
use Rattle.op_model.proofs.order.Restricted.{restrict}
use Rattle.op_model.proofs.shown.OnePass.{passing_facts, count_runs, count_places}
use Rattle.op_model.proofs.histories.OneMore.{Fits}
use Rattle.op_model.proofs.answers.Good.{lawful_ready, checked_of, fits_of}

pub alike_has : (t : Lamport) (k n : ℕ) (v : Bool) (d : List Lamport) (j : ℕ) → k ≤ j → j < k + n → Member (cell_at t j) (cells_in (alike t k n v d))
alike_has t k zero v d j a b = absurd (omega arith)
alike_has t k (suc n) v d j a b = elim (cases_lt k j) [
  | inl l ↦ inr (alike_has t (suc k) n v d j (omega arith) (omega arith))
  | inr l ↦ inl (ap (cell_at t) (let q : j ≡ k = omega arith in q))
]

abbrev pub fact_at : Lamport → ℕ → Bool → List Lamport → Fact
fact_at t k v d = record { cell = cell_at t k; visible = v; deletions = d }

pub told_shown : (h : History) (s : List Cell) → AllByRecursion (λ (q : Fact). q.visible ≡ shows h q.cell) (map (fact h) s)
told_shown h [] = tt
told_shown h (c ∷ s) = (refl, told_shown h s)

-- ---- counts

unfoldable pub visible_in : List Fact → ℕ
visible_in [] = 0
visible_in (q ∷ s) = cond q.visible (suc (visible_in s)) (visible_in s)

pub visible_shown : (h : History) (s : List Fact) → AllByRecursion (λ (q : Fact). q.visible ≡ shows h q.cell) s → shown_count h (cells_in s) ≡ visible_in s
unfolding visible_in
visible_shown h [] e = refl
visible_shown h (q ∷ s) e = go q.visible (shows h q.cell) e.0 (visible_shown h s e.1)
  where
    go : (a b : Bool) → a ≡ b → shown_count h (cells_in s) ≡ visible_in s → length (cond b (q.cell ∷ filter (shows h) (cells_in s)) (filter (shows h) (cells_in s))) ≡ cond a (suc (visible_in s)) (visible_in s)
    go true true i k = ap suc k
    go true false i k = cc
    go false true i k = cc
    go false false i k = k

pub visible_append : (xs ys : List Fact) → visible_in (xs ++ ys) ≡ visible_in xs + visible_in ys
unfolding visible_in
visible_append [] ys = omega arith
visible_append (q ∷ xs) ys = go q.visible (visible_append xs ys)
  where
    go : (b : Bool) → visible_in (xs ++ ys) ≡ visible_in xs + visible_in ys → cond b (suc (visible_in (xs ++ ys))) (visible_in (xs ++ ys)) ≡ cond b (suc (visible_in xs)) (visible_in xs) + visible_in ys
    go true e = omega (arith, e)
    go false e = e

pub visible_alike : (t : Lamport) (o n : ℕ) (v : Bool) (d : List Lamport) → visible_in (alike t o n v d) ≡ cond v n 0
unfolding visible_in
visible_alike t o zero true d = refl
visible_alike t o zero false d = refl
visible_alike t o (suc n) true d = ap suc (visible_alike t (suc o) n true d)
visible_alike t o (suc n) false d = visible_alike t (suc o) n false d

-- ---- no text is laid in

pub past_none : (t : Lamport) (s : List Fact) → past_later t [] s ≡ s
past_none t [] = refl
past_none t (q ∷ s) = elim (cases_Bool (later q.cell.stamp t)) [ inl e ↦ rw e (ap (λ (z : List Fact). q ∷ z) (past_none t s)) | inr e ↦ rw e refl ]

pub put_none : (i : ℕ) (t : Lamport) (s : List Fact) → put_at i t [] s ≡ s
put_none zero t s = past_none t s
put_none (suc i) t [] = refl
put_none (suc i) t (q ∷ s) = ap (λ (z : List Fact). q ∷ z) (put_none i t s)

-- ---- how many cells a version sees

-- the cells of a history that the version of an operation sees
pub kept_len_seen : (h : History) (op : Operation) (rs : List Run) → Lawful h → answer h [] op ≡ Good → facts_of rs ≡ cell_facts h
    → kept_len (sees (version_of op)) rs ≡ length (seq_where (sees (version_of op)) (newest_first h))
unfolding seq
kept_len_seen h op rs l g s =
    let v : Lamport → Bool = sees (version_of op) in
    let k = checked_of h op g in
    let f : Fits h op = fits_of h op (lawful_ready h l).0 k.0 k.1 in
    sym (count_runs v rs) ∙ ap (passing_facts v) s ∙ count_places h v (seq h) ∙ ap length (restrict v (newest_first h) f.closed)

-- a run, split at its cell j
pub alike_split : (t : Lamport) (o n j k : ℕ) (v : Bool) (d : List Lamport) → j < n → k ≡ o + j → (m : ℕ) → n ≡ j + suc m → alike t o n v d ≡ alike t o j v d ++ fact_at t k v d ∷ alike t (suc k) m v d
alike_split t o zero j k v d l e m i = absurd (omega (arith, l))
alike_split t o (suc n) zero k v d l e m i = let a : o ≡ k = omega (arith, e) in let b : n ≡ m = omega (arith, i) in rw (← a, b) refl
alike_split t o (suc n) (suc j) k v d l e m i = ap (λ z. fact_at t o v d ∷ z) (alike_split t (suc o) n j k v d (omega (arith, l)) (omega (arith, e)) m (omega (arith, i)))
