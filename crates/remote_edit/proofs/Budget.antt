-- What the pieces of an edit may cost, piece by piece.
use Rattle.std.proofs.Common.{◌≡◌, ℕ, suc, ◌+◌, ◌-◌, ◌*◌, ◌≤◌, ◌^◌, max, List, ◌∷◌, length, sym, ap, ◌∙◌, arith, subst}
use Rattle.std.specs.List.{AllByRecursion}
use Rattle.lamport_clock.specs.declared.stamp.Lamport.{Lamport}
use Rattle.lamport_clock.specs.Versions.{Entries}
use Rattle.op_model.specs.declared.operation.Piece.{Piece}
use Rattle.op_model.specs.Walked.{Ordered}
use Rattle.op_model.proofs.shown.Walking.{ordered_le}
use Rattle.op_model.proofs.texts.Pieces.{ordered_down}
use Rattle.undo_map.specs.declared.entry.UndoEntry.{UndoEntry}
use Rattle.fragments.specs.declared.fragment.Fragment.{Fragment}
use Rattle.fragments.specs.Stand.{IsFilled}
use Rattle.remote_edit.specs.Walk.{Zip, zip, one_piece}
use Rattle.remote_edit.specs.Costs.{touch_count_behind}
use Rattle.remote_edit.specs.Starts.{AllSeen, starts}
use Rattle.remote_edit.proofs.Starts.{behind, one_piece-rest, seen_behind, starts_behind, starts_fewer}
use Rattle.remote_edit.proofs.PieceStarts.{piece_starts, piece_starts_touched}

-- of the pieces ps over the fragments fs, the pieces qs are to come, from cell `place` on, with the fragments rest
-- after it
pub record IsOnBudget (v : Entries) (fs : List Fragment) (ps : List Piece) (place : ℕ) (rest : List Fragment) (qs : List Piece) (old new : ℕ) : Type 0 where
  pub order : Ordered place (2 ^ 40) qs
  pub seen : AllSeen v rest
  pub few : (a b : ℕ) → starts (suc a) b rest ≤ starts (place + suc a) (place + b) fs
  pub cost : new + 256 * piece_starts fs qs ≤ old + 256 * piece_starts fs ps

module _ (v : Entries) (fs : List Fragment) (ps : List Piece) (place : ℕ) (rest : List Fragment) (p : Piece) (qs : List Piece) (old new : ℕ) (b : IsOnBudget v fs ps place rest (p ∷ qs) old new) where
  -- a piece is passed over
  pub budget_none : IsOnBudget v fs ps place rest qs old new
  budget_none =
      let o0 = b.order.0 in
      let o1 = b.order.1 in
      let c = b.cost in
      record {
        order = ordered_down place p.end (2 ^ 40) qs (omega (arith, o0, o1)) b.order.2;
        seen = b.seen;
        few = b.few;
        cost = omega (arith, c);
      }

  -- it begins not far after this place
  pub budget_near : p.start - place ≤ 2 ^ 40
  budget_near = let o1 = b.order.1 in let k = ordered_le p.end (2 ^ 40) qs b.order.2 in omega (arith, o1, k)

  -- what a piece costs
  spent : (n : ℕ) → n ≤ new + 256 * (1 + starts (max 1 (p.start - place)) (p.start - place + (p.end - p.start)) rest) → n ≤ new + 256 * (1 + starts p.start p.end fs)
  spent n h =
      let o0 = b.order.0 in
      let o1 = b.order.1 in
      let m : ℕ = p.start - place in
      let a : ℕ = max 1 m - 1 in
      let e : max 1 m ≡ suc a = omega arith in
      let f = b.few a (m + (p.end - p.start)) in
      let x : starts (max 1 m) (m + (p.end - p.start)) rest ≡ starts (suc a) (m + (p.end - p.start)) rest = ap (λ (i : ℕ). starts i (m + (p.end - p.start)) rest) e in
      let y : starts (place + suc a) (place + (m + (p.end - p.start))) fs ≡ starts (place + suc a) p.end fs = ap (λ (i : ℕ). starts (place + suc a) i fs) (let q : place + (m + (p.end - p.start)) ≡ p.end = omega (arith, o0, o1) in q) in
      let z = starts_fewer p.start (place + suc a) p.end fs (omega arith) in
      omega (arith, h, f, x, y, z)

  -- a failed allocation ends the walk there
  pub budget_end : (n : ℕ) → n ≤ new + 256 * (1 + starts (max 1 (p.start - place)) (p.start - place + (p.end - p.start)) rest) → n ≤ old + 256 * piece_starts fs ps
  budget_end n h = let s = spent n h in let c = b.cost in omega (arith, s, c)

  -- it is passed
  pub budget_one : (w : List UndoEntry) (t : Lamport) (k : ℕ) (pre pre2 rest2 : List Fragment) (n : ℕ) → zip pre2 rest2 ≡ one_piece w t v (p.start - place) k p pre rest
      → n ≤ new + 256 * (1 + starts (max 1 (p.start - place)) (p.start - place + (p.end - p.start)) rest) → IsOnBudget v fs ps p.end rest2 qs old n
  budget_one w t k pre pre2 rest2 n z h =
      let o0 = b.order.0 in
      let o1 = b.order.1 in
      let s = spent n h in
      let c = b.cost in
      let m : ℕ = p.start - place in
      let r : ℕ = p.end - p.start in
      let ys : List Fragment = behind m rest in
      let e : rest2 ≡ behind r ys = ap (λ (q : Zip). q.rest) z ∙ one_piece-rest w t v m k p pre rest b.seen in
      record {
        order = b.order.2;
        seen = subst (AllSeen v) (sym e) (seen_behind v r ys (seen_behind v m rest b.seen));
        few = λ i j. (let x : starts (suc i) j rest2 ≡ starts (r + suc i) (r + j) ys = ap (starts (suc i) j) e ∙ starts_behind r i j ys in
            let d : r + suc i ≡ suc (r + i) = omega arith in
            let y : starts (r + suc i) (r + j) ys ≡ starts (m + suc (r + i)) (m + (r + j)) rest = ap (λ (l : ℕ). starts l (r + j) ys) d ∙ starts_behind m (r + i) (r + j) rest in
            let g : m + suc (r + i) ≡ suc (m + (r + i)) = omega arith in
            let u : starts (m + suc (r + i)) (m + (r + j)) rest ≡ starts (suc (m + (r + i))) (m + (r + j)) rest = ap (λ (l : ℕ). starts l (m + (r + j)) rest) g in
            let f = b.few (m + (r + i)) (m + (r + j)) in
            let k1 : place + suc (m + (r + i)) ≡ p.end + suc i = omega (arith, o0, o1) in
            let k2 : place + (m + (r + j)) ≡ p.end + j = omega (arith, o0, o1) in
            let a : starts (place + suc (m + (r + i))) (place + (m + (r + j))) fs ≡ starts (p.end + suc i) (p.end + j) fs = ap (λ (l : ℕ). starts l (place + (m + (r + j))) fs) k1 ∙ ap (λ (l : ℕ). starts (p.end + suc i) l fs) k2 in
            omega (arith, x, y, u, f, a));
        cost = omega (arith, s, c);
      }

-- its steps, by the number of cells before it
pub steps_by : (v : Entries) (rest : List Fragment) (p : Piece) (place k new n : ℕ) → k ≡ p.start - place → p.start - place ≤ 2 ^ 40 → AllSeen v rest
    → (AllSeen v rest → k ≤ 2 ^ 40 → n ≤ new + 256 * (1 + starts (max 1 k) (k + (p.end - p.start)) rest)) → n ≤ new + 256 * (1 + starts (max 1 (p.start - place)) (p.start - place + (p.end - p.start)) rest)
steps_by v rest p place k new n e l h f = subst (λ (m : ℕ). n ≤ new + 256 * (1 + starts (max 1 m) (m + (p.end - p.start)) rest)) e (f h (omega (arith, e, l)))

-- all pieces are passed
pub budget_all : (v : Entries) (fs : List Fragment) (ps : List Piece) (place : ℕ) (rest : List Fragment) (qs : List Piece) (old new : ℕ) → IsOnBudget v fs ps place rest qs old new → new ≤ old + 256 * piece_starts fs ps
budget_all v fs ps place rest qs old new b = let c = b.cost in omega (arith, c)

-- in the end, by the fragments that the ranges touch
pub budget_touched : (fs : List Fragment) (ps : List Piece) (old new : ℕ) → AllByRecursion IsFilled fs → Ordered 0 (2 ^ 40) ps → new ≤ old + 256 * piece_starts fs ps → new ≤ old + 256 * (length ps + touch_count_behind 0 ps fs)
budget_touched fs ps old new h o l = let e = piece_starts_touched 0 (2 ^ 40) ps fs h o in omega (arith, e, l)
