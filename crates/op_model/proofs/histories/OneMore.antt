-- One more operation at a history's end.
use Rattle.op_model.proofs.Elements.{each_append}
use Rattle.std.proofs.Common.{◌≡◌, ℕ, zero, suc, ◌+◌, ◌≤◌, Bool, List, [], ◌∷◌, ◌++◌, length, refl, sym, ◌∙◌, ap, subst, inl, inr, true}
use Rattle.std.specs.List.{AllByRecursion}
use Rattle.std.proofs.lemmas.Bool.{cases_Bool}
use Rattle.lamport_clock.specs.declared.stamp.Lamport.{Lamport}
use Rattle.op_model.specs.declared.operation.Operation.{Operation}
use Rattle.op_model.specs.Histories.{History, by_stamp, newest_first, sort_onto}
use Rattle.op_model.specs.declared.operation.Piece.{Piece}
use Rattle.lamport_clock.specs.Stamps.{later}
use Rattle.op_model.specs.Operations.{stamp_of, version_of, pieces_of}
use Rattle.lamport_clock.specs.Versions.{sees}
use Rattle.op_model.specs.Cells.{Cell, cell_at, PathCell, path, path_at, left_path, before, put_all, op_places, new_places, text_places, both, everything, seq_where, seq}
use Rattle.op_model.specs.Laid.{only, lay}
use Rattle.op_model.proofs.order.Insertion.{each_insert_all}
use Rattle.op_model.proofs.order.LateOperation.{seq_nil, seq_kept, seq_unkept, late, Apart}
use Rattle.op_model.proofs.order.Restricted.{Closed, restrict}
use Rattle.op_model.proofs.order.Skipping.{Strict, Rises, AllOn}
use Rattle.op_model.proofs.order.Laying.{Held, Inv, From, laid, end_of}

sort_append : (d h : History) (op : Operation) → sort_onto d (h ++ op ∷ []) ≡ by_stamp op (sort_onto d h)
sort_append d [] op = refl
sort_append d (o ∷ h) op = sort_append (by_stamp o d) h op

pub newest_append : (h : History) (op : Operation) → newest_first (h ++ op ∷ []) ≡ by_stamp op (newest_first h)
newest_append h op = sort_append [] h op

-- the cells of the paths are cells of operations of h
abbrev pub No : Lamport → List Cell → Type 0
No t q = AllByRecursion (λ (d : Cell). d.stamp ≡ t → ⊥) q

no_text : (t : Lamport) (u : List Cell) (s : Lamport) (k : ℕ) (bs : List ℕ) → (s ≡ t → ⊥) → No t u → AllByRecursion (λ (p : PathCell). No t (path p)) (text_places u s k bs)
no_text t u s k [] n e = tt
no_text t u s k (b ∷ bs) n e = let g = each_append (λ (d : Cell). d.stamp ≡ t → ⊥) u (cell_at s k ∷ []) e (n, tt) in
    (g, no_text t (u ++ cell_at s k ∷ []) s (suc k) bs n g)

no_at : (t : Lamport) (s : List PathCell) (j : ℕ) → AllByRecursion (λ (p : PathCell). No t (path p)) s → No t (path_at s j)
no_at t [] j e = tt
no_at t (x ∷ s) zero e = e.0
no_at t (x ∷ s) (suc j) e = no_at t s j e.1

no_left : (t : Lamport) (s : List PathCell) (i : ℕ) → AllByRecursion (λ (p : PathCell). No t (path p)) s → No t (left_path s i)
no_left t s zero e = tt
no_left t s (suc j) e = no_at t s j e

no_new : (t : Lamport) (v : List PathCell) (s : Lamport) (k : ℕ) (ps : List Piece) → (s ≡ t → ⊥) → AllByRecursion (λ (p : PathCell). No t (path p)) v
    → AllByRecursion (λ (p : PathCell). No t (path p)) (new_places v s k ps)
no_new t v s k [] n e = tt
no_new t v s k (p ∷ ps) n e = each_append (λ (q : PathCell). No t (path q)) (text_places (left_path v p.start) s k p.text) (new_places v s (k + length p.text) ps)
    (no_text t (left_path v p.start) s k p.text n (no_left t v p.start e)) (no_new t v s (k + length p.text) ps n e)

pub no_stamp : (t : Lamport) (keep : Lamport → Bool) (h : History) → AllByRecursion (λ (o : Operation). stamp_of o ≡ t → ⊥) h → AllByRecursion (λ (p : PathCell). No t (path p)) (seq_where keep h)
no_stamp t keep [] e = rw (seq_nil keep) tt
no_stamp t keep (o ∷ h) e = elim (cases_Bool (keep (stamp_of o))) [
  | inl k ↦ rw (seq_kept keep o h k) (each_insert_all (λ (p : PathCell). No t (path p)) before (op_places (seq_where (both keep (version_of o)) h) o) (seq_where keep h)
      (no_new t (seq_where (both keep (version_of o)) h) (stamp_of o) 0 (pieces_of o) e.0 (no_stamp t (both keep (version_of o)) h e.1))
      (no_stamp t keep h e.1))
  | inr k ↦ rw (seq_unkept keep o h k) (no_stamp t keep h e.1)
]

-- no place twice, what a path goes through is there, stamps rise along a path
abbrev pub Core : List PathCell → Type 0
Core s = Strict s × AllByRecursion (λ (q : PathCell). AllOn s [] (path q) × Rises q) s

pub core_of : (s : List PathCell) (t : Lamport) (k : ℕ) → Inv s t k → Core s
core_of s t k i = (i.0, go s i.1)
  where
    go : (r : List PathCell) → AllByRecursion (Held s t k) r → AllByRecursion (λ (q : PathCell). AllOn s [] (path q) × Rises q) r
    go [] e = tt
    go (x ∷ r) e = ((e.0.0, e.0.1), go r e.1)

from_no : (t : Lamport) (k : ℕ) (q : List Cell) → No t q → AllByRecursion (From t k) q
from_no t k [] e = tt
from_no t k (d ∷ q) e = (λ i. absurd (e.0 i), from_no t k q e.1)

pub inv_of : (s : List PathCell) (t : Lamport) (k : ℕ) → Core s → AllByRecursion (λ (p : PathCell). No t (path p)) s → Inv s t k
inv_of s t k c n = (c.0, go s c.1 n)
  where
    go : (r : List PathCell) → AllByRecursion (λ (q : PathCell). AllOn s [] (path q) × Rises q) r → AllByRecursion (λ (p : PathCell). No t (path p)) r → AllByRecursion (Held s t k) r
    go [] e f = tt
    go (x ∷ r) e f = ((e.0.0, e.0.1, from_no t k (path x) f.0), go r e.1 f.1)

-- what a new operation brings: its stamp is new and above all that its version sees, its version is closed, no
-- operation of h that is newer sees it or is seen by it, and its pieces begin within what its version sees
pub record Fits (h : History) (op : Operation) : Type 0 where
  pub fresh : AllByRecursion (λ (o : Operation). stamp_of o ≡ stamp_of op → ⊥) (newest_first h)
  pub above : (u : Lamport) → sees (version_of op) u ≡ true → later (stamp_of op) u ≡ true
  pub closed : Closed (sees (version_of op)) (newest_first h)
  pub apart : Apart op (newest_first h)
  pub starts : AllByRecursion (λ (p : Piece). p.start ≤ length (seq_where (sees (version_of op)) (newest_first h))) (pieces_of op)

-- the sequence with one more operation is the sequence with its pieces laid in, and keeps what the next one needs
pub one_more : (h : History) (op : Operation) → Fits h op → Core (seq h)
    → Core (seq (h ++ op ∷ [])) × (seq (h ++ op ∷ []) ≡ lay (sees (version_of op)) (stamp_of op) 0 (pieces_of op) (seq h))
unfolding seq
one_more h op f c =
    let d : History = newest_first h in
    let v : Lamport → Bool = sees (version_of op) in
    let s : List PathCell = seq_where everything d in
    let r : only v s ≡ seq_where v d = restrict v d f.closed in
    let news : List PathCell = new_places (only v s) (stamp_of op) 0 (pieces_of op) in
    let e : seq_where everything (newest_first (h ++ op ∷ [])) ≡ put_all news s =
    ap (seq_where everything) (newest_append h op) ∙ late everything op d f.apart refl
    ∙ ap (λ (x : List PathCell). put_all (new_places x (stamp_of op) 0 (pieces_of op)) s) (sym r) in
    let l = laid v (stamp_of op) f.above (pieces_of op) 0 s (inv_of s (stamp_of op) (end_of 0 (pieces_of op)) c (no_stamp (stamp_of op) everything d f.fresh))
    (subst (λ (x : List PathCell). AllByRecursion (λ (p : Piece). p.start ≤ length x) (pieces_of op)) (sym r) f.starts) in
    (subst Core (sym e) (core_of (put_all news s) (stamp_of op) 0 l.0), e ∙ l.1)

pub none_yet : Core (seq [])
unfolding seq seq_where
none_yet = (tt, tt)
