-- An edit is later than the cells that it deletes.
use Rattle.std.proofs.Common.{◌≡◌, ℕ, suc, ◌<◌, ◌⊎◌, eqb, Bool, true, false, cond, ◌&&◌, ◌||◌, List, [], ◌∷◌, map, refl, sym, ap, ◌∙◌, arith, inl, inr}
use Rattle.std.specs.List.{AllByRecursion}
use Rattle.std.proofs.lemmas.Bool.{cases_Bool, and_parts, leb-true}
use Rattle.lamport_clock.specs.declared.stamp.Lamport.{Lamport}
use Rattle.lamport_clock.specs.Stamps.{same_stamp}
use Rattle.lamport_clock.specs.Versions.{sees, entry}
use Rattle.lamport_clock.proofs.Later.{same_stamp_eq}
use Rattle.op_model.specs.declared.operation.Operation.{Operation}
use Rattle.op_model.specs.declared.operation.Piece.{Piece}
use Rattle.op_model.specs.Operations.{stamp_of, version_of, pieces_of}
use Rattle.op_model.specs.Histories.{History, In, newest_first}
use Rattle.op_model.specs.Cells.{Cell, same_cell, PathCell, both, everything, seq_where, seq, cells}
use Rattle.op_model.specs.Shown.{in_pieces, in_ranges, deleters_where}
use Rattle.op_model.specs.Lawful.{Lawful}
use Rattle.op_model.specs.Facts.{Fact, fact}
use Rattle.op_model.proofs.shown.Bytes.{passing}
use Rattle.op_model.proofs.order.SameSets.{newest_same}
use Rattle.op_model.proofs.shown.Deleters.{hits, deleters_kept, deleters_unkept}
use Rattle.op_model.proofs.answers.Good.{lawful_ready}
use Rattle.fragments.specs.declared.fragment.Fragment.{Fragment}
use Rattle.fragments.specs.Stand.{Tell, IsFilled}
use Rattle.remote_edit.proofs.OfFacts.{of_facts}

-- the edits d are later than the cells of u
abbrev pub AreLater : Lamport → List Lamport → Type 0
AreLater u d = AllByRecursion (λ (t : Lamport). u.value < t.value) d

-- a cell of a range of a sequence is a cell of the sequence
cell_there : (keep : Lamport → Bool) (s : List PathCell) (i : ℕ) (ps : List Piece) (c : Cell) → AllByRecursion (λ (p : PathCell). keep p.cell.stamp ≡ true) s → in_ranges s i ps c ≡ true → keep c.stamp ≡ true
unfolding same_cell
cell_there keep [] i ps c e h = cc
cell_there keep (p ∷ s) i ps c e h = go (cases_Bool (same_stamp p.cell.stamp c.stamp)) (cell_there keep s (suc i) ps c e.1)
  where
    other : (x a b d : Bool) → x ≡ false → (((x && a) && b) || d) ≡ true → d ≡ true
    other false a b d n h = h
    other true a b d n h = cc

    go : (same_stamp p.cell.stamp c.stamp ≡ true) ⊎ (same_stamp p.cell.stamp c.stamp ≡ false) → (in_ranges s (suc i) ps c ≡ true → keep c.stamp ≡ true) → keep c.stamp ≡ true
    go (inl k) f = ap keep (sym (same_stamp_eq p.cell.stamp c.stamp k)) ∙ e.0
    go (inr k) f = f (other (same_stamp p.cell.stamp c.stamp) (eqb p.cell.k c.k) (in_pieces ps i) (in_ranges s (suc i) ps c) k h)

-- each operation is later than all that its version sees
abbrev Rising : History → Type 0
Rising h = (o : Operation) → In h o → (r : ℕ) → entry (version_of o) r < (stamp_of o).value

deleters_later : (keep : Lamport → Bool) (h : History) (c : Cell) → Rising h → AreLater c.stamp (deleters_where keep h c)
unfolding deleters_where
deleters_later keep [] c a = tt
deleters_later keep (o ∷ h) c a = elim (cases_Bool (keep (stamp_of o))) [
  | inl k ↦ rw (deleters_kept keep o h c k) (go (hits keep o h c) refl (deleters_later keep h c (λ p i. a p (inr i))))
  | inr k ↦ rw (deleters_unkept keep o h c k) (deleters_later keep h c (λ p i. a p (inr i)))
]
  where
    go : (b : Bool) → hits keep o h c ≡ b → AreLater c.stamp (deleters_where keep h c) → AreLater c.stamp (cond b (stamp_of o ∷ deleters_where keep h c) (deleters_where keep h c))
    go false e rest = rest
    go true e rest =
        let f : Lamport → Bool = both keep (version_of o) in
        let s = cell_there f (seq_where f h) 0 (pieces_of o) c (passing f h) (and_parts _ _ e).0 in
        let l = leb-true c.stamp.value (entry (version_of o) c.stamp.replica) (and_parts (keep c.stamp) (sees (version_of o) c.stamp) s).1 in
        let m = a o (inl refl) c.stamp.replica in
        (omega arith, rest)

abbrev IsLate : Fact → Type 0
IsLate q = AreLater q.cell.stamp q.deletions

told_late : (h : History) → Lawful h → (s : List PathCell) → AllByRecursion IsLate (map (fact h) (cells s))
told_late h l [] = tt
told_late h l (p ∷ s) = (deleters_later everything (newest_first h) p.cell (λ o i. (lawful_ready h l).0.above o ((newest_same h o).0 i)), told_late h l s)

abbrev pub HasLaterDeletions : Fragment → Type 0
HasLaterDeletions f = AreLater f.stamp f.deletions

-- the deletions of fragments with the cells of a lawful history are later than what they delete
pub late_deletions : (h : History) → Lawful h → (fs : List Fragment) → AllByRecursion IsFilled fs → Tell fs h → AllByRecursion HasLaterDeletions fs
late_deletions h l fs f t = of_facts (λ u v d. AreLater u d) fs f (rw t (told_late h l (seq h)))
