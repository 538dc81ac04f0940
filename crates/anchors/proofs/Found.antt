-- Where a cell stands, by the fragment that the index names.
use Rattle.std.proofs.Common.{◌≡◌, ℕ, ◌+◌, ◌-◌, ◌<◌, ◌≤◌, Bool, true, false, cond, ◌&&◌, ltb, leb, List, [], ◌∷◌, ◌++◌, length, Option, Some, None, refl, sym, ap, ◌∙◌, arith, subst, inl, inr}
use Rattle.std.proofs.lemmas.Bool.{cases_lt, and_parts, lt-ltb, le-leb, ltb-true, leb-true, false_from_ne_true}
use Rattle.std.proofs.lemmas.List.{map-append}
use Rattle.std.proofs.lemmas.Option.{none-some}
use Rattle.lamport_clock.specs.declared.stamp.Lamport.{Lamport}
use Rattle.lamport_clock.specs.Stamps.{same_stamp}
use Rattle.lamport_clock.proofs.Later.{same_stamp_eq, same_stamp_refl}
use Rattle.op_model.specs.Sorted.{Member}
use Rattle.op_model.specs.Histories.{History}
use Rattle.op_model.specs.Cells.{Cell, seq, cells, cell_at}
use Rattle.op_model.specs.Shown.{new_bytes, IsCell}
use Rattle.op_model.specs.Anchors.{shown_count}
use Rattle.op_model.specs.Facts.{Fact, alike}
use Rattle.op_model.specs.Walked.{facts_of}
use Rattle.op_model.specs.Lawful.{Lawful}
use Rattle.op_model.proofs.MainLaws.{each_cell_once}
use Rattle.undo_map.specs.declared.entry.UndoEntry.{UndoEntry}
use Rattle.op_model.proofs.shown.FactCells.{cells_in, told_cells}
use Rattle.op_model.proofs.Elements.{member_right, member_either, split_at}
use Rattle.op_model.proofs.order.CellsOnce.{alike_bounds}
use Rattle.fragments.specs.declared.fragment.Fragment.{Fragment}
use Rattle.fragments.specs.declared.index_entry.IndexEntry.{IndexEntry}
use Rattle.fragments.specs.DeletedRuns.{IndexState}
use Rattle.fragments.specs.Index.{entry_for, id_for}
use Rattle.fragments.specs.Stand.{Stand, Tell, runs, Rise}
use Rattle.fragments.specs.Laws.{shown_len, cells_len}
use Rattle.fragments.proofs.Founds.{index_finds_fragments, fragment_of}
use Rattle.fragments.proofs.Indexes.{entry_member, id_entry}
use Rattle.locators.specs.Locator.{least_digits}
use Rattle.anchors.specs.declared.spot.Spot.{Spot}
use Rattle.anchors.specs.declared.spot.Run.{Run}
use Rattle.anchors.specs.Spots.{spot, spot_of, spot_in, spot_if, run_behind, IsRunOf}
use Rattle.anchors.proofs.Splits.{before_is}
use Rattle.anchors.proofs.Runs.{before, behind, cells_split, is_shown, shown_before, length_before}

-- ---- fragments that have a cell

pub record Has (f : Fragment) (t : Lamport) (k : ℕ) : Type 0 where
  stamp : f.stamp ≡ t
  low : f.offset ≤ k
  high : k < f.offset + f.len

has_fragment : (fs : List Fragment) (c : Cell) → Member c (cells_in (facts_of (runs fs))) → (f : Fragment) × Member f fs × Has f c.stamp c.k
has_fragment [] c m = absurd m
has_fragment (f ∷ fs) c m = elim (member_either c (cells_in (alike f.stamp f.offset f.len f.visible f.deletions)) (cells_in (facts_of (runs fs)))
    (subst (Member c) (map-append (λ (q : Fact). q.cell) (alike f.stamp f.offset f.len f.visible f.deletions) (facts_of (runs fs))) m)) [
      | inl i ↦ (let k = alike_bounds c f.stamp f.offset f.len f.visible f.deletions i in (f, inl refl, record { stamp = k.0; low = k.1; high = k.2 }))
      | inr i ↦ (let k = has_fragment fs c i in (k.0, inr k.1, k.2))
    ]

-- ---- spots

spot_eq : {a b : Bool} {v w m n : ℕ} → a ≡ b → v ≡ w → m ≡ n → ◌≡◌ {A = Spot} (record { is_shown = a; shown = v; cells = m }) (record { is_shown = b; shown = w; cells = n })
spot_eq {a} {b} {v} {w} {m} {n} e f g = λ i. record { is_shown = e i; shown = f i; cells = g i }

some_true : (b : Bool) (p q : Spot) → cond b (Some p) None ≡ Some q → b ≡ true
some_true true p q e = refl
some_true false p q e = absurd (none-some q e)

module _ (fs : List Fragment) (w : IndexState) (u : List UndoEntry) (h : History) (s : Stand fs w u h) (l : Lawful h) where
  tells : (pre post : List Fragment) (f : Fragment) → fs ≡ pre ++ f ∷ post → Tell (pre ++ f ∷ post) h
  tells pre post f e = subst (λ (z : List Fragment). Tell z h) e s.cells

  -- a fragment's cell is one of the history
  is_cell_at : (pre post : List Fragment) (f : Fragment) (j : ℕ) → fs ≡ pre ++ f ∷ post → j < f.len → IsCell h (cell_at f.stamp (f.offset + j))
  is_cell_at pre post f j e m = ((each_cell_once h l).2 (cell_at f.stamp (f.offset + j))).0
      (subst (Member (cell_at f.stamp (f.offset + j))) (sym (cells_split h pre post f j (tells pre post f e) m))
      (member_right (cell_at f.stamp (f.offset + j)) (before h pre post f j (tells pre post f e) m) (cell_at f.stamp (f.offset + j) ∷ behind h pre post f j (tells pre post f e) m) (inl refl)))

  pub spot_at : (pre post : List Fragment) (f : Fragment) (j : ℕ) → fs ≡ pre ++ f ∷ post → j < f.len
      → spot h (cell_at f.stamp (f.offset + j)) ≡ record { is_shown = f.visible; shown = shown_len pre + cond f.visible j 0; cells = cells_len pre + j }
  spot_at pre post f j e m =
      let t = tells pre post f e in
      let b = before_is h l (before h pre post f j t m) (cell_at f.stamp (f.offset + j)) (behind h pre post f j t m) (cells_split h pre post f j t m) in
      spot_eq (sym (is_shown h pre post f j t m)) (ap (shown_count h) b ∙ shown_before h pre post f j t m) (ap length b ∙ length_before h pre post f j t m)

  -- in a fragment that has the cell
  spot_there : (pre post : List Fragment) (f : Fragment) (t : Lamport) (k : ℕ) → fs ≡ pre ++ f ∷ post → Has f t k → spot_in (run_behind f (shown_len pre) (cells_len pre)) t k ≡ spot_of h (cell_at t k)
  spot_there pre post f t k e a =
      let lo = a.low in let hi = a.high in
      let m : k - f.offset < f.len = omega (arith, lo, hi) in
      let q : f.offset + (k - f.offset) ≡ k = omega (arith, lo) in
      let c : cell_at f.stamp (f.offset + (k - f.offset)) ≡ cell_at t k = ap (λ (n : ℕ). cell_at f.stamp n) q ∙ ap (λ (x : Lamport). cell_at x k) a.stamp in
      let i : k < length (new_bytes h t) = subst (IsCell h) c (is_cell_at pre post f (k - f.offset) e m) in
      let p = subst (λ (x : Cell). spot h x ≡ record { is_shown = f.visible; shown = shown_len pre + cond f.visible (k - f.offset) 0; cells = cells_len pre + (k - f.offset) }) c (spot_at pre post f (k - f.offset) e m) in
      tests (same_stamp f.stamp t) (leb f.offset k) (ltb (k - f.offset) f.len) (ltb k (length (new_bytes h t)))
      (subst (λ (x : Lamport). same_stamp f.stamp x ≡ true) a.stamp (same_stamp_refl f.stamp)) (le-leb f.offset k lo) (lt-ltb (k - f.offset) f.len m) (lt-ltb k (length (new_bytes h t)) i) (sym p)
    where
      tests : (b1 b2 b3 b4 : Bool) {x y : Spot} → b1 ≡ true → b2 ≡ true → b3 ≡ true → b4 ≡ true → x ≡ y → cond (b1 && b2 && b3) (Some x) None ≡ cond b4 (Some y) None
      tests true true true true e f g d i = ap (λ z. Some z) i
      tests true true true false e f g d i = absurd (cc)
      tests true true false b e f g d i = absurd (cc)
      tests true false c b e f g d i = absurd (cc)
      tests false a c b e f g d i = absurd (cc)

  -- in one that has it not, where no cell of the history is it
  spot_not : (pre post : List Fragment) (f : Fragment) (t : Lamport) (k : ℕ) → fs ≡ pre ++ f ∷ post → length (new_bytes h t) ≤ k → spot_in (run_behind f (shown_len pre) (cells_len pre)) t k ≡ None
  spot_not pre post f t k e n = ap (λ (b : Bool). cond b (Some (record { is_shown = f.visible; shown = shown_len pre + cond f.visible (k - f.offset) 0; cells = cells_len pre + (k - f.offset) })) None)
      (false_from_ne_true (same_stamp f.stamp t && leb f.offset k && ltb (k - f.offset) f.len) (λ q. none q))
    where
      none : (same_stamp f.stamp t && leb f.offset k && ltb (k - f.offset) f.len) ≡ true → ⊥
      none q =
          let x = and_parts (same_stamp f.stamp t && leb f.offset k) (ltb (k - f.offset) f.len) q in
          let y = and_parts (same_stamp f.stamp t) (leb f.offset k) x.0 in
          let m = ltb-true (k - f.offset) f.len x.1 in
          let lo = leb-true f.offset k y.1 in
          let i : f.offset + (k - f.offset) ≡ k = omega (arith, lo) in
          let c : cell_at f.stamp (f.offset + (k - f.offset)) ≡ cell_at t k = ap (λ (z : ℕ). cell_at f.stamp z) i ∙ ap (λ (z : Lamport). cell_at z k) (same_stamp_eq f.stamp t y.0) in
          let r : k < length (new_bytes h t) = subst (IsCell h) c (is_cell_at pre post f (k - f.offset) e m) in
          absurd (omega (arith, r, n))

  none_of : (t : Lamport) (k : ℕ) → length (new_bytes h t) ≤ k → spot_of h (cell_at t k) ≡ None
  none_of t k n = ap (λ (b : Bool). cond b (Some (spot h (cell_at t k))) None) (false_from_ne_true (ltb k (length (new_bytes h t))) (λ q. let r = ltb-true k (length (new_bytes h t)) q in absurd (omega (arith, r, n))))

  -- the fragment of a cell of the history
  of_cell : (t : Lamport) (k : ℕ) → k < length (new_bytes h t) → (f : Fragment) × Member f fs × Has f t k
  of_cell t k i = has_fragment fs (cell_at t k) (subst (Member (cell_at t k)) (sym (ap cells_in s.cells ∙ told_cells h (cells (seq h)))) (((each_cell_once h l).2 (cell_at t k)).1 i))

  found_id : (t : Lamport) (k : ℕ) (f : Fragment) → Member f fs → Has f t k → id_for t k w.entries ≡ Some f.id
  found_id t k f m a =
      let lo = a.low in let hi = a.high in
      let j : k - f.offset < f.len = omega (arith, lo, hi) in
      let q : f.offset + (k - f.offset) ≡ k = omega (arith, lo) in
      ap (λ (z : Lamport). id_for z k w.entries) (sym a.stamp) ∙ ap (λ (z : ℕ). id_for f.stamp z w.entries) (sym q) ∙ (index_finds_fragments fs w u h l s).0 f m (k - f.offset) j

  -- a cell that a fragment has is one of the history
  spot_other : (pre post : List Fragment) (f : Fragment) (t : Lamport) (k : ℕ) → fs ≡ pre ++ f ∷ post → (r : Spot) → spot_in (run_behind f (shown_len pre) (cells_len pre)) t k ≡ Some r → Some r ≡ spot_of h (cell_at t k)
  spot_other pre post f t k e r q =
      let x = and_parts (same_stamp f.stamp t && leb f.offset k) (ltb (k - f.offset) f.len) (some_true (same_stamp f.stamp t && leb f.offset k && ltb (k - f.offset) f.len) (record { is_shown = f.visible; shown = shown_len pre + cond f.visible (k - f.offset) 0; cells = cells_len pre + (k - f.offset) }) r q) in
      let y = and_parts (same_stamp f.stamp t) (leb f.offset k) x.0 in
      let m = ltb-true (k - f.offset) f.len x.1 in
      let lo = leb-true f.offset k y.1 in
      sym q ∙ spot_there pre post f t k e (record { stamp = same_stamp_eq f.stamp t y.0; low = lo; high = omega (arith, m, lo) })

  -- where the index has no entry, there is no such cell
  pub not_found : (t : Lamport) (k : ℕ) → id_for t k w.entries ≡ None → IsRunOf h t k None
  not_found t k e = record { here = none; others = λ j r q. absurd (none-some r q) }
    where
      none : None ≡ spot_of h (cell_at t k)
      none = elim (cases_lt k (length (new_bytes h t))) [
        | inl i ↦ (let f = of_cell t k i in let g = found_id t k f.0 f.1 f.2 in absurd (cc))
        | inr i ↦ sym (none_of t k i)
      ]

  -- where it has one, its fragment tells
  pub found : (t : Lamport) (k : ℕ) (i : List ℕ) (r : Option Run) → id_for t k w.entries ≡ Some i
      → ((pre post : List Fragment) → (f : Fragment) → fs ≡ pre ++ f ∷ post → Rise least_digits fs → f.id ≡ i → r ≡ Some (run_behind f (shown_len pre) (cells_len pre)))
      → IsRunOf h t k r
  found t k i r e tell = record { here = here_at; others = λ j q v. other j q v }
    where
      by_entry : (f : Fragment) × Member f fs × (f.id ≡ i)
      by_entry =
          let x = id_entry i (entry_for t k w.entries) e in
          let y = fragment_of x.0 fs ((s.index x.0).0 (entry_member t k w.entries x.0 x.1)) in
          (y.0, y.1, ap (λ (z : IndexEntry). z.id) (sym y.2) ∙ x.2)

      here_at : spot_if r t k ≡ spot_of h (cell_at t k)
      here_at = elim (cases_lt k (length (new_bytes h t))) [
        | inl c ↦ (let f = of_cell t k c in
            let g = found_id t k f.0 f.1 f.2 in
            let p = split_at f.0 fs f.1 in
            let d : f.0.id ≡ i = cc in
            ap (λ z. spot_if z t k) (tell p.0 p.1 f.0 p.2 s.ids d) ∙ spot_there p.0 p.1 f.0 t k p.2 f.2)
        | inr c ↦ (let y = by_entry in
            let p = split_at y.0 fs y.1 in
            ap (λ z. spot_if z t k) (tell p.0 p.1 y.0 p.2 s.ids y.2) ∙ spot_not p.0 p.1 y.0 t k p.2 c ∙ sym (none_of t k c))
      ]

      other : (j : ℕ) (q : Spot) → spot_if r t j ≡ Some q → Some q ≡ spot_of h (cell_at t j)
      other j q v =
          let y = by_entry in
          let p = split_at y.0 fs y.1 in
          spot_other p.0 p.1 y.0 t j p.2 q (sym (ap (λ z. spot_if z t j) (tell p.0 p.1 y.0 p.2 s.ids y.2)) ∙ v)
