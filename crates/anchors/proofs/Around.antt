-- A run that has a cell of an edit or the one before it.
use Rattle.std.proofs.Common.{◌≡◌, ℕ, zero, suc, ◌+◌, ◌-◌, ◌<◌, ◌≤◌, ◌&&◌, ◌⊎◌, Bool, true, false, cond, leb, ltb, List, [], ◌∷◌, Option, Some, None, refl, sym, ap, ◌∙◌, subst, arith, inl, inr}
use Rattle.std.specs.List.{AllByRecursion, slice_get}
use Rattle.std.specs.Prelude.{IfSome}
use Rattle.std.proofs.lemmas.Bool.{cases_Bool, and_parts, and_from, leb-true, ltb-true, le-leb, lt-ltb, cases_lt}
use Rattle.std.proofs.lemmas.Option.{none-some}
use Rattle.lamport_clock.specs.declared.stamp.Lamport.{Lamport}
use Rattle.lamport_clock.specs.Stamps.{same_stamp}
use Rattle.lamport_clock.proofs.Later.{same_stamp_eq, same_stamp_refl}
use Rattle.op_model.specs.Cells.{cell_at}
use Rattle.op_model.specs.Edits.{is_boundary}
use Rattle.op_model.specs.Histories.{History}
use Rattle.op_model.specs.Shown.{new_bytes}
use Rattle.op_model.specs.Walked.{IsWhole}
use Rattle.op_model.proofs.Elements.{each_member, member_at}
use Rattle.fragments.specs.declared.fragment.Fragment.{Fragment}
use Rattle.fragments.specs.Stand.{runs, run_of}
use Rattle.anchors.specs.declared.spot.Spot.{Spot}
use Rattle.anchors.specs.declared.spot.Run.{Run}
use Rattle.anchors.specs.Spots.{spot_if, spot_in, spot_of, IsAround, IsRunOf, IsWholeRun}

-- each fragment is a run of them
pub whole_at : (h : History) (fs : List Fragment) (n : ℕ) (f : Fragment) → Some f ≡ slice_get fs n → AllByRecursion (IsWhole h) (runs fs) → IsWhole h (run_of f)
whole_at h [] n f e w = cc
whole_at h (g ∷ fs) zero f e w = let i : Some f ≡ Some g = e in let j : g ≡ f = cc in subst (λ (x : Fragment). IsWhole h (run_of x)) j w.0
whole_at h (g ∷ fs) (suc n) f e w = whole_at h fs n f e w.1

module _ (r : Run) (t : Lamport) (j : ℕ) where
  has : Bool
  has = same_stamp r.stamp t && leb r.offset j && ltb (j - r.offset) r.len

  spot_there : Spot
  spot_there = record { is_shown = r.is_shown; shown = r.shown + cond r.is_shown (j - r.offset) 0; cells = r.cells + (j - r.offset) }

  spot_by : spot_in r t j ≡ cond has (Some spot_there) None
  unfolding has spot_there
  spot_by = refl

  -- a run that has a spot has the cell
  pub spot_in_has : (s : Spot) → spot_in r t j ≡ Some s → (r.stamp ≡ t) × (r.offset ≤ j) × (j < r.offset + r.len)
  unfolding has
  spot_in_has s e = elim (cases_Bool has) [
    | inl q ↦ (let x = and_parts (same_stamp r.stamp t && leb r.offset j) (ltb (j - r.offset) r.len) q in
        let y = and_parts (same_stamp r.stamp t) (leb r.offset j) x.0 in
        let l = leb-true r.offset j y.1 in
        let m = ltb-true (j - r.offset) r.len x.1 in
        (same_stamp_eq r.stamp t y.0, l, omega (arith, l, m)))
    | inr q ↦ (let n : None ≡ Some s = sym (ap (λ (b : Bool). cond b (Some spot_there) None) q) ∙ sym spot_by ∙ e in absurd (none-some s n))
  ]

  -- a run of the edit that begins by the cell, and has no spot of it, ends before it
  pub spot_in_none : spot_in r t j ≡ None → r.stamp ≡ t → r.offset ≤ j → r.offset + r.len ≤ j
  unfolding has
  spot_in_none e a l = elim (cases_lt (j - r.offset) r.len) [
    | inl m ↦ (let q : has ≡ true = and_from _ _ (and_from _ _ (subst (λ (x : Lamport). same_stamp r.stamp x ≡ true) a (same_stamp_refl r.stamp)) (le-leb r.offset j l)) (lt-ltb (j - r.offset) r.len m) in
        let n : None ≡ Some spot_there = sym e ∙ spot_by ∙ ap (λ (b : Bool). cond b (Some spot_there) None) q in absurd (none-some spot_there n))
    | inr m ↦ omega (arith, l, m)
  ]

module _ (h : History) (t : Lamport) (i : ℕ) (o : Option Run) (d : IsRunOf h t i o) where
  -- where no run is found, or it has no spot of the cell, there is none
  pub no_run : o ≡ None → spot_of h (cell_at t i) ≡ None
  no_run e = sym d.here ∙ ap (λ (z : Option Run). spot_if z t i) e

  module _ (r : Run) (e : o ≡ Some r) where
    -- the spot of the cell is the one in the run
    pub spot_is : spot_of h (cell_at t i) ≡ spot_in r t i
    spot_is = sym d.here ∙ ap (λ (z : Option Run). spot_if z t i) e

    -- the run is around the cell and the next one
    pub around : (k : ℕ) (s : Spot) → IfSome o (IsWholeRun h) → spot_in r t i ≡ Some s → i ≤ k → k ≤ i + 1 → IsAround h t k r
    around k s w q l m =
        let x = spot_in_has r t i s q in
        let y = x.1 in
        let z = x.2 in
        record {
          stamp = x.0;
          low = omega (arith, y, l);
          high = omega (arith, z, m);
          whole = subst (λ (u : Option Run). IfSome u (IsWholeRun h)) e w;
          spots = λ j p n. d.others j p (ap (λ (u : Option Run). spot_if u t j) e ∙ n);
        }

-- where a run ends, a character does
pub at_end : (h : History) (t : Lamport) (k : ℕ) (r : Run) → IsAround h t k r → spot_in r t k ≡ None → true ≡ is_boundary (new_bytes h t) k
at_end h t k r a e =
    let l = spot_in_none r t k e a.stamp a.low in
    let m = a.high in
    let q : k ≡ r.offset + r.len = omega (arith, l, m) in
    sym (ap (λ (n : ℕ). is_boundary (new_bytes h t) n) q ∙ ap (λ (x : Lamport). is_boundary (new_bytes h x) (r.offset + r.len)) (sym a.stamp) ∙ a.whole.1)
