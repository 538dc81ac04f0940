-- What places that count shown cells and all cells keep.
use Rattle.std.specs.Prelude.{◌≡◌, ℕ, ◌+◌, Bool, true, false, not, cond, List, Option, Some, None}
use Rattle.std.proofs.Common.{ap, refl, ◌∙◌, arith}
use Rattle.tree_cursor.specs.Places.{DimensionLaws}
use Rattle.tree_cursor.specs.Keys.{key_less, key_passes}
use Rattle.tree_cursor.specs.declared.traits.Bias.TheVariants.{Left}
use Rattle.fragments.specs.declared.fragment.FragmentSummary.{FragmentSummary}
use Rattle.fragments.specs.Summaries.{no_fragments, summaries, IsSummary, IsOne, id_less, greater_id}
use Rattle.fragments.specs.SummaryLaws.{id_order}
use Rattle.fragments.specs.SeenPlaces.{cells_of}
use Rattle.std.proofs.lemmas.Bool.{not-false}
use Rattle.std.proofs.lemmas.Option.{same_Some}
use Rattle.anchors.specs.Before.{CellsBefore, at, move_before, IsLaterBefore, BeforeFits, reaches}

two : (v w m n : ℕ) → v ≡ w → m ≡ n → at v m ≡ at w n
two v w m n a b = ap (λ k. at k m) a ∙ ap (at w) b

abbrev Went : CellsBefore → FragmentSummary → CellsBefore → Type 0
Went p s q = (p.0 + s.visible ≡ q.0) × (p.1 + cells_of s ≡ q.1)

went : (p q : CellsBefore) (s : FragmentSummary) → move_before p s ≡ Some q → Went p s q
went p q s e =
    let f = same_Some (at (p.0 + s.visible) (p.1 + cells_of s)) q e in
    (ap (λ (z : CellsBefore). z.0) f, ap (λ (z : CellsBefore). z.1) f)

goes : (p q : CellsBefore) (s : FragmentSummary) → Went p s q → move_before p s ≡ Some q
goes p q s w = ap (λ (z : CellsBefore). Some z) (two (p.0 + s.visible) q.0 (p.1 + cells_of s) q.1 w.0 w.1)

pub before_laws : DimensionLaws {P = CellsBefore} {S = FragmentSummary} no_fragments summaries IsSummary IsOne IsLaterBefore move_before BeforeFits
before_laws = record {
  nothing = λ p q e. let w = went p q no_fragments e in let a = w.0 in let b = w.1 in
      two q.0 p.0 q.1 p.1 (omega (arith, a)) (omega (arith, b));
  parts = λ p q a b f g e. let w = went p q (summaries a b) e in let x = w.0 in let y = w.1 in (
    at (p.0 + a.visible) (p.1 + cells_of a),
    refl,
    goes (at (p.0 + a.visible) (p.1 + cells_of a)) q b (omega (arith, x), omega (arith, y)),
  );
  one = λ p a f s r. (at (p.0 + a.visible) (p.1 + cells_of a), refl);
  forward = λ p q a f e. let w = went p q a e in let x = w.0 in let y = w.1 in (omega (arith, x), omega (arith, y));
  fits_front = λ p a b f g h. let x = h.0 in let y = h.1 in (omega (arith, x), omega (arith, y));
  fits_back = λ p r a b f g h e. let x = h.0 in let y = h.1 in let w = went p r a e in let v = w.0 in let n = w.1 in (omega (arith, x, v), omega (arith, y, n));
}

module _ (i : List ℕ) where
  both : (x y : List ℕ) (b c : Bool) → id_less x y ≡ b → id_less y i ≡ c → not (key_less id_less (cond b (Some y) (Some x)) (Some i)) ≡ false
      → (not (id_less x i) ≡ false) × (not (id_less y i) ≡ false)
  both x y true c e f h = (ap not (id_order.up x y i e (not-false (id_less y i) h)), h)
  both x y false true e f h = (h, ap not f)
  both x y false false e f h = let d = id_order.down x y i e f in let u = not-false (id_less x i) h in absurd (cc)

  parts_reach : (p q : Option (List ℕ)) → key_passes id_less (Some i) (greater_id p q) Left ≡ false
      → (key_passes id_less (Some i) p Left ≡ false) × (key_passes id_less (Some i) q Left ≡ false)
  parts_reach None q h = (refl, h)
  parts_reach (Some x) None h = (h, refl)
  parts_reach (Some x) (Some y) h = both x y (id_less x y) (id_less y i) refl refl h

-- where two runs together do not reach an id, none of them does
pub reaches_parts : (i : List ℕ) (a b : FragmentSummary) → reaches i (summaries a b) ≡ false → (reaches i a ≡ false) × (reaches i b ≡ false)
reaches_parts i a b h = parts_reach i a.last_id b.last_id h
