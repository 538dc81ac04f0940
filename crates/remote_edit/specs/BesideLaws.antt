-- The laws of a place paired with a number.
use Rattle.std.specs.Prelude.{ℕ, ◌≡◌, ◌+◌, Option, Some, None, ◌^◌, ◌<◌, ◌≤◌}
use Rattle.std.specs.Option.{option_map}
use Rattle.std.proofs.Common.{ap, refl, sym, ◌∙◌, arith}
use Rattle.tree_cursor.specs.Places.{DimensionLaws}
use Rattle.remote_edit.specs.Beside.{beside, move_beside}

-- if the pair moves by a sum, so does the place, and the sum is added to the number
went : {P S : Type 0} (moved : P → S → Option P) (adds : S → ℕ) (p q : P × ℕ) (s : S) → move_beside moved adds p s ≡ Some q → (moved p.0 s ≡ Some q.0) × (q.1 ≡ p.1 + adds s)
went {P} moved adds p q s e = go (moved p.0 s) refl e
  where
    go : (o : Option P) → moved p.0 s ≡ o → option_map (beside (p.1 + adds s)) o ≡ Some q → (moved p.0 s ≡ Some q.0) × (q.1 ≡ p.1 + adds s)
    go None i e = cc
    go (Some r) i e = let f : beside (p.1 + adds s) r ≡ q = cc in (i ∙ ap (λ z. Some z.0) f, sym (ap (λ z. z.1) f))

goes : {P S : Type 0} (moved : P → S → Option P) (adds : S → ℕ) (p : P × ℕ) (s : S) (r : P) (n : ℕ) → moved p.0 s ≡ Some r → p.1 + adds s ≡ n → move_beside moved adds p s ≡ Some (r, n)
goes moved adds p s r n e f = ap (option_map (beside (p.1 + adds s))) e ∙ ap (λ k. Some (beside k r)) f

pair : {P : Type 0} (p q : P) (m n : ℕ) → p ≡ q → m ≡ n → beside m p ≡ beside n q
pair p q m n e f = ap (beside m) e ∙ ap (λ k. beside k q) f

pub beside_laws : {P S : Type 0} (empty : S) (op : S → S → S) (admits single : S → Type 0) (later : P → P → Type 0) (moved : P → S → Option P) (fits : P → S → Type 0) (adds : S → ℕ)
    → DimensionLaws empty op admits single later moved fits → adds empty ≡ 0 → ((a b : S) → adds (op a b) ≡ adds a + adds b)
    → DimensionLaws {P = P × ℕ} {S = S} empty op admits single (λ p q. later p.0 q.0 × (p.1 ≤ q.1)) (move_beside moved adds) (λ p s. fits p.0 s × (p.1 + adds s < 2 ^ 64))
beside_laws empty op admits single later moved fits adds laws none sum = record {
  nothing = λ p q e. let w = went moved adds p q empty e in let n = w.1 in pair q.0 p.0 q.1 p.1 (laws.nothing p.0 q.0 w.0) (omega (arith, none, n));
  parts = λ p q a b f g e.
      let w = went moved adds p q (op a b) e in
      let n = w.1 in
      let k = laws.parts p.0 q.0 a b f g w.0 in
      let m = sum a b in
      ((k.0, p.1 + adds a), goes moved adds p a k.0 (p.1 + adds a) k.1 refl, goes moved adds (k.0, p.1 + adds a) b q.0 q.1 k.2 (omega (arith, n, m)));
  one = λ p a f s r. let k = laws.one p.0 a f s r.0 in ((k.0, p.1 + adds a), goes moved adds p a k.0 (p.1 + adds a) k.1 refl);
  forward = λ p q a f e. let w = went moved adds p q a e in let n = w.1 in (laws.forward p.0 q.0 a f w.0, omega (arith, n));
  fits_front = λ p a b f g h. let m = sum a b in let n = h.1 in (laws.fits_front p.0 a b f g h.0, omega (arith, m, n));
  fits_back = λ p r a b f g h e. let w = went moved adds p r a e in let m = sum a b in let n = h.1 in let k = w.1 in (laws.fits_back p.0 r.0 a b f g h.0 w.0, omega (arith, m, n, k));
}
