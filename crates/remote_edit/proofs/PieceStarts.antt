-- The fragments that begin in ranges in order are among those that these touch.
use Rattle.std.proofs.Common.{◌≡◌, ℕ, ◌+◌, ◌-◌, ◌<◌, ◌≤◌, max, min, cond, List, [], ◌∷◌, length, refl, ap, ◌∙◌, arith, inl, inr, ltb}
use Rattle.std.specs.List.{AllByRecursion, list_any}
use Rattle.std.proofs.lemmas.Bool.{cases_Bool, ltb-true, ltb-false}
use Rattle.op_model.specs.declared.operation.Piece.{Piece}
use Rattle.op_model.specs.Walked.{Ordered}
use Rattle.fragments.specs.declared.fragment.Fragment.{Fragment}
use Rattle.fragments.specs.Stand.{IsFilled}
use Rattle.remote_edit.specs.Costs.{is_met, touch_count_behind}
use Rattle.remote_edit.specs.Starts.{starts}

-- the number of fragments that begin in the range of each piece, and one for each
abbrev pub piece_starts : List Fragment → List Piece → ℕ
piece_starts fs [] = 0
piece_starts fs (p ∷ ps) = 1 + starts p.start p.end fs + piece_starts fs ps

-- the number of ranges that cell k lies in
abbrev ranges : ℕ → List Piece → ℕ
ranges k [] = 0
ranges k (p ∷ ps) = (min 1 (p.end - k) - (p.start - k)) + ranges k ps

-- the number of fragments that begin in them, where k cells come before the first
abbrev begins : ℕ → List Piece → List Fragment → ℕ
begins k [] fs = 0
begins k (p ∷ ps) fs = starts (p.start - k) (p.end - k) fs + begins k ps fs

begins_none : (k : ℕ) (ps : List Piece) → begins k ps [] ≡ 0
begins_none k [] = refl
begins_none k (p ∷ ps) = let ih = begins_none k ps in omega (arith, ih)

begins_next : (k : ℕ) (ps : List Piece) (f : Fragment) (fs : List Fragment) → begins k ps (f ∷ fs) ≡ ranges k ps + begins (k + f.len) ps fs
begins_next k [] f fs = omega arith
begins_next k (p ∷ ps) f fs =
    let ih = begins_next k ps f fs in
    let a : p.start - k - f.len ≡ p.start - (k + f.len) = omega arith in
    let b : p.end - k - f.len ≡ p.end - (k + f.len) = omega arith in
    let g : starts (p.start - k - f.len) (p.end - k - f.len) fs ≡ starts (p.start - (k + f.len)) (p.end - (k + f.len)) fs
    = ap (λ (i : ℕ). starts i (p.end - k - f.len) fs) a ∙ ap (λ (i : ℕ). starts (p.start - (k + f.len)) i fs) b in
    omega (arith, ih, g)

before_all : (k at end : ℕ) (ps : List Piece) → k < at → Ordered at end ps → ranges k ps ≡ 0
before_all k at end [] l o = refl
before_all k at end (p ∷ ps) l o =
    let o0 = o.0 in
    let o1 = o.1 in
    let ih = before_all k p.end end ps (omega (arith, l, o0, o1)) o.2 in omega (arith, ih, l, o0, o1)

-- a fragment with cells that begins in a range is met, and in one range only
one_range : (k n at end : ℕ) (ps : List Piece) → 0 < n → Ordered at end ps → ranges k ps ≤ cond (list_any (is_met k n) ps) 1 0
one_range k n at end [] l o = omega arith
one_range k n at end (p ∷ ps) l o = elim (cases_Bool (ltb (max k p.start) (min (k + n) p.end))) [
  | inl e ↦ (let h = ltb-true (max k p.start) (min (k + n) p.end) e in
      let z = before_all k p.end end ps (omega (arith, h)) o.2 in
      rw e (omega (arith, z)))
  | inr e ↦ (let h = ltb-false (max k p.start) (min (k + n) p.end) e in
      let ih = one_range k n p.end end ps l o.2 in
      let q : min 1 (p.end - k) - (p.start - k) ≡ 0 = omega (arith, h, l) in
      rw e (omega (arith, q, ih)))
]

begins_touched : (k at end : ℕ) (ps : List Piece) (fs : List Fragment) → AllByRecursion IsFilled fs → Ordered at end ps → begins k ps fs ≤ touch_count_behind k ps fs
begins_touched k at end ps [] h o = let e = begins_none k ps in omega (arith, e)
begins_touched k at end ps (f ∷ fs) h o =
    let n = begins_next k ps f fs in
    let r = one_range k f.len at end ps h.0.0 o in
    let ih = begins_touched (k + f.len) at end ps fs h.1 o in
    omega (arith, n, r, ih)

piece_starts_sum : (fs : List Fragment) (ps : List Piece) → piece_starts fs ps ≡ length ps + begins 0 ps fs
piece_starts_sum fs [] = omega arith
piece_starts_sum fs (p ∷ ps) =
    let ih = piece_starts_sum fs ps in
    let a : p.start - 0 ≡ p.start = omega arith in
    let b : p.end - 0 ≡ p.end = omega arith in
    let g : starts (p.start - 0) (p.end - 0) fs ≡ starts p.start p.end fs = ap (λ (i : ℕ). starts i (p.end - 0) fs) a ∙ ap (λ (i : ℕ). starts p.start i fs) b in
    omega (arith, ih, g)

pub piece_starts_touched : (at end : ℕ) (ps : List Piece) (fs : List Fragment) → AllByRecursion IsFilled fs → Ordered at end ps → piece_starts fs ps ≤ length ps + touch_count_behind 0 ps fs
piece_starts_touched at end ps fs h o = let e = piece_starts_sum fs ps in let b = begins_touched 0 at end ps fs h o in omega (arith, e, b)
