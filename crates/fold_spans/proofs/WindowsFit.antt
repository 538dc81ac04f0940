-- Windows and what lies between them fit.
use Rattle.std.proofs.Common.{◌≡◌, ℕ, zero, suc, ◌+◌, ◌-◌, ◌≤◌, ◌<◌, List, [], ◌∷◌, ◌++◌, refl, sym, subst, arith, append-nil}
use Rattle.fold_spans.specs.Parts.Part.{Again}
use Rattle.fold_spans.specs.Laws.{WindowsFit}
use Rattle.fold_spans.specs.Parts.{Edit, Part, last_end, IsBefore, IsClear, Fit, same_part, new_place, parts_from}

-- n bytes that stay, up to place e
lead : (end : ℕ) (p : ℕ × ℕ) (i e n : ℕ) (es : List Edit) (ps : List Part) → e ≡ i + n → (0 < n → IsClear p i × IsBefore end e es) → Fit end p e es ps → Fit end p i es (same_part n ++ ps)
lead end p i e zero es ps q c f = let z : e ≡ i = omega (arith, q) in subst (λ (k : ℕ). Fit end p k es ps) z f
lead end p i e (suc n) es ps q c f =
    let w = c (omega arith) in
    (w.0, subst (λ (k : ℕ). IsBefore end k es) q w.1, subst (λ (k : ℕ). Fit end p k es ps) q f)

pub windows_fit : WindowsFit
windows_fit end p i es [] a =
    let l = a.1 in
    let q : end ≡ i + (end - i) = omega (arith, l) in
    let before : IsBefore end end es = subst (IsBefore end end) (sym a.0) (omega arith) in
    subst (Fit end p i es) (append-nil (same_part (end - i))) (lead end p i end (end - i) es [] q (λ z. (a.2 (omega (arith, z, l)), before)) (a.0, refl))
windows_fit end p i es (w ∷ ws) a =
    let l = a.2 in
    let m = a.3 in
    let k = a.6 in
    let q : w.start ≡ i + (w.start - i) = omega (arith, l) in
    let g : w.start + (w.end - w.start) ≡ w.end = omega (arith, m) in
    let s : new_place p w.start + (new_place (last_end p w.edits) w.end - new_place p w.start) ≡ new_place (last_end p w.edits) w.end = omega (arith, k) in
    lead end p i w.start (w.start - i) es (Again (w.end - w.start) (new_place (last_end p w.edits) w.end - new_place p w.start) ∷ parts_from end (last_end p w.edits) w.end ws) q
    (λ z. a.4 (omega (arith, z, l))) (
      w.edits,
      a.0,
      a.1,
      subst (λ (e : ℕ). (last_end p w.edits).0 ≤ e) (sym g) a.5,
      subst (λ (e : ℕ). new_place p w.start + (new_place (last_end p w.edits) w.end - new_place p w.start) ≡ new_place (last_end p w.edits) e) (sym g) s,
      subst (λ (e : ℕ). Fit end (last_end p w.edits) e a.0 (parts_from end (last_end p w.edits) w.end ws)) (sym g) (windows_fit end (last_end p w.edits) w.end a.0 ws a.7),
    )
