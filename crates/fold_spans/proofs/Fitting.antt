-- Parts that are made again, and those that no edit touches.
use Rattle.std.proofs.Common.{◌≡◌, inl, inr, ℕ, zero, suc, ◌+◌, ◌-◌, ◌≤◌, ◌<◌, List, [], ◌∷◌, ◌++◌, refl, sym, ap, ◌∙◌, subst, arith}
use Rattle.fold_spans.specs.Marks.{Range, marks}
use Rattle.fold_spans.specs.Laws.{PartsAreMadeAgain}
use Rattle.fold_spans.specs.Parts.Part.{Same, Again}
use Rattle.fold_spans.specs.Parts.{AllStay, RunStays, Edit, Part, AreKept, LieBetween, last_end, IsBefore, IsClear, Fit}
use Rattle.fold_spans.proofs.Kept.{AreStaying, parts_renewed, kept_marks_stay}

-- n + 1 kept bytes, of which the first is byte i of AreKept
as_run : (rs qs : List Range) (n i j : ℕ) → ((k : ℕ) → k ≤ n → AllStay rs qs (i + k) (j + k)) → RunStays rs qs i j n
as_run rs qs zero i j f = let a : i + 0 ≡ i = omega arith in let b : j + 0 ≡ j = omega arith in
    subst (λ (m : ℕ). AllStay rs qs i m) b (subst (λ (m : ℕ). AllStay rs qs m (j + 0)) a (f 0 (omega arith)))
as_run rs qs (suc n) i j f =
    let a : i + 0 ≡ i = omega arith in
    let b : j + 0 ≡ j = omega arith in (
      subst (λ (m : ℕ). AllStay rs qs i m) b (subst (λ (m : ℕ). AllStay rs qs m (j + 0)) a (f 0 (omega arith))),
      as_run rs qs n (suc i) (suc j) (λ k l. let c : i + suc k ≡ suc i + k = omega arith in let d : j + suc k ≡ suc j + k = omega arith in
          subst (λ (m : ℕ). AllStay rs qs (suc i + k) m) d (subst (λ (m : ℕ). AllStay rs qs m (j + suc k)) c (f (suc k) (omega (arith, l))))),
    )

-- kept bytes from x on, seen from place i on
moved : (rs qs : List Range) (x y n i j k : ℕ) → AreKept rs qs x y n → x ≤ i → j ≡ y + (i - x) → i + k < x + n → AllStay rs qs (i + k) (j + k)
moved rs qs x y n i j k a l e m =
    let f : x + (i - x + k) ≡ i + k = omega (arith, l) in
    let g : y + (i - x + k) ≡ j + k = omega (arith, e) in
    subst (λ (w : ℕ). AllStay rs qs (i + k) w) g (subst (λ (w : ℕ). AllStay rs qs w (y + (i - x + k))) f (a (i - x + k) (omega (arith, l, m))))

-- the kept bytes before the next edit
room : (rs qs : List Range) (end x y i : ℕ) (es : List Edit) → LieBetween rs qs end x y es → x ≤ i → IsBefore end i es → (n : ℕ) × AreKept rs qs x y n × (i ≤ x + n)
room rs qs end x y i [] b l c = (end - x, b, omega (arith, l, c))
room rs qs end x y i (e ∷ es) b l c = let a = b.0 in (e.old.0 - x, b.2, omega (arith, a, l, c))

stays : (rs qs : List Range) (x y n i j c : ℕ) → AreKept rs qs x y n → x ≤ i → j ≡ y + (i - x) → i + c ≤ x + n → IsClear (x, y) i → marks rs i c ≡ marks qs j c
stays rs qs x y n i j zero a l e m c = refl
stays rs qs x y n i j (suc c) a l e m (inl z) =
    let u = z.0 in
    let v = z.1 in
    let f : i ≡ 0 = u in
    let g : j ≡ 0 = omega (arith, e, u, v) in
    let r : RunStays rs qs i j c = as_run rs qs c i j (λ k t. moved rs qs x y n i j k a l e (omega (arith, m, t))) in
    let r0 : RunStays rs qs 0 0 c = subst (λ (w : ℕ). RunStays rs qs 0 w c) g (subst (λ (w : ℕ). RunStays rs qs w j c) f r) in
    ap (λ (w : ℕ). marks rs w (suc c)) f ∙ (kept_marks_stay rs qs c).1 r0 ∙ sym (ap (λ (w : ℕ). marks qs w (suc c)) g)
stays rs qs x y n i j (suc c) a l e m (inr z) =
    let f : suc (i - 1) ≡ i = omega (arith, z) in
    let g : suc (j - 1) ≡ j = omega (arith, e, z, l) in
    let r : RunStays rs qs (i - 1) (j - 1) (suc c) = as_run rs qs (suc c) (i - 1) (j - 1) (λ k t. moved rs qs x y n (i - 1) (j - 1) k a (omega (arith, z)) (omega (arith, e, z, l)) (omega (arith, m, t, z))) in
    ap (λ (w : ℕ). marks rs w (suc c)) (sym f) ∙ (kept_marks_stay rs qs (suc c)).0 (i - 1) (j - 1) r ∙ ap (λ (w : ℕ). marks qs w (suc c)) g

past : (rs qs : List Range) (end x y : ℕ) (fs rest : List Edit) → LieBetween rs qs end x y (fs ++ rest) → LieBetween rs qs end (last_end (x, y) fs).0 (last_end (x, y) fs).1 rest
past rs qs end x y [] rest b = b
past rs qs end x y (e ∷ fs) rest b = past rs qs end e.old.1 e.new.1 fs rest b.4

fitting : (rs qs : List Range) (end x y i j : ℕ) (es : List Edit) (ps : List Part) → LieBetween rs qs end x y es → x ≤ i → j ≡ y + (i - x) → Fit end (x, y) i es ps → AreStaying rs qs i j ps
fitting rs qs end x y i j es [] b l e f = tt
fitting rs qs end x y i j es (Same n ∷ ps) b l e f =
    let r = room rs qs end x y (i + n) es b (omega (arith, l)) f.1 in
    let m = r.2 in
    (stays rs qs x y r.0 i j n r.1 l e m f.0, fitting rs qs end x y (i + n) (j + n) es ps b (omega (arith, l)) (omega (arith, e, l)) f.2)
fitting rs qs end x y i j es (Again g m ∷ ps) b l e (fs, rest, s, w, v, t) =
    let c = past rs qs end x y fs rest (subst (λ (z : List Edit). LieBetween rs qs end x y z) s b) in
    fitting rs qs end (last_end (x, y) fs).0 (last_end (x, y) fs).1 (i + g) (j + m) rest ps c w (omega (arith, e, v)) t

pub parts_are_made_again : PartsAreMadeAgain
parts_are_made_again rs qs end es ps b f = parts_renewed rs qs ps 0 0 (fitting rs qs end 0 0 0 0 es ps b (omega arith) refl f)
