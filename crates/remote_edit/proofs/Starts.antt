-- The number of fragments that begin among some cells, before and after a place of a walk that sees them all.
use Rattle.std.proofs.Common.{◌≡◌, ℕ, zero, suc, ◌+◌, ◌-◌, ◌≤◌, max, min, true, if◌then◌else◌, nat_le, List, [], ◌∷◌, ◌++◌, length, take, drop, refl, sym, ap, ◌∙◌, arith, subst, inl, inr, leb, Option, Some, None}
use Rattle.std.specs.List.{AllByRecursion}
use Rattle.std.proofs.lemmas.Bool.{cases_Bool, leb-true, leb-false}
use Rattle.std.proofs.lemmas.List.{drop-drop}
use Rattle.std.proofs.Math.Seq.{take-add}
use Rattle.lamport_clock.specs.declared.stamp.Lamport.{Lamport}
use Rattle.lamport_clock.specs.Versions.{Entries, sees}
use Rattle.op_model.specs.declared.operation.Piece.{Piece}
use Rattle.op_model.proofs.Elements.{each_drop}
use Rattle.undo_map.specs.declared.entry.UndoEntry.{UndoEntry}
use Rattle.fragments.specs.declared.fragment.Fragment.{Fragment}
use Rattle.fragments.specs.Stand.{IsFilled}
use Rattle.fragments.specs.Laws.{cells_len}
use Rattle.fragments.proofs.Cells.{later_none, IsWithin}
use Rattle.remote_edit.specs.Marks.{touch}
use Rattle.remote_edit.specs.Walk.{seen_bytes, back, Zip, advance, skip_later, put_new, one_piece}
use Rattle.remote_edit.specs.Starts.{AllSeen, starts, IsLeft}
use Rattle.remote_edit.proofs.Passing.{seen_cons, seen_append, seen_own}

-- fragments without their first x cells
abbrev pub behind : ℕ → List Fragment → List Fragment
behind x [] = []
behind zero (f ∷ fs) = f ∷ fs
behind (suc x) (f ∷ fs) = if nat_le f.len (suc x) then behind (suc x - f.len) fs else back f (suc x) ∷ fs

-- ---- what is left of a walk that sees all

advance-rest : (m : Option (List UndoEntry)) (t : Lamport) (v : Entries) (n : ℕ) (pre rest : List Fragment) → AllSeen v rest → (advance m t v n pre rest).rest ≡ behind n rest
advance-rest m t v n pre [] h = refl
advance-rest m t v zero pre (f ∷ fs) h = refl
advance-rest m t v (suc n) pre (f ∷ fs) h = elim (cases_Bool (leb f.len (suc n))) [
  | inl l ↦ rw (h.0, l) (advance-rest m t v (suc n - f.len) (pre ++ touch m t v f ∷ []) fs h.1)
  | inr l ↦ rw (h.0, l) refl
]

skip-rest : (t : Lamport) (v : Entries) (pre rest : List Fragment) → AllSeen v rest → (skip_later t v pre rest).rest ≡ rest
skip-rest t v pre [] h = refl
skip-rest t v pre (f ∷ fs) h = rw (later_none t v f h.0) refl

put-rest : (t : Lamport) (k n : ℕ) (pre rest : List Fragment) → (put_new t k n pre rest).rest ≡ rest
put-rest t k zero pre rest = refl
put-rest t k (suc n) pre rest = refl

pub seen_behind : (v : Entries) (x : ℕ) (fs : List Fragment) → AllSeen v fs → AllSeen v (behind x fs)
seen_behind v x [] h = tt
seen_behind v zero (f ∷ fs) h = h
seen_behind v (suc x) (f ∷ fs) h = elim (cases_Bool (leb f.len (suc x))) [
  | inl l ↦ rw l (seen_behind v (suc x - f.len) fs h.1)
  | inr l ↦ rw l h
]

-- over one piece
pub one_piece-rest : (w : List UndoEntry) (t : Lamport) (v : Entries) (n k : ℕ) (p : Piece) (pre rest : List Fragment) → AllSeen v rest
    → (one_piece w t v n k p pre rest).rest ≡ behind (p.end - p.start) (behind n rest)
one_piece-rest w t v n k p pre rest h =
    let a : Zip = advance None t v n pre rest in
    let b : Zip = skip_later t v a.pre a.rest in
    let c : Zip = put_new t k (length p.text) b.pre b.rest in
    let ea : a.rest ≡ behind n rest = advance-rest None t v n pre rest h in
    let ha : AllSeen v a.rest = subst (AllSeen v) (sym ea) (seen_behind v n rest h) in
    let ec : c.rest ≡ a.rest = put-rest t k (length p.text) b.pre b.rest ∙ skip-rest t v a.pre a.rest ha in
    advance-rest (Some w) t v (p.end - p.start) c.pre c.rest (subst (AllSeen v) (sym ec) ha) ∙ ap (behind (p.end - p.start)) (ec ∙ ea)

-- ---- the number that begin after a place

pub starts_behind : (x a b : ℕ) (fs : List Fragment) → starts (suc a) b (behind x fs) ≡ starts (x + suc a) (x + b) fs
starts_behind x a b [] = refl
starts_behind zero a b (f ∷ fs) =
    let e : suc a ≡ 0 + suc a = omega arith in
    let g : b ≡ 0 + b = omega arith in ap (λ (i : ℕ). starts i b (f ∷ fs)) e ∙ ap (λ (i : ℕ). starts (0 + suc a) i (f ∷ fs)) g
starts_behind (suc x) a b (f ∷ fs) = elim (cases_Bool (leb f.len (suc x))) [
  | inl l ↦ (let h = leb-true f.len (suc x) l in
      let ih = starts_behind (suc x - f.len) a b fs in
      let e : suc x - f.len + suc a ≡ suc x + suc a - f.len = omega (arith, h) in
      let g : suc x - f.len + b ≡ suc x + b - f.len = omega (arith, h) in
      rw l (ih ∙ ap (λ (i : ℕ). starts i (suc x - f.len + b) fs) e ∙ ap (λ (i : ℕ). starts (suc x + suc a - f.len) i fs) g ∙ omega arith))
  | inr l ↦ (let h = leb-false f.len (suc x) l in
      let e : suc a - (f.len - suc x) ≡ suc x + suc a - f.len = omega (arith, h) in
      let g : b - (f.len - suc x) ≡ suc x + b - f.len = omega (arith, h) in
      rw l (ap (λ (i : ℕ). (min 1 b - suc a) + starts i (b - (f.len - suc x)) fs) e ∙ ap (λ (i : ℕ). (min 1 b - suc a) + starts (suc x + suc a - f.len) i fs) g ∙ omega arith))
]

pub starts_fewer : (a c b : ℕ) (fs : List Fragment) → a ≤ c → starts c b fs ≤ starts a b fs
starts_fewer a c b [] h = omega arith
starts_fewer a c b (f ∷ fs) h = let ih = starts_fewer (a - f.len) (c - f.len) (b - f.len) fs (omega (arith, h)) in omega (arith, ih, h)

near : (n k r : ℕ) (fs : List Fragment) → n ≡ k → AllByRecursion IsFilled fs → IsWithin k fs → starts 0 (k + r) fs ≤ 1 + starts (max 1 n) (n + r) fs
near n k r [] e s h = omega arith
near n k r (f ∷ fs) e s h =
    let s0 = s.0.0 in
    let a : 0 - f.len ≡ max 1 n - f.len = omega (arith, s0, h, e) in
    let b : k + r - f.len ≡ n + r - f.len = omega (arith, e) in
    let g : starts (0 - f.len) (k + r - f.len) fs ≡ starts (max 1 n - f.len) (n + r - f.len) fs = ap (λ (i : ℕ). starts i (k + r - f.len) fs) a ∙ ap (λ (i : ℕ). starts (max 1 n - f.len) i fs) b in
    omega (arith, g)

-- over d of them
pub landed : (d n k r : ℕ) (fs : List Fragment) → AllByRecursion IsFilled fs → cells_len (take d fs) + k ≡ n → IsWithin k (drop d fs) → starts 0 (k + r) (drop d fs) ≤ 1 + starts (max 1 n) (n + r) fs
landed zero n k r fs s e h = near n k r fs (omega (arith, e)) s h
landed (suc d) n k r [] s e h = omega arith
landed (suc d) n k r (f ∷ fs) s e h =
    let s0 = s.0.0 in
    let m : ℕ = cells_len (take d fs) + k in
    let ih = landed d m k r fs s.1 refl h in
    let w = starts_fewer (max 1 n - f.len) (max 1 m) (m + r) fs (omega (arith, e, s0)) in
    let q : m + r ≡ n + r - f.len = omega (arith, e) in
    let g : starts (max 1 n - f.len) (m + r) fs ≡ starts (max 1 n - f.len) (n + r - f.len) fs = ap (λ (i : ℕ). starts (max 1 n - f.len) i fs) q in
    omega (arith, ih, w, g)

pub seen_all : (v : Entries) (n : ℕ) (fs : List Fragment) → AllSeen v fs → seen_bytes v (take n fs) ≡ cells_len (take n fs)
seen_all v zero fs h = refl
seen_all v (suc n) [] h = refl
seen_all v (suc n) (f ∷ fs) h = let ih = seen_all v n fs h.1 in let c = seen_cons v f (take n fs) in let o = seen_own v f h.0 in omega (arith, ih, c, o)

-- what is left of a seek from place i to place j
pub left_of : (v : Entries) (xs : List Fragment) (i j n k p q : ℕ) → AllSeen v (drop i xs) → AllByRecursion IsFilled xs → i ≤ j → i ≤ length xs → p ≡ seen_bytes v (take i xs) → q ≡ seen_bytes v (take j xs) → q + k ≡ p + n
    → IsWithin k (drop j xs) → IsLeft v n (drop i xs) k (drop j xs)
left_of v xs i j n k p q a fl l w ep eq ek h =
    let ys : List Fragment = drop i xs in
    let d : ℕ = j - i in
    let ij : j ≡ i + d = omega (arith, l) in
    let dr : drop j xs ≡ drop d ys = ap (λ (m : ℕ). drop m xs) ij ∙ sym (drop-drop d i xs) in
    let tk : take j xs ≡ take i xs ++ take d ys = ap (λ (m : ℕ). take m xs) ij ∙ take-add i d xs in
    let b : seen_bytes v (take j xs) ≡ seen_bytes v (take i xs) + cells_len (take d ys) = ap (seen_bytes v) tk ∙ seen_append v (take i xs) (take d ys) ∙ ap (λ (m : ℕ). seen_bytes v (take i xs) + m) (seen_all v d ys a) in
    subst (λ (zs : List Fragment). IsLeft v n ys k zs) (sym dr)
    (each_drop (λ (f : Fragment). sees v f.stamp ≡ true) d ys a, λ r. landed d n k r ys (each_drop IsFilled i xs fl) (omega (arith, b, ep, eq, ek)) (subst (IsWithin k) dr h))
