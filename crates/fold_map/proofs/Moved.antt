-- Spans of kept bytes: they have the same ranges at places that moved.
use Rattle.std.proofs.Common.{◌≡◌, ℕ, ◌+◌, ◌-◌, List, [], ◌∷◌, ◌++◌, map, refl, sym, ap, ◌∙◌, arith}
use Rattle.std.specs.List.{All}
use Rattle.std.proofs.lemmas.List.{map-append}
use Rattle.std.proofs.lemmas.List.Elements.{All-nil, All-cons, All-head, All-tail, All-same}
use Rattle.fold_spans.specs.Spans.{span_len}
use Rattle.fold_spans.specs.Sweep.{number_of, BelongsTo, HaveInOrder}
use Rattle.fold_spans.specs.declared.span.Span.{Span}
use Rattle.fold_spans.specs.declared.span.Span.TheVariants.{Open, Fold, Waiting}
use Rattle.fold_spans.specs.declared.sweep.FoldRange.{FoldRange}

-- ---- ranges that move

-- q is r with its places moved from x to y
pub record IsMoved (x y : ℕ) (r q : FoldRange) : Type 0 where
  pub start : q.start + x ≡ r.start + y
  pub end : q.end + x ≡ r.end + y
  pub number : q.number ≡ r.number

belongs_moved : (x y p o : ℕ) (s : Span) (r q : FoldRange) → o + x ≡ p + y → IsMoved x y r q → BelongsTo p s r → BelongsTo o s q
belongs_moved x y p o (Open n) r q e m b = absurd b
belongs_moved x y p o (Fold n fs) r q e m b =
    let u = b.0 in
    let v = b.1 in
    let s = m.start in
    let t = m.end in
    (omega (arith, e, u, s), omega (arith, e, v, t), λ k. (let w = b.2 (omega (arith, k, s, t)) in let f = w.0 in let g = w.1 in (omega (arith, e, f, s), omega (arith, e, g, s))))
belongs_moved x y p o (Waiting fs) r q e m b = let u = b.0 in let v = b.1 in let s = m.start in let t = m.end in (omega (arith, e, u, s), omega (arith, e, v, t))

pub left_part : (P : FoldRange → Type 0) (xs ys : List FoldRange) → All P (xs ++ ys) → All P xs
left_part P [] ys a = All-nil P
left_part P (x ∷ xs) ys a = All-cons P x xs (All-head P x (xs ++ ys) a) (left_part P xs ys (All-tail P x (xs ++ ys) a))

pub right_part : (P : FoldRange → Type 0) (xs ys : List FoldRange) → All P (xs ++ ys) → All P ys
right_part P [] ys a = a
right_part P (x ∷ xs) ys a = right_part P xs ys (All-tail P x (xs ++ ys) a)

module _ (f : FoldRange → FoldRange) (x y : ℕ) where
  abbrev pub Moves : FoldRange → Type 0
  Moves r = IsMoved x y r (f r)

  same_numbers : (rs : List FoldRange) → All Moves rs → map number_of (map f rs) ≡ map number_of rs
  same_numbers [] a = refl
  same_numbers (r ∷ rs) a =
      let e : number_of (f r) ≡ number_of r = (All-head Moves r rs a).number in
      ap (λ (n : ℕ). n ∷ map number_of (map f rs)) e ∙ ap (λ (ns : List ℕ). number_of r ∷ ns) (same_numbers rs (All-tail Moves r rs a))

  all_belong : (p o : ℕ) (s : Span) (rs : List FoldRange) → o + x ≡ p + y → All Moves rs → All (BelongsTo p s) rs → All (BelongsTo o s) (map f rs)
  all_belong p o s [] e a b = All-nil (BelongsTo o s)
  all_belong p o s (r ∷ rs) e a b = All-cons (BelongsTo o s) (f r) (map f rs) (belongs_moved x y p o s r (f r) e (All-head Moves r rs a) (All-head (BelongsTo p s) r rs b))
      (all_belong p o s rs e (All-tail Moves r rs a) (All-tail (BelongsTo p s) r rs b))

  pub have_moved : (p o : ℕ) (ss : List Span) (rs : List FoldRange) → o + x ≡ p + y → All Moves rs → HaveInOrder p ss rs → HaveInOrder o ss (map f rs)
  have_moved p o [] rs e a h = ap (map f) h
  have_moved p o (s ∷ ss) rs e a h =
      let both : All Moves (h.0 ++ h.1) = All-same Moves (h.0 ++ h.1) rs (sym h.2) a in
      let mine = left_part Moves h.0 h.1 both in (
        map f h.0,
        map f h.1,
        ap (map f) h.2 ∙ map-append f h.0 h.1,
        h.3 ∙ sym (same_numbers h.0 mine),
        all_belong p o s h.0 e mine h.4,
        have_moved (p + span_len s) (o + span_len s) ss h.1 (omega (arith, e)) (right_part Moves h.0 h.1 both) h.5,
      )

abbrev as_range : ℕ → ℕ → ℕ → FoldRange
as_range s e n = record { start = s; end = e; number = n }

pub equal_ranges : (r q : FoldRange) → r.start ≡ q.start → r.end ≡ q.end → r.number ≡ q.number → r ≡ q
equal_ranges r q s e n = ap (λ (k : ℕ). as_range k r.end r.number) s ∙ ap (λ (k : ℕ). as_range q.start k r.number) e ∙ ap (λ (k : ℕ). as_range q.start q.end k) n
