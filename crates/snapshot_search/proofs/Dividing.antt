-- A text that is divided, and what is found in its parts.
use Rattle.std.proofs.Common.{◌≡◌, ℕ, zero, suc, ◌+◌, ◌-◌, ◌<◌, ◌≤◌, List, [], ◌∷◌, ◌++◌, length, slice_index, slice_index_or, refl, sym, ap, subst, ◌∙◌, arith}
use Rattle.std.specs.List.{AllZip, range_with_len}
use Rattle.std.specs.Str.{IsCharBoundary, IsUtf8}
use Rattle.std.proofs.lemmas.Str.{IsCharBoundary-start}
use Rattle.snapshot_search.specs.Starts.{starts, starts_between}
use Rattle.snapshot_search.specs.Parts.{AreCuts}
use Rattle.snapshot_search.proofs.Places.{starts-append, starts-none, starts-whole}

pub cuts_first : (text cuts : List ℕ) → IsUtf8 text → cuts ≡ 0 ∷ [] → AreCuts text cuts 0
cuts_first text cuts u is =
    subst (λ l. AreCuts text l 0) (sym is)
    record {
      some = omega arith;
      first = refl;
      last = refl;
      each = λ j h. let here : 0 ≡ j = omega arith in subst (λ i. IsCharBoundary text (slice_index (0 ∷ []) i)) here (IsCharBoundary-start text u);
      rise = λ j h. absurd (omega arith);
    }

-- one part more
pub part_more : (text needle all part more : List ℕ) (some : 0 < length needle) (a b : ℕ) → a ≤ b → all ≡ starts_between text needle 0 a
    → part ≡ starts_between text needle a b → more ≡ all ++ part → more ≡ starts_between text needle 0 b
part_more text needle all part more some a b le x y e =
    e ∙ ((λ i. x i ++ y i) ∙ sym (starts-append text needle some 0 a b (omega arith) le))

pub no_part : (text needle : List ℕ) (some : 0 < length needle) (a : ℕ) → a ≡ 0 → [] ≡ starts_between text needle 0 a
no_part text needle some a e =
    sym (ap (starts_between text needle 0) e ∙ starts-none text needle some 0 0 (omega arith) (λ k low high. absurd (omega arith)))

pub all_parts : (text needle all : List ℕ) (some : 0 < length needle) (a : ℕ) → a ≡ length text → all ≡ starts_between text needle 0 a → all ≡ starts text needle
all_parts text needle all some a e h = h ∙ (ap (starts_between text needle 0) e ∙ starts-whole text needle some)

-- what stands beside the numbers of a range, at one place
pub item_at : {Y : Type 0} (R : ℕ → Y → Type 0) (a n : ℕ) (ys : List Y) → AllZip R (range_with_len a n) ys → (j : ℕ) (d : Y) → j < n → (k : ℕ) → a + j ≡ k → R k (slice_index_or ys j d)
item_at R a zero ys h j d lt k e = absurd (omega arith)
item_at R a (suc n) [] h j d lt k e = absurd h
item_at R a (suc n) (y ∷ ys) h zero d lt k e = subst (λ i. R i y) (omega arith) h.0
item_at R a (suc n) (y ∷ ys) h (suc j) d lt k e = item_at R (a + 1) n ys h.1 j d (omega arith) k (omega arith)
