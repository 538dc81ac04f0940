-- Texts as they enter: they are UTF-8 where they were, hold no CR, and a text without CR stays.
use Rattle.std.proofs.Common.{◌≡◌, ◌≢◌, ℕ, suc, ◌<◌, ◌≤◌, Bool, true, false, cond, eqb, ◌&&◌, List, [], ◌∷◌, ◌++◌, map, length, get_or, refl, sym, ◌∙◌, ap, subst, arith, inl, inr, append-nil}
use Rattle.std.specs.Prelude.{IsUtf8}
use Rattle.std.specs.List.{AllByRecursion, list_any}
use Rattle.std.proofs.lemmas.Bool.{cases_Bool, and_parts, or_parts, cases_lt, eqb-true}
use Rattle.std.proofs.lemmas.Bool.Decides.{nat_tests}
use Rattle.std.proofs.lemmas.Str.{IsUtf8-append, IsUtf8-nil, IsUtf8-encode, encode_ascii, inside_one}
use lib.Utf8.{scalar, scalars, encode, encodes, low_scalar}
use Rattle.op_model.specs.declared.operation.Piece.{Piece}
use Rattle.op_model.specs.declared.endings.Endings.{Endings}
use Rattle.op_model.specs.declared.endings.Endings.TheVariants.{AsIs, Lf}
use Rattle.op_model.specs.Rules.{pieces_under, lf, lf_after}

ascii_then : (x : ℕ) (xs : List ℕ) → x < 128 → IsUtf8 xs → IsUtf8 (x ∷ xs)
ascii_then x xs small u = IsUtf8-append (x ∷ []) xs (subst IsUtf8 (encode_ascii x small) (IsUtf8-encode x (low_scalar x (omega arith)))) u

not_eq : (x n : ℕ) → n < 128 → 128 ≤ x → eqb x n ≡ false
not_eq x n a b = grind (arith, nat_tests)

lf_first : (b : Bool) (x : ℕ) (t : List ℕ) → 128 ≤ x → lf_after b (x ∷ t) ≡ x ∷ lf_after false t
lf_first true x t h = rw (not_eq x 13 (omega arith) h, not_eq x 10 (omega arith) h) refl
lf_first false x t h = rw (not_eq x 13 (omega arith) h) refl

lf_plain : (xs t : List ℕ) → ((k : ℕ) → k < length xs → 128 ≤ get_or xs k 0) → lf_after false (xs ++ t) ≡ xs ++ lf_after false t
lf_plain [] t h = refl
lf_plain (x ∷ xs) t h = lf_first false x (xs ++ t) (h 0 (omega arith)) ∙ ap (λ (l : List ℕ). x ∷ l) (lf_plain xs t (λ k below. h (suc k) (omega arith)))

high_then : (b : Bool) (xs t : List ℕ) → ((k : ℕ) → k < length xs → 128 ≤ get_or xs k 0) → ((e : Bool) → IsUtf8 (lf_after e t)) → IsUtf8 xs → IsUtf8 (lf_after b (xs ++ t))
high_then b [] t h f u = f b
high_then b (x ∷ xs) t h f u = subst IsUtf8
    (sym (lf_first b x (xs ++ t) (h 0 (omega arith)) ∙ ap (λ (l : List ℕ). x ∷ l) (lf_plain xs t (λ k below. h (suc k) (omega arith)))))
    (IsUtf8-append (x ∷ xs) (lf_after false t) u (f false))

low_then : (b : Bool) (c : ℕ) (t : List ℕ) → c < 128 → ((e : Bool) → IsUtf8 (lf_after e t)) → IsUtf8 (lf_after b (c ∷ t))
low_then b c t small f = go (eqb c 13) (b && eqb c 10)
  where
    go : (r n : Bool) → IsUtf8 (cond r (10 ∷ lf_after true t) (cond n (lf_after false t) (c ∷ lf_after false t)))
    go true n = ascii_then 10 (lf_after true t) (omega arith) (f true)
    go false true = f false
    go false false = ascii_then c (lf_after false t) small (f false)

all_chars : (b : Bool) (cs : List ℕ) → scalars cs ≡ true → IsUtf8 (lf_after b (encodes cs))
all_chars b [] e = IsUtf8-nil
all_chars b (c ∷ cs) e =
    let p = and_parts (scalar c) (scalars cs) e in
    elim (cases_lt c 128) [
      | inl small ↦ rw (encode_ascii c small) (low_then b c (encodes cs) small (λ d. all_chars d cs p.1))
      | inr big ↦
          let high : (k : ℕ) → k < length (encode c) → 128 ≤ get_or (encode c) k 0 = λ k below. elim (cases_lt (get_or (encode c) k 0) 128) [
            | inl low ↦ absurd (omega (arith, inside_one c [] (encode c) k (sym (append-nil _)) below low))
            | inr h ↦ h
          ] in
          high_then b (encode c) (encodes cs) high (λ d. all_chars d cs p.1) (IsUtf8-encode c p.0)
    ]

pub lf_utf8 : (t : List ℕ) → IsUtf8 t → IsUtf8 (lf t)
lf_utf8 t u = subst (λ (l : List ℕ). IsUtf8 (lf l)) u.1.1 (all_chars false u.0 u.1.0)

pub entering_utf8 : (e : Endings) (ps : List Piece) → AllByRecursion (λ (p : Piece). IsUtf8 p.text) ps → AllByRecursion (λ (p : Piece). IsUtf8 p.text) (pieces_under e ps)
entering_utf8 AsIs ps u = u
entering_utf8 Lf ps u = go ps u
  where
    go : (ps : List Piece) → AllByRecursion (λ (p : Piece). IsUtf8 p.text) ps → AllByRecursion (λ (p : Piece). IsUtf8 p.text) (map (λ (p : Piece). record { start = p.start; end = p.end; text = lf p.text }) ps)
    go [] u = tt
    go (p ∷ ps) u = (lf_utf8 p.text u.0, go ps u.1)

-- ---- no CR is left, and nothing else changes

no_return : (b : Bool) (t : List ℕ) → list_any (λ x. eqb x 13) (lf_after b t) ≡ false
no_return b [] = refl
no_return b (x ∷ t) = elim (cases_Bool (eqb x 13)) [
  | inl y ↦ rw y (no_return true t)
  | inr n ↦ rw n (go (b && eqb x 10) n (no_return false t))
]
  where
    go : (c : Bool) → eqb x 13 ≡ false → list_any (λ y. eqb y 13) (lf_after false t) ≡ false → list_any (λ y. eqb y 13) (cond c (lf_after false t) (x ∷ lf_after false t)) ≡ false
    go true n r = r
    go false n r = rw n r

pub lf_clean : (t : List ℕ) → list_any (λ x. eqb x 13) (lf t) ≡ false
lf_clean t = no_return false t

pub lf_same : (t : List ℕ) → list_any (λ x. eqb x 13) t ≡ false → lf t ≡ t
lf_same [] e = refl
lf_same (x ∷ t) e = let n = or_parts (eqb x 13) (list_any (λ y. eqb y 13) t) e in rw n.0 (ap (λ (l : List ℕ). x ∷ l) (lf_same t n.1))

unequal : (a b : ℕ) → a ≢ b → eqb a b ≡ false
unequal a b n = elim (cases_Bool (eqb a b)) [ inl y ↦ absurd (n (eqb-true a b y)) | inr f ↦ f ]

-- a text up to its first CR stays, and the CR is an LF
pub lf_cut : (line t : List ℕ) → ((i : ℕ) → i < length line → get_or line i 0 ≢ 13) → lf (line ++ 13 ∷ t) ≡ line ++ 10 ∷ lf_after true t
lf_cut [] t n = refl
lf_cut (x ∷ line) t n = rw (unequal x 13 (n 0 (omega arith))) (ap (λ (l : List ℕ). x ∷ l) (lf_cut line t (λ i below. n (suc i) (omega arith))))

-- a text without CR by its bytes
pub lf_none : (t : List ℕ) → ((i : ℕ) → i < length t → get_or t i 0 ≢ 13) → lf t ≡ t
lf_none [] n = refl
lf_none (x ∷ t) n = rw (unequal x 13 (n 0 (omega arith))) (ap (λ (l : List ℕ). x ∷ l) (lf_none t (λ i below. n (suc i) (omega arith))))

-- after a CR, an LF that begins a text is left out
pub lf_feed : (t : List ℕ) → ((rest : List ℕ) → t ≢ 10 ∷ rest) → lf t ≡ lf_after true t
lf_feed [] n = refl
lf_feed (x ∷ t) n = elim (cases_Bool (eqb x 10)) [
  | inl y ↦ absurd (n t (ap (λ (z : ℕ). z ∷ t) (eqb-true x 10 y)))
  | inr f ↦ rw f refl
]
