-- A text that is read chunk by chunk.
use Rattle.std.proofs.Common.{◌≡◌, ℕ, ◌+◌, ◌-◌, ◌<◌, ◌≤◌, List, [], ◌∷◌, ◌++◌, length, take, drop, sym, ap, subst, ◌∙◌, arith, ⊎_elim, length-drop}
use Rattle.std.specs.List.{concat}
use Rattle.std.proofs.lemmas.Bool.{cases_lt}
use Rattle.std.proofs.lemmas.List.{take_all, drop-drop, take-append-le, length-take, length-take-le}
use Rattle.std.proofs.Math.Seq.{take-add, take-append_seam, drop-append_seam}

-- what is taken of the front of a text, of a chunk at the most
taken : (chunk rest : List ℕ) (left : ℕ) → take (length (take left chunk)) (chunk ++ rest) ≡ take left chunk
taken chunk rest left =
    ⊎_elim (λ (less : left < length chunk).
    let size = length-take-le left chunk (omega arith) in
    ap (λ n. take n (chunk ++ rest)) size ∙ take-append-le left chunk rest (omega arith))
    (λ (whole : length chunk ≤ left).
    let all = take_all left chunk whole in
    ap (λ l. take (length l) (chunk ++ rest)) all ∙ (take-append_seam chunk rest ∙ sym all))
    (cases_lt left (length chunk))

pub text_more : (text chunk rest : List ℕ) (n left : ℕ) → drop n text ≡ chunk ++ rest
    → take n text ++ take left chunk ≡ take (n + length (take left chunk)) text
text_more text chunk rest n left e =
    sym (take-add n (length (take left chunk)) text ∙ ap (λ l. take n text ++ l) (ap (take (length (take left chunk))) e ∙ taken chunk rest left))

pub rest_more : (text chunk rest : List ℕ) (n left : ℕ) → drop n text ≡ chunk ++ rest → length (take left chunk) < left
    → rest ≡ drop (n + length (take left chunk)) text
rest_more text chunk rest n left e less =
    ⊎_elim (λ (few : left < length chunk). let size = length-take-le left chunk (omega arith) in absurd (omega arith))
    (λ (whole : length chunk ≤ left).
    let all = ap length (take_all left chunk whole) in
    sym (ap (λ k. drop (n + k) text) all ∙ (sym (drop-drop (length chunk) n text) ∙ (ap (drop (length chunk)) e ∙ drop-append_seam chunk rest))))
    (cases_lt left (length chunk))

short : (chunk : List ℕ) (left : ℕ) → length (take left chunk) ≤ left
short chunk left = omega (arith, length-take left chunk)

-- a chunk that is read, whole or as far as the text is read
pub text_on : (text chunk piece : List ℕ) (chunks rest : List (List ℕ)) (count left : ℕ) → left ≤ count → concat chunks ≡ drop (count - left) text → chunks ≡ chunk ∷ rest → piece ≡ take left chunk
    → take (count - left) text ++ piece ≡ take (count - (left - length piece)) text
text_on text chunk piece chunks rest count left le at is cut =
    let size : length piece ≤ left = subst (λ (l : List ℕ). length l ≤ left) (sym cut) (short chunk left) in
    let next : count - left + length (take left chunk) ≡ count - (left - length piece) = omega (arith, ap length cut) in
    ap (λ l. take (count - left) text ++ l) cut ∙ (text_more text chunk (concat rest) (count - left) left (sym at ∙ ap concat is) ∙ ap (λ n. take n text) next)

pub rest_on : (text chunk piece : List ℕ) (chunks rest : List (List ℕ)) (count left : ℕ) → left ≤ count → concat chunks ≡ drop (count - left) text → chunks ≡ chunk ∷ rest → piece ≡ take left chunk
    → 0 < left - length piece → concat rest ≡ drop (count - (left - length piece)) text
rest_on text chunk piece chunks rest count left le at is cut some =
    let size = ap length cut in
    let next : count - left + length (take left chunk) ≡ count - (left - length piece) = omega arith in
    rest_more text chunk (concat rest) (count - left) left (sym at ∙ ap concat is) (omega arith) ∙ ap (λ n. drop n text) next

-- where no chunk is left, as many bytes were read as are wanted
pub none_left : (text : List ℕ) (chunks : List (List ℕ)) (count left : ℕ) → left ≤ count → count ≤ length text → (0 < left → concat chunks ≡ drop (count - left) text) → chunks ≡ []
    → take (count - left) text ≡ take count text
none_left text chunks count left le enough at none =
    let all : count - left ≡ count =
    ⊎_elim (λ (some : 0 < left).
    let empty : 0 ≡ length (drop (count - left) text) = ap length (sym (ap concat none) ∙ at some) in
    absurd (omega (arith, length-drop (count - left) text)))
    (λ (nothing : left ≤ 0). omega arith)
    (cases_lt 0 left) in
    ap (λ n. take n text) all
