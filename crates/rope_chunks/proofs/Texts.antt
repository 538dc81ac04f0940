-- A rope's chunks and its text.
use Rattle.std.proofs.Common.{◌≡◌, ℕ, ◌<◌, ◌≤◌, List, [], ◌∷◌, ◌++◌, length, ap, sym, subst, ◌∙◌, arith, ⊎_elim}
use Rattle.std.specs.List.{All, concat}
use Rattle.std.specs.Str.{IsUtf8, IsCharBoundary}
use Rattle.std.specs.Char.{len_utf8}
use lib.Utf8.{encodes}
use Rattle.std.proofs.lemmas.Bool.{cases_lt}
use Rattle.std.proofs.lemmas.Str.{IsUtf8-nil, IsUtf8-append, IsCharBoundary-past_char, len_utf8_bounds}
use Rattle.std.proofs.lemmas.List.{append-nil}
use Rattle.std.proofs.lemmas.List.Elements.{All-head, All-tail}
use Rattle.std.proofs.lemmas.List.Folds.{concat-append}
use Rattle.rope_chunks.specs.Chunks.{IsChunk}

pub concat-utf8 : (cs : List (List ℕ)) → All IsChunk cs → IsUtf8 (concat cs)
concat-utf8 [] a = IsUtf8-nil
concat-utf8 (c ∷ cs) a = IsUtf8-append c (concat cs) (All-head IsChunk c cs a).text (concat-utf8 cs (All-tail IsChunk c cs a))

-- a text that is not empty may be cut within its first four bytes
cut_near : (cs bs : List ℕ) → encodes cs ≡ bs → IsUtf8 bs → 0 < length bs → (n : ℕ) × (0 < n) × (n ≤ 4) × IsCharBoundary bs n
cut_near [] bs e u h = absurd (let none : length bs ≡ 0 = ap length (sym e) in omega arith)
cut_near (c ∷ cs) bs e u h =
    (len_utf8 c, omega (arith, (len_utf8_bounds c).0), (len_utf8_bounds c).1, subst (λ n. IsCharBoundary bs n) (omega arith) (IsCharBoundary-past_char bs (encodes cs) 0 c (omega arith) u (sym e)))

pub cut-some : (bs : List ℕ) (room n : ℕ) → IsUtf8 bs → 0 < length bs → 4 ≤ room → ((i : ℕ) → n < i → i ≤ room → IsCharBoundary bs i → ⊥) → 0 < n
cut-some bs room n u h r near =
    let c = cut_near u.0 bs u.1.1 u h in
    ⊎_elim (λ (some : 0 < n). some) (λ (none : n ≤ 0). absurd (near c.0 (omega (arith, none, c.1)) (omega (arith, c.2, r)) c.3)) (cases_lt 0 n)

pub concat-push : (cs : List (List ℕ)) (c : List ℕ) → concat (cs ++ c ∷ []) ≡ concat cs ++ c
concat-push cs c = concat-append cs (c ∷ []) ∙ ap (λ t. concat cs ++ t) (append-nil c)
