-- The tokens of a list, and those of an operation.
use Rattle.std.proofs.Common.{◌≡◌, ℕ, ◌≤◌, List, [], ◌∷◌, ◌++◌, append_assoc, length, map, take, take_all, refl, sym, ap, ap₂, ◌∙◌}
use Rattle.std.specs.List.{flat_map}
use Rattle.json.specs.Print.{print}
use Rattle.json.specs.Token as token
use Rattle.json.specs.Token.{Token}
use Rattle.json.specs.Tree.{items_tokens}
use Rattle.serde_json.specs.Data.{Data}
use Rattle.serde_json.specs.View.{items_of}
use Rattle.serde_json.specs.Written.{items_outline}
use Rattle.serde_json.proofs.Texts.{print-outline}
use Rattle.session_writer.specs.Values.{line_text}
use Rattle.record_lines.specs.Lines.{value_tokens}

-- the members of a list, and its end
members : {A : Type 0} (value : A → Data) (xs : List A) → items_tokens (items_outline (items_of (map value xs))) ≡ flat_map (λ x. value_tokens (value x)) xs ++ token.end_array ∷ []
members value [] = refl
members value (x ∷ xs) =
    ap (λ (ts : List Token). value_tokens (value x) ++ ts) (members value xs) ∙ sym (append_assoc (value_tokens (value x)) (flat_map (λ y. value_tokens (value y)) xs) (token.end_array ∷ []))

-- all members are written after a bracket, and then the other bracket
pub list_ended : {A : Type 0} (old w new : List Token) (value : A → Data) (xs : List A) (i : ℕ) → length xs ≤ i
    → w ≡ (old ++ token.begin_array ∷ []) ++ flat_map (λ x. value_tokens (value x)) (take i xs) → new ≡ w ++ token.end_array ∷ []
    → new ≡ old ++ token.begin_array ∷ items_tokens (items_outline (items_of (map value xs)))
list_ended old w new value xs i le is last =
    let front : List Token = old ++ token.begin_array ∷ [] in
    let all : List Token = flat_map (λ x. value_tokens (value x)) xs in
    let whole : w ≡ front ++ all = is ∙ ap (λ ys. front ++ flat_map (λ x. value_tokens (value x)) ys) (take_all i xs le) in
    last ∙ (ap (λ (ts : List Token). ts ++ token.end_array ∷ []) whole
    ∙ (append_assoc front all (token.end_array ∷ [])
    ∙ (append_assoc old (token.begin_array ∷ []) (all ++ token.end_array ∷ [])
    ∙ ap (λ (ts : List Token). old ++ token.begin_array ∷ ts) (sym (members value xs)))))

-- the tokens of a value are its text, and a line feed ends the line
pub line_written : (d : Data) (old before text new : List ℕ) (first all : List Token) → before ≡ old → first ≡ [] → all ≡ first ++ value_tokens d → text ≡ before ++ print all → new ≡ text ++ 10 ∷ [] → new ≡ old ++ line_text d
line_written d old before text new first all kept none value is last =
    last ∙ (ap (λ (t : List ℕ). t ++ 10 ∷ []) (is ∙ ap₂ (λ (b : List ℕ) (ts : List Token). b ++ print ts) kept (value ∙ ap (λ (ts : List Token). ts ++ value_tokens d) none))
    ∙ (append_assoc old (print (value_tokens d)) (10 ∷ []) ∙ ap (λ (t : List ℕ). old ++ (t ++ 10 ∷ [])) (print-outline d)))
