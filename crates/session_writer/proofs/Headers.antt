-- The header that is written for a session is one of version 2.
use Rattle.std.proofs.Common.{◌≡◌, ℕ, ◌<◌, ◌≤◌, ◌^◌, Bool, true, false, cond, List, [], ◌∷◌, ◌++◌, append_assoc, append-nil, drop, length, map, Some, None, Ok, Err, IsUtf8, refl, sym, ap, ap₂, ◌∙◌, subst, arith}
use Rattle.std.specs.Prelude.{⊤, codes, decimal, option_and_then, option_map}
use Rattle.std.specs.List.{AllByRecursion}
use Rattle.std.proofs.lemmas.Bool.{le-leb}
use Rattle.std.proofs.lemmas.List.{drop_all}
use Rattle.json.specs.Token as token
use Rattle.json.specs.Token.{Token}
use Rattle.json.specs.Print.{print}
use Rattle.json.specs.Tree.{items_tokens, json_tokens}
use Rattle.serde_json.specs.Data.{Data}
use Rattle.serde_json.specs.View.{items_of}
use Rattle.serde_json.specs.Written.{compact_text, items_outline, outline}
use Rattle.serde_json.proofs.Texts.{print-outline}
use Rattle.session_lines.specs.Heading.{are_replicas, header_of_value, header_with, replicas_from}
use Rattle.session_lines.specs.Json.{list_of, value_of}
use Rattle.session_lines.specs.Parts.{all_of, id_of_value}
use Rattle.session_lines.specs.Session.{header_of, header_or_word, value_or_word}
use Rattle.session_lines.specs.declared.header.Header.{Header}
use Rattle.session_lines.proofs.Lines.{list_of-items}
use Rattle.session_writer.specs.Readable.{AreForms}
use Rattle.session_writer.specs.Values.{header_value, number_value}
use Rattle.session_writer.proofs.Compact.{AreSmall}
use Rattle.session_writer.proofs.Values.{AreLine, IsLine, value_back}

-- ---- its ids

abbrev pub AreSmallIds : List ℕ → Type 0
AreSmallIds ids = AllByRecursion (λ (r : ℕ). r ≤ 65535) ids

pub ids_line : (rs : List ℕ) → AreSmallIds rs → AreLine (items_of (map number_value rs)) 0
ids_line [] h = tt
ids_line (r ∷ rs) h = let small : r ≤ 65535 = h.0 in (omega arith, ids_line rs h.1)

ids_from : (rs : List ℕ) → AreSmallIds rs → all_of id_of_value (map number_value rs) ≡ Some rs
ids_from [] h = refl
ids_from (r ∷ rs) h =
    ap₂ (λ (b : Bool) o. option_and_then (λ x. option_map (λ xs. x ∷ xs) o) (cond b (Some r) None)) (le-leb r 65535 h.0) (ids_from rs h.1)

pub ids_forms : (rs : List ℕ) → AreForms (items_of (map number_value rs))
ids_forms [] = tt
ids_forms (r ∷ rs) = (tt, ids_forms rs)

pub ids_small : (rs : List ℕ) → AreSmallIds rs → AreSmall (items_of (map number_value rs))
ids_small [] h = tt
ids_small (r ∷ rs) h = let small : r ≤ 65535 = h.0 in (omega arith, ids_small rs h.1)

-- ---- its value

pub head_line : (version : ℕ) (base ids : List ℕ) → version < 2 ^ 64 → AreSmallIds ids → IsLine (header_value version base ids) 2
head_line version base ids small h = (tt, (small, (tt, (ids_line ids h, tt))))

pub head_form : (base ids : List ℕ) → are_replicas ids ≡ true → AreSmallIds ids → header_of_value (header_value 2 base ids) ≡ Some (record { version = 2; base = base; replicas = ids })
unfolding header_of_value
head_form base ids good small =
    ap (λ l. header_with (Some 2) (Some base) (replicas_from l)) (list_of-items (map number_value ids))
    ∙ ap (λ o. header_with (Some 2) (Some base) (option_and_then (λ rs. cond (are_replicas rs) (Some rs) None) o)) (ids_from ids small)
    ∙ ap (λ (b : Bool). header_with (Some 2) (Some base) (cond b (Some ids) None)) good

pub head_read : (base ids : List ℕ) → are_replicas ids ≡ true → AreSmallIds ids → IsUtf8 (compact_text (header_value 2 base ids))
    → header_of false (compact_text (header_value 2 base ids)) ≡ Ok (record { version = 2; base = base; replicas = ids })
unfolding header_of
head_read base ids good small utf8 =
    ap (header_or_word false) (value_back (header_value 2 base ids) 2 (omega arith) (head_line 2 base ids (omega arith) small) utf8) ∙ ap (value_or_word false) (head_form base ids good small)

-- ---- its tokens

ids_tokens : (ids : List ℕ) → items_tokens (items_outline (items_of (map number_value ids))) ≡ map (λ (id : ℕ). token.number (decimal id)) ids ++ token.end_array ∷ []
ids_tokens [] = refl
ids_tokens (id ∷ ids) = ap (λ (ts : List Token). token.number (decimal id) ∷ ts) (ids_tokens ids)

abbrev pub front_tokens : List ℕ → List Token
front_tokens base = token.begin_array ∷ token.string (codes "zedbuf") ∷ token.number (decimal 2) ∷ token.string base ∷ token.begin_array ∷ []

pub head_tokens : (base ids : List ℕ) → json_tokens (outline (header_value 2 base ids)) ≡ front_tokens base ++ (map (λ (id : ℕ). token.number (decimal id)) ids ++ token.end_array ∷ token.end_array ∷ [])
head_tokens base ids =
    ap (λ (ts : List Token). front_tokens base ++ (ts ++ token.end_array ∷ [])) (ids_tokens ids)
    ∙ ap (λ (ts : List Token). front_tokens base ++ ts) (append_assoc (map (λ (id : ℕ). token.number (decimal id)) ids) (token.end_array ∷ []) (token.end_array ∷ []))

-- ---- what a writer wrote of these tokens is its text

all_tokens : (base ids : List ℕ) (ts : List Token) → ts ≡ front_tokens base ++ (map (λ (id : ℕ). token.number (decimal id)) ids ++ token.end_array ∷ token.end_array ∷ []) → print ts ≡ compact_text (header_value 2 base ids)
all_tokens base ids ts e = ap print (e ∙ sym (head_tokens base ids)) ∙ print-outline (header_value 2 base ids)

pub head_written : (base ids before out : List ℕ) (ts : List Token) → before ≡ [] → ts ≡ front_tokens base ++ (map (λ (id : ℕ). token.number (decimal id)) ids ++ token.end_array ∷ token.end_array ∷ []) → out ≡ before ++ print ts
    → out ≡ compact_text (header_value 2 base ids)
head_written base ids before out ts none e o = o ∙ (ap (λ (b : List ℕ). b ++ print ts) none ∙ all_tokens base ids ts e)

pub head_utf8 : (base ids : List ℕ) (ts : List Token) → ts ≡ front_tokens base ++ (map (λ (id : ℕ). token.number (decimal id)) ids ++ token.end_array ∷ token.end_array ∷ []) → IsUtf8 (print ts) → IsUtf8 (compact_text (header_value 2 base ids))
head_utf8 base ids ts e u = subst IsUtf8 (all_tokens base ids ts e) u

-- the ids are written, and both brackets
pub ended_tokens : (base ids : List ℕ) (i : ℕ) (w e f : List Token) → length ids ≤ i → w ++ map (λ (id : ℕ). token.number (decimal id)) (drop i ids) ≡ front_tokens base ++ map (λ (id : ℕ). token.number (decimal id)) ids
    → e ≡ w ++ token.end_array ∷ [] → f ≡ e ++ token.end_array ∷ [] → f ≡ front_tokens base ++ (map (λ (id : ℕ). token.number (decimal id)) ids ++ token.end_array ∷ token.end_array ∷ [])
ended_tokens base ids i w e f all is one two =
    let ns : List Token = map (λ (id : ℕ). token.number (decimal id)) ids in
    let none : drop i ids ≡ [] = drop_all i ids all in
    let whole : w ≡ front_tokens base ++ ns = sym (append-nil w) ∙ (ap (λ (ks : List ℕ). w ++ map (λ (id : ℕ). token.number (decimal id)) ks) (sym none) ∙ is) in
    two ∙ (ap (λ (ts : List Token). ts ++ token.end_array ∷ []) (one ∙ ap (λ (ts : List Token). ts ++ token.end_array ∷ []) whole)
    ∙ (ap (λ (ts : List Token). ts ++ token.end_array ∷ []) (append_assoc (front_tokens base) ns (token.end_array ∷ []))
    ∙ (append_assoc (front_tokens base) (ns ++ token.end_array ∷ []) (token.end_array ∷ []) ∙ ap (λ (ts : List Token). front_tokens base ++ ts) (append_assoc ns (token.end_array ∷ []) (token.end_array ∷ [])))))
