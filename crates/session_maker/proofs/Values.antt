-- Values that are written on a line: the line is plain text, and reads back.
use Rattle.std.proofs.Common.{◌≡◌, ℕ, zero, suc, ◌<◌, ◌≤◌, ◌^◌, Bool, true, false, List, [], ◌∷◌, ◌++◌, Some, decimal, refl, sym, ap, ap₂, ◌∙◌, arith, append-nil}
use Rattle.std.specs.Prelude.{◌&&◌, ⊤, nat_le, nat_lt, option_and_then, option_map}
use Rattle.std.specs.Str.Parse.{AllDigits}
use Rattle.std.specs.Char.{digit_value}
use Rattle.std.proofs.lemmas.Bool.{and_from, and_parts, le-leb, lt-ltb}
use Rattle.std.proofs.lemmas.Fmt.{decimal_is_IsNumeral}
use Rattle.json.specs.Json as json
use Rattle.json.specs.Tree as tree
use Rattle.json.specs.Tree.{json_tokens}
use Rattle.json.specs.Lex.{tokens}
use Rattle.json.specs.Print.{quoted}
use Rattle.json.proofs.Printed.Decimals.{IsNumber-decimal}
use Rattle.json.proofs.Printed.Tokens.{tokens-print}
use Rattle.json.proofs.Printed.Trees.{ArePrintable-json_tokens, value-json_tokens}
use Rattle.json.proofs.Printed.Utf8.{IsUtf8-are_ascii, are_ascii}
use Rattle.serde_json.specs.Data.{Data, Num, unsigned, negative, float, null, boolean, number, string, array, object, Items, no_items, item}
use Rattle.serde_json.specs.Read.{max_depth, of_items, of_json, read}
use Rattle.serde_json.specs.Written.{comma_if, compact_text, items_outline, items_text, outline}
use Rattle.serde_json.proofs.Numbers.{number_of-decimal}
use Rattle.serde_json.proofs.Texts.{print-outline}
use Rattle.session_lines.specs.Json.{value_of}
use Rattle.session_lines.proofs.Lines.{value_read}

-- ---- plain text: characters of one byte, none of them a control character

abbrev pub is_plain : List ℕ → Bool
is_plain [] = true
is_plain (x ∷ xs) = (nat_le 32 x && nat_lt x 128) && is_plain xs

pub plain-append : (xs ys : List ℕ) → is_plain xs ≡ true → is_plain ys ≡ true → is_plain (xs ++ ys) ≡ true
plain-append [] ys p q = q
plain-append (x ∷ xs) ys p q =
    let h = and_parts (nat_le 32 x && nat_lt x 128) (is_plain xs) p in and_from (nat_le 32 x && nat_lt x 128) (is_plain (xs ++ ys)) h.0 (plain-append xs ys h.1 q)

pub plain-one : (x : ℕ) → 32 ≤ x → x < 128 → (nat_le 32 x && nat_lt x 128) ≡ true
plain-one x low high = and_from (nat_le 32 x) (nat_lt x 128) (le-leb 32 x low) (lt-ltb x 128 high)

digit_plain : (d : ℕ) → digit_value d < 10 → (32 ≤ d) × (d < 128)
digit_plain d h = grind arith

plain_digits : (ds : List ℕ) → AllDigits 10 ds → is_plain ds ≡ true
plain_digits [] h = refl
plain_digits (d ∷ ds) h =
    let r = digit_plain d h.0 in and_from (nat_le 32 d && nat_lt d 128) (is_plain ds) (plain-one d r.0 r.1) (plain_digits ds h.1)

plain-decimal : (n : ℕ) → n < 2 ^ 64 → is_plain (decimal n) ≡ true
plain-decimal n h = plain_digits (decimal n) (decimal_is_IsNumeral n h).0.1

ascii : (xs : List ℕ) → is_plain xs ≡ true → are_ascii xs ≡ true
ascii [] p = refl
ascii (x ∷ xs) p =
    let h = and_parts (nat_le 32 x && nat_lt x 128) (is_plain xs) p in
    and_from (nat_lt x 128) (are_ascii xs) (and_parts (nat_le 32 x) (nat_lt x 128) h.0).1 (ascii xs h.1)

-- ---- values of numbers below 2^64, of strings in plain text and of lists, k deep at most

abbrev pub IsShort : Num → Type 0
IsShort (unsigned n) = n < 2 ^ 64
IsShort (negative z) = ⊥
IsShort (float x) = ⊥

abbrev mutual
  pub IsLine : Data → ℕ → Type 0
  IsLine null k = ⊥
  IsLine (boolean b) k = ⊥
  IsLine (number n) k = IsShort n
  IsLine (string s) k = is_plain (quoted s) ≡ true
  IsLine (array ds) zero = ⊥
  IsLine (array ds) (suc k) = AreLine ds k
  IsLine (object ms) k = ⊥

  pub AreLine : Items → ℕ → Type 0
  AreLine no_items k = ⊤
  AreLine (item d ds) k = IsLine d k × AreLine ds k

-- ---- what is written for them

plain-comma : (b : Bool) → is_plain (comma_if b) ≡ true
plain-comma true = refl
plain-comma false = refl

mutual
  pub plain_line : (d : Data) (k : ℕ) → IsLine d k → is_plain (compact_text d) ≡ true
  plain_line null k h = absurd h
  plain_line (boolean b) k h = absurd h
  plain_line (number (unsigned n)) k h = plain-decimal n h
  plain_line (number (negative z)) k h = absurd h
  plain_line (number (float x)) k h = absurd h
  plain_line (string s) k h = h
  plain_line (array ds) zero h = absurd h
  plain_line (array ds) (suc k) h = plain_items false ds k h
  plain_line (object ms) k h = absurd h

  plain_items : (later : Bool) (ds : Items) (k : ℕ) → AreLine ds k → is_plain (items_text later ds) ≡ true
  plain_items later no_items k h = refl
  plain_items later (item d ds) k h =
      plain-append (comma_if later) (compact_text d ++ items_text true ds) (plain-comma later)
      (plain-append (compact_text d) (items_text true ds) (plain_line d k h.0) (plain_items true ds k h.1))

-- ---- its tokens, and what these read as

mutual
  numbered_line : (d : Data) (k : ℕ) → IsLine d k → tree.HasNumbers (outline d)
  numbered_line null k h = absurd h
  numbered_line (boolean b) k h = absurd h
  numbered_line (number (unsigned n)) k h = IsNumber-decimal n h
  numbered_line (number (negative z)) k h = absurd h
  numbered_line (number (float x)) k h = absurd h
  numbered_line (string s) k h = tt
  numbered_line (array ds) zero h = absurd h
  numbered_line (array ds) (suc k) h = numbered_items ds k h
  numbered_line (object ms) k h = absurd h

  numbered_items : (ds : Items) (k : ℕ) → AreLine ds k → tree.ItemsHaveNumbers (items_outline ds)
  numbered_items no_items k h = tt
  numbered_items (item d ds) k h = (numbered_line d k h.0, numbered_items ds k h.1)

mutual
  data_of : (d : Data) (k : ℕ) → IsLine d k → of_json (outline d) ≡ Some d
  data_of null k h = absurd h
  data_of (boolean b) k h = absurd h
  data_of (number (unsigned n)) k h = ap (option_map number) (number_of-decimal n h)
  data_of (number (negative z)) k h = absurd h
  data_of (number (float x)) k h = absurd h
  data_of (string s) k h = refl
  data_of (array ds) zero h = absurd h
  data_of (array ds) (suc k) h = ap (option_map array) (datas_of ds k h)
  data_of (object ms) k h = absurd h

  datas_of : (ds : Items) (k : ℕ) → AreLine ds k → of_items (items_outline ds) ≡ Some ds
  datas_of no_items k h = refl
  datas_of (item d ds) k h = ap₂ (λ o p. option_and_then (λ e. option_map (item e) p) o) (data_of d k h.0) (datas_of ds k h.1)

mutual
  deep_line : (d : Data) (k : ℕ) → IsLine d k → tree.depth (outline d) ≤ k
  deep_line null k h = absurd h
  deep_line (boolean b) k h = absurd h
  deep_line (number n) k h = omega arith
  deep_line (string s) k h = omega arith
  deep_line (array ds) zero h = absurd h
  deep_line (array ds) (suc k) h = omega (arith, deep_items ds k h)
  deep_line (object ms) k h = absurd h

  deep_items : (ds : Items) (k : ℕ) → AreLine ds k → tree.items_depth (items_outline ds) ≤ k
  deep_items no_items k h = omega arith
  deep_items (item d ds) k h = omega (arith, deep_line d k h.0, deep_items ds k h.1)

-- the line reads as the value
pub value_back : (d : Data) (k : ℕ) → k ≤ 127 → IsLine d k → value_of (compact_text d) ≡ Some d
value_back d k le h =
    let text : List ℕ = compact_text d in
    let j : json.Json = outline d in
    let back : tokens text ≡ json_tokens j = ap tokens (sym (print-outline d)) ∙ tokens-print (json_tokens j) (ArePrintable-json_tokens j (numbered_line d k h)) in
    let value : json.value max_depth (tokens text) ≡ Some (j, []) =
    ap (json.value max_depth) (back ∙ sym (append-nil (json_tokens j))) ∙ value-json_tokens j max_depth [] (omega (arith, deep_line d k h, le)) in
    let whole : read text ≡ Some d = ap (λ o. option_and_then of_json (option_and_then (λ p. json.if_last p.0 p.1) o)) value ∙ data_of d k h in
    value_read text (Some d) (IsUtf8-are_ascii text (ascii text (plain_line d k h))) whole
