-- Values that are written read back.
use Rattle.std.proofs.Common.{◌≡◌, ℕ, zero, suc, ◌<◌, ◌≤◌, ◌^◌, List, [], ◌∷◌, Some, IsUtf8, refl, sym, ap, ap₂, ◌∙◌, arith, append-nil}
use Rattle.std.specs.Prelude.{⊤, option_and_then, option_map}
use Rattle.json.specs.Json as json
use Rattle.json.specs.Tree as tree
use Rattle.json.specs.Tree.{json_tokens}
use Rattle.json.specs.Lex.{tokens}
use Rattle.json.proofs.Printed.Decimals.{IsNumber-decimal}
use Rattle.json.proofs.Printed.Tokens.{tokens-print}
use Rattle.json.proofs.Printed.Trees.{ArePrintable-json_tokens, value-json_tokens}
use Rattle.serde_json.specs.Data.{Data, Num, unsigned, negative, float, null, boolean, number, string, array, object, Items, no_items, item}
use Rattle.serde_json.specs.Read.{max_depth, of_items, of_json, read}
use Rattle.serde_json.specs.Written.{compact_text, items_outline, outline}
use Rattle.serde_json.proofs.Numbers.{number_of-decimal}
use Rattle.serde_json.proofs.Texts.{print-outline}
use Rattle.session_lines.specs.Json.{value_of}
use Rattle.session_lines.proofs.Lines.{value_read}

-- ---- values of whole numbers below 2^64, of strings and of lists, k deep at most

abbrev pub IsShort : Num → Type 0
IsShort (unsigned n) = n < 2 ^ 64
IsShort (negative z) = ⊥
IsShort (float x) = ⊥

abbrev mutual
  pub IsLine : Data → ℕ → Type 0
  IsLine null k = ⊥
  IsLine (boolean b) k = ⊥
  IsLine (number n) k = IsShort n
  IsLine (string s) k = ⊤
  IsLine (array ds) zero = ⊥
  IsLine (array ds) (suc k) = AreLine ds k
  IsLine (object ms) k = ⊥

  pub AreLine : Items → ℕ → Type 0
  AreLine no_items k = ⊤
  AreLine (item d ds) k = IsLine d k × AreLine ds k

-- ---- their tokens, and what these read as

mutual
  numbered_line : (d : Data) (k : ℕ) → IsLine d k → tree.HasNumbers (outline d)
  numbered_line null k h = absurd h
  numbered_line (boolean b) k h = absurd h
  numbered_line (number (unsigned n)) k h = IsNumber-decimal n h
  numbered_line (number (negative z)) k h = absurd h
  numbered_line (number (float x)) k h = absurd h
  numbered_line (string s) k h = tt
  numbered_line (array ds) zero h = absurd h
  numbered_line (array ds) (suc k) h = numbered_items ds k h
  numbered_line (object ms) k h = absurd h

  numbered_items : (ds : Items) (k : ℕ) → AreLine ds k → tree.ItemsHaveNumbers (items_outline ds)
  numbered_items no_items k h = tt
  numbered_items (item d ds) k h = (numbered_line d k h.0, numbered_items ds k h.1)

mutual
  data_of : (d : Data) (k : ℕ) → IsLine d k → of_json (outline d) ≡ Some d
  data_of null k h = absurd h
  data_of (boolean b) k h = absurd h
  data_of (number (unsigned n)) k h = ap (option_map number) (number_of-decimal n h)
  data_of (number (negative z)) k h = absurd h
  data_of (number (float x)) k h = absurd h
  data_of (string s) k h = refl
  data_of (array ds) zero h = absurd h
  data_of (array ds) (suc k) h = ap (option_map array) (datas_of ds k h)
  data_of (object ms) k h = absurd h

  datas_of : (ds : Items) (k : ℕ) → AreLine ds k → of_items (items_outline ds) ≡ Some ds
  datas_of no_items k h = refl
  datas_of (item d ds) k h = ap₂ (λ o p. option_and_then (λ e. option_map (item e) p) o) (data_of d k h.0) (datas_of ds k h.1)

mutual
  deep_line : (d : Data) (k : ℕ) → IsLine d k → tree.depth (outline d) ≤ k
  deep_line null k h = absurd h
  deep_line (boolean b) k h = absurd h
  deep_line (number n) k h = omega arith
  deep_line (string s) k h = omega arith
  deep_line (array ds) zero h = absurd h
  deep_line (array ds) (suc k) h = omega (arith, deep_items ds k h)
  deep_line (object ms) k h = absurd h

  deep_items : (ds : Items) (k : ℕ) → AreLine ds k → tree.items_depth (items_outline ds) ≤ k
  deep_items no_items k h = omega arith
  deep_items (item d ds) k h = omega (arith, deep_line d k h.0, deep_items ds k h.1)

-- the line reads as the value
pub value_back : (d : Data) (k : ℕ) → k ≤ 127 → IsLine d k → IsUtf8 (compact_text d) → value_of (compact_text d) ≡ Some d
value_back d k le h utf8 =
    let text : List ℕ = compact_text d in
    let j : json.Json = outline d in
    let back : tokens text ≡ json_tokens j = ap tokens (sym (print-outline d)) ∙ tokens-print (json_tokens j) (ArePrintable-json_tokens j (numbered_line d k h)) in
    let value : json.value max_depth (tokens text) ≡ Some (j, []) =
    ap (json.value max_depth) (back ∙ sym (append-nil (json_tokens j))) ∙ value-json_tokens j max_depth [] (omega (arith, deep_line d k h, le)) in
    let whole : read text ≡ Some d = ap (λ o. option_and_then of_json (option_and_then (λ p. json.if_last p.0 p.1) o)) value ∙ data_of d k h in
    value_read text (Some d) utf8 whole
