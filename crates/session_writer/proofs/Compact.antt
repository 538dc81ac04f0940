-- The compact text of a value that was read is one line.
use Rattle.std.proofs.Common.{◌≡◌, ℕ, zero, suc, ◌<◌, ◌≤◌, ◌^◌, ◌==◌, Bool, true, false, cond, not, ◌&&◌, nat_lt, List, [], ◌∷◌, ◌++◌, Option, None, Some, decimal, drop, inl, inr, refl, sym, ap, ◌∙◌, subst, arith}
use Rattle.std.specs.Prelude.{⊤, option_and_then, option_map}
use Rattle.std.specs.Char.{digit_value}
use Rattle.std.specs.Float.{float_is_finite, binary64}
use Rattle.std.specs.Str.{is_utf8}
use Rattle.std.specs.Str.Parse.{AllDigits}
use Rattle.std.specs.List.{slice_index}
use Rattle.std.proofs.lemmas.Bool.{and_from, and_parts, cases_eq, cases_lt, ltb-true, ne_eqb}
use Rattle.std.proofs.lemmas.Fmt.{decimal_is_IsNumeral}
use Rattle.fast_float.specs.Text.{Parts, digits_of, minus, nearest, scan, with_sign}
use Rattle.json.specs.Json as json
use Rattle.json.specs.Lex.{tokens}
use Rattle.json.specs.Print.{escape, escape_byte, quoted}
use Rattle.json.proofs.Printed.Strings.{escape_byte_plain}
use Rattle.serde_json.specs.Data.{Data, Items, Num, array, boolean, float, item, negative, no_items, no_members, null, number, object, string, unsigned}
use Rattle.serde_json.specs.Read.{float_of, is_integer, max_depth, number_from, number_of, of_items, of_json, of_members, read}
use Rattle.serde_json.specs.Written.{comma_if, compact_text, items_text}
use Rattle.session_lines.specs.Json.{value_of}
use Rattle.session_writer.specs.Readable.{AreForms, IsForm, is_one_line}

-- ---- the whole numbers of a value that was read are below 2^64

abbrev mutual
  pub IsSmall : Data → Type 0
  IsSmall null = ⊤
  IsSmall (boolean b) = ⊤
  IsSmall (number (unsigned n)) = n < 2 ^ 64
  IsSmall (number (negative z)) = ⊤
  IsSmall (number (float x)) = ⊤
  IsSmall (string s) = ⊤
  IsSmall (array ds) = AreSmall ds
  IsSmall (object ms) = ⊤

  pub AreSmall : Items → Type 0
  AreSmall no_items = ⊤
  AreSmall (item d ds) = IsSmall d × AreSmall ds

abbrev OfData : Option Data → Type 0
OfData None = ⊤
OfData (Some d) = IsSmall d

abbrev OfItems : Option Items → Type 0
OfItems None = ⊤
OfItems (Some ds) = AreSmall ds

abbrev OfNumber : Option Num → Type 0
OfNumber None = ⊤
OfNumber (Some n) = IsSmall (number n)

float_small : (sign : Bool) (p : Parts) → OfNumber (float_of sign p)
float_small sign p = elim (float_is_finite (nearest binary64 sign p)) as (λ b. OfNumber (cond b (Some (float (nearest binary64 sign p))) None)) [ true ↦ tt | false ↦ tt ]

whole_small : (p : Parts) (a b : Bool) → nat_lt (digits_of p) (2 ^ 64) ≡ b → OfNumber (cond (a && b) (Some (unsigned (digits_of p))) (float_of false p))
whole_small p true true e = ltb-true (digits_of p) (2 ^ 64) e
whole_small p true false e = float_small false p
whole_small p false b e = float_small false p

negative_small : (p : Parts) (b : Bool) → OfNumber (cond b (Some (negative (with_sign true (digits_of p)))) (float_of true p))
negative_small p true = tt
negative_small p false = float_small true p

from_small : (sign : Bool) (p : Parts) → OfNumber (number_from sign p)
from_small false p = whole_small p (is_integer p) (nat_lt (digits_of p) (2 ^ 64)) refl
from_small true p = negative_small p _

number_small : (s : List ℕ) → OfNumber (number_of s)
unfolding number_of
number_small s = elim (slice_index s 0 == minus) as (λ b. OfNumber (cond b (number_from true (scan (drop 1 s))) (number_from false (scan s)))) [ true ↦ from_small true (scan (drop 1 s)) | false ↦ from_small false (scan s) ]

of_number : (o : Option Num) → OfNumber o → OfData (option_map number o)
of_number None h = tt
of_number (Some n) h = h

of_array : (o : Option Items) → OfItems o → OfData (option_map array o)
of_array None h = tt
of_array (Some ds) h = h

of_object : {A : Type 0} (f : A → Data) (o : Option A) → ((a : A) → IsSmall (f a)) → OfData (option_map f o)
of_object f None h = tt
of_object f (Some a) h = h a

one_more : (o : Option Data) (r : Option Items) → OfData o → OfItems r → OfItems (option_and_then (λ d. option_map (item d) r) o)
one_more None r h g = tt
one_more (Some d) None h g = tt
one_more (Some d) (Some ds) h g = (h, g)

mutual
  json_small : (j : json.Json) → OfData (of_json j)
  json_small json.null = tt
  json_small (json.boolean b) = tt
  json_small (json.number s) = of_number (number_of s) (number_small s)
  json_small (json.string s) = tt
  json_small (json.array js) = of_array (of_items js) (items_small js)
  json_small (json.object ms) = of_object object (of_members ms no_members) (λ a. tt)

  items_small : (js : json.Items) → OfItems (of_items js)
  items_small json.no_items = tt
  items_small (json.item j js) = one_more (of_json j) (of_items js) (json_small j) (items_small js)

then_small : (o : Option json.Json) → OfData (option_and_then of_json o)
then_small None = tt
then_small (Some j) = json_small j

line_small : (line : List ℕ) → OfData (value_of line)
unfolding value_of
line_small line = elim (is_utf8 line) as (λ b. OfData (cond b (read line) None))
    [ true ↦ then_small (option_and_then (λ p. json.if_last p.0 p.1) (json.value max_depth (tokens line))) | false ↦ tt ]

value_small : (line : List ℕ) (d : Data) → value_of line ≡ Some d → IsSmall d
value_small line d e = subst OfData e (line_small line)

-- ---- texts that are one line

pub one-append : (xs ys : List ℕ) → is_one_line xs ≡ true → is_one_line ys ≡ true → is_one_line (xs ++ ys) ≡ true
one-append [] ys p q = q
one-append (x ∷ xs) ys p q =
    let h = and_parts (not (x == 10)) (is_one_line xs) p in and_from (not (x == 10)) (is_one_line (xs ++ ys)) h.0 (one-append xs ys h.1 q)

other : (x : ℕ) → (x ≡ 10 → ⊥) → not (x == 10) ≡ true
other x h = ap not (ne_eqb x 10 h)

digit_other : (d : ℕ) → digit_value d < 10 → d ≡ 10 → ⊥
digit_other d h e = grind arith

one_digits : (ds : List ℕ) → AllDigits 10 ds → is_one_line ds ≡ true
one_digits [] h = refl
one_digits (d ∷ ds) h = and_from (not (d == 10)) (is_one_line ds) (other d (digit_other d h.0)) (one_digits ds h.1)

-- the escapes of the bytes below n are one line
abbrev lines_below : ℕ → Bool
lines_below zero = true
lines_below (suc n) = is_one_line (escape_byte n) && lines_below n

below : (n : ℕ) → lines_below n ≡ true → (x : ℕ) → x < n → is_one_line (escape_byte x) ≡ true
below zero e x h = absurd (omega arith)
below (suc n) e x h =
    let p = and_parts (is_one_line (escape_byte n)) (lines_below n) e in
    elim (cases_eq x n) [ inl same ↦ ap (λ (y : ℕ). is_one_line (escape_byte y)) same ∙ p.0 | inr less ↦ below n p.1 x (omega arith) ]

all_below : lines_below 128 ≡ true
unfolding escape_byte
all_below = refl

one_byte : (x : ℕ) → is_one_line (escape_byte x) ≡ true
one_byte x = elim (cases_lt x 128) [
  | inl low ↦ below 128 all_below x low
  | inr high ↦ ap is_one_line (escape_byte_plain x (λ e. omega arith) (λ e. omega arith) (omega arith)) ∙ and_from (not (x == 10)) true (other x (λ e. omega arith)) refl
]

one_escape : (s : List ℕ) → is_one_line (escape s) ≡ true
one_escape [] = refl
one_escape (x ∷ s) = one-append (escape_byte x) (escape s) (one_byte x) (one_escape s)

one_comma : (b : Bool) → is_one_line (comma_if b) ≡ true
one_comma true = refl
one_comma false = refl

mutual
  pub one_text : (d : Data) → IsForm d → IsSmall d → is_one_line (compact_text d) ≡ true
  one_text null f h = absurd f
  one_text (boolean b) f h = absurd f
  one_text (number (unsigned n)) f h = one_digits (decimal n) (decimal_is_IsNumeral n h).0.1
  one_text (number (negative z)) f h = absurd f
  one_text (number (float x)) f h = absurd f
  one_text (string s) f h = one-append (escape s) (34 ∷ []) (one_escape s) refl
  one_text (array ds) f h = one_items false ds f h
  one_text (object ms) f h = absurd f

  one_items : (later : Bool) (ds : Items) → AreForms ds → AreSmall ds → is_one_line (items_text later ds) ≡ true
  one_items later no_items f h = refl
  one_items later (item d ds) f h =
      one-append (comma_if later) (compact_text d ++ items_text true ds) (one_comma later)
      (one-append (compact_text d) (items_text true ds) (one_text d f.0 h.0) (one_items true ds f.1 h.1))

pub one_line_text : (line : List ℕ) (d : Data) → value_of line ≡ Some d → IsForm d → is_one_line (compact_text d) ≡ true
one_line_text line d e f = one_text d f (value_small line d e)
