-- A line that is written as the compact text of its value.
use Rattle.std.proofs.Common.{◌≡◌, ℕ, ◌<◌, ◌≤◌, Bool, true, false, ◌||◌, List, [], ◌∷◌, ◌++◌, length, None, Some, Result, Ok, Err, IfOk, IsUtf8, refl, sym, ap, ◌∙◌, subst, arith}
use Rattle.std.specs.Prelude.{codes}
use Rattle.std.specs.Option.{option_map_or}
use Rattle.serde_json.specs.Data.{Data, Items, array, boolean, depth, float, item, negative, no_items, null, number, object, string, unsigned}
use Rattle.serde_json.specs.Read.{max_depth, read}
use Rattle.serde_json.specs.Written.{compact_text, has_float, items_have_float}
use Rattle.session_lines.specs.Json.{value_of}
use Rattle.session_lines.proofs.Lines.{value_none, value_read}
use Rattle.session_more.specs.Decoding.{more_session_of_text}
use Rattle.session_more.specs.declared.session.MoreSession.{MoreSession}
use Rattle.session_more.proofs.Plain.{session_of_nothing}
use Rattle.session_writer.specs.Migrated.{written_line}
use Rattle.session_writer.specs.Readable.{AreForms, IsForm, IsReadable, IsWritten}
use Rattle.session_writer.specs.Values.{line_text}
use Rattle.session_writer.proofs.Compact.{one_line_text}

neither : (a b : Bool) → a ≡ false → b ≡ false → (a || b) ≡ false
neither a b p q = rw (p, q) refl

mutual
  no_float : (d : Data) → IsForm d → has_float d ≡ false
  no_float null f = absurd f
  no_float (boolean b) f = absurd f
  no_float (number (unsigned n)) f = refl
  no_float (number (negative z)) f = absurd f
  no_float (number (float x)) f = absurd f
  no_float (string s) f = refl
  no_float (array ds) f = no_floats ds f
  no_float (object ms) f = absurd f

  no_floats : (ds : Items) → AreForms ds → items_have_float ds ≡ false
  no_floats no_items f = refl
  no_floats (item d ds) f = neither (has_float d) (items_have_float ds) (no_float d f.0) (no_floats ds f.1)

-- text is what is written for the value v of the line
module _ (line : List ℕ) (r : IsReadable line) (v : Data) (utf8 : IsUtf8 line) (is : read line ≡ Some v) where
  value_is : value_of line ≡ Some v
  value_is = value_read line (Some v) utf8 is

  form : IsForm v
  form = let same : Some r.0 ≡ Some v = sym r.1 ∙ value_is in let one : r.0 ≡ v = cc same in subst IsForm one r.2

  module _ (text : List ℕ) (compact : has_float v ≡ false → text ≡ compact_text v) where
    text_is : text ≡ compact_text v
    text_is = compact (no_float v form)

    pub line_written : text ++ codes "\n" ≡ written_line line
    line_written = ap (λ (t : List ℕ). t ++ codes "\n") text_is ∙ ap (λ o. option_map_or line_text o []) (sym value_is)

    pub is_written : IsUtf8 text → (depth v ≤ max_depth → read text ≡ Some v) → depth v ≤ max_depth → IsWritten line
    is_written good back deep =
        let again : value_of text ≡ Some v = value_read text (Some v) good (back deep) in
        (v, value_is, one_line_text line v value_is form, subst (λ (t : List ℕ). value_of t ≡ Some v) text_is again)

-- a line of a session is read
pub is_read : (line : List ℕ) → IsReadable line → (IsUtf8 line → read line ≡ None) → ⊥
is_read line r n = let same : Some r.0 ≡ None = sym r.1 ∙ value_none line n in cc same

-- a session has a line
pub some_bytes : (input : List ℕ) (s : MoreSession) → more_session_of_text true input ≡ Ok s → 0 < length input
some_bytes [] s e = let n = (session_of_nothing true [] refl).0 in cc
some_bytes (x ∷ xs) s e = omega arith

-- two facts of what is made, if it is
pub if_both : {A E : Type 0} (x : Result A E) (P Q R : A → Type 0) → ((a : A) → P a → Q a → R a) → IfOk x P → IfOk x Q → IfOk x R
if_both (Ok a) P Q R f p q = f a p q
if_both (Err e) P Q R f p q = tt
