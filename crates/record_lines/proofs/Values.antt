-- The value of an operation is written as one line of UTF-8, and the line is read as the value.
use Rattle.std.proofs.Common.{◌≡◌, ℕ, zero, suc, ◌<◌, ◌^◌, Bool, true, false, List, [], ◌∷◌, ◌++◌, map, Some, decimal, IsUtf8, refl, arith}
use Rattle.std.specs.Prelude.{⊤, codes}
use Rattle.std.specs.List.{AllByRecursion}
use Rattle.std.proofs.lemmas.Fmt.{IsAscii-decimal}
use Rattle.std.proofs.lemmas.Str.{IsUtf8-append, IsUtf8-from_ascii, IsUtf8-nil}
use Rattle.json.proofs.Printed.Utf8.{IsUtf8-are_ascii, IsUtf8-quoted}
use Rattle.lamport_clock.specs.Versions.{Entries, IsVersionFrom}
use Rattle.op_model.specs.declared.operation.Piece.{Piece}
use Rattle.op_model.specs.declared.operation.UndoCount.{UndoCount}
use Rattle.op_model.specs.declared.operation.Operation.{Operation}
use Rattle.op_model.specs.declared.operation.Operation.TheVariants.{Edit, Undo}
use Rattle.op_wire.specs.Spelling.{HasSpelling, IsCount, IsPiece, IsStamp}
use Rattle.serde_json.specs.Data.{Data, Items, array, boolean, float, item, negative, no_items, null, number, object, string, unsigned}
use Rattle.serde_json.specs.View.{items_of}
use Rattle.serde_json.specs.Written.{comma_if, compact_text, items_text}
use Rattle.session_lines.specs.Json.{value_of}
use Rattle.session_writer.specs.Readable.{AreForms, IsForm, is_one_line}
use Rattle.session_writer.proofs.Compact.{AreSmall, IsSmall, one_text}
use Rattle.session_writer.proofs.Values.{AreLine, IsLine, value_back}
use Rattle.record_lines.specs.Lines.{count_value, entry_value, operation_text, operation_value, piece_value}

-- ---- values of whole numbers below 2^64, of UTF-8 and of lists, k deep at most

abbrev mutual
  pub IsPlain : Data → ℕ → Type 0
  IsPlain null k = ⊥
  IsPlain (boolean b) k = ⊥
  IsPlain (number (unsigned n)) k = n < 2 ^ 64
  IsPlain (number (negative z)) k = ⊥
  IsPlain (number (float x)) k = ⊥
  IsPlain (string s) k = IsUtf8 s
  IsPlain (array ds) zero = ⊥
  IsPlain (array ds) (suc k) = ArePlain ds k
  IsPlain (object ms) k = ⊥

  pub ArePlain : Items → ℕ → Type 0
  ArePlain no_items k = ⊤
  ArePlain (item d ds) k = IsPlain d k × ArePlain ds k

mutual
  as_line : (d : Data) (k : ℕ) → IsPlain d k → IsLine d k
  as_line null k h = absurd h
  as_line (boolean b) k h = absurd h
  as_line (number (unsigned n)) k h = h
  as_line (number (negative z)) k h = absurd h
  as_line (number (float x)) k h = absurd h
  as_line (string s) k h = tt
  as_line (array ds) zero h = absurd h
  as_line (array ds) (suc k) h = as_lines ds k h
  as_line (object ms) k h = absurd h

  as_lines : (ds : Items) (k : ℕ) → ArePlain ds k → AreLine ds k
  as_lines no_items k h = tt
  as_lines (item d ds) k h = (as_line d k h.0, as_lines ds k h.1)

mutual
  as_form : (d : Data) (k : ℕ) → IsPlain d k → IsForm d
  as_form null k h = absurd h
  as_form (boolean b) k h = absurd h
  as_form (number (unsigned n)) k h = tt
  as_form (number (negative z)) k h = absurd h
  as_form (number (float x)) k h = absurd h
  as_form (string s) k h = tt
  as_form (array ds) zero h = absurd h
  as_form (array ds) (suc k) h = as_forms ds k h
  as_form (object ms) k h = absurd h

  as_forms : (ds : Items) (k : ℕ) → ArePlain ds k → AreForms ds
  as_forms no_items k h = tt
  as_forms (item d ds) k h = (as_form d k h.0, as_forms ds k h.1)

mutual
  as_small : (d : Data) (k : ℕ) → IsPlain d k → IsSmall d
  as_small null k h = absurd h
  as_small (boolean b) k h = absurd h
  as_small (number (unsigned n)) k h = h
  as_small (number (negative z)) k h = absurd h
  as_small (number (float x)) k h = absurd h
  as_small (string s) k h = tt
  as_small (array ds) zero h = absurd h
  as_small (array ds) (suc k) h = as_smalls ds k h
  as_small (object ms) k h = absurd h

  as_smalls : (ds : Items) (k : ℕ) → ArePlain ds k → AreSmall ds
  as_smalls no_items k h = tt
  as_smalls (item d ds) k h = (as_small d k h.0, as_smalls ds k h.1)

-- ---- their texts are UTF-8

comma : (b : Bool) → IsUtf8 (comma_if b)
comma true = IsUtf8-are_ascii (44 ∷ []) refl
comma false = IsUtf8-nil

mutual
  utf8_text : (d : Data) (k : ℕ) → IsPlain d k → IsUtf8 (compact_text d)
  utf8_text null k h = absurd h
  utf8_text (boolean b) k h = absurd h
  utf8_text (number (unsigned n)) k h = IsUtf8-from_ascii (decimal n) (IsAscii-decimal n h)
  utf8_text (number (negative z)) k h = absurd h
  utf8_text (number (float x)) k h = absurd h
  utf8_text (string s) k h = IsUtf8-quoted s h
  utf8_text (array ds) zero h = absurd h
  utf8_text (array ds) (suc k) h = IsUtf8-append (91 ∷ []) (items_text false ds) (IsUtf8-are_ascii (91 ∷ []) refl) (utf8_items false ds k h)
  utf8_text (object ms) k h = absurd h

  utf8_items : (later : Bool) (ds : Items) (k : ℕ) → ArePlain ds k → IsUtf8 (items_text later ds)
  utf8_items later no_items k h = IsUtf8-are_ascii (93 ∷ []) refl
  utf8_items later (item d ds) k h =
      IsUtf8-append (comma_if later) (compact_text d ++ items_text true ds) (comma later)
      (IsUtf8-append (compact_text d) (items_text true ds) (utf8_text d k h.0) (utf8_items true ds k h.1))

-- ---- the values of operations

entries_plain : (n : ℕ) (v : Entries) → IsVersionFrom n v → ArePlain (items_of (map entry_value v)) 1
entries_plain n [] h = tt
entries_plain n (e ∷ v) h = ((omega (arith, h.1), (omega (arith, h.3), tt)), entries_plain (suc e.0) v h.4)

pieces_plain : (ps : List Piece) → AllByRecursion IsPiece ps → ArePlain (items_of (map piece_value ps)) 1
pieces_plain [] h = tt
pieces_plain (p ∷ ps) h = ((h.0.0, (h.0.1.0, (h.0.1.1, tt))), pieces_plain ps h.1)

counts_plain : (cs : List UndoCount) → AllByRecursion IsCount cs → ArePlain (items_of (map count_value cs)) 1
counts_plain [] h = tt
counts_plain (c ∷ cs) h = ((omega (arith, h.0.0.0), (omega (arith, h.0.0.1), (omega (arith, h.0.1), tt))), counts_plain cs h.1)

operation_plain : (op : Operation) → HasSpelling op → IsPlain (operation_value op) 3
operation_plain (Edit e) h =
    let t : IsStamp e.stamp = h.stamp in
    (IsUtf8-are_ascii (codes "op") refl, ((omega (arith, t.0), (omega (arith, t.1), tt)), (entries_plain 0 e.version h.version, (pieces_plain e.pieces h.pieces, tt))))
operation_plain (Undo u) h =
    let t : IsStamp u.stamp = h.stamp in
    (IsUtf8-are_ascii (codes "uop") refl, ((omega (arith, t.0), (omega (arith, t.1), tt)), (entries_plain 0 u.version h.version, (counts_plain u.counts h.counts, tt))))

-- the line of an operation has no line feed in it
pub operation_one_line : (op : Operation) → HasSpelling op → is_one_line (operation_text op) ≡ true
operation_one_line op h =
    let plain = operation_plain op h in
    one_text (operation_value op) (as_form (operation_value op) 3 plain) (as_small (operation_value op) 3 plain)

-- it reads as the operation's value
pub operation_back : (op : Operation) → HasSpelling op → value_of (operation_text op) ≡ Some (operation_value op)
operation_back op h =
    let plain = operation_plain op h in
    value_back (operation_value op) 3 (omega arith) (as_line (operation_value op) 3 plain) (utf8_text (operation_value op) 3 plain)
