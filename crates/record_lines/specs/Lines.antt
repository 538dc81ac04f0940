-- The line of an operation in a session, and the text of lines.
use Rattle.std.specs.Prelude.{ℕ, List, [], ◌∷◌, map, codes}
use Rattle.std.specs.List.{flat_map}
use Rattle.serde_json.specs.Data.{Data, string}
use Rattle.json.specs.Token.{Token}
use Rattle.json.specs.Tree.{json_tokens}
use Rattle.serde_json.specs.Written.{compact_text, outline}
use Rattle.lamport_clock.specs.declared.stamp.Lamport.{Lamport}
use Rattle.lamport_clock.specs.Versions.{Entries}
use Rattle.op_model.specs.declared.operation.Piece.{Piece}
use Rattle.op_model.specs.declared.operation.UndoCount.{UndoCount}
use Rattle.op_model.specs.declared.operation.Operation.{Operation}
use Rattle.op_model.specs.declared.operation.Operation.TheVariants.{Edit, Undo}
use Rattle.session_lines.specs.declared.session.SessionLine.{SessionLine}
use Rattle.session_lines.specs.declared.session.SessionLine.TheVariants.{Op, Uop}
use Rattle.session_writer.specs.Values.{line_text, list_value, number_value}

-- [value, replica]
abbrev pub stamp_value : Lamport → Data
stamp_value t = list_value (number_value t.value ∷ number_value t.replica ∷ [])

-- [replica, value]
abbrev pub entry_value : ℕ × ℕ → Data
entry_value e = list_value (number_value e.0 ∷ number_value e.1 ∷ [])

-- [[replica, value], ..]
abbrev pub version_value : Entries → Data
version_value v = list_value (map entry_value v)

-- [start, end, "text"]
abbrev pub piece_value : Piece → Data
piece_value p = list_value (number_value p.start ∷ number_value p.end ∷ string p.text ∷ [])

-- [[start, end, "text"], ..]
abbrev pub pieces_value : List Piece → Data
pieces_value ps = list_value (map piece_value ps)

-- [value, replica, count]
abbrev pub count_value : UndoCount → Data
count_value c = list_value (number_value c.edit.value ∷ number_value c.edit.replica ∷ number_value c.count ∷ [])

-- [[value, replica, count], ..]
abbrev pub counts_value : List UndoCount → Data
counts_value cs = list_value (map count_value cs)

-- ["op", stamp, version, pieces] of an edit, and ["uop", stamp, version, counts] of an undo
abbrev pub operation_value : Operation → Data
operation_value (Edit e) =
    list_value (string (codes "op") ∷ stamp_value e.stamp ∷ version_value e.version ∷ pieces_value e.pieces ∷ [])
operation_value (Undo u) =
    list_value (string (codes "uop") ∷ stamp_value u.stamp ∷ version_value u.version ∷ counts_value u.counts ∷ [])

-- the line of an operation, without its line feed
abbrev pub operation_text : Operation → List ℕ
operation_text op = compact_text (operation_value op)

-- a line for each of the operations
abbrev pub operation_lines : List Operation → List ℕ
operation_lines ops = flat_map (λ op. line_text (operation_value op)) ops

-- the line of a session that has the operation in it
abbrev pub session_line : Operation → SessionLine
session_line (Edit e) = Op e
session_line (Undo u) = Uop u

-- ---- for private clauses

-- the tokens of a value
abbrev pub value_tokens : Data → List Token
value_tokens d = json_tokens (outline d)
