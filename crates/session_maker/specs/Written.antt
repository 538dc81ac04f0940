-- A session that is made, as it is written: the header and then each line, as JSON texts that end with a line feed.
use Rattle.std.specs.Prelude.{ℕ, List, [], ◌∷◌, map, codes}
use Rattle.serde_json.specs.Data.{Data, null, string}
use Rattle.op_model.specs.declared.operation.Piece.{Piece}
use Rattle.session_lines.specs.declared.session.Session.{Session}
use Rattle.session_lines.specs.declared.session.SessionLine.{SessionLine}
use Rattle.session_lines.specs.declared.session.SessionLine.TheVariants.{Edit, Undo, Give}
use Rattle.session_writer.specs.Values.{header_value, lines_text, list_value, number_value}

-- [start, end, "text"]
abbrev pub piece_value : Piece → Data
piece_value p = list_value (number_value p.start ∷ number_value p.end ∷ string p.text ∷ [])

-- the value of a line of a kind that is made; none is made of the others
abbrev pub line_value : SessionLine → Data
line_value (Edit r ps) = list_value (string (codes "edit") ∷ number_value r ∷ list_value (map piece_value ps) ∷ [])
line_value (Undo r ns) = list_value (string (codes "undo") ∷ number_value r ∷ list_value (map number_value ns) ∷ [])
line_value (Give r n) = list_value (string (codes "give") ∷ number_value r ∷ number_value n ∷ [])
line_value _ = null

-- the text of a session whose lines are of the kinds that are made
abbrev pub session_text : Session → List ℕ
session_text s = lines_text (header_value 1 s.base s.replicas ∷ map line_value s.lines)
