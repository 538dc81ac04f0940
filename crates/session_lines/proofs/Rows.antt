-- Worked rows: which session a text is, or which line is bad, and how. The definitions compute.
use Rattle.std.proofs.Common.{◌≡◌, [], ◌∷◌, Ok, Err, true, false, refl}
use Rattle.std.specs.Prelude.{codes}
use Rattle.std.specs.Fmt.{digits}
use Rattle.std.specs.Str.{is_utf8, chars}
use Rattle.serde_json.proofs.OnLiterals.{serde_json_on_literals}
use Rattle.session_lines.specs.Json.{value_of}
use Rattle.session_lines.specs.Cut.{lines_of}
use Rattle.session_lines.specs.Forms.{line_of_value}
use Rattle.session_lines.specs.Heading.{header_of_value}
use Rattle.session_lines.specs.Session.{session_of_text, header_of, line_of}
use Rattle.session_lines.specs.declared.session.SessionLine.TheVariants.{Edit, Undo, Op, Uop, Give, Text, Anchor, Where, Mark, Since, Find, Point, Offset, Reopen}
use Rattle.op_model.specs.declared.anchor.Bias.TheVariants.{Left, Right}
use Rattle.op_model.specs.declared.faults.PlaceFault.TheVariants.{PastEnd}
use Rattle.op_model.specs.declared.faults.SinceFault.TheVariants.{Unseen}
use Rattle.json.specs.Print.{escape_byte}
use Rattle.session_lines.specs.Report.{report_text, line_text, query_line, anchor_line, where_line, mark_line, since_line}
use Rattle.session_lines.specs.declared.report.AnchorAnswer.TheVariants as anchor
use Rattle.session_lines.specs.declared.report.WhereAnswer.TheVariants as position
use Rattle.session_lines.specs.declared.report.SinceAnswer.TheVariants as edits
use Rattle.session_lines.specs.declared.report.FindAnswer.TheVariants.{Starts, EmptyNeedle}
use Rattle.session_lines.specs.declared.report.PointAnswer.TheVariants as point
use Rattle.session_lines.specs.declared.report.OffsetAnswer.TheVariants as offset
use Rattle.session_lines.specs.declared.report.QueryAnswer.TheVariants as query
use Rattle.session_lines.specs.declared.report.Report.TheVariants as report
use Rattle.session_lines.specs.declared.fault.Word.TheVariants.{Json, Header, Shape, Replica, Number, Name, Cr}
use Rattle.session_lines.specs.declared.fault.DecodeFault.TheVariants.{Bad}

-- an empty line is one unless it is the last
pub cut_lines : lines_of (codes "a\n\nb") ≡ codes "a" ∷ [] ∷ codes "b" ∷ []
cut_lines = refl

pub ended_lines : lines_of (codes "a\n") ≡ codes "a" ∷ []
ended_lines = refl

pub a_session : session_of_text false (codes "[\"zedbuf\",1,\"ab\",[7,2]]\n[\"edit\",2,[[1,1,\"X\"]]]\n[\"text\",7]")
    ≡ Ok (record { version = 1; base = codes "ab"; replicas = 7 ∷ 2 ∷ []; lines = Edit 2 (record { start = 1; end = 1; text = codes "X" } ∷ []) ∷ Text 7 ∷ [] })
unfolding session_of_text value_of line_of_value header_of_value header_of line_of is_utf8 chars serde_json_on_literals
a_session = refl

-- the second version, by whose buffers a CR in a base becomes an LF: the base of the session is the text as it stands
pub a_second_version : session_of_text false (codes "[\"zedbuf\",2,\"a\\r\\nb\",[1]]\n[\"text\",1]\n")
    ≡ Ok (record { version = 2; base = codes "a\r\nb"; replicas = 1 ∷ []; lines = Text 1 ∷ [] })
unfolding session_of_text value_of line_of_value header_of_value header_of line_of is_utf8 chars serde_json_on_literals
a_second_version = refl

pub a_third_version : session_of_text false (codes "[\"zedbuf\",3,\"ab\",[1]]\n") ≡ Err (Bad 1 Header)
unfolding session_of_text value_of line_of_value header_of_value header_of line_of is_utf8 chars serde_json_on_literals
a_third_version = refl

pub no_version : session_of_text false (codes "[\"zedbuf\",0,\"ab\",[1]]\n") ≡ Err (Bad 1 Header)
unfolding session_of_text value_of line_of_value header_of_value header_of line_of is_utf8 chars serde_json_on_literals
no_version = refl

pub a_version_with_a_fraction : session_of_text false (codes "[\"zedbuf\",2.0,\"ab\",[1]]\n") ≡ Err (Bad 1 Header)
unfolding session_of_text value_of line_of_value header_of_value header_of line_of is_utf8 chars serde_json_on_literals
a_version_with_a_fraction = refl

pub no_line : session_of_text false (codes "") ≡ Err (Bad 1 Header)
unfolding session_of_text
no_line = refl

pub an_empty_line : session_of_text false (codes "\n") ≡ Err (Bad 1 Json)
unfolding session_of_text value_of line_of_value header_of_value header_of line_of is_utf8 chars serde_json_on_literals
an_empty_line = refl

pub no_replica : session_of_text false (codes "[\"zedbuf\",1,\"ab\",[]]\n") ≡ Err (Bad 1 Header)
unfolding session_of_text value_of line_of_value header_of_value header_of line_of is_utf8 chars serde_json_on_literals
no_replica = refl

pub an_id_twice : session_of_text false (codes "[\"zedbuf\",1,\"ab\",[1,1]]\n") ≡ Err (Bad 1 Header)
unfolding session_of_text value_of line_of_value header_of_value header_of line_of is_utf8 chars serde_json_on_literals
an_id_twice = refl

pub no_bracket : session_of_text false (codes "[\"zedbuf\",1,\"ab\",[1]]\n[\"text\",1]\n[\"text\",1\n") ≡ Err (Bad 3 Json)
unfolding session_of_text value_of line_of_value header_of_value header_of line_of is_utf8 chars serde_json_on_literals
no_bracket = refl

pub a_fraction : session_of_text false (codes "[\"zedbuf\",1,\"ab\",[1]]\n[\"text\",1.0]\n") ≡ Err (Bad 2 Shape)
unfolding session_of_text value_of line_of_value header_of_value header_of line_of is_utf8 chars serde_json_on_literals
a_fraction = refl

pub another_replica : session_of_text false (codes "[\"zedbuf\",1,\"ab\",[1,2]]\n[\"text\",3]\n") ≡ Err (Bad 2 Replica)
unfolding session_of_text value_of line_of_value header_of_value header_of line_of is_utf8 chars serde_json_on_literals
another_replica = refl

-- a line of another replica that has no form of a line
pub shape_first : session_of_text false (codes "[\"zedbuf\",1,\"ab\",[1,2]]\n[\"edit\",3,[[0,0]]]\n") ≡ Err (Bad 2 Shape)
unfolding session_of_text value_of line_of_value header_of_value header_of line_of is_utf8 chars serde_json_on_literals
shape_first = refl

-- an operation whose version stands in another order, and gives of both operation lines
pub given : session_of_text false (codes "[\"zedbuf\",1,\"\",[1]]\n[\"op\",[9,4],[[4,8],[0,1]],[[0,0,\"x\"]]]\n[\"give\",1,1]\n[\"edit\",1,[]]\n[\"give\",1,2]\n")
    ≡ Ok (record {
      version = 1;
      base = [];
      replicas = 1 ∷ [];
      lines = Op (record { stamp = record { value = 9; replica = 4 }; version = (0, 1) ∷ (4, 8) ∷ []; pieces = record { start = 0; end = 0; text = codes "x" } ∷ [] }) ∷ Give 1 1 ∷ Edit 1 [] ∷ Give 1 2 ∷ [];
    })
unfolding session_of_text value_of line_of_value header_of_value header_of line_of is_utf8 chars serde_json_on_literals
given = refl

pub a_version_id_twice : session_of_text false (codes "[\"zedbuf\",1,\"ab\",[1]]\n[\"op\",[2,1],[[0,1],[3,1],[0,2]],[]]\n") ≡ Err (Bad 2 Shape)
unfolding session_of_text value_of line_of_value header_of_value header_of line_of is_utf8 chars serde_json_on_literals
a_version_id_twice = refl

pub a_version_value_zero : session_of_text false (codes "[\"zedbuf\",1,\"ab\",[1]]\n[\"op\",[2,1],[[0,0]],[]]\n") ≡ Err (Bad 2 Shape)
unfolding session_of_text value_of line_of_value header_of_value header_of line_of is_utf8 chars serde_json_on_literals
a_version_value_zero = refl

-- a give of an operation line that is still to come
pub a_later_number : session_of_text false (codes "[\"zedbuf\",1,\"ab\",[1]]\n[\"give\",1,1]\n[\"edit\",1,[]]\n") ≡ Err (Bad 2 Number)
unfolding session_of_text value_of line_of_value header_of_value header_of line_of is_utf8 chars serde_json_on_literals
a_later_number = refl

pub replica_first : session_of_text false (codes "[\"zedbuf\",1,\"ab\",[1]]\n[\"give\",3,0]\n") ≡ Err (Bad 2 Replica)
unfolding session_of_text value_of line_of_value header_of_value header_of line_of is_utf8 chars serde_json_on_literals
replica_first = refl

-- an undo operation as it stands, and an undo of both operation lines before
pub undos : session_of_text false (codes "[\"zedbuf\",1,\"\",[1]]\n[\"edit\",1,[]]\n[\"uop\",[9,4],[[0,1]],[[2,1,1]]]\n[\"undo\",1,[2,1]]\n")
    ≡ Ok (record {
      version = 1;
      base = [];
      replicas = 1 ∷ [];
      lines = Edit 1 [] ∷ Uop (record { stamp = record { value = 9; replica = 4 }; version = (0, 1) ∷ []; counts = record { edit = record { value = 2; replica = 1 }; count = 1 } ∷ [] }) ∷ Undo 1 (2 ∷ 1 ∷ []) ∷ [];
    })
unfolding session_of_text value_of line_of_value header_of_value header_of line_of is_utf8 chars serde_json_on_literals
undos = refl

-- an undo that names itself
pub its_own_number : session_of_text false (codes "[\"zedbuf\",1,\"\",[1]]\n[\"edit\",1,[]]\n[\"undo\",1,[1,2]]\n") ≡ Err (Bad 3 Number)
unfolding session_of_text value_of line_of_value header_of_value header_of line_of is_utf8 chars serde_json_on_literals
its_own_number = refl

-- ---- queries

pub queries : session_of_text false (codes "[\"zedbuf\",1,\"ab\",[7,2]]\n[\"find\",2,\"\"]\n[\"point\",7,18446744073709551615]\n[\"offset\",2,0,1]\n")
    ≡ Ok (record { version = 1; base = codes "ab"; replicas = 7 ∷ 2 ∷ []; lines = Find 2 [] ∷ Point 7 18446744073709551615 ∷ Offset 2 0 1 ∷ [] })
unfolding session_of_text value_of line_of_value header_of_value header_of line_of is_utf8 chars serde_json_on_literals
queries = refl

pub a_query_of_another_replica : session_of_text false (codes "[\"zedbuf\",1,\"ab\",[1,2]]\n[\"find\",1,\"a\"]\n[\"offset\",3,0,0]\n") ≡ Err (Bad 3 Replica)
unfolding session_of_text value_of line_of_value header_of_value header_of line_of is_utf8 chars serde_json_on_literals
a_query_of_another_replica = refl

pub a_point_past_its_range : session_of_text false (codes "[\"zedbuf\",1,\"ab\",[1]]\n[\"point\",1,18446744073709551616]\n") ≡ Err (Bad 2 Shape)
unfolding session_of_text value_of line_of_value header_of_value header_of line_of is_utf8 chars serde_json_on_literals
a_point_past_its_range = refl

-- ---- their lines in a report

pub places_found : report_text (report.Query 1 0 (query.Find (Starts (127 ∷ 128 ∷ []))) ∷ report.Query 2 3 (query.Find (Starts [])) ∷ report.Query 3 3 (query.Find EmptyNeedle) ∷ []) ≡ codes "find 1 at 0: 127 128\nfind 2 at 3: none\nfind 3 at 3: empty needle\n"
unfolding report_text line_text query_line digits
places_found = refl

pub points_found : report_text (
    report.Query 1 0 (query.Point (point.Point (record { row = 0; column = 6 }) (record { 0 = 3 }) (record { row = 1; column = 3 })))
    ∷ report.Query 2 0 (query.Point (point.Clips 2 6))
    ∷ report.Query 3 0 (query.Offset (offset.Offset 6))
    ∷ report.Query 4 0 (query.Offset (offset.Clips (record { row = 0; column = 2 }) (record { row = 0; column = 6 })))
    ∷ [])
    ≡ codes "point 1 at 0: 0:6 3 1:3\npoint 2 at 0: none 2 6\noffset 3 at 0: 6\noffset 4 at 0: none 0:2 0:6\n"
unfolding report_text line_text query_line digits
points_found = refl

-- ---- names

-- an anchor line may be refused when it is worked, and keeps its name for the lines after it
pub names : session_of_text false (codes "[\"zedbuf\",1,\"ab\",[1,2]]\n[\"anchor\",1,\"a\",9,\"left\"]\n[\"anchor\",2,\"\",0,\"right\"]\n[\"where\",2,\"a\"]\n[\"mark\",2,\"a\"]\n[\"since\",1,\"a\"]\n")
    ≡ Ok (record {
      version = 1;
      base = codes "ab";
      replicas = 1 ∷ 2 ∷ [];
      lines = Anchor 1 (codes "a") 9 Left ∷ Anchor 2 [] 0 Right ∷ Where 2 (codes "a") ∷ Mark 2 (codes "a") ∷ Since 1 (codes "a") ∷ [];
    })
unfolding session_of_text value_of line_of_value header_of_value header_of line_of is_utf8 chars serde_json_on_literals
names = refl

-- the name of a mark is not one of an anchor
pub a_name_of_a_mark : session_of_text false (codes "[\"zedbuf\",1,\"ab\",[1]]\n[\"mark\",1,\"a\"]\n[\"where\",1,\"a\"]\n") ≡ Err (Bad 3 Name)
unfolding session_of_text value_of line_of_value header_of_value header_of line_of is_utf8 chars serde_json_on_literals
a_name_of_a_mark = refl

pub a_longer_name : session_of_text false (codes "[\"zedbuf\",1,\"ab\",[1]]\n[\"mark\",1,\"a\"]\n[\"since\",1,\"ab\"]\n") ≡ Err (Bad 3 Name)
unfolding session_of_text value_of line_of_value header_of_value header_of line_of is_utf8 chars serde_json_on_literals
a_longer_name = refl

pub a_third_side : session_of_text false (codes "[\"zedbuf\",1,\"ab\",[1]]\n[\"anchor\",1,\"a\",0,\"middle\"]\n") ≡ Err (Bad 2 Shape)
unfolding session_of_text value_of line_of_value header_of_value header_of line_of is_utf8 chars serde_json_on_literals
a_third_side = refl

pub names_told : report_text (
    report.Anchor (codes "a") anchor.Set
    ∷ report.Anchor (codes "\"") (anchor.Fault (PastEnd 12))
    ∷ report.Where (codes "a") 7 (position.Offset 30)
    ∷ report.Where [] 7 position.Unknown
    ∷ report.Mark (codes "m")
    ∷ report.Since (codes "m") 7 (edits.Edits (record { old = (1, 2); new = (3, 4) } ∷ record { old = (5, 6); new = (7, 8) } ∷ []))
    ∷ report.Since (codes "m") 7 (edits.Fault (Unseen 9))
    ∷ [])
    ≡ codes "anchor \"a\": set\nanchor \"\\\"\": pastend 12\nwhere \"a\" at 7: 30\nwhere \"\" at 7: unknown\nmark \"m\": set\nsince \"m\" at 7: 1..2 -> 3..4, 5..6 -> 7..8\nsince \"m\" at 7: unseen 9\n"
unfolding report_text line_text anchor_line where_line mark_line since_line digits escape_byte
names_told = refl

-- ---- version 2

pub reopened : session_of_text false (codes "[\"zedbuf\",2,\"\",[1]]\n[\"reopen\",1]\n") ≡ Ok (record { version = 2; base = []; replicas = 1 ∷ []; lines = Reopen 1 ∷ [] })
unfolding session_of_text value_of line_of_value header_of_value header_of line_of is_utf8 chars serde_json_on_literals
reopened = refl

pub reopened_in_version_1 : session_of_text false (codes "[\"zedbuf\",1,\"\",[1]]\n[\"reopen\",1]\n") ≡ Err (Bad 2 Shape)
unfolding session_of_text value_of line_of_value header_of_value header_of line_of is_utf8 chars serde_json_on_literals
reopened_in_version_1 = refl

pub another_reopened : session_of_text false (codes "[\"zedbuf\",2,\"\",[1]]\n[\"reopen\",2]\n") ≡ Err (Bad 2 Replica)
unfolding session_of_text value_of line_of_value header_of_value header_of line_of is_utf8 chars serde_json_on_literals
another_reopened = refl

-- ---- sessions that are read to be migrated

pub a_base_with_a_return : session_of_text true (codes "[\"zedbuf\",1,\"a\\r\",[1]]\n") ≡ Err (Bad 1 Cr)
unfolding session_of_text value_of line_of_value header_of_value header_of line_of is_utf8 chars serde_json_on_literals
a_base_with_a_return = refl

pub a_piece_with_a_return : session_of_text true (codes "[\"zedbuf\",1,\"a\",[1]]\n[\"op\",[2,3],[],[[0,0,\"\"],[0,0,\"\\r\"]]]\n") ≡ Err (Bad 2 Cr)
unfolding session_of_text value_of line_of_value header_of_value header_of line_of is_utf8 chars serde_json_on_literals
a_piece_with_a_return = refl

pub a_return_of_version_2 : session_of_text true (codes "[\"zedbuf\",2,\"\\r\",[1]]\n[\"edit\",1,[[0,0,\"\\r\"]]]\n")
    ≡ Ok (record { version = 2; base = 13 ∷ []; replicas = 1 ∷ []; lines = Edit 1 (record { start = 0; end = 0; text = 13 ∷ [] } ∷ []) ∷ [] })
unfolding session_of_text value_of line_of_value header_of_value header_of line_of is_utf8 chars serde_json_on_literals
a_return_of_version_2 = refl
