-- Worked rows, from the bytes of a session to those of its report: the definitions compute.
use Rattle.std.proofs.Common.{◌≡◌, ℕ, [], ◌∷◌, refl}
use Rattle.std.specs.Prelude.{codes}
use Rattle.std.specs.Fmt.{digits}
use Rattle.std.specs.Str.{is_utf8, chars}
use Rattle.json.specs.Print.{escape_byte}
use Rattle.serde_json.proofs.OnLiterals.{serde_json_on_literals}
use Rattle.session_lines.specs.Json.{value_of}
use Rattle.session_lines.specs.Forms.{line_of_value}
use Rattle.session_lines.specs.Heading.{header_of_value}
use Rattle.session_lines.specs.Before.{header_read, line_read}
use Rattle.session_lines.specs.Session.{header_of}
use Rattle.session_lines.specs.Words.{bad_line}
use Rattle.session_lines.specs.Report.{report_text, line_text, made_line, refused_edit_line, refused_undo_line, unnamed_line, settled_line, reopen_line, give_line, text_line, replica_line, refused_op_line, query_line, anchor_line, where_line, mark_line, since_line, checked_line}
use Rattle.text_dims.specs.Counts.{utf16_count, newline_count, rows, last_row}
use Rattle.text_dims.specs.Summaries.{end_point}
use Rattle.text_dims.specs.Places.{end_place, places}
use Rattle.snapshot_search.specs.Starts.{starts}
use Rattle.session_more.specs.Decoding.{more_line_read, more_session_of_text}
use Rattle.session_more.specs.Reports.{more_line_text, more_report_text}
use Rattle.session_work.specs.MoreQueries.{more_report_of}
use Rattle.op_wire.specs.Reading.{record_at}
use Rattle.op_wire.specs.Stream.{operations_of}
use Rattle.record_lines.specs.Packing.{records_of}
use Rattle.record_lines.specs.Unpacking.{lines_of_stream}
use Rattle.record_lines.specs.Words.{fault_line}
use Rattle.session_replay.specs.Replay.{response_of}
use Rattle.command_words.specs.declared.command.Task.TheVariants.{Check, Pack, Replay, Unpack}
use Rattle.session_replay.specs.declared.top.Status.TheVariants as status
use Rattle.lamport_clock.specs.Stamps.{later, same_stamp}
use Rattle.op_model.specs.Cells.{same_cell, sibling_first, seq_where, seq}
use Rattle.op_model.specs.Shown.{deleters_where, full, full_where, shows_where, shows, text_where, text}
use Rattle.op_model.specs.Made.{local_edit as made_at, local_undo}
use Rattle.op_model.specs.Anchors.{left_anchor, right_anchor, is_known, place}
use Rattle.op_model.specs.Answers.{answer}
use Rattle.op_model.specs.Since.{since}
use Rattle.op_model.specs.Settled.{pass, passes, settle}

-- what histories compute
unfoldable open_histories : ℕ
unfolding later same_stamp same_cell sibling_first seq_where seq deleters_where shows_where shows text_where text full_where full made_at local_undo answer pass passes settle
open_histories = 0

-- ---- sessions and their reports

pub one_edit : response_of (Replay 2) (codes "[\"zedbuf\",1,\"ab\",[1]]\n[\"edit\",1,[[1,1,\"X\"]]]\n[\"text\",1]\n")
    ≡ (status.Done, codes "1: 2.1\ntext 1: 3 bytes, end 0:3, 1 rows, \"aXb\"\nreplica 1: 3 bytes, 1 rows, 1 applied, 0 waiting, 0 refused\nfinal 1: \"aXb\"\n")
unfolding response_of open_histories more_report_of more_report_text report_text more_session_of_text header_read more_line_read line_read value_of line_of_value header_of_value header_of more_line_text line_text made_line refused_edit_line text_line replica_line digits escape_byte is_utf8 chars end_point newline_count rows last_row serde_json_on_literals
one_edit = refl

pub no_line_but_the_header : response_of (Replay 2) (codes "[\"zedbuf\",1,\"ab\",[1,2]]\n")
    ≡ (status.Done, codes "replica 1: 2 bytes, 1 rows, 0 applied, 0 waiting, 0 refused\nfinal 1: \"ab\"\nreplica 2: 2 bytes, 1 rows, 0 applied, 0 waiting, 0 refused\nfinal 2: \"ab\"\n")
unfolding response_of open_histories more_report_of more_report_text report_text more_session_of_text header_read more_line_read line_read value_of line_of_value header_of_value header_of more_line_text line_text made_line refused_edit_line text_line replica_line digits escape_byte is_utf8 chars end_point newline_count rows last_row serde_json_on_literals
no_line_but_the_header = refl

pub two_replicas : response_of (Replay 2) (codes "[\"zedbuf\",1,\"\",[2,1]]\n[\"edit\",1,[[0,0,\"X\"]]]\n[\"edit\",2,[[1,1,\"Y\"]]]\n[\"edit\",2,[[0,0,\"Z\"]]]\n[\"text\",1]\n")
    ≡ (status.Done, codes "1: 2.1\n2: pastend 0 0\n3: 2.2\ntext 1: 1 bytes, end 0:1, 1 rows, \"X\"\nreplica 2: 1 bytes, 1 rows, 1 applied, 0 waiting, 0 refused\nfinal 2: \"Z\"\nreplica 1: 1 bytes, 1 rows, 1 applied, 0 waiting, 0 refused\nfinal 1: \"X\"\n")
unfolding response_of open_histories more_report_of more_report_text report_text more_session_of_text header_read more_line_read line_read value_of line_of_value header_of_value header_of more_line_text line_text made_line refused_edit_line text_line replica_line digits escape_byte is_utf8 chars end_point newline_count rows last_row serde_json_on_literals
two_replicas = refl

pub refused_edits : response_of (Replay 2) (codes "[\"zedbuf\",1,\"ab\",[9]]\n[\"edit\",9,[[2,1,\"\"]]]\n[\"edit\",9,[[0,2,\"\"],[1,1,\"x\"]]]\n[\"edit\",9,[]]\n")
    ≡ (status.Done, codes "1: reversed 0\n2: overlap 1\n3: 2.9\nreplica 9: 2 bytes, 1 rows, 1 applied, 0 waiting, 0 refused\nfinal 9: \"ab\"\n")
unfolding response_of open_histories more_report_of more_report_text report_text more_session_of_text header_read more_line_read line_read value_of line_of_value header_of_value header_of more_line_text line_text made_line refused_edit_line text_line replica_line digits escape_byte is_utf8 chars end_point newline_count rows last_row serde_json_on_literals
refused_edits = refl

pub two_rows : response_of (Replay 2) (codes "[\"zedbuf\",1,\"a\\nbc\\\"\",[1]]\n[\"text\",1]\n")
    ≡ (status.Done, codes "text 1: 5 bytes, end 1:3, 2 rows, \"a\\nbc\\\"\"\nreplica 1: 5 bytes, 2 rows, 0 applied, 0 waiting, 0 refused\nfinal 1: \"a\\nbc\\\"\"\n")
unfolding response_of open_histories more_report_of more_report_text report_text more_session_of_text header_read more_line_read line_read value_of line_of_value header_of_value header_of more_line_text line_text made_line refused_edit_line text_line replica_line digits escape_byte is_utf8 chars end_point newline_count rows last_row serde_json_on_literals
two_rows = refl

pub edits_at_one_place : response_of (Replay 2) (codes "[\"zedbuf\",1,\"ab\",[1,2]]\n[\"edit\",1,[[1,1,\"X\"]]]\n[\"edit\",2,[[1,1,\"Y\"]]]\n[\"give\",2,1]\n[\"give\",1,2]\n")
    ≡ (status.Done, codes "1: 2.1\n2: 2.2\ngive 1 to 2: applied 1\ngive 2 to 1: applied 1\nreplica 1: 4 bytes, 1 rows, 2 applied, 0 waiting, 0 refused\nfinal 1: \"aYXb\"\nreplica 2: 4 bytes, 1 rows, 2 applied, 0 waiting, 0 refused\nfinal 2: \"aYXb\"\n")
unfolding response_of open_histories more_report_of more_report_text report_text more_session_of_text header_read more_line_read line_read value_of line_of_value header_of_value header_of more_line_text line_text made_line refused_edit_line settled_line give_line text_line replica_line refused_op_line digits escape_byte is_utf8 chars end_point newline_count rows last_row serde_json_on_literals
edits_at_one_place = refl

-- a replica is opened with what it has applied: what waited is gone
pub reopened : response_of (Replay 2) (codes "[\"zedbuf\",2,\"\",[1,2]]\n[\"edit\",1,[[0,0,\"a\"]]]\n[\"edit\",1,[[1,1,\"b\"]]]\n[\"give\",2,2]\n[\"reopen\",2]\n[\"give\",2,1]\n")
    ≡ (status.Done, codes "1: 2.1\n2: 3.1\ngive 2 to 2: waits 1 2\nreopen 2: 0\ngive 1 to 2: applied 1\nreplica 1: 2 bytes, 1 rows, 2 applied, 0 waiting, 0 refused\nfinal 1: \"ab\"\nreplica 2: 1 bytes, 1 rows, 1 applied, 0 waiting, 0 refused\nfinal 2: \"a\"\n")
unfolding response_of open_histories more_report_of more_report_text report_text more_session_of_text header_read more_line_read line_read value_of line_of_value header_of_value header_of more_line_text line_text made_line refused_edit_line settled_line reopen_line give_line text_line replica_line refused_op_line digits escape_byte is_utf8 chars end_point newline_count rows last_row serde_json_on_literals
reopened = refl

pub applied_behind_an_edit : response_of (Replay 2) (codes "[\"zedbuf\",1,\"ab\",[1,2]]\n[\"op\",[3,2],[[0,1],[1,2]],[[0,0,\"q\"]]]\n[\"give\",1,1]\n[\"edit\",1,[[2,2,\"c\"]]]\n[\"text\",1]\n")
    ≡ (status.Done, codes "1: 3.2\ngive 1 to 1: waits 1 2\n2: 2.1\nsettled 1: 1\ntext 1: 4 bytes, end 0:4, 1 rows, \"qabc\"\nreplica 1: 4 bytes, 1 rows, 2 applied, 0 waiting, 0 refused\nfinal 1: \"qabc\"\nreplica 2: 2 bytes, 1 rows, 0 applied, 0 waiting, 0 refused\nfinal 2: \"ab\"\n")
unfolding response_of open_histories more_report_of more_report_text report_text more_session_of_text header_read more_line_read line_read value_of line_of_value header_of_value header_of more_line_text line_text made_line refused_edit_line settled_line give_line text_line replica_line refused_op_line digits escape_byte is_utf8 chars end_point newline_count rows last_row serde_json_on_literals
applied_behind_an_edit = refl

pub refused_while_settling : response_of (Replay 2) (codes "[\"zedbuf\",1,\"ab\",[1,2]]\n[\"op\",[3,2],[[0,1],[3,2]],[[9,9,\"q\"]]]\n[\"give\",1,1]\n[\"op\",[2,3],[[0,1]],[]]\n[\"give\",1,2]\n")
    ≡ (status.Done, codes "1: 3.2\ngive 1 to 1: waits 3 2\n2: 2.3\ngive 2 to 1: applied 1\nreplica 1: 2 bytes, 1 rows, 1 applied, 0 waiting, 1 refused\nrefused 1: 3.2 pastend 0 2\nfinal 1: \"ab\"\nreplica 2: 2 bytes, 1 rows, 0 applied, 0 waiting, 0 refused\nfinal 2: \"ab\"\n")
unfolding response_of open_histories more_report_of more_report_text report_text more_session_of_text header_read more_line_read line_read value_of line_of_value header_of_value header_of more_line_text line_text made_line refused_edit_line settled_line give_line text_line replica_line refused_op_line digits escape_byte is_utf8 chars end_point newline_count rows last_row serde_json_on_literals
refused_while_settling = refl

-- two undos of one edit that have not seen each other, and a redo
pub undos_count_once : response_of (Replay 2) (codes "[\"zedbuf\",1,\"ab\",[1,2]]\n[\"edit\",1,[[1,1,\"X\"]]]\n[\"give\",2,1]\n[\"undo\",1,[1]]\n[\"undo\",2,[1]]\n[\"give\",1,3]\n[\"text\",1]\n[\"undo\",1,[1]]\n")
    ≡ (status.Done, codes "1: 2.1\ngive 1 to 2: applied 1\n2: 3.1\n3: 3.2\ngive 3 to 1: applied 1\ntext 1: 2 bytes, end 0:2, 1 rows, \"ab\"\n4: 5.1\nreplica 1: 3 bytes, 1 rows, 4 applied, 0 waiting, 0 refused\nfinal 1: \"aXb\"\nreplica 2: 2 bytes, 1 rows, 2 applied, 0 waiting, 0 refused\nfinal 2: \"ab\"\n")
unfolding response_of open_histories more_report_of more_report_text report_text more_session_of_text header_read more_line_read line_read value_of line_of_value header_of_value header_of more_line_text line_text made_line refused_edit_line refused_undo_line unnamed_line settled_line give_line text_line replica_line refused_op_line digits escape_byte is_utf8 chars end_point newline_count rows last_row serde_json_on_literals
undos_count_once = refl

pub refused_undos : response_of (Replay 2) (codes "[\"zedbuf\",1,\"ab\",[1,2]]\n[\"edit\",1,[[1,1,\"X\"]]]\n[\"undo\",2,[1]]\n[\"undo\",1,[1,1]]\n[\"undo\",1,[1,1,2]]\n[\"uop\",[3,2],[[0,1],[1,2]],[[2,1,4294967295]]]\n[\"give\",1,5]\n[\"undo\",1,[1]]\n")
    ≡ (status.Done, codes "1: 2.1\n2: nosuchedit 2.1\n3: twice 2.1\n4: nothing 2\n5: 3.2\ngive 5 to 1: applied 1\n6: countend 2.1\nreplica 1: 2 bytes, 1 rows, 2 applied, 0 waiting, 0 refused\nfinal 1: \"ab\"\nreplica 2: 2 bytes, 1 rows, 0 applied, 0 waiting, 0 refused\nfinal 2: \"ab\"\n")
unfolding response_of open_histories more_report_of more_report_text report_text more_session_of_text header_read more_line_read line_read value_of line_of_value header_of_value header_of more_line_text line_text made_line refused_edit_line refused_undo_line unnamed_line settled_line give_line text_line replica_line refused_op_line digits escape_byte is_utf8 chars end_point newline_count rows last_row serde_json_on_literals
refused_undos = refl

-- queries before an edit and behind it, in an order of their own behind the events
pub queries_in_order : response_of (Replay 2) (codes "[\"zedbuf\",1,\"ab\",[1]]\n[\"find\",1,\"a\"]\n[\"edit\",1,[[2,2,\"a\"]]]\n[\"find\",1,\"a\"]\n[\"find\",1,\"c\"]\n[\"find\",1,\"\"]\n")
    ≡ (status.Done, codes "1: 2.1\nfind 1 at 0: 0\nfind 2 at 1: 0 2\nfind 3 at 1: none\nfind 4 at 1: empty needle\nreplica 1: 3 bytes, 1 rows, 1 applied, 0 waiting, 0 refused\nfinal 1: \"aba\"\n")
unfolding response_of open_histories more_report_of more_report_text report_text more_session_of_text header_read more_line_read line_read value_of line_of_value header_of_value header_of more_line_text line_text made_line query_line text_line replica_line digits escape_byte is_utf8 chars starts end_point newline_count rows last_row serde_json_on_literals
queries_in_order = refl

pub places_of_queries : response_of (Replay 0) (codes "[\"zedbuf\",1,\"a\\nbc\",[1]]\n[\"point\",1,3]\n[\"point\",1,5]\n[\"offset\",1,1,1]\n[\"offset\",1,0,9]\n")
    ≡ (status.Done, codes "point 1 at 0: 1:1 3 1:1\npoint 2 at 0: none 4 4\noffset 3 at 0: 3\noffset 4 at 0: none 0:1 0:1\nreplica 1: 4 bytes, 2 rows, 0 applied, 0 waiting, 0 refused\nfinal 1: \"a\\nbc\"\n")
unfolding response_of open_histories more_report_of more_report_text report_text more_session_of_text header_read more_line_read line_read value_of line_of_value header_of_value header_of more_line_text line_text query_line text_line replica_line digits escape_byte is_utf8 chars places end_place utf16_count newline_count rows last_row end_point serde_json_on_literals
places_of_queries = refl

pub counted : response_of Check (codes "[\"zedbuf\",1,\"ab\",[1,2]]\n[\"edit\",1,[[1,1,\"X\"]]]\n[\"edit\",2,[[1,1,\"Y\"]]]\n[\"give\",2,1]\n[\"give\",1,2]\n") ≡ (status.Done, codes "session ok: 5 lines, 2 replicas, 2 operations, 0 queries\n")
unfolding response_of more_session_of_text header_read more_line_read line_read value_of line_of_value header_of_value header_of more_line_text line_text checked_line digits is_utf8 chars serde_json_on_literals
counted = refl

pub anchors_of_two_replicas : response_of (Replay 0) (codes "[\"zedbuf\",1,\"ab\",[1,2]]\n[\"anchor\",1,\"l\",1,\"left\"]\n[\"anchor\",1,\"r\",1,\"right\"]\n[\"edit\",1,[[1,1,\"X\"]]]\n[\"where\",1,\"l\"]\n[\"where\",1,\"r\"]\n[\"where\",2,\"r\"]\n")
    ≡ (status.Done, codes "anchor \"l\": set\nanchor \"r\": set\n1: 2.1\nwhere \"l\" at 1: 1\nwhere \"r\" at 1: 2\nwhere \"r\" at 2: 1\nreplica 1: 3 bytes, 1 rows, 1 applied, 0 waiting, 0 refused\nfinal 1: \"aXb\"\nreplica 2: 2 bytes, 1 rows, 0 applied, 0 waiting, 0 refused\nfinal 2: \"ab\"\n")
unfolding response_of open_histories left_anchor right_anchor is_known place more_report_of more_report_text report_text more_session_of_text header_read more_line_read line_read value_of line_of_value header_of_value header_of more_line_text line_text made_line anchor_line where_line text_line replica_line digits escape_byte is_utf8 chars end_point newline_count rows last_row serde_json_on_literals
anchors_of_two_replicas = refl

pub a_refused_anchor : response_of (Replay 0) (codes "[\"zedbuf\",1,\"ab\",[1]]\n[\"anchor\",1,\"p\",3,\"left\"]\n[\"where\",1,\"p\"]\n[\"anchor\",1,\"p\",0,\"left\"]\n[\"anchor\",1,\"p\",3,\"left\"]\n[\"where\",1,\"p\"]\n")
    ≡ (status.Done, codes "anchor \"p\": pastend 2\nwhere \"p\" at 1: nothing\nanchor \"p\": set\nanchor \"p\": pastend 2\nwhere \"p\" at 1: 0\nreplica 1: 2 bytes, 1 rows, 0 applied, 0 waiting, 0 refused\nfinal 1: \"ab\"\n")
unfolding response_of open_histories left_anchor right_anchor is_known place more_report_of more_report_text report_text more_session_of_text header_read more_line_read line_read value_of line_of_value header_of_value header_of more_line_text line_text anchor_line where_line text_line replica_line digits escape_byte is_utf8 chars end_point newline_count rows last_row serde_json_on_literals
a_refused_anchor = refl

pub marks_of_two_replicas : response_of (Replay 0) (codes "[\"zedbuf\",1,\"ab\",[1,2]]\n[\"mark\",1,\"m\"]\n[\"edit\",1,[[1,1,\"X\"]]]\n[\"edit\",1,[[2,3,\"\"]]]\n[\"since\",1,\"m\"]\n[\"mark\",1,\"n\"]\n[\"since\",2,\"n\"]\n")
    ≡ (status.Done, codes "mark \"m\": set\n1: 2.1\n2: 3.1\nsince \"m\" at 1: 1..2 -> 1..2\nmark \"n\": set\nsince \"n\" at 2: unseen 1\nreplica 1: 2 bytes, 1 rows, 2 applied, 0 waiting, 0 refused\nfinal 1: \"aX\"\nreplica 2: 2 bytes, 1 rows, 0 applied, 0 waiting, 0 refused\nfinal 2: \"ab\"\n")
unfolding response_of open_histories since more_report_of more_report_text report_text more_session_of_text header_read more_line_read line_read value_of line_of_value header_of_value header_of more_line_text line_text made_line mark_line since_line text_line replica_line digits escape_byte is_utf8 chars end_point newline_count rows last_row serde_json_on_literals
marks_of_two_replicas = refl

-- in the second version each CR LF and each other CR enters as one LF, and an operation with a CR is refused
pub returns_enter_as_line_feeds : response_of (Replay 2) (codes "[\"zedbuf\",2,\"a\\r\\nb\\rc\",[1,2]]\n[\"edit\",1,[[5,5,\"\\r\"]]]\n[\"op\",[3,2],[[0,1]],[[0,0,\"\\r\"]]]\n[\"give\",1,2]\n[\"text\",1]\n")
    ≡ (status.Done, codes "1: 2.1\n2: 3.2\ngive 2 to 1: carriage 0\ntext 1: 6 bytes, end 3:0, 4 rows, \"a\\nb\\nc\\n\"\nreplica 1: 6 bytes, 4 rows, 1 applied, 0 waiting, 0 refused\nfinal 1: \"a\\nb\\nc\\n\"\nreplica 2: 5 bytes, 3 rows, 0 applied, 0 waiting, 0 refused\nfinal 2: \"a\\nb\\nc\"\n")
unfolding response_of open_histories more_report_of more_report_text report_text more_session_of_text header_read more_line_read line_read value_of line_of_value header_of_value header_of more_line_text line_text made_line refused_edit_line settled_line give_line text_line replica_line refused_op_line digits escape_byte is_utf8 chars end_point newline_count rows last_row serde_json_on_literals
returns_enter_as_line_feeds = refl

-- and in the first they stay
pub returns_stay : response_of (Replay 2) (codes "[\"zedbuf\",1,\"a\\r\\nb\\rc\",[1,2]]\n[\"edit\",1,[[5,5,\"\\r\"]]]\n[\"op\",[3,2],[[0,1]],[[0,0,\"\\r\"]]]\n[\"give\",1,2]\n[\"text\",1]\n")
    ≡ (status.Done, codes "1: 2.1\n2: 3.2\ngive 2 to 1: applied 1\ntext 1: 8 bytes, end 1:4, 2 rows, \"\\ra\\r\\nb\\r\\rc\"\nreplica 1: 8 bytes, 2 rows, 2 applied, 0 waiting, 0 refused\nfinal 1: \"\\ra\\r\\nb\\r\\rc\"\nreplica 2: 6 bytes, 2 rows, 0 applied, 0 waiting, 0 refused\nfinal 2: \"a\\r\\nb\\rc\"\n")
unfolding response_of open_histories more_report_of more_report_text report_text more_session_of_text header_read more_line_read line_read value_of line_of_value header_of_value header_of more_line_text line_text made_line refused_edit_line settled_line give_line text_line replica_line refused_op_line digits escape_byte is_utf8 chars end_point newline_count rows last_row serde_json_on_literals
returns_stay = refl

-- ---- what is no session

pub no_line : response_of (Replay 2) (codes "") ≡ (status.Session, codes "session line 1: header\n")
unfolding response_of more_session_of_text header_read more_line_read line_read value_of line_of_value header_of_value header_of bad_line digits is_utf8 chars serde_json_on_literals
no_line = refl

pub no_bracket : response_of (Replay 2) (codes "[\"zedbuf\",1,\"ab\",[1]]\n[\"text\",1]\n[\"text\",1\n") ≡ (status.Session, codes "session line 3: json\n")
unfolding response_of more_session_of_text header_read more_line_read line_read value_of line_of_value header_of_value header_of bad_line digits is_utf8 chars serde_json_on_literals
no_bracket = refl

pub another_replica : response_of (Replay 2) (codes "[\"zedbuf\",1,\"ab\",[1,2]]\n[\"text\",3]\n") ≡ (status.Session, codes "session line 2: replica\n")
unfolding response_of more_session_of_text header_read more_line_read line_read value_of line_of_value header_of_value header_of bad_line digits is_utf8 chars serde_json_on_literals
another_replica = refl

-- ---- records

pub an_edit_is_packed : response_of Pack (codes "[\"zedbuf\",1,\"ab\",[1]]\n[\"edit\",1,[[1,1,\"X\"]]]\n")
    ≡ (status.Done, 1 ∷ 0 ∷ 0 ∷ 0 ∷ 2 ∷ 0 ∷ 1 ∷ 0 ∷ 0 ∷ 0 ∷ 1 ∷ 0 ∷ 0 ∷ 0 ∷ 0 ∷ 0 ∷ 1 ∷ 0 ∷ 0 ∷ 0 ∷ 1 ∷ 0 ∷ 0 ∷ 0 ∷ 0 ∷ 0 ∷ 0 ∷ 0 ∷ 1 ∷ 0 ∷ 0 ∷ 0 ∷ 0 ∷ 0 ∷ 0 ∷ 0 ∷ 1 ∷ 0 ∷ 0 ∷ 0 ∷ 1 ∷ 88 ∷ [])
unfolding response_of records_of open_histories more_session_of_text header_read more_line_read line_read value_of line_of_value header_of_value header_of is_utf8 chars serde_json_on_literals
an_edit_is_packed = refl

pub another_kind : response_of Unpack (3 ∷ []) ≡ (status.Session, codes "record at 0: kind\n")
unfolding response_of lines_of_stream operations_of record_at fault_line digits
another_kind = refl

pub no_records : response_of Unpack [] ≡ (status.Done, [])
unfolding response_of lines_of_stream operations_of
no_records = refl
