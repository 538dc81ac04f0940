-- The value of an operation has the form of the operation's line.
use Rattle.std.proofs.Common.{◌≡◌, ℕ, suc, ◌&&◌, Bool, true, false, cond, List, [], ◌∷◌, length, map, None, Some, Ok, refl, sym, ap, ap₂, ◌∙◌, arith}
use Rattle.std.specs.Prelude.{option_and_then, option_map}
use Rattle.std.specs.List.{AllByRecursion}
use Rattle.std.proofs.lemmas.Bool.{eq-eqb, le-leb}
use Rattle.lamport_clock.specs.Clocks.{last_value}
use Rattle.lamport_clock.specs.declared.stamp.Lamport.{Lamport}
use Rattle.lamport_clock.specs.Versions.{Entries, IsVersion, IsVersionFrom, join_versions}
use Rattle.lamport_clock.proofs.Associative.{in_order}
use Rattle.op_model.specs.Choice.{first_of, when}
use Rattle.op_model.specs.declared.operation.Piece.{Piece}
use Rattle.op_model.specs.declared.operation.UndoCount.{UndoCount}
use Rattle.op_model.specs.declared.operation.Operation.{Operation}
use Rattle.op_model.specs.declared.operation.Operation.TheVariants.{Edit, Undo}
use Rattle.op_wire.specs.Spelling.{HasSpelling, IsCount, IsStamp}
use Rattle.session_lines.specs.Before.{BeforeState, form_after, line_read, returns_barred, value_after, word_after}
use Rattle.session_lines.specs.Forms.{line_of_value, op_with, uop_with}
use Rattle.session_lines.specs.Parts.{AreReadEntries, IsEntry, all_of, are_distinct, count_of_value, count_with, counts_of_value, entry_of_value, entry_with, piece_of_value, pieces_of_value, stamp_of_value, stamp_with, version_from, version_of_value, version_with}
use Rattle.session_lines.specs.Session.{brings_return, unless}
use Rattle.session_lines.specs.declared.fault.Word.TheVariants as word
use Rattle.session_lines.proofs.Lines.{list_of-items}
use Rattle.session_lines.proofs.Versions.{length_of_join}
use Rattle.record_lines.specs.Lines.{count_value, counts_value, entry_value, operation_value, piece_value, pieces_value, session_line, stamp_value, version_value}
use Rattle.record_lines.specs.Laws.{LinesAreRead}
use Rattle.record_lines.proofs.Values.{operation_back}

-- ---- stamps and versions

stamp_back : (t : Lamport) → IsStamp t → stamp_of_value (stamp_value t) ≡ Some t
stamp_back t h =
    ap₂ (λ (a b : Bool). stamp_with (cond a (Some t.value) None) (cond b (Some t.replica) None))
    (le-leb t.value last_value (omega (arith, h.0))) (le-leb t.replica 65535 (omega (arith, h.1)))

entry_back : (e : ℕ × ℕ) → IsEntry e → entry_of_value (entry_value e) ≡ Some e
entry_back e h =
    ap₂ (λ (a b : Bool). entry_with (cond a (Some e.0) None) (cond b (Some e.1) None))
    (le-leb e.0 65535 (omega (arith, h.0))) (le-leb e.1 last_value (omega (arith, h.2)))
    ∙ ap (λ (c : Bool). cond c (Some (e.0, e.1)) None) (le-leb 1 e.1 (omega (arith, h.1)))

are_read : (n : ℕ) (v : Entries) → IsVersionFrom n v → AreReadEntries v
are_read n [] h = tt
are_read n (e ∷ v) h = ((h.1, h.2, h.3), are_read (suc e.0) v h.4)

entries_back : (v : Entries) → AreReadEntries v → all_of entry_of_value (map entry_value v) ≡ Some v
entries_back [] h = refl
entries_back (e ∷ v) h = ap₂ (λ o p. option_and_then (λ x. option_map (λ xs. x ∷ xs) p) o) (entry_back e h.0) (entries_back v h.1)

-- each id of a version is there once, in order
distinct : (v : Entries) → IsVersion v → are_distinct (map (λ e. e.0) v) ≡ true
distinct v h = sym (length_of_join v (are_read 0 v h)) ∙ eq-eqb (length (join_versions [] v)) (length v) (ap length (in_order v h))

version_back : (v : Entries) → IsVersion v → version_of_value (version_value v) ≡ Some v
version_back v h =
    ap version_from (list_of-items (map entry_value v))
    ∙ (ap (option_and_then version_with) (entries_back v (are_read 0 v h))
    ∙ (ap (λ (b : Bool). cond b (Some (join_versions [] v)) None) (distinct v h) ∙ ap Some (in_order v h)))

-- ---- pieces and counts

each_piece : (ps : List Piece) → all_of piece_of_value (map piece_value ps) ≡ Some ps
each_piece [] = refl
each_piece (p ∷ ps) = ap (option_map (λ xs. p ∷ xs)) (each_piece ps)

pieces_back : (ps : List Piece) → pieces_of_value (pieces_value ps) ≡ Some ps
pieces_back ps = ap (all_of piece_of_value) (list_of-items (map piece_value ps)) ∙ each_piece ps

count_back : (c : UndoCount) → IsCount c → count_of_value (count_value c) ≡ Some c
count_back c h = ap₂ (λ o (b : Bool). count_with o (cond b (Some c.count) None)) (stamp_back c.edit h.0) (le-leb c.count last_value (omega (arith, h.1)))

each_count : (cs : List UndoCount) → AllByRecursion IsCount cs → all_of count_of_value (map count_value cs) ≡ Some cs
each_count [] h = refl
each_count (c ∷ cs) h = ap₂ (λ o p. option_and_then (λ x. option_map (λ xs. x ∷ xs) p) o) (count_back c h.0) (each_count cs h.1)

counts_back : (cs : List UndoCount) → AllByRecursion IsCount cs → counts_of_value (counts_value cs) ≡ Some cs
counts_back cs h = ap (all_of count_of_value) (list_of-items (map count_value cs)) ∙ each_count cs h

-- ---- lines

-- in a session of any version
pub line_back : (version : ℕ) (op : Operation) → HasSpelling op → line_of_value version (operation_value op) ≡ Some (session_line op)
unfolding line_of_value
line_back version (Edit e) h =
    ap (λ o. op_with o (version_of_value (version_value e.version)) (pieces_of_value (pieces_value e.pieces))) (stamp_back e.stamp h.stamp)
    ∙ ap₂ (λ o p. op_with (Some e.stamp) o p) (version_back e.version h.version) (pieces_back e.pieces)
line_back version (Undo u) h =
    ap (λ o. uop_with o (version_of_value (version_value u.version)) (counts_of_value (counts_value u.counts))) (stamp_back u.stamp h.stamp)
    ∙ ap₂ (λ o p. uop_with (Some u.stamp) o p) (version_back u.version h.version) (counts_back u.counts h.counts)

nothing_wrong : (op : Operation) (before : BeforeState) → returns_barred before ≡ false → unless (session_line op) (word_after before (session_line op)) ≡ Ok (session_line op)
nothing_wrong (Edit e) before h = ap (λ (b : Bool). unless (session_line (Edit e)) (first_of (None ∷ None ∷ None ∷ when (b && brings_return (session_line (Edit e))) word.Cr ∷ []))) h
nothing_wrong (Undo u) before h = ap (λ (b : Bool). unless (session_line (Undo u)) (first_of (None ∷ None ∷ None ∷ when (b && brings_return (session_line (Undo u))) word.Cr ∷ []))) h

pub lines_are_read : LinesAreRead
unfolding line_read
lines_are_read op before h barred =
    ap (value_after before) (operation_back op h) ∙ (ap (form_after before) (line_back before.version op h) ∙ nothing_wrong op before barred)
