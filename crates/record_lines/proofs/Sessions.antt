-- The lines of operations are a session after a header.
use Rattle.std.proofs.Common.{◌≡◌, ℕ, ◌+◌, Bool, false, cond, List, [], ◌∷◌, ◌++◌, append_assoc, append-nil, length, map, Ok, Err, refl, sym, ap, ◌∙◌, arith}
use Rattle.std.specs.List.{AllByRecursion}
use Rattle.std.specs.Prelude.{codes, nat_lt}
use Rattle.std.proofs.lemmas.Bool.{le-ltb}
use Rattle.op_model.specs.declared.operation.Operation.{Operation}
use Rattle.op_model.specs.declared.operation.Operation.TheVariants.{Edit, Undo}
use Rattle.op_wire.specs.Spelling.{HasSpelling}
use Rattle.session_lines.specs.Cut.{lines_of}
use Rattle.session_lines.specs.Session.{form_or_word, line_of, line_or_word, lines_limit, rest_of, session_of, session_of_text, then_from, unless, with_header, word_of}
use Rattle.session_lines.specs.declared.fault.DecodeFault.TheVariants.{Lines}
use Rattle.session_lines.specs.declared.header.Header.{Header}
use Rattle.session_lines.specs.declared.session.SessionLine.{SessionLine}
use Rattle.session_writer.proofs.CutLines.{cut_text}
use Rattle.record_lines.specs.Lines.{operation_lines, operation_text, session_line}
use Rattle.record_lines.specs.Laws.{LinesAreSession}
use Rattle.record_lines.proofs.Returned.{line_back}
use Rattle.record_lines.proofs.Values.{operation_back, operation_one_line}

nothing_wrong : (header : Header) (before : List SessionLine) (op : Operation) → unless (session_line op) (word_of false header before (session_line op)) ≡ Ok (session_line op)
nothing_wrong header before (Edit e) = refl
nothing_wrong header before (Undo u) = refl

line_is : (header : Header) (before : List SessionLine) (op : Operation) → HasSpelling op → line_of false header before (operation_text op) ≡ Ok (session_line op)
unfolding line_of
line_is header before op h =
    ap (line_or_word false header before) (operation_back op h) ∙ (ap (form_or_word false header before) (line_back header.version op h) ∙ nothing_wrong header before op)

rest_is : (header : Header) (before : List SessionLine) (ops : List Operation) → AllByRecursion HasSpelling ops → rest_of false header before (map operation_text ops) ≡ Ok (before ++ map session_line ops)
rest_is header before [] h = ap Ok (sym (append-nil before))
rest_is header before (op ∷ ops) h =
    ap (λ o. then_from (2 + length before) o (λ x. rest_of false header (before ++ x ∷ []) (map operation_text ops))) (line_is header before op h.0)
    ∙ (rest_is header (before ++ session_line op ∷ []) ops h.1 ∙ ap Ok (append_assoc before (session_line op ∷ []) (map session_line ops)))

lines_cut : (ops : List Operation) → AllByRecursion HasSpelling ops → lines_of (operation_lines ops) ≡ map operation_text ops
lines_cut [] h = refl
lines_cut (op ∷ ops) h = cut_text (operation_text op) (operation_lines ops) (operation_one_line op h.0) ∙ ap (λ (ls : List (List ℕ)). operation_text op ∷ ls) (lines_cut ops h.1)

length-texts : (ops : List Operation) → length (map operation_text ops) ≡ length ops
length-texts [] = refl
length-texts (op ∷ ops) = omega (arith, length-texts ops)

pub lines_are_session : LinesAreSession
unfolding session_of_text
lines_are_session line header ops one is each few =
    let texts : List (List ℕ) = map operation_text ops in
    let lines : lines_of (line ++ (codes "\n" ++ operation_lines ops)) ≡ line ∷ texts =
    ap lines_of (sym (append_assoc line (codes "\n") (operation_lines ops))) ∙ (cut_text line (operation_lines ops) one ∙ ap (λ (ls : List (List ℕ)). line ∷ ls) (lines_cut ops each)) in
    ap (λ ls. cond (nat_lt lines_limit (length ls)) (Err (Lines (length ls))) (session_of false ls)) lines
    ∙ (ap (λ (t : Bool). cond t (Err (Lines (length (line ∷ texts)))) (session_of false (line ∷ texts))) (le-ltb lines_limit (length (line ∷ texts)) (omega (arith, length-texts ops, few)))
    ∙ (ap (λ o. then_from 1 o (λ h. with_header h (rest_of false h [] texts))) is ∙ ap (with_header header) (rest_is header [] ops each)))
