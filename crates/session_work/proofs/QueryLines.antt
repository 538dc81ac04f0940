-- Queries, which are answered one after another.
use Rattle.std.proofs.Common.{◌≡◌, ℕ, ◌+◌, List, [], ◌∷◌, ◌++◌, length, map, Option, None, Some, sym, ap, ◌∙◌, arith, append_assoc, append-nil}
use Rattle.std.specs.Option.{option_map}
use Rattle.std.proofs.lemmas.List.{length-append, length-map, map-append}
use Rattle.op_model.specs.declared.operation.Operation.{Operation}
use Rattle.op_model.specs.Shown.{text}
use Rattle.text_buffer.specs.Buffer.{BufferState}
use Rattle.session_lines.specs.declared.report.Report.{Report}
use Rattle.session_more.specs.declared.session.MoreLine.{MoreLine}
use Rattle.session_work.specs.MoreQueries.{more_queries_from, more_query_at}
use Rattle.session_work.specs.MoreWork.{MoreState, more_step}
use Rattle.session_work.specs.Work.{applied_count}
use Rattle.session_work.specs.declared.queries.Question.{Question}
use Rattle.session_work.specs.Queries.{AskedQuery, answer_line, plain_line, query_of}

abbrev pub history : BufferState → List Operation
history b = b.history

-- ---- one query

-- the replica is there, and its line is made of what it is
pub asked : (q r : ℕ) (ask : Question) (o : Option BufferState) (h : List Operation) (line : Report) → Some h ≡ option_map history o → line ≡ answer_line q (applied_count h) ask (text h)
    → line ∷ [] ≡ map plain_line (query_of q r ask o)
asked q r ask None h line e f = absurd (cc e)
asked q r ask (Some b) h line e f = let same : h ≡ b.history = cc e in ap (λ (x : Report). x ∷ []) (f ∙ ap (λ (k : List Operation). answer_line q (applied_count k) ask (text k)) same)

-- ---- one line more

abbrev pub answers_of : ℕ → List MoreLine → MoreState → List Report
answers_of q ls s = map plain_line (more_queries_from q ls s)

pub more_answers : (left : List MoreLine) (l : MoreLine) (rest : List MoreLine) (s t : MoreState) → left ≡ l ∷ rest → t ≡ more_step l s → (old new all : List Report)
    → old ++ answers_of (length old + 1) left s ≡ all → new ≡ old ++ map plain_line (more_query_at (length old + 1) l s) → new ++ answers_of (length new + 1) rest t ≡ all
more_answers left l rest s t begins is old new all e n =
    let cs : List AskedQuery = more_query_at (length old + 1) l s in
    let count : length new + 1 ≡ length old + 1 + length cs = omega (arith, ap (λ (rs : List Report). length rs) n, length-append old (map plain_line cs), length-map cs plain_line) in
    let qs : List AskedQuery = more_queries_from (length old + 1 + length cs) rest (more_step l s) in
    ap (λ (k : ℕ). new ++ answers_of k rest t) count ∙ ap (λ (u : MoreState). new ++ answers_of (length old + 1 + length cs) rest u) is
    ∙ ap (λ (rs : List Report). rs ++ map plain_line qs) n ∙ append_assoc old (map plain_line cs) (map plain_line qs)
    ∙ ap (λ (rs : List Report). old ++ rs) (sym (map-append plain_line cs qs))
    ∙ ap (λ (ls : List MoreLine). old ++ answers_of (length old + 1) ls s) (sym begins) ∙ e

-- no line is left
pub answers_done : (left : List MoreLine) (s : MoreState) (old all : List Report) → left ≡ [] → old ++ answers_of (length old + 1) left s ≡ all → old ≡ all
answers_done left s old all none e = sym (append-nil old) ∙ ap (λ (ls : List MoreLine). old ++ answers_of (length old + 1) ls s) (sym none) ∙ e
