-- Lines worked one after another.
use Rattle.std.proofs.Common.{◌≡◌, ℕ, ◌+◌, ◌<◌, ◌≤◌, List, [], ◌∷◌, ◌++◌, length, drop, get_or, map, Option, None, Some, MatchOption, Result, Ok, Err, OnErr, OnOk, sym, ap, subst, ◌∙◌}
use Rattle.std.specs.List.{flat_map}
use Rattle.std.proofs.lemmas.List.{drop_all, drop_more}
use Rattle.lamport_clock.specs.Versions.{Entries}
use Rattle.op_model.specs.declared.anchor.Anchor.{Anchor}
use Rattle.op_model.specs.declared.operation.Operation.{Operation}
use Rattle.text_buffer.specs.Buffer.{BufferState}
use Rattle.session_lines.specs.Report.{report_text}
use Rattle.session_lines.specs.declared.report.Report.{Report}
use Rattle.session_lines.proofs.Reports.{written, all_written, nothing_written}
use Rattle.session_more.specs.Reports.{more_report_text}
use Rattle.session_more.specs.declared.session.MoreLine.{MoreLine}
use Rattle.session_more.specs.declared.session.MoreSession.{MoreSession}
use Rattle.session_work.specs.Names.{Names}
use Rattle.session_work.specs.MoreQueries.{more_end_of, more_queries_from, more_queries_of, more_report_of, plain_end_of}
use Rattle.session_work.specs.MoreWork.{MoreState, after_all_more, all_more_events, more_events, more_opening, more_step}
use Rattle.session_work.specs.Queries.{plain_line}
use Rattle.session_work.specs.Work.{State, at_end, reports_at}
use Rattle.session_work.proofs.MoreReports as more

-- ---- one line

pub same_state : {ns : Names Anchor} {ms : Names Entries} (bs cs : List BufferState) (os ps : List (Option Operation)) → bs ≡ cs → os ≡ ps
    → ◌≡◌ {A = State} (record { buffers = bs; operations = os; anchors = ns; marks = ms }) (record { buffers = cs; operations = ps; anchors = ns; marks = ms })
same_state {ns} {ms} bs cs os ps d e =
    let by_buffers : List BufferState → State = λ bs. record { buffers = bs; operations = os; anchors = ns; marks = ms } in
    let by_operations : List (Option Operation) → State = λ os. record { buffers = cs; operations = os; anchors = ns; marks = ms } in
    ap by_buffers d ∙ ap by_operations e

-- so it is after a call that returned `Ok`
pub ok_state : {T E : Type 0} (ns : Names Anchor) (ms : Names Entries) (x : Result T E) (bs cs : List BufferState) (os ps : List (Option Operation)) → OnOk x (bs ≡ cs) → OnOk x (os ≡ ps)
    → OnOk x (◌≡◌ {A = State} (record { buffers = bs; operations = os; anchors = ns; marks = ms }) (record { buffers = cs; operations = ps; anchors = ns; marks = ms }))
ok_state ns ms (Ok v) bs cs os ps d e = same_state bs cs os ps d e
ok_state ns ms (Err v) bs cs os ps d e = tt

-- what is kept under names goes by other lists
pub same_names : (s : State) (ns ls : Names Anchor) (ms ks : Names Entries) → ns ≡ ls → ms ≡ ks → ◌≡◌ {A = State} (record s { anchors = ns; marks = ms }) (record s { anchors = ls; marks = ks })
same_names s ns ls ms ks d e =
    let by_anchors : Names Anchor → State = λ ns. record s { anchors = ns; marks = ms } in
    let by_marks : Names Entries → State = λ ms. record s { anchors = ls; marks = ms } in
    ap by_anchors d ∙ ap by_marks e

-- it is there, a buffer or what a replica has applied, and what is reported of it is written
pub one_reported : {A : Type 0} (g : A → List Report) (o : Option A) (x : A) (out new : List ℕ) → Some x ≡ o → new ≡ out ++ report_text (g x) → new ≡ out ++ report_text (reports_at g o)
one_reported g o x out new e n = n ∙ ap (λ o. out ++ report_text (reports_at g o)) e

-- it is not there, and nothing is written
pub none_reported : {A : Type 0} (g : A → List Report) (o : Option A) (out : List ℕ) → None ≡ o → out ≡ out ++ report_text (reports_at g o)
none_reported g o out e = nothing_written out ∙ ap (λ o. out ++ report_text (reports_at g o)) e

-- ---- one line more

-- what is left begins with the line that is taken out
pub taken_first : (left : List MoreLine) (o : Option (MoreLine × List MoreLine)) (p : MoreLine × List MoreLine) → MatchOption o (left ≡ []) (λ q. left ≡ q.0 ∷ q.1) → o ≡ Some p → left ≡ p.0 ∷ p.1
taken_first left o p m e = subst (λ (o : Option (MoreLine × List MoreLine)). MatchOption o (left ≡ []) (λ q. left ≡ q.0 ∷ q.1)) e m

-- nothing is left, where no line is taken out
pub none_taken : (left : List MoreLine) (o : Option (MoreLine × List MoreLine)) → MatchOption o (left ≡ []) (λ q. left ≡ q.0 ∷ q.1) → o ≡ None → left ≡ []
none_taken left o m e = subst (λ (o : Option (MoreLine × List MoreLine)). MatchOption o (left ≡ []) (λ q. left ≡ q.0 ∷ q.1)) e m

-- what holds of itself holds after a call that returned `Ok`
pub on_any : {X Y : Type 0} (r : Result X Y) (P : Type 0) → P → OnOk r P
on_any (Ok x) P p = p
on_any (Err y) P p = tt

-- what holds of itself holds after an error
pub on_err : {T E : Type 0} (r : Result T E) (P : Type 0) → P → OnErr r P
on_err (Ok v) P p = tt
on_err (Err e) P p = p

-- the next of the lines that are left
module _ (left : List MoreLine) (l : MoreLine) (rest : List MoreLine) (s t : MoreState) (begins : left ≡ l ∷ rest) (is : t ≡ more_step l s) where
  pub more_report : (out new all : List ℕ) → out ++ more_report_text (all_more_events left s) ≡ all → new ≡ out ++ more_report_text (more_events l s) → new ++ more_report_text (all_more_events rest t) ≡ all
  more_report out new all e n =
      ap (λ u. new ++ more_report_text (all_more_events rest u)) is
      ∙ more.written (more_events l s) (all_more_events rest (more_step l s)) out new all (ap (λ ls. out ++ more_report_text (all_more_events ls s)) (sym begins) ∙ e) n

  pub more_state : (all : MoreState) → after_all_more left s ≡ all → after_all_more rest t ≡ all
  more_state all e = ap (after_all_more rest) is ∙ ap (λ ls. after_all_more ls s) (sym begins) ∙ e

-- no line is left
pub lines_done : (left : List MoreLine) (s : MoreState) (out all : List ℕ) → left ≡ [] → out ++ more_report_text (all_more_events left s) ≡ all → out ≡ all
lines_done left s out all none e = more.all_written out all (ap (λ ls. out ++ more_report_text (all_more_events ls s)) (sym none) ∙ e)

-- ---- the end

pub more_ends : (bs : List BufferState) (i : ℕ) (d : BufferState) (out new all : List ℕ) → i < length bs → out ++ report_text (flat_map at_end (drop i bs)) ≡ all → new ≡ out ++ report_text (at_end (get_or bs i d))
    → new ++ report_text (flat_map at_end (drop (i + 1) bs)) ≡ all
more_ends bs i d out new all lt e n = written (at_end (get_or bs i d)) (flat_map at_end (drop (i + 1) bs)) out new all (ap (λ l. out ++ report_text (flat_map at_end l)) (sym (drop_more bs i d lt)) ∙ e) n

pub ends_done : (bs : List BufferState) (i : ℕ) (out all : List ℕ) → length bs ≤ i → out ++ report_text (flat_map at_end (drop i bs)) ≡ all → out ≡ all
ends_done bs i out all le e = all_written out all (ap (λ l. out ++ report_text (flat_map at_end l)) (sym (drop_all i bs le)) ∙ e)

module _ (s : MoreSession) (ls : List MoreLine) (first : MoreState) (l : ls ≡ s.lines) (begins : first ≡ more_opening s) where
  all_answers : (old new : List Report) → old ≡ [] → new ≡ old ++ map plain_line (more_queries_from (length old + 1) ls first) → new ≡ map plain_line (more_queries_of s)
  all_answers old new o n =
      n ∙ ap (λ (rs : List Report). rs ++ map plain_line (more_queries_from (length rs + 1) ls first)) o
      ∙ ap (λ l. map plain_line (more_queries_from 1 l first)) l ∙ ap (λ u. map plain_line (more_queries_from 1 s.lines u)) begins

  pub whole_report : (none mid new : List ℕ) (t : MoreState) (old answers : List Report) → none ≡ [] → old ≡ []
      → mid ≡ none ++ more_report_text (all_more_events ls first) → t ≡ after_all_more ls first → answers ≡ old ++ map plain_line (more_queries_from (length old + 1) ls first)
      → new ≡ (mid ++ report_text answers) ++ report_text (flat_map at_end t.plain.buffers) → new ≡ more_report_text (more_report_of s)
  unfolding more_report_of
  whole_report none mid new t old answers z0 o e f a n =
      let events : mid ≡ more_report_text (all_more_events s.lines (more_opening s)) =
      e ∙ ap (λ x. x ++ more_report_text (all_more_events ls first)) z0 ∙ ap (λ l. more_report_text (all_more_events l first)) l ∙ ap (λ u. more_report_text (all_more_events s.lines u)) begins in
      let after : t ≡ more_end_of s = f ∙ ap (λ l. after_all_more l first) l ∙ ap (after_all_more s.lines) begins in
      more.three_parts (all_more_events s.lines (more_opening s)) (map plain_line (more_queries_of s)) (flat_map at_end (plain_end_of s).buffers) mid (mid ++ report_text answers) new events
      (ap (λ (rs : List Report). mid ++ report_text rs) (all_answers old answers o a)) (n ∙ ap (λ (u : MoreState). (mid ++ report_text answers) ++ report_text (flat_map at_end u.plain.buffers)) after)
