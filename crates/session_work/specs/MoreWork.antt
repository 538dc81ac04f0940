-- What the lines of a session report and do, those of further kinds among them.
use Rattle.std.specs.Prelude.{ℕ, ◌<◌, ◌==◌, List, [], ◌∷◌, ◌++◌, length, map, Option, option_and_then, option_map}
use Rattle.std.specs.List.{position}
use Rattle.std.specs.Option.{option_map_or, option_to_list}
use Rattle.op_model.specs.Histories.{History}
use Rattle.op_model.specs.declared.operation.Piece.{Piece}
use Rattle.text_buffer.specs.Buffer.{BufferState}
use Rattle.session_excerpts.specs.Lines.{after_excerpt, after_sync_of, excerpt_report, medit_split, multi_report}
use Rattle.session_excerpts.specs.State.{Multis}
use Rattle.session_excerpts.specs.declared.answers.SplitAnswer.{SplitAnswer}
use Rattle.session_folds.specs.Lines.{after_fold_line, after_sync, after_unfold_line, display_report, fold_report, folded_report, unfold_report}
use Rattle.session_folds.specs.State.{ReplicaFolds, opening_folds}
use Rattle.session_lines.specs.Session.{IsSession, lines_limit}
use Rattle.session_more.specs.Decoding.{headed}
use Rattle.session_more.specs.declared.report.MoreReport.{MoreReport}
use Rattle.session_more.specs.declared.report.MoreReport.TheVariants as report
use Rattle.session_more.specs.declared.session.MoreLine.{MoreLine}
use Rattle.session_more.specs.declared.session.MoreLine.TheVariants as line
use Rattle.session_more.specs.declared.session.MoreSession.{MoreSession}
use Rattle.session_selections.specs.Lines.{after_select, after_share, select_report, selected_report, share_report}
use Rattle.session_selections.specs.State.{SelectionWork, opening_selections}
use Rattle.session_work.specs.Parts.{medit_answer, parts_of, settled_from, with_parts}
use Rattle.session_work.specs.Work.{State, events, histories, history_at, next_number, opening, session_limit, step}

-- a session as far as it was worked
pub record MoreState : Type 0 where
  -- what its lines of `session_lines` came to
  pub plain : State
  -- what its replicas have selected, which none of these lines changes
  pub selections : SelectionWork
  -- what its replicas have folded, likewise
  pub folds : List ReplicaFolds
  -- the excerpts under names, likewise
  pub excerpts : Multis

-- ---- excerpts

-- the index of replica r in the header
abbrev pub index_of : ℕ → List BufferState → Option ℕ
index_of r bs = position (λ b. b.replica == r) bs

-- what an edit of the excerpts under the name is for the replicas
abbrev pub split_at : List ℕ → List Piece → MoreState → Option SplitAnswer
split_at name ps s = medit_split name ps (histories s.plain.buffers) s.excerpts

-- what is reported of it: the line, and after it what settling reports
abbrev pub medit_events : List ℕ → Option SplitAnswer → State → List MoreReport
medit_events name o s =
    option_to_list (option_map (report.Medit name) (medit_answer (next_number s) o s.buffers))
    ++ map report.Plain (settled_from 0 (parts_of o) s.buffers)

-- ---- a line

-- what the line reports as an event; a line of `session_lines` reports what it does without lines of further kinds, and a line of
-- selections or of folds is about the text that the buffer of its replica has, one of excerpts about those of all buffers
abbrev pub more_events : MoreLine → MoreState → List MoreReport
more_events (line.Plain l) s = map report.Plain (events l s.plain)
more_events (line.Select r name rs) s =
    option_to_list (option_and_then (λ h. select_report r name rs h s.selections) (history_at r s.plain))
more_events (line.Share r name) s = option_to_list (share_report r name s.selections)
more_events (line.Selected r a) s =
    option_to_list (option_and_then (λ h. selected_report r a h s.selections) (history_at r s.plain))
more_events (line.Fold r start end) s =
    option_to_list (option_and_then (λ h. fold_report r start end h s.folds) (history_at r s.plain))
more_events (line.Unfold r start end) s =
    option_to_list (option_and_then (λ h. unfold_report r start end h s.folds) (history_at r s.plain))
more_events (line.Folded r) s =
    option_to_list (option_and_then (λ h. folded_report r h s.folds) (history_at r s.plain))
more_events (line.Display r o) s =
    option_to_list (option_and_then (λ h. display_report r o h s.folds) (history_at r s.plain))
more_events (line.Excerpt name r start end) s = option_to_list (option_and_then
    (λ i. excerpt_report name i start end (histories s.plain.buffers) s.excerpts)
    (index_of r s.plain.buffers))
more_events (line.Multi name) s = option_to_list (multi_report name (histories s.plain.buffers) s.excerpts)
more_events (line.Medit name ps) s = medit_events name (split_at name ps s) s.plain

-- the session after g was done to its folds with the text of replica r
abbrev pub with_folds_at : ℕ → (History → List ReplicaFolds → List ReplicaFolds) → MoreState → MoreState
with_folds_at r g s = record s { folds = option_map_or (λ h. g h s.folds) (history_at r s.plain) s.folds }

-- the session after the line
abbrev pub more_step : MoreLine → MoreState → MoreState
more_step (line.Plain l) s = record s { plain = step l s.plain }
more_step (line.Select r name rs) s = record s {
  selections = option_map_or (λ h. after_select r name rs h s.selections) (history_at r s.plain) s.selections;
}
more_step (line.Share r name) s = record s { selections = after_share r name s.selections }
more_step (line.Selected r a) s = s
more_step (line.Fold r start end) s = with_folds_at r (after_fold_line r start end) s
more_step (line.Unfold r start end) s = with_folds_at r (after_unfold_line r start end) s
more_step (line.Folded r) s = with_folds_at r (after_sync r) s
more_step (line.Display r o) s = with_folds_at r (after_sync r) s
more_step (line.Excerpt name r start end) s = record s {
  excerpts = option_map_or (λ i. after_excerpt name i start end (histories s.plain.buffers) s.excerpts)
      (index_of r s.plain.buffers) s.excerpts;
}
more_step (line.Multi name) s =
    record s { excerpts = after_sync_of name (histories s.plain.buffers) s.excerpts }
more_step (line.Medit name ps) s = record s {
  plain = with_parts (parts_of (split_at name ps s)) s.plain;
  excerpts = after_sync_of name (histories s.plain.buffers) s.excerpts;
}

-- ---- all lines

abbrev pub all_more_events : List MoreLine → MoreState → List MoreReport
all_more_events [] s = []
all_more_events (l ∷ ls) s = more_events l s ++ all_more_events ls (more_step l s)

abbrev pub after_all_more : List MoreLine → MoreState → MoreState
after_all_more [] s = s
after_all_more (l ∷ ls) s = after_all_more ls (more_step l s)

-- the session before its first line
abbrev pub more_opening : MoreSession → MoreState
more_opening s = record {
  plain = opening (headed s);
  selections = opening_selections s.replicas;
  folds = opening_folds s.replicas;
  excerpts = [];
}

-- what every session is like that was read
pub record IsMoreSession (s : MoreSession) : Type 0 where
  pub header : IsSession session_limit (headed s)
  pub few : length s.lines < lines_limit
