-- What the lines of a session report that concern excerpts, and what they do. Each first syncs what is under its name with what
-- the replicas are now, hs in the header's order. Where nothing is under the name, only an excerpt is made, and no session has
-- another line of the name.
use Rattle.std.specs.Prelude.{ℕ, List, [], get_or, Option, option_and_then, option_map}
use Rattle.std.specs.Option.{unwrap_or}
use Rattle.op_model.specs.Histories.{History}
use Rattle.op_model.specs.declared.operation.Piece.{Piece}
use Rattle.multi_buffer.specs.State.{multi_text, new_state}
use Rattle.session_more.specs.declared.report.MoreReport.{MoreReport}
use Rattle.session_more.specs.declared.report.MoreReport.TheVariants as report
use Rattle.session_selections.specs.Names.{under}
use Rattle.session_excerpts.specs.Answers.{after_put, excerpt_answer, push_outcome, split_answer, split_outcome}
use Rattle.session_excerpts.specs.State.{Multis, put_multi, sync_all, with_multi}
use Rattle.session_excerpts.specs.declared.answers.SplitAnswer.{SplitAnswer}

-- ---- s..e of the text of replica i, counted from 0, is put as an excerpt under the name

-- what the replica has applied
abbrev pub history_at : ℕ → List History → History
history_at i hs = get_or hs i []

abbrev pub excerpt_report : List ℕ → ℕ → ℕ → ℕ → List History → Multis → Option MoreReport
excerpt_report name i s e hs w =
    option_map (report.Excerpt name)
    (excerpt_answer (push_outcome (history_at i hs) s e (sync_all hs (unwrap_or (under name w) new_state))))

abbrev pub after_excerpt : List ℕ → ℕ → ℕ → ℕ → List History → Multis → Multis
after_excerpt name i s e hs w = put_multi name (λ m. after_put i (history_at i hs) s e (sync_all hs m)) w

-- ---- the text of the excerpts under the name

abbrev pub multi_report : List ℕ → List History → Multis → Option MoreReport
multi_report name hs w = option_map (λ m. report.Multi name (multi_text (sync_all hs m))) (under name w)

-- ---- changes of that text: what they are for the replicas, which does not edit these

abbrev pub medit_split : List ℕ → List Piece → List History → Multis → Option SplitAnswer
medit_split name ps hs w = option_and_then (λ m. split_answer (split_outcome ps (sync_all hs m))) (under name w)

-- all excerpts after either of these lines
abbrev pub after_sync_of : List ℕ → List History → Multis → Multis
after_sync_of name hs w = with_multi name (sync_all hs) w
