-- What the lines of a session report that concern selections, and what they do. A replica that is not there reports nothing, and
-- no session has a line of one.
use Rattle.std.specs.Prelude.{ℕ, List, Option, option_and_then, option_map}
use Rattle.std.specs.Result.{result_ok}
use Rattle.op_model.specs.Histories.{History}
use Rattle.selections.specs.Places.{places_of}
use Rattle.selections.specs.Sets.{SelectionState, kept_for}
use Rattle.session_more.specs.declared.report.MoreReport.{MoreReport}
use Rattle.session_more.specs.declared.report.MoreReport.TheVariants as report
use Rattle.session_selections.specs.Answers.{after_set, after_take, select_answer, selected_answer, set_outcome, share_answer}
use Rattle.session_selections.specs.Names.{under, with_name}
use Rattle.session_selections.specs.State.{SelectionWork, sets_of, with_sets}

-- ---- replica r selects ranges of its text, that of h; the operation, if one is made, is kept under the name

abbrev pub select_report : ℕ → List ℕ → List (ℕ × ℕ) → History → SelectionWork → Option MoreReport
select_report r name rs h w =
    option_map (report.Select name) (option_and_then (λ s. select_answer (set_outcome s h rs)) (sets_of r w.sets))

-- all sets after it
abbrev pub sets_after_select : ℕ → List (ℕ × ℕ) → History → List SelectionState → List SelectionState
sets_after_select r rs h ss = with_sets r (λ s. after_set (set_outcome s h rs) s) ss

abbrev pub after_select : ℕ → List ℕ → List (ℕ × ℕ) → History → SelectionWork → SelectionWork
after_select r name rs h w = record {
  sets = sets_after_select r rs h w.sets;
  selects = with_name name (option_and_then (λ s. result_ok (set_outcome s h rs)) (sets_of r w.sets)) w.selects;
}

-- ---- replica r takes the operation that is kept under the name, or nothing where none is

abbrev pub share_report : ℕ → List ℕ → SelectionWork → Option MoreReport
share_report r name w =
    option_map (report.Share name r) (option_and_then (share_answer (under name w.selects)) (sets_of r w.sets))

abbrev pub after_share : ℕ → List ℕ → SelectionWork → SelectionWork
after_share r name w = record w { sets = with_sets r (after_take (under name w.selects)) w.sets }

-- ---- where the selections that replica r has of author a are in its text, that of h; nothing changes

abbrev pub selected_report : ℕ → ℕ → History → SelectionWork → Option MoreReport
selected_report r a h w =
    option_map (report.Selected a r)
    (option_and_then (λ s. selected_answer (places_of h (kept_for a s))) (sets_of r w.sets))
