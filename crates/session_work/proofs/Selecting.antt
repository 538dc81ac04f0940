-- What a line reports of selections, and what it leaves.
use Rattle.std.proofs.Common.{◌≡◌, ℕ, ◌++◌, List, None, Option, Some, ap, ◌∙◌}
use Rattle.std.specs.Prelude.{option_and_then}
use Rattle.std.specs.Option.{option_map_or, option_to_list}
use Rattle.op_model.specs.Histories.{History}
use Rattle.session_more.specs.Reports.{more_report_text}
use Rattle.session_more.specs.declared.report.MoreReport.{MoreReport}
use Rattle.session_selections.specs.State.{SelectionWork}
use Rattle.session_work.specs.MoreWork.{MoreState}
use Rattle.session_work.proofs.MoreReports.{nothing_written}

-- what a call returned is reported
pub returned : (r q : Option MoreReport) (out new : List ℕ) → r ≡ q → new ≡ out ++ more_report_text (option_to_list r) → new ≡ out ++ more_report_text (option_to_list q)
returned r q out new e n = n ∙ ap (λ (r : Option MoreReport). out ++ more_report_text (option_to_list r)) e

-- the replica is there, with what it has applied or with its index
pub heard : {A : Type 0} (f : A → Option MoreReport) (o : Option A) (h : A) (r : Option MoreReport) (out new : List ℕ) → Some h ≡ o → r ≡ f h → new ≡ out ++ more_report_text (option_to_list r)
    → new ≡ out ++ more_report_text (option_to_list (option_and_then f o))
heard f o h r out new e is n = returned r (option_and_then f o) out new (is ∙ ap (option_and_then f) e) n

-- it is not there, and nothing is written
pub unheard : {A : Type 0} (f : A → Option MoreReport) (o : Option A) (out : List ℕ) → None ≡ o → out ≡ out ++ more_report_text (option_to_list (option_and_then f o))
unheard f o out e = nothing_written out ∙ ap (λ o. out ++ more_report_text (option_to_list (option_and_then f o))) e

-- selections after it
pub changed : (s : MoreState) (w v : SelectionWork) → w ≡ v → ◌≡◌ {A = MoreState} (record s { selections = w }) (record s { selections = v })
changed s w v e = let with_selections : SelectionWork → MoreState = λ w. record s { selections = w } in ap with_selections e

pub selected_at : (s : MoreState) (g : History → SelectionWork) (o : Option History) (h : History) (w : SelectionWork) → Some h ≡ o → w ≡ g h
    → ◌≡◌ {A = MoreState} (record s { selections = w }) (record s { selections = option_map_or g o s.selections })
selected_at s g o h w e is = changed s w (option_map_or g o s.selections) (is ∙ ap (λ (o : Option History). option_map_or g o s.selections) e)

pub selected_nowhere : (s : MoreState) (g : History → SelectionWork) (o : Option History) → None ≡ o → ◌≡◌ {A = MoreState} s (record s { selections = option_map_or g o s.selections })
selected_nowhere s g o e = changed s s.selections (option_map_or g o s.selections) (ap (λ (o : Option History). option_map_or g o s.selections) e)
