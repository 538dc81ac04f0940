-- What the lines report and do, at the sets of the replica that is found by its id.
use Rattle.std.proofs.Common.{◌≡◌, ◌⊎◌, inl, inr, ℕ, List, get_or, set, Option, None, Some, Result, Err, option_and_then, option_map, refl, sym, ap, ◌∙◌}
use Rattle.std.specs.List.{position}
use Rattle.std.specs.Result.{result_ok}
use Rattle.std.proofs.lemmas.List.{set-get_or}
use Rattle.op_model.specs.Histories.{History}
use Rattle.selections.specs.Places.{places_of}
use Rattle.selections.specs.Sets.{SelectionState, kept_for}
use Rattle.selections.specs.declared.faults.SetFault.{SetFault}
use Rattle.selections.specs.declared.faults.SetFault.TheVariants as set_fault_of
use Rattle.selections.specs.declared.selection.SelectionOp.{SelectionOp}
use Rattle.session_more.specs.declared.report.MoreReport.TheVariants as report
use Rattle.session_more.specs.declared.report.SelectAnswer.{SelectAnswer}
use Rattle.session_more.specs.declared.report.SelectedAnswer.{SelectedAnswer}
use Rattle.session_more.specs.declared.report.ShareAnswer.{ShareAnswer}
use Rattle.session_selections.specs.Answers.{after_set, after_take, select_answer, selected_answer, set_outcome, share_answer}
use Rattle.session_selections.specs.Lines.{after_select, after_share, select_report, selected_report, sets_after_select, share_report}
use Rattle.session_selections.specs.Names.{Names, under, with_name}
use Rattle.session_selections.specs.State.{SelectionWork, sets_of}
use Rattle.session_selections.proofs.Finding.{is_own, nowhere, put, there, unchanged}
use Rattle.session_selections.proofs.Outcomes.{said_is}

set-same : (ss : List SelectionState) (i : ℕ) (s : SelectionState) → s ≡ get_or ss i s → set ss i s ≡ ss
set-same ss i s e = ap (set ss i) e ∙ set-get_or ss i s

-- ---- the replica is there, with the sets s at place i

module _ (r : ℕ) (w : SelectionWork) (i : ℕ) (s : SelectionState) (at : Some i ≡ position (is_own r) w.sets) (is : s ≡ get_or w.sets i s) where
  -- ---- select: x is what the sets answered

  module _ (name : List ℕ) (rs : List (ℕ × ℕ)) (h : History) (x : Result SelectionOp SetFault) (or : (x ≡ set_outcome s h rs) ⊎ (x ≡ Err set_fault_of.OutOfMemory)) where
    -- the answer of sets
    abbrev outcome : SelectionState → Result SelectionOp SetFault
    outcome z = set_outcome z h rs

    module _ (a : SelectAnswer) (says : select_answer x ≡ Some a) where
      same : x ≡ outcome s
      same = said_is select_answer x (outcome s) set_fault_of.OutOfMemory a refl or says

      pub select-report : Some (report.Select name a) ≡ select_report r name rs h w
      select-report = ap (option_map (report.Select name)) (sym says ∙ ap select_answer same ∙ ap (option_and_then (λ (z : SelectionState). select_answer (outcome z))) (there r w.sets i s at is))

      pub select-sets : (n : SelectionState) → n ≡ after_set x s → set w.sets i n ≡ sets_after_select r rs h w.sets
      select-sets n e = put r w.sets i s at is (λ (z : SelectionState). after_set (outcome z) z) n (e ∙ ap (λ (y : Result SelectionOp SetFault). after_set y s) same)

      pub select-names : (ns : Names SelectionOp) → ns ≡ with_name name (result_ok x) w.selects → ns ≡ (after_select r name rs h w).selects
      select-names ns e =
          e ∙ ap (λ (o : Option SelectionOp). with_name name o w.selects) (ap result_ok same ∙ ap (option_and_then (λ (z : SelectionState). result_ok (outcome z))) (there r w.sets i s at is))

    -- where an allocation failed
    pub select-err : (n : SelectionState) → n ≡ after_set x s → (set w.sets i n ≡ w.sets) ⊎ (set w.sets i n ≡ sets_after_select r rs h w.sets)
    select-err n e = elim or [
      | inl same ↦ inr (put r w.sets i s at is (λ (z : SelectionState). after_set (outcome z) z) n (e ∙ ap (λ (y : Result SelectionOp SetFault). after_set y s) same))
      | inr none ↦ let kept : n ≡ s = e ∙ ap (λ (y : Result SelectionOp SetFault). after_set y s) none in inl (ap (set w.sets i) kept ∙ set-same w.sets i s is)
    ]

  -- ---- share

  pub share-report : (name : List ℕ) (o : Option SelectionOp) (a : ShareAnswer) → o ≡ under name w.selects → share_answer o s ≡ Some a → Some (report.Share name r a) ≡ share_report r name w
  share-report name o a e says =
      ap (option_map (report.Share name r))
      (sym says ∙ ap (λ (p : Option SelectionOp). share_answer p s) e ∙ ap (option_and_then (share_answer (under name w.selects))) (there r w.sets i s at is))

  pub share-sets : (name : List ℕ) (o : Option SelectionOp) (n : SelectionState) → o ≡ under name w.selects → n ≡ after_take o s → set w.sets i n ≡ (after_share r name w).sets
  share-sets name o n e new = put r w.sets i s at is (after_take (under name w.selects)) n (new ∙ ap (λ (p : Option SelectionOp). after_take p s) e)

-- ---- it is not there

module _ (r : ℕ) (w : SelectionWork) (at : None ≡ position (is_own r) w.sets) where
  pub none-selected : (name : List ℕ) (rs : List (ℕ × ℕ)) (h : History) → None ≡ select_report r name rs h w
  none-selected name rs h = ap (λ (o : Option SelectionState). option_map (report.Select name) (option_and_then (λ z. select_answer (set_outcome z h rs)) o)) (nowhere r w.sets at)

  pub none-kept : (name : List ℕ) (rs : List (ℕ × ℕ)) (h : History) → w ≡ after_select r name rs h w
  none-kept name rs h = λ i. record {
    sets = unchanged r w.sets at (λ (z : SelectionState). after_set (set_outcome z h rs) z) i;
    selects = ap (λ (o : Option SelectionState). with_name name (option_and_then (λ z. result_ok (set_outcome z h rs)) o) w.selects) (nowhere r w.sets at) i;
  }

  pub none-shared : (name : List ℕ) → None ≡ share_report r name w
  none-shared name = ap (λ (o : Option SelectionState). option_map (report.Share name r) (option_and_then (share_answer (under name w.selects)) o)) (nowhere r w.sets at)

  pub none-took : (name : List ℕ) → w ≡ after_share r name w
  none-took name = λ i. record { sets = unchanged r w.sets at (after_take (under name w.selects)) i; selects = w.selects }

-- ---- selected: o are the sets that were found

pub selected-report : (r a : ℕ) (h : History) (w : SelectionWork) (s : SelectionState) (x : SelectedAnswer) → Some s ≡ sets_of r w.sets → selected_answer (places_of h (kept_for a s)) ≡ Some x
    → Some (report.Selected a r x) ≡ selected_report r a h w
selected-report r a h w s x is says =
    ap (option_map (report.Selected a r)) (sym says ∙ ap (option_and_then (λ (z : SelectionState). selected_answer (places_of h (kept_for a z)))) is)

pub none-found : (r a : ℕ) (h : History) (w : SelectionWork) → None ≡ sets_of r w.sets → None ≡ selected_report r a h w
none-found r a h w is = ap (λ (o : Option SelectionState). option_map (report.Selected a r) (option_and_then (λ z. selected_answer (places_of h (kept_for a z))) o)) is
