-- Ranges that meet no fault, and what their selections are.
use Rattle.std.proofs.Common.{◌≡◌, ℕ, ◌≤◌, List, [], ◌∷◌, ◌++◌, length, map, drop, sym, ap, ◌∙◌, false, Some, None, Option}
use Rattle.std.specs.Prelude.{option_map}
use Rattle.std.specs.List.{AllByRecursion, position}
use Rattle.std.proofs.lemmas.List.{append-nil, drop_all}
use Rattle.op_model.specs.Histories.{History}
use Rattle.op_model.proofs.answers.Passed.{all_none, map_none, position_none}
use Rattle.selections.specs.declared.selection.Selection.{Selection}
use Rattle.selections.specs.declared.faults.SetFault.TheVariants.{InsideChar, PastEnd, Reversed}
use Rattle.selections.specs.Setting.{is_inside, is_past, is_reversed, range_fault, selection_of}

-- ranges without a fault are not inside characters
pub none_inside : (t : List ℕ) (rs : List (ℕ × ℕ)) → range_fault t rs ≡ None → AllByRecursion (λ r. is_inside t r ≡ false) rs
none_inside t rs e =
    let a = all_none (option_map Reversed (position is_reversed rs) ∷ option_map (λ i. PastEnd i (length t)) (position (is_past (length t)) rs) ∷ option_map InsideChar (position (is_inside t) rs) ∷ []) e in
    position_none (is_inside t) rs (map_none InsideChar (position (is_inside t) rs) a.1.1.0)

-- a selection that is there
abbrev pub some : Selection → Option Selection
some x = Some x

-- all ranges are selected
pub select-end : (h : History) (rs : List (ℕ × ℕ)) (i : ℕ) (done : List Selection) → length rs ≤ i → map some done ++ map (selection_of h) (drop i rs) ≡ map (selection_of h) rs → map some done ≡ map (selection_of h) rs
select-end h rs i done l g =
    sym (append-nil (map some done))
    ∙ ap (λ (z : List (ℕ × ℕ)). map some done ++ map (selection_of h) z) (sym (drop_all i rs l))
    ∙ g
