-- Worked rows, which compute.
use Rattle.std.specs.Prelude.{◌≡◌, [], ◌∷◌, refl}
use Rattle.tree_cursor.specs.declared.traits.Bias.TheVariants.{Left, Right}
use Rattle.fold_spans.specs.Marks.{shown_text, marks, shown_place, text_place}
use Rattle.fold_spans.specs.Parts.{renewed}
use Rattle.fold_spans.specs.Parts.Part.{Same, Again}

-- abcdef with the folds 1..3 and 2..4: place 2 is inside the ⋯
start_side : shown_place (marks ((1, 3) ∷ (2, 4) ∷ []) 0 6) 2 Left ≡ 1
start_side = refl

end_side : shown_place (marks ((1, 3) ∷ (2, 4) ∷ []) 0 6) 2 Right ≡ 4
end_side = refl

-- after X is put before c and Y before b: aYbXcdef with the folds 2..5 and 4..6, then with the second alone
both_folds : shown_text ((2, 5) ∷ (4, 6) ∷ []) (97 ∷ 89 ∷ 98 ∷ 88 ∷ 99 ∷ 100 ∷ 101 ∷ 102 ∷ []) ≡ 97 ∷ 89 ∷ 226 ∷ 139 ∷ 175 ∷ 101 ∷ 102 ∷ []
both_folds = refl

one_fold : shown_text ((4, 6) ∷ []) (97 ∷ 89 ∷ 98 ∷ 88 ∷ 99 ∷ 100 ∷ 101 ∷ 102 ∷ []) ≡ 97 ∷ 89 ∷ 98 ∷ 88 ∷ 226 ∷ 139 ∷ 175 ∷ 101 ∷ 102 ∷ []
one_fold = refl

-- ranges that touch are two
touching_folds : shown_text ((0, 1) ∷ (1, 2) ∷ []) (97 ∷ 98 ∷ []) ≡ 226 ∷ 139 ∷ 175 ∷ 226 ∷ 139 ∷ 175 ∷ []
touching_folds = refl

back_to_start : text_place (marks ((1, 3) ∷ (2, 4) ∷ []) 0 6) 2 Left ≡ 1
back_to_start = refl

back_to_end : text_place (marks ((1, 3) ∷ (2, 4) ∷ []) 0 6) 2 Right ≡ 4
back_to_end = refl

-- a place at the end of a ⋯ is after all its bytes
past_fold : text_place (marks ((1, 3) ∷ (2, 4) ∷ []) 0 6) 4 Left ≡ 4
past_fold = refl

before_fold : text_place (marks ((1, 3) ∷ (2, 4) ∷ []) 0 6) 1 Right ≡ 1
before_fold = refl

text_end : text_place (marks ((1, 3) ∷ (2, 4) ∷ []) 0 6) 6 Right ≡ 6
text_end = refl

-- X is put before c: the part of the ⋯ is made again, and what is before it and after it stays
made_again : renewed ((1, 4) ∷ (3, 5) ∷ []) 0 (Same 1 ∷ Again 3 4 ∷ Same 2 ∷ []) (marks ((1, 3) ∷ (2, 4) ∷ []) 0 6) ≡ marks ((1, 4) ∷ (3, 5) ∷ []) 0 7
made_again = refl
