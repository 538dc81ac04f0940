-- The forms of the lines that `session_lines` has not.
use Rattle.std.specs.Prelude.{ℕ, List, [], ◌∷◌, codes, Option, None, option_map, option_and_then, if◌then◌else◌}
use Rattle.serde_json.specs.Data.{Data}
use Rattle.serde_json.specs.Find.{as_str}
use Rattle.op_model.specs.declared.operation.Piece.{Piece}
use Rattle.session_lines.specs.Forms.{name_from}
use Rattle.session_lines.specs.Json.{whole_number, members_of, is_text}
use Rattle.session_lines.specs.Parts.{all_of, id_of_value, pieces_of_value}
use Rattle.session_more.specs.declared.session.MoreLine.{MoreLine}
use Rattle.session_more.specs.declared.session.MoreLine.TheVariants.{Select, Share, Selected, Fold, Unfold, Folded, Display, Excerpt, Multi, Medit}

-- ---- ranges of a text

abbrev pub range_with : Option ℕ → Option ℕ → Option (ℕ × ℕ)
range_with s e = option_and_then (λ a. option_map (λ b. (a, b)) e) s

-- [s, e]
abbrev pub range_from : List Data → Option (ℕ × ℕ)
range_from (s ∷ e ∷ []) = range_with (whole_number s) (whole_number e)
range_from _ = None

abbrev pub range_of_value : Data → Option (ℕ × ℕ)
range_of_value d = option_and_then range_from (members_of d)

abbrev pub ranges_of_value : Data → Option (List (ℕ × ℕ))
ranges_of_value d = option_and_then (all_of range_of_value) (members_of d)

-- ---- the members after the word

abbrev pub select_with : Option ℕ → Option (List ℕ) → Option (List (ℕ × ℕ)) → Option MoreLine
select_with r t ps = option_and_then (λ id. option_and_then (λ name. option_map (Select id name) ps) t) r

-- r, "name", [[s, e], ..]
abbrev pub select_from : List Data → Option MoreLine
select_from (r ∷ t ∷ ps ∷ []) = select_with (id_of_value r) (as_str t) (ranges_of_value ps)
select_from _ = None

-- r, "name"
abbrev pub share_from : List Data → Option MoreLine
share_from ds = option_map (λ p. Share p.0 p.1) (name_from ds)

abbrev pub selected_with : Option ℕ → Option ℕ → Option MoreLine
selected_with r a = option_and_then (λ id. option_map (Selected id) a) r

-- r, a
abbrev pub selected_from : List Data → Option MoreLine
selected_from (r ∷ a ∷ []) = selected_with (id_of_value r) (id_of_value a)
selected_from _ = None

abbrev pub fold_with : Option ℕ → Option ℕ → Option ℕ → Option MoreLine
fold_with r s e = option_and_then (λ id. option_and_then (λ a. option_map (Fold id a) e) s) r

-- r, s, e
abbrev pub fold_from : List Data → Option MoreLine
fold_from (r ∷ s ∷ e ∷ []) = fold_with (id_of_value r) (whole_number s) (whole_number e)
fold_from _ = None

abbrev pub unfold_with : Option ℕ → Option ℕ → Option ℕ → Option MoreLine
unfold_with r s e = option_and_then (λ id. option_and_then (λ a. option_map (Unfold id a) e) s) r

-- r, s, e
abbrev pub unfold_from : List Data → Option MoreLine
unfold_from (r ∷ s ∷ e ∷ []) = unfold_with (id_of_value r) (whole_number s) (whole_number e)
unfold_from _ = None

-- r
abbrev pub folded_from : List Data → Option MoreLine
folded_from (r ∷ []) = option_map Folded (id_of_value r)
folded_from _ = None

abbrev pub display_with : Option ℕ → Option ℕ → Option MoreLine
display_with r o = option_and_then (λ id. option_map (Display id) o) r

-- r, o
abbrev pub display_from : List Data → Option MoreLine
display_from (r ∷ o ∷ []) = display_with (id_of_value r) (whole_number o)
display_from _ = None

abbrev pub excerpt_with : Option (List ℕ) → Option ℕ → Option ℕ → Option ℕ → Option MoreLine
excerpt_with t r s e =
    option_and_then (λ name. option_and_then (λ id. option_and_then (λ a. option_map (Excerpt name id a) e) s) r) t

-- "name", r, s, e
abbrev pub excerpt_from : List Data → Option MoreLine
excerpt_from (t ∷ r ∷ s ∷ e ∷ []) = excerpt_with (as_str t) (id_of_value r) (whole_number s) (whole_number e)
excerpt_from _ = None

-- "name"
abbrev pub multi_from : List Data → Option MoreLine
multi_from (t ∷ []) = option_map Multi (as_str t)
multi_from _ = None

abbrev pub medit_with : Option (List ℕ) → Option (List Piece) → Option MoreLine
medit_with t ps = option_and_then (λ name. option_map (Medit name) ps) t

-- "name", [[s, e, "t"], ..]
abbrev pub medit_from : List Data → Option MoreLine
medit_from (t ∷ ps ∷ []) = medit_with (as_str t) (pieces_of_value ps)
medit_from _ = None

-- ---- a line, by its word

-- lines of excerpts
abbrev pub excerpt_form : Data → List Data → Option MoreLine
excerpt_form w ds =
    if is_text (codes "excerpt") w then excerpt_from ds else
    if is_text (codes "multi") w then multi_from ds else
    if is_text (codes "medit") w then medit_from ds else None

-- lines of folds and of excerpts
abbrev pub fold_form : Data → List Data → Option MoreLine
fold_form w ds =
    if is_text (codes "fold") w then fold_from ds else
    if is_text (codes "unfold") w then unfold_from ds else
    if is_text (codes "folded") w then folded_from ds else
    if is_text (codes "display") w then display_from ds else excerpt_form w ds

abbrev pub further_form : Data → List Data → Option MoreLine
further_form w ds =
    if is_text (codes "select") w then select_from ds else
    if is_text (codes "share") w then share_from ds else
    if is_text (codes "selected") w then selected_from ds else fold_form w ds

abbrev pub further_from : List Data → Option MoreLine
further_from [] = None
further_from (w ∷ ds) = further_form w ds

-- the line that a value is, where it has one of these forms
unfoldable pub further_of_value : Data → Option MoreLine
further_of_value d = option_and_then further_from (members_of d)
