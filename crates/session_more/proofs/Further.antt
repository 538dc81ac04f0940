-- Lines of the further forms.
use Rattle.std.proofs.Common.{Bool, true, false, cond, List, [], ◌∷◌, codes, Option, None, Some, option_map, option_and_then, IfSome, refl}
use Rattle.serde_json.specs.Data.{Data}
use Rattle.serde_json.specs.Find.{as_str}
use Rattle.session_lines.specs.Forms.{name_from}
use Rattle.session_lines.specs.Json.{is_text, members_of, whole_number}
use Rattle.session_lines.specs.Parts.{id_of_value, pieces_of_value}
use Rattle.session_more.specs.Forms.{display_from, excerpt_form, excerpt_from, fold_form, fold_from, folded_from, further_form, further_from, further_of_value, medit_from, multi_from, ranges_of_value, select_from, selected_from, unfold_from}
use Rattle.session_more.specs.Lines.{IsFurther}
use Rattle.session_more.specs.declared.session.MoreLine.{MoreLine}
use Rattle.session_more.specs.declared.session.MoreLine.TheVariants.{Select, Share, Selected, Fold, Unfold, Folded, Display, Excerpt, Multi, Medit}

mapped : {A : Type 0} (f : A → MoreLine) (o : Option A) → ((x : A) → IsFurther (f x)) → IfSome (option_map f o) IsFurther
mapped f None h = tt
mapped f (Some x) h = h x

chained : {A : Type 0} (f : A → Option MoreLine) (o : Option A) → ((x : A) → IfSome (f x) IsFurther) → IfSome (option_and_then f o) IsFurther
chained f None h = tt
chained f (Some x) h = h x

either : (b : Bool) (p q : Option MoreLine) → IfSome p IsFurther → IfSome q IsFurther → IfSome (cond b p q) IsFurther
either true p q f g = f
either false p q f g = g

select_further : (ds : List Data) → IfSome (select_from ds) IsFurther
select_further [] = tt
select_further (r ∷ []) = tt
select_further (r ∷ t ∷ []) = tt
select_further (r ∷ t ∷ ps ∷ []) =
    chained (λ id. option_and_then (λ name. option_map (Select id name) (ranges_of_value ps)) (as_str t)) (id_of_value r)
    (λ id. chained (λ name. option_map (Select id name) (ranges_of_value ps)) (as_str t) (λ name. mapped (Select id name) (ranges_of_value ps) (λ x. refl)))
select_further (r ∷ t ∷ ps ∷ d ∷ ds) = tt

selected_further : (ds : List Data) → IfSome (selected_from ds) IsFurther
selected_further [] = tt
selected_further (r ∷ []) = tt
selected_further (r ∷ a ∷ []) = chained (λ id. option_map (Selected id) (id_of_value a)) (id_of_value r) (λ id. mapped (Selected id) (id_of_value a) (λ x. refl))
selected_further (r ∷ a ∷ d ∷ ds) = tt

fold_further : (ds : List Data) → IfSome (fold_from ds) IsFurther
fold_further [] = tt
fold_further (r ∷ []) = tt
fold_further (r ∷ s ∷ []) = tt
fold_further (r ∷ s ∷ e ∷ []) =
    chained (λ id. option_and_then (λ a. option_map (Fold id a) (whole_number e)) (whole_number s)) (id_of_value r)
    (λ id. chained (λ a. option_map (Fold id a) (whole_number e)) (whole_number s) (λ a. mapped (Fold id a) (whole_number e) (λ x. refl)))
fold_further (r ∷ s ∷ e ∷ d ∷ ds) = tt

unfold_further : (ds : List Data) → IfSome (unfold_from ds) IsFurther
unfold_further [] = tt
unfold_further (r ∷ []) = tt
unfold_further (r ∷ s ∷ []) = tt
unfold_further (r ∷ s ∷ e ∷ []) =
    chained (λ id. option_and_then (λ a. option_map (Unfold id a) (whole_number e)) (whole_number s)) (id_of_value r)
    (λ id. chained (λ a. option_map (Unfold id a) (whole_number e)) (whole_number s) (λ a. mapped (Unfold id a) (whole_number e) (λ x. refl)))
unfold_further (r ∷ s ∷ e ∷ d ∷ ds) = tt

folded_further : (ds : List Data) → IfSome (folded_from ds) IsFurther
folded_further [] = tt
folded_further (r ∷ []) = mapped Folded (id_of_value r) (λ x. refl)
folded_further (r ∷ d ∷ ds) = tt

display_further : (ds : List Data) → IfSome (display_from ds) IsFurther
display_further [] = tt
display_further (r ∷ []) = tt
display_further (r ∷ o ∷ []) = chained (λ id. option_map (Display id) (whole_number o)) (id_of_value r) (λ id. mapped (Display id) (whole_number o) (λ x. refl))
display_further (r ∷ o ∷ d ∷ ds) = tt

excerpt_further : (ds : List Data) → IfSome (excerpt_from ds) IsFurther
excerpt_further [] = tt
excerpt_further (t ∷ []) = tt
excerpt_further (t ∷ r ∷ []) = tt
excerpt_further (t ∷ r ∷ s ∷ []) = tt
excerpt_further (t ∷ r ∷ s ∷ e ∷ []) =
    chained (λ name. option_and_then (λ id. option_and_then (λ a. option_map (Excerpt name id a) (whole_number e)) (whole_number s)) (id_of_value r)) (as_str t)
    (λ name. chained (λ id. option_and_then (λ a. option_map (Excerpt name id a) (whole_number e)) (whole_number s)) (id_of_value r)
    (λ id. chained (λ a. option_map (Excerpt name id a) (whole_number e)) (whole_number s) (λ a. mapped (Excerpt name id a) (whole_number e) (λ x. refl))))
excerpt_further (t ∷ r ∷ s ∷ e ∷ d ∷ ds) = tt

multi_further : (ds : List Data) → IfSome (multi_from ds) IsFurther
multi_further [] = tt
multi_further (t ∷ []) = mapped Multi (as_str t) (λ x. refl)
multi_further (t ∷ d ∷ ds) = tt

medit_further : (ds : List Data) → IfSome (medit_from ds) IsFurther
medit_further [] = tt
medit_further (t ∷ []) = tt
medit_further (t ∷ ps ∷ []) = chained (λ name. option_map (Medit name) (pieces_of_value ps)) (as_str t) (λ name. mapped (Medit name) (pieces_of_value ps) (λ x. refl))
medit_further (t ∷ ps ∷ d ∷ ds) = tt

excerpts_further : (w : Data) (ds : List Data) → IfSome (excerpt_form w ds) IsFurther
excerpts_further w ds =
    either (is_text (codes "excerpt") w) _ _ (excerpt_further ds)
    (either (is_text (codes "multi") w) _ _ (multi_further ds)
    (either (is_text (codes "medit") w) _ _ (medit_further ds) tt))

folds_further : (w : Data) (ds : List Data) → IfSome (fold_form w ds) IsFurther
folds_further w ds =
    either (is_text (codes "fold") w) _ _ (fold_further ds)
    (either (is_text (codes "unfold") w) _ _ (unfold_further ds)
    (either (is_text (codes "folded") w) _ _ (folded_further ds)
    (either (is_text (codes "display") w) _ _ (display_further ds) (excerpts_further w ds))))

form_further : (w : Data) (ds : List Data) → IfSome (further_form w ds) IsFurther
form_further w ds =
    either (is_text (codes "select") w) _ _ (select_further ds)
    (either (is_text (codes "share") w) _ _ (mapped (λ p. Share p.0 p.1) (name_from ds) (λ x. refl))
    (either (is_text (codes "selected") w) _ _ (selected_further ds) (folds_further w ds)))

from_further : (ds : List Data) → IfSome (further_from ds) IsFurther
from_further [] = tt
from_further (w ∷ ds) = form_further w ds

-- a line of one of these forms is no line of `session_lines`
pub further : (d : Data) → IfSome (further_of_value d) IsFurther
unfolding further_of_value
further d = chained further_from (members_of d) from_further
