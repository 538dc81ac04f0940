-- What a session reads is read again from its values, by version 2 too.
use Rattle.std.proofs.Common.{◌≡◌, ℕ, ◌+◌, ◌==◌, Bool, true, false, cond, ◌&&◌, not, List, [], ◌∷◌, ◌++◌, length, Option, None, Some, Result, Ok, Err, true≢false, refl, sym, ap, ◌∙◌, subst}
use Rattle.std.specs.Prelude.{⊤, codes, option_and_then}
use Rattle.std.proofs.lemmas.Slice.Eq.{bytes_eq-Decides}
use Rattle.serde_json.specs.Data.{Data, array, boolean, null, number, object, string}
use Rattle.op_model.specs.Choice.{first_of, when}
use Rattle.session_lines.specs.Json.{is_text, members_of, value_of}
use Rattle.session_lines.specs.Forms.{asking_form, edit_from, form_of, give_from, later_form, line_from, line_of_value, op_from, reopen_from, text_from, undo_from, uop_from}
use Rattle.session_lines.specs.Before as old
use Rattle.session_lines.specs.Before.{has_name, line_read, returns_barred}
use Rattle.session_lines.specs.Session as sessions
use Rattle.session_lines.specs.Session.{brings_return, then_from, unless}
use Rattle.session_lines.specs.declared.fault.DecodeFault.{DecodeFault}
use Rattle.session_lines.specs.declared.fault.Word.{Word}
use Rattle.session_lines.specs.declared.fault.Word.TheVariants as word
use Rattle.session_lines.specs.declared.session.SessionLine.{SessionLine}
use Rattle.session_more.specs.Decoding.{form_after, further_read, more_line_read, more_lines_read, or_further, value_after}
use Rattle.session_more.specs.Forms.{further_of_value}
use Rattle.session_more.specs.Lines.{is_known, is_named, more_taken_in}
use Rattle.session_more.specs.State.{MoreState}
use Rattle.session_more.specs.declared.session.MoreLine.{MoreLine}
use Rattle.session_more.specs.declared.session.MoreLine.TheVariants.{Plain, Select, Share, Selected, Fold, Unfold, Folded, Display, Excerpt, Multi, Medit}
use Rattle.session_more.proofs.Headers.{header_stays}

-- ---- a form of any version is one of version 2

-- the word `reopen` is that of no line that asks for something
no_asking : (w : Data) (ds : List Data) (l : SessionLine) → is_text (codes "reopen") w ≡ true → asking_form w ds ≡ Some l → ⊥
no_asking null ds l t e = true≢false (sym t)
no_asking (boolean b) ds l t e = true≢false (sym t)
no_asking (number n) ds l t e = true≢false (sym t)
no_asking (string s) ds l t e =
    let is : s ≡ codes "reopen" = (bytes_eq-Decides s (codes "reopen")).0 t in
    let none : asking_form (string s) ds ≡ None = ap (λ (x : List ℕ). asking_form (string x) ds) is in cc
no_asking (array es) ds l t e = true≢false (sym t)
no_asking (object ms) ds l t e = true≢false (sym t)

module _ (l : SessionLine) where
  cond_more : (b : Bool) (x y z : Option SessionLine) → (y ≡ Some l → z ≡ Some l) → cond b x y ≡ Some l → cond b x z ≡ Some l
  cond_more true x y z f e = e
  cond_more false x y z f e = f e

  asking_more : (b t : Bool) (x y : Option SessionLine) → (t ≡ true → y ≡ Some l → ⊥) → cond (b && t) x y ≡ Some l → cond t x y ≡ Some l
  asking_more true t x y n e = e
  asking_more false true x y n e = absurd (n refl e)
  asking_more false false x y n e = e

  later_more : (v : ℕ) (w : Data) (ds : List Data) → later_form v w ds ≡ Some l → later_form 2 w ds ≡ Some l
  later_more v w ds e = asking_more (v == 2) (is_text (codes "reopen") w) (reopen_from ds) (asking_form w ds) (no_asking w ds l) e

  form_more : (v : ℕ) (w : Data) (ds : List Data) → form_of v w ds ≡ Some l → form_of 2 w ds ≡ Some l
  form_more v w ds e =
      cond_more (is_text (codes "edit") w) (edit_from ds) _ _
      (cond_more (is_text (codes "undo") w) (undo_from ds) _ _
      (cond_more (is_text (codes "op") w) (op_from ds) _ _
      (cond_more (is_text (codes "uop") w) (uop_from ds) _ _
      (cond_more (is_text (codes "give") w) (give_from ds) _ _
      (cond_more (is_text (codes "text") w) (text_from ds) (later_form v w ds) (later_form 2 w ds) (later_more v w ds)))))) e

  from_more : (v : ℕ) (ds : List Data) → line_from v ds ≡ Some l → line_from 2 ds ≡ Some l
  from_more v [] e = e
  from_more v (w ∷ ds) e = form_more v w ds e

  members_more : (v : ℕ) (o : Option (List Data)) → option_and_then (line_from v) o ≡ Some l → option_and_then (line_from 2) o ≡ Some l
  members_more v None e = e
  members_more v (Some ds) e = from_more v ds e

  pub value_more : (v : ℕ) (d : Data) → line_of_value v d ≡ Some l → line_of_value 2 d ≡ Some l
  unfolding line_of_value
  value_more v d e = members_more v (members_of d) e

-- lines that have the values of other lines, one by one
abbrev pub HaveValues : List (List ℕ) → List (List ℕ) → Type 0
HaveValues [] [] = ⊤
HaveValues [] (t ∷ ts) = ⊥
HaveValues (l ∷ ls) [] = ⊥
HaveValues (l ∷ ls) (t ∷ ts) = (value_of t ≡ value_of l) × HaveValues ls ts

-- ---- a line that a migration reads is read without one too

-- the state with version v, where the session is not read to be migrated
abbrev pub restated : ℕ → MoreState → MoreState
restated v s = record { plain = record s.plain { version = v; migrate = false }; selects = s.selects; excerpts = s.excerpts }

taken_again : (v : ℕ) (l : MoreLine) (s : MoreState) → more_taken_in l (restated v s) ≡ restated v (more_taken_in l s)
taken_again v (Plain l) s = refl
taken_again v (Select r n ps) s = refl
taken_again v (Share r n) s = refl
taken_again v (Selected r a) s = refl
taken_again v (Fold r b e) s = refl
taken_again v (Unfold r b e) s = refl
taken_again v (Folded r) s = refl
taken_again v (Display r o) s = refl
taken_again v (Excerpt n r b e) s = refl
taken_again v (Multi n) s = refl
taken_again v (Medit n ps) s = refl

is_named_again : (v : ℕ) (l : MoreLine) (s : MoreState) → is_named (restated v s) l ≡ is_named s l
is_named_again v (Plain l) s = refl
is_named_again v (Select r n ps) s = refl
is_named_again v (Share r n) s = refl
is_named_again v (Selected r a) s = refl
is_named_again v (Fold r b e) s = refl
is_named_again v (Unfold r b e) s = refl
is_named_again v (Folded r) s = refl
is_named_again v (Display r o) s = refl
is_named_again v (Excerpt n r b e) s = refl
is_named_again v (Multi n) s = refl
is_named_again v (Medit n ps) s = refl

module _ (v : ℕ) (s : MoreState) where
  form_again : (o : Option MoreLine) (y : MoreLine) → form_after s o ≡ Ok y → form_after (restated v s) o ≡ Ok y
  form_again None y e = cc
  form_again (Some x) y e =
      ap (λ (b : Bool). unless x (first_of (when (not (is_known s.plain.replicas x)) word.Replica ∷ when (not b) word.Name ∷ []))) (is_named_again v x s) ∙ e

  value_again : (o : Option Data) (y : MoreLine) → value_after s o ≡ Ok y → value_after (restated v s) o ≡ Ok y
  value_again None y e = cc
  value_again (Some d) y e = form_again (further_of_value d) y e

  second_by : (b : Bool) (r : Result MoreLine Word) (y : MoreLine) → cond b r (Err word.Shape) ≡ Ok y → (b ≡ true) × (r ≡ Ok y)
  second_by true r y e = (refl, e)
  second_by false r y e = cc

  -- further forms are those of version 2
  pub is_second : (line : List ℕ) (y : MoreLine) → further_read s line ≡ Ok y → ((s.plain.version == 2) ≡ true) × (value_after s (value_of line) ≡ Ok y)
  unfolding further_read
  is_second line y e = second_by (s.plain.version == 2) (value_after s (value_of line)) y e

  further_again : (line text : List ℕ) (y : MoreLine) → value_of text ≡ value_of line → v ≡ s.plain.version → further_read s line ≡ Ok y → further_read (restated v s) text ≡ Ok y
  unfolding further_read
  further_again line text y same is e =
      let was = is_second line y e in
      ap (λ (b : Bool). cond b (value_after (restated v s) (value_of text)) (Err word.Shape)) (ap (λ (n : ℕ). n == 2) is ∙ was.0)
      ∙ (ap (value_after (restated v s)) same ∙ value_again (value_of line) y was.1)

  -- a line of `session_lines` against which there is nothing
  plain_again : (line text : List ℕ) (x : SessionLine) (y : MoreLine) (a b c d : Bool)
      → or_further s line (unless x (first_of (when a word.Replica ∷ when b word.Number ∷ when c word.Name ∷ when d word.Cr ∷ []))) ≡ Ok y
      → or_further (restated v s) text (unless x (first_of (when a word.Replica ∷ when b word.Number ∷ when c word.Name ∷ None ∷ []))) ≡ Ok y
  plain_again line text x y true b c d e = cc
  plain_again line text x y false true c d e = cc
  plain_again line text x y false false true d e = cc
  plain_again line text x y false false false true e = cc
  plain_again line text x y false false false false e = e

-- the forms of version v are those of version u and perhaps more, and no more than those of version 2
module _ (u v : ℕ) (more : (d : Data) (l : SessionLine) → line_of_value u d ≡ Some l → line_of_value v d ≡ Some l) (last : (u == 2) ≡ true → v ≡ u) where
  module _ (s : MoreState) (at : s.plain.version ≡ u) (line text : List ℕ) (same : value_of text ≡ value_of line) (y : MoreLine) where
    none_again : (d : Data) → line_of_value u d ≡ None → further_read s line ≡ Ok y → or_further (restated v s) text (old.form_after (restated v s).plain (line_of_value v d)) ≡ Ok y
    none_again d none e =
        let is : v ≡ u = last (ap (λ (n : ℕ). n == 2) (sym at) ∙ (is_second v s line y e).0) in
        ap (λ o. or_further (restated v s) text (old.form_after (restated v s).plain o)) (ap (λ (n : ℕ). line_of_value n d) is ∙ none)
        ∙ further_again v s line text y same (is ∙ sym at) e

    read_again : (d : Data) (o : Option SessionLine) → line_of_value u d ≡ o → or_further s line (old.form_after s.plain o) ≡ Ok y → or_further (restated v s) text (old.form_after (restated v s).plain (line_of_value v d)) ≡ Ok y
    read_again d None is e = none_again d is e
    read_again d (Some x) is e =
        ap (λ o. or_further (restated v s) text (old.form_after (restated v s).plain o)) (more d x is)
        ∙ plain_again v s line text x y (not (sessions.is_known s.plain.replicas x)) (not (sessions.is_numbered s.plain.operations x))
        (not (sessions.is_named_by (has_name s.plain.anchors) (has_name s.plain.marks) x)) (returns_barred s.plain && brings_return x) e

    data_again : (o : Option Data) → or_further s line (old.value_after s.plain o) ≡ Ok y → or_further (restated v s) text (old.value_after (restated v s).plain o) ≡ Ok y
    data_again None e = cc
    data_again (Some d) e =
        read_again d (line_of_value u d) refl (subst (λ (n : ℕ). or_further s line (old.form_after s.plain (line_of_value n d)) ≡ Ok y) at e)

    -- what a line is, a line of the same value is
    pub line_again : more_line_read s line ≡ Ok y → more_line_read (restated v s) text ≡ Ok y
    unfolding more_line_read line_read
    line_again e = ap (λ o. or_further (restated v s) text (old.value_after (restated v s).plain o)) same ∙ data_again (value_of line) e

  then_again : {A B : Type 0} (n : ℕ) (r q : Result A Word) (next after : A → Result B DecodeFault) (b : B) → ((x : A) → r ≡ Ok x → q ≡ Ok x) → ((x : A) → next x ≡ Ok b → after x ≡ Ok b)
      → then_from n r next ≡ Ok b → then_from n q after ≡ Ok b
  then_again n (Err w) q next after b f g e = cc
  then_again n (Ok x) q next after b f g e = ap (λ p. then_from n p after) (f x refl) ∙ g x e

  pub lines_again : (s : MoreState) (before : List MoreLine) (lines texts : List (List ℕ)) (xs : List MoreLine) → s.plain.version ≡ u → HaveValues lines texts
      → more_lines_read s before lines ≡ Ok xs → more_lines_read (restated v s) before texts ≡ Ok xs
  lines_again s before [] [] xs at h e = e
  lines_again s before [] (t ∷ ts) xs at h e = absurd h
  lines_again s before (l ∷ ls) [] xs at h e = absurd h
  lines_again s before (l ∷ ls) (t ∷ ts) xs at h e =
      then_again (2 + length before) (more_line_read s l) (more_line_read (restated v s) t)
      (λ x. more_lines_read (more_taken_in x s) (before ++ x ∷ []) ls) (λ x. more_lines_read (more_taken_in x (restated v s)) (before ++ x ∷ []) ts) xs
      (λ x i. line_again s at l t h.0 x i)
      (λ x i. ap (λ (z : MoreState). more_lines_read z (before ++ x ∷ []) ts) (taken_again v x s)
      ∙ lines_again (more_taken_in x s) (before ++ x ∷ []) ls ts xs ((header_stays x s).0 ∙ at) h.1 i) e
