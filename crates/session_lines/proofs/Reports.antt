-- Texts of reports, line by line.
use Rattle.std.proofs.Common.{ℕ, [], ◌≡◌, ◌+◌, List, ◌++◌, ◌∷◌, append-nil, refl, sym, ap, ◌∙◌, append_assoc, ◌<◌, length, drop, get_or, ◌≤◌, ◌==◌, if◌then◌else◌, cond}
use Rattle.std.proofs.lemmas.Grind.{flat_map-append}
use Rattle.std.proofs.lemmas.List.{drop_more, drop_all}
use Rattle.std.proofs.lemmas.Bool.{ne_eqb}
use Rattle.session_lines.specs.Report.{line_text, report_text}
use Rattle.session_lines.specs.declared.report.Report.{Report}
use Rattle.session_lines.specs.declared.report.Report.TheVariants as report
use Rattle.session_lines.specs.declared.report.Report.TheVariants as report

-- ---- texts of reports

pub text-append : (rs qs : List Report) → report_text (rs ++ qs) ≡ report_text rs ++ report_text qs
unfolding report_text
text-append rs qs = flat_map-append line_text rs qs

pub text-one : (r : Report) → report_text (r ∷ []) ≡ line_text r
unfolding report_text
text-one r = append-nil (line_text r)

pub text-none : report_text [] ≡ []
unfolding report_text
text-none = refl

-- what is still to be written, with one more part of it written
pub written : (rs qs : List Report) (out new all : List ℕ) → out ++ report_text (rs ++ qs) ≡ all → new ≡ out ++ report_text rs → new ++ report_text qs ≡ all
written rs qs out new all e n =
    ap (λ t. t ++ report_text qs) n ∙ append_assoc out (report_text rs) (report_text qs) ∙ ap (λ t. out ++ t) (sym (text-append rs qs)) ∙ e

-- nothing is left to be written
pub all_written : (out all : List ℕ) → out ++ report_text [] ≡ all → out ≡ all
all_written out all e = sym (append-nil out) ∙ ap (λ t. out ++ t) (sym text-none) ∙ e

-- a line of a report is written
pub line_reported : (r q : Report) (out new : List ℕ) → r ≡ q → new ≡ out ++ line_text r → new ≡ out ++ report_text (q ∷ [])
line_reported r q out new e n = n ∙ ap (λ r. out ++ line_text r) e ∙ ap (λ t. out ++ t) (sym (text-one q))

-- ---- lines that are written one after another

pub more_lines : (rs : List Report) (i : ℕ) (d : Report) (out new all : List ℕ) → i < length rs → out ++ report_text (drop i rs) ≡ all → new ≡ out ++ line_text (get_or rs i d) → new ++ report_text (drop (i + 1) rs) ≡ all
more_lines rs i d out new all lt e n =
    let l : Report = get_or rs i d in
    written (l ∷ []) (drop (i + 1) rs) out new all (ap (λ l. out ++ report_text l) (sym (drop_more rs i d lt)) ∙ e) (line_reported l l out new refl n)

pub all_lines : (rs : List Report) (i : ℕ) (out all : List ℕ) → length rs ≤ i → out ++ report_text (drop i rs) ≡ all → out ≡ all
all_lines rs i out all le e = all_written out all (ap (λ l. out ++ report_text l) (sym (drop_all i rs le)) ∙ e)

-- ---- the whole report

-- what is written of events, of queries and at the end
pub three_parts : (es qs rs : List Report) (mid out new : List ℕ) → mid ≡ report_text es → out ≡ mid ++ report_text qs → new ≡ out ++ report_text rs → new ≡ report_text (es ++ (qs ++ rs))
three_parts es qs rs mid out new m o n =
    n ∙ ap (λ x. x ++ report_text rs) (o ∙ ap (λ x. x ++ report_text qs) m) ∙ append_assoc (report_text es) (report_text qs) (report_text rs)
    ∙ ap (λ x. report_text es ++ x) (sym (text-append qs rs)) ∙ sym (text-append es (qs ++ rs))

-- a line, and what follows it
pub more_reported : (r : Report) (rs : List Report) (out mid new : List ℕ) → mid ≡ out ++ line_text r → new ≡ mid ++ report_text rs → new ≡ out ++ report_text (r ∷ rs)
unfolding report_text
more_reported r rs out mid new m n = n ∙ ap (λ t. t ++ report_text rs) m ∙ append_assoc out (line_text r) (report_text rs)

-- ---- settling

abbrev pub settled_of : ℕ → ℕ → List Report
settled_of r c = if c == 0 then [] else report.Settled r c ∷ []

pub parts_reported : (rs qs : List Report) (out mid new : List ℕ) → mid ≡ out ++ report_text rs → new ≡ mid ++ report_text qs → new ≡ out ++ report_text (rs ++ qs)
parts_reported rs qs out mid new m n = n ∙ ap (λ t. t ++ report_text qs) m ∙ append_assoc out (report_text rs) (report_text qs) ∙ ap (λ t. out ++ t) (sym (text-append rs qs))

pub some_of : (r c : ℕ) (out new : List ℕ) → (c ≡ 0 → ⊥) → new ≡ out ++ line_text (report.Settled r c) → new ≡ out ++ report_text (settled_of r c)
some_of r c out new h e =
    line_reported (report.Settled r c) (report.Settled r c) out new refl e ∙ ap (λ t. out ++ report_text (cond t [] (report.Settled r c ∷ []))) (sym (ne_eqb c 0 h))

pub none_of : (r c : ℕ) (out : List ℕ) → c ≡ 0 → out ≡ out ++ report_text (settled_of r c)
none_of r c out e = sym (append-nil out) ∙ ap (λ t. out ++ t) (sym text-none) ∙ ap (λ c. out ++ report_text (settled_of r c)) (sym e)

-- no line is written
pub nothing_written : (out : List ℕ) → out ≡ out ++ report_text []
nothing_written out = sym (append-nil out) ∙ ap (λ t. out ++ t) (sym text-none)
