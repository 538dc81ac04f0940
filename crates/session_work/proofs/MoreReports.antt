-- Texts of reports, the lines of further kinds among them.
use Rattle.std.proofs.Common.{◌≡◌, List, [], ◌∷◌, ◌++◌, ℕ, map, refl, sym, ap, ◌∙◌, append-nil, append_assoc}
use Rattle.std.proofs.lemmas.Grind.{flat_map-append}
use Rattle.session_lines.specs.Report.{line_text, report_text}
use Rattle.session_lines.specs.declared.report.Report.{Report}
use Rattle.session_lines.proofs.Reports.{text-append as plain-append}
use Rattle.session_more.specs.Reports.{more_line_text, more_report_text}
use Rattle.session_more.specs.declared.report.MoreReport.{MoreReport}
use Rattle.session_more.specs.declared.report.MoreReport.TheVariants.{Plain}

pub text-append : (rs qs : List MoreReport) → more_report_text (rs ++ qs) ≡ more_report_text rs ++ more_report_text qs
unfolding more_report_text
text-append rs qs = flat_map-append more_line_text rs qs

text-none : more_report_text [] ≡ []
unfolding more_report_text
text-none = refl

-- lines of `session_lines`
pub text-plain : (rs : List Report) → more_report_text (map Plain rs) ≡ report_text rs
unfolding more_report_text more_line_text report_text
text-plain [] = refl
text-plain (r ∷ rs) = ap (λ (t : List ℕ). line_text r ++ t) (text-plain rs)

-- what is still to be written, with one more part of it written
pub written : (rs qs : List MoreReport) (out new all : List ℕ) → out ++ more_report_text (rs ++ qs) ≡ all → new ≡ out ++ more_report_text rs → new ++ more_report_text qs ≡ all
written rs qs out new all e n =
    ap (λ t. t ++ more_report_text qs) n ∙ append_assoc out (more_report_text rs) (more_report_text qs) ∙ ap (λ t. out ++ t) (sym (text-append rs qs)) ∙ e

-- nothing is left to be written
pub all_written : (out all : List ℕ) → out ++ more_report_text [] ≡ all → out ≡ all
all_written out all e = sym (append-nil out) ∙ ap (λ t. out ++ t) (sym text-none) ∙ e

-- no line is written
pub nothing_written : (out : List ℕ) → out ≡ out ++ more_report_text []
nothing_written out = sym (append-nil out) ∙ ap (λ t. out ++ t) (sym text-none)

-- a line is written
pub one_written : (r : MoreReport) (out new : List ℕ) → new ≡ out ++ more_line_text r → new ≡ out ++ more_report_text (r ∷ [])
unfolding more_report_text
one_written r out new n = n ∙ ap (λ t. out ++ t) (sym (append-nil (more_line_text r)))

-- lines of `session_lines` are written
pub plainly_written : (rs : List Report) (out new : List ℕ) → new ≡ out ++ report_text rs → new ≡ out ++ more_report_text (map Plain rs)
plainly_written rs out new n = n ∙ ap (λ t. out ++ t) (sym (text-plain rs))

-- what is written of events, of queries and at the end
pub three_parts : (es : List MoreReport) (qs rs : List Report) (mid out new : List ℕ) → mid ≡ more_report_text es → out ≡ mid ++ report_text qs → new ≡ out ++ report_text rs
    → new ≡ more_report_text (es ++ map Plain (qs ++ rs))
three_parts es qs rs mid out new m o n =
    n ∙ ap (λ x. x ++ report_text rs) (o ∙ ap (λ x. x ++ report_text qs) m) ∙ append_assoc (more_report_text es) (report_text qs) (report_text rs)
    ∙ ap (λ x. more_report_text es ++ x) (sym (plain-append qs rs) ∙ sym (text-plain (qs ++ rs))) ∙ sym (text-append es (map Plain (qs ++ rs)))
