-- What a line reports that asks what changed since a version.
use Rattle.std.proofs.Common.{◌≡◌, ◌∙◌, ℕ, List, [], ◌∷◌, Option, None, Some, refl, ap, ap₂}
use Rattle.lamport_clock.specs.Versions.{Entries}
use Rattle.op_model.specs.Histories.{History}
use Rattle.session_lines.specs.declared.report.Report.{Report}
use Rattle.session_lines.specs.declared.report.Report.TheVariants as report
use Rattle.session_lines.specs.declared.report.SinceAnswer.{SinceAnswer}
use Rattle.session_work.specs.Names.{since_answer}
use Rattle.session_work.specs.Work.{reports_at, since_reports}

-- where no version is kept under the name
pub reports-unkept : (name : List ℕ) (r : ℕ) (v : Option Entries) (o : Option History) → None ≡ v → [] ≡ reports_at (since_reports name r v) o
reports-unkept name r v None e = refl
reports-unkept name r v (Some h) e = ap (λ (v : Option Entries). since_reports name r v h) e

-- where the replica is not there
pub reports-nowhere : (g : History → List Report) (o : Option History) → None ≡ o → [] ≡ reports_at g o
reports-nowhere g o e = ap (reports_at g) e

-- where both are there
pub reports-kept : (name : List ℕ) (r : ℕ) (v : Entries) (h : History) (w : Option Entries) (o : Option History) (a : SinceAnswer) → a ≡ since_answer v h → Some v ≡ w → Some h ≡ o
    → report.Since name r a ∷ [] ≡ reports_at (since_reports name r w) o
reports-kept name r v h w o a e f g =
    ap (λ (b : SinceAnswer). report.Since name r b ∷ []) e
    ∙ ap₂ (λ (w : Option Entries) (o : Option History). reports_at (since_reports name r w) o) f g
