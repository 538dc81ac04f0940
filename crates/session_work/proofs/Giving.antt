-- What a line reports that gives an operation to a replica, or opens its buffer.
use Rattle.std.proofs.Common.{◌≡◌, ℕ, List, [], ◌∷◌, ◌++◌, Option, None, Some, ap}
use Rattle.std.specs.Option.{option_map}
use Rattle.op_model.specs.declared.operation.Operation.{Operation}
use Rattle.text_buffer.specs.Buffer.{BufferState}
use Rattle.session_lines.specs.Report.{line_text, report_text}
use Rattle.session_lines.specs.declared.report.GiveAnswer.{GiveAnswer}
use Rattle.session_lines.specs.declared.report.Report.{Report}
use Rattle.session_lines.specs.declared.report.Report.TheVariants as report
use Rattle.session_lines.proofs.Reports.{line_reported, nothing_written}
use Rattle.session_work.specs.Work.{applied_count, give_answer, reports_at}

-- where nothing is answered the replica is not there, and nothing is written
pub unanswered : {A : Type 0} (g : BufferState → List Report) (f : BufferState → A) (o : Option BufferState) (out : List ℕ) → None ≡ option_map f o → out ≡ out ++ report_text (reports_at g o)
unanswered g f None out e = nothing_written out
unanswered g f (Some b) out e = absurd (cc e)

-- what is answered is written
pub answer_reported : (n r : ℕ) (op : Option Operation) (o : Option BufferState) (a : GiveAnswer) (out new : List ℕ) → Some a ≡ option_map (give_answer op) o → new ≡ out ++ line_text (report.Give n r a)
    → new ≡ out ++ report_text (reports_at (λ (b : BufferState). report.Give n r (give_answer op b) ∷ []) o)
answer_reported n r op None a out new e w = absurd (cc e)
answer_reported n r op (Some b) a out new e w =
    let is : a ≡ give_answer op b = cc e in
    line_reported (report.Give n r a) (report.Give n r (give_answer op b)) out new (ap (report.Give n r) is) w

-- what is counted is written
pub count_reported : (r : ℕ) (o : Option BufferState) (n : ℕ) (out new : List ℕ) → Some n ≡ option_map (λ (b : BufferState). applied_count b.history) o → new ≡ out ++ line_text (report.Reopen r n)
    → new ≡ out ++ report_text (reports_at (λ (b : BufferState). report.Reopen r (applied_count b.history) ∷ []) o)
count_reported r None n out new e w = absurd (cc e)
count_reported r (Some b) n out new e w =
    let is : n ≡ applied_count b.history = cc e in
    line_reported (report.Reopen r n) (report.Reopen r (applied_count b.history)) out new (ap (report.Reopen r) is) w
