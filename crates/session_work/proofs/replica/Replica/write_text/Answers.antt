use Rattle.std.proofs.Common.{◌≡◌, ◌++◌, ap, ◌∙◌}
use Rattle.op_model.specs.Shown.{text}
use Rattle.session_lines.specs.Report.{line_text}
use Rattle.session_lines.specs.declared.report.Report.TheVariants as report
use Rattle.session_lines.proofs.Quoted.{text_left}
use Rattle.session_work.proofs.replica.Replica.write_text.Goals as goal

pub returns : goal.returns
returns c =
    text_left (λ left. left) c.chunks.result (λ t. c.write_text.new.out.items ≡ c.args.out.now.items ++ line_text (report.Text c.args.head t)) c.in_ok-write_text.ensures.ok
    ∙ ap (λ t. c.args.out.now.items ++ line_text (report.Text c.args.head t)) (c.chunks.ensures ∙ c.text.ensures ∙ ap text c.in_ok-snapshot.ensures)
