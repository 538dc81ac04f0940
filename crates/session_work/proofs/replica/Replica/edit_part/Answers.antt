use Rattle.std.proofs.Common.{◌≡◌, ◌++◌, List, [], Option, Some, Err, sym, ap, append-nil, ◌∙◌, rules}
use Rattle.std.specs.Option.{option_copied}
use Rattle.op_model.specs.declared.operation.Piece.{Piece}
use Rattle.text_buffer.specs.Buffer.{BufferState}
use Rattle.session_lines.specs.Report.{report_text}
use Rattle.session_lines.proofs.Reports.{nothing_written}
use Rattle.session_more.specs.declared.report.PartAnswer.TheVariants as part
use Rattle.session_work.specs.Parts.{after_part, part_outcome, part_settled}
use Rattle.session_work.proofs.Parts.{refused_part}
use Rattle.session_work.proofs.replica.Replica.edit_part.Goals as goal

pub returns-in_default-clause-report : goal.returns-in_default-clause-report
returns-in_default-clause-report c =
    let out = c.args.settled.now.items in
    let b = c.args.self.now in
    nothing_written out ∙ ap (λ (o : Option (List Piece)). out ++ report_text (part_settled (part_outcome o b) b)) (ap option_copied (sym c.in_default.is))

pub returns-in-Err : goal.returns-in-Err
returns-in-Err c =
    let b = c.args.self.now in
    let out = c.args.settled.now.items in
    let o = option_copied c.args.pieces in
    let same : c.self.inside.buffer ≡ b = cc c.self.view_is in
    let there : o ≡ Some c.in-Some.pieces.now = ap option_copied c.in-Some.is in
    let back : c.edit_uncounted.new.self ≡ b = c.in-Err.ensures.err ∙ same in
    let refused : part_outcome o b ≡ Err (part.Refused c.in-Err.fault) = refused_part o c.in-Some.pieces.now c.as_slice.result.now c.self.inside.buffer b c.in-Err.fault there c.as_slice.ensures same c.in-Err.ensures.fault (λ e. search rules) in
    record {
      report = nothing_written out ∙ ap (λ x. out ++ report_text (part_settled x b)) (sym refused);
      after = back ∙ ap (λ x. after_part x b) (sym refused);
      id = ap (λ (x : BufferState). x.replica) back;
      grows = ([], ap (λ (x : BufferState). x.history) back ∙ sym (append-nil b.history));
      outcome = sym refused;
    }
