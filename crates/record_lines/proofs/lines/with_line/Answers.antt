use Rattle.std.proofs.Common.{◌∙◌}
use Rattle.record_lines.specs.Lines.{operation_value}
use Rattle.record_lines.proofs.Tokens.{line_written}
use Rattle.record_lines.proofs.lines.with_line.Goals as goal

pub returns : goal.returns
returns c =
    line_written (operation_value c.args.operation.now) c.args.text.items c.put_operation.new.writer.before c.into_inner-text.result.items c.push.new.self.items c.new-writer.result.tokens c.put_operation.new.writer.tokens
    (c.put_operation.ensures.before ∙ c.new-writer.ensures.before) c.new-writer.ensures.tokens c.in_ok-put_operation.ensures.value c.into_inner-text.ensures.items c.in_ok-push.ensures.items
