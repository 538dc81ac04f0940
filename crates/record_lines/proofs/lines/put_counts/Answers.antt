use Rattle.record_lines.specs.Lines.{count_value}
use Rattle.record_lines.proofs.Tokens.{list_ended}
use Rattle.record_lines.proofs.lines.put_counts.Goals as goal

pub returns-clause-value : goal.returns-clause-value
returns-clause-value c =
    list_ended c.args.writer.now.tokens c.loop-c.writer.tokens c.end_array.new.self.tokens count_value c.args.cs.now c.loop-c.c-index c.loop-c-test.false c.loop-c.invariant.tokens c.in_ok-end_array.ensures.ok
