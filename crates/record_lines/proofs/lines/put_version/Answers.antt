use Rattle.record_lines.specs.Lines.{entry_value}
use Rattle.record_lines.proofs.Tokens.{list_ended}
use Rattle.record_lines.proofs.lines.put_version.Goals as goal

pub returns-clause-value : goal.returns-clause-value
returns-clause-value c =
    list_ended c.args.writer.now.tokens c.loop-replica.writer.tokens c.end_array.new.self.tokens entry_value c.args.entries.now c.loop-replica.replica-index c.loop-replica-test.false c.loop-replica.invariant.tokens c.in_ok-end_array.ensures.ok
