use Rattle.record_lines.specs.Lines.{piece_value}
use Rattle.record_lines.proofs.Tokens.{list_ended}
use Rattle.record_lines.proofs.lines.put_pieces.Goals as goal

pub returns-clause-value : goal.returns-clause-value
returns-clause-value c =
    list_ended c.args.writer.now.tokens c.loop-p.writer.tokens c.end_array.new.self.tokens piece_value c.args.ps.now c.loop-p.p-index c.loop-p-test.false c.loop-p.invariant.tokens c.in_ok-end_array.ensures.ok
