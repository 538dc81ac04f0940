use Rattle.std.proofs.lemmas.Result.{IfOk-weaker}
use Rattle.session_writer.proofs.Written.{if_both, is_read, is_written, line_written}
use Rattle.session_writer.proofs.lines.compact_text.Goals as goal

pub unreachable-requires : goal.unreachable-requires
unreachable-requires c = is_read c.args.line.now c.requires (c.in-Err.ensures.err (λ m. let k = c.is_memory.ensures.1 m in cc))

pub returns-in-Ok-clause-text : goal.returns-in-Ok-clause-text
returns-in-Ok-clause-text c =
    IfOk-weaker c.to_string.result _ _ (λ s is. line_written c.args.line.now c.requires _ c.in-Ok.ensures.ok.0 c.in-Ok.ensures.ok.1 _ is) c.to_string.ensures.text

pub returns-in-Ok-clause-written : goal.returns-in-Ok-clause-written
returns-in-Ok-clause-written c =
    if_both c.to_string.result _ _ _ (λ s is back utf8. is_written c.args.line.now c.requires _ c.in-Ok.ensures.ok.0 c.in-Ok.ensures.ok.1 _ is utf8 back c.in-Ok.ensures.nests) c.to_string.ensures.text c.to_string.ensures.reads_back
