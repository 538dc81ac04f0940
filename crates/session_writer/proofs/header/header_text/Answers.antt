use Rattle.std.proofs.Common.{rules}
use Rattle.session_writer.proofs.Headers.{ended_tokens, head_utf8, head_written}
use Rattle.session_writer.proofs.header.header_text.Goals as goal

pub returns-clause-text : goal.returns-clause-text
returns-clause-text c =
    let ts = ended_tokens c.args.base.now c.args.ids.now c.loop-id.id-index c.loop-id.writer.tokens c.end_array.new.self.tokens c.end_array-2.new.self.tokens c.loop-id-test.false c.loop-id.invariant.tokens c.in_ok-end_array.ensures.ok c.in_ok-end_array-2.ensures.ok in
    head_written c.args.base.now c.args.ids.now c.end_array-2.new.self.before c.into_inner.result.items c.end_array-2.new.self.tokens (search rules) ts c.into_inner.ensures.items

pub returns-clause-utf8 : goal.returns-clause-utf8
returns-clause-utf8 c =
    let ts = ended_tokens c.args.base.now c.args.ids.now c.loop-id.id-index c.loop-id.writer.tokens c.end_array.new.self.tokens c.end_array-2.new.self.tokens c.loop-id-test.false c.loop-id.invariant.tokens c.in_ok-end_array.ensures.ok c.in_ok-end_array-2.ensures.ok in
    head_utf8 c.args.base.now c.args.ids.now c.end_array-2.new.self.tokens ts c.into_inner.ensures.utf8
