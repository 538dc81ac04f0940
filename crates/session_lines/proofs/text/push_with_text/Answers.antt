use Rattle.std.proofs.Common.{◌∙◌}
use Rattle.session_lines.proofs.Quoted.{text_written}
use Rattle.session_lines.proofs.text.push_with_text.Goals as goal

pub returns-clause-ok : goal.returns-clause-ok
returns-clause-ok g c = text_written g.I.Iterator.next_gives c.args.parts c.args.head _ _ _ _ _ (c.as_bytes.ensures.value ∙ c.in_ok-front.ensures) c.in_ok-extend_from_slice.ensures.items c.in_ok-push_text.ensures.ok c.in_ok-push.ensures.items
