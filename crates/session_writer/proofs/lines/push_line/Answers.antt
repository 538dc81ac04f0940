use Rattle.std.proofs.lemmas.Str.{IsUtf8-string_bytes}
use Rattle.session_writer.proofs.lines.push_line.Goals as goal

pub returns-clause-written : goal.returns-clause-written
returns-clause-written c = c.in_ok-text.ensures.written (IsUtf8-string_bytes c.in_ok-text.text)
