use Rattle.session_lines.proofs.Headers.{header_kept}
use Rattle.session_lines.proofs.decoding.read_header.Goals as goal

pub returns-clause-session : goal.returns-clause-session
returns-clause-session c = header_kept c.args.migrate c.args.line.now c.in_ok-header.header c.after_header.result c.in_ok-header.ensures.ok c.after_header.ensures
