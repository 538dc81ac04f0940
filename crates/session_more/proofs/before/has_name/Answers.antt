use Rattle.std.proofs.Common.{◌∙◌}
use Rattle.session_lines.proofs.LineNames.{name_found}
use Rattle.session_more.proofs.before.has_name.Goals as goal

pub returns : goal.returns
returns c = c.contains.ensures ∙ name_found c.args.names.now c.args.name.now
