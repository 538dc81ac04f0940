use Rattle.std.proofs.Common.{ap, ◌∙◌}
use Rattle.session_lines.specs.Before.{name_added, names_of}
use Rattle.session_lines.proofs.LineNames.{names_added}
use Rattle.session_more.proofs.before.add_name.Goals as goal

pub returns-clause-added : goal.returns-clause-added
returns-clause-added c =
    names_added c.args.names.now c.insert.new.self c.in_ok-from_str.field-0 c.in_ok-insert.ensures.keys
    ∙ ap (name_added (names_of c.args.names.now)) c.in_ok-from_str.ensures.ok
