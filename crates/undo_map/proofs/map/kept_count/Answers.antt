use Rattle.std.proofs.Common.{◌∙◌, sym, ap}
use Rattle.undo_map.proofs.Setting.{count_in, count_held}
use Rattle.undo_map.proofs.map.kept_count.Goals as goal

pub returns-in-Some : goal.returns-in-Some
returns-in-Some c = sym (count_held c.args.entries.now.items c.args.key c.requires.ascending ∙ ap count_in (sym c.in-Some.ensures))

pub returns-in-None : goal.returns-in-None
returns-in-None c = sym (count_held c.args.entries.now.items c.args.key c.requires.ascending ∙ ap count_in (sym c.in-None.ensures))
