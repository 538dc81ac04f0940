use Rattle.std.proofs.Common.{ap}
use Rattle.undo_map.proofs.Seeking.{cursor_first}
use Rattle.undo_map.proofs.map.entries_from.Goals as goal

pub returns-clause-within : goal.returns-clause-within
returns-clause-within c = (cursor_first c.args.edit c.args.entries.now.items c.in-Ok.cursor.items c.in-Ok.cursor.from.key c.in-Ok.cursor.index c.seek.new.self.index c.requires.ascending c.in-Ok.ensures.items (ap (λ g. g.key) c.in-Ok.ensures.from) c.in-Ok.ensures.index (ap (λ p. p.index) c.in-Ok-seek.ensures.moved)).within

pub returns-clause-early : goal.returns-clause-early
returns-clause-early c = (cursor_first c.args.edit c.args.entries.now.items c.in-Ok.cursor.items c.in-Ok.cursor.from.key c.in-Ok.cursor.index c.seek.new.self.index c.requires.ascending c.in-Ok.ensures.items (ap (λ g. g.key) c.in-Ok.ensures.from) c.in-Ok.ensures.index (ap (λ p. p.index) c.in-Ok-seek.ensures.moved)).early

pub returns-clause-late : goal.returns-clause-late
returns-clause-late c = (cursor_first c.args.edit c.args.entries.now.items c.in-Ok.cursor.items c.in-Ok.cursor.from.key c.in-Ok.cursor.index c.seek.new.self.index c.requires.ascending c.in-Ok.ensures.items (ap (λ g. g.key) c.in-Ok.ensures.from) c.in-Ok.ensures.index (ap (λ p. p.index) c.in-Ok-seek.ensures.moved)).late
