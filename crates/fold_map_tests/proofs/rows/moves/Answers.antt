use Rattle.std.proofs.Common.{sym, ap}
use Rattle.text_buffer.specs.Buffer.{BufferState}
use Rattle.text_buffer.proofs.Fronts.{front_itself}
use Rattle.fold_map_tests.proofs.Fronts.{same_front}
use Rattle.fold_map_tests.proofs.rows.moves.Goals as goal

pub returns-in-Theirs : goal.returns-in-Theirs
returns-in-Theirs g c = same_front c.args.authors.now.own.history c.edit_theirs.new.self.own.history (ap (λ (b : BufferState). b.history) (sym c.edit_theirs.ensures))

pub returns-in_default : goal.returns-in_default
returns-in_default g c = front_itself c.args.authors.now.own.history
