use Rattle.std.proofs.Common.{rules}
use Rattle.fold_map_tests.proofs.Fronts.{taken_front}
use Rattle.fold_map_tests.proofs.editor.take.Goals as goal

pub returns : goal.returns
returns g c = taken_front c.args.buffer.now c.take.new.self c.args.op (search rules)
