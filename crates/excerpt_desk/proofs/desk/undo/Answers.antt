use Rattle.excerpt_desk.proofs.Following.{edited}
use Rattle.excerpt_desk.proofs.desk.undo.Goals as goal

pub returns : goal.returns
returns c = edited c.undo.result c.args.buffer.now c.undo.new.self c.undo.ensures.history c.undo.ensures.err
