use Rattle.excerpt_desk.proofs.Following.{edited}
use Rattle.excerpt_desk.proofs.desk.edit.Goals as goal

pub returns : goal.returns
returns c = edited c.edit_uncounted.result c.args.buffer.now c.edit_uncounted.new.self c.edit_uncounted.ensures.history c.edit_uncounted.ensures.err
