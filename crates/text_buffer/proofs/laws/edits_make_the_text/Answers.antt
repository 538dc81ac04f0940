use Rattle.text_buffer.proofs.Alike.{make_the_text}
use Rattle.text_buffer.proofs.laws.edits_make_the_text.Goals as goal

pub returns : goal.returns
returns c = make_the_text c.args.snapshot.now c.known.ensures.lawful
