use Rattle.edits_since.proofs.Apart.{take_then_to_now}
use Rattle.edits_since.proofs.laws.edits_take_then_to_now.Goals as goal

pub returns : goal.returns
returns c = take_then_to_now
