use Rattle.std.proofs.Common.{sym, is_none}
use Rattle.std.proofs.lemmas.Iterator.Adapters.{position_from-zero}
use Rattle.selections.specs.declared.selection.Selection.{Selection}
use Rattle.selections.specs.Places.{place_of}
use Rattle.selections.proofs.places.fault_of.Goals as goal

pub loop-i-init : goal.loop-i-init
loop-i-init c = sym (position_from-zero (λ (r : Selection). is_none (place_of c.args.snapshot.now r)) c.args.ranges.now)
