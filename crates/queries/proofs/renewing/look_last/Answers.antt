use Rattle.std.proofs.Common.{arith}
use Rattle.text_buffer.proofs.Fronts.{bound_holds}
use Rattle.queries.proofs.Remakes.{bound_most}
use Rattle.queries.proofs.renewing.look_last.Goals as goal

pub returns-clause-bound : goal.returns-clause-bound
returns-clause-bound c = λ h known few.
    let looked = c.in_ok-look_again.ensures in
    let reader = c.look_again.new.reader in
    let most = bound_most c.args.size reader in
    bound_holds c.args.reader.longest reader.longest c.args.told.list h c.bound_for-bound.result looked.begins looked.learned (omega (arith, most, c.bound_for-bound.ensures, c.requires.size)) known few
