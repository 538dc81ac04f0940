use Rattle.std.proofs.Common.{inr, refl}
use Rattle.session_writer.proofs.Decoding.{was_session}
use Rattle.session_writer.proofs.Written.{some_bytes}
use Rattle.session_writer.proofs.migrating.migrate.Goals as goal

pub returns-in-Err-clause-fault : goal.returns-in-Err-clause-fault
returns-in-Err-clause-fault c =
    let e = c.in_ok-session.ensures.ok in inr (some_bytes c.args.input.now c.in_ok-session.session e, (was_session c.args.input.now c.in_ok-session.session e).0, refl)
