use Rattle.std.proofs.Common.{ap, Err}
use Rattle.session_replay.proofs.Outcome.{answered_large}
use Rattle.session_replay.proofs.top.prepare_source.Goals as goal

pub returns-in_ok-bytes_of-in-Err-TooLarge-clause-prepared : goal.returns-in_ok-bytes_of-in-Err-TooLarge-clause-prepared
returns-in_ok-bytes_of-in-Err-TooLarge-clause-prepared g c =
    let e = ap Err c.in-Err-TooLarge.field-0-is in
    let a = answered_large _ _ _ _ _ _ _ _ c.in_ok-bytes_of-in-Err-TooLarge.ensures (c.in-Err-TooLarge.ensures.large e) (c.in-Err-TooLarge.ensures.passed e) in
    record { input = a.input; taken = a.taken; prepared = a.response }
