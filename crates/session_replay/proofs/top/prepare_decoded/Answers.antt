use Rattle.std.proofs.Common.{◌≤◌, ℕ, List, length, false, subst, sym}
use Rattle.session_work.specs.Work.{session_limit}
use Rattle.session_work.proofs.Read.{is_read}
use Rattle.session_replay.proofs.top.prepare_decoded.Goals as goal

pub prepare_session-requires-clause-session : goal.prepare_session-requires-clause-session
prepare_session-requires-clause-session c =
    let few = subst (λ (xs : List ℕ). length xs ≤ session_limit) (sym c.as_slice.ensures.value) c.requires.input in
    is_read false c.as_slice.result.now c.in-Ok.session c.in-Ok.ensures.ok c.in-Ok.ensures.session few
