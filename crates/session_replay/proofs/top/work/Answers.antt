use Rattle.std.proofs.Common.{refl}
use Rattle.session_replay.specs.declared.top.Status.TheVariants as status
use Rattle.session_replay.proofs.Sent.{never_fails, not_sent, sent_done, sent_session, sent_ended, sent_large, sent_front, completes, refuses}
use Rattle.session_replay.proofs.top.work.Goals as goal

pub send-requires : goal.send-requires
send-requires g c = never_fails _ _ _ _ _ _ _ _ _ c.in-Ok.ensures.response

pub returns-in-Ok-clause-usage : goal.returns-in-Ok-clause-usage
returns-in-Ok-clause-usage g c = λ k. absurd (not_sent _ _ _ _ _ _ _ _ _ _ _ _ _ c.as_slice.ensures.value c.in-Ok.ensures.response c.send.ensures.either c.send.ensures.whole status.Usage (λ x. cc) (λ x. cc) (λ x. cc) (λ x. cc) k)

pub returns-in-Ok-clause-done : goal.returns-in-Ok-clause-done
returns-in-Ok-clause-done g c = λ k.
    sent_done _ _ _ _ _ _ _ _ _ _ _ _ _ c.as_slice.ensures.value c.in-Ok.ensures.response c.send.ensures.either c.send.ensures.whole k

pub returns-in-Ok-clause-session : goal.returns-in-Ok-clause-session
returns-in-Ok-clause-session g c = sent_session _ _ _ _ _ _ _ _ _ _ _ _ _ c.as_slice.ensures.value c.in-Ok.ensures.response c.send.ensures.either c.send.ensures.whole

pub returns-in-Ok-clause-ended : goal.returns-in-Ok-clause-ended
returns-in-Ok-clause-ended g c = sent_ended _ _ _ _ _ _ _ _ _ _ _ _ _ c.as_slice.ensures.value c.in-Ok.ensures.response c.send.ensures.either c.send.ensures.whole

pub returns-in-Ok-clause-large : goal.returns-in-Ok-clause-large
returns-in-Ok-clause-large g c = sent_large _ _ _ _ _ _ _ _ _ _ _ _ _ c.as_slice.ensures.value c.in-Ok.ensures.response c.send.ensures.either c.send.ensures.whole

pub returns-in-Ok-clause-read_fault : goal.returns-in-Ok-clause-read_fault
returns-in-Ok-clause-read_fault g c = λ k. absurd (not_sent _ _ _ _ _ _ _ _ _ _ _ _ _ c.as_slice.ensures.value c.in-Ok.ensures.response c.send.ensures.either c.send.ensures.whole status.ReadFault (λ x. cc) (λ x. cc) (λ x. cc) (λ x. cc) k)

pub returns-in-Ok-clause-memory : goal.returns-in-Ok-clause-memory
returns-in-Ok-clause-memory g c = λ k. absurd (not_sent _ _ _ _ _ _ _ _ _ _ _ _ _ c.as_slice.ensures.value c.in-Ok.ensures.response c.send.ensures.either c.send.ensures.whole status.Memory (λ x. cc) (λ x. cc) (λ x. cc) (λ x. cc) k)

pub returns-in-Ok-clause-report_front : goal.returns-in-Ok-clause-report_front
returns-in-Ok-clause-report_front g c = λ k.
    sent_front _ _ _ _ _ _ _ _ _ _ _ _ _ c.as_slice.ensures.value c.in-Ok.ensures.response c.send.ensures.either c.send.ensures.whole c.args.task refl (c.send.ensures.front k)

pub returns-in-Ok-clause-completes : goal.returns-in-Ok-clause-completes
returns-in-Ok-clause-completes g c = λ reads writes. completes _ _ _ _ _ _ _ _ _ _ _ _ _ c.as_slice.ensures.value c.in-Ok.ensures.response c.send.ensures.either c.send.ensures.whole (λ k. writes (c.send.ensures.cause k))

pub returns-in-Ok-clause-refuses : goal.returns-in-Ok-clause-refuses
returns-in-Ok-clause-refuses g c = λ reads writes. refuses _ _ _ _ _ _ _ _ _ _ _ _ _ c.as_slice.ensures.value c.in-Ok.ensures.response c.send.ensures.either c.send.ensures.whole (λ k. writes (c.send.ensures.cause k))
