use Rattle.session_replay.proofs.Outcome.{refused_answer}
use Rattle.session_replay.proofs.top.respond_to_fault.Goals as goal

pub returns-clause-prepared : goal.returns-clause-prepared
returns-clause-prepared c = λ task input reads le e. refused_answer task input c.args.fault _ _ reads le e c.in_ok-status.ensures
