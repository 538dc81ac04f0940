use Rattle.std.proofs.Common.{Some, None, refl, ◌∙◌, ap, ◌≡◌}
use Rattle.lamport_clock.specs.Versions.{within}
use Rattle.op_model.specs.Operations.{version_of}
use Rattle.op_model.specs.Answers.{first_missing}
use Rattle.op_model.proofs.answers.Answering.{causes_known}
use Rattle.op_answers.proofs.Answering.{cause_by}
use Rattle.op_answers.proofs.verdict.cause_verdict.Goals as goal

pub returns-in-Some : goal.returns-in-Some
returns-in-Some c = cause_by c.args.applied.now c.args.op.now (Some c.in-Some.fault) _ _ (c.in-Some.ensures c.args.applied.now c.requires.version) refl refl

pub returns-in-Some-first_missing : goal.returns-in-Some-first_missing
returns-in-Some-first_missing c = cause_by c.args.applied.now c.args.op.now None (Some (c.in-Some-first_missing.replica, c.in-Some-first_missing.value)) _ (c.in_default.ensures c.args.applied.now c.requires.version) (cc) refl

pub open_among-requires-clause-known : goal.open_among-requires-clause-known
open_among-requires-clause-known c =
    let m : None ≡ first_missing c.args.applied.now (version_of c.args.op.now) = cc in
    ap (within (version_of c.args.op.now)) c.requires.version ∙ causes_known c.args.applied.now (version_of c.args.op.now) m

pub returns-in-Some-open_among : goal.returns-in-Some-open_among
returns-in-Some-open_among c = cause_by c.args.applied.now c.args.op.now None None (Some c.in-Some-open_among.replica) (c.in_default.ensures c.args.applied.now c.requires.version) (cc) c.in-Some-open_among.ensures

pub returns : goal.returns
returns c = cause_by c.args.applied.now c.args.op.now None None None (c.in_default.ensures c.args.applied.now c.requires.version) (cc) c.in_default-open_among.ensures
