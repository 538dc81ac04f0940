use Rattle.std.proofs.Common.{◌≡◌, ◌&&◌, ltb, not, true, false, sym, ap, subst, ◌∙◌}
use Rattle.std.specs.Option.{option_copied}
use Rattle.lamport_clock.specs.Versions.{Entries, IsVersion, within}
use Rattle.op_model.specs.Operations.{version_of}
use Rattle.op_model.specs.Histories.{version}
use Rattle.op_model.specs.Answers.{is_entry_closed}
use Rattle.op_model.proofs.answers.Good.{lawful_ready}
use Rattle.op_model.proofs.answers.Closing.{same_closed}
use Rattle.op_answers.proofs.Closing.{told_closed}
use Rattle.op_answers.proofs.found.open_among.Goals as goal

pub returns-then-sees_all : goal.returns-then-sees_all
returns-then-sees_all c =
    let h = c.args.applied.now in
    let v : Entries = version_of c.args.op.now in
    let is : IsVersion v = subst IsVersion c.version-theirs.ensures c.as_slice-entries.ensures.kept in
    let known : within v (version h) ≡ true = ap (within v) (sym c.requires.version) ∙ c.requires.known in
    let all : within (version h) v ≡ true =
    sym (ap (λ (u : Entries). within u c.version-theirs.result.now) c.requires.version ∙ ap (within (version h)) c.version-theirs.ensures) ∙ sym c.sees_all.ensures ∙ c.if-sees_all.true in
    sym (same_closed h v c.requires.lawful is known all)

pub first_open-requires-clause-applied : goal.first_open-requires-clause-applied
first_open-requires-clause-applied c = (lawful_ready c.args.applied.now c.requires.lawful).0.distinct

pub first_open-requires-clause-latest : goal.first_open-requires-clause-latest
first_open-requires-clause-latest c e t =
    let h = c.args.applied.now in
    subst (λ (v : Entries). (ltb 0 e.1 && not (is_entry_closed h v e)) ≡ false) (sym c.version-theirs.ensures)
    (told_closed h (version_of c.args.op.now) (option_copied c.latest_of.result) c.requires.lawful c.latest_of.ensures e t)
