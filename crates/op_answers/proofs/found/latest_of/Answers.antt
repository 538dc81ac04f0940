use Rattle.std.proofs.Common.{sym, ap, ◌∙◌}
use Rattle.lamport_clock.specs.Versions.{Entries, within}
use Rattle.op_model.specs.Operations.{version_of}
use Rattle.op_model.proofs.answers.Closing.{found_in}
use Rattle.op_answers.proofs.found.latest_of.Goals as goal

pub returns-in-Some : goal.returns-in-Some
returns-in-Some c =
    let o = c.in-Some.latest.now in (
      found_in c.args.applied.now _ o (sym c.in-Some.ensures),
      ap (within (version_of o)) (sym c.version-theirs.ensures) ∙ ap (λ (u : Entries). within u c.version-theirs.result.now) (sym c.version.ensures) ∙ sym c.sees_all.ensures ∙ c.if-sees_all.true,
    )
