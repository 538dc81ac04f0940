use Rattle.std.proofs.Common.{List, subst, sym}
use Rattle.locators.specs.Runs.{kept_runs}
use Rattle.locators.specs.Reading.{AreFull}
use Rattle.locators.specs.declared.runs.Run.{Run}
use Rattle.locators.proofs.RunLists.{full}
use Rattle.locators.proofs.Reading.{parts_none}
use Rattle.locators.proofs.whole.Goals as goal

pub returns-clause-full : goal.returns-clause-full
returns-clause-full c =
    let k : List Run = kept_runs c.args.runs.now in
    subst AreFull (sym (parts_none c.parts.result.0.now c.parts.result.1.now k c.parts.ensures)) (full k c.requires.0)
