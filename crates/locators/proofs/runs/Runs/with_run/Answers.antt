use Rattle.std.proofs.Common.{take, List, [], ◌∷◌, ◌++◌}
use Rattle.locators.specs.Runs.{kept_runs}
use Rattle.locators.specs.declared.runs.Run.{Run}
use Rattle.locators.proofs.RunLists.{gives_first, gives_digits, gives_kept, gives_short}
use Rattle.locators.proofs.runs.Runs.with_run.Goals as goal

pub returns-in-None-clause-digits : goal.returns-in-None-clause-digits
returns-in-None-clause-digits c =
    let k : List Run = kept_runs c.args.self.now in
    gives_digits k c.args.count c.args.run (take c.args.count k ++ c.args.run ∷ []) (gives_first k c.args.count c.args.run c.in-None.ensures c.requires.some) c.front_with.result c.front_with.ensures.runs

pub returns-in-None-clause-kept : goal.returns-in-None-clause-kept
returns-in-None-clause-kept c =
    let k : List Run = kept_runs c.args.self.now in
    gives_kept k c.args.count c.args.run (take c.args.count k ++ c.args.run ∷ []) (gives_first k c.args.count c.args.run c.in-None.ensures c.requires.some) c.front_with.result c.front_with.ensures.runs c.front_with.ensures.long

pub returns-in-None-clause-short : goal.returns-in-None-clause-short
returns-in-None-clause-short c = λ l.
    let k : List Run = kept_runs c.args.self.now in
    c.front_with.ensures.short (gives_short k c.args.count c.args.count c.args.run c.args.run (gives_first k c.args.count c.args.run c.in-None.ensures c.requires.some) c.requires.within l)
