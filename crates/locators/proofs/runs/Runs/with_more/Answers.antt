use Rattle.std.proofs.Common.{◌≤◌, ◌-◌, take, length, List, [], ◌∷◌, ◌++◌, refl, arith}
use Rattle.locators.specs.Runs.{kept_runs}
use Rattle.locators.specs.declared.runs.Run.{Run}
use Rattle.locators.proofs.RunLists.{gives_both, gives_other, gives_digits, gives_kept, gives_short, too_long}
use Rattle.locators.proofs.runs.Runs.with_more.Goals as goal

pub returns-then-before-run-clause-digits : goal.returns-then-before-run-clause-digits
returns-then-before-run-clause-digits c =
    let k : List Run = kept_runs c.args.self.now in
    gives_digits k c.args.count c.args.run (take c.args.count k ++ c.args.run ∷ []) (gives_other k c.args.count c.args.before c.args.run c.requires.kept.0 c.requires.last c.if-before-run.true c.requires.some) c.front_with.result c.front_with.ensures.runs

pub returns-then-before-run-clause-kept : goal.returns-then-before-run-clause-kept
returns-then-before-run-clause-kept c =
    let k : List Run = kept_runs c.args.self.now in
    gives_kept k c.args.count c.args.run (take c.args.count k ++ c.args.run ∷ []) (gives_other k c.args.count c.args.before c.args.run c.requires.kept.0 c.requires.last c.if-before-run.true c.requires.some) c.front_with.result c.front_with.ensures.runs c.front_with.ensures.long

pub returns-then-before-run-clause-short : goal.returns-then-before-run-clause-short
returns-then-before-run-clause-short c = λ l.
    let k : List Run = kept_runs c.args.self.now in
    c.front_with.ensures.short (gives_short k c.args.count c.args.count c.args.run c.args.run (gives_other k c.args.count c.args.before c.args.run c.requires.kept.0 c.requires.last c.if-before-run.true c.requires.some) c.requires.within l)

pub returns-in_err-total-clause-short : goal.returns-in_err-total-clause-short
returns-in_err-total-clause-short c = λ l.
    absurd (too_long (kept_runs c.args.self.now) c.args.count c.args.before c.args.run c.requires.last c.in_err-total.ensures l)

pub returns-clause-digits : goal.returns-clause-digits
returns-clause-digits c =
    let k : List Run = kept_runs c.args.self.now in
    let both : Run = record { digit = c.args.run.digit; count = c.in_ok-total.total } in
    gives_digits k c.args.count c.args.run (take (c.args.count - 1) k ++ both ∷ []) (gives_both k c.args.count c.args.before c.args.run both c.requires.kept.0 c.requires.last c.if-before-run.false refl c.in_ok-total.ensures c.requires.some) c.front_with-2.result c.front_with-2.ensures.runs

pub returns-clause-kept : goal.returns-clause-kept
returns-clause-kept c =
    let k : List Run = kept_runs c.args.self.now in
    let both : Run = record { digit = c.args.run.digit; count = c.in_ok-total.total } in
    gives_kept k c.args.count c.args.run (take (c.args.count - 1) k ++ both ∷ []) (gives_both k c.args.count c.args.before c.args.run both c.requires.kept.0 c.requires.last c.if-before-run.false refl c.in_ok-total.ensures c.requires.some) c.front_with-2.result c.front_with-2.ensures.runs c.front_with-2.ensures.long

pub returns-clause-short : goal.returns-clause-short
returns-clause-short c = λ l.
    let k : List Run = kept_runs c.args.self.now in
    let both : Run = record { digit = c.args.run.digit; count = c.in_ok-total.total } in
    let within : c.args.count - 1 ≤ length k = omega (arith, c.requires.within) in
    c.front_with-2.ensures.short (gives_short k c.args.count (c.args.count - 1) c.args.run both (gives_both k c.args.count c.args.before c.args.run both c.requires.kept.0 c.requires.last c.if-before-run.false refl c.in_ok-total.ensures c.requires.some) within l)
