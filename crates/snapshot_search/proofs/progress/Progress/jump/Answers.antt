use Rattle.std.proofs.Common.{◌+◌, sym, subst, refl, arith}
use Rattle.std.proofs.Math.Seq.{take-length}
use Rattle.snapshot_search.specs.Progress.{Reads}
use Rattle.snapshot_search.proofs.Reading.{reads_jump, reads_rest}
use Rattle.snapshot_search.proofs.progress.Progress.jump.Goals as goal

pub returns-in_ok-hit-in-Some-clause-reads : goal.returns-in_ok-hit-in-Some-clause-reads
returns-in_ok-hit-in-Some-clause-reads c =
    let len = c.len.ensures.len in
    let some = c.len.ensures.some in
    let first = c.in-Some.ensures in
    let hit = c.in_ok-hit-in-Some.ensures in
    reads_jump c.args.needle.now c.args.piece.now c.in-Some.place (c.in-Some.place + c.len.result) c.args.self.now c.hit.new.self (omega arith) c.requires.matched (omega arith)
    first.0 first.1 hit.overlap hit.place hit.found

pub returns-in_ok-step_along-in-None-clause-reads :
    goal.returns-in_ok-step_along-in-None-clause-reads
returns-in_ok-step_along-in-None-clause-reads c =
    let piece = c.args.piece.now in
    let len = c.len-in-None.ensures.len in
    let some = c.len-in-None.ensures.some in
    let passed = c.saturating_sub-passed.ensures in
    subst (λ xs. Reads c.args.needle.now xs c.args.self.now c.step_along.new.self) (sym (take-length piece))
    (reads_rest c.args.needle.now piece c.saturating_sub-passed.result c.args.self.now (record c.args.self.now { start = c.args.self.now.start + c.saturating_sub-passed.result }) c.step_along.new.self (omega arith) c.requires.matched (omega arith)
    c.in-None.ensures refl c.requires.matched refl c.in_ok-step_along-in-None.ensures)
