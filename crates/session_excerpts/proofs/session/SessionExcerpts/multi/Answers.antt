use Rattle.std.proofs.Common.{take}
use Rattle.session_excerpts.specs.State.{sync_all}
use Rattle.session_excerpts.proofs.Under.{found_at, missing_at, same_at, written_at}
use Rattle.session_excerpts.proofs.Worked.{goes_on, no_text, multi_said, on_err, unchanged}
use Rattle.session_excerpts.proofs.session.SessionExcerpts.multi.Goals as goal

pub returns-in_default-clause-report : goal.returns-in_default-clause-report
returns-in_default-clause-report c =
    let none = missing_at c.as_str.result.now c.args.name c.self.inside.multis c.args.self.now c.as_str.ensures c.self.view_is c.get_mut.result c.in_default.is c.get_mut.ensures.value in
    no_text c.args.name c.args.snapshots.items c.args.self.now none

pub returns-in_default-clause-state : goal.returns-in_default-clause-state
returns-in_default-clause-state c =
    let none = missing_at c.as_str.result.now c.args.name c.self.inside.multis c.args.self.now c.as_str.ensures c.self.view_is c.get_mut.result c.in_default.is c.get_mut.ensures.value in
    unchanged c.args.name c.args.snapshots.items c.args.self.now none _ (same_at c.as_str.result.now c.args.name c.self.inside.multis c.args.self.now c.as_str.ensures c.self.view_is c.get_mut.follows.lender-at-none c.get_mut.follows.holds-at-none)

pub text-requires-clause-within : goal.text-requires-clause-within
text-requires-clause-within c =
    let found = found_at c.as_str.result.now c.args.name c.self.inside.multis c.args.self.now c.as_str.ensures c.self.view_is c.get_mut.result c.in-Some.multi c.in-Some.is c.get_mut.ensures.value in
    goes_on c.args.name c.args.snapshots.items c.args.self.now c.in-Some.multi.now found c.requires.within

pub returns-in_err-text-clause-err : goal.returns-in_err-text-clause-err
returns-in_err-text-clause-err c =
    let found = found_at c.as_str.result.now c.args.name c.self.inside.multis c.args.self.now c.as_str.ensures c.self.view_is c.get_mut.result c.in-Some.multi c.in-Some.is c.get_mut.ensures.value in
    let stop = c.in_err-text.ensures.err in
    let n = c.text.new.multi in
    on_err c.from_residual.result _ (stop.0, written_at c.as_str.result.now c.args.name c.self.inside.multis c.args.self.now c.as_str.ensures c.self.view_is (sync_all (take stop.0 c.args.snapshots.items)) c.in-Some.multi.now n (c.get_mut.follows.lender n) found stop.1 (c.get_mut.follows.holds n).0)

pub returns-clause-report : goal.returns-clause-report
returns-clause-report c =
    let found = found_at c.as_str.result.now c.args.name c.self.inside.multis c.args.self.now c.as_str.ensures c.self.view_is c.get_mut.result c.in-Some.multi c.in-Some.is c.get_mut.ensures.value in
    multi_said c.args.name c.args.snapshots.items c.args.self.now c.in-Some.multi.now found c.in_ok-text.text c.in_ok-text.ensures.text

pub returns-clause-state : goal.returns-clause-state
returns-clause-state c =
    let found = found_at c.as_str.result.now c.args.name c.self.inside.multis c.args.self.now c.as_str.ensures c.self.view_is c.get_mut.result c.in-Some.multi c.in-Some.is c.get_mut.ensures.value in
    let n = c.text.new.multi in
    written_at c.as_str.result.now c.args.name c.self.inside.multis c.args.self.now c.as_str.ensures c.self.view_is (sync_all c.args.snapshots.items) c.in-Some.multi.now n (c.get_mut.follows.lender n) found c.in_ok-text.ensures.after (c.get_mut.follows.holds n).0
