use Rattle.std.proofs.Common.{List, take, ap, ◌∙◌}
use Rattle.op_model.specs.declared.operation.Piece.{Piece}
use Rattle.session_excerpts.specs.Lines.{medit_split}
use Rattle.session_excerpts.specs.State.{sync_all}
use Rattle.session_excerpts.proofs.Under.{found_at, missing_at, same_at, written_at}
use Rattle.session_excerpts.proofs.Worked.{goes_on, no_split, split_said, on_err, unchanged}
use Rattle.session_excerpts.proofs.session.SessionExcerpts.split.Goals as goal

pub returns-in_default-clause-answer : goal.returns-in_default-clause-answer
returns-in_default-clause-answer c =
    let none = missing_at c.as_str.result.now c.args.name.now c.self.inside.multis c.args.self.now c.as_str.ensures c.self.view_is c.get_mut.result c.in_default.is c.get_mut.ensures.value in
    no_split c.args.name.now c.args.snapshots.items c.args.self.now none c.args.changes.now

pub returns-in_default-clause-state : goal.returns-in_default-clause-state
returns-in_default-clause-state c =
    let none = missing_at c.as_str.result.now c.args.name.now c.self.inside.multis c.args.self.now c.as_str.ensures c.self.view_is c.get_mut.result c.in_default.is c.get_mut.ensures.value in
    unchanged c.args.name.now c.args.snapshots.items c.args.self.now none _ (same_at c.as_str.result.now c.args.name.now c.self.inside.multis c.args.self.now c.as_str.ensures c.self.view_is c.get_mut.follows.lender-at-none c.get_mut.follows.holds-at-none)

pub split-requires-clause-within : goal.split-requires-clause-within
split-requires-clause-within c =
    let found = found_at c.as_str.result.now c.args.name.now c.self.inside.multis c.args.self.now c.as_str.ensures c.self.view_is c.get_mut.result c.in-Some.multi c.in-Some.is c.get_mut.ensures.value in
    goes_on c.args.name.now c.args.snapshots.items c.args.self.now c.in-Some.multi.now found c.requires.within

pub returns-in_err-split-clause-err : goal.returns-in_err-split-clause-err
returns-in_err-split-clause-err c =
    let found = found_at c.as_str.result.now c.args.name.now c.self.inside.multis c.args.self.now c.as_str.ensures c.self.view_is c.get_mut.result c.in-Some.multi c.in-Some.is c.get_mut.ensures.value in
    let stop = c.in_err-split.ensures.err in
    let n = c.split.new.multi in
    on_err c.from_residual.result _ (stop.0, written_at c.as_str.result.now c.args.name.now c.self.inside.multis c.args.self.now c.as_str.ensures c.self.view_is (sync_all (take stop.0 c.args.snapshots.items)) c.in-Some.multi.now n (c.get_mut.follows.lender n) found stop.1 (c.get_mut.follows.holds n).0)

pub returns-clause-answer : goal.returns-clause-answer
returns-clause-answer c =
    let found = found_at c.as_str.result.now c.args.name.now c.self.inside.multis c.args.self.now c.as_str.ensures c.self.view_is c.get_mut.result c.in-Some.multi c.in-Some.is c.get_mut.ensures.value in
    split_said c.args.name.now c.args.snapshots.items c.args.self.now c.in-Some.multi.now found c.as_slice.result.now c.in_ok-split.field-0 c.in_ok-split.ensures.answer
    ∙ ap (λ (ps : List Piece). medit_split c.args.name.now ps c.args.snapshots.items c.args.self.now) c.as_slice.ensures

pub returns-clause-state : goal.returns-clause-state
returns-clause-state c =
    let found = found_at c.as_str.result.now c.args.name.now c.self.inside.multis c.args.self.now c.as_str.ensures c.self.view_is c.get_mut.result c.in-Some.multi c.in-Some.is c.get_mut.ensures.value in
    let n = c.split.new.multi in
    written_at c.as_str.result.now c.args.name.now c.self.inside.multis c.args.self.now c.as_str.ensures c.self.view_is (sync_all c.args.snapshots.items) c.in-Some.multi.now n (c.get_mut.follows.lender n) found c.in_ok-split.ensures.after (c.get_mut.follows.holds n).0
