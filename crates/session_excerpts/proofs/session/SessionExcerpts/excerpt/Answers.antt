use Rattle.std.proofs.Common.{take, sym, ap, subst, ◌∙◌}
use Rattle.multi_buffer.specs.State.{MultiState}
use Rattle.session_selections.specs.Names.{by_bytes}
use Rattle.session_excerpts.specs.Answers.{after_put}
use Rattle.session_excerpts.specs.Lines.{history_at}
use Rattle.session_excerpts.specs.State.{GoOn, sync_all}
use Rattle.session_excerpts.proofs.Carried.{new_goes_on}
use Rattle.session_excerpts.proofs.Under.{found_at, missing_at, put_at, same_at, written_at}
use Rattle.session_excerpts.proofs.Worked.{answer_of, excerpt_put, excerpt_put_first, excerpt_said, excerpt_said_first, goes_on, has_room, on_err, stays}
use Rattle.session_excerpts.proofs.session.SessionExcerpts.excerpt.Goals as goal

pub put_excerpt-requires-clause-within : goal.put_excerpt-requires-clause-within
put_excerpt-requires-clause-within c =
    let found = found_at c.as_str.result.now c.args.name c.self.inside.multis c.args.self.now c.as_str.ensures c.self.view_is c.get_mut.result c.in-Some.multi c.in-Some.is c.get_mut.ensures.value in
    goes_on c.args.name c.args.snapshots.items c.args.self.now c.in-Some.multi.now found c.requires.within

pub put_excerpt-requires-clause-few : goal.put_excerpt-requires-clause-few
put_excerpt-requires-clause-few c =
    let found = found_at c.as_str.result.now c.args.name c.self.inside.multis c.args.self.now c.as_str.ensures c.self.view_is c.get_mut.result c.in-Some.multi c.in-Some.is c.get_mut.ensures.value in
    has_room c.args.name c.args.snapshots.items c.args.self.now c.in-Some.multi.now found c.requires.room

pub returns-in_err-answer-clause-err : goal.returns-in_err-answer-clause-err
returns-in_err-answer-clause-err c =
    let found = found_at c.as_str.result.now c.args.name c.self.inside.multis c.args.self.now c.as_str.ensures c.self.view_is c.get_mut.result c.in-Some.multi c.in-Some.is c.get_mut.ensures.value in
    let stop = c.in_err-answer.ensures.err in
    let n = c.put_excerpt.new.multi in
    on_err c.from_residual.result _ (stop.0, written_at c.as_str.result.now c.args.name c.self.inside.multis c.args.self.now c.as_str.ensures c.self.view_is (sync_all (take stop.0 c.args.snapshots.items)) c.in-Some.multi.now n (c.get_mut.follows.lender n) found stop.1 (c.get_mut.follows.holds n).0)

pub returns-in-Some-clause-report : goal.returns-in-Some-clause-report
returns-in-Some-clause-report c =
    let found = found_at c.as_str.result.now c.args.name c.self.inside.multis c.args.self.now c.as_str.ensures c.self.view_is c.get_mut.result c.in-Some.multi c.in-Some.is c.get_mut.ensures.value in
    excerpt_said c.args.name c.args.snapshots.items c.args.self.now c.in-Some.multi.now found c.args.replica c.args.start c.args.end c.in_ok-answer.answer c.in_ok-answer.ensures.answer

pub returns-in-Some-clause-state : goal.returns-in-Some-clause-state
returns-in-Some-clause-state c =
    let found = found_at c.as_str.result.now c.args.name c.self.inside.multis c.args.self.now c.as_str.ensures c.self.view_is c.get_mut.result c.in-Some.multi c.in-Some.is c.get_mut.ensures.value in
    let n = c.put_excerpt.new.multi in
    let hs = c.args.snapshots.items in
    written_at c.as_str.result.now c.args.name c.self.inside.multis c.args.self.now c.as_str.ensures c.self.view_is (λ m. after_put c.args.replica (history_at c.args.replica hs) c.args.start c.args.end (sync_all hs m)) c.in-Some.multi.now n (c.get_mut.follows.lender n) found c.in_ok-answer.ensures.after (c.get_mut.follows.holds n).0
    ∙ excerpt_put c.args.name hs c.args.self.now c.in-Some.multi.now found c.args.replica c.args.start c.args.end

pub returns-in_err-multi-clause-err : goal.returns-in_err-multi-clause-err
returns-in_err-multi-clause-err c =
    let none = missing_at c.as_str.result.now c.args.name c.self.inside.multis c.args.self.now c.as_str.ensures c.self.view_is c.get_mut.result c.in_default.is c.get_mut.ensures.value in
    on_err c.from_residual-in_err-multi.result _ (stays c.args.name c.args.snapshots.items c.args.self.now none _ (same_at c.as_str.result.now c.args.name c.self.inside.multis c.args.self.now c.as_str.ensures c.self.view_is c.get_mut.follows.lender-at-none c.get_mut.follows.holds-at-none))

pub put_excerpt-requires-2-clause-within : goal.put_excerpt-requires-2-clause-within
put_excerpt-requires-2-clause-within c = subst (GoOn c.args.snapshots.items) (sym c.in_ok-multi.ensures) (new_goes_on 0 c.args.snapshots.items)

pub returns-in_err-answer-2-clause-err : goal.returns-in_err-answer-2-clause-err
returns-in_err-answer-2-clause-err c =
    let none = missing_at c.as_str.result.now c.args.name c.self.inside.multis c.args.self.now c.as_str.ensures c.self.view_is c.get_mut.result c.in_default.is c.get_mut.ensures.value in
    on_err c.from_residual-in_err-answer-2.result _ (stays c.args.name c.args.snapshots.items c.args.self.now none _ (same_at c.as_str.result.now c.args.name c.self.inside.multis c.args.self.now c.as_str.ensures c.self.view_is c.get_mut.follows.lender-at-none c.get_mut.follows.holds-at-none))

pub returns-in_err-from_str-clause-err : goal.returns-in_err-from_str-clause-err
returns-in_err-from_str-clause-err c =
    let none = missing_at c.as_str.result.now c.args.name c.self.inside.multis c.args.self.now c.as_str.ensures c.self.view_is c.get_mut.result c.in_default.is c.get_mut.ensures.value in
    on_err c.from_residual-in_err-from_str.result _ (stays c.args.name c.args.snapshots.items c.args.self.now none _ (same_at c.as_str.result.now c.args.name c.self.inside.multis c.args.self.now c.as_str.ensures c.self.view_is c.get_mut.follows.lender-at-none c.get_mut.follows.holds-at-none))

pub returns-in_err-insert-clause-err : goal.returns-in_err-insert-clause-err
returns-in_err-insert-clause-err c =
    let none = missing_at c.as_str.result.now c.args.name c.self.inside.multis c.args.self.now c.as_str.ensures c.self.view_is c.get_mut.result c.in_default.is c.get_mut.ensures.value in
    let same = same_at c.as_str.result.now c.args.name c.self.inside.multis c.args.self.now c.as_str.ensures c.self.view_is c.get_mut.follows.lender-at-none c.get_mut.follows.holds-at-none in
    on_err c.from_residual-in_err-insert.result _ (stays c.args.name c.args.snapshots.items c.args.self.now none _ (ap by_bytes c.in_err-insert.ensures.err ∙ same))

pub returns-clause-report : goal.returns-clause-report
returns-clause-report c =
    let none = missing_at c.as_str.result.now c.args.name c.self.inside.multis c.args.self.now c.as_str.ensures c.self.view_is c.get_mut.result c.in_default.is c.get_mut.ensures.value in
    let hs = c.args.snapshots.items in
    let says = ap (answer_of c.args.replica c.args.start c.args.end hs) (sym c.in_ok-multi.ensures) ∙ c.in_ok-answer-2.ensures.answer in
    excerpt_said_first c.args.name hs c.args.self.now none c.args.replica c.args.start c.args.end c.in_ok-answer-2.answer says

pub returns-clause-state : goal.returns-clause-state
returns-clause-state c =
    let none = missing_at c.as_str.result.now c.args.name c.self.inside.multis c.args.self.now c.as_str.ensures c.self.view_is c.get_mut.result c.in_default.is c.get_mut.ensures.value in
    let hs = c.args.snapshots.items in
    let m = c.put_excerpt-2.new.multi in
    let new = c.in_ok-answer-2.ensures.after ∙ ap (λ (x : MultiState). after_put c.args.replica (history_at c.args.replica hs) c.args.start c.args.end (sync_all hs x)) c.in_ok-multi.ensures in
    put_at c.as_str.result.now c.args.name c.self.inside.multis c.args.self.now c.as_str.ensures c.self.view_is c.in_ok-from_str.field-0 m (c.in_ok-from_str.ensures.ok ∙ c.as_str-2.ensures) c.get_mut.follows.lender-at-none c.insert.new.self c.get_mut.follows.holds-at-none c.in_ok-insert.ensures.entries
    ∙ excerpt_put_first c.args.name hs c.args.self.now none c.args.replica c.args.start c.args.end m new
