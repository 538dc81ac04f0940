use Rattle.std.proofs.Common.{◌∙◌, ℕ, drop, sym, ap, refl, arith}
use Rattle.std.specs.Option.{option_copied}
use Rattle.remote_edit.specs.declared.among.Lent.{Lent}
use Rattle.remote_edit.specs.Among.{kept_count}
use Rattle.remote_edit.proofs.Kept.{step_kept}
use Rattle.remote_edit.proofs.MovesAmong.{begin, step, end}
use Rattle.remote_edit.proofs.among.moves_counted.Goals as goal

pub loop-moves-init : goal.loop-moves-init
loop-moves-init g c = record {
  walked = begin (λ (l : Lent g.row.K.Denot). g.K.Keep.keeps l.keep.now) (g.K.Keep.keeps c.args.may_change.now) (g.C.Change.does c.args.change.now) c.args.tree.now.items
      (record { keep = c.args.may_change }) c.new-moves.result c.in_ok-found.found refl c.new-moves.ensures c.in_ok-found.ensures.made;
  cost = (let z = ap (λ p. p.next) c.in_ok-found.ensures.made in let e = ap (λ (n : ℕ). kept_count (g.K.Keep.keeps c.args.may_change.now) (drop n c.args.tree.now.items)) z in omega (arith, e));
}

pub keep-requires-clause-visible : goal.keep-requires-clause-visible
keep-requires-clause-visible g c =
    (step (λ (l : Lent g.row.K.Denot). g.K.Keep.keeps l.keep.now) (g.K.Keep.keeps c.args.may_change.now) (g.C.Change.does c.args.change.now) c.args.tree.now.items c.loop-moves.moves c.loop-moves.found c.next.new.self c.loop-moves.at c.start-from.result c.loop-moves.invariant.walked
    c.in_ok-fragment.ensures.moved c.start-from.ensures c.in-Some.fragment.now (sym c.in_ok-fragment.ensures.item ∙ ap option_copied c.in-Some.is)).skipped.low

pub keep-requires-clause-hidden : goal.keep-requires-clause-hidden
keep-requires-clause-hidden g c =
    (step (λ (l : Lent g.row.K.Denot). g.K.Keep.keeps l.keep.now) (g.K.Keep.keeps c.args.may_change.now) (g.C.Change.does c.args.change.now) c.args.tree.now.items c.loop-moves.moves c.loop-moves.found c.next.new.self c.loop-moves.at c.start-from.result c.loop-moves.invariant.walked
    c.in_ok-fragment.ensures.moved c.start-from.ensures c.in-Some.fragment.now (sym c.in_ok-fragment.ensures.item ∙ ap option_copied c.in-Some.is)).skipped.low_hidden

pub loop-moves-smaller : goal.loop-moves-smaller
loop-moves-smaller g c =
    (step (λ (l : Lent g.row.K.Denot). g.K.Keep.keeps l.keep.now) (g.K.Keep.keeps c.args.may_change.now) (g.C.Change.does c.args.change.now) c.args.tree.now.items c.loop-moves.moves c.loop-moves.found c.next.new.self c.loop-moves.at c.start-from.result c.loop-moves.invariant.walked
    c.in_ok-fragment.ensures.moved c.start-from.ensures c.in-Some.fragment.now (sym c.in_ok-fragment.ensures.item ∙ ap option_copied c.in-Some.is)).smaller

pub loop-moves-preserved : goal.loop-moves-preserved
loop-moves-preserved g c = record {
  walked = (step (λ (l : Lent g.row.K.Denot). g.K.Keep.keeps l.keep.now) (g.K.Keep.keeps c.args.may_change.now) (g.C.Change.does c.args.change.now) c.args.tree.now.items c.loop-moves.moves c.loop-moves.found c.next.new.self c.loop-moves.at c.start-from.result c.loop-moves.invariant.walked
      c.in_ok-fragment.ensures.moved c.start-from.ensures c.in-Some.fragment.now (sym c.in_ok-fragment.ensures.item ∙ ap option_copied c.in-Some.is)).on
      c.move_of.result c.keep.new.moves c.push.new.self c.end-at.result c.move_of.ensures c.in_ok-keep.ensures c.in_ok-push.ensures.ok c.end-at.ensures;
  cost = (let k = step_kept (λ (l : Lent g.row.K.Denot). g.K.Keep.keeps l.keep.now) (g.K.Keep.keeps c.args.may_change.now) c.args.tree.now.items c.loop-moves.found c.next.new.self c.in-Some.fragment.now
      c.loop-moves.invariant.walked.stands.items c.loop-moves.invariant.walked.stands.keep c.in_ok-fragment.ensures.moved (sym c.in_ok-fragment.ensures.item ∙ ap option_copied c.in-Some.is) in
      let t = c.tick.ensures in
      let i = c.loop-moves.invariant.cost in
      omega (arith, k, t, i));
}

pub keep-requires-2-clause-visible : goal.keep-requires-2-clause-visible
keep-requires-2-clause-visible g c =
    (end (λ (l : Lent g.row.K.Denot). g.K.Keep.keeps l.keep.now) (g.K.Keep.keeps c.args.may_change.now) (g.C.Change.does c.args.change.now) c.args.tree.now.items c.loop-moves.moves c.loop-moves.found c.next.new.self c.loop-moves.at c.start-end.result c.loop-moves.invariant.walked
    c.in_ok-fragment.ensures.moved c.start-end.ensures (sym c.in_ok-fragment.ensures.item ∙ ap option_copied c.in_default.is)).skipped.low

pub keep-requires-2-clause-hidden : goal.keep-requires-2-clause-hidden
keep-requires-2-clause-hidden g c =
    (end (λ (l : Lent g.row.K.Denot). g.K.Keep.keeps l.keep.now) (g.K.Keep.keeps c.args.may_change.now) (g.C.Change.does c.args.change.now) c.args.tree.now.items c.loop-moves.moves c.loop-moves.found c.next.new.self c.loop-moves.at c.start-end.result c.loop-moves.invariant.walked
    c.in_ok-fragment.ensures.moved c.start-end.ensures (sym c.in_ok-fragment.ensures.item ∙ ap option_copied c.in_default.is)).skipped.low_hidden

pub returns-clause-moves : goal.returns-clause-moves
returns-clause-moves g c =
    (end (λ (l : Lent g.row.K.Denot). g.K.Keep.keeps l.keep.now) (g.K.Keep.keeps c.args.may_change.now) (g.C.Change.does c.args.change.now) c.args.tree.now.items c.loop-moves.moves c.loop-moves.found c.next.new.self c.loop-moves.at c.start-end.result c.loop-moves.invariant.walked
    c.in_ok-fragment.ensures.moved c.start-end.ensures (sym c.in_ok-fragment.ensures.item ∙ ap option_copied c.in_default.is)).moves c.keep-2.new.moves c.in_ok-keep-2.ensures

pub returns-in_err-keep-clause-cost : goal.returns-in_err-keep-clause-cost
returns-in_err-keep-clause-cost g c =
    let k = step_kept (λ (l : Lent g.row.K.Denot). g.K.Keep.keeps l.keep.now) (g.K.Keep.keeps c.args.may_change.now) c.args.tree.now.items c.loop-moves.found c.next.new.self c.in-Some.fragment.now
    c.loop-moves.invariant.walked.stands.items c.loop-moves.invariant.walked.stands.keep c.in_ok-fragment.ensures.moved (sym c.in_ok-fragment.ensures.item ∙ ap option_copied c.in-Some.is) in
    let t = c.tick.ensures in
    let i = c.loop-moves.invariant.cost in
    omega (arith, k, t, i)

pub returns-in_err-push-clause-cost : goal.returns-in_err-push-clause-cost
returns-in_err-push-clause-cost g c =
    let k = step_kept (λ (l : Lent g.row.K.Denot). g.K.Keep.keeps l.keep.now) (g.K.Keep.keeps c.args.may_change.now) c.args.tree.now.items c.loop-moves.found c.next.new.self c.in-Some.fragment.now
    c.loop-moves.invariant.walked.stands.items c.loop-moves.invariant.walked.stands.keep c.in_ok-fragment.ensures.moved (sym c.in_ok-fragment.ensures.item ∙ ap option_copied c.in-Some.is) in
    let t = c.tick.ensures in
    let i = c.loop-moves.invariant.cost in
    omega (arith, k, t, i)
