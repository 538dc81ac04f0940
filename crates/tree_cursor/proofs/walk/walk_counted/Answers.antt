use Rattle.std.proofs.Common.{◌≡◌, inl, ℕ, List, ◌+◌, ◌-◌, ◌≤◌, ◌++◌, length, drop, refl, sym, ap, subst, ◌∙◌, arith, length-append}
use Rattle.std.proofs.lemmas.List.{length-drop}
use Rattle.tree_cursor.specs.Places.{walk_count}
use Rattle.tree_cursor.specs.Levels.{TakesInner, TakesPart}
use Rattle.tree_cursor.specs.Walking.{IsDescending, IsWalking}
use Rattle.tree_cursor.proofs.Descents.{fewer, goes_into, goes_on, goes_over, halts_within}
use Rattle.tree_cursor.proofs.Levels.{pow-pos}
use Rattle.tree_cursor.proofs.Walks.{went, go_over, go_over_one, room_for, room_for_one, halts_here, halts_past}
use Rattle.tree_cursor.proofs.walk.walk_counted.Goals as goal

pub overflow_add-count : goal.overflow_add-count
overflow_add-count g c =
    let w = c.loop-part.invariant.0 in
    let node = c.in-Node.node.now in
    let all = c.args.path.now.items in
    let took = subst (λ part. TakesPart c.loop-part.path part c.pop.new.self) c.in-Node.is c.in-Some.ensures.part in
    let parted : drop c.loop-part.passed all ≡ node.items ++ c.pop.new.self.items = sym w.left_is ∙ took.0 in
    let many : length all - c.loop-part.passed ≡ length node.items + length c.pop.new.self.items = sym (length-drop c.loop-part.passed all) ∙ ap length parted ∙ length-append node.items c.pop.new.self.items in
    omega (arith, many, c.len.ensures, w.within, c.requires.short)

pub over-requires : goal.over-requires
over-requires g c κs =
    let r = c.args.rule.now in
    let took = subst (λ part. TakesPart c.loop-part.path part c.pop.new.self) c.in-Node.is c.in-Some.ensures.part in
    ((refl, tt), room_for g.met.D.Moves.laws g.met.T.Summary.Summary.laws g.T.Item.sum_of g.met.T.Item.admitted g.met.T.Item.is_single (g.R.Rule.halts r) (g.met.R.Rule.parts r) c.args.path.now.items (g.D.Plain.plain c.args.start) _ c.loop-part.path.items c.in-Node.node.now.items c.pop.new.self.items (g.D.Plain.plain c.loop-part.at) c.summary.result.now c.loop-part.passed c.loop-part.invariant.0 took.0 c.summary.ensures)

pub loop-part-smaller-in-Some-over : goal.loop-part-smaller-in-Some-over
loop-part-smaller-in-Some-over g c =
    let took = subst (λ part. TakesPart c.loop-part.path part c.pop.new.self) c.in-Node.is c.in-Some.ensures.part in
    omega (arith, took.1, pow-pos (c.in-Node.node.now.height + 1))

pub loop-part-preserved-in-Some-over : goal.loop-part-preserved-in-Some-over
loop-part-preserved-in-Some-over g c =
    let most = g.C.Tally.count c.args.steps.now + c.args.path.now.looks in
    let tally = g.C.Tally.count in
    let end = walk_count g.D.Moves.moved g.T.Item.sum_of (g.R.Rule.halts c.args.rule.now) (g.D.Plain.plain c.args.start) 0 c.args.path.now.items in
    let before : c.loop-part.passed ≤ end = omega (arith, c.loop-part.invariant.0.sought) in
    let r = c.args.rule.now in
    let took = subst (λ part. TakesPart c.loop-part.path part c.pop.new.self) c.in-Node.is c.in-Some.ensures.part in
    let gone = went (λ q. g.R.Rule.halts r c.summary.result.now q (c.loop-part.passed + c.len.result)) (g.D.Moves.moved (g.D.Plain.plain c.loop-part.at) c.summary.result.now) (g.D.Plain.plain c.in-Some-over.end) (sym c.in-Some-over.ensures) in
    let w = go_over g.met.D.Moves.laws g.met.T.Summary.Summary.laws g.T.Item.sum_of g.met.T.Item.admitted g.met.T.Item.is_single (g.R.Rule.halts r) (g.met.R.Rule.parts r) c.args.path.now.items (g.D.Plain.plain c.args.start) _ c.loop-part.path.items c.in-Node.node.now.items c.pop.new.self.items (g.D.Plain.plain c.loop-part.at) (g.D.Plain.plain c.in-Some-over.end) c.summary.result.now c.loop-part.passed (c.loop-part.passed + c.len.result) c.loop-part.invariant.0 took.0 c.summary.ensures (ap (λ n. c.loop-part.passed + n) c.len.ensures) gone.0 gone.1 in
    let inner = subst (λ part. TakesInner c.loop-part.path part c.pop.new.self) c.in-Node.is c.in-Some.ensures.inner in
    (w, λ adds ends all. subst (λ (n : ℕ). IsDescending c.pop.new.self (tally c.pop.new.steps) most (c.loop-part.passed + n) end) (sym c.len.ensures) (fewer c.pop.new.self (tally c.pop.new.steps) (tally c.loop-part.steps + 1) most (c.loop-part.passed + length c.in-Node.node.now.items) end (omega (arith, c.in-Some.ensures.step, g.met.C.Tally.small)) (goes_over c.loop-part.path c.pop.new.self c.in-Node.node.now (tally c.loop-part.steps) most c.loop-part.passed end took.0 inner before (c.loop-part.invariant.1 adds ends all))))

pub after-end-requires : goal.after-end-requires
after-end-requires g c κs =
    let r = c.args.rule.now in
    let took = subst (λ part. TakesPart c.loop-part.path part c.pop.new.self) c.in-One.is c.in-Some.ensures.part in
    ((refl, tt), room_for_one g.met.D.Moves.laws g.met.T.Summary.Summary.laws g.T.Item.sum_of g.met.T.Item.admitted g.met.T.Item.is_single (g.R.Rule.halts r) (g.met.R.Rule.parts r) c.args.path.now.items (g.D.Plain.plain c.args.start) _ c.loop-part.path.items c.pop.new.self.items c.in-One.entry.now (g.D.Plain.plain c.loop-part.at) c.sum-sum.result.now c.loop-part.passed c.loop-part.invariant.0 took.0 c.sum-sum.ensures)

pub returns-then-halts-clause-at : goal.returns-then-halts-clause-at
returns-then-halts-clause-at g c =
    let r = c.args.rule.now in
    let took = subst (λ part. TakesPart c.loop-part.path part c.pop.new.self) c.in-One.is c.in-Some.ensures.part in
    (halts_here g.met.D.Moves.laws g.met.T.Summary.Summary.laws g.T.Item.sum_of g.met.T.Item.admitted g.met.T.Item.is_single (g.R.Rule.halts r) (g.met.R.Rule.parts r) c.args.path.now.items (g.D.Plain.plain c.args.start) _ c.loop-part.path.items c.pop.new.self.items c.in-One.entry (g.D.Plain.plain c.loop-part.at) (g.D.Plain.plain c.after-end.result) c.sum-sum.result.now c.loop-part.passed c.loop-part.invariant.0 took.0 c.sum-sum.ensures c.after-end.ensures (sym c.halts.ensures ∙ c.if-halts.true)).1

pub loop-part-preserved : goal.loop-part-preserved
loop-part-preserved g c =
    let most = g.C.Tally.count c.args.steps.now + c.args.path.now.looks in
    let tally = g.C.Tally.count in
    let end = walk_count g.D.Moves.moved g.T.Item.sum_of (g.R.Rule.halts c.args.rule.now) (g.D.Plain.plain c.args.start) 0 c.args.path.now.items in
    let before : c.loop-part.passed ≤ end = omega (arith, c.loop-part.invariant.0.sought) in
    let r = c.args.rule.now in
    let took = subst (λ part. TakesPart c.loop-part.path part c.pop.new.self) c.in-One.is c.in-Some.ensures.part in
    let w = go_over_one g.met.D.Moves.laws g.met.T.Summary.Summary.laws g.T.Item.sum_of g.met.T.Item.admitted g.met.T.Item.is_single (g.R.Rule.halts r) (g.met.R.Rule.parts r) c.args.path.now.items (g.D.Plain.plain c.args.start) _ c.loop-part.path.items c.pop.new.self.items c.in-One.entry.now (g.D.Plain.plain c.loop-part.at) (g.D.Plain.plain c.after-end.result) c.sum-sum.result.now c.loop-part.passed c.loop-part.invariant.0 took.0 c.sum-sum.ensures c.after-end.ensures (sym c.halts.ensures ∙ c.if-halts.false) in
    let inner = subst (λ part. TakesInner c.loop-part.path part c.pop.new.self) c.in-One.is c.in-Some.ensures.inner in
    (w, λ adds ends all. fewer c.pop.new.self (tally c.pop.new.steps) (tally c.loop-part.steps + 1) most (c.loop-part.passed + 1) end (omega (arith, c.in-Some.ensures.step, g.met.C.Tally.small)) (goes_on c.loop-part.path c.pop.new.self c.in-One.entry.now (tally c.loop-part.steps) most c.loop-part.passed end took.0 inner before (c.loop-part.invariant.1 adds ends all)))

pub returns-clause-at : goal.returns-clause-at
returns-clause-at g c =
    let r = c.args.rule.now in
    (halts_past g.met.D.Moves.laws g.met.T.Summary.Summary.laws g.T.Item.sum_of g.met.T.Item.admitted g.met.T.Item.is_single (g.R.Rule.halts r) (g.met.R.Rule.parts r) c.args.path.now.items (g.D.Plain.plain c.args.start) _ c.loop-part.path.items c.pop.new.self.items (g.D.Plain.plain c.loop-part.at) c.loop-part.passed c.loop-part.invariant.0 c.in_default.ensures.part c.in_default.ensures.none).1

pub loop-part-preserved-in-None : goal.loop-part-preserved-in-None
loop-part-preserved-in-None g c =
    let most = g.C.Tally.count c.args.steps.now + c.args.path.now.looks in
    let tally = g.C.Tally.count in
    let end = walk_count g.D.Moves.moved g.T.Item.sum_of (g.R.Rule.halts c.args.rule.now) (g.D.Plain.plain c.args.start) 0 c.args.path.now.items in
    let before : c.loop-part.passed ≤ end = omega (arith, c.loop-part.invariant.0.sought) in
    let r = c.args.rule.now in
    let S = g.T.Summary.Summary in
    let took = subst (λ part. TakesPart c.loop-part.path part c.pop.new.self) c.in-Node.is c.in-Some.ensures.part in
    let inner = subst (λ part. TakesInner c.loop-part.path part c.pop.new.self) c.in-Node.is c.in-Some.ensures.inner in
    let w = c.loop-part.invariant.0 in
    let back : c.loop-part.path.items ≡ c.enter.new.self.items = took.0 ∙ sym c.enter.ensures.items in (
      subst (λ (zs : List _). IsWalking g.D.Moves.moved g.D.Moves.fits S.empty S.op g.T.Item.sum_of (g.R.Rule.halts r) c.args.path.now.items (g.D.Plain.plain c.args.start) zs (g.D.Plain.plain c.loop-part.at) c.loop-part.passed end) back w,
      λ adds ends all.
          let within = halts_within g.met.D.Moves.laws g.met.T.Summary.Summary.laws g.T.Item.sum_of g.met.T.Item.admitted (g.R.Rule.halts r) ends (g.D.Plain.plain c.loop-part.at) c.loop-part.passed (c.loop-part.passed + c.len.result) end c.summary.result.now c.in-Node.node.now.items c.pop.new.self.items c.loop-part.path.items adds inner.0 c.summary.ensures (ap (λ n. c.loop-part.passed + n) c.len.ensures) took.0 (sym c.in-None.ensures) w.sought in
          fewer c.enter.new.self (tally c.pop.new.steps) (tally c.loop-part.steps + 1) most c.loop-part.passed end (omega (arith, c.in-Some.ensures.step, g.met.C.Tally.small)) (goes_into c.loop-part.path c.pop.new.self c.enter.new.self c.in-Node.node.now (tally c.loop-part.steps) most c.loop-part.passed end took.0 inner before c.enter.ensures.inner c.enter.ensures.looks within (c.loop-part.invariant.1 adds ends all)),
    )

pub returns-then-halts-clause-cost : goal.returns-then-halts-clause-cost
returns-then-halts-clause-cost g c adds ends all =
    let most = g.C.Tally.count c.args.steps.now + c.args.path.now.looks in
    let tally = g.C.Tally.count in
    let end = walk_count g.D.Moves.moved g.T.Item.sum_of (g.R.Rule.halts c.args.rule.now) (g.D.Plain.plain c.args.start) 0 c.args.path.now.items in
    let before : c.loop-part.passed ≤ end = omega (arith, c.loop-part.invariant.0.sought) in
    let took = subst (λ part. TakesPart c.loop-part.path part c.pop.new.self) c.in-One.is c.in-Some.ensures.part in
    let inner = subst (λ part. TakesInner c.loop-part.path part c.pop.new.self) c.in-One.is c.in-Some.ensures.inner in
    let d = goes_on c.loop-part.path c.pop.new.self c.in-One.entry.now (tally c.loop-part.steps) most c.loop-part.passed end took.0 inner before (c.loop-part.invariant.1 adds ends all) in
    omega (arith, d.0, c.in-Some.ensures.step, g.met.C.Tally.small)

pub returns-clause-cost : goal.returns-clause-cost
returns-clause-cost g c adds ends all = omega (arith, (c.loop-part.invariant.1 adds ends all).0, c.in_default.ensures.step)

pub loop-part-init : goal.loop-part-init
loop-part-init g c = (
  record { within = omega arith; left_is = refl; starts = refl; room = c.requires.room; sought = omega arith },
  λ adds ends all. (omega arith, inl all),
)
