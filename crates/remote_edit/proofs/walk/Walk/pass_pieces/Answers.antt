use Rattle.std.proofs.Common.{◌≡◌, ℕ, ◌+◌, List, ◌∷◌, ◌++◌, length, take, drop, sym, ap, subst, ◌∙◌, arith, take-append-drop}
use Rattle.op_model.specs.declared.operation.Piece.{Piece}
use Rattle.op_model.specs.Operations.{text_total}
use Rattle.op_model.proofs.texts.Pieces.{next_piece}
use Rattle.fragments.specs.declared.fragment.Fragment.{Fragment}
use Rattle.fragments.specs.Laws.{cells_len}
use Rattle.remote_edit.specs.Walk.{Fit, one_piece, walk}
use Rattle.remote_edit.proofs.Pieces.{walk_none, walk_one}
use Rattle.remote_edit.proofs.Changing.{no_text}
use Rattle.remote_edit.proofs.Budget.{IsOnBudget, budget_none, budget_near, budget_one, budget_end, budget_all, budget_touched, steps_by}
use Rattle.remote_edit.proofs.walk.Walk.pass_pieces.Goals as goal
use Rattle.remote_edit.proofs.walk.Walk.pass_pieces.Goals.{then-changes+in_ok-walk, else-changes}

pub returns-in_err-walk-clause-cost : goal.returns-in_err-walk-clause-cost
returns-in_err-walk-clause-cost g c = λ a o.
    let v = c.args.edit.now.version in
    let i = c.loop-piece.invariant in
    let s = c.loop-piece.walk in
    let at = c.loop-piece.place in
    let p : Piece = c.piece-item.result in
    let fs : List Fragment = c.args.self.tree.items in
    let ps : List Piece = c.args.edit.now.pieces in
    let items : List Piece = c.as_slice-piece-items.result.now in
    let qs : List Piece = drop (c.loop-piece.piece-index + 1) items in
    let rest : List Fragment = drop s.at s.tree.items in
    let old = c.args.steps.now in
    let q : drop c.loop-piece.piece-index items ≡ p ∷ qs = next_piece items c.loop-piece.piece-index p c.loop-piece-test.true c.piece-item.is in
    let b : IsOnBudget v fs ps at rest (p ∷ qs) old c.loop-piece.steps = subst (λ (z : List Piece). IsOnBudget v fs ps at rest z old c.loop-piece.steps) q (i.budget a o) in
    let n = steps_by v rest p at c.saturating_sub-count.result c.loop-piece.steps c.piece.new.steps c.saturating_sub-count.ensures (budget_near v fs ps at rest p qs old c.loop-piece.steps b) b.seen c.piece.ensures.cost in
    budget_touched fs ps old c.piece.new.steps c.requires.fit.0 o (budget_end v fs ps at rest p qs old c.loop-piece.steps b c.piece.new.steps n)

pub loop-piece-preserved : goal.loop-piece-preserved
loop-piece-preserved g c =
    let e = c.args.edit.now in
    let u = c.args.undos.now in
    let t = e.stamp in
    let v = e.version in
    let i = c.loop-piece.invariant in
    let s = c.loop-piece.walk in
    let at = c.loop-piece.place in
    let p : Piece = c.piece-item.result in
    let fs : List Fragment = c.args.self.tree.items in
    let ps : List Piece = e.pieces in
    let items : List Piece = c.as_slice-piece-items.result.now in
    let qs : List Piece = drop (c.loop-piece.piece-index + 1) items in
    let xs : List Fragment = s.tree.items in
    let pre : List Fragment = take s.at xs in
    let rest : List Fragment = drop s.at xs in
    let old = c.args.steps.now in
    let new = c.loop-piece.steps in
    let q : drop c.loop-piece.piece-index items ≡ p ∷ qs = next_piece items c.loop-piece.piece-index p c.loop-piece-test.true c.piece-item.is in
    let total : text_total (drop c.loop-piece.piece-index items) ≡ length p.text + text_total qs = ap text_total q in
    elim c.if-changes.branch [
      | then-changes+in_ok-walk w ↦ (let f = w.in_ok-walk.ensures in
          let d = w.in_ok-walk.walk in
          let n = w.piece.new.steps in
          let ys : List Fragment = d.tree.items in
          let k = w.saturating_sub-count.ensures in
          let whole : take d.at ys ++ drop d.at ys ≡ ys = take-append-drop d.at ys in
          let z = f.passed.goes ∙ ap (λ (m : ℕ). one_piece u t v m s.number p pre rest) k in
          rw (w.walk-is, w.steps-is, w.place-is) (record {
            seen = f.passed.place;
            goes = ap (λ (m : ℕ). walk u t v p.end m qs (take d.at ys) (drop d.at ys)) f.number
                ∙ sym (walk_one u t v at s.number p qs pre rest (take d.at ys) (drop d.at ys) (sym c.changes.ensures ∙ w.if-changes.true) z)
                ∙ ap (λ (l : List Piece). walk u t v at s.number l pre rest) (sym q) ∙ i.goes;
            budget = λ a o. (let b : IsOnBudget v fs ps at rest (p ∷ qs) old new = subst (λ (l : List Piece). IsOnBudget v fs ps at rest l old new) q (i.budget a o) in
                budget_one v fs ps at rest p qs old new b u t s.number pre (take d.at ys) (drop d.at ys) n z
                (steps_by v rest p at w.saturating_sub-count.result new n k (budget_near v fs ps at rest p qs old new b) b.seen f.cost));
            within = f.within;
            fit = subst Fit whole f.passed.fit;
            room = omega (arith, ap cells_len whole, f.passed.same, i.room, total);
            number = omega (arith, f.number, i.number, total);
            indexed = f.indexed;
          }))
      | else-changes w ↦ (let no = sym c.changes.ensures ∙ w.if-changes.false in
          let none = no_text p no in
          rw (w.walk-is, w.steps-is, w.place-is) (record {
            seen = i.seen;
            goes = sym (walk_none u t v at s.number p qs pre rest no) ∙ ap (λ (l : List Piece). walk u t v at s.number l pre rest) (sym q) ∙ i.goes;
            budget = λ a o. budget_none v fs ps at rest p qs old new (subst (λ (l : List Piece). IsOnBudget v fs ps at rest l old new) q (i.budget a o));
            within = i.within;
            fit = i.fit;
            room = omega (arith, i.room, total, none);
            number = omega (arith, i.number, total, none);
            indexed = i.indexed;
          }))
    ]

pub returns-clause-cost : goal.returns-clause-cost
returns-clause-cost g c = λ a o.
    let l = c.loop-piece in
    budget_touched c.args.self.tree.items c.args.edit.now.pieces c.args.steps.now l.steps c.requires.fit.0 o
    (budget_all c.args.edit.now.version c.args.self.tree.items c.args.edit.now.pieces l.place (drop l.walk.at l.walk.tree.items) (drop l.piece-index c.as_slice-piece-items.result.now) c.args.steps.now l.steps (l.invariant.budget a o))
