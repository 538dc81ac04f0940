use Rattle.std.proofs.Common.{ℕ, take, refl, sym, ap, ◌∙◌, arith}
use Rattle.std.specs.List.{slice_get}
use Rattle.tree_cursor.specs.Places.{place_behind, seek_count}
use Rattle.tree_cursor.proofs.Counts.{seek_passes, get_ahead}
use Rattle.tree_cursor.proofs.seek.descent.Goals as goal

pub returns-clause-item : goal.returns-clause-item
returns-clause-item g c =
    let all = c.new-path.result.items in
    let stops = λ (p : g.row.D-Value.Denot). g.G.Target.passes c.args.target.now p c.args.bias in
    let count = c.walk_counted.ensures.passed ∙ seek_passes g.D.Moves.moved g.T.Item.sum_of stops (g.D.Plain.plain c.args.start) 0 all in
    get_ahead all _ c.walk_counted.result.item c.walk_counted.result.passed c.walk_counted.ensures.at.here ∙ ap (slice_get all) count
    ∙ ap (λ xs. slice_get xs (seek_count g.D.Moves.moved g.T.Item.sum_of stops (g.D.Plain.plain c.args.start) xs)) c.new-path.ensures.items

pub returns-clause-start : goal.returns-clause-start
returns-clause-start g c =
    let all = c.new-path.result.items in
    let start = g.D.Plain.plain c.args.start in
    let stops = λ (p : g.row.D-Value.Denot). g.G.Target.passes c.args.target.now p c.args.bias in
    let count = c.walk_counted.ensures.passed ∙ seek_passes g.D.Moves.moved g.T.Item.sum_of stops start 0 all in
    c.walk_counted.ensures.at.starts ∙ ap (λ (n : ℕ). place_behind g.D.Moves.moved g.T.Item.sum_of start (take n all)) count
    ∙ ap (λ xs. place_behind g.D.Moves.moved g.T.Item.sum_of start (take (seek_count g.D.Moves.moved g.T.Item.sum_of stops start xs) xs)) c.new-path.ensures.items

pub returns-clause-cost : goal.returns-clause-cost
returns-clause-cost g c adds =
    let within = c.walk_counted.ensures.cost adds (λ a b q j. refl) (c.new-path.ensures.items ∙ sym c.new-path.ensures.inner) in
    omega (arith, within, c.new-path.ensures.looks)
