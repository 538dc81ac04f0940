use Rattle.std.proofs.Common.{◌∙◌, ◌+◌, ◌-◌, ◌^◌, ℕ, min, ap, arith}
use Rattle.std.proofs.lemmas.Result.{on_ok_weaker}
use Rattle.remote_edit.proofs.Finds.{run_found}
use Rattle.remote_edit.proofs.Looks.{begins_more}
use Rattle.remote_edit.proofs.by_index.find_run.Goals as goal

pub returns-clause-found : goal.returns-clause-found
returns-clause-found g c = λ found.
    on_ok_weaker c.find_cells.result
    (run_found c.args.tree.now.items c.args.index.now found c.args.run.now c.saturating_add-last.result c.find_cells.new.places.items
    (c.saturating_add-last.ensures ∙ ap (λ (n : ℕ). min (c.args.run.now.offset + n) (2 ^ 64 - 1)) c.saturating_sub.ensures)) (c.find_cells.ensures.found found)

pub returns-clause-cost : goal.returns-clause-cost
returns-clause-cost g c = λ found.
    let r = c.args.run.now in
    let k = c.find_cells.ensures.cost found in
    let e = c.saturating_add-last.ensures in
    let d = c.saturating_sub.ensures in
    let m = begins_more r.stamp r.offset c.saturating_add-last.result (r.offset + (r.len - 1)) c.args.tree.now.items (omega (arith, e, d)) in omega (arith, k, m)
