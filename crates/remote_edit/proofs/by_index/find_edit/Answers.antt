use Rattle.std.proofs.Common.{◌∙◌, ◌-◌, ◌^◌, ap, subst, arith}
use Rattle.std.specs.List.{AllByRecursion, sum_by}
use Rattle.std.proofs.lemmas.List.Sums.{sum_by_more, sum_by_more_le, sum_by-take-le}
use Rattle.fragments.specs.declared.deleted_run.DeletedRun.{DeletedRun}
use Rattle.remote_edit.specs.Finds.{HaveRun}
use Rattle.remote_edit.proofs.Finds.{each_more, each_taken, all_have, cells_kept, run_kept, concerned}
use Rattle.remote_edit.specs.Looks.{run_looks}
use Rattle.remote_edit.proofs.Looks.{edit_found}
use Rattle.remote_edit.proofs.by_index.find_edit.Goals as goal

pub loop-run-preserved : goal.loop-run-preserved
loop-run-preserved g c =
    let fs = c.args.tree.now.items in
    let old = c.loop-run.places.items in
    let new = c.find_run.new.places.items in
    let d : DeletedRun = record { edit = record { value = 0; replica = 0 }; number = 0; stamp = record { value = 0; replica = 0 }; offset = 0; len = 0 } in
    record {
      kept = all_have c.args.places.now.items old new c.loop-run.invariant.kept c.in_ok-find_run.ensures.kept;
      cells = λ found. cells_kept fs c.args.edit 0 (2 ^ 64 - 1) old new c.in_ok-find_run.ensures.kept (c.loop-run.invariant.cells found);
      runs = λ found. each_more (λ (r : DeletedRun). HaveRun fs r old) (λ (r : DeletedRun). HaveRun fs r new) (λ r h. run_kept fs r old new c.in_ok-find_run.ensures.kept h)
          c.deref-run-items.result.now c.loop-run.run-index d c.loop-run-test.true (c.loop-run.invariant.runs found) (c.in_ok-find_run.ensures.found found);
      few = (let i = c.loop-run.invariant.few in let k = c.in_ok-find_run.ensures.few in omega (arith, i, k));
      cost = λ found. (let i = c.loop-run.invariant.cost found in
          let k = c.find_run.ensures.cost found in
          let m = sum_by_more (run_looks fs) c.deref-run-items.result.now c.loop-run.run-index d c.loop-run-test.true in
          omega (arith, i, k, m));
    }

pub returns-clause-found : goal.returns-clause-found
returns-clause-found g c = λ found.
    let fs = c.args.tree.now.items in
    let ps = c.loop-run.places.items in
    concerned fs c.args.index.now found c.requires c.args.edit ps (c.loop-run.invariant.cells found)
    (subst (AllByRecursion (λ (r : DeletedRun). HaveRun fs r ps)) (c.deref-run-items.ensures.value ∙ c.in_ok-runs.ensures)
    (each_taken (λ (r : DeletedRun). HaveRun fs r ps) c.deref-run-items.result.now c.loop-run.run-index c.loop-run-test.false (c.loop-run.invariant.runs found)))

pub returns-in_err-find_cells-clause-cost : goal.returns-in_err-find_cells-clause-cost
returns-in_err-find_cells-clause-cost g c = λ found.
    let e = edit_found c.args.tree.now.items c.args.index.now found c.requires c.args.edit (2 ^ 64 - 1) in
    let k = c.find_cells.ensures.cost found in omega (arith, e, k)

pub returns-in_err-runs-clause-cost : goal.returns-in_err-runs-clause-cost
returns-in_err-runs-clause-cost g c = λ found.
    let e = edit_found c.args.tree.now.items c.args.index.now found c.requires c.args.edit (2 ^ 64 - 1) in
    let k = c.find_cells.ensures.cost found in omega (arith, e, k)

pub returns-in_err-find_run-clause-cost : goal.returns-in_err-find_run-clause-cost
returns-in_err-find_run-clause-cost g c = λ found.
    let fs = c.args.tree.now.items in
    let d : DeletedRun = record { edit = record { value = 0; replica = 0 }; number = 0; stamp = record { value = 0; replica = 0 }; offset = 0; len = 0 } in
    let e = edit_found fs c.args.index.now found c.requires c.args.edit (2 ^ 64 - 1) in
    let i = c.loop-run.invariant.cost found in
    let k = c.find_run.ensures.cost found in
    let m = sum_by_more_le (run_looks fs) c.deref-run-items.result.now c.loop-run.run-index d c.loop-run-test.true in
    let q = ap (sum_by (run_looks fs)) (c.deref-run-items.ensures.value ∙ c.in_ok-runs.ensures) in
    omega (arith, e, i, k, m, q)

pub returns-clause-cost : goal.returns-clause-cost
returns-clause-cost g c = λ found.
    let fs = c.args.tree.now.items in
    let e = edit_found fs c.args.index.now found c.requires c.args.edit (2 ^ 64 - 1) in
    let i = c.loop-run.invariant.cost found in
    let m = sum_by-take-le (run_looks fs) c.deref-run-items.result.now c.loop-run.run-index in
    let q = ap (sum_by (run_looks fs)) (c.deref-run-items.ensures.value ∙ c.in_ok-runs.ensures) in
    omega (arith, e, i, m, q)
