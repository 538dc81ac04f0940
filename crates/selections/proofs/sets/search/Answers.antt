use Rattle.std.proofs.Common.{rules}
use Rattle.std.proofs.lemmas.List.Sorted.{answers_always}
use Rattle.selections.specs.declared.selection.SelectionOp.{SelectionOp}
use Rattle.selections.proofs.Kept.{searched}
use Rattle.selections.proofs.sets.search.Goals as goal

pub returns-clause-place : goal.returns-clause-place
returns-clause-place c =
    let facts = c.binary_search_by_key.ensures in
    let by_key = facts.position (λ (op : SelectionOp). op.stamp.replica) (answers_always _ _ _ (λ f a r g called. search rules)) in
    (searched 1 c.args.author c.args.kept.now c.requires _ facts.bound by_key).place

pub returns-clause-gap : goal.returns-clause-gap
returns-clause-gap c =
    let facts = c.binary_search_by_key.ensures in
    let by_key = facts.position (λ (op : SelectionOp). op.stamp.replica) (answers_always _ _ _ (λ f a r g called. search rules)) in
    (searched 1 c.args.author c.args.kept.now c.requires _ facts.bound by_key).gap
