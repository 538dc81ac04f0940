use Rattle.std.proofs.Common.{rules}
use Rattle.std.proofs.lemmas.List.Sorted.{answers_always}
use Rattle.multi_buffer.specs.declared.source.Source.{Source}
use Rattle.multi_buffer.proofs.Sourced.{searched}
use Rattle.multi_buffer.proofs.source.search.Goals as goal

pub returns-clause-place : goal.returns-clause-place
returns-clause-place c =
    let facts = c.binary_search_by_key.ensures in
    let by_key = facts.position (λ (s : Source). s.buffer) (answers_always _ _ _ (λ f a r g called. search rules)) in
    (searched 0 c.args.buffer c.args.sources.now c.requires _ facts.bound by_key).place

pub returns-clause-gap : goal.returns-clause-gap
returns-clause-gap c =
    let facts = c.binary_search_by_key.ensures in
    let by_key = facts.position (λ (s : Source). s.buffer) (answers_always _ _ _ (λ f a r g called. search rules)) in
    (searched 0 c.args.buffer c.args.sources.now c.requires _ facts.bound by_key).gap
