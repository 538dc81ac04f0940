use Rattle.std.proofs.Common.{List, ◌∙◌, subst}
use Rattle.multi_buffer.specs.declared.source.Source.{Source}
use Rattle.multi_buffer.specs.Found.{IsGap, IsPlace}
use Rattle.multi_buffer.proofs.Sourced.{gap_put, place_put}
use Rattle.multi_buffer.proofs.source.put.Goals as goal

pub returns-in-Ok-clause-ok : goal.returns-in-Ok-clause-ok
returns-in-Ok-clause-ok c =
    let p = subst (λ (z : List Source). IsPlace c.args.source.buffer z c.in-Ok.at) c.as_slice.ensures.value c.in-Ok.ensures.place in
    place_put 0 c.args.source c.args.sources.now.items c.in-Ok.at c.requires p

pub returns-in_ok-insert-in-Err-clause-ok : goal.returns-in_ok-insert-in-Err-clause-ok
returns-in_ok-insert-in-Err-clause-ok c =
    let g = subst (λ (z : List Source). IsGap c.args.source.buffer z c.in-Err.at) c.as_slice.ensures.value c.in-Err.ensures.gap in
    c.in_ok-insert-in-Err.ensures.items ∙ gap_put c.args.source c.args.sources.now.items c.in-Err.at g
