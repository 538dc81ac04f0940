use Rattle.std.proofs.Common.{◌∙◌, List, refl, subst, take, arith}
use Rattle.std.specs.Option.{option_copied}
use Rattle.std.specs.Prelude.{nat_lt}
use Rattle.multi_buffer.specs.Found.{IsAtOffset}
use Rattle.multi_buffer.specs.Lengths.{offset_after}
use Rattle.multi_buffer.specs.declared.excerpt.Excerpt.{Excerpt}
use Rattle.multi_buffer.specs.declared.lengths.Lengths.{Lengths}
use Rattle.multi_buffer.proofs.Sums.{place_after}
use Rattle.multi_buffer.proofs.Stops.{passed, found}
use Rattle.multi_buffer.proofs.excerpts.Excerpts.at_offset.Goals as goal

pub returns : goal.returns
returns c =
    let xs : List Excerpt = c.self.inside.tree.items in
    let over = passed (λ x. nat_lt c.args.offset (offset_after x)) c.none.result xs in
    subst (λ (ys : List Excerpt). IsAtOffset ys c.args.offset (option_copied c.look_up.result.0) c.look_up.result.1) c.self.view_is
    (found (λ (x : Lengths). offset_after x) refl (λ a b. omega arith) c.args.offset xs c.none.result (option_copied c.look_up.result.0) c.look_up.result.1 c.none.ensures c.look_up.ensures.item
    (c.look_up.ensures.place ∙ place_after c.none.result (take over xs) c.none.ensures))
