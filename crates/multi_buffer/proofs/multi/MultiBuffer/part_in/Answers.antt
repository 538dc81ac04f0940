use Rattle.std.proofs.Common.{◌≡◌, Option, Some, None, arith, refl, subst, ◌∙◌}
use Rattle.std.specs.Option.{option_copied}
use Rattle.multi_buffer.specs.declared.excerpt.Excerpt.{Excerpt}
use Rattle.multi_buffer.specs.Found.{IsAtOffset}
use Rattle.multi_buffer.specs.Lengths.{offset_after}
use Rattle.multi_buffer.specs.State.{MultiState}
use Rattle.multi_buffer.specs.Splits.{part_in}
use Rattle.multi_buffer.proofs.Answering.{is_here}
use Rattle.multi_buffer.proofs.Parting.{part_found, part_none}
use Rattle.multi_buffer.proofs.multi.MultiBuffer.part_in.Goals as goal

pub part_here-requires-clause-here : goal.part_here-requires-clause-here
part_here-requires-clause-here c =
    let item : option_copied c.at_offset.result.0 ≡ Some c.in-Some-default.excerpt.now = rw c.in-Some-default.is-0 refl in
    let f : IsAtOffset c.self.inside.excerpts c.args.start (Some c.in-Some-default.excerpt.now) c.at_offset.result.1 = subst (λ (x : Option Excerpt). IsAtOffset c.self.inside.excerpts c.args.start x c.at_offset.result.1) item c.at_offset.ensures in
    is_here offset_after c.self.inside.excerpts c.args.start c.in-Some-default.excerpt.now c.at_offset.result.1 c.known.ensures f

pub part_here-requires-clause-low : goal.part_here-requires-clause-low
part_here-requires-clause-low c =
    let item : option_copied c.at_offset.result.0 ≡ Some c.in-Some-default.excerpt.now = rw c.in-Some-default.is-0 refl in
    let f : IsAtOffset c.self.inside.excerpts c.args.start (Some c.in-Some-default.excerpt.now) c.at_offset.result.1 = subst (λ (x : Option Excerpt). IsAtOffset c.self.inside.excerpts c.args.start x c.at_offset.result.1) item c.at_offset.ensures in
    f.4

pub part_here-requires-clause-high : goal.part_here-requires-clause-high
part_here-requires-clause-high c =
    let item : option_copied c.at_offset.result.0 ≡ Some c.in-Some-default.excerpt.now = rw c.in-Some-default.is-0 refl in
    let f : IsAtOffset c.self.inside.excerpts c.args.start (Some c.in-Some-default.excerpt.now) c.at_offset.result.1 = subst (λ (x : Option Excerpt). IsAtOffset c.self.inside.excerpts c.args.start x c.at_offset.result.1) item c.at_offset.ensures in
    let m = f.5 in
    omega arith

pub returns-in-Some-default : goal.returns-in-Some-default
returns-in-Some-default c =
    let item : option_copied c.at_offset.result.0 ≡ Some c.in-Some-default.excerpt.now = rw c.in-Some-default.is-0 refl in
    let f : IsAtOffset c.self.inside.excerpts c.args.start (Some c.in-Some-default.excerpt.now) c.at_offset.result.1 = subst (λ (x : Option Excerpt). IsAtOffset c.self.inside.excerpts c.args.start x c.at_offset.result.1) item c.at_offset.ensures in
    subst (λ (m : MultiState). c.part_here.result ≡ part_in 0 m.excerpts c.args.start c.args.end) c.self.view_is
    (c.part_here.ensures ∙ part_found c.self.inside.excerpts c.args.start c.args.end c.at_offset.result.1 c.in-Some-default.excerpt.now f)

pub returns-in-None-default : goal.returns-in-None-default
returns-in-None-default c =
    let none : Option Excerpt = None in
    let item : option_copied c.at_offset.result.0 ≡ none = rw c.in-None-default.is-0 refl in
    subst (λ (m : MultiState). None ≡ part_in 0 m.excerpts c.args.start c.args.end) c.self.view_is
    (part_none c.self.inside.excerpts c.args.start c.args.end c.at_offset.result.1 (subst (λ (x : Option Excerpt). IsAtOffset c.self.inside.excerpts c.args.start x c.at_offset.result.1) item c.at_offset.ensures))
