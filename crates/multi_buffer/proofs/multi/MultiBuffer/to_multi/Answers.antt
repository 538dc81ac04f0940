use Rattle.std.proofs.Common.{◌≡◌, Option, Some, None, List, ℕ, ap, refl, subst, sym, ◌∙◌}
use Rattle.std.specs.Option.{option_copied}
use Rattle.multi_buffer.specs.declared.excerpt.Excerpt.{Excerpt}
use Rattle.multi_buffer.specs.Found.{IsAtIndex}
use Rattle.multi_buffer.specs.declared.lengths.Lengths.{Lengths}
use Rattle.multi_buffer.specs.declared.source.Source.{Source}
use Rattle.multi_buffer.specs.State.{MultiState, AscendFrom, IsSynced}
use Rattle.multi_buffer.specs.Places.{to_multi}
use Rattle.multi_buffer.specs.Here.{offset_of}
use Rattle.multi_buffer.proofs.Answering.{at_index_synced, is_here, multi_found, multi_none}
use Rattle.multi_buffer.proofs.multi.MultiBuffer.to_multi.Goals as goal

pub offset_of-requires-clause-ascending : goal.offset_of-requires-clause-ascending
offset_of-requires-clause-ascending c = subst (AscendFrom 0) (sym c.deref.ensures.value) c.self.invariant.ascending

pub offset_of-requires-clause-synced : goal.offset_of-requires-clause-synced
offset_of-requires-clause-synced c =
    let item : option_copied c.at_index.result.0 ≡ Some c.in-Some-default.found.now = rw c.in-Some-default.is-0 refl in
    let f : IsAtIndex c.self.inside.excerpts c.args.excerpt (Some c.in-Some-default.found.now) c.at_index.result.1 = subst (λ (x : Option Excerpt). IsAtIndex c.self.inside.excerpts c.args.excerpt x c.at_index.result.1) item (subst (λ (i : ℕ). IsAtIndex c.self.inside.excerpts i (option_copied c.at_index.result.0) c.at_index.result.1) c.from.ensures c.at_index.ensures) in
    subst (λ (ss : List Source). IsSynced ss c.in-Some-default.found.now) (sym c.deref.ensures.value)
    (at_index_synced c.self.inside.excerpts c.self.inside.sources.items c.args.excerpt c.args.offset c.in-Some-default.found.now c.at_index.result.1 f c.self.invariant.excerpts)

pub offset_of-requires-clause-here : goal.offset_of-requires-clause-here
offset_of-requires-clause-here c =
    let item : option_copied c.at_index.result.0 ≡ Some c.in-Some-default.found.now = rw c.in-Some-default.is-0 refl in
    let f : IsAtIndex c.self.inside.excerpts c.args.excerpt (Some c.in-Some-default.found.now) c.at_index.result.1 = subst (λ (x : Option Excerpt). IsAtIndex c.self.inside.excerpts c.args.excerpt x c.at_index.result.1) item (subst (λ (i : ℕ). IsAtIndex c.self.inside.excerpts i (option_copied c.at_index.result.0) c.at_index.result.1) c.from.ensures c.at_index.ensures) in
    is_here (λ (b : Lengths). b.excerpts) c.self.inside.excerpts c.args.excerpt c.in-Some-default.found.now c.at_index.result.1 c.known.ensures f

pub returns-in-Some-default : goal.returns-in-Some-default
returns-in-Some-default c =
    let item : option_copied c.at_index.result.0 ≡ Some c.in-Some-default.found.now = rw c.in-Some-default.is-0 refl in
    let f : IsAtIndex c.self.inside.excerpts c.args.excerpt (Some c.in-Some-default.found.now) c.at_index.result.1 = subst (λ (x : Option Excerpt). IsAtIndex c.self.inside.excerpts c.args.excerpt x c.at_index.result.1) item (subst (λ (i : ℕ). IsAtIndex c.self.inside.excerpts i (option_copied c.at_index.result.0) c.at_index.result.1) c.from.ensures c.at_index.ensures) in
    subst (λ (m : MultiState). c.offset_of.result ≡ to_multi m c.args.excerpt c.args.offset) c.self.view_is
    (c.offset_of.ensures
    ∙ ap (λ (us : List Source). offset_of us c.in-Some-default.found.now c.at_index.result.1 c.args.offset) c.deref.ensures.value
    ∙ multi_found c.self.inside.excerpts c.self.inside.sources.items c.self.invariant.excerpts c.args.excerpt c.args.offset c.in-Some-default.found.now c.at_index.result.1 f)

pub returns-in-None-default : goal.returns-in-None-default
returns-in-None-default c =
    let none : Option Excerpt = None in
    let item : option_copied c.at_index.result.0 ≡ none = rw c.in-None-default.is-0 refl in
    subst (λ (m : MultiState). None ≡ to_multi m c.args.excerpt c.args.offset) c.self.view_is
    (multi_none c.self.inside.excerpts c.self.inside.sources.items c.args.excerpt c.args.offset c.at_index.result.1 (subst (λ (x : Option Excerpt). IsAtIndex c.self.inside.excerpts c.args.excerpt x c.at_index.result.1) item (subst (λ (i : ℕ). IsAtIndex c.self.inside.excerpts i (option_copied c.at_index.result.0) c.at_index.result.1) c.from.ensures c.at_index.ensures)))
