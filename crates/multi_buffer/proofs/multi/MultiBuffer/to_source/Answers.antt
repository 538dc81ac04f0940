use Rattle.std.proofs.Common.{◌≡◌, arith, Option, Some, None, List, ap, refl, subst, sym, ◌∙◌}
use Rattle.std.specs.Option.{option_copied}
use Rattle.multi_buffer.specs.declared.excerpt.Excerpt.{Excerpt}
use Rattle.multi_buffer.specs.Found.{IsAtOffset}
use Rattle.multi_buffer.specs.Lengths.{offset_after}
use Rattle.multi_buffer.specs.declared.source.Source.{Source}
use Rattle.multi_buffer.specs.State.{MultiState, AscendFrom, IsSynced}
use Rattle.multi_buffer.specs.Places.{to_source}
use Rattle.multi_buffer.specs.Here.{place_of}
use Rattle.multi_buffer.proofs.Answering.{here, is_here, source_found, source_none}
use Rattle.multi_buffer.proofs.multi.MultiBuffer.to_source.Goals as goal

pub place_of-requires-clause-ascending : goal.place_of-requires-clause-ascending
place_of-requires-clause-ascending c = subst (AscendFrom 0) (sym c.deref.ensures.value) c.self.invariant.ascending

pub place_of-requires-clause-synced : goal.place_of-requires-clause-synced
place_of-requires-clause-synced c =
    let item : option_copied c.at_offset.result.0 ≡ Some c.in-Some-default.excerpt.now = rw c.in-Some-default.is-0 refl in
    let f : IsAtOffset c.self.inside.excerpts c.args.o (Some c.in-Some-default.excerpt.now) c.at_offset.result.1 = subst (λ (x : Option Excerpt). IsAtOffset c.self.inside.excerpts c.args.o x c.at_offset.result.1) item c.at_offset.ensures in
    subst (λ (ss : List Source). IsSynced ss c.in-Some-default.excerpt.now) (sym c.deref.ensures.value)
    (here c.self.inside.excerpts c.self.inside.sources.items c.self.invariant.excerpts c.args.o c.in-Some-default.excerpt.now c.at_offset.result.1 f)

pub place_of-requires-clause-here : goal.place_of-requires-clause-here
place_of-requires-clause-here c =
    let item : option_copied c.at_offset.result.0 ≡ Some c.in-Some-default.excerpt.now = rw c.in-Some-default.is-0 refl in
    let f : IsAtOffset c.self.inside.excerpts c.args.o (Some c.in-Some-default.excerpt.now) c.at_offset.result.1 = subst (λ (x : Option Excerpt). IsAtOffset c.self.inside.excerpts c.args.o x c.at_offset.result.1) item c.at_offset.ensures in
    is_here offset_after c.self.inside.excerpts c.args.o c.in-Some-default.excerpt.now c.at_offset.result.1 c.known.ensures f

pub place_of-requires-clause-low : goal.place_of-requires-clause-low
place_of-requires-clause-low c =
    let item : option_copied c.at_offset.result.0 ≡ Some c.in-Some-default.excerpt.now = rw c.in-Some-default.is-0 refl in
    let f : IsAtOffset c.self.inside.excerpts c.args.o (Some c.in-Some-default.excerpt.now) c.at_offset.result.1 = subst (λ (x : Option Excerpt). IsAtOffset c.self.inside.excerpts c.args.o x c.at_offset.result.1) item c.at_offset.ensures in
    f.4

pub place_of-requires-clause-high : goal.place_of-requires-clause-high
place_of-requires-clause-high c =
    let item : option_copied c.at_offset.result.0 ≡ Some c.in-Some-default.excerpt.now = rw c.in-Some-default.is-0 refl in
    let f : IsAtOffset c.self.inside.excerpts c.args.o (Some c.in-Some-default.excerpt.now) c.at_offset.result.1 = subst (λ (x : Option Excerpt). IsAtOffset c.self.inside.excerpts c.args.o x c.at_offset.result.1) item c.at_offset.ensures in
    let m = f.5 in
    omega arith

pub returns-in-Some-default : goal.returns-in-Some-default
returns-in-Some-default c =
    let item : option_copied c.at_offset.result.0 ≡ Some c.in-Some-default.excerpt.now = rw c.in-Some-default.is-0 refl in
    let f : IsAtOffset c.self.inside.excerpts c.args.o (Some c.in-Some-default.excerpt.now) c.at_offset.result.1 = subst (λ (x : Option Excerpt). IsAtOffset c.self.inside.excerpts c.args.o x c.at_offset.result.1) item c.at_offset.ensures in
    subst (λ (m : MultiState). c.place_of.result ≡ to_source m c.args.o) c.self.view_is
    (c.place_of.ensures
    ∙ ap (λ (us : List Source). place_of us c.in-Some-default.excerpt.now c.at_offset.result.1 c.args.o) c.deref.ensures.value
    ∙ source_found c.self.inside.excerpts c.self.inside.sources.items c.self.invariant.excerpts c.args.o c.in-Some-default.excerpt.now c.at_offset.result.1 f)

pub returns-in-None-default : goal.returns-in-None-default
returns-in-None-default c =
    let none : Option Excerpt = None in
    let item : option_copied c.at_offset.result.0 ≡ none = rw c.in-None-default.is-0 refl in
    subst (λ (m : MultiState). None ≡ to_source m c.args.o) c.self.view_is
    (source_none c.self.inside.excerpts c.self.inside.sources.items c.args.o c.at_offset.result.1 (subst (λ (x : Option Excerpt). IsAtOffset c.self.inside.excerpts c.args.o x c.at_offset.result.1) item c.at_offset.ensures))
