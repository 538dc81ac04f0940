use Rattle.std.proofs.Common.{◌≡◌, ◌+◌, ◌++◌, List, ℕ, take, ap, sym, subst, ◌∙◌, arith}
use Rattle.std.specs.String.{string_bytes}
use Rattle.multi_buffer.specs.declared.excerpt.Excerpt.{Excerpt}
use Rattle.multi_buffer.specs.declared.source.Source.{Source}
use Rattle.multi_buffer.specs.State.{MultiState, excerpt_text, multi_text, AscendFrom, IsSynced}
use Rattle.multi_buffer.specs.Breaks.{break_before}
use Rattle.multi_buffer.proofs.Lines.{each_at, shown, shown_all, shown_next}
use Rattle.multi_buffer.proofs.multi.MultiBuffer.text.Goals as goal

pub push_excerpt-requires-clause-ascending : goal.push_excerpt-requires-clause-ascending
push_excerpt-requires-clause-ascending c = subst (AscendFrom 0) (sym c.deref.ensures.value) c.self.invariant.ascending

pub push_excerpt-requires-clause-synced : goal.push_excerpt-requires-clause-synced
push_excerpt-requires-clause-synced c =
    subst (λ (ss : List Source). IsSynced ss c.in-Some.excerpt.now) (sym c.deref.ensures.value)
    (each_at c.self.inside.sources.items c.self.inside.excerpts c.loop-index.index c.in-Some.excerpt.now c.self.invariant.excerpts (sym c.in-Some.ensures))

pub loop-index-init : goal.loop-index-init
loop-index-init c = c.in_ok-shown.ensures.bytes

pub loop-index-preserved : goal.loop-index-preserved
loop-index-preserved c =
    let ss : List Source = c.self.inside.sources.items in
    let xs : List Excerpt = c.self.inside.excerpts in
    let i : ℕ = c.loop-index.index in
    let before : string_bytes c.loop-index.shown ≡ shown ss (take i xs) = subst (λ (m : MultiState). string_bytes c.loop-index.shown ≡ shown m.synced (take i m.excerpts)) (sym c.self.view_is) c.loop-index.invariant in
    subst (λ (m : MultiState). string_bytes c.push_excerpt.new.shown ≡ shown m.synced (take (i + 1) m.excerpts)) c.self.view_is
    (c.in_ok-push_excerpt.ensures
    ∙ ap (λ (us : List Source). string_bytes c.push_break.new.shown ++ excerpt_text us c.in-Some.excerpt.now) c.deref.ensures.value
    ∙ ap (λ (bs : List ℕ). bs ++ excerpt_text ss c.in-Some.excerpt.now) (c.in_ok-push_break.ensures ∙ ap (λ (bs : List ℕ). bs ++ break_before i) before)
    ∙ shown_next ss xs i c.in-Some.excerpt.now (sym c.in-Some.ensures))

pub returns : goal.returns
returns c =
    let ss : List Source = c.self.inside.sources.items in
    let xs : List Excerpt = c.self.inside.excerpts in
    let i : ℕ = c.loop-index.index in
    let all : string_bytes c.loop-index.shown ≡ shown ss (take i xs) = subst (λ (m : MultiState). string_bytes c.loop-index.shown ≡ shown m.synced (take i m.excerpts)) (sym c.self.view_is) c.loop-index.invariant in
    subst (λ (m : MultiState). string_bytes c.loop-index.shown ≡ multi_text m) c.self.view_is (all ∙ shown_all ss xs i (omega arith))
