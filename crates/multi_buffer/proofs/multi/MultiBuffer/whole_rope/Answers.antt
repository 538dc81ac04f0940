use Rattle.std.proofs.Common.{◌≡◌, ◌+◌, ◌≤◌, ◌^◌, ◌++◌, List, ℕ, take, length, ap, sym, subst, ◌∙◌, arith}
use Rattle.multi_buffer.specs.declared.excerpt.Excerpt.{Excerpt}
use Rattle.multi_buffer.specs.declared.source.Source.{Source}
use Rattle.multi_buffer.specs.State.{MultiState, excerpt_text, multi_text, AscendFrom, IsSynced}
use Rattle.multi_buffer.specs.Breaks.{break_before}
use Rattle.multi_buffer.proofs.Lines.{each_at, shown, shown_all, shown_next}
use Rattle.multi_buffer.proofs.Rooms.{room_after, room_before}
use Rattle.multi_buffer.proofs.multi.MultiBuffer.whole_rope.Goals as goal

pub append_excerpt-requires-clause-ascending : goal.append_excerpt-requires-clause-ascending
append_excerpt-requires-clause-ascending c = subst (AscendFrom 0) (sym c.deref.ensures.value) c.self.invariant.ascending

pub append_excerpt-requires-clause-synced : goal.append_excerpt-requires-clause-synced
append_excerpt-requires-clause-synced c =
    subst (λ (ss : List Source). IsSynced ss c.in-Some.excerpt.now) (sym c.deref.ensures.value)
    (each_at c.self.inside.sources.items c.self.inside.excerpts c.loop-index.index c.in-Some.excerpt.now c.self.invariant.excerpts (sym c.in-Some.ensures))

pub append_break-requires : goal.append_break-requires
append_break-requires c =
    let ss : List Source = c.self.inside.sources.items in
    let xs : List Excerpt = c.self.inside.excerpts in
    let i : ℕ = c.loop-index.index in
    let before : c.loop-index.shown ≡ shown ss (take i xs) = subst (λ (m : MultiState). c.loop-index.shown ≡ shown m.synced (take i m.excerpts)) (sym c.self.view_is) c.loop-index.invariant in
    let most : length (shown ss xs) ≤ 2 ^ 40 = subst (λ (m : MultiState). length (multi_text m) ≤ 2 ^ 40) (sym c.self.view_is) c.requires in
    let r = room_before ss xs i c.in-Some.excerpt.now c.self.invariant.excerpts (sym c.in-Some.ensures) in
    omega (arith, r, most, ap length before)

pub append_excerpt-requires-clause-few : goal.append_excerpt-requires-clause-few
append_excerpt-requires-clause-few c =
    let ss : List Source = c.self.inside.sources.items in
    let xs : List Excerpt = c.self.inside.excerpts in
    let i : ℕ = c.loop-index.index in
    let before : c.loop-index.shown ≡ shown ss (take i xs) = subst (λ (m : MultiState). c.loop-index.shown ≡ shown m.synced (take i m.excerpts)) (sym c.self.view_is) c.loop-index.invariant in
    let most : length (shown ss xs) ≤ 2 ^ 40 = subst (λ (m : MultiState). length (multi_text m) ≤ 2 ^ 40) (sym c.self.view_is) c.requires in
    let r = room_after ss xs i c.in-Some.excerpt.now c.self.invariant.excerpts (sym c.in-Some.ensures) in
    let now : c.append_break.new.shown ≡ shown ss (take i xs) ++ break_before i = c.in_ok-append_break.ensures ∙ ap (λ (bs : List ℕ). bs ++ break_before i) before in
    omega (arith, r, most, ap length now)

pub loop-index-preserved : goal.loop-index-preserved
loop-index-preserved c =
    let ss : List Source = c.self.inside.sources.items in
    let xs : List Excerpt = c.self.inside.excerpts in
    let i : ℕ = c.loop-index.index in
    let before : c.loop-index.shown ≡ shown ss (take i xs) = subst (λ (m : MultiState). c.loop-index.shown ≡ shown m.synced (take i m.excerpts)) (sym c.self.view_is) c.loop-index.invariant in
    subst (λ (m : MultiState). c.append_excerpt.new.shown ≡ shown m.synced (take (i + 1) m.excerpts)) c.self.view_is
    (c.in_ok-append_excerpt.ensures
    ∙ ap (λ (us : List Source). c.append_break.new.shown ++ excerpt_text us c.in-Some.excerpt.now) c.deref.ensures.value
    ∙ ap (λ (bs : List ℕ). bs ++ excerpt_text ss c.in-Some.excerpt.now) (c.in_ok-append_break.ensures ∙ ap (λ (bs : List ℕ). bs ++ break_before i) before)
    ∙ shown_next ss xs i c.in-Some.excerpt.now (sym c.in-Some.ensures))

pub returns : goal.returns
returns c =
    let ss : List Source = c.self.inside.sources.items in
    let xs : List Excerpt = c.self.inside.excerpts in
    let i : ℕ = c.loop-index.index in
    let all : c.loop-index.shown ≡ shown ss (take i xs) = subst (λ (m : MultiState). c.loop-index.shown ≡ shown m.synced (take i m.excerpts)) (sym c.self.view_is) c.loop-index.invariant in
    subst (λ (m : MultiState). c.loop-index.shown ≡ multi_text m) c.self.view_is (all ∙ shown_all ss xs i (omega arith))
