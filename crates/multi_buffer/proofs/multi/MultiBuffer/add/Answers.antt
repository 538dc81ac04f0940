use Rattle.std.proofs.Common.{List, [], ◌∷◌, ◌++◌, map, ap, refl, subst, sym, ◌∙◌, arith}
use Rattle.multi_buffer.specs.declared.excerpt.Excerpt.{Excerpt}
use Rattle.multi_buffer.specs.Calls.{followed_in, IsWithin}
use Rattle.multi_buffer.specs.Found.{IsShort}
use Rattle.multi_buffer.specs.State.{MultiState, history_of}
use Rattle.multi_buffer.specs.Following.{IsMulti}
use Rattle.multi_buffer.specs.declared.source.Source.{Source}
use Rattle.multi_buffer.proofs.Followed.{end_faultless, follow_count, is_pushed, pushed_multi, pushed_short, start_faultless}
use Rattle.multi_buffer.proofs.multi.MultiBuffer.add.Goals as goal

pub excerpt_of-requires-clause-start : goal.excerpt_of-requires-clause-start
excerpt_of-requires-clause-start c = start_faultless c.args.snap c.known.ensures c.args.s c.args.e c.requires.faultless

pub excerpt_of-requires-clause-end : goal.excerpt_of-requires-clause-end
excerpt_of-requires-clause-end c = end_faultless c.args.snap c.known.ensures c.args.s c.args.e c.requires.faultless

pub push-requires-clause-short : goal.push-requires-clause-short
push-requires-clause-short c = subst (λ (x : Excerpt). IsShort x) (sym c.excerpt_of.ensures) (pushed_short c.args.snap c.known.ensures c.args.s c.args.e c.requires.faultless c.args.buffer)

pub push-requires-clause-few : goal.push-requires-clause-few
push-requires-clause-few c =
    let n = follow_count c.args.buffer c.args.snap c.args.self.now.excerpts c.in_ok-excerpts.excerpts c.in_ok-excerpts.ensures in
    let f = c.requires.few in
    omega arith

pub invariant_of-self-2 : goal.invariant_of-self-2
invariant_of-self-2 c =
    let w = subst (λ (m : MultiState). IsWithin (history_of c.args.buffer m.synced) c.args.snap) (sym c.self.view_is) c.requires.within in
    let e = c.in_ok-excerpts.ensures ∙ ap (λ (m : MultiState). map (followed_in c.args.buffer c.args.snap) m.excerpts) (sym c.self.view_is) in
    let p = c.in_ok-push.ensures.ok ∙ ap (λ (x : Excerpt). c.in_ok-excerpts.excerpts ++ x ∷ []) c.excerpt_of.ensures in
    pushed_multi c.self.inside.excerpts c.self.inside.sources.items c.args.buffer c.args.snap c.self.invariant c.known.ensures w c.args.s c.args.e c.requires.faultless
    c.in_ok-excerpts.excerpts c.push.new.self c.put.new.sources.items e p c.in_ok-put.ensures.ok

pub returns-clause-new : goal.returns-clause-new
returns-clause-new c =
    let p = c.in_ok-push.ensures.ok ∙ ap (λ (x : Excerpt). c.in_ok-excerpts.excerpts ++ x ∷ []) c.excerpt_of.ensures in
    is_pushed c.args.self.now c.self.inside.excerpts c.in_ok-excerpts.excerpts c.push.new.self c.self.inside.sources.items c.put.new.sources.items c.args.buffer c.args.s c.args.e c.args.snap c.self.view_is c.in_ok-excerpts.ensures p c.in_ok-put.ensures.ok

pub returns-clause-index : goal.returns-clause-index
returns-clause-index c =
    let n = follow_count c.args.buffer c.args.snap c.args.self.now.excerpts c.in_ok-excerpts.excerpts c.in_ok-excerpts.ensures in
    c.len-index.ensures ∙ n

pub invariant_of-self : goal.invariant_of-self
invariant_of-self c = subst (λ (ss : List Source). IsMulti c.self.inside.excerpts ss) (sym c.in_err-put.ensures.err) c.self.invariant

pub same-self : goal.same-self
same-self c = refl

pub same-self-in_err-push : goal.same-self-in_err-push
same-self-in_err-push c = refl

pub overflow_cast-result : goal.overflow_cast-result
overflow_cast-result c =
    let n = follow_count c.args.buffer c.args.snap c.args.self.now.excerpts c.in_ok-excerpts.excerpts c.in_ok-excerpts.ensures in
    let f = c.requires.few in
    omega (arith, n, f, c.len-index.ensures)
