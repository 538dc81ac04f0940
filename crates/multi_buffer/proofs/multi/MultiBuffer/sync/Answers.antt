use Rattle.std.proofs.Common.{List, ap, map, refl, subst, sym, ◌∙◌}
use Rattle.multi_buffer.specs.Calls.{followed_in, IsWithin}
use Rattle.multi_buffer.specs.State.{MultiState, history_of}
use Rattle.multi_buffer.specs.Following.{IsMulti}
use Rattle.multi_buffer.specs.declared.source.Source.{Source}
use Rattle.multi_buffer.proofs.Followed.{is_synced, synced_multi}
use Rattle.multi_buffer.proofs.multi.MultiBuffer.sync.Goals as goal

pub invariant_of-self-2 : goal.invariant_of-self-2
invariant_of-self-2 c =
    let w = subst (λ (m : MultiState). IsWithin (history_of c.args.buffer m.synced) c.args.snap) (sym c.self.view_is) c.requires in
    synced_multi c.self.inside.excerpts c.self.inside.sources.items c.args.buffer c.args.snap c.self.invariant c.known.ensures w
    c.in_ok-excerpts.excerpts c.put.new.sources.items (c.in_ok-excerpts.ensures ∙ ap (λ (m : MultiState). map (followed_in c.args.buffer c.args.snap) m.excerpts) (sym c.self.view_is)) c.in_ok-put.ensures.ok

pub returns-clause-ok : goal.returns-clause-ok
returns-clause-ok c =
    is_synced c.args.self.now c.self.inside.excerpts c.in_ok-excerpts.excerpts c.self.inside.sources.items c.put.new.sources.items c.args.buffer c.args.snap c.self.view_is c.in_ok-excerpts.ensures c.in_ok-put.ensures.ok

pub invariant_of-self : goal.invariant_of-self
invariant_of-self c = subst (λ (ss : List Source). IsMulti c.self.inside.excerpts ss) (sym c.in_err-put.ensures.err) c.self.invariant

pub same-self : goal.same-self
same-self c = refl
