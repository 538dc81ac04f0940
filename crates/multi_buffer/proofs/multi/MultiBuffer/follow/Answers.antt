use Rattle.std.proofs.Common.{subst, sym}
use Rattle.multi_buffer.specs.Calls.{IsWithin}
use Rattle.multi_buffer.specs.State.{MultiState, history_of}
use Rattle.multi_buffer.proofs.Followed.{may_all}
use Rattle.multi_buffer.proofs.multi.MultiBuffer.follow.Goals as goal

pub follow-requires : goal.follow-requires
follow-requires c =
    may_all c.self.inside.excerpts c.self.inside.sources.items c.args.buffer c.args.snap.now c.self.invariant c.known.ensures
    (subst (λ (m : MultiState). IsWithin (history_of c.args.buffer m.synced) c.args.snap.now) (sym c.self.view_is) c.requires)
