use Rattle.std.proofs.Common.{◌<◌, ◌^◌, length, sym, subst, ◌∙◌, arith}
use Rattle.multi_buffer.specs.State.{MultiState}
use Rattle.session_excerpts.proofs.Syncing.{as_many, may_push}
use Rattle.session_excerpts.proofs.multi.put_excerpt.Goals as goal

pub push-requires-clause-within : goal.push-requires-clause-within
push-requires-clause-within c =
    may_push c.args.replica c.args.snapshots.items c.args.multi.now c.sync_all.new.multi _ c.in_ok-snapshot.snapshot c.requires.replica c.in_ok-sync_all.ensures.ok (c.in_ok-snapshot.ensures ∙ c.index.ensures)

pub push-requires-clause-few : goal.push-requires-clause-few
push-requires-clause-few c =
    let few = as_many 0 c.args.snapshots.items c.args.multi.now in
    subst (λ (m : MultiState). length m.excerpts < 2 ^ 20) (sym c.in_ok-sync_all.ensures.ok) (omega (arith, few, c.requires.few))
