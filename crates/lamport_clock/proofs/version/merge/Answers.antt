use Rattle.std.proofs.Common.{◌≡◌, ◌∙◌, ◌++◌, sym, ap, subst, max, [], ◌∷◌, get_or, drop, ◌+◌, ℕ}
use Rattle.lamport_clock.specs.Versions.{Entries, IsVersion, behind, join_versions}
use Rattle.lamport_clock.proofs.Joining.{joined_turn, version_drop, version_behind}
use Rattle.lamport_clock.proofs.version.merge.Goals as goal

pub loop-replica-preserved : goal.loop-replica-preserved
loop-replica-preserved c =
    let i = c.loop-replica.invariant in
    let e : ℕ × ℕ = get_or c.args.theirs.now c.loop-replica.replica-index (0, 0) in
    let w : Entries = drop (c.loop-replica.replica-index + 1) c.args.theirs.now in
    let from : Entries = c.split_at.result.1.now in
    let greater : c.max.result ≡ max _ e.1 = c.max.ensures ∙ ap (λ x. max x e.1) c.value_in_front.ensures in
    let turn = joined_turn c.loop-replica.rest.now c.args.theirs.now c.loop-replica.all.items c.split_at.result.0.now from c.loop-replica.replica-index c.place_in.result c.max.result i.version c.requires.theirs c.loop-replica-test.true c.place_in.ensures.place c.split_at.ensures.front c.split_at.ensures.back greater in
    let pushed = c.in_ok-push.ensures.ok ∙ ap (λ (z : Entries). z ++ (e.0, c.max.result) ∷ []) c.in_ok-extend_from_slice.ensures.ok in
    record {
      version = subst IsVersion (sym c.behind-rest.ensures) (version_behind 0 e.0 from (subst IsVersion (sym c.split_at.ensures.back) (version_drop 0 c.place_in.result c.loop-replica.rest.now i.version)));
      same = i.same ∙ turn ∙ ap (λ z. z ++ join_versions (behind from e.0) w) (sym pushed) ∙ ap (λ z. c.push.new.self.items ++ join_versions z w) (sym c.behind-rest.ensures);
    }
