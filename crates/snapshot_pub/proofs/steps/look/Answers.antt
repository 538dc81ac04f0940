use Rattle.std.proofs.Common.{refl, ◌∙◌, arith}
use Rattle.snapshot_pub.proofs.Following.{turns, sees_also, may_see, own_book}
use Rattle.snapshot_pub.proofs.steps.look.Goals as goal

pub enter_as-requires : goal.enter_as-requires
enter_as-requires g c x = turns _ _ _ x

pub begins_with-requires : goal.begins_with-requires
begins_with-requires g c =
    let seen = sees_also _ _ _ _ _ c.in-Ok.reading.part.value c.in-Ok-shared.kept c.in-Ok.ensures.1 refl (c.in-Ok-shared.ensures ∙ c.get.ensures) c.leave-end.ensures.1 in
    own_book _ _ c.in-Ok-shared.kept c.requires.own seen.0

pub returns-then-begins_with-clause-seen : goal.returns-then-begins_with-clause-seen
returns-then-begins_with-clause-seen g c =
    let seen = sees_also _ _ _ _ _ c.in-Ok.reading.part.value c.in-Ok-shared.kept c.in-Ok.ensures.1 refl (c.in-Ok-shared.ensures ∙ c.get.ensures) c.leave-end.ensures.1 in record {
      follows = seen.0;
      is = seen.1 (omega (arith, c.requires.least, c.if-begins_with.ensures.length));
    }

pub returns-in-Err-shared-clause-seen : goal.returns-in-Err-shared-clause-seen
returns-in-Err-shared-clause-seen g c = may_see _ _ _ c.in-Ok.reading.part.value (sees_also _ _ _ _ _ c.in-Ok.reading.part.value c.in-Ok.reading.part.value c.in-Ok.ensures.1 refl refl c.leave-end.ensures.1)
