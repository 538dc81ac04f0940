use Rattle.std.proofs.Common.{◌≡◌, ℕ, None, subst, sym}
use Rattle.op_model.specs.Anchors.{place_fault}
use Rattle.multi_buffer.proofs.Followed.{left_faultless, right_faultless}
use Rattle.multi_buffer.proofs.making.follow.Goals as goal

pub excerpt_of-requires-clause-start : goal.excerpt_of-requires-clause-start
excerpt_of-requires-clause-start c =
    subst (λ (o : ℕ). place_fault c.args.snapshot.now o ≡ None) (sym c.place-start.ensures) (left_faultless c.args.snapshot.now c.known.ensures c.args.excerpt.now c.requires)

pub excerpt_of-requires-clause-end : goal.excerpt_of-requires-clause-end
excerpt_of-requires-clause-end c =
    subst (λ (o : ℕ). place_fault c.args.snapshot.now o ≡ None) (sym c.place-end.ensures) (right_faultless c.args.snapshot.now c.known.ensures c.args.excerpt.now c.requires)
