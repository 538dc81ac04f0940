use Rattle.std.proofs.Common.{sym, ◌∙◌}
use Rattle.lamport_clock.proofs.Joined.{joined_seen}
use Rattle.fragments.proofs.Exchanging.{spans_covered}
use Rattle.fragments.proofs.fragment.FragmentSummary.absorbs.Goals as goal
use Rattle.fragments.proofs.fragment.FragmentSummary.absorbs.Goals.{then-id_absorbs, else-id_absorbs}

pub returns-then-covers : goal.returns-then-covers
returns-then-covers c = λ h.
    let s = c.args.self.now in
    let o = c.args.other.now in
    elim c.if-id_absorbs.branch [
      | then-id_absorbs w ↦ record {
        id = rw (← c.as_ref.ensures.value, ← c.as_ref-2.ensures.value) (c.id_absorbs.ensures w.if-id_absorbs.true);
        span = spans_covered s.span o.span (sym w.covers.ensures ∙ sym w.value-is ∙ c.if-covers.true);
        greatest = joined_seen s.greatest o.greatest (sym c.sees_all.ensures ∙ h);
      }
      | else-id_absorbs w ↦ absurd (let no = sym w.value-is ∙ c.if-covers.true in cc)
    ]
