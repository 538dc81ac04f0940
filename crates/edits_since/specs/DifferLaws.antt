-- Where a version has seen all of two runs together, it has seen all of each.
use Rattle.std.proofs.Common.{◌≡◌, true, false, refl}
use Rattle.std.proofs.lemmas.Bool.{not-false}
use Rattle.lamport_clock.specs.Versions.{Entries, within}
use Rattle.lamport_clock.proofs.Sees.{sees_joined, sees_within, within_by_seen}
use Rattle.fragments.specs.declared.fragment.FragmentSummary.{FragmentSummary}
use Rattle.fragments.specs.Summaries.{IsSummary, summaries}
use Rattle.edits_since.specs.Differs.{may_differ}

-- v has seen all of a sum
pub all_within : (v : Entries) (s : FragmentSummary) → may_differ v s ≡ false → within s.greatest v ≡ true
all_within v s h = not-false (within s.greatest v) h

-- where v has seen all of two runs together, it has seen all of each
pub differ_parts : (v : Entries) (a b : FragmentSummary) → IsSummary a → IsSummary b → may_differ v (summaries a b) ≡ false → (may_differ v a ≡ false) × (may_differ v b ≡ false)
differ_parts v a b p q h =
    let w : within (summaries a b).greatest v ≡ true = all_within v (summaries a b) h in
    let x : within a.greatest v ≡ true = within_by_seen 0 a.greatest v p.entries (λ t s. sees_within (summaries a b).greatest v t w ((sees_joined a.greatest b.greatest t).0 s)) in
    let y : within b.greatest v ≡ true = within_by_seen 0 b.greatest v q.entries (λ t s. sees_within (summaries a b).greatest v t w ((sees_joined a.greatest b.greatest t).1 s)) in
    (rw x refl, rw y refl)
