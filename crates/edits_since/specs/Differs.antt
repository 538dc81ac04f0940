-- Which runs of fragments may have changed since a version.
use Rattle.std.proofs.Common.{Bool, not}
use Rattle.lamport_clock.specs.Versions.{Entries, within}
use Rattle.fragments.specs.declared.fragment.FragmentSummary.{FragmentSummary}

-- v has not seen all that a sum has
abbrev pub may_differ : Entries → FragmentSummary → Bool
may_differ v s = not (within s.greatest v)
