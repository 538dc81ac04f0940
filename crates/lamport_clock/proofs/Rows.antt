-- Worked rows of clocks and versions.
use Rattle.std.proofs.Common.{◌≡◌, refl, [], ◌∷◌, true, false, Some, None}
use Rattle.lamport_clock.specs.Clocks.{clock_after}
use Rattle.lamport_clock.specs.Versions.{Entries, entry, sees, within, raise, first_unseen, join_versions}

abbrev seen : Entries
seen = (0, 1) ∷ (7, 9) ∷ []

clocks : (clock_after 1 1 ≡ 2) × (clock_after 3 9 ≡ 10) × (clock_after 10 4294967294 ≡ 4294967295) × (clock_after 4294967295 1 ≡ 4294967295)
clocks = (refl, refl, refl, refl)

entries : (entry seen 7 ≡ 9) × (entry seen 3 ≡ 0)
entries = (refl, refl)

sight : (sees seen (record { value = 9; replica = 7 }) ≡ true) × (sees seen (record { value = 1; replica = 3 }) ≡ false)
sight = (refl, refl)

raised : raise seen (record { value = 4; replica = 3 }) ≡ (0, 1) ∷ (3, 4) ∷ (7, 9) ∷ []
raised = refl

raised_further : raise seen (record { value = 12; replica = 7 }) ≡ (0, 1) ∷ (7, 12) ∷ []
raised_further = refl

not_lowered : raise seen (record { value = 8; replica = 7 }) ≡ seen
not_lowered = refl

inside_one_another : (within ((7, 9) ∷ []) seen ≡ true) × (within seen ((7, 9) ∷ []) ≡ false)
inside_one_another = (refl, refl)

-- what has seen 2.1 misses 3 of replica 1, and sees it after the join
abbrev early : Entries
early = (1, 2) ∷ []

abbrev later_ones : Entries
later_ones = (1, 3) ∷ (2, 1) ∷ []

missing : (first_unseen early later_ones ≡ Some (1, 3)) × (first_unseen later_ones early ≡ None)
missing = (refl, refl)

joining : (join_versions early later_ones ≡ later_ones) × (join_versions later_ones early ≡ later_ones) × (join_versions early seen ≡ (0, 1) ∷ (1, 2) ∷ (7, 9) ∷ [])
joining = (refl, refl, refl)
