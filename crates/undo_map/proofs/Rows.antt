-- Worked rows of undo counts.
use Rattle.std.proofs.Common.{◌≡◌, refl, ℕ, true, false, List, [], ◌∷◌}
use Rattle.lamport_clock.specs.declared.stamp.Lamport.{Lamport}
use Rattle.lamport_clock.specs.Stamps.{same_stamp}
use Rattle.undo_map.specs.declared.entry.UndoEntry.{UndoEntry}
use Rattle.undo_map.specs.Counts.{count_of, count_seen, is_odd, with_count}

abbrev at : ℕ → ℕ → Lamport
at v r = record { value = v; replica = r }

abbrev gives : Lamport → ℕ → UndoEntry
gives by count = record { edit = at 2 1; by = by; count = count }

-- 2.1 is undone by 3.1 and by 3.2 at once, which is once, and redone by 5.1
abbrev twice : List UndoEntry
twice = gives (at 3 1) 1 ∷ gives (at 3 2) 1 ∷ []

abbrev redone : List UndoEntry
redone = gives (at 3 1) 1 ∷ gives (at 3 2) 1 ∷ gives (at 5 1) 2 ∷ []

kept : (with_count (gives (at 3 1) 1) (gives (at 3 2) 1 ∷ []) ≡ twice) × (with_count (gives (at 5 1) 2) twice ≡ redone) × (with_count (gives (at 5 1) 1) redone ≡ redone)
kept = (refl, refl, refl)

once : (count_of twice (at 2 1) ≡ 1) × (is_odd (count_of twice (at 2 1)) ≡ true) × (count_of twice (at 2 2) ≡ 0)
unfolding same_stamp
once = (refl, refl, refl)

again : (count_of redone (at 2 1) ≡ 2) × (is_odd (count_of redone (at 2 1)) ≡ false) × (count_seen redone (at 2 1) ((1, 3) ∷ (2, 3) ∷ []) ≡ 1)
unfolding same_stamp
again = (refl, refl, refl)
