-- What a session has selected.
use Rattle.std.specs.Prelude.{ℕ, ◌==◌, List, [], ◌∷◌, map, Option, if◌then◌else◌}
use Rattle.std.specs.List.{find}
use Rattle.selections.specs.Sets.{SelectionState, new_state}
use Rattle.selections.specs.declared.selection.SelectionOp.{SelectionOp}
use Rattle.session_selections.specs.Names.{Names}

-- the sets of a session's replicas, in the header's order, and the operations that it keeps under names
pub record SelectionWork : Type 0 where
  pub sets : List SelectionState
  pub selects : Names SelectionOp

-- nothing is selected yet
abbrev pub opening_selections : List ℕ → SelectionWork
opening_selections rs = record { sets = map new_state rs; selects = [] }

-- the sets of replica r
abbrev pub sets_of : ℕ → List SelectionState → Option SelectionState
sets_of r ss = find (λ s. s.replica == r) ss

-- all sets, those of replica r changed by f
abbrev pub with_sets : ℕ → (SelectionState → SelectionState) → List SelectionState → List SelectionState
with_sets r f [] = []
with_sets r f (s ∷ ss) = if s.replica == r then f s ∷ ss else s ∷ with_sets r f ss
