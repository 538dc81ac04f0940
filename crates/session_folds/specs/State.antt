-- What a session has folded.
use Rattle.std.specs.Prelude.{ℕ, ◌==◌, List, [], ◌∷◌, map, Option, None, Some, IfSome, if◌then◌else◌}
use Rattle.std.specs.List.{find}
use Rattle.std.specs.Option.{option_map_or}
use Rattle.op_model.specs.Histories.{History}
use Rattle.fold_map.specs.Calls.{IsWithin}
use Rattle.fold_map.specs.Folds.{FoldState}

-- a replica, and the map of its text where a line of folds has asked for it, as it was at the last such line
pub record ReplicaFolds : Type 0 where
  pub replica : ℕ
  pub shown : Option FoldState

-- nothing is folded, and no map is made
abbrev pub no_folds : ℕ → ReplicaFolds
no_folds r = record { replica = r; shown = None }

abbrev pub opening_folds : List ℕ → List ReplicaFolds
opening_folds rs = map no_folds rs

-- the folds of replica r
abbrev pub folds_of : ℕ → List ReplicaFolds → Option ReplicaFolds
folds_of r fs = find (λ f. f.replica == r) fs

-- all folds, those of replica r changed by f
abbrev pub with_folds : ℕ → (ReplicaFolds → ReplicaFolds) → List ReplicaFolds → List ReplicaFolds
with_folds r f [] = []
with_folds r f (x ∷ xs) = if x.replica == r then f x ∷ xs else x ∷ with_folds r f xs

-- the folds of a replica over its text, that of h
abbrev pub synced : History → ReplicaFolds → FoldState
synced h f = record { history = h; folds = option_map_or (λ (m : FoldState). m.folds) f.shown [] }

-- the replica with this map
abbrev pub with_map : FoldState → ReplicaFolds → ReplicaFolds
with_map m f = record { replica = f.replica; shown = Some m }

-- the map, if there is one, is over a text that has gone on to that of h
abbrev pub GoesOn : History → Option FoldState → Type 0
GoesOn h None = Unit {0}
GoesOn h (Some m) = IsWithin m.history h

-- the map of replica r, if there is one, is over a text that has gone on to that of h
abbrev pub GoesOnAt : ℕ → History → List ReplicaFolds → Type 0
GoesOnAt r h fs = IfSome (folds_of r fs) (λ f. GoesOn h f.shown)
