-- What the calls of a fold map do, and why they are refused.
use Rattle.std.specs.Prelude.{◌≡◌, ℕ, ◌==◌, ◌&&◌, not, nat_lt, max, min, Bool, [], ◌∷◌, ◌++◌, length, Option, Some}
use Rattle.std.specs.List.{filter}
use Rattle.op_model.specs.declared.operation.Operation.{Operation}
use Rattle.op_model.specs.Choice.{first_of, when}
use Rattle.op_model.specs.Histories.{History, In, version}
use Rattle.op_model.specs.Edits.{is_boundary}
use Rattle.op_model.specs.Shown.{text}
use Rattle.op_model.specs.Anchors.{left_anchor, right_anchor, place}
use Rattle.op_model.specs.Lawful.{unseen_replica}
use Rattle.fold_map.specs.declared.fold.Fold.{Fold}
use Rattle.fold_map.specs.declared.faults.FoldFault.{FoldFault}
use Rattle.fold_map.specs.declared.faults.FoldFault.TheVariants.{Reversed, PastEnd, InsideChar, EmptyRange}
use Rattle.fold_map.specs.Folds.{FoldState}

-- why s..e is not folded or unfolded
abbrev pub fold_fault : History → ℕ → ℕ → Option FoldFault
fold_fault h s e = first_of (
    when (nat_lt e s) (Reversed 0)
    ∷ when (nat_lt (length (text h)) e) (PastEnd 0 (length (text h)))
    ∷ when (not (is_boundary (text h) s && is_boundary (text h) e)) (InsideChar 0)
    ∷ when (s == e) EmptyRange
    ∷ [])

-- the fold of s..e: the Right anchor at its start and the Left one at its end
pub record IsFoldOf (h : History) (s e : ℕ) (f : Fold) : Type 0 where
  pub start : right_anchor h s ≡ Some f.start
  pub end : left_anchor h e ≡ Some f.end

-- n is m with the fold of s..e after its others
pub record IsFolded (m n : FoldState) (s e : ℕ) : Type 0 where
  pub fold : Fold
  pub is_made : IsFoldOf m.history s e fold
  pub history : n.history ≡ m.history
  pub folds : n.folds ≡ m.folds ++ fold ∷ []

-- the range of a fold shares a byte with s..e
abbrev pub shares : History → ℕ → ℕ → Fold → Bool
shares h s e f = nat_lt (max (place h f.start) s) (min (place h f.end) e)

-- without the folds whose ranges share a byte with s..e
abbrev pub unfolded : ℕ → ℕ → FoldState → FoldState
unfolded s e m = record { history = m.history; folds = filter (λ f. not (shares m.history s e f)) m.folds }

-- the least replica of which the history g has less than h
abbrev pub older_replica : History → History → Option ℕ
older_replica h g = unseen_replica g (version h)

-- each operation of h is in g
abbrev pub IsWithin : History → History → Type 0
IsWithin h g = (op : Operation) → In h op → In g op
