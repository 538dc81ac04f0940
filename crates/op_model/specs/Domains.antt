-- Which values a history is meant for. The definitions compute on all values; a law names those of these that it needs.
use Rattle.std.specs.Prelude.{◌≡◌, ℕ, ◌<◌, ◌≤◌, List, [], ◌∷◌, IsUtf8}
use Rattle.std.specs.List.{AllByRecursion}
use Rattle.op_model.specs.declared.operation.Piece.{Piece}
use Rattle.op_model.specs.declared.operation.Operation.{Operation}
use Rattle.op_model.specs.Operations.{stamp_of, pieces_of, last_replica}
use Rattle.op_model.specs.Histories.{History, Distinct, base}

-- the texts of pieces are UTF-8
abbrev pub AreUtf8 : List Piece → Type 0
AreUtf8 ps = AllByRecursion (λ (p : Piece). IsUtf8 p.text) ps

-- what laws of whole histories need of an operation: the value of its stamp is one of its type, its texts are UTF-8
abbrev pub IsProper : Operation → Type 0
IsProper op = ((stamp_of op).value < 4294967296) × AreUtf8 (pieces_of op)

-- the id of an editor's replica
abbrev pub IsReplica : ℕ → Type 0
IsReplica r = (1 ≤ r) × (r ≤ last_replica)

-- a list of operations with distinct stamps, the base first
abbrev pub IsHistory : History → Type 0
IsHistory [] = ⊥
IsHistory (op ∷ h) = ((t : List ℕ) × (op ≡ base t)) × Distinct (op ∷ h)
