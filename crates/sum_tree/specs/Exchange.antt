-- Sums where a part of a run is replaced.
use Rattle.std.specs.Prelude.{◌≡◌, ℕ, List, take, drop, Vec}
use Rattle.std.specs.Global.{Global}
use Rattle.sum_tree.specs.Laws.{fold}
use Rattle.sum_tree.specs.declared.exchange.Sums.{Sums}
use Rattle.sum_tree.specs.declared.here.Placing.{Placing}
use Rattle.sum_tree.specs.declared.here.Placing.TheVariants.{Done, Split, Back}
use Rattle.sum_tree.specs.declared.tree.Content.{Content}
use Rattle.sum_tree.specs.declared.tree.Content.TheVariants.{Leaf, Inner}

-- wherever `out` stands in the sum `whole`, `sum` is the sum with `put` in its place
abbrev pub IsExchange : {S : Type 0} → (S → S → S) → (S → Type 0) → S → S → S → S → Type 0
IsExchange {S} op admits whole out put sum = (a b : S) → admits a → admits out → admits put → admits b
    → whole ≡ op (op a out) b → sum ≡ op (op a put) b

-- ---- for private clauses

-- the sums of the n items of xs from i on and of the items ys that replace them
pub record AreSums {T S : Type 0} (empty : S) (op : S → S → S) (sum_of : T → S) (i n : ℕ) (ys xs : List T) (e : Sums S) : Type 0 where
  pub out : e.out ≡ fold empty op sum_of (take n (drop i xs))
  pub put : e.put ≡ fold empty op sum_of ys

-- the same entries, or the same children
abbrev pub IsCopy : {T S : Type 0} → Content T S → Content T S → Type 0
IsCopy (Leaf v) (Leaf w) = w.items ≡ v.items
IsCopy (Inner v) (Inner w) = w.items ≡ v.items
IsCopy (Leaf v) (Inner w) = ⊥
IsCopy (Inner v) (Leaf w) = ⊥

-- if the change is made, n is the new length and z the new sum, otherwise both are as they were
abbrev pub IsRenewed : {S E N : Type 0} → ℕ → ℕ → ℕ → S → S → S → Placing (Vec S Global) E N → Type 0
IsRenewed n len len' s s' z (Done none) = (len' ≡ n) × (s' ≡ z)
IsRenewed n len len' s s' z (Split a b none) = (len' ≡ len) × (s' ≡ s)
IsRenewed n len len' s s' z (Back es) = (len' ≡ len) × (s' ≡ s)

-- P, where the new entries are handed back
abbrev pub OnBack : {S E N : Type 0} → Placing S E N → Type 0 → Type 0
OnBack (Done none) P = Unit {0}
OnBack (Split a b none) P = Unit {0}
OnBack (Back es) P = P
