-- The greatest key of a run of items, as its sum.
use Rattle.std.specs.Prelude.{None}
use Rattle.std.specs.declared.cmp.Ordering.{Ordering}
use Rattle.tree_cursor.specs.Keys.{greater, cmp_less}
use Rattle.tree_cursor.specs.declared.ready.Greatest.{Greatest}

-- that of no items
abbrev pub nothing_greatest : {K : Type 0} → Greatest K
nothing_greatest = record { key = None }

-- that of two runs, one behind the other
abbrev pub greatest_sum : {K : Type 0} → (K → K → Ordering) → Greatest K → Greatest K → Greatest K
greatest_sum cmp a b = record { key = greater (cmp_less cmp) a.key b.key }

-- any is a sum, is one that there is room for, and is one that a single item may have
abbrev pub AnyGreatest : {K : Type 0} → Greatest K → Type 0
AnyGreatest a = Unit {0}
