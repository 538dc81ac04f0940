-- The greatest of keys, as places.
use Rattle.std.specs.Prelude.{◌≡◌, Bool, true, false, not, cond, Option, Some, None}
use Rattle.std.specs.Ordering.{is_lt}
use Rattle.std.specs.declared.cmp.Ordering.{Ordering}
use Rattle.tree_cursor.specs.declared.traits.Bias.{Bias}
use Rattle.tree_cursor.specs.declared.traits.Bias.TheVariants.{Left, Right}

-- less is an order in which not less is transitive too
pub record IsLess {K : Type 0} (less : K → K → Bool) : Type 0 where
  pub up : (a b c : K) → less a b ≡ true → less b c ≡ true → less a c ≡ true
  pub down : (a b c : K) → less a b ≡ false → less b c ≡ false → less a c ≡ false

module _ {K : Type 0} (less : K → K → Bool) where
  -- the greater of two keys, the first where neither is less; no key is less than all
  abbrev pub greater : Option K → Option K → Option K
  greater None q = q
  greater (Some a) None = Some a
  greater (Some a) (Some b) = cond (less a b) (Some b) (Some a)

  abbrev pub key_less : Option K → Option K → Bool
  key_less None None = false
  key_less None (Some b) = true
  key_less (Some a) None = false
  key_less (Some a) (Some b) = less a b

  abbrev pub key_passes : Option K → Option K → Bias → Bool
  key_passes g p Left = not (key_less p g)
  key_passes g p Right = key_less g p

  abbrev pub IsLaterKey : Option K → Option K → Type 0
  IsLaterKey p q = (r : Option K) × (q ≡ greater p r)

-- an order gives such a less
abbrev pub cmp_less : {K : Type 0} → (K → K → Ordering) → K → K → Bool
cmp_less cmp a b = is_lt (cmp a b)
