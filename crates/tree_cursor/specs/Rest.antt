-- What contracts see of a path.
use Rattle.std.specs.Prelude.{ℕ, List}

-- the items that are left, and those of them in the innermost level; how many levels there are above that; a bound on
-- the steps that go through all that is left, and one on those that go down from the innermost level to one item of it
pub record Rest (T : Type 0) : Type 0 where
  pub items : List T
  pub inner : List T
  pub depth : ℕ
  pub work : ℕ
  pub looks : ℕ
