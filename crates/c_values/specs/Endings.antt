-- What a buffer does with line endings, as C says it.
use Rattle.std.specs.Prelude.{ℕ, Option, None, Some, ◌==◌, if◌then◌else◌}
use Rattle.op_model.specs.declared.endings.Endings.{Endings}
use Rattle.op_model.specs.declared.endings.Endings.TheVariants.{AsIs, Lf}

abbrev pub endings_at : ℕ → Option Endings
endings_at n = if n == 0 then Some AsIs else if n == 1 then Some Lf else None
