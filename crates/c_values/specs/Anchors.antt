-- Anchors, as C keeps them.
use Rattle.std.specs.Prelude.{ℕ, Option, None, Some, ◌==◌, if◌then◌else◌}
use Rattle.std.specs.Option.{option_map}
use Rattle.op_model.specs.declared.anchor.Anchor.{Anchor}
use Rattle.op_model.specs.declared.anchor.Anchor.TheVariants.{Least, Greatest, At}
use Rattle.op_model.specs.declared.anchor.Bias.{Bias}
use Rattle.op_model.specs.declared.anchor.Bias.TheVariants.{Left, Right}
use Rattle.c_values.specs.declared.anchor.FlatAnchor.{FlatAnchor}

abbrev pub bias_number : Bias → ℕ
bias_number Left = 0
bias_number Right = 1

abbrev pub bias_at : ℕ → Option Bias
bias_at n = if n == 0 then Some Left else if n == 1 then Some Right else None

-- an anchor as plain numbers
abbrev pub flat : Anchor → FlatAnchor
flat Least = record { kind = 0; bias = 0; value = 0; replica = 0; offset = 0 }
flat Greatest = record { kind = 1; bias = 0; value = 0; replica = 0; offset = 0 }
flat (At t k b) = record { kind = 2; bias = bias_number b; value = t.value; replica = t.replica; offset = k }

-- the anchor of plain numbers
abbrev pub unflat : FlatAnchor → Option Anchor
unflat a =
    if a.kind == 0 then Some Least
    else if a.kind == 1 then Some Greatest
    else if a.kind == 2 then option_map (At (record { value = a.value; replica = a.replica }) a.offset) (bias_at a.bias)
    else None
