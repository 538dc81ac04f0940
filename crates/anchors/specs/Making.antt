-- Anchors made at offsets of a text.
use Rattle.std.specs.Prelude.{ℕ, ◌+◌, ◌<◌, ◌^◌, Option}
use Rattle.op_model.specs.Histories.{History}
use Rattle.op_model.specs.Cells.{Cell}
use Rattle.op_model.specs.Anchors.{left_anchor, right_anchor}
use Rattle.op_model.specs.declared.anchor.Anchor.{Anchor}
use Rattle.op_model.specs.declared.anchor.Bias.{Bias}
use Rattle.op_model.specs.declared.anchor.Bias.TheVariants.{Left, Right}
use Rattle.anchors.specs.declared.making.Byte.{Byte}

-- the anchor made at an offset, which keeps to the byte before it or behind it
abbrev pub made_anchor : History → ℕ → Bias → Option Anchor
made_anchor h o Left = left_anchor h o
made_anchor h o Right = right_anchor h o

-- ---- for private clauses

abbrev pub cell_of : Byte → Cell
cell_of b = record { stamp = b.stamp; k = b.k }

-- the number behind a byte is a u64
abbrev pub NextFits : Byte → Type 0
NextFits b = b.k + 1 < 2 ^ 64
