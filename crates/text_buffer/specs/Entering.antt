-- Which texts enter a buffer changed.
use Rattle.std.specs.Prelude.{Bool, false, List}
use Rattle.std.specs.List.{list_any}
use Rattle.op_model.specs.declared.endings.Endings.{Endings}
use Rattle.op_model.specs.declared.endings.Endings.TheVariants.{AsIs, Lf}
use Rattle.op_model.specs.declared.operation.Piece.{Piece}
use Rattle.op_model.specs.Rules.{has_return}

-- one of the texts enters changed
abbrev pub is_rewritten : Endings → List Piece → Bool
is_rewritten AsIs ps = false
is_rewritten Lf ps = list_any has_return ps
