-- Worked rows: the record of one insertion, and what bytes that are no record come to.
use Rattle.std.proofs.Common.{◌≡◌, ℕ, List, [], ◌∷◌, take, Err, refl}
use Rattle.op_model.specs.declared.operation.Operation.{Operation}
use Rattle.op_model.specs.declared.operation.Operation.TheVariants.{Edit}
use Rattle.op_wire.specs.declared.fault.Word.TheVariants.{Kind}
use Rattle.op_wire.specs.declared.fault.Stop.TheVariants.{Short, Bad}
use Rattle.op_wire.specs.Spelling.{spelling}
use Rattle.op_wire.specs.Reading.{stamp_at, checked_at, entry_at, entries_at, version_at, string_at, text_at, range_at, piece_at, pieces_at, all_pieces_at, head_at, edit_at, record_at}

-- an insertion of X
abbrev insertion : Operation
insertion = Edit (record { stamp = record { value = 2; replica = 1 }; version = (0, 1) ∷ []; pieces = record { start = 1; end = 1; text = 88 ∷ [] } ∷ [] })

abbrev row : List ℕ
row = 1 ∷ 0 ∷ 0 ∷ 0 ∷ 2 ∷ 0 ∷ 1 ∷ 0 ∷ 0 ∷ 0 ∷ 1 ∷ 0 ∷ 0 ∷ 0 ∷ 0 ∷ 0 ∷ 1 ∷ 0 ∷ 0 ∷ 0 ∷ 1 ∷ 0 ∷ 0 ∷ 0 ∷ 0 ∷ 0 ∷ 0 ∷ 0 ∷ 1 ∷ 0 ∷ 0 ∷ 0 ∷ 0 ∷ 0 ∷ 0 ∷ 0 ∷ 1 ∷ 0 ∷ 0 ∷ 0 ∷ 1 ∷ 88 ∷ []

row_58 : spelling insertion ≡ row
row_58 = refl

row_59_kind : record_at (3 ∷ []) ≡ Err (Bad Kind 1)
unfolding record_at
row_59_kind = refl

row_59_cut : record_at (take 41 row) ≡ Err Short
unfolding record_at edit_at head_at all_pieces_at pieces_at piece_at range_at text_at string_at version_at entries_at entry_at checked_at stamp_at
row_59_cut = refl
