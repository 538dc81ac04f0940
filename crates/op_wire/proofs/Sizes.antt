-- How many bytes records have, and that operations in memory have records.
use Rattle.std.proofs.Common.{◌≡◌, ℕ, ◌+◌, ◌*◌, ◌<◌, ◌≤◌, List, [], ◌∷◌, ◌++◌, length, Some, refl, sym, ap, arith, length-append}
use Rattle.std.specs.List.{flat_map, AllByRecursion}
use Rattle.std.specs.Int.{w32, to_be_bytes}
use Rattle.std.proofs.lemmas.Bool.{le-ltb, lt-ltb}
use Rattle.std.proofs.lemmas.List.Concat.{flat_map-cons}
use Rattle.lamport_clock.specs.Versions.{Entries, IsVersion}
use Rattle.op_model.specs.declared.operation.Piece.{Piece}
use Rattle.op_model.specs.declared.operation.UndoCount.{UndoCount}
use Rattle.op_model.specs.declared.operation.EditOp.{EditOp}
use Rattle.op_model.specs.declared.operation.UndoOp.{UndoOp}
use Rattle.op_model.specs.declared.operation.Operation.TheVariants.{Edit, Undo}
use Rattle.op_model.specs.Operations.{text_total}
use Rattle.op_wire.specs.Spelling.{limit, entry, piece, count, spelling, long_sum, long_number, IsStamp, IsCount, HasSpelling}
use Rattle.op_wire.specs.Encoding.{HaveBytes, HasSize}
use Rattle.op_wire.proofs.Entries.{versions_are_short}

length-entries : (v : Entries) → length (flat_map entry v) ≡ 6 * length v
length-entries [] = refl
length-entries (e ∷ v) = omega (arith, ap length (flat_map-cons entry e v), length-append (entry e) (flat_map entry v), length-entries v)

length-pieces : (ps : List Piece) → length (flat_map piece ps) ≡ 20 * length ps + text_total ps
length-pieces [] = refl
length-pieces (p ∷ ps) = omega (arith, ap length (flat_map-cons piece p ps), length-append (piece p) (flat_map piece ps), length-pieces ps)

length-counts : (cs : List UndoCount) → length (flat_map count cs) ≡ 10 * length cs
length-counts [] = refl
length-counts (c ∷ cs) = omega (arith, ap length (flat_map-cons count c cs), length-append (count c) (flat_map count cs), length-counts cs)

-- ---- an edit

pub long_pieces : (e : EditOp) → IsVersion e.version → limit < length e.pieces → long_number (Edit e) ≡ Some (length e.pieces)
long_pieces e v lt = rw (le-ltb _ _ (versions_are_short e.version v), lt-ltb _ _ lt) refl

pub long_texts : (e : EditOp) (n : ℕ) → IsVersion e.version → length e.pieces ≤ limit → long_sum 0 e.pieces ≡ Some n → long_number (Edit e) ≡ Some n
long_texts e n v le h = rw (le-ltb _ _ (versions_are_short e.version v), le-ltb _ _ le, h) refl

edit_fits : (e : EditOp) (n : ℕ) → IsStamp e.stamp → IsVersion e.version → length e.pieces ≤ limit → HaveBytes e.pieces n → HasSpelling (Edit e)
edit_fits e n t v le h = record { stamp = t; version = v; pieces = h.each; counts = tt; short = rw (le-ltb _ _ (versions_are_short e.version v), le-ltb _ _ le, h.short) refl }

length-edit : (e : EditOp) → length (spelling (Edit e)) ≡ 15 + 6 * length e.version + 20 * length e.pieces + text_total e.pieces
length-edit e = omega (arith, length-append (flat_map entry e.version) (to_be_bytes w32 (length e.pieces) ++ flat_map piece e.pieces), length-entries e.version, length-pieces e.pieces)

pub edit_size : (e : EditOp) (n : ℕ) → IsStamp e.stamp → IsVersion e.version → length e.pieces ≤ limit → HaveBytes e.pieces n → HasSize (Edit e) (15 + 6 * length e.version + 20 * length e.pieces + n)
edit_size e n t v le h = record { fits = edit_fits e n t v le h; size = omega (arith, h.total, length-edit e) }

-- ---- an undo

pub long_counts : (u : UndoOp) → IsVersion u.version → limit < length u.counts → long_number (Undo u) ≡ Some (length u.counts)
long_counts u v lt = rw (le-ltb _ _ (versions_are_short u.version v), lt-ltb _ _ lt) refl

length-undo : (u : UndoOp) → length (spelling (Undo u)) ≡ 15 + 6 * length u.version + 10 * length u.counts
length-undo u = omega (arith, length-append (flat_map entry u.version) (to_be_bytes w32 (length u.counts) ++ flat_map count u.counts), length-entries u.version, length-counts u.counts)

undo_fits : (u : UndoOp) → IsStamp u.stamp → IsVersion u.version → AllByRecursion IsCount u.counts → length u.counts ≤ limit → HasSpelling (Undo u)
undo_fits u t v cs le = record { stamp = t; version = v; pieces = tt; counts = cs; short = rw (le-ltb _ _ (versions_are_short u.version v), le-ltb _ _ le) refl }

pub undo_size : (u : UndoOp) → IsStamp u.stamp → IsVersion u.version → AllByRecursion IsCount u.counts → length u.counts ≤ limit → HasSize (Undo u) (15 + 6 * length u.version + 10 * length u.counts)
undo_size u t v cs le = record { fits = undo_fits u t v cs le; size = sym (length-undo u) }
