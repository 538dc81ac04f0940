-- What a local edit or undo is, and what it adds.
use Rattle.std.proofs.Common.{ℕ, [], ◌≡◌, List, map, refl, ◌+◌, length, arith, ◌∷◌, sym, ap, ◌∙◌}
use Rattle.std.proofs.lemmas.List.{length-map}
use Rattle.std.specs.Prelude.{Option, None, Some, option_map, is_none}
use Rattle.lamport_clock.specs.declared.stamp.Lamport.{Lamport}
use Rattle.lamport_clock.specs.Versions.{Entries}
use Rattle.lamport_clock.proofs.Joined.{none_unseen}
use Rattle.op_model.specs.declared.operation.Operation.TheVariants.{Undo, Edit}
use Rattle.op_model.specs.declared.operation.UndoCount.{UndoCount}
use Rattle.op_model.specs.Histories.{History, version, clock}
use Rattle.op_model.specs.Made.{next_count, local_undo as made_undo_at, local_edit as made_at, full_piece, local_edit}
use Rattle.op_model.specs.Operations.{bytes_of, entries_of, text_total, pieces_of}
use Rattle.op_model.specs.declared.operation.Piece.{Piece}
use Rattle.op_model.proofs.answers.MadeGood.{total_full}
use Rattle.op_model.specs.Shown.{texts}
use Rattle.op_model.proofs.texts.Replacing.{texts_full}
use Rattle.op_model.specs.declared.faults.SinceFault.TheVariants.{Unseen, OpenVersion}
use Rattle.op_model.specs.Choice.{first_of}
use Rattle.op_model.specs.Answers.{first_missing, open_replica}
use Rattle.op_model.specs.Lawful.{IsClosed}
use Rattle.op_model.specs.Since.{since_fault}

-- ---- the operation

-- the operation of an undo, from its parts
pub local_undo_is : (h : History) (r : ℕ) (ts : List Lamport) (s : Lamport) (v : Entries) (cs : List UndoCount) → s ≡ record { value = clock h; replica = r } → v ≡ version h → cs ≡ map (next_count h) ts
    → Undo (record { stamp = s; version = v; counts = cs }) ≡ made_undo_at h r ts
unfolding made_undo_at
local_undo_is h r ts s v cs a b d = λ i. Undo (record { stamp = a i; version = b i; counts = d i })

pub made_undo_bytes : (h : History) (r : ℕ) (ts : List Lamport) → bytes_of (made_undo_at h r ts) ≡ 0
unfolding made_undo_at
made_undo_bytes h r ts = refl

pub made_undo_entries : (h : History) (r : ℕ) (ts : List Lamport) → entries_of (made_undo_at h r ts) ≡ 1 + length ts
unfolding made_undo_at
made_undo_entries h r ts = let n : length (map (next_count h) ts) ≡ length ts = length-map ts (next_count h) in omega arith

-- ---- its operation

pub made_edit_total : (h : History) (r : ℕ) (ps : List Piece) → text_total (pieces_of (made_at h r ps)) ≡ text_total ps
unfolding made_at
made_edit_total h r ps = total_full h ps

pub made_edit_entries : (h : History) (r : ℕ) (ps : List Piece) → entries_of (made_at h r ps) ≡ 1 + length ps
unfolding made_at
made_edit_entries h r ps = let n : length (map (full_piece h) ps) ≡ length ps = length-map ps (full_piece h) in omega arith

-- the new texts of a local edit are those of its changes
pub made_edit_texts : (h : History) (r : ℕ) (ps : List Piece) → texts (pieces_of (made_at h r ps)) ≡ texts ps
unfolding made_at
made_edit_texts h r ps = texts_full h ps

pub local_edit_is : (h : History) (stamp : Lamport) (ps qs : List Piece) (v : Entries) → stamp.value ≡ clock h → v ≡ version h → qs ≡ map (full_piece h) ps
    → Edit (record { stamp = stamp; version = v; pieces = qs }) ≡ local_edit h stamp.replica ps
unfolding local_edit
local_edit_is h stamp ps qs v e f g = rw (f, g, ← e) refl

pub faultless : (a : Option (ℕ × ℕ)) (b : Option ℕ) → first_of (option_map Unseen (option_map (λ (e : ℕ × ℕ). e.0) a) ∷ option_map OpenVersion b ∷ []) ≡ None → (a ≡ None) × (b ≡ None)
faultless None None e = (refl, refl)
faultless None (Some r) e = cc
faultless (Some x) b e = cc

pub is_closed : (h : History) (v : Entries) → since_fault h v ≡ None → IsClosed h v
is_closed h v e =
    let f = faultless (first_missing h v) (open_replica h v) e in
    (sym (none_unseen (version h) v) ∙ ap (λ (o : Option (ℕ × ℕ)). is_none o) f.0, f.1)
