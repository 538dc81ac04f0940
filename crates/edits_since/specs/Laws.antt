-- Laws of the edits since a version.
use Rattle.std.specs.Prelude.{◌≡◌, ℕ, suc, ◌≤◌, List, [], ◌∷◌}
use Rattle.lamport_clock.specs.Versions.{Entries}
use Rattle.op_model.specs.declared.anchor.TextEdit.{TextEdit}
use Rattle.op_model.specs.Histories.{History}
use Rattle.op_model.specs.Shown.{text}
use Rattle.op_model.specs.Since.{text_at, apply_edits}
use Rattle.undo_map.specs.declared.entry.UndoEntry.{UndoEntry}
use Rattle.fragments.specs.declared.fragment.Fragment.{Fragment}
use Rattle.edits_since.specs.Telling.{MayTell, AreSince}

-- from places of the old and of the new text on, no range is reversed, and each begins after a byte that follows the one before it
abbrev pub AreApartFrom : ℕ → ℕ → List TextEdit → Type 0
AreApartFrom old new [] = Unit {0}
AreApartFrom old new (e ∷ es) = (old ≤ e.old.0) × (e.old.0 ≤ e.old.1) × (new ≤ e.new.0)
    × (e.new.0 ≤ e.new.1) × AreApartFrom (suc e.old.1) (suc e.new.1) es

-- the ranges ascend and do not touch, neither in the old nor in the new text
abbrev pub AreApart : List TextEdit → Type 0
AreApart es = AreApartFrom 0 0 es

-- the edits that are given take the text then to the text now, each old range replaced by the new text's range, and are apart
abbrev pub EditsTakeThenToNow : Type 0
EditsTakeThenToNow = (fs : List Fragment) → (u : List UndoEntry) → (v : Entries)
    → (es : List TextEdit) → AreSince fs u v es → (h : History) → MayTell fs u v h
    → (apply_edits 0 es (text_at h v) (text h) ≡ text h) × AreApart es
