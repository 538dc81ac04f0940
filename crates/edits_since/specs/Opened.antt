-- The steps along the bytes of a text and of an older one, for private clauses.
use Rattle.std.specs.Prelude.{ℕ, ◌+◌, nat_lt, ◌==◌, ◌||◌, Bool, true, false, if◌then◌else◌, List, [], ◌∷◌, ◌++◌}
use Rattle.op_model.specs.declared.anchor.TextEdit.{TextEdit}
use Rattle.edits_since.specs.declared.open_run.OpenRun.{OpenRun}

-- nothing is passed
abbrev pub at_start : OpenRun
at_start = record { edits = []; old_start = 0; new_start = 0; gone = 0; fresh = 0 }

-- where the run ends so far, then and now
abbrev pub old_end : OpenRun → ℕ
old_end r = r.old_start + r.gone

abbrev pub new_end : OpenRun → ℕ
new_end r = r.new_start + r.fresh

-- the edits with that of the run, where it has a gone or a new byte
abbrev pub all_edits : OpenRun → List TextEdit
all_edits r = if nat_lt 0 r.gone || nat_lt 0 r.fresh
    then r.edits ++ record { old = (r.old_start, old_end r); new = (r.new_start, new_end r) } ∷ [] else r.edits

-- n kept bytes more, which end the run where there are some
abbrev pub with_kept : ℕ → OpenRun → OpenRun
with_kept n r = if n == 0 then r
    else record { edits = all_edits r; old_start = old_end r + n; new_start = new_end r + n; gone = 0; fresh = 0 }

-- n bytes more that were in the text then or not, and are now or not
abbrev pub with_bytes : ℕ → Bool → Bool → OpenRun → OpenRun
with_bytes n true true r = with_kept n r
with_bytes n true false r = record {
  edits = r.edits;
  old_start = r.old_start;
  new_start = r.new_start;
  gone = r.gone + n;
  fresh = r.fresh;
}
with_bytes n false true r = record {
  edits = r.edits;
  old_start = r.old_start;
  new_start = r.new_start;
  gone = r.gone;
  fresh = r.fresh + n;
}
with_bytes n false false r = r
