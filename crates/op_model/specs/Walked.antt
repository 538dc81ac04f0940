-- One walk over runs of cells, from the first piece of an edit to the last.
use Rattle.std.specs.Prelude.{◌≡◌, ℕ, zero, suc, ◌+◌, ◌-◌, ◌≤◌, nat_le, Bool, true, false, if◌then◌else◌, List, [], ◌∷◌, ◌++◌, length}
use Rattle.lamport_clock.specs.declared.stamp.Lamport.{Lamport}
use Rattle.lamport_clock.specs.Stamps.{later}
use Rattle.op_model.specs.declared.operation.Piece.{Piece}
use Rattle.op_model.specs.Histories.{History}
use Rattle.op_model.specs.Edits.{is_boundary}
use Rattle.op_model.specs.Shown.{new_bytes}
use Rattle.op_model.specs.Facts.{Fact, alike, Marking}

-- len cells of one edit from offset on, of which the same is known
pub record Run : Type 0 where
  pub stamp : Lamport
  pub offset : ℕ
  pub len : ℕ
  pub visible : Bool
  pub deletions : List Lamport

abbrev pub run_facts : Run → List Fact
run_facts r = alike r.stamp r.offset r.len r.visible r.deletions

-- what the runs say of their cells, in order
abbrev pub facts_of : List Run → List Fact
facts_of [] = []
facts_of (r ∷ rs) = run_facts r ++ facts_of rs

-- a run begins and ends where characters of its edit's texts do
abbrev pub IsWhole : History → Run → Type 0
IsWhole h r = (is_boundary (new_bytes h r.stamp) r.offset ≡ true)
    × (is_boundary (new_bytes h r.stamp) (r.offset + r.len) ≡ true)

-- the cells of the runs that pass
abbrev pub kept_len : (Lamport → Bool) → List Run → ℕ
kept_len keep [] = 0
kept_len keep (r ∷ rs) = if keep r.stamp then r.len + kept_len keep rs else kept_len keep rs

-- the pieces in order: none reversed, none beginning before the end of the one before it or before at, none ending past
-- end
abbrev pub Ordered : ℕ → ℕ → List Piece → Type 0
Ordered at end [] = at ≤ end
Ordered at end (p ∷ ps) = (at ≤ p.start) × (p.start ≤ p.end) × Ordered p.end end ps

-- the first n cells of a run, and those after them
abbrev pub front : Run → ℕ → Run
front r n = record { stamp = r.stamp; offset = r.offset; len = n; visible = r.visible; deletions = r.deletions }

abbrev pub back : Run → ℕ → Run
back r n = record {
  stamp = r.stamp;
  offset = r.offset + n;
  len = r.len - n;
  visible = r.visible;
  deletions = r.deletions;
}

-- a run, marked where b says so
abbrev pub mark_run : Marking → Bool → Run → Run
mark_run m b r = record {
  stamp = r.stamp;
  offset = r.offset;
  len = r.len;
  visible = if b then m.visible r.stamp r.visible r.deletions else r.visible;
  deletions = if b then m.deletions r.stamp r.deletions else r.deletions;
}

-- what a walk has put out, and what is left
pub record Walked : Type 0 where
  pub out : List Run
  pub rest : List Run

abbrev pub push : Run → Walked → Walked
push r w = record { out = r ∷ w.out; rest = w.rest }

abbrev pub none_out : List Run → Walked
none_out rs = record { out = []; rest = rs }

-- over n cells that pass, and what stands between them; those that pass are marked where b says so
abbrev pub advance : Marking → (Lamport → Bool) → Bool → ℕ → List Run → Walked
advance m keep b zero rs = none_out rs
advance m keep b (suc n) [] = none_out []
advance m keep b (suc n) (r ∷ rs) =
    if keep r.stamp
    then (if nat_le r.len (suc n)
    then push (mark_run m b r) (advance m keep b (suc n - r.len) rs)
    else push (mark_run m b (front r (suc n))) (none_out (back r (suc n) ∷ rs)))
    else push r (advance m keep b (suc n) rs)

-- over the runs that are later than t
abbrev pub skip_later : Lamport → List Run → Walked
skip_later t [] = none_out []
skip_later t (r ∷ rs) = if later r.stamp t then push r (skip_later t rs) else none_out (r ∷ rs)

-- the n new cells from k on of edit t, where there are some
abbrev pub new_runs : Lamport → ℕ → ℕ → List Run
new_runs t k zero = []
new_runs t k (suc n) = record { stamp = t; offset = k; len = suc n; visible = true; deletions = [] } ∷ []

-- from `at` cells that pass to the end of a piece: to its start, past what is later, its text, and its range marked
abbrev pub one_piece : Marking → (Lamport → Bool) → Lamport → ℕ → ℕ → Piece → List Run → Walked
one_piece m keep t at k p rs =
    let a : Walked = advance m keep false (p.start - at) rs in
    let b : Walked = skip_later t a.rest in
    let d : Walked = advance m keep true (p.end - p.start) b.rest in
    record { out = a.out ++ (b.out ++ (new_runs t k (length p.text) ++ d.out)); rest = d.rest }

-- all pieces, from the first to the last
abbrev pub walk : Marking → (Lamport → Bool) → Lamport → ℕ → ℕ → List Piece → List Run → List Run
walk m keep t at k [] rs = rs
walk m keep t at k (p ∷ ps) rs =
    let w : Walked = one_piece m keep t at k p rs in
    w.out ++ walk m keep t p.end (k + length p.text) ps w.rest
