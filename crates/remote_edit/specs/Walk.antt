-- One walk over fragments, from the first piece of an edit to the last: what lies before a place, and what lies after
-- it.
use Rattle.std.specs.Prelude.{ℕ, zero, suc, ◌+◌, ◌-◌, ◌≤◌, ◌^◌, nat_le, nat_lt, Bool, true, not, ◌&&◌, ◌||◌, if◌then◌else◌, List, [], ◌∷◌, ◌++◌, length, Option, Some, None}
use Rattle.std.specs.List.{AllByRecursion}
use Rattle.lamport_clock.specs.declared.stamp.Lamport.{Lamport}
use Rattle.lamport_clock.specs.Stamps.{later}
use Rattle.lamport_clock.specs.Versions.{Entries, sees}
use Rattle.locators.specs.Locator.{between_digits, least_digits, greatest_digits}
use Rattle.op_model.specs.declared.operation.Piece.{Piece}
use Rattle.op_model.specs.Walked.{kept_len}
use Rattle.undo_map.specs.declared.entry.UndoEntry.{UndoEntry}
use Rattle.fragments.specs.declared.fragment.Fragment.{Fragment}
use Rattle.fragments.specs.Stand.{IsFilled, runs}
use Rattle.fragments.specs.Laws.{cells_len}
use Rattle.remote_edit.specs.Marks.{touch}

-- the number of cells of fragments that v sees
abbrev pub seen_bytes : Entries → List Fragment → ℕ
seen_bytes v fs = kept_len (sees v) (runs fs)

-- a tree has room for them
abbrev pub Fit : List Fragment → Type 0
Fit fs = AllByRecursion IsFilled fs × (cells_len fs ≤ 2 ^ 40)

-- the id of the last fragment, or the least id
abbrev pub last_id : List Fragment → List ℕ
last_id [] = least_digits
last_id (f ∷ []) = f.id
last_id (f ∷ g ∷ fs) = last_id (g ∷ fs)

-- the id of the first fragment, or the greatest id
abbrev pub next_id : List Fragment → List ℕ
next_id [] = greatest_digits
next_id (f ∷ fs) = f.id

-- the first n cells of a fragment, with an id of their own
abbrev pub front : Fragment → ℕ → List ℕ → Fragment
front f n id = record {
  id = id;
  stamp = f.stamp;
  offset = f.offset;
  len = n;
  visible = f.visible;
  deletions = f.deletions;
  max_undos = f.max_undos;
}

-- the cells after its first n
abbrev pub back : Fragment → ℕ → Fragment
back f n = record {
  id = f.id;
  stamp = f.stamp;
  offset = f.offset + n;
  len = f.len - n;
  visible = f.visible;
  deletions = f.deletions;
  max_undos = f.max_undos;
}

-- the n new cells of edit t from k on
abbrev pub new_fragment : Lamport → ℕ → ℕ → List ℕ → Fragment
new_fragment t k n id = record {
  id = id;
  stamp = t;
  offset = k;
  len = n;
  visible = true;
  deletions = [];
  max_undos = [];
}

-- what lies before a place, and what lies after it
pub record Zip : Type 0 where
  pub pre : List Fragment
  pub rest : List Fragment

abbrev pub zip : List Fragment → List Fragment → Zip
zip pre rest = record { pre = pre; rest = rest }

-- over n cells that v sees, and what lies between them; those that it sees are touched
abbrev pub advance : Option (List UndoEntry) → Lamport → Entries → ℕ → List Fragment → List Fragment → Zip
advance m t v n pre [] = zip pre []
advance m t v zero pre (f ∷ fs) = zip pre (f ∷ fs)
advance m t v (suc n) pre (f ∷ fs) =
    if sees v f.stamp then (if nat_le f.len (suc n)
    then advance m t v (suc n - f.len) (pre ++ touch m t v f ∷ []) fs
    else zip (pre ++ touch m t v (front f (suc n) (between_digits (last_id pre) f.id)) ∷ []) (back f (suc n) ∷ fs))
    else advance m t v (suc n) (pre ++ f ∷ []) fs

-- over the fragments that are later than t and that v does not see
abbrev pub skip_later : Lamport → Entries → List Fragment → List Fragment → Zip
skip_later t v pre [] = zip pre []
skip_later t v pre (f ∷ fs) = if later f.stamp t && not (sees v f.stamp)
    then skip_later t v (pre ++ f ∷ []) fs else zip pre (f ∷ fs)

-- over the n new cells of edit t from k on, which are inserted here if there are any
abbrev pub put_new : Lamport → ℕ → ℕ → List Fragment → List Fragment → Zip
put_new t k zero pre rest = zip pre rest
put_new t k (suc n) pre rest = zip
    (pre ++ new_fragment t k (suc n) (between_digits (last_id pre) (next_id rest)) ∷ []) rest

-- from n cells that v sees before a piece to its end; k new cells of the edit are before its text
abbrev pub one_piece : List UndoEntry → Lamport → Entries → ℕ → ℕ → Piece → List Fragment → List Fragment → Zip
one_piece w t v n k p pre rest =
    let a : Zip = advance None t v n pre rest in
    let b : Zip = skip_later t v a.pre a.rest in
    let c : Zip = put_new t k (length p.text) b.pre b.rest in
    advance (Some w) t v (p.end - p.start) c.pre c.rest

-- a piece has a range or a text
abbrev pub changes : Piece → Bool
changes p = nat_lt p.start p.end || nat_lt 0 (length p.text)

-- all pieces that change something, from the first to the last; `at` cells that v sees lie before the place
abbrev pub walk : List UndoEntry → Lamport → Entries → ℕ → ℕ → List Piece → List Fragment
    → List Fragment → List Fragment
walk w t v at k [] pre rest = pre ++ rest
walk w t v at k (p ∷ ps) pre rest =
    let z : Zip = one_piece w t v (p.start - at) k p pre rest in
    if changes p then walk w t v p.end (k + length p.text) ps z.pre z.rest else walk w t v at k ps pre rest
