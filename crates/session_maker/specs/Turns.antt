-- The turns of a session that is made: in each a replica edits or undoes.
use Rattle.std.specs.Prelude.{ℕ, ◌+◌, ◌-◌, ◌==◌, ◌&&◌, ◌||◌, min, nat_lt, List, [], ◌∷◌, replicate, if◌then◌else◌}
use Rattle.session_lines.specs.declared.session.SessionLine.{SessionLine}
use Rattle.session_lines.specs.declared.session.SessionLine.TheVariants.{Edit, Undo}
use Rattle.session_maker.specs.Draws.{draw_below, next}

-- the replica of 1 to n that is drawn, by the state behind the draw
abbrev pub author_of : ℕ → ℕ → ℕ
author_of n x = 1 + draw_below n x

-- replica r replaces a range of its text
abbrev pub edit_line : ℕ → ℕ → ℕ → List ℕ → SessionLine
edit_line r s e t = Edit r (record { start = s; end = e; text = t } ∷ [])

-- each of these is the line of a turn, with the state behind the draws that made it; x is the state before them

-- replica r undoes or redoes what one of the turns before turn i did
abbrev pub undo_turn : ℕ → ℕ → ℕ → SessionLine × ℕ
undo_turn r i x = let y = next x in (Undo r ((1 + draw_below (i - 1) y) ∷ []), y)

-- replica r, whose text has l bytes, deletes 1 to 4 of them, or as many as there are
abbrev pub delete_turn : ℕ → ℕ → ℕ → SessionLine × ℕ
delete_turn r l x =
    let y = next x in
    let z = next y in
    let s = draw_below (l + 1) y in
    (edit_line r s (min l (s + (1 + draw_below 4 z))) [], z)

-- replica r, whose text has l bytes, inserts 1 to 3 times a letter of a to z
abbrev pub insert_turn : ℕ → ℕ → ℕ → SessionLine × ℕ
insert_turn r l x =
    let y = next x in let z = next y in let w = next z in let s = draw_below (l + 1) y in
    (edit_line r s s (replicate (1 + draw_below 3 z) (97 + draw_below 26 w)), w)

-- turn i of replica r, whose text has l bytes
abbrev pub turn_of : ℕ → ℕ → ℕ → ℕ → SessionLine × ℕ
turn_of i r l x =
    let y = next x in let kind = draw_below 8 y in
    if kind == 0 && nat_lt 1 i then undo_turn r i y
    else if kind == 1 || kind == 2 then delete_turn r l y
    else insert_turn r l y
