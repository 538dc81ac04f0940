-- The session that is made by a seed: turns, and what the replicas are given of them.
use Rattle.std.specs.Prelude.{ℕ, zero, suc, ◌+◌, ◌-◌, ◌%◌, ◌==◌, List, [], ◌∷◌, ◌++◌, map, codes, if◌then◌else◌}
use Rattle.std.specs.List.{flat_map, range_with_len}
use Rattle.session_lines.specs.declared.session.Session.{Session}
use Rattle.session_lines.specs.declared.session.SessionLine.{SessionLine}
use Rattle.session_lines.specs.declared.session.SessionLine.TheVariants.{Give}
use Rattle.session_maker.specs.Draws.{next}
use Rattle.session_maker.specs.Turns.{author_of, turn_of}

-- the ids of n replicas
abbrev pub ids_to : ℕ → List ℕ
ids_to n = range_with_len 1 n

-- replica r takes the operations with these numbers
abbrev pub gives_to : List ℕ → ℕ → List SessionLine
gives_to ns r = map (Give r) ns

-- all of n replicas take the operations with these numbers
abbrev pub gives_of : ℕ → List ℕ → List SessionLine
gives_of n ns = flat_map (gives_to ns) (ids_to n)

-- the numbers of the last eight turns, the latest first, i being the last
abbrev pub last_eight : ℕ → List ℕ
last_eight i = i ∷ (i - 1) ∷ (i - 2) ∷ (i - 3) ∷ (i - 4) ∷ (i - 5) ∷ (i - 6) ∷ (i - 7) ∷ []

-- what is given behind turn i: behind each eighth turn the last eight
abbrev pub gives_behind : ℕ → ℕ → List SessionLine
gives_behind n i = if i % 8 == 0 then gives_of n (last_eight i) else []

-- the line of turn i, and what is given behind it
abbrev pub round_of : ℕ → ℕ → SessionLine → List SessionLine
round_of n i line = line ∷ gives_behind n i

-- `after` works lines, and `length_at` tells how many bytes the text of a replica has
module _ {S : Type 0} (after : List SessionLine → S → S) (length_at : ℕ → S → ℕ) where
  -- the line of turn i, with the state behind its draws, s being what was worked before
  abbrev pub turn_at : ℕ → ℕ → ℕ → S → SessionLine × ℕ
  turn_at n i x s = let r = author_of n (next x) in turn_of i r (length_at r s) (next x)

  -- k rounds from turn i on
  abbrev pub rounds_from : ℕ → ℕ → ℕ → ℕ → S → List SessionLine
  rounds_from n zero i x s = []
  rounds_from n (suc k) i x s =
      let turn = turn_at n i x s in let lines = round_of n i turn.0 in
      lines ++ rounds_from n k (i + 1) turn.1 (after lines s)

  -- all lines: the rounds of so many edits, and at the end everything is given to each replica
  abbrev pub made_lines : ℕ → ℕ → ℕ → S → List SessionLine
  made_lines seed n edits s = rounds_from n edits 1 seed s ++ gives_of n (range_with_len 1 edits)

-- the base of the session
abbrev pub base_text : List ℕ
base_text = codes "ab\ncd\n"

-- the session of n replicas with these lines
abbrev pub session_with : ℕ → List SessionLine → Session
session_with n lines = record { version = 1; base = base_text; replicas = ids_to n; lines = lines }
