-- Worked rows: the definitions compute.
use Rattle.std.proofs.Common.{◌≡◌, ℕ, ◌/◌, List, [], ◌∷◌, refl}
use Rattle.std.specs.Fmt.{digits}
use Rattle.std.specs.Prelude.{codes}
use Rattle.json.specs.Print.{escape_byte}
use Rattle.session_lines.specs.declared.session.SessionLine.TheVariants.{Edit, Undo, Give}
use Rattle.session_maker.specs.Draws.{next}
use Rattle.session_maker.specs.Made.{made_lines, session_with}
use Rattle.session_maker.specs.Written.{session_text}

-- what is drawn by the seed of one
pub third_draw : next (next (next 1)) / 65536 ≡ 10113
third_draw = refl

-- two edits of one replica, whose text is told to be six bytes long, and then eight
abbrev pub length_by : ℕ → List ℕ → ℕ
length_by r [] = 6
length_by r (x ∷ xs) = 8

pub two_turns : made_lines {S = List ℕ} (λ ls xs. 0 ∷ xs) length_by 1 1 2 []
    ≡ Edit 1 (record { start = 5; end = 5; text = codes "hh" } ∷ []) ∷ Edit 1 (record { start = 3; end = 4; text = [] } ∷ []) ∷ Give 1 1 ∷ Give 1 2 ∷ []
two_turns = refl

-- its text
pub two_turns_written : session_text (session_with 1 (made_lines {S = List ℕ} (λ ls xs. 0 ∷ xs) length_by 1 1 2 []))
    ≡ codes "[\"zedbuf\",1,\"ab\\ncd\\n\",[1]]\n[\"edit\",1,[[5,5,\"hh\"]]]\n[\"edit\",1,[[3,4,\"\"]]]\n[\"give\",1,1]\n[\"give\",1,2]\n"
unfolding escape_byte digits
two_turns_written = refl

-- a line of each kind, of two replicas
pub each_kind_written : session_text (session_with 2 (Edit 2 (record { start = 0; end = 0; text = codes "a" } ∷ []) ∷ Undo 1 (1 ∷ []) ∷ Give 1 2 ∷ []))
    ≡ codes "[\"zedbuf\",1,\"ab\\ncd\\n\",[1,2]]\n[\"edit\",2,[[0,0,\"a\"]]]\n[\"undo\",1,[1]]\n[\"give\",1,2]\n"
unfolding escape_byte digits
each_kind_written = refl
