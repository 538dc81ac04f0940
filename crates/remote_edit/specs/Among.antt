-- The moves of a walk over fragments that passes some of them whole.
use Rattle.std.specs.Prelude.{ℕ, ◌+◌, Bool, if◌then◌else◌, List, [], ◌∷◌}
use Rattle.std.specs.List.{count_by}
use Rattle.fragments.specs.declared.fragment.Fragment.{Fragment}
use Rattle.fragments.specs.declared.fragment.FragmentSummary.{FragmentSummary}
use Rattle.fragments.specs.Summaries.{summary_of}
use Rattle.remote_edit.specs.declared.moves.Move.{Move}
use Rattle.remote_edit.specs.declared.moves.Move.TheVariants.{Visible, Hidden}
use Rattle.remote_edit.specs.Moves.{with_move}

-- the moves ms, then s shown and h hidden bytes that stay, then those of the fragments: the bytes of a fragment whose
-- sum is kept are moved as `does` says, and those of the others stay
abbrev pub moves_on : (FragmentSummary → Bool) → (Fragment → Move) → List Move → ℕ → ℕ → List Fragment → List Move
moves_on keeps does ms s h [] = with_move (with_move ms (Visible s)) (Hidden h)
moves_on keeps does ms s h (f ∷ fs) =
    if keeps (summary_of f)
    then moves_on keeps does (with_move (with_move (with_move ms (Visible s)) (Hidden h)) (does f)) 0 0 fs
    else moves_on keeps does ms (if f.visible then s + f.len else s) (if f.visible then h else h + f.len) fs

-- the moves of all fragments
abbrev pub moves_among : (FragmentSummary → Bool) → (Fragment → Move) → List Fragment → List Move
moves_among keeps does fs = moves_on keeps does [] 0 0 fs

-- the number of fragments whose sums are kept
abbrev pub kept_count : (FragmentSummary → Bool) → List Fragment → ℕ
kept_count keeps fs = count_by (λ f. keeps (summary_of f)) fs
