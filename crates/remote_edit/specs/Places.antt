-- Places among fragments, by the cells before them.
use Rattle.std.specs.Prelude.{◌≡◌, List}
use Rattle.fragments.specs.declared.fragment.Fragment.{Fragment}
use Rattle.fragments.specs.Laws.{shown_len}
use Rattle.remote_edit.specs.declared.passed.Passed.{Passed}
use Rattle.remote_edit.specs.Carried.{hidden_len}

-- the numbers of the shown and of the hidden cells of these fragments
abbrev pub IsAfter : Passed → List Fragment → Type 0
IsAfter p fs = (p.visible ≡ shown_len fs) × (p.hidden ≡ hidden_len fs)
