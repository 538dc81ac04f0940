-- What fragments and two texts are of a history.
use Rattle.std.specs.Prelude.{◌≡◌, ℕ, List}
use Rattle.std.specs.List.{AllByRecursion}
use Rattle.op_model.specs.Histories.{History}
use Rattle.op_model.specs.Shown.{text, hidden_text}
use Rattle.op_model.specs.Walked.{IsWhole}
use Rattle.fragments.specs.declared.fragment.Fragment.{Fragment}
use Rattle.fragments.specs.Stand.{Tell, runs}

-- the fragments fs tell of the cells of h and begin and end between characters, s is the text of its shown cells, and d that of
-- its hidden ones
pub record TellTexts (fs : List Fragment) (s d : List ℕ) (h : History) : Type 0 where
  pub cells : Tell fs h
  pub whole : AllByRecursion (IsWhole h) (runs fs)
  pub shown : s ≡ text h
  pub hidden : d ≡ hidden_text h
