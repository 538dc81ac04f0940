-- What is true of every fold map.
use Rattle.std.specs.List.{All}
use Rattle.text_buffer.specs.Document.{IsBufferHistory}
use Rattle.fold_map.specs.Folds.{FoldState, IsFold}

-- the history is one of a buffer, and each fold is one of the history
pub record IsFoldState (m : FoldState) : Type 0 where
  pub history : IsBufferHistory m.history
  pub folds : All (IsFold m.history) m.folds
