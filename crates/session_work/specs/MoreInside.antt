-- What the fields of a session that is worked stand for, where it may have lines of further kinds.
use Rattle.std.specs.Prelude.{◌<◌, ◌^◌, length}
use Rattle.session_excerpts.specs.State.{AllGoOn}
use Rattle.session_work.specs.Behind.{AreBehind}
use Rattle.session_work.specs.Work.{histories}
use Rattle.session_work.specs.Working.{ProgressState, plain_of}
use Rattle.session_work.specs.declared.more.MoreProgress.TheInside.{Inside}

abbrev pub progress_of : Inside → ProgressState
progress_of p = record { plain = plain_of p.plain; selections = p.selections; folds = p.folds; excerpts = p.excerpts }

-- folds and excerpts are of texts that the buffers had or have, and there are fewer than 2^32 buffers
pub record IsMoreInside (p : Inside) : Type 0 where
  pub few : length p.plain.exchange.buffers < 2 ^ 32
  pub folds : AreBehind p.plain.exchange.buffers p.folds
  pub excerpts : AllGoOn (histories p.plain.exchange.buffers) p.excerpts
