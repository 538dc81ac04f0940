-- What holds of a needle that is made ready.
use Rattle.std.specs.Prelude.{◌≡◌, ◌<◌, List, ℕ, length}
use Rattle.snapshot_search.specs.Shifts.{AreFallbacks}

pub record IsReady (needle finder fallbacks : List ℕ) : Type 0 where
  pub some : 0 < length needle
  pub finds : finder ≡ needle
  pub len : length fallbacks ≡ length needle
  pub each : AreFallbacks needle fallbacks
