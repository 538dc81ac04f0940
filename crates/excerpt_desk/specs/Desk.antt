-- Buffers and the excerpts of them.
use Rattle.std.specs.Prelude.{◌≡◌, ℕ, ◌<◌, ◌≤◌, List, [], length, get_or}
use Rattle.op_model.specs.Histories.{History}
use Rattle.text_buffer.specs.Buffer.{BufferState}
use Rattle.multi_buffer.specs.Calls.{IsWithin}
use Rattle.multi_buffer.specs.State.{MultiState, history_of}

-- what was synced of each page is in it, and of others nothing was synced
pub record AreFollowed (m : MultiState) (pages : List BufferState) : Type 0 where
  pub within : (b : ℕ) → (d : BufferState) → b < length pages → IsWithin (history_of b m.synced) (get_or pages b d).history
  pub others : (b : ℕ) → length pages ≤ b → history_of b m.synced ≡ []

-- the snapshot h is of what page b is now
pub record IsNowIn (pages : List BufferState) (b : ℕ) (h : History) : Type 0 where
  pub page : b < length pages
  pub now : (d : BufferState) → h ≡ (get_or pages b d).history

-- the excerpts, and the buffers
pub record DeskState : Type 0 where
  pub multi : MultiState
  pub pages : List BufferState

abbrev pub desk_of : MultiState → List BufferState → DeskState
desk_of m pages = record { multi = m; pages = pages }

-- there are n excerpts
pub record IsDesk (m : MultiState) (pages : List BufferState) (n : ℕ) : Type 0 where
  pub followed : AreFollowed m pages
  pub count : length m.excerpts ≡ n
