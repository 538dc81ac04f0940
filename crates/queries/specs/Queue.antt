-- The rule of a worker's queue: what was sent is what was taken and then what the queue holds, and each token is of a pair of the
-- worker's own readers. One pass at most may send, and it knows all that was sent; the same for taking.
use Rattle.std.specs.Prelude.{◌≡◌, ℕ, ◌<◌, Bool, true, List, [], ◌∷◌, ◌++◌, length, map, slice_index_or, All}
use mathlib.Core.Option.{some}
use lib.ListN.{get_elem?}
use Rattle.logbook.specs.Pages.{Named}
use Rattle.snapshot_pub.specs.States.{ReaderState}
use Rattle.queries.specs.declared.job.Job.{Job}
use Rattle.queries.specs.declared.job.Entry.{Entry}
use Rattle.queries.specs.declared.job.Entry.TheVariants as entry
use Rattle.queries.specs.declared.queue.Log.{Log}

-- which pairs they are of
abbrev pub pairs_of : List ReaderState → List Named
pairs_of rs = map (λ (r : ReaderState). r.pair) rs

module _ {Q : Type 0} where
  abbrev pub log : Bool → Bool → List (Entry Q) → List (Entry Q) → List ReaderState → Log Q
  log sends takes sent taken readers =
      record { sends = sends; takes = takes; sent = sent; taken = taken; readers = readers }

  -- its token is of the pair of the reader of its replica
  abbrev pub IsFor : List ReaderState → Entry Q → Type 0
  IsFor readers (entry.Job j) =
      (j.index < length readers)
      × (j.told.pair ≡ slice_index_or (pairs_of readers) j.index j.told.pair)
  IsFor readers entry.End = Unit {0}

  -- what a port's view may say, given who sends, who takes and what was
  abbrev pub Fits : ℕ → ℕ → List (Entry Q) → List (Entry Q) → List ReaderState → ℕ → Log Q → Type 0
  Fits editor worker sent taken readers port v =
      (v.sends ≡ true → (port ≡ editor) × (v.sent ≡ sent) × (v.readers ≡ readers))
      × (v.takes ≡ true → (port ≡ worker) × (v.taken ≡ taken) × (v.readers ≡ readers))

  abbrev pub IsHandedOn : List (Entry Q) → List (Log Q) → Type 0
  IsHandedOn items views =
      (editor : ℕ) × (worker : ℕ) × (sent : List (Entry Q)) × (taken : List (Entry Q))
      × (readers : List ReaderState) × (sent ≡ taken ++ items)
      × All (IsFor readers) sent
      × ((port : ℕ) (v : Log Q) → get_elem? views port ≡ some v → Fits editor worker sent taken readers port v)

  -- the jobs among them
  abbrev pub jobs_of : List (Entry Q) → List (Job Q)
  jobs_of [] = []
  jobs_of (entry.Job j ∷ es) = j ∷ jobs_of es
  jobs_of (entry.End ∷ es) = jobs_of es

  -- there is no end mark among them
  abbrev pub IsOpen : List (Entry Q) → Type 0
  IsOpen es = es ≡ map entry.Job (jobs_of es)

  -- the end mark is the last, and the only one
  abbrev pub IsEnded : List (Entry Q) → Type 0
  IsEnded es = es ≡ map entry.Job (jobs_of es) ++ entry.End ∷ []
