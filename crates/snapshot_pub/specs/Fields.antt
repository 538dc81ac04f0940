-- What the fields of a publisher, a reader and a token stand for.
use Rattle.std.specs.Prelude.{◌≡◌, ℕ, List, map, replicate, All}
use Rattle.left_right.specs.Sides.{view}
use Rattle.logbook.specs.Pages.{Named}
use Rattle.op_model.specs.declared.operation.Operation.{Operation}
use Rattle.snapshot_pub.specs.Logs.{log_list, pair_of}
use Rattle.snapshot_pub.specs.Rule.{AreOf, kept_pair}
use Rattle.snapshot_pub.specs.States.{PublisherState, ReaderState, ToldState, HasLearned}
use Rattle.snapshot_pub.specs.declared.kept.Kept.{Kept}
use Rattle.snapshot_pub.specs.declared.publisher.Side.{Side}
use Rattle.snapshot_pub.specs.declared.publisher.Publisher.TheInside.{Inside as PublisherInside}
use Rattle.snapshot_pub.specs.declared.publisher.Told.TheInside.{Inside as ToldInside}
use Rattle.snapshot_pub.specs.declared.reader.SnapReader.TheInside.{Inside as ReaderInside}

-- which pair a side is of
abbrev pub side_pair : Side → Named
side_pair s = pair_of s.growth.reached.book s.growth.reached.log

-- what is shown there
abbrev pub side_list : Side → List Operation
side_list s = s.end.desk.shown.value.snapshot

abbrev pub publisher_state : PublisherInside → PublisherState
publisher_state p = record { pairs = map side_pair p.sides.items; published = map side_list p.sides.items }

-- the lists of what was seen
abbrev pub seen_lists : List Kept → List (List Operation)
seen_lists v = map (λ (k : Kept). k.snapshot) v

abbrev pub reader_state : ReaderInside → ReaderState
reader_state r = record {
  pair = kept_pair r.longest;
  longest = r.longest.snapshot;
  seen = seen_lists (view r.end.place);
  entered = r.entered;
}

-- something was seen, and all of it is of the reader's own pair
abbrev pub IsOwn : ReaderInside → Type 0
IsOwn r = AreOf (kept_pair r.longest) (view r.end.place)

abbrev pub told_state : ToldInside → ToldState
told_state t = record { pair = kept_pair t.kept; list = t.kept.snapshot }

-- the first list is shown, and is all of the log
abbrev pub Shows : List Operation → Side → Type 0
Shows first s = (side_list s ≡ first) × (log_list s.growth.reached.log ≡ first)

-- n pairs are open, in which the first list is shown, and each reader has learned it
pub record AreOpen (first : List Operation) (n : ℕ) (sides : List Side) (readers : List ReaderState) : Type 0 where
  pub published : map side_list sides ≡ replicate n first
  pub pairs : map (λ (r : ReaderState). r.pair) readers ≡ map side_pair sides
  pub learned : All (HasLearned first) readers
