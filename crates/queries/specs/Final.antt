-- The answers once the editor and all workers have ended.
use Rattle.std.specs.Prelude.{◌≡◌, ℕ, ◌<◌, ◌≤◌, ◌==◌, nat_lt, true, false, List, [], ◌∷◌, length, map, slice_index_or, All, IfSome, Some, if◌then◌else◌}
use Rattle.std.specs.List.{AllPairs, AllZip, filter}
use Rattle.op_model.specs.declared.operation.Operation.{Operation}
use Rattle.text_buffer.specs.Document.{IsFront}
use Rattle.snapshot_pub.specs.States.{ReaderState, ToldState}
use Rattle.queries.specs.Queue.{pairs_of, IsEnded}
use Rattle.queries.specs.States.{InboxState, DeskState, DoneState}
use Rattle.queries.specs.Asks.{Ask, asks_of, worker_of}
use Rattle.queries.specs.Answers.{lists_of, HasAnswered, HasWorked, IsAnswerTo, NeverFewer}
use Rattle.queries.specs.declared.query.Answer.{Answer}
use Rattle.queries.specs.Dealt.{AllAt, AreNumbered, IsClosed, pairs_in, told_lists, told_pairs}

-- what each replica is at the end
abbrev pub Lasts : Type 0
Lasts = List (List Operation)

abbrev pub last_of : Lasts → ℕ → List Operation
last_of lasts r = slice_index_or lasts r []

-- the ask is of a replica that is there, and what that had applied then begins what it has at the end
abbrev pub IsPast : {Q : Type 0} → Lasts → Ask Q → Type 0
IsPast lasts k = (k.index < length lasts) × IsFront k.history (last_of lasts k.index)

-- what was known to the reader at that place, and has no more than n operations, begins what was last published
abbrev pub IsBound : Lasts → List ReaderState → ℕ → ℕ → Type 0
IsBound published readers r n =
    (n ≤ length (last_of published r))
    × ((h : List Operation) → IsFront h (slice_index_or (lists_of readers) r [])
    → length h ≤ n → IsFront h (last_of published r))

-- a reader's last look: it learned what was last published to its pair, and took `latest` once more
pub record HasLooked (published : List Operation) (old new : ReaderState) : Type 0 where
  pub pair : new.pair ≡ old.pair
  pub learned : IsFront published new.longest
  pub begins : IsFront old.longest new.longest
  pub entered : new.entered ≡ true → new.seen ≡ new.longest ∷ old.seen
  pub unentered : new.entered ≡ false → new.seen ≡ old.seen

-- the last looks of a worker's readers, replica by replica
pub record HaveLooked (published : Lasts) (old new : List ReaderState) : Type 0 where
  pub many : length new ≡ length old
  pub each : AllAt (λ r x. (d : ReaderState) → HasLooked (last_of published r) (slice_index_or old r d) x) new

-- how many operations an answer of a reader may have that stays: as many as were last published; none, where it did not enter at its
-- last look
abbrev pub bound_of : ℕ → ReaderState → ℕ
bound_of size r = if r.entered then size else 0

-- one for each of a worker's readers
pub record AreBounds (published : Lasts) (looked : List ReaderState) (bounds : List ℕ) : Type 0 where
  pub many : length bounds ≡ length looked
  pub each : AllAt (λ r n. (d : ReaderState) → n ≡ bound_of (length (last_of published r)) (slice_index_or looked r d)) bounds

-- a list of no more operations than the bound stays; a longer one gives way to what the replica is at the end
abbrev pub final_list : ℕ → List Operation → List Operation → List Operation
final_list bound h last = if nat_lt bound (length h) then last else h

-- the second answer comes to the first: where it is on more operations than its replica's bound, it is made again
pub record ComesTo {Q A : Type 0} (plain : Q → List Operation → A) (bounds : List ℕ)
    (lasts : Lasts) (b a : Answer Q A) : Type 0 where
  pub number : b.number ≡ a.number
  pub index : b.index ≡ a.index
  pub query : b.query ≡ a.query
  pub snapshot : b.snapshot ≡ final_list (slice_index_or bounds a.index 0) a.snapshot (last_of lasts a.index)
  pub answer : b.answer ≡ plain b.query b.snapshot

-- what a worker answered, once its readers have looked once more: an answer stays that is on no more than was last published, and whose
-- reader entered; each other one is made again
pub record HasRenewed {Q A : Type 0} (plain : Q → List Operation → A) (published lasts : Lasts)
    (done : DoneState Q A) (looked : List ReaderState) (answers : List (Answer Q A)) : Type 0 where
  pub readers : HaveLooked published done.readers looked
  pub own : List (Answer Q A)
  pub gave : done.answers ≡ Some own
  pub bounds : List ℕ
  pub are : AreBounds published looked bounds
  pub each : AllZip (ComesTo plain bounds lasts) answers own

-- the plain answer to an ask, on a snapshot that begins what the replica is at the end
pub record IsFinal {Q A : Type 0} (plain : Q → List Operation → A) (lasts : Lasts)
    (a : Answer Q A) (k : Ask Q) : Type 0 where
  pub answer : IsAnswerTo plain a k
  pub front : IsFront a.snapshot (last_of lasts k.index)

-- the asks of one worker have one answer each, in their order
pub record AreFinal {Q A : Type 0} (plain : Q → List Operation → A) (lasts : Lasts)
    (asks : List (Ask Q)) (answers : List (Answer Q A)) : Type 0 where
  pub each : AllZip (IsFinal plain lasts) answers asks
  pub never_fewer : AllPairs NeverFewer answers

-- of two answers of one worker and one replica, the later is on no fewer operations
abbrev pub NeverFalls : {Q A : Type 0} → ℕ → Answer Q A → Answer Q A → Type 0
NeverFalls workers a b = worker_of workers a.number ≡ worker_of workers b.number → NeverFewer a b

-- the asks of all workers have one answer each, in their order
pub record AreGathered {Q A : Type 0} (plain : Q → List Operation → A) (workers : ℕ) (lasts : Lasts)
    (asks : List (Ask Q)) (answers : List (Answer Q A)) : Type 0 where
  pub each : AllZip (IsFinal plain lasts) answers asks
  pub never_falls : AllPairs (NeverFalls workers) answers

-- what each worker answered was renewed, and stands among all answers as it did
pub record AreRenewed {Q A : Type 0} (plain : Q → List Operation → A) (published lasts : Lasts)
    (dones : List (DoneState Q A)) (looked : List (List ReaderState)) (answers : List (Answer Q A)) : Type 0 where
  pub many : length looked ≡ length dones
  pub each : AllAt (λ w x. (d : DoneState Q A) → HasRenewed plain published lasts (slice_index_or dones w d) x
      (filter (λ (a : Answer Q A). worker_of (length dones) a.number == w) answers)) looked

-- the same of the list of each worker, given what each was told; for private clauses
pub record HaveRenewed {Q A : Type 0} (plain : Q → List Operation → A) (tolds : List (List ToldState)) (lasts : Lasts)
    (dones : List (DoneState Q A)) (looked : List (List ReaderState)) (lists : List (List (Answer Q A))) : Type 0 where
  pub many : length looked ≡ length dones
  pub each : AllAt (λ w x. (t : List ToldState) (d : DoneState Q A) (l : List (Answer Q A))
      → HasRenewed plain (told_lists (slice_index_or tolds w t)) lasts (slice_index_or dones w d) x (slice_index_or lists w l)) looked

-- all inboxes are closed, and each worker's tokens tell it what was last published, of its own pairs
pub record IsReady {Q : Type 0} (inboxes : List (InboxState Q)) (tolds : List (List ToldState)) (sizes : List ℕ)
    (published : Lasts) (asks : List (Ask Q)) : Type 0 where
  pub some : 1 ≤ length inboxes
  pub closed : AllAt (IsClosed (length inboxes) asks) inboxes
  pub pairs : map told_pairs tolds ≡ pairs_in inboxes
  pub lists : All (λ ts. told_lists ts ≡ published) tolds
  pub counts : sizes ≡ map (λ (h : List Operation). length h) published
  pub numbers : AreNumbered asks

-- what the workers gave back is of the desks that they began with
abbrev pub HaveWorked : {Q A : Type 0} → (Q → List Operation → A) → List DeskState → List (DoneState Q A) → Type 0
HaveWorked {Q} {A} plain desks dones = (length dones ≡ length desks)
    × ((i : ℕ) (d : DoneState Q A) (e : DeskState) → i < length desks
    → HasWorked plain (slice_index_or desks i e) (slice_index_or dones i d))

-- a worker's inbox, what it gave back, and what was last published to its pairs
pub record CanRenew {Q A : Type 0} (plain : Q → List Operation → A) (sizes : List ℕ) (lasts : Lasts)
    (i : InboxState Q) (d : DoneState Q A) (ts : List ToldState) : Type 0 where
  pub own : d.queue ≡ i.queue
  pub ended : IsEnded i.sent × IsEnded d.taken
  pub answered : IfSome d.answers (λ v. HasAnswered plain (asks_of d.taken) d.readers v)
  pub pairs : told_pairs ts ≡ pairs_of d.readers
  pub counts : sizes ≡ map (λ (h : List Operation). length h) (told_lists ts)
  pub fronts : AllZip IsFront (told_lists ts) lasts
  pub asked : All (IsPast lasts) (asks_of i.sent)

-- the same of each worker
abbrev pub CanRenewAll : {Q A : Type 0} → (Q → List Operation → A)
    → List ℕ → Lasts → List (InboxState Q) → List (DoneState Q A) → List (List ToldState) → Type 0
CanRenewAll plain sizes lasts [] [] [] = Unit {0}
CanRenewAll plain sizes lasts [] [] (t ∷ ts) = ⊥
CanRenewAll plain sizes lasts [] (d ∷ ds) ts = ⊥
CanRenewAll plain sizes lasts (i ∷ is) [] ts = ⊥
CanRenewAll plain sizes lasts (i ∷ is) (d ∷ ds) [] = ⊥
CanRenewAll plain sizes lasts (i ∷ is) (d ∷ ds) (t ∷ ts) =
    CanRenew plain sizes lasts i d t
    × CanRenewAll plain sizes lasts is ds ts
