-- What workers answer.
use Rattle.std.specs.Prelude.{◌≡◌, ◌≤◌, List, [], length, map, slice_index_or, All, IfSome}
use Rattle.std.specs.List.{AllPairs, AllZip}
use Rattle.op_model.specs.declared.operation.Operation.{Operation}
use Rattle.text_buffer.specs.Document.{IsFront}
use Rattle.snapshot_pub.specs.States.{ReaderState}
use Rattle.queries.specs.Queue.{pairs_of, IsEnded}
use Rattle.queries.specs.States.{DeskState, DoneState}
use Rattle.queries.specs.Asks.{Ask, asks_of}
use Rattle.queries.specs.declared.query.Answer.{Answer}

-- the longest lists that they gave or learned
abbrev pub lists_of : List ReaderState → List (List Operation)
lists_of rs = map (λ (r : ReaderState). r.longest) rs

-- the answer is the plain one to the query that was asked, on a snapshot that begins with what was applied then
pub record IsAnswerTo {Q A : Type 0} (plain : Q → List Operation → A) (a : Answer Q A) (k : Ask Q) : Type 0 where
  pub number : a.number ≡ k.number
  pub index : a.index ≡ k.index
  pub query : a.query ≡ k.query
  pub told : IsFront k.history a.snapshot
  pub answer : a.answer ≡ plain a.query a.snapshot

-- a later answer of the same replica is on no fewer operations
abbrev pub NeverFewer : {Q A : Type 0} → Answer Q A → Answer Q A → Type 0
NeverFewer a b = a.index ≡ b.index → length a.snapshot ≤ length b.snapshot

-- the reader of its replica begins with the answer's snapshot
abbrev pub IsKnown : {Q A : Type 0} → List ReaderState → Answer Q A → Type 0
IsKnown readers a = IsFront a.snapshot (slice_index_or (lists_of readers) a.index [])

-- each ask has one answer, in their order, on what these readers gave
pub record HasAnswered {Q A : Type 0} (plain : Q → List Operation → A) (asks : List (Ask Q))
    (readers : List ReaderState) (answers : List (Answer Q A)) : Type 0 where
  pub each : AllZip (IsAnswerTo plain) answers asks
  pub never_fewer : AllPairs NeverFewer answers
  pub known : All (IsKnown readers) answers

-- a worker took jobs up to the end mark, and answered each of them, unless an allocation failed
pub record HasWorked {Q A : Type 0} (plain : Q → List Operation → A)
    (desk : DeskState) (done : DoneState Q A) : Type 0 where
  pub queue : done.queue ≡ desk.queue
  pub pairs : pairs_of done.readers ≡ pairs_of desk.readers
  pub ended : IsEnded done.taken
  pub answered : IfSome done.answers (λ v. HasAnswered plain (asks_of done.taken) done.readers v)
