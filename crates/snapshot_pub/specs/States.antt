-- What contracts see of a publisher, of a reader and of a token. A pair is known by a word of its log.
use Rattle.std.specs.Prelude.{◌≡◌, ◌⊎◌, Bool, false, List, [], ◌∷◌, All}
use Rattle.logbook.specs.Pages.{Named}
use Rattle.op_model.specs.declared.operation.Operation.{Operation}
use Rattle.text_buffer.specs.Document.{IsFront}

-- which pairs there are, and the list that was last published to each
pub record PublisherState : Type 0 where
  pub pairs : List Named
  pub published : List (List Operation)

-- its pair; the longest list that it gave or learned; the lists that its steps enter saw, the last first, and then the
-- opening one; whether the last Ok of `latest` entered
pub record ReaderState : Type 0 where
  pub pair : Named
  pub longest : List Operation
  pub seen : List (List Operation)
  pub entered : Bool

-- the lists that were seen before and after: the same, or one more, which begins with each of them
abbrev pub SeesMore : List (List Operation) → List (List Operation) → Type 0
SeesMore old new =
    (new ≡ old)
    ⊎ ((h : List Operation) × All (λ x. IsFront x h) old × (new ≡ h ∷ old))

-- the pair, and the list that was published to it
pub record ToldState : Type 0 where
  pub pair : Named
  pub list : List Operation

-- what a reader is at first
pub record HasLearned (first : List Operation) (r : ReaderState) : Type 0 where
  pub longest : r.longest ≡ first
  pub seen : r.seen ≡ first ∷ []
  pub entered : r.entered ≡ false
