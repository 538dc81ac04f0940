-- One pair more is open.
use Rattle.std.proofs.Common.{◌≡◌, ℕ, ◌+◌, List, [], ◌∷◌, ◌++◌, sym, ◌∙◌}
use Rattle.std.proofs.lemmas.List.{map-append, replicate-append-replicate}
use Rattle.std.proofs.lemmas.List.Elements.{All-append}
use Rattle.op_model.specs.declared.operation.Operation.{Operation}
use Rattle.op_model.proofs.Elements.{All-single}
use Rattle.logbook.specs.Pages.{Named}
use Rattle.snapshot_pub.specs.States.{ReaderState, HasLearned}
use Rattle.snapshot_pub.specs.Fields.{AreOpen, Shows, side_pair, side_list}
use Rattle.snapshot_pub.specs.declared.publisher.Side.{Side}

pub open_more : (first : List Operation) (n : ℕ) (sides : List Side) (readers : List ReaderState) (s : Side) (r : ReaderState) → AreOpen first n sides readers
    → Shows first s → HasLearned first r → r.pair ≡ side_pair s → AreOpen first (n + 1) (sides ++ s ∷ []) (readers ++ r ∷ [])
open_more first n sides readers s r was shows learned own =
    let f : ReaderState → Named = λ r. r.pair in record {
      published = map-append side_list sides (s ∷ []) ∙ ((λ i. was.published i ++ shows.0 i ∷ []) ∙ replicate-append-replicate n 1 first);
      pairs = map-append f readers (r ∷ []) ∙ ((λ i. was.pairs i ++ own i ∷ []) ∙ sym (map-append side_pair sides (s ∷ [])));
      learned = All-append (HasLearned first) readers (r ∷ []) was.learned (All-single (HasLearned first) r learned);
    }
