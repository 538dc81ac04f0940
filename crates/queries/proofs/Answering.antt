-- Answers, and the places and snapshots that they are of.
use Rattle.std.proofs.Common.{ℕ, [], ◌≡◌, ◌<◌, List, length, arith, ◌∷◌}
use Rattle.std.proofs.lemmas.Slice.Zip.{AllZip-long}
use Rattle.std.specs.List.{All, AllZip}
use Rattle.std.proofs.lemmas.List.Elements.{All-cons, All-nil}
use Rattle.op_model.specs.declared.operation.Operation.{Operation}
use Rattle.text_buffer.specs.Document.{IsFront}
use Rattle.queries.specs.declared.query.Answer.{Answer}
use Rattle.queries.specs.Asks.{Ask}
use Rattle.queries.specs.Answers.{IsAnswerTo}

pub all_there : {Q A : Type 0} (bounds : List ℕ) (lasts published : List (List Operation)) → AllZip IsFront published lasts → length bounds ≡ length published → (as_ : List (Answer Q A)) → All (λ (a : Answer Q A). a.index < length lasts) as_
    → All (λ (a : Answer Q A). (a.index < length bounds) × (a.index < length lasts)) as_
all_there bounds lasts published fronts many as_ h i d below = let within = h i d below in (omega (arith, within, many, AllZip-long IsFront published lasts fronts), within)

pub plain_answers : {Q A : Type 0} (plain : Q → List Operation → A) (as_ : List (Answer Q A)) (ks : List (Ask Q)) → AllZip (IsAnswerTo plain) as_ ks → All (λ (a : Answer Q A). a.answer ≡ plain a.query a.snapshot) as_
plain_answers plain [] ks h = All-nil (λ a. a.answer ≡ plain a.query a.snapshot)
plain_answers plain (a ∷ as_) [] h = absurd h
plain_answers plain (a ∷ as_) (k ∷ ks) h = All-cons (λ x. x.answer ≡ plain x.query x.snapshot) a as_ h.0.answer (plain_answers plain as_ ks h.1)
