-- Stamps with one inserted.
use Rattle.std.proofs.Common.{◌≡◌, ℕ, List, [], ◌∷◌, refl, ◌∙◌, ap, inl, inr}
use Rattle.std.specs.List.{insert}
use Rattle.std.proofs.lemmas.Bool.{cases_Bool}
use Rattle.lamport_clock.specs.declared.stamp.Lamport.{Lamport}
use Rattle.lamport_clock.specs.Stamps.{later}
use Rattle.op_model.specs.Facts.{with_deletion}
use Rattle.fragments.specs.Stamps.{place_of}

-- stamps with one inserted at its place
pub put_in : (t : Lamport) (s : List Lamport) → insert s (place_of t s) t ≡ with_deletion t s
put_in t [] = refl
put_in t (u ∷ s) = elim (cases_Bool (later t u)) [
  | inl e ↦ rw e refl
  | inr e ↦ rw e (ap (λ z. u ∷ z) (put_in t s))
]

pub inserted : (t : Lamport) (old s slice new : List Lamport) (i : ℕ) → new ≡ insert s i t → i ≡ place_of t slice → slice ≡ s → s ≡ old → new ≡ with_deletion t old
inserted t old s slice new i a b d e = a ∙ ap (λ j. insert s j t) (b ∙ ap (place_of t) d) ∙ put_in t s ∙ ap (with_deletion t) e
