-- The skip over groups of cells of one stamp, as fragments are: a group is passed whole or not at all.
use Rattle.std.proofs.Common.{◌≡◌, List, [], ◌∷◌, ◌++◌, refl, ◌∙◌, ap, inl, inr, true, false, cond}
use Rattle.std.specs.List.{AllByRecursion}
use Rattle.std.proofs.lemmas.Bool.{cases_Bool}
use Rattle.lamport_clock.specs.declared.stamp.Lamport.{Lamport}
use Rattle.lamport_clock.specs.Stamps.{later}
use Rattle.op_model.specs.Cells.{PathCell}
use Rattle.op_model.specs.Laid.{after_run}
use Rattle.op_model.proofs.order.Restricted.{Of}

pub record Group : Type 0 where
  pub stamp : Lamport
  pub first : PathCell
  pub more : List PathCell

abbrev pub places_of : Group → List PathCell
places_of g = g.first ∷ g.more

abbrev pub Alike : Group → Type 0
Alike g = AllByRecursion (Of g.stamp) (places_of g)

abbrev pub flat : List Group → List PathCell
flat [] = []
flat (g ∷ gs) = places_of g ++ flat gs

-- ns put past the groups at the front whose stamps are later than t
abbrev pub skip_groups : Lamport → List PathCell → List Group → List PathCell
skip_groups t ns [] = ns
skip_groups t ns (g ∷ gs) = cond (later g.stamp t) (places_of g ++ skip_groups t ns gs) (ns ++ flat (g ∷ gs))

past_group : (t u : Lamport) (ns g r : List PathCell) → AllByRecursion (Of u) g → later u t ≡ true → after_run t ns (g ++ r) ≡ g ++ after_run t ns r
past_group t u ns [] r e l = refl
past_group t u ns (q ∷ g) r e l = let h : later q.cell.stamp t ≡ true = ap (λ (x : Lamport). later x t) e.0 ∙ l in rw h (ap (λ x. q ∷ x) (past_group t u ns g r e.1 l))

pub skip_whole : (t : Lamport) (ns : List PathCell) (gs : List Group) → AllByRecursion Alike gs → after_run t ns (flat gs) ≡ skip_groups t ns gs
skip_whole t ns [] e = refl
skip_whole t ns (g ∷ gs) e = elim (cases_Bool (later g.stamp t)) [
  | inl l ↦ rw l (past_group t g.stamp ns (places_of g) (flat gs) e.0 l ∙ ap (λ x. places_of g ++ x) (skip_whole t ns gs e.1))
  | inr l ↦ (let h : later g.first.cell.stamp t ≡ false = ap (λ (x : Lamport). later x t) e.0.0 ∙ l in rw (l, h))
]
