-- The law of a filter by ids.
use Rattle.std.specs.Prelude.{◌≡◌, ℕ, Bool, true, false, not, List, Option, Some, None, refl}
use Rattle.std.proofs.Common.{ap, inl, inr}
use Rattle.std.proofs.lemmas.Bool.{cases_Bool, both_ways}
use Rattle.tree_cursor.specs.Keys.{greater, key_less}
use Rattle.fragments.specs.declared.fragment.FragmentSummary.{FragmentSummary}
use Rattle.fragments.specs.Summaries.{id_less, summaries}
use Rattle.fragments.specs.SummaryLaws.{id_order}
use Rattle.remote_edit.specs.Finds.{is_from}

not_false : (b : Bool) → not b ≡ false → b ≡ true
not_false true h = refl
not_false false h = cc

both_less : (p q : Option (List ℕ)) (i : List ℕ) → key_less id_less (greater id_less p q) (Some i) ≡ true → (key_less id_less p (Some i) ≡ true) × (key_less id_less q (Some i) ≡ true)
both_less None q i h = (refl, h)
both_less (Some a) None i h = (h, refl)
both_less (Some a) (Some b) i h = elim (cases_Bool (id_less a b)) [
  | inl e ↦ (let l : id_less b i ≡ true = rw e at h in (id_order.up a b i e l, l))
  | inr e ↦ (let l : id_less a i ≡ true = rw e at h in (
    l,
    elim (cases_Bool (id_less b i)) [
      | inl m ↦ m
      | inr m ↦ absurd (both_ways _ (id_order.down a b i e m) l)
    ],
  ))
]

pub from_parts : (i : List ℕ) (a b : FragmentSummary) → is_from i (summaries a b) ≡ false → (is_from i a ≡ false) × (is_from i b ≡ false)
from_parts i a b h = let k = both_less a.last_id b.last_id i (not_false _ h) in (ap not k.0, ap not k.1)
