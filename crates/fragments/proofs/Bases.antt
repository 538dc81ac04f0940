-- The fragments of a base.
use Rattle.std.proofs.Common.{ℕ, [], ◌≡◌, List, sym, subst, ◌∷◌, length, refl, ◌≤◌, ◌^◌, ap, ◌∙◌, arith}
use Rattle.std.proofs.lemmas.List.{nil_from_length}
use Rattle.op_model.specs.Histories.{History, base}
use Rattle.undo_map.specs.declared.entry.UndoEntry.{UndoEntry}
use Rattle.fragments.specs.declared.fragment.Fragment.{Fragment}
use Rattle.fragments.specs.DeletedRuns.{IndexState}
use Rattle.fragments.specs.Stand.{Stand}
use Rattle.fragments.proofs.Founds.{base_stands}
use Rattle.fragments.specs.Laws.{whole_base, index_of_one, no_index}
use Rattle.locators.specs.Locator.{IsLess, EndsAboveZero, least_digits, greatest_digits}

pub stand_is : (fs gs : List Fragment) (w v : IndexState) (u s : List UndoEntry) (h : History) → fs ≡ gs → w ≡ v → u ≡ s → Stand gs v s h → Stand fs w u h
stand_is fs gs w v u s h a b c k =
    subst (λ (x : List Fragment). Stand x w u h) (sym a) (subst (λ (x : IndexState). Stand gs x u h) (sym b) (subst (λ (x : List UndoEntry). Stand gs v x h) (sym c) k))

-- ---- a base

pub empty_base : (fs : List Fragment) (w : IndexState) (t : List ℕ) → length t ≡ 0 → fs ≡ [] → w ≡ no_index → Stand fs w [] (base t ∷ [])
empty_base fs w t e f g = subst (λ (x : List ℕ). Stand fs w [] (base x ∷ [])) (sym (nil_from_length t e)) (stand_is fs [] w no_index [] [] (base [] ∷ []) f g refl base_stands.1)

pub one_base : (fs : List Fragment) (w : IndexState) (f : Fragment) (t : List ℕ) → (length t ≡ 0 → ⊥) → length t ≤ 2 ^ 40 → f ≡ whole_base f.id t → IsLess least_digits f.id → IsLess f.id greatest_digits → EndsAboveZero f.id
    → fs ≡ f ∷ [] → w ≡ index_of_one (whole_base f.id t) → Stand fs w [] (base t ∷ [])
one_base fs w f t some few e low high ends a b =
    stand_is fs (whole_base f.id t ∷ []) w (index_of_one (whole_base f.id t)) [] [] (base t ∷ []) (a ∙ ap (λ (g : Fragment). g ∷ []) e) b refl
    (base_stands.0 f.id t (omega (arith, some)) (omega (arith, few)) low high ends)
