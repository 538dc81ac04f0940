-- Why a walk that does not halt at a run of items halts at none of them.
use Rattle.std.specs.Prelude.{ℕ, ◌≡◌, Bool, true, false, ◌≤◌, nat_lt}
use Rattle.std.proofs.Common.{sym, refl, ◌∙◌, arith}
use Rattle.std.proofs.lemmas.Bool.Decides.{nat_tests}

-- a target that a later place does not pass is passed by no earlier one
pub seek_parts : (before later : Bool) → (before ≡ true → later ≡ true) → later ≡ false → (before ≡ false) × (later ≡ false)
seek_parts true later stays h = (sym (stays refl) ∙ h, h)
seek_parts false later stays h = (refl, h)

-- fewer items are no more than those that the walk goes over
pub count_parts : (n i j : ℕ) → i ≤ j → nat_lt n j ≡ false → (nat_lt n i ≡ false) × (nat_lt n j ≡ false)
count_parts n i j l h = (grind (arith, nat_tests), h)
