-- How the program ends on bytes, where no read and no write fails.
use Rattle.std.proofs.Common.{◌≡◌, ℕ, ◌<◌, ◌≤◌, ◌⊎◌, inl, inr, List, length, ◌∙◌, subst, arith, Option, Some}
use Rattle.session_io.specs.Causes.{Rose}
use Rattle.session_work.specs.Work.{session_limit}
use Rattle.session_io.specs.Traffic.{WasRead}

-- a count that stays 0 did not rise
pub never_rose : Rose 0 0 → ⊥
never_rose r = omega (arith, r)

-- of three ends, the middle one never comes
pub not_middle : {A B C : Type 0} → A ⊎ (B ⊎ C) → (B → Rose 0 0) → A ⊎ C
not_middle (inl a) n = inl a
not_middle (inr (inl b)) n = absurd (never_rose (n b))
not_middle (inr (inr c)) n = inr c

-- of three ends, the last one never comes
pub not_last : {A B C : Type 0} → A ⊎ (B ⊎ C) → (C → Rose 0 0) → A ⊎ B
not_last (inl a) n = inl a
not_last (inr (inl b)) n = inr b
not_last (inr (inr c)) n = absurd (never_rose (n c))

-- of one task, or of some task
pub of_task : {T A : Type 0} (C P : T → Type 0) (t : T) → C t → A ⊎ P t → A ⊎ ((x : T) × C x × P x)
of_task C P t c (inl a) = inl a
of_task C P t c (inr p) = inr (t, c, p)

-- ---- what was read is the bytes

module _ (left bytes : List ℕ) (is : left ≡ bytes) (left_after : Option (List ℕ)) (given given_after ends ends_after : ℕ) where
  -- they are not what is read
  pub is_bad : (P Q : List ℕ → List ℕ → Type 0) → (input : List ℕ) × WasRead (Some left) left_after given given_after ends ends_after input × (length input ≤ session_limit)
      × ((line : List ℕ) × P input line × Q input line) → (length bytes ≤ session_limit) × ((line : List ℕ) × P bytes line)
  is_bad P Q r = subst (λ (b : List ℕ). (length b ≤ session_limit) × ((line : List ℕ) × P b line)) (r.1.had ∙ is) (r.2, (r.3.0, r.3.1))

  -- they are too many, or have too many lines
  pub is_large : (P : List ℕ → Type 0) (Q R S : Type 0) → ((session_limit < length left) × Q × R) ⊎ ((input : List ℕ) × WasRead (Some left) left_after given given_after ends ends_after input
      × (length input ≤ session_limit) × P input × S) → (session_limit < length bytes) ⊎ P bytes
  is_large P Q R S (inl l) = inl (subst (λ (b : List ℕ). session_limit < length b) is l.0)
  is_large P Q R S (inr r) = inr (subst P (r.1.had ∙ is) r.3)
