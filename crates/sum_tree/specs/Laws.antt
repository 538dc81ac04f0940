-- The laws of a summary's addition, and the sum of a list.
use Rattle.std.specs.Prelude.{◌≡◌, List, [], ◌∷◌}

-- For the values that the type admits: empty is neutral, the addition is associative, and if a sum fits, so does the
-- sum of a part of what was added.
pub record SummaryLaws {S : Type 0} (empty : S) (op : S → S → S) (admits : S → Type 0)
    (fits : S → Type 0) : Type 0 where
  pub empty_admitted : admits empty
  pub op_admitted : (a b : S) → admits a → admits b → admits (op a b)
  pub left_identity : (a : S) → admits a → op empty a ≡ a
  pub right_identity : (a : S) → admits a → op a empty ≡ a
  pub assoc : (a b c : S) → admits a → admits b → admits c → op (op a b) c ≡ op a (op b c)
  pub empty_fits : fits empty
  pub fits_parts : (a b c : S) → admits a → admits b → admits c → fits (op a (op b c)) → fits (op a c)

-- start with the summaries of the items added to it, one by one from the first
abbrev pub fold : {S X : Type 0} → S → (S → S → S) → (X → S) → List X → S
fold start op sum_of [] = start
fold start op sum_of (x ∷ xs) = fold (op start (sum_of x)) op sum_of xs
