-- How many folds are taken out, and which are left.
use Rattle.std.proofs.Common.{◌≡◌, ℕ, ◌+◌, ◌-◌, Bool, true, false, not, cond, List, [], ◌∷◌, length, map, refl, sym, ap, ◌∙◌, arith}
use Rattle.std.specs.List.{filter}
use Rattle.std.proofs.lemmas.List.{length-map}
use Rattle.std.proofs.lemmas.List.Filters.{length-filter_both}
use Rattle.op_model.specs.Histories.{History}
use Rattle.fold_map.specs.Calls.{shares, unfolded}
use Rattle.fold_map.specs.Numbered.{fold_of, folds_of, state_of, fold_shares}
use Rattle.fold_map.specs.declared.fold.Fold.{Fold}
use Rattle.fold_map.specs.declared.fold.NumberedFold.{NumberedFold}

module _ (h : History) (s e : ℕ) where
  abbrev pub yes_here : NumberedFold → Bool
  yes_here f = fold_shares h s e f

  -- as many are gone as shared a byte
  pub gone_count : (fs kept : List NumberedFold) → kept ≡ filter (λ f. not (fold_shares h s e f)) fs → length fs ≡ length (filter yes_here fs) + length kept
  gone_count fs kept k = let b = length-filter_both yes_here (λ f. not (fold_shares h s e f)) (λ f. refl) fs in let c = ap length k in omega arith

-- ---- a filter of folds, and of folds with numbers

kept_fold : (b c : Bool) (f : NumberedFold) (fs : List NumberedFold) (gs : List Fold) → b ≡ c → map fold_of fs ≡ gs → map fold_of (cond b (f ∷ fs) fs) ≡ cond c (fold_of f ∷ gs) gs
kept_fold true c f fs gs e g = rw (← e) (ap (λ (ys : List Fold). fold_of f ∷ ys) g)
kept_fold false c f fs gs e g = rw (← e) g

pub filter_folds : (p : Fold → Bool) (fs : List NumberedFold) → map fold_of (filter (λ f. p (fold_of f)) fs) ≡ filter p (map fold_of fs)
filter_folds p [] = refl
filter_folds p (f ∷ fs) = kept_fold (p (fold_of f)) (p (fold_of f)) f (filter (λ g. p (fold_of g)) fs) (filter p (map fold_of fs)) refl (filter_folds p fs)

pub filter_count : (p : Fold → Bool) (fs : List NumberedFold) → length (filter (λ f. p (fold_of f)) fs) ≡ length (filter p (map fold_of fs))
filter_count p fs = sym (length-map (filter (λ f. p (fold_of f)) fs) fold_of) ∙ ap length (filter_folds p fs)

pub is_unfolded : (h : History) (s e : ℕ) (fs gs : List NumberedFold) → gs ≡ filter (λ f. not (fold_shares h s e f)) fs → state_of h gs ≡ unfolded s e (state_of h fs)
is_unfolded h s e fs gs k = ap (state_of h) k ∙ ap (λ (l : List Fold). record { history = h; folds = l }) (filter_folds (λ f. not (shares h s e f)) fs)

pub gone_is : (h : History) (s e : ℕ) (fs gs : List NumberedFold) (n : ℕ) → gs ≡ filter (λ f. not (fold_shares h s e f)) fs → n ≡ length fs - length gs → n ≡ length (filter (shares h s e) (folds_of fs))
gone_is h s e fs gs n k c = let a = gone_count h s e fs gs k in let b = filter_count (shares h s e) fs in omega arith
