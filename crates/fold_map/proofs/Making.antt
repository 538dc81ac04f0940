-- Folds that are made, and maps that grow, shrink and go on.
use Rattle.std.proofs.Common.{◌≡◌, ℕ, ◌≤◌, ◌<◌, ◌&&◌, Bool, true, false, not, cond, eqb, ltb, List, [], ◌∷◌, ◌++◌, length, Option, Some, None, refl, sym, ap, ◌∙◌, arith}
use Rattle.std.specs.Prelude.{option_map}
use Rattle.std.specs.List.{AllByRecursion}
use Rattle.std.proofs.lemmas.Bool.{ltb-false, le-ltb, eqb-false}
use Rattle.std.proofs.lemmas.List.{map_push}
use Rattle.std.proofs.lemmas.Option.{same_Some}
use Rattle.std.proofs.lemmas.List.Elements.{All-push, All-same}
use Rattle.lamport_clock.specs.Versions.{Entries, first_unseen}
use Rattle.op_model.specs.Choice.{first_of, when}
use Rattle.op_model.specs.Domains.{IsProper}
use Rattle.op_model.specs.Histories.{History, version}
use Rattle.op_model.specs.Lawful.{Lawful}
use Rattle.op_model.specs.Edits.{is_boundary}
use Rattle.op_model.specs.Shown.{text}
use Rattle.op_model.specs.Anchors.{place, is_known, place_fault}
use Rattle.op_model.specs.declared.faults.PlaceFault.{PlaceFault}
use Rattle.op_model.specs.declared.faults.PlaceFault.TheVariants.{PastEnd as PastText, InsideChar as InsideOne}
use Rattle.op_model.proofs.MainLaws.{anchors_resolve, made_anchors_stand_in_order}
use Rattle.fold_map.specs.declared.fold.Fold.{Fold}
use Rattle.fold_map.specs.declared.fold.NumberedFold.{NumberedFold}
use Rattle.fold_map.specs.declared.faults.FoldFault.{FoldFault}
use Rattle.fold_map.specs.declared.faults.FoldFault.TheVariants.{Reversed, PastEnd, InsideChar, EmptyRange}
use Rattle.fold_map.specs.Folds.{IsFold}
use Rattle.fold_map.specs.Calls.{fold_fault, older_replica, IsFoldOf, IsFolded}
use Rattle.fold_map.specs.Numbered.{fold_of, folds_of, state_of, AreFolds}

-- ---- ranges without fault

none_of_four : (t u v w : Bool) (a b c d : FoldFault) → first_of (when t a ∷ when u b ∷ when v c ∷ when w d ∷ []) ≡ None → (t ≡ false) × (u ≡ false) × (v ≡ false) × (w ≡ false)
none_of_four true u v w a b c d e = cc
none_of_four false true v w a b c d e = cc
none_of_four false false true w a b c d e = cc
none_of_four false false false true a b c d e = cc
none_of_four false false false false a b c d e = (refl, refl, refl, refl)

not_false : (b : Bool) → not b ≡ false → b ≡ true
not_false true e = refl
not_false false e = cc

both_true : (a b : Bool) → (a && b) ≡ true → (a ≡ true) × (b ≡ true)
both_true true b e = (refl, e)
both_true false b e = cc

two_none : (t u : Bool) (a b : PlaceFault) → t ≡ false → u ≡ true → first_of (when t a ∷ when (not u) b ∷ []) ≡ None
two_none t u a b e f = rw (e, f) refl

known_from : (b : Bool) (p o : ℕ) → cond b (Some p) None ≡ Some o → b ≡ true
known_from true p o e = refl
known_from false p o e = cc

place_from : (b : Bool) (p o : ℕ) → cond b (Some p) None ≡ Some o → p ≡ o
place_from true p o e = same_Some p o e
place_from false p o e = cc

module _ (h : History) (s e : ℕ) (f : fold_fault h s e ≡ None) where
  tests : (ltb e s ≡ false) × (ltb (length (text h)) e ≡ false) × (not (is_boundary (text h) s && is_boundary (text h) e) ≡ false) × (eqb s e ≡ false)
  tests = none_of_four (ltb e s) (ltb (length (text h)) e) (not (is_boundary (text h) s && is_boundary (text h) e)) (eqb s e) (Reversed 0) (PastEnd 0 (length (text h))) (InsideChar 0) EmptyRange f

  bounds : (is_boundary (text h) s ≡ true) × (is_boundary (text h) e ≡ true)
  bounds = both_true (is_boundary (text h) s) (is_boundary (text h) e) (not_false (is_boundary (text h) s && is_boundary (text h) e) tests.2)

  pub in_order : s < e
  in_order = let a = ltb-false e s tests.0 in let b : s ≡ e → ⊥ = eqb-false s e tests.3 in omega arith

  pub within : e ≤ length (text h)
  within = ltb-false (length (text h)) e tests.1

  pub start_faultless : place_fault h s ≡ None
  start_faultless = let a = in_order in let b = within in two_none (ltb (length (text h)) s) (is_boundary (text h) s) (PastText (length (text h))) InsideOne (le-ltb (length (text h)) s (omega arith)) bounds.0

  pub end_faultless : place_fault h e ≡ None
  end_faultless = two_none (ltb (length (text h)) e) (is_boundary (text h) e) (PastText (length (text h))) InsideOne tests.1 bounds.1

  pub made_is_fold : Lawful h → AllByRecursion IsProper h → (x : Fold) → IsFoldOf h s e x → IsFold h x
  made_is_fold l p x m =
      let a = anchors_resolve h l p s start_faultless in
      let b = anchors_resolve h l p e end_faultless in
      record {
        start = known_from (is_known h x.start) (place h x.start) s (a.3 x.start m.start);
        end = known_from (is_known h x.end) (place h x.end) e (b.2 x.end m.end);
        order = (made_anchors_stand_in_order h l s e x.start x.end).0 in_order m.start m.end;
      }

  -- its range is s..e
  pub made_places : Lawful h → AllByRecursion IsProper h → (x : Fold) → IsFoldOf h s e x → (place h x.start ≡ s) × (place h x.end ≡ e)
  made_places l p x m = (
    place_from (is_known h x.start) (place h x.start) s ((anchors_resolve h l p s start_faultless).3 x.start m.start),
    place_from (is_known h x.end) (place h x.end) e ((anchors_resolve h l p e end_faultless).2 x.end m.end),
  )

-- ---- one fold more

pub folds_pushed : (h : History) (fs gs : List NumberedFold) (x : NumberedFold) → AreFolds h fs → IsFold h (fold_of x) → gs ≡ fs ++ x ∷ [] → AreFolds h gs
folds_pushed h fs gs x a i e = All-same (λ f. IsFold h (fold_of f)) gs (fs ++ x ∷ []) e (All-push (λ f. IsFold h (fold_of f)) fs x a i)

-- ---- an older snapshot

module _ (h g : History) (u v : Entries) (r : Option (ℕ × ℕ)) (e : u ≡ version g) (f : v ≡ version h) (is : r ≡ first_unseen u v) where
  found : r ≡ first_unseen (version g) (version h)
  found = is ∙ ap (λ (w : Entries). first_unseen w v) e ∙ ap (λ (w : Entries). first_unseen (version g) w) f

  pub not_older : r ≡ None → older_replica h g ≡ None
  not_older n = ap (option_map (λ (x : ℕ × ℕ). x.0)) (sym found ∙ n)

  pub is_older : (x : ℕ × ℕ) → r ≡ Some x → older_replica h g ≡ Some x.0
  is_older x s = ap (option_map (λ (y : ℕ × ℕ). y.0)) (sym found ∙ s)

-- ---- what a call has done

pub is_folded : (h : History) (fs gs : List NumberedFold) (s e : ℕ) (x : NumberedFold) → IsFoldOf h s e (fold_of x) → gs ≡ fs ++ x ∷ [] → IsFolded (state_of h fs) (state_of h gs) s e
is_folded h fs gs s e x m k = record {
  fold = fold_of x;
  is_made = m;
  history = refl;
  folds = ap folds_of k ∙ map_push fold_of fs x;
}
