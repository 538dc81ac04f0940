-- Lists cut into runs, and the nodes made from the runs.
use Rattle.std.proofs.Common.{◌≡◌, ℕ, ◌+◌, ◌*◌, ◌^◌, ◌≤◌, List, [], ◌∷◌, ◌++◌, length, take, drop, reverse, Vec, sym, ap, subst, ◌∙◌, take-append-drop, append_assoc, arith, length-append}
use Rattle.std.specs.Global.{Global}
use Rattle.std.specs.List.{All}
use Rattle.std.proofs.lemmas.List.{reverse-append}
use Rattle.std.proofs.lemmas.List.Elements.{All-append, All-cons, All-nil, All-head, All-tail}
use Rattle.sum_tree.specs.Laws.{SummaryLaws, fold}
use Rattle.sum_tree.specs.Seen.{Seen}
use Rattle.sum_tree.specs.Shape.{IsChild, join_items}
use Rattle.sum_tree.specs.Groups.{elements, IsGroup}
use Rattle.sum_tree.proofs.Folds.{fits_left, fits_right, fold_single}
use Rattle.sum_tree.proofs.Children.{joined-append, joined_single}

module _ {X : Type 0} where
  -- what holds of all that is left holds of the first of it
  pub first_of : (P : X → Type 0) (ys : List X) (x : X) (xs : List X) → ys ≡ x ∷ xs → All P ys → P x
  first_of P ys x xs e a = All-head P x xs (subst (λ (zs : List X). All P zs) e a)

  pub All_push : (P : X → Type 0) (xs : List X) (x : X) (ys : List X) → ys ≡ xs ++ x ∷ [] → All P xs → P x → All P ys
  All_push P xs x ys e a p = subst (λ (zs : List X). All P zs) (sym e) (All-append P xs (x ∷ []) a (All-cons P x [] p (All-nil P)))

  pub All_left : (P : X → Type 0) (xs ys : List X) → All P (xs ++ ys) → All P xs
  All_left P [] ys a = All-nil P
  All_left P (x ∷ xs) ys a = All-cons P x xs (All-head P x (xs ++ ys) a) (All_left P xs ys (All-tail P x (xs ++ ys) a))

  pub All_right : (P : X → Type 0) (xs ys : List X) → All P (xs ++ ys) → All P ys
  All_right P [] ys a = a
  All_right P (x ∷ xs) ys a = All_right P xs ys (All-tail P x (xs ++ ys) a)

  pub cut_last : (old front all : List X) (v : Vec X Global) (gs news : List (Vec X Global)) (k : ℕ) → front ≡ take k old → v.items ≡ drop k old → news ≡ gs ++ v ∷ [] → old ++ elements (reverse gs) ≡ all → front ++ elements (reverse news) ≡ all
  cut_last old front all v gs news k f d n whole =
      let turned : reverse news ≡ v ∷ reverse gs = ap reverse n ∙ reverse-append gs (v ∷ []) in
      ap (λ (xs : List X). xs ++ elements (reverse news)) f ∙ ap (λ (hs : List (Vec X Global)). take k old ++ elements hs) turned ∙ ap (λ (xs : List X). take k old ++ (xs ++ elements (reverse gs))) d ∙ sym (append_assoc (take k old) (drop k old) (elements (reverse gs))) ∙ ap (λ (xs : List X). xs ++ elements (reverse gs)) (take-append-drop k old) ∙ whole

  pub All_reverse : (P : X → Type 0) (xs : List X) → All P xs → All P (reverse xs)
  All_reverse P [] a = All-nil P
  All_reverse P (x ∷ xs) a = All_push P (reverse xs) x (reverse (x ∷ xs)) (reverse-append (x ∷ []) xs) (All_reverse P xs (All-tail P x xs a)) (All-head P x xs a)

module _ {X : Type 0} where
  pub few_groups : (gs : List (Vec X Global)) → All IsGroup gs → 6 * length gs ≤ length (elements gs)
  few_groups [] a = omega arith
  few_groups (g ∷ gs) a = omega (arith, (All-head IsGroup g gs a).0, few_groups gs (All-tail IsGroup g gs a), length-append g.items (elements gs))

  pub enough_groups : (gs : List (Vec X Global)) → All IsGroup gs → length (elements gs) ≤ 12 * length gs
  enough_groups [] a = omega arith
  enough_groups (g ∷ gs) a = omega (arith, (All-head IsGroup g gs a).1, enough_groups gs (All-tail IsGroup g gs a), length-append g.items (elements gs))

module _ {T : Type 0} where
  -- one node more, of the first of what was left
  pub next_level : (nodes news : List (Seen T)) (n : Seen T) (b m r all : List T) → news ≡ nodes ++ n ∷ [] → n.items ≡ m → b ≡ m ++ r → join_items nodes ++ b ≡ all → join_items news ++ r ≡ all
  next_level nodes news n b m r all e i split whole =
      ap (λ (ts : List (Seen T)). join_items ts ++ r) e ∙ ap (λ (xs : List T). xs ++ r) (joined-append nodes (n ∷ []) ∙ ap (λ (xs : List T). join_items nodes ++ xs) (joined_single n ∙ i)) ∙ append_assoc (join_items nodes) m r ∙ ap (λ (xs : List T). join_items nodes ++ xs) (sym split) ∙ whole

  pub inner_child : (h : ℕ) (n : Seen T) (g : Vec (Seen T) Global) → n.height ≡ h → n.width ≡ length g.items → (6 ≤ n.width → 6 ^ (n.height + 1) ≤ length n.items) → IsGroup g → IsChild (h + 1) n
  inner_child h n g e w m s =
      let wide : 6 ≤ n.width = omega (arith, w, s.0) in
      record {
        lower = omega (arith, e);
        wide = wide;
        narrow = omega (arith, w, s.1);
        many = m wide;
      }

module _ {S T : Type 0} {empty : S} {op : S → S → S} {admits fits : S → Type 0} (laws : SummaryLaws empty op admits fits) (sum_of : T → S) (admitted : (x : T) → admits (sum_of x)) where
  -- where all fits, a run within it fits
  pub fits_middle : (a b m r all : List T) → a ++ b ≡ all → b ≡ m ++ r → fits (fold empty op sum_of all) → fits (fold empty op sum_of m)
  fits_middle a b m r all whole split h =
      let back : fits (fold empty op sum_of b) = fits_right laws sum_of admitted a b (subst (λ (xs : List T). fits (fold empty op sum_of xs)) (sym whole) h) in
      fits_left laws sum_of admitted m r (subst (λ (xs : List T). fits (fold empty op sum_of xs)) split back)

  pub fits_item : (a b r all : List T) (x : T) → a ++ b ≡ all → b ≡ x ∷ r → fits (fold empty op sum_of all) → fits (sum_of x)
  fits_item a b r all x whole split h = subst fits (fold_single laws sum_of admitted x) (fits_middle a b (x ∷ []) r all whole split h)
