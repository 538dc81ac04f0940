-- A node after a change of one child in place.
use Rattle.std.proofs.Common.{refl, ◌≡◌, ℕ, ◌+◌, ◌-◌, ◌<◌, ◌≤◌, List, [], ◌∷◌, ◌++◌, length, set, take, drop, Vec, Global, sym, ap, subst, ◌∙◌, append_assoc, arith}
use Rattle.std.proofs.lemmas.List.{length-set, drop-set, take-set-le, same_from_push}
use Rattle.std.proofs.lemmas.List.Elements.{All-set}
use Rattle.std.specs.List.{All}
use Rattle.sum_tree.specs.Laws.{SummaryLaws, fold}
use Rattle.sum_tree.specs.Seen.{Seen}
use Rattle.std.specs.Prelude.{Result}
use Rattle.sum_tree.specs.Shape.{join_items, IsChild}
use Rattle.sum_tree.specs.Placed.{IsPlaced, IsPlacingOr, IsNoted, inner_seen}
use Rattle.sum_tree.specs.declared.around.Around.{Around}
use Rattle.sum_tree.specs.declared.here.Placing.{Placing}
use Rattle.sum_tree.specs.declared.here.Placing.TheVariants.{Done, Split}
use Rattle.sum_tree.proofs.Folds.{fold-append, fits_left}
use Rattle.sum_tree.proofs.Lists.{popped}
use Rattle.sum_tree.proofs.Children.{joined-split, many_enough}

pub same_last : {X : Type 0} (xs ys zs : List X) (x y : X) → zs ≡ xs ++ x ∷ [] → zs ≡ ys ++ y ∷ [] → x ≡ y
same_last xs ys zs x y e f = (same_from_push xs ys x y (sym e ∙ f)).1

pub same_front : {X : Type 0} (xs ys zs : List X) (x y : X) → zs ≡ xs ++ x ∷ [] → zs ≡ ys ++ y ∷ [] → xs ≡ ys
same_front xs ys zs x y e f = (same_from_push xs ys x y (sym e ∙ f)).0

module _ {T : Type 0} where
  pub joined-set : (ts : List (Seen T)) (k : ℕ) (u : Seen T) → k < length ts → join_items (set ts k u) ≡ join_items (take k ts) ++ (u.items ++ join_items (drop (k + 1) ts))
  joined-set ts k u lt =
      sym (joined-split (set ts k u) k) ∙ ap (λ (us : List (Seen T)). join_items us ++ join_items (drop k (set ts k u))) (take-set-le k ts k u (omega arith)) ∙ ap (λ (us : List (Seen T)). join_items (take k ts) ++ join_items us) (drop-set ts k u lt)

  pub placed_all : (ts : List (Seen T)) (k w : ℕ) (t u : Seen T) (m xs : List T) → k < length ts → IsPlaced w m t u → join_items (take k ts) ++ (m ++ join_items (drop (k + 1) ts)) ≡ xs → join_items (set ts k u) ≡ xs
  placed_all ts k w t u m xs lt p whole =
      joined-set ts k u lt ∙ ap (λ (zs : List T). join_items (take k ts) ++ (zs ++ join_items (drop (k + 1) ts))) p.items ∙ whole

  pub placed_child : (h : ℕ) (t u : Seen T) (m : List T) → IsChild h t → IsPlaced 6 m t u → IsChild h u
  placed_child h t u m c p = record {
    lower = ap (λ (n : ℕ). n + 1) p.height ∙ c.lower;
    wide = p.wide;
    narrow = p.narrow;
    many = p.many p.wide;
  }

  pub placed_node : (h w : ℕ) (s v : Seen T) (ts : List (Seen T)) (k : ℕ) (t u : Seen T) (m xs : List T) → k < length ts → All (IsChild h) ts → IsChild h t → length ts ≤ 12 → w ≤ length ts → IsPlaced 6 m t u → join_items (take k ts) ++ (m ++ join_items (drop (k + 1) ts)) ≡ xs → h ≡ s.height → v ≡ record { items = join_items (set ts k u); height = h; width = length (set ts k u) } → IsPlaced w xs s v
  placed_node h w s v ts k t u m xs lt a c narrow wide p whole height e =
      let count : length (set ts k u) ≡ length ts = length-set ts k u in
      let all : All (IsChild h) (set ts k u) = All-set (IsChild h) ts k u (placed_child h t u m c p) a in
      let new : IsPlaced w xs s (record { items = join_items (set ts k u); height = h; width = length (set ts k u) }) = record {
        items = placed_all ts k 6 t u m xs lt p whole;
        height = height;
        wide = omega (arith, count, wide);
        narrow = omega (arith, count, narrow);
        many = λ l. many_enough h (set ts k u) all l;
      } in
      subst (λ (z : Seen T). IsPlaced w xs s z) (sym e) new

module _ {S E N : Type 0} where
  -- the sum that is taken off is written where the change is made
  pub noted_done : (n len : ℕ) (s : S) (p : Placing (Vec S Global) E N) (sums rest : Vec S Global) (last : S) → p ≡ Done sums → sums.items ≡ rest.items ++ last ∷ [] → IsNoted n len n s last p (Done rest)
  noted_done n len s p sums rest last e f =
      rw e (λ xs x g. (refl, same_last rest.items xs sums.items last x f g, (rest, refl, same_front rest.items xs sums.items last x f g)))

  pub noted_split : (n len : ℕ) (s : S) (p : Placing (Vec S Global) E N) (a b : N) (sums rest : Vec S Global) (m : ℕ) → p ≡ Split a b sums → m ≡ length sums.items → rest.items ≡ take (m - 1) sums.items → IsNoted n len len s s p (Split a b rest)
  noted_split n len s p a b sums rest m e f g = rw e (refl, refl, λ xs x h. (rest, refl, popped xs sums.items rest.items m x f g h))

module _ {S T : Type 0} where
  pub placing_moved : {E : Type 0} (h : ℕ) (ss zs : List S) (ts us : List (Seen T)) (xs vs ys : List T) (new : Seen T) (r : Result (Placing (Vec S Global) (Vec T Global) (Seen T)) E) → ss ≡ zs → us ≡ ts → vs ≡ xs → IsPlacingOr ss (length us) vs ys (inner_seen h us) new r → IsPlacingOr zs (length ts) xs ys (inner_seen h ts) new r
  placing_moved {E} h ss zs ts us xs vs ys new r e f g p =
      subst (λ (q : List S). IsPlacingOr q (length ts) xs ys (inner_seen h ts) new r) e (subst (λ (q : List (Seen T)). IsPlacingOr ss (length q) xs ys (inner_seen h q) new r) f (subst (λ (q : List T). IsPlacingOr ss (length us) q ys (inner_seen h us) new r) g p))

module _ {S T : Type 0} {empty : S} {op : S → S → S} {admits fits : S → Type 0} (laws : SummaryLaws empty op admits fits) (sum_of : T → S) (admitted : (x : T) → admits (sum_of x)) where
  -- the sum of all is that of the child and of what lies around it
  pub around_sum : (f m z all : List T) (a : Around S) → a.before ≡ fold empty op sum_of f → a.behind ≡ fold empty op sum_of z → f ++ (m ++ z) ≡ all → fold empty op sum_of all ≡ op (op a.before (fold empty op sum_of m)) a.behind
  around_sum f m z all a b c e =
      rw (b, c) (ap (fold empty op sum_of) (sym e ∙ sym (append_assoc f m z)) ∙ fold-append laws sum_of admitted (f ++ m) z ∙ ap (λ (s : S). op s (fold empty op sum_of z)) (fold-append laws sum_of admitted f m))

  pub around_fits : (f m z all : List T) (a : Around S) → a.before ≡ fold empty op sum_of f → f ++ (m ++ z) ≡ all → fits (fold empty op sum_of all) → fits (op a.before (fold empty op sum_of m))
  around_fits f m z all a b e h =
      rw b (subst fits (fold-append laws sum_of admitted f m) (fits_left laws sum_of admitted (f ++ m) z (subst (λ (us : List T). fits (fold empty op sum_of us)) (sym e ∙ sym (append_assoc f m z)) h)))
