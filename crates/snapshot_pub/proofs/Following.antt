-- Each step of a pair keeps its rule.
use Rattle.std.proofs.Common.{◌≡◌, ◌≢◌, ℕ, Bool, true, false, List, [], ◌∷◌, ◌++◌, length, set, sym, refl, ap, ◌∙◌, subst, inl, inr, ⊎_elim, arith, get_or}
use mathlib.Core.Option.{some, some-ne-none}
use lib.ListN.{get_elem?}
use lib.Dec.{leb}
use Rattle.std.specs.List.{All}
use Rattle.std.proofs.lemmas.Bool.Decides.{nat_tests}
use Rattle.std.proofs.lemmas.List.Elements.{All-cons, All-map, All-nil}
use Rattle.crossbeam_utils.specs.Register.{Admits, TurnsAt, Forks, Merges}
use Rattle.atomic_table.proofs.Lists.{at_set, at_snoc}
use Rattle.op_model.specs.declared.operation.Operation.{Operation}
use Rattle.op_model.proofs.Elements.{All-single}
use Rattle.snapshot_pub.specs.declared.kept.Kept.{Kept}
use Rattle.logbook.specs.Pages.{Named}
use Rattle.text_buffer.specs.Document.{IsFront}
use Rattle.snapshot_pub.specs.Rule.{AreOf, Follows, IsSeen, KeepsAll, MaySee, Sees, kept_pair}
use Rattle.snapshot_pub.specs.Fields.{seen_lists}
use Rattle.snapshot_pub.specs.States.{SeesMore}
use Rattle.text_buffer.proofs.Fronts.{front_itself, front_trans}

pub follows_itself : (x : Kept) → Follows x x
follows_itself x = (refl, front_itself x.snapshot)

-- what follows y follows each one that y follows
pub all_follow : (x y : Kept) → Follows y x → (v : List Kept) → All (Follows x) v → All (Follows y) v
all_follow x y up v h k d below = let f = h k d below in (f.0 ∙ up.0, front_trans (get_or v k d).snapshot x.snapshot y.snapshot f.1 up.1)

-- one party's view is another one
keeps_set : (x : Kept) (views : List (List Kept)) (seat : ℕ) (w : List Kept) → KeepsAll x views → All (Follows x) w → KeepsAll x (set views seat w)
keeps_set x views seat w h mine j u e =
    ⊎_elim (λ (t : (j ≡ seat) × (w ≡ u)). subst (λ (z : List Kept). All (Follows x) z) t.1 mine) (λ (t : (j ≢ seat) × (get_elem? views j ≡ some u)). h j u t.1) (at_set views seat j w u e)

-- one party more
keeps_more : (x : Kept) (views : List (List Kept)) (w : List Kept) → KeepsAll x views → All (Follows x) w → KeepsAll x (views ++ w ∷ [])
keeps_more x views w h mine j u e = ⊎_elim (h j u) (λ (t : w ≡ u). subst (λ (z : List Kept). All (Follows x) z) t mine) (at_snoc views w u j e)

pub begins : (x : Kept) → KeepsAll x ([] ∷ [])
begins x = keeps_more x [] [] (λ j u e. absurd (some-ne-none u (sym e))) (All-nil (Follows x))

pub admits : Admits KeepsAll []
admits x views h = keeps_more x views [] h (All-nil (Follows x))

-- what is shown goes from x to y, which follows it, and the party sees w
sees : (seat : ℕ) (x y : Kept) → Follows y x → (views : List (List Kept)) (w : List Kept) → KeepsAll x views → All (Follows y) w → KeepsAll y (set views seat w)
sees seat x y up views w h mine = keeps_set y views seat w (λ j u e. all_follow x y up u (h j u e)) mine

-- the writer keeps y alone
pub shows : (seat : ℕ) (v : List Kept) (x y : Kept) → Follows y x → TurnsAt KeepsAll seat v x y (λ _ _ y w. w ≡ y ∷ [])
shows seat v x y up views h at = (
  y ∷ [],
  sees seat x y up views (y ∷ []) h (All-single (Follows y) y (follows_itself y)),
  refl,
)

-- a reader keeps all that it saw
pub turns : (n seat : ℕ) (v : List Kept) (x : Kept) → TurnsAt KeepsAll seat v x x (λ v _ y w. Sees n v y w)
turns n seat v x views h at = by_length (leb n (length x.snapshot)) refl
  where
    mine : All (Follows x) v
    mine = h seat v at

    by_length : (b : Bool) → leb n (length x.snapshot) ≡ b → (w : List Kept) × KeepsAll x (set views seat w) × Sees n v x w
    by_length true is = (x ∷ v, sees seat x x (follows_itself x) views (x ∷ v) h (All-cons (Follows x) x v (follows_itself x) mine), (mine, (λ le. refl), (λ lt. absurd (grind (arith, nat_tests)))))
    by_length false is = (v, sees seat x x (follows_itself x) views v h mine, (mine, (λ le. absurd (grind (arith, nat_tests))), (λ lt. refl)))

pub forks : (seat : ℕ) (v : List Kept) → Forks KeepsAll seat v v v
forks seat v x views h at = let mine = h seat v at in keeps_more x (set views seat v) v (keeps_set x views seat v h mine) mine

pub merges : (seat : ℕ) (v : List Kept) (other : ℕ) (w : List Kept) → Merges KeepsAll seat v other w w []
merges seat v other w x views h at apart there =
    let theirs : All (Follows x) w = ⊎_elim (λ (t : (other ≡ seat) × (w ≡ w)). absurd (apart t.0)) (λ (t : (other ≢ seat) × (get_elem? views other ≡ some w)). h other w t.1)
    (at_set views seat other w w there) in
    keeps_set x (set views seat w) other [] (keeps_set x views seat w h theirs) (All-nil (Follows x))

pub sees_also : (n : ℕ) (v u w z : List Kept) (x y : Kept) → Sees n v x w → u ≡ v → y ≡ x → z ≡ w → Sees n u y z
sees_also n v u w z x y h d e f = subst (λ (p : List Kept × Kept × List Kept). Sees n p.0 p.1 p.2) (λ i. (sym d i, sym e i, sym f i)) h

-- what has no fewer operations is seen, and what has fewer is not
pub may_see : (n : ℕ) (v w : List Kept) (y : Kept) → Sees n v y w → MaySee v w
may_see n v w y h = by_length (leb n (length y.snapshot)) refl
  where
    by_length : (b : Bool) → leb n (length y.snapshot) ≡ b → MaySee v w
    by_length true is = record { either = inr (y, record { follows = h.0; is = h.1 (grind (arith, nat_tests)) }) }
    by_length false is = record { either = inl (h.2 (grind (arith, nat_tests))) }

-- where the view is seen as lists
pub lists_seen : (v w : List Kept) (k : Kept) → IsSeen v k w → SeesMore (seen_lists v) (seen_lists w)
lists_seen v w k h = inr (k.snapshot, All-map (λ (x : List Operation). IsFront x k.snapshot) (λ (x : Kept). x.snapshot) v (λ j d below. (h.follows j d below).1), ap seen_lists h.is)

pub lists_may : (v w : List Kept) → MaySee v w → SeesMore (seen_lists v) (seen_lists w)
lists_may v w h = ⊎_elim (λ (e : w ≡ v). inl (ap seen_lists e)) (λ (t : (k : Kept) × IsSeen v k w). lists_seen v w t.0 t.1) h.either

-- what was seen alone is of its own pair
pub own_one : (k : Kept) → AreOf (kept_pair k) (k ∷ [])
own_one k = (omega arith, All-single (λ (x : Kept). kept_pair x ≡ kept_pair k) k refl)

-- what is seen is of the pair of what was seen before
pub seen_pair : (v w : List Kept) (k : Kept) (b : Named) → AreOf b v → IsSeen v k w → kept_pair k ≡ b
seen_pair v w k b own h = sym (h.follows 0 k own.0).0 ∙ own.1 0 k own.0

pub seen_own : (v w : List Kept) (k : Kept) (b : Named) → AreOf b v → IsSeen v k w → AreOf b w
seen_own v w k b own h =
    subst (λ (l : List Kept). AreOf b l) (sym h.is) (omega arith, All-cons (λ (x : Kept). kept_pair x ≡ b) k v (seen_pair v w k b own h) own.1)

pub may_own : (v w : List Kept) (b : Named) → AreOf b v → MaySee v w → AreOf b w
may_own v w b own h = ⊎_elim (λ (e : w ≡ v). subst (λ (l : List Kept). AreOf b l) (sym e) own) (λ (t : (k : Kept) × IsSeen v k w). seen_own v w t.0 b own t.1) h.either

-- what follows all that was seen is of the same pair
pub own_book : (b : Named) (v : List Kept) (y : Kept) → AreOf b v → All (Follows y) v → b ≡ kept_pair y
own_book b v y own h = sym (own.1 0 y own.0) ∙ (h 0 y own.0).0
