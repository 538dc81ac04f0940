-- The greatest count of the entries that pass.
use Rattle.std.proofs.Common.{◌≡◌, ℕ, max, Bool, true, false, cond, List, [], ◌∷◌, ◌++◌, refl, ap, arith}
use Rattle.std.specs.Ordering.{is_lt, is_eq, is_gt}
use Rattle.std.specs.declared.cmp.Ordering.TheVariants.{Less, Equal, Greater}
use Rattle.sum_tree.specs.Keyed.{below, above}
use Rattle.undo_map.specs.declared.entry.UndoKey.{UndoKey}
use Rattle.undo_map.specs.declared.entry.UndoEntry.{UndoEntry}
use Rattle.undo_map.specs.Counts.{key_of, key_cmp, greatest, count_at_key, with_count}
use Rattle.lamport_clock.proofs.Order.{stamp_cmp-refl}

-- what one entry adds
abbrev pub adds : (UndoEntry → Bool) → UndoEntry → ℕ
adds p e = cond (p e) e.count 0

pub greatest-cons : (p : UndoEntry → Bool) (e : UndoEntry) (w : List UndoEntry) → greatest p (e ∷ w) ≡ max (adds p e) (greatest p w)
greatest-cons p e w = elim (p e) as (λ b. cond b (max e.count (greatest p w)) (greatest p w) ≡ max (cond b e.count 0) (greatest p w)) [
  | true ↦ refl
  | false ↦ omega arith
]

pub greatest-append : (p : UndoEntry → Bool) (v w : List UndoEntry) → greatest p (v ++ w) ≡ max (greatest p v) (greatest p w)
greatest-append p [] w = omega arith
greatest-append p (e ∷ v) w = let a = greatest-cons p e (v ++ w) in let b = greatest-cons p e v in let ih = greatest-append p v w in omega arith

-- a test of entries that looks at their keys alone
abbrev pub OfKeys : (UndoEntry → Bool) → Type 0
OfKeys p = (e f : UndoEntry) → is_eq (key_cmp (key_of e) (key_of f)) ≡ true → p e ≡ p f

-- the entries below and above a key, and those at it
parted : (p : UndoEntry → Bool) (e : UndoEntry) (w : List UndoEntry) → OfKeys p
    → max (greatest p (below key_cmp key_of (key_of e) w)) (max (cond (p e) (max e.count (count_at_key (key_of e) w)) 0) (greatest p (above key_cmp key_of (key_of e) w))) ≡ max (greatest p w) (adds p e)
parted p e [] o = elim (p e) as (λ b. max 0 (max (cond b (max e.count 0) 0) 0) ≡ max 0 (cond b e.count 0)) [ true ↦ omega arith | false ↦ omega arith ]
parted p e (f ∷ w) o =
    let ih = parted p e w o in
    let eq : UndoEntry → Bool = λ g. is_eq (key_cmp (key_of g) (key_of e)) in
    let c = greatest-cons p f w in
    let B : List UndoEntry = below key_cmp key_of (key_of e) w in
    let A : List UndoEntry = above key_cmp key_of (key_of e) w in
    let fb = greatest-cons p f B in
    let fa = greatest-cons p f A in
    elim (key_cmp (key_of f) (key_of e)) as (λ r. key_cmp (key_of f) (key_of e) ≡ r → max (greatest p (cond (is_lt r) (f ∷ B) B)) (max (cond (p e) (max e.count (cond (is_eq r) (max f.count (greatest eq w)) (greatest eq w))) 0) (greatest p (cond (is_gt r) (f ∷ A) A))) ≡ max (greatest p (f ∷ w)) (adds p e)) [
      | Less ↦ λ q. omega arith
      | Equal ↦ λ q. both (p e) (p f) (o f e (ap is_eq q)) e.count f.count (greatest eq w) (greatest p B) (greatest p A) (greatest p w) (greatest p (f ∷ w)) ih c
      | Greater ↦ λ q. omega arith
    ] refl
  where
    both : (b d : Bool) → d ≡ b → (ce cf g x y w t : ℕ) → max x (max (cond b (max ce g) 0) y) ≡ max w (cond b ce 0) → t ≡ max (cond d cf 0) w → max x (max (cond b (max ce (max cf g)) 0) y) ≡ max t (cond b ce 0)
    both true true q ce cf g x y w t h k = omega arith
    both true false q ce cf g x y w t h k = cc
    both false true q ce cf g x y w t h k = cc
    both false false q ce cf g x y w t h k = omega arith

tied : (k : UndoKey) → is_eq (key_cmp k k) ≡ true
tied k = rw (stamp_cmp-refl k.edit, stamp_cmp-refl k.by) refl

-- the greatest counts after one more is kept
pub greatest-with_count : (p : UndoEntry → Bool) (e : UndoEntry) (w : List UndoEntry) → OfKeys p → greatest p (with_count e w) ≡ max (greatest p w) (adds p e)
greatest-with_count p e w o =
    let m : UndoEntry = record e { count = max e.count (count_at_key (key_of e) w) } in
    let B : List UndoEntry = below key_cmp key_of (key_of e) w in
    let A : List UndoEntry = above key_cmp key_of (key_of e) w in
    let a = greatest-append p B (m ∷ A) in
    let b = greatest-cons p m A in
    let same : p m ≡ p e = o m e (tied (key_of e)) in
    let c : adds p m ≡ cond (p e) (max e.count (count_at_key (key_of e) w)) 0 = ap (λ d. cond d (max e.count (count_at_key (key_of e) w)) 0) same in
    let d = parted p e w o in
    omega (arith, a, b, c, d)
