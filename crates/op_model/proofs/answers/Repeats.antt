-- The first edit that is named twice.
use Rattle.std.proofs.Common.{ℕ, [], ◌≡◌, Bool, cond, ◌||◌, List, ◌∷◌, refl, ◌∙◌, ap, Some, suc, ◌+◌, ◌<◌, length, get_or, take, drop, sym, drop-cons, arith, false, Option, true}
use Rattle.std.specs.List.{list_any}
use Rattle.std.proofs.lemmas.List.{take_more}
use Rattle.std.proofs.lemmas.List.Folds.{list_any-append}
use Rattle.lamport_clock.specs.declared.stamp.Lamport.{Lamport}
use Rattle.lamport_clock.specs.Stamps.{same_stamp}
use Rattle.op_model.specs.Made.{first_twice}

-- what stands before counts by what it contains
pub first_twice_same : (p q ts : List Lamport) → ((t : Lamport) → list_any (same_stamp t) p ≡ list_any (same_stamp t) q) → first_twice p ts ≡ first_twice q ts
first_twice_same p q [] e = refl
first_twice_same p q (t ∷ ts) e =
    ap (λ (b : Bool). cond b (Some t) (first_twice (t ∷ p) ts)) (e t)
    ∙ ap (cond (list_any (same_stamp t) q) (Some t)) (first_twice_same (t ∷ p) (t ∷ q) ts (λ u. ap (λ (b : Bool). same_stamp u t || b) (e u)))

pub or_other : (a b : Bool) → (a || (b || false)) ≡ (b || a)
or_other true true = refl
or_other true false = refl
or_other false true = refl
or_other false false = refl

-- one stamp more stands before
pub any_more : (t : Lamport) (s : List Lamport) (i : ℕ) (d : Lamport) → i < length s → list_any (same_stamp t) (take (i + 1) s) ≡ (same_stamp t (get_or s i d) || list_any (same_stamp t) (take i s))
any_more t s i d l = ap (list_any (same_stamp t)) (take_more s i d l) ∙ list_any-append (same_stamp t) (take i s) (get_or s i d ∷ []) ∙ or_other (list_any (same_stamp t) (take i s)) (same_stamp t (get_or s i d))

-- from one place to the next
pub at_place : (s : List Lamport) (i : ℕ) (d : Lamport) → i < length s
    → first_twice (take i s) (drop i s) ≡ cond (list_any (same_stamp (get_or s i d)) (take i s)) (Some (get_or s i d)) (first_twice (take (i + 1) s) (drop (i + 1) s))
at_place s i d l =
    let x : Lamport = get_or s i d in
    let e : suc i ≡ i + 1 = omega arith in
    ap (first_twice (take i s)) (drop-cons s i d l)
    ∙ ap (λ (k : ℕ). cond (list_any (same_stamp x) (take i s)) (Some x) (first_twice (x ∷ take i s) (drop k s))) e
    ∙ ap (cond (list_any (same_stamp x) (take i s)) (Some x)) (first_twice_same (x ∷ take i s) (take (i + 1) s) (drop (i + 1) s) (λ t. sym (any_more t s i d l)))

-- a stamp that does not stand before
pub goes_on : (s : List Lamport) (i : ℕ) (d : Lamport) (r : Option Lamport) (b : Bool) → i < length s → b ≡ list_any (same_stamp (get_or s i d)) (take i s) → b ≡ false
    → first_twice (take i s) (drop i s) ≡ r → first_twice (take (i + 1) s) (drop (i + 1) s) ≡ r
goes_on s i d r b l e f q =
    sym (at_place s i d l ∙ ap (λ (b : Bool). cond b (Some (get_or s i d)) (first_twice (take (i + 1) s) (drop (i + 1) s))) (sym e ∙ f)) ∙ q
