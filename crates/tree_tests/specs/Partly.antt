-- A number that counts the items which lie in a set, where a sum of which only a part lies in it is too coarse.
use Rattle.std.specs.Prelude.{ℕ, ◌+◌, ◌-◌, Bool, cond, Option, Some, None, nat_eq}

module _ {C S : Type 0} (items : S → ℕ) (inside : C → S → ℕ) where
  abbrev pub partly : C × ℕ → S → Option (C × ℕ)
  partly p s = cond (nat_eq (inside p.0 s) (items s)) (Some (p.0, p.1 + items s)) (cond (nat_eq (inside p.0 s) 0) (Some (p.0, p.1)) None)

-- of so many items, those in the set: the odd ones, or the others
abbrev pub chosen_count : Bool → ℕ → ℕ → ℕ
chosen_count odd items odds = cond odd odds (items - odds)
