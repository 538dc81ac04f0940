-- Fronts of the list of a pair.
use Rattle.std.proofs.lemmas.Bool.Decides.{nat_tests}
use lib.Dec.{leb}
use Rattle.std.proofs.Common.{◌≡◌, ℕ, ◌<◌, ◌≤◌, Bool, true, false, MatchBool, if◌then◌else◌, List, [], ◌++◌, ◌==◌, length, refl, ap, sym, subst, ◌∙◌, arith}
use Rattle.std.proofs.lemmas.List.Concat.{flat_map-append}
use mathlib.Core.List.{IsPrefix}
use Rattle.op_model.specs.declared.operation.Operation.{Operation}
use Rattle.text_buffer.specs.Document.{IsFront}
use Rattle.text_buffer.proofs.Fronts.{front_shorter}
use Rattle.snapshot_pub.specs.declared.entry.Entry.{Entry}
use Rattle.snapshot_pub.specs.Logs.{list_of, log_list, root_of}

pub list_of-append : (root : ℕ) (a b : List Entry) → list_of root (a ++ b) ≡ list_of root a ++ list_of root b
list_of-append root a b = flat_map-append (λ (e : Entry). if e.root == root then e.added else []) a b

-- the list that a pair's entries made earlier is a front of the one that they make
pub list_of_front : (root : ℕ) (a log : List Entry) → IsPrefix a log → IsFront (list_of root a) (list_of root log)
list_of_front root a log p = (list_of root p.0, ap (list_of root) (sym p.1) ∙ list_of-append root a p.0)

-- of two lists that one pair had, the longer begins with the other
pub longer_begins : (a b log : List Entry) (xs ys : List Operation) → root_of b ≡ root_of a → IsPrefix a log → IsPrefix b log → log_list a ≡ xs → log_list b ≡ ys
    → MatchBool (leb (length ys) (length xs)) (IsFront ys xs) (IsFront xs ys)
longer_begins a b log xs ys same p q d e = by_length (leb (length ys) (length xs)) refl
  where
    all : List Operation
    all = list_of (root_of a) log

    one : IsFront xs all
    one = subst (λ (l : List Operation). IsFront l all) d (list_of_front (root_of a) a log p)

    other : IsFront ys all
    other = subst (λ (l : List Operation). IsFront l all) (ap (λ (r : ℕ). list_of r b) (sym same) ∙ e) (list_of_front (root_of a) b log q)

    by_length : (t : Bool) → leb (length ys) (length xs) ≡ t → MatchBool t (IsFront ys xs) (IsFront xs ys)
    by_length true is = front_shorter ys xs all other one (grind (arith, nat_tests))
    by_length false is = front_shorter xs ys all one other (grind (arith, nat_tests))

pub leb_cases : (m n : ℕ) → MatchBool (leb m n) (m ≤ n) (n < m)
leb_cases m n = by_length (leb m n) refl
  where
    by_length : (t : Bool) → leb m n ≡ t → MatchBool t (m ≤ n) (n < m)
    by_length true is = grind (arith, nat_tests)
    by_length false is = grind (arith, nat_tests)
