-- How many queries lines have.
use Rattle.std.proofs.Common.{ℕ, [], ◌≤◌, arith, ◌≡◌, ◌+◌, cond, List, ◌∷◌, Bool, true, false, length}
use Rattle.std.proofs.lemmas.List.Sums.{sum_by-cons}
use Rattle.std.specs.Prelude.{nat_le}
use Rattle.std.proofs.lemmas.Bool.{and_from, le-leb}
use Rattle.session_lines.specs.Session.{is_query, query_count, is_number_of}
use Rattle.session_lines.specs.declared.session.SessionLine.{SessionLine}

pub none_asked : 0 ≤ 0
none_asked = omega arith

pub count_cons : (l : SessionLine) (ls : List SessionLine) → query_count (l ∷ ls) ≡ cond (is_query l) 1 0 + query_count ls
count_cons l ls = sum_by-cons (λ (k : SessionLine). cond (is_query k) 1 0) l ls

pub one_at_most : (b : Bool) → cond b 1 0 ≤ 1
one_at_most true = let le : 1 ≤ 1 = omega arith in le
one_at_most false = let le : 0 ≤ 1 = omega arith in le

-- no more queries than lines
pub counts_within : (ls : List SessionLine) → query_count ls ≤ length ls
counts_within [] = none_asked
counts_within (l ∷ ls) = omega (arith, count_cons l ls, one_at_most (is_query l), counts_within ls)

pub numbered_one : (count m : ℕ) → 1 ≤ m → m ≤ count → is_number_of count m ≡ true
numbered_one count m low high = and_from (nat_le 1 m) (nat_le m count) (le-leb 1 m low) (le-leb m count high)
