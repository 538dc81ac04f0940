-- The order of stamps, as std's comparisons say it.
use Rattle.std.proofs.Common.{ℕ, ◌≡◌, refl, sym, arith, Ordering, Some, eq-eqb, ne_eqb, ap, true, false, ◌∙◌, inl, inr, ◌⊎◌}
use Rattle.std.proofs.lemmas.Bool.{lt-ltb, le-ltb, cases_Bool}
use Rattle.std.proofs.lemmas.Bool.Decides.{nat_tests}
use Rattle.std.specs.Ordering.{ordering_then, partial_ordering_then, is_some_and, is_gt, is_lt, is_eq, nat_cmp, ordering_reverse}
use Rattle.std.specs.declared.cmp.Ordering.TheVariants.{Less, Equal, Greater}
use Rattle.std.proofs.lemmas.Map.Lookups.{CmpEqualImpliesEq, exact_pairs, exact_unsigned}
use Rattle.std.proofs.lemmas.Cmp.{alike_right}
use Rattle.lamport_clock.specs.declared.stamp.Lamport.{Lamport}
use Rattle.lamport_clock.specs.Stamps.{stamp_cmp, later, same_stamp, stamp_order}
use Rattle.lamport_clock.proofs.Raises.{by_order}

pub gt-partial : (o p : Ordering) → is_some_and is_gt (partial_ordering_then (Some o) (Some p)) ≡ is_gt (ordering_then o p)
gt-partial Less p = refl
gt-partial Equal p = refl
gt-partial Greater p = refl

pub stamp_cmp-refl : (s : Lamport) → stamp_cmp s s ≡ Equal
stamp_cmp-refl s = rw (le-ltb s.value s.value (omega arith), eq-eqb s.value s.value refl, le-ltb s.replica s.replica (omega arith), eq-eqb s.replica s.replica refl) refl

pub is_gt-later : (s t : Lamport) → is_gt (stamp_cmp s t) ≡ later s t
unfolding later
is_gt-later s t =
    by_order _ s.value t.value
    (λ l. rw (lt-ltb s.value t.value l, le-ltb t.value s.value (omega arith), ne_eqb t.value s.value (λ q. absurd (omega arith))) refl)
    (λ q. rw (le-ltb s.value t.value (omega arith), le-ltb t.value s.value (omega arith), eq-eqb s.value t.value q, eq-eqb t.value s.value (sym q))
    (by_order _ s.replica t.replica
    (λ l. rw (lt-ltb s.replica t.replica l, le-ltb t.replica s.replica (omega arith)) refl)
    (λ p. rw (le-ltb s.replica t.replica (omega arith), le-ltb t.replica s.replica (omega arith), eq-eqb s.replica t.replica p) refl)
    (λ g. rw (le-ltb s.replica t.replica (omega arith), lt-ltb t.replica s.replica g, ne_eqb s.replica t.replica (λ q. absurd (omega arith))) refl)))
    (λ g. rw (le-ltb s.value t.value (omega arith), lt-ltb t.value s.value g, ne_eqb s.value t.value (λ q. absurd (omega arith))) refl)

pub is_eq-same : (s t : Lamport) → is_eq (stamp_cmp s t) ≡ same_stamp s t
unfolding same_stamp
is_eq-same s t =
    by_order _ s.value t.value
    (λ l. rw (lt-ltb s.value t.value l, ne_eqb s.value t.value (λ q. absurd (omega arith))) refl)
    (λ q. rw (le-ltb s.value t.value (omega arith), eq-eqb s.value t.value q)
    (by_order _ s.replica t.replica
    (λ l. rw (lt-ltb s.replica t.replica l, ne_eqb s.replica t.replica (λ q. absurd (omega arith))) refl)
    (λ p. rw (le-ltb s.replica t.replica (omega arith), eq-eqb s.replica t.replica p) refl)
    (λ g. rw (le-ltb s.replica t.replica (omega arith), ne_eqb s.replica t.replica (λ q. absurd (omega arith))) refl)))
    (λ g. rw (le-ltb s.value t.value (omega arith), ne_eqb s.value t.value (λ q. absurd (omega arith))) refl)

pub is_lt-later : (s t : Lamport) → is_lt (stamp_cmp s t) ≡ later t s
unfolding later
is_lt-later s t =
    by_order _ s.value t.value
    (λ l. rw (lt-ltb s.value t.value l) refl)
    (λ q. rw (le-ltb s.value t.value (omega arith), eq-eqb s.value t.value q)
    (by_order _ s.replica t.replica
    (λ l. rw (lt-ltb s.replica t.replica l) refl)
    (λ p. rw (le-ltb s.replica t.replica (omega arith), eq-eqb s.replica t.replica p) refl)
    (λ g. rw (le-ltb s.replica t.replica (omega arith), ne_eqb s.replica t.replica (λ q. absurd (omega arith))) refl)))
    (λ g. rw (le-ltb s.value t.value (omega arith), ne_eqb s.value t.value (λ q. absurd (omega arith))) refl)

pub same_sym : (s t : Lamport) → same_stamp s t ≡ same_stamp t s
unfolding same_stamp
same_sym s t = grind (arith, nat_tests)

-- stamps that compare alike are one
pub exact_stamps : CmpEqualImpliesEq stamp_cmp
exact_stamps s t h = ap (λ (p : ℕ × ℕ). record { value = p.0; replica = p.1 }) (exact_pairs nat_cmp nat_cmp exact_unsigned exact_unsigned (s.value, s.replica) (t.value, t.replica) h)

-- what is at most something earlier than t is earlier than t
pub earlier_still : (s u t : Lamport) → is_gt (stamp_cmp s u) ≡ false → is_lt (stamp_cmp u t) ≡ true → is_lt (stamp_cmp s t) ≡ true
earlier_still s u t g l = go (stamp_cmp s u) (stamp_cmp u t) refl refl g l
  where
    go : (a b : Ordering) → stamp_cmp s u ≡ a → stamp_cmp u t ≡ b → is_gt a ≡ false → is_lt b ≡ true → is_lt (stamp_cmp s t) ≡ true
    go Less Less p q g l = ap is_lt (stamp_order.trans s u t p q)
    go Equal Less p q g l = ap is_lt (stamp_order.congr s u t p ∙ q)
    go Greater b p q g l = cc
    go Less Equal p q g l = cc
    go Less Greater p q g l = cc
    go Equal Equal p q g l = cc
    go Equal Greater p q g l = cc

pub is_equal : (o : Ordering) → is_eq o ≡ true → o ≡ Equal
is_equal Less h = cc
is_equal Equal h = refl
is_equal Greater h = cc

pub one_of_three : (o : Ordering) → is_lt o ≡ false → is_eq o ≡ false → is_gt o ≡ false → ⊥
one_of_three Less a b c = cc
one_of_three Equal a b c = cc
one_of_three Greater a b c = cc

-- what is at least something later than t is not t
pub later_still : (s u t : Lamport) → is_lt (stamp_cmp s t) ≡ false → is_eq (stamp_cmp s t) ≡ false → is_gt (stamp_cmp s u) ≡ false → is_eq (stamp_cmp u t) ≡ false
later_still s u t l e g = go (cases_Bool (is_eq (stamp_cmp u t)))
  where
    go : (is_eq (stamp_cmp u t) ≡ true) ⊎ (is_eq (stamp_cmp u t) ≡ false) → is_eq (stamp_cmp u t) ≡ false
    go (inr f) = f
    go (inl q) = absurd (one_of_three (stamp_cmp s t) l e (ap is_gt (sym (alike_right stamp_order u t s (is_equal _ q))) ∙ g))

-- stamps that are the same compare as equal
pub same_Equal : (s t : Lamport) → same_stamp s t ≡ true → stamp_cmp s t ≡ Equal
same_Equal s t h = is_equal _ (is_eq-same s t ∙ h)

pub same_both_Equal : (s t u : Lamport) → same_stamp s t ≡ true → same_stamp u t ≡ true → stamp_cmp s u ≡ Equal
same_both_Equal s t u h k = stamp_order.congr s t u (same_Equal s t h) ∙ stamp_order.antisymm t u ∙ ap ordering_reverse (same_Equal u t k)

pub less_apart : (t u : Lamport) → stamp_cmp t u ≡ Less → same_stamp u t ≡ false
less_apart t u h = sym (is_eq-same u t) ∙ ap is_eq (stamp_order.antisymm u t ∙ ap ordering_reverse h)

pub never_less : (s : Lamport) → is_lt (stamp_cmp s (record { value = 0; replica = 0 })) ≡ false
never_less s = grind arith
