-- Known bytes that move in several pieces.
use Rattle.std.proofs.Common.{◌≡◌, ℕ, ◌+◌, ◌-◌, ◌<◌, List, ◌++◌, length, take, drop, refl, sym, ap, ◌∙◌, subst, arith, None, Some, Option, length-append, append-nil}
use Rattle.session_io.specs.Traffic.{Moves, Had}
use Rattle.std.specs.Io.KnownBytes.{Appends, Consumes, IsAtEnd}
use Rattle.std.proofs.KnownBytes.{Appends-trans}
use Rattle.std.proofs.Math.Seq.{take-add}
use Rattle.std.proofs.lemmas.List.{nil_from_length, take_rest}

pub more_written : (a b c : Option (List ℕ)) (text : List ℕ) (i n : ℕ) → Appends a b (take i text) → Appends b c (take n (take (length text - i) (drop i text))) → Appends a c (take (i + n) text)
more_written a b c text i n p q = subst (Appends a c) (ap (λ l. take i text ++ take n l) (take_rest text i) ∙ sym (take-add i n text)) (Appends-trans a b c _ _ p q)

-- nothing more was read
pub none_read : (all all_after : List ℕ) (b c : Option (List ℕ)) (n : ℕ) → n ≡ 0 → Moves b c all all_after n → (all_after ≡ all) × IsAtEnd c
none_read all all_after b c n z m = (m.added ∙ ap (λ l. all ++ l) (nil_from_length m.bytes (m.count ∙ z)) ∙ append-nil all, m.end z)

pub some_input : (a b : Option (List ℕ)) (all : List ℕ) (n : ℕ) → Consumes a b all → n < length all → (input : List ℕ) × Had a input × (n < length input)
some_input None b all n p h = (all, tt, h)
some_input (Some x) None all n p h = absurd p
some_input (Some x) (Some y) all n p h = (x, refl, omega (arith, ap length p, length-append all y))
