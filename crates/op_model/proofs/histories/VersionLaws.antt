-- What the version and the clock of a lawful history say of its operations.
use Rattle.op_model.proofs.Elements.{each_map, each_both}
use Rattle.std.proofs.Common.{◌≡◌, ℕ, ◌+◌, ◌<◌, ◌≤◌, ◌⊎◌, max, min, Bool, List, [], ◌∷◌, ◌++◌, refl, sym, ap, subst, inl, inr, true, false, eqb, ltb, leb, arith}
use Rattle.std.proofs.lemmas.Bool.{cases_Bool, eqb-true, ltb-false, le-leb, cases_lt}
use Rattle.std.proofs.lemmas.Bool.Decides.{nat_tests}
use Rattle.std.specs.List.{AllByRecursion}
use Rattle.lamport_clock.specs.declared.stamp.Lamport.{Lamport}
use Rattle.lamport_clock.specs.Clocks.{clock_after, last_value}
use Rattle.lamport_clock.specs.Versions.{Entries, IsVersion, entry, sees, within}
use Rattle.lamport_clock.proofs.Entries.{raise_version}
use Rattle.op_model.specs.declared.operation.Operation.{Operation}
use Rattle.op_model.specs.Operations.{stamp_of, version_of, last_replica}
use Rattle.op_model.specs.Histories.{History, In, version, clock_from, clock, kept_history, seen_history}
use Rattle.op_model.specs.Answers.{answer, bad_stamp}
use Rattle.op_model.specs.Answers.Answer.{Good}
use Rattle.op_model.specs.Lawful.{Lawful, LawfulFrom}
use Rattle.op_model.proofs.histories.Lawful.{greatest, entry_version, greatest_in, greatest_more, each_of_in}
use Rattle.op_model.proofs.answers.Passed.{passed, shaped, find_none, stamp_tests}
use Rattle.op_model.proofs.histories.MoreLawful.{each_of_lawful}
use Rattle.op_model.proofs.answers.Good.{positive}

-- ---- the clock

below_end : (x : ℕ) → min x last_value < last_value → min x last_value ≡ x
below_end x h = omega arith

pub clock_above : (c : ℕ) (h : History) → clock_from c h < last_value → (c ≤ clock_from c h) × AllByRecursion (λ (o : Operation). (stamp_of o).value < clock_from c h) h
clock_above c [] l = (omega arith, tt)
clock_above c (o ∷ h) l =
    let n : ℕ = clock_after c (stamp_of o).value in
    let ih = clock_above n h l in
    let a = ih.0 in
    let e : n ≡ max c (stamp_of o).value + 1 = below_end (max c (stamp_of o).value + 1) (omega arith) in
    (omega arith, (omega arith, ih.1))

pub clock_most : (c : ℕ) (h : History) → c ≤ last_value → clock_from c h ≤ last_value
clock_most c [] l = l
clock_most c (o ∷ h) l = clock_most (clock_after c (stamp_of o).value) h (omega arith)

apart_end : (x : ℕ) → eqb x last_value ≡ false → x ≤ last_value → x < last_value
apart_end x e h = grind (arith, nat_tests)

pub clock_under : (h : History) → eqb (clock h) last_value ≡ false → clock h < last_value
clock_under h e = apart_end (clock h) e (clock_most 1 h (omega arith))

-- ---- stamps of a lawful history

-- the parts of a stamp and a version that a replica makes
pub record Stamped (op : Operation) : Type 0 where
  pub some : 0 < (stamp_of op).value
  pub under : (stamp_of op).value < last_value
  pub author : 0 < (stamp_of op).replica
  pub small : (stamp_of op).replica ≤ last_replica
  pub ids : AllByRecursion (λ (x : ℕ × ℕ). ltb last_replica x.0 ≡ false) (version_of op)
  pub above : AllByRecursion (λ (x : ℕ × ℕ). leb (stamp_of op).value x.1 ≡ false) (version_of op)

pub stamped : (op : Operation) → (stamp_of op).value < 4294967296 → bad_stamp op ≡ false → Stamped op
stamped op l e =
    let t : Lamport = stamp_of op in
    let s = stamp_tests op e in
    record {
      some = positive t.value s.some;
      under = apart_end t.value s.under (omega arith);
      author = positive t.replica s.author;
      small = ltb-false last_replica t.replica s.small;
      ids = s.ids;
      above = s.above;
    }

-- no stamp value passes what its type holds
abbrev pub InRange : History → Type 0
InRange h = AllByRecursion (λ (o : Operation). (stamp_of o).value < 4294967296) h

-- all that LawfulFrom says of each operation on its own
pub each_lawful : (P : Operation → Type 0) (h : History) (ops : List Operation) → ((g : History) (o : Operation) → answer g [] o ≡ Good → P o) → LawfulFrom h ops → AllByRecursion P ops
each_lawful P h [] f l = tt
each_lawful P h (o ∷ ops) f l = (f h o l.0, each_lawful P (h ++ o ∷ []) ops f l.1)

pub shaped_good : (g : History) (o : Operation) → answer g [] o ≡ Good → bad_stamp o ≡ false
shaped_good g o e = (shaped o (passed g [] o e).shape).stamp

pub stamped_from : (h : History) (ops : List Operation) → InRange ops → LawfulFrom h ops → AllByRecursion Stamped ops
stamped_from h ops r l = each_both (λ (o : Operation). (stamp_of o).value < 4294967296) (λ (o : Operation). bad_stamp o ≡ false) Stamped (λ o a b. stamped o a b) ops r
    (each_lawful (λ (o : Operation). bad_stamp o ≡ false) h ops shaped_good l)

-- ---- the version

pub version_is : (h : History) → AllByRecursion (λ (o : Operation). ((stamp_of o).value < 4294967296) × ((stamp_of o).replica < 65536)) h → IsVersion (version h)
version_is [] e = tt
version_is (o ∷ h) e = raise_version (version h) (stamp_of o) e.0.0 e.0.1 (version_is h e.1)

-- an operation that has the greatest value
pub has_greatest : (h : History) (r : ℕ) → 0 < greatest h r → (m : Operation) × In h m × (stamp_of m ≡ record { value = greatest h r; replica = r })
has_greatest [] r p = absurd (omega arith)
has_greatest (o ∷ h) r p = go (cases_Bool (eqb (stamp_of o).replica r)) (cases_lt (greatest h r) (stamp_of o).value) (has_greatest h r)
  where
    is : (s : Lamport) (n q : ℕ) → s.value ≡ n → s.replica ≡ q → s ≡ record { value = n; replica = q }
    is s n q a b = λ i. record { value = a i; replica = b i }

    go : (eqb (stamp_of o).replica r ≡ true) ⊎ (eqb (stamp_of o).replica r ≡ false) → (greatest h r < (stamp_of o).value) ⊎ ((stamp_of o).value ≤ greatest h r)
        → (0 < greatest h r → (m : Operation) × In h m × (stamp_of m ≡ record { value = greatest h r; replica = r }))
        → (m : Operation) × In (o ∷ h) m × (stamp_of m ≡ record { value = greatest (o ∷ h) r; replica = r })
    go (inl e) (inl l) f = (o, inl refl, is (stamp_of o) (greatest (o ∷ h) r) r (rw e (omega arith)) (eqb-true (stamp_of o).replica r e))
    go (inl e) (inr l) f =
        let whole : greatest (o ∷ h) r ≡ greatest h r = rw e (omega arith) in
        let p2 : 0 < greatest h r = subst (λ (x : ℕ). 0 < x) whole p in
        let w = f p2 in (w.0, inr w.1, subst (λ (x : ℕ). stamp_of w.0 ≡ record { value = x; replica = r }) (sym whole) w.2)
    go (inr e) l f = let w = f (rw e at p) in (w.0, inr w.1, rw e w.2)

-- what an operation of a lawful history has seen is there
abbrev pub Caused : History → Operation → Type 0
Caused h o = AllByRecursion (λ (e : ℕ × ℕ). e.1 ≤ greatest h e.0) (version_of o)

caused_good : (h : History) (o : Operation) → answer h [] o ≡ Good → Caused h o
caused_good h o e = each_map (λ (x : ℕ × ℕ). ltb (entry (version h) x.0) x.1 ≡ false) (λ (x : ℕ × ℕ). x.1 ≤ greatest h x.0)
    (λ x n. subst (λ (y : ℕ). x.1 ≤ y) (entry_version h x.0) (ltb-false (entry (version h) x.0) x.1 n)) (version_of o)
    (find_none (λ x. ltb (entry (version h) x.0) x.1) (version_of o) (passed h [] o e).caused)

caused_more : (h : History) (op o : Operation) → Caused h o → Caused (h ++ op ∷ []) o
caused_more h op o c = each_map (λ (x : ℕ × ℕ). x.1 ≤ greatest h x.0) (λ (x : ℕ × ℕ). x.1 ≤ greatest (h ++ op ∷ []) x.0) (λ x n. (let g = greatest_more h op x.0 in omega arith)) (version_of o) c

pub lawful_caused : (h : History) → Lawful h → (o : Operation) → In h o → Caused h o
lawful_caused h l o i = each_of_lawful Caused (λ t. tt) (λ g op a. caused_more g op op (caused_good g op a)) caused_more h l o i

pub caused_within : (h : History) (o : Operation) → Caused h o → within (version_of o) (version h) ≡ true
caused_within h o c = go (version_of o) c
  where
    go : (v : Entries) → AllByRecursion (λ (e : ℕ × ℕ). e.1 ≤ greatest h e.0) v → within v (version h) ≡ true
    go [] e = refl
    go (x ∷ v) e = let n : leb x.1 (entry (version h) x.0) ≡ true = le-leb x.1 (entry (version h) x.0) (subst (λ (y : ℕ). x.1 ≤ y) (sym (entry_version h x.0)) e.0) in rw n (go v e.1)

-- the version of a history sees all of it
all_pass : (keep : Lamport → Bool) (h : History) → AllByRecursion (λ (o : Operation). keep (stamp_of o) ≡ true) h → kept_history keep h ≡ h
all_pass keep [] e = refl
all_pass keep (o ∷ h) e = rw e.0 (ap (λ (x : History). o ∷ x) (all_pass keep h e.1))

pub sees_own : (h : History) (o : Operation) → In h o → sees (version h) (stamp_of o) ≡ true
sees_own h o i = le-leb (stamp_of o).value (entry (version h) (stamp_of o).replica)
    (subst (λ (y : ℕ). (stamp_of o).value ≤ y) (sym (entry_version h (stamp_of o).replica)) (greatest_in h o i))

pub seen_all : (h : History) → seen_history h (version h) ≡ h
seen_all h = all_pass (sees (version h)) h (each_of_in (λ (o : Operation). sees (version h) (stamp_of o) ≡ true) h (sees_own h))
