-- Versions made of entries in any order: there are as many of them in the version exactly where no id is there twice.
use Rattle.std.proofs.Math.Bool.{and-true}
use Rattle.op_model.proofs.Elements.{and_swap}
use Rattle.std.proofs.Common.{◌≡◌, ℕ, suc, ◌+◌, ◌<◌, ◌≤◌, List, [], ◌∷◌, length, map, refl, sym, ap, ◌∙◌, subst, arith, Bool, true, false, cond, leb, ◌&&◌, ◌==◌, not, Option, None, Some, option_map, option_and_then, inl, inr, take, drop, zero}
use Rattle.std.specs.Prelude.{⊤}
use Rattle.std.specs.List.{list_all}
use Rattle.std.proofs.lemmas.Bool.{and_right, leb-true, cases_eq, ne_eqb, eq-eqb}
use Rattle.lamport_clock.specs.Clocks.{last_value}
use Rattle.lamport_clock.specs.declared.stamp.Lamport.{Lamport}
use Rattle.lamport_clock.specs.Versions.{Entries, IsVersion, entry, put_entry, raise, join_versions}
use Rattle.lamport_clock.proofs.Raises.{by_bound, raise_seen, raise_new, entry-put_at, entry-put_off}
use Rattle.lamport_clock.proofs.Entries.{IsVersion-put}
use Rattle.serde_json.specs.Data.{Data}
use Rattle.session_lines.specs.Json.{whole_number, members_of}
use Rattle.session_lines.specs.Parts.{all_of, id_of_value, clock_value, is_among, are_distinct, entry_with, entry_from, entry_of_value, IsEntry, AreReadEntries}
use Rattle.lamport_clock.proofs.Associative.{taken_twice}
use Rattle.lamport_clock.proofs.EntryLists.{length-raise_new, length-raise_old}

IsVersion-raise : (u : Entries) (e : ℕ × ℕ) → IsVersion u → IsEntry e → IsVersion (raise u (record { value = e.1; replica = e.0 }))
IsVersion-raise u e h v = by_bound _ e.1 (entry u e.0)
    (λ l. subst IsVersion (sym (raise_seen u (record { value = e.1; replica = e.0 }) l)) h)
    (λ l. subst IsVersion (sym (raise_new u (record { value = e.1; replica = e.0 }) l)) (IsVersion-put u e.0 e.1 v.0 v.1 v.2 h))

-- ---- and with several more

-- none of the entries is of an id that the version, or an entry before it, has
abbrev all_new : Entries → Entries → Bool
all_new u [] = true
all_new u (e ∷ es) = (entry u e.0 == 0) && all_new (raise u (record { value = e.1; replica = e.0 })) es

at_most_more : (u es : Entries) → IsVersion u → AreReadEntries es → length (join_versions u es) ≤ length u + length es
at_most_more u [] h v = omega arith
at_most_more u (e ∷ es) h v =
    let ih = at_most_more (raise u (record { value = e.1; replica = e.0 })) es (IsVersion-raise u e h v.0) v.1 in
    let positive = v.0.1 in
    by_bound _ (entry u e.0) 0
    (λ z. let k = length-raise_new u e h positive (omega arith) in omega arith)
    (λ p. let k = length-raise_old u e h p in omega arith)

as_many : (u es : Entries) → IsVersion u → AreReadEntries es → (length (join_versions u es) == length u + length es) ≡ all_new u es
as_many u [] h v = eq-eqb (length u) (length u + 0) (omega arith)
as_many u (e ∷ es) h v =
    let w : Entries = raise u (record { value = e.1; replica = e.0 }) in
    let more = IsVersion-raise u e h v.0 in
    let positive = v.0.1 in
    by_bound _ (entry u e.0) 0
    (λ z. let k = length-raise_new u e h positive (omega arith) in
    let same : length w + length es ≡ length u + suc (length es) = omega arith in
    ap (λ n. length (join_versions w es) == n) (sym same) ∙ as_many w es more v.1 ∙ sym (ap (λ b. b && all_new w es) (eq-eqb (entry u e.0) 0 (omega arith))))
    (λ p. let k = length-raise_old u e h p in
    let b = at_most_more w es more v.1 in
    ne_eqb (length (join_versions w es)) (length u + suc (length es)) (λ q. absurd (omega arith)) ∙ sym (ap (λ b. b && all_new w es) (ne_eqb (entry u e.0) 0 (λ q. absurd (omega arith)))))

-- ---- ids that are new

abbrev are_absent : Entries → List ℕ → Bool
are_absent u rs = list_all (λ r. entry u r == 0) rs

-- what a version has not with one entry more
absent-raise : (u : Entries) (e : ℕ × ℕ) (rs : List ℕ) → 0 < e.1 → entry u e.0 ≡ 0
    → are_absent (raise u (record { value = e.1; replica = e.0 })) rs ≡ (not (is_among rs e.0) && are_absent u rs)
absent-raise u e [] p z = refl
absent-raise u e (r ∷ rs) p z =
    let t : Lamport = record { value = e.1; replica = e.0 } in
    let put_there : raise u t ≡ put_entry e.0 e.1 u = raise_new u t (omega arith) in
    let ih = absent-raise u e rs p z in
    elim (cases_eq r e.0) [
      | inl q ↦
          let has : entry (raise u t) r ≡ e.1 = ap (λ w. entry w r) put_there ∙ ap (entry (put_entry e.0 e.1 u)) q ∙ entry-put_at u e.0 e.1 in
          rw (ne_eqb (entry (raise u t) r) 0 (λ k. absurd (omega arith)), eq-eqb r e.0 q) refl
      | inr n ↦
          let off : entry (raise u t) r ≡ entry u r = ap (λ w. entry w r) put_there ∙ entry-put_off u e.0 e.1 r n in
          rw (ne_eqb r e.0 n, off, ih) (and_swap (entry u r == 0) (not (is_among rs e.0)) (are_absent u rs))
    ]

turn : (n d a : Bool) → (d && (n && a)) ≡ ((n && d) && a)
turn true d a = refl
turn false true a = refl
turn false false a = refl

all_new-distinct : (u es : Entries) → AreReadEntries es → all_new u es ≡ (are_distinct (map (λ e. e.0) es) && are_absent u (map (λ e. e.0) es))
all_new-distinct u [] v = refl
all_new-distinct u (e ∷ es) v =
    let w : Entries = raise u (record { value = e.1; replica = e.0 }) in
    let rs : List ℕ = map (λ e. e.0) es in
    let positive = v.0.1 in
    by_bound _ (entry u e.0) 0
    (λ z. let ih = all_new-distinct w es v.1 in
    let yes = eq-eqb (entry u e.0) 0 (omega arith) in
    let back = absent-raise u e rs positive (omega arith) in
    rw yes (ih ∙ ap (λ b. are_distinct rs && b) back ∙ turn (not (is_among rs e.0)) (are_distinct rs) (are_absent u rs)))
    (λ p. let no = ne_eqb (entry u e.0) 0 (λ q. absurd (omega arith)) in
    rw no (sym (and_right (not (is_among rs e.0) && are_distinct rs) false refl)))

all_absent : (rs : List ℕ) → are_absent [] rs ≡ true
all_absent [] = refl
all_absent (r ∷ rs) = all_absent rs

-- as many entries as were taken
pub length_of_join : (es : Entries) → AreReadEntries es → (length (join_versions [] es) == length es) ≡ are_distinct (map (λ e. e.0) es)
length_of_join es v =
    let none : length es ≡ 0 + length es = omega arith in
    ap (λ n. length (join_versions [] es) == n) none ∙ as_many [] es tt v ∙ all_new-distinct [] es v ∙ ap (λ b. are_distinct (map (λ e. e.0) es) && b) (all_absent (map (λ e. e.0) es)) ∙ and-true (are_distinct (map (λ e. e.0) es))

entries_take : (k : ℕ) (es : Entries) → AreReadEntries es → AreReadEntries (take k es) × AreReadEntries (drop k es)
entries_take zero es i = (tt, i)
entries_take (suc k) [] i = (tt, tt)
entries_take (suc k) (e ∷ es) i = let p = entries_take k es i.1 in ((i.0, p.0), p.1)

pub entries_front : (k : ℕ) (es front : Entries) → AreReadEntries es → front ≡ take k es → AreReadEntries front
entries_front k es front i e = subst AreReadEntries (sym e) (entries_take k es i).0

pub entries_back : (k : ℕ) (es back : Entries) → AreReadEntries es → back ≡ drop k es → AreReadEntries back
entries_back k es back i e = subst AreReadEntries (sym e) (entries_take k es i).1

pub halves : (k : ℕ) (es front back : Entries) → AreReadEntries es → front ≡ take k es → back ≡ drop k es → join_versions (join_versions [] front) (join_versions [] back) ≡ join_versions [] es
halves k es front back i f b = ap (λ x. join_versions (join_versions [] x) (join_versions [] back)) f ∙ ap (λ y. join_versions (join_versions [] (take k es)) (join_versions [] y)) b ∙ taken_twice k es

-- ---- what stands in a line

abbrev Below : ℕ → Option ℕ → Type 0
Below m None = ⊤
Below m (Some n) = n ≤ m

below : (m : ℕ) (o : Option ℕ) → Below m (option_and_then (λ n. cond (leb n m) (Some n) None) o)
below m None = tt
below m (Some n) = elim (leb n m) as (λ b. leb n m ≡ b → Below m (cond b (Some n) None)) [ true ↦ λ e. leb-true n m e | false ↦ λ e. tt ] refl

abbrev EntryOf : Option (ℕ × ℕ) → Type 0
EntryOf None = ⊤
EntryOf (Some e) = IsEntry e

with_both : (r v : Option ℕ) → Below 65535 r → Below last_value v → EntryOf (entry_with r v)
with_both None v a b = tt
with_both (Some id) None a b = tt
with_both (Some id) (Some x) a b = elim (leb 1 x) as (λ c. leb 1 x ≡ c → EntryOf (cond c (Some (id, x)) None)) [ true ↦ λ e. (let k = leb-true 1 x e in (omega arith, omega arith, omega arith)) | false ↦ λ e. tt ] refl

from_members : (ds : List Data) → EntryOf (entry_from ds)
from_members [] = tt
from_members (r ∷ []) = tt
from_members (r ∷ v ∷ []) = with_both (id_of_value r) (clock_value v) (below 65535 (whole_number r)) (below last_value (whole_number v))
from_members (r ∷ v ∷ d ∷ ds) = tt

from_list : (o : Option (List Data)) → EntryOf (option_and_then entry_from o)
from_list None = tt
from_list (Some ds) = from_members ds

abbrev EntriesOf : Option Entries → Type 0
EntriesOf None = ⊤
EntriesOf (Some es) = AreReadEntries es

one_more : (o : Option (ℕ × ℕ)) (p : Option Entries) → EntryOf o → EntriesOf p → EntriesOf (option_and_then (λ x. option_map (λ xs. x ∷ xs) p) o)
one_more None p a b = tt
one_more (Some e) None a b = tt
one_more (Some e) (Some es) a b = (a, b)

all_entries : (ds : List Data) → EntriesOf (all_of entry_of_value ds)
all_entries [] = tt
all_entries (d ∷ ds) = one_more (entry_of_value d) (all_of entry_of_value ds) (from_list (members_of d)) (all_entries ds)

pub entries_of : (ds : List Data) (es : Entries) → Some es ≡ all_of entry_of_value ds → AreReadEntries es
entries_of ds es e = subst EntriesOf (sym e) (all_entries ds)
