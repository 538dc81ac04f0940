-- Operations that are packed one after the other.
use Rattle.std.proofs.Common.{◌≡◌, ℕ, suc, ◌+◌, ◌<◌, ◌≤◌, Bool, true, false, cond, List, [], ◌∷◌, ◌++◌, append_assoc, append-nil, drop, drop-cons, get_or, length, map, Option, None, Some, Result, Ok, Err, refl, sym, ap, ap₂, ◌∙◌, arith}
use Rattle.std.specs.Prelude.{option_map}
use Rattle.std.specs.List.{find, flat_map}
use Rattle.std.proofs.lemmas.List.{drop_all}
use Rattle.op_model.specs.declared.operation.Operation.{Operation}
use Rattle.op_wire.specs.Spelling.{spelling}
use Rattle.session_lines.specs.Session.{unless}
use Rattle.record_lines.specs.Packing.{PackCause, PushCause, first_long, is_long, records_of}
use Rattle.record_lines.specs.declared.fault.PackFault.{PackFault}
use Rattle.record_lines.specs.declared.fault.PackFault.TheVariants.{Long, OutOfMemory}

-- the records after others
abbrev pub after_records : List ℕ → Result (List ℕ) ℕ → Result (List ℕ) ℕ
after_records out (Ok text) = Ok (out ++ text)
after_records out (Err n) = Err n

nothing_before : (r : Result (List ℕ) ℕ) → after_records [] r ≡ r
nothing_before (Ok text) = refl
nothing_before (Err n) = refl

two_before : (a b : List ℕ) (r : Result (List ℕ) ℕ) → after_records (a ++ b) r ≡ after_records a (after_records b r)
two_before a b (Ok text) = ap Ok (append_assoc a b text)
two_before a b (Err n) = refl

unless_after : (a b : List ℕ) (o : Option ℕ) → unless (a ++ b) o ≡ after_records a (unless b o)
unless_after a b None = refl
unless_after a b (Some n) = refl

pub records-start : (ops : List (ℕ × Operation)) (out : List ℕ) → out ≡ [] → records_of ops ≡ after_records out (records_of ops)
records-start ops out none = sym (ap (λ (o : List ℕ). after_records o (records_of ops)) none ∙ nothing_before (records_of ops))

-- an operation that has a record
pub records-more : (all : Result (List ℕ) ℕ) (out new : List ℕ) (p : ℕ × Operation) (ops : List (ℕ × Operation)) → all ≡ after_records out (records_of (p ∷ ops)) → is_long p.1 ≡ false → new ≡ out ++ spelling p.1 → all ≡ after_records new (records_of ops)
unfolding records_of
records-more all out new p ops is short more =
    let one : records_of (p ∷ ops) ≡ after_records (spelling p.1) (records_of ops) =
    ap (λ (b : Bool). unless (spelling p.1 ++ flat_map (λ q. spelling q.1) ops) (option_map (λ q. q.0) (cond b (Some p) (find (λ q. is_long q.1) ops)))) short
    ∙ unless_after (spelling p.1) (flat_map (λ q. spelling q.1) ops) (first_long ops) in
    is ∙ (ap (after_records out) one ∙ (sym (two_before out (spelling p.1) (records_of ops)) ∙ ap (λ (o : List ℕ). after_records o (records_of ops)) (sym more)))

-- one that has none
pub records-long : (all : Result (List ℕ) ℕ) (out : List ℕ) (p : ℕ × Operation) (ops : List (ℕ × Operation)) → all ≡ after_records out (records_of (p ∷ ops)) → is_long p.1 ≡ true → all ≡ Err p.0
unfolding records_of
records-long all out p ops is long =
    is ∙ ap (λ (b : Bool). after_records out (unless (flat_map (λ q. spelling q.1) (p ∷ ops)) (option_map (λ q. q.0) (cond b (Some p) (find (λ q. is_long q.1) ops))))) long

-- no more of them
pub records-end : (all : Result (List ℕ) ℕ) (out : List ℕ) (ops : List (ℕ × Operation)) → all ≡ after_records out (records_of ops) → ops ≡ [] → all ≡ Ok out
unfolding records_of
records-end all out ops is none = is ∙ (ap (λ (xs : List (ℕ × Operation)). after_records out (records_of xs)) none ∙ ap Ok (append-nil out))

-- ---- operations as they are found in a list

next_of : {A : Type 0} (xs : List A) (i : ℕ) (x : A) → i < length xs → x ≡ get_or xs i x → drop i xs ≡ x ∷ drop (i + 1) xs
next_of xs i x lt is =
    let e : suc i ≡ i + 1 = omega arith in
    drop-cons xs i x lt ∙ ap₂ (λ y (n : ℕ). y ∷ drop n xs) (sym is) e

module _ {A : Type 0} (read : A → ℕ × Operation) (xs : List A) (i : ℕ) (all : Result (List ℕ) ℕ) (out : List ℕ) (packs : all ≡ after_records out (records_of (map read (drop i xs)))) where
  pub packs-end : length xs ≤ i → all ≡ Ok out
  packs-end le = records-end all out (map read (drop i xs)) packs (ap (map read) (drop_all i xs le))

  module _ (x : A) (lt : i < length xs) (is : x ≡ get_or xs i x) where
    here : all ≡ after_records out (records_of (read x ∷ map read (drop (i + 1) xs)))
    here = packs ∙ ap (λ ys. after_records out (records_of (map read ys))) (next_of xs i x lt is)

    pub packs-more : (new : List ℕ) → is_long (read x).1 ≡ false → new ≡ out ++ spelling (read x).1 → all ≡ after_records new (records_of (map read (drop (i + 1) xs)))
    packs-more new short more = records-more all out new (read x) (map read (drop (i + 1) xs)) here short more

    pub packs-long : is_long (read x).1 ≡ true → all ≡ Err (read x).0
    packs-long long = records-long all out (read x) (map read (drop (i + 1) xs)) here long

pub pack-fault : (ops : List (ℕ × Operation)) (p : ℕ × Operation) (e : PackFault) → (is_long p.1 ≡ true → records_of ops ≡ Err p.0) → PushCause e p.0 p.1 → PackCause e ops
pack-fault ops p (Long n) long cause = long cause.1 ∙ ap Err (sym cause.0)
pack-fault ops p OutOfMemory long cause = tt
