-- What the answer Good says, case by case.
use Rattle.std.proofs.Common.{◌≡◌, ℕ, ◌+◌, Bool, List, [], ◌∷◌, ◌++◌, length, map, refl, sym, ◌∙◌, ap, true, false, cond, ◌||◌, ltb, Some, None, Option, eqb, leb}
use Rattle.std.specs.Prelude.{option_map, unwrap_or}
use Rattle.std.specs.List.{AllByRecursion, find, list_any, position, position_from}
use Rattle.std.proofs.lemmas.Iterator.Adapters.{position_from-zero}
use Rattle.std.proofs.lemmas.Bool.{or_parts}
use Rattle.op_model.specs.declared.operation.Operation.{Operation}
use Rattle.op_model.specs.declared.operation.Piece.{Piece}
use Rattle.op_model.specs.declared.faults.OpFault.{OpFault}
use Rattle.op_model.specs.declared.faults.OpFault.TheVariants.{BadStamp, NoBase, TextLimit, Reversed, Overlap, Conflict, OpenVersion, PastEnd, InsideChar}
use Rattle.op_model.specs.Choice.{first_of, when}
use Rattle.op_model.specs.Operations.{version_of, pieces_of, counts_of, stamp_of, text_total, text_limit, last_replica}
use Rattle.op_model.specs.Histories.{History, seen_history}
use Rattle.op_model.specs.Edits.{is_reversed, overlap_from, is_past, is_inside}
use Rattle.op_model.specs.Shown.{full}
use Rattle.op_model.specs.Answers.{Answer, bad_stamp, no_base, shape_fault, any_equal, any_stamp, fork_fault, first_missing, open_replica, range_fault, count_fault, objections, objection, answer}
use Rattle.op_model.specs.Answers.Answer.{Good, Repeat, Waits, Refused}
use Rattle.lamport_clock.specs.Clocks.{last_value}
use Rattle.lamport_clock.specs.declared.stamp.Lamport.{Lamport}
use Rattle.lamport_clock.specs.Versions.{Entries}

pub first_none : {A : Type 0} (o : Option A) (r : List (Option A)) → first_of (o ∷ r) ≡ None → (o ≡ None) × (first_of r ≡ None)
first_none None r e = (refl, e)
first_none (Some x) r e = cc

pub all_none : {A : Type 0} (os : List (Option A)) → first_of os ≡ None → AllByRecursion (λ o. o ≡ None) os
all_none [] h = tt
all_none (None ∷ os) h = (refl, all_none os h)
all_none (Some x ∷ os) h = cc

pub first_past : {A : Type 0} (o : Option A) (r : List (Option A)) → o ≡ None → first_of (o ∷ r) ≡ first_of r
first_past None r e = refl
first_past (Some x) r e = cc

pub first_here : {A : Type 0} (o : Option A) (r : List (Option A)) (a : A) → o ≡ Some a → first_of (o ∷ r) ≡ Some a
first_here None r a e = cc
first_here (Some x) r a e = e

pub first_behind : {A : Type 0} (o : Option A) (r s : List (Option A)) → first_of r ≡ first_of s → first_of (o ∷ r) ≡ first_of (o ∷ s)
first_behind None r s e = e
first_behind (Some x) r s e = refl

-- the first of one list, else that of another
pub first_append : {A : Type 0} (r s : List (Option A)) → first_of (r ++ s) ≡ first_of (first_of r ∷ s)
first_append [] s = refl
first_append (None ∷ r) s = first_append r s
first_append (Some x ∷ r) s = refl

pub first_map : {A B : Type 0} (f : A → B) (r : List (Option A)) → first_of (map (option_map f) r) ≡ option_map f (first_of r)
first_map f [] = refl
first_map f (None ∷ r) = first_map f r
first_map f (Some x ∷ r) = refl

pub some_when : {A : Type 0} (b : Bool) (x : A) → b ≡ true → when b x ≡ Some x
some_when true x e = refl
some_when false x e = cc

pub first_alone : {A : Type 0} (a : Option A) → a ≡ first_of (a ∷ [])
first_alone None = refl
first_alone (Some x) = refl

pub map_none : {A B : Type 0} (f : A → B) (o : Option A) → option_map f o ≡ None → o ≡ None
map_none f None e = refl
map_none f (Some x) e = cc

pub none_map : {A B : Type 0} (f : A → B) (o : Option A) → o ≡ None → option_map f o ≡ None
none_map f None e = refl
none_map f (Some x) e = cc

pub when_none : {A : Type 0} (b : Bool) (a : A) → when b a ≡ None → b ≡ false
when_none true a e = cc
when_none false a e = refl

pub none_when : {A : Type 0} (b : Bool) (a : A) → b ≡ false → when b a ≡ None
none_when true a e = cc
none_when false a e = refl

-- where a choice gives nothing, its test is false
pub if_some : {A : Type 0} (b : Bool) (x : A) (o : Option A) → cond b (Some x) o ≡ None → (b ≡ false) × (o ≡ None)
if_some true x o e = cc
if_some false x o e = (refl, e)

-- no element passes where none is found
pub find_none : {A : Type 0} (t : A → Bool) (xs : List A) → find t xs ≡ None → AllByRecursion (λ x. t x ≡ false) xs
find_none t [] e = tt
find_none t (x ∷ xs) e = let n = if_some (t x) x (find t xs) e in (n.0, find_none t xs n.1)

pub none_find : {A : Type 0} (t : A → Bool) (xs : List A) → AllByRecursion (λ x. t x ≡ false) xs → find t xs ≡ None
none_find t [] e = refl
none_find t (x ∷ xs) e = rw e.0 (none_find t xs e.1)

from_none : {A : Type 0} (t : A → Bool) (i : ℕ) (xs : List A) → position_from t i xs ≡ None → AllByRecursion (λ x. t x ≡ false) xs
from_none t i [] e = tt
from_none t i (x ∷ xs) e = let n = if_some (t x) i (position_from t (i + 1) xs) e in (n.0, from_none t (i + 1) xs n.1)

none_from : {A : Type 0} (t : A → Bool) (i : ℕ) (xs : List A) → AllByRecursion (λ x. t x ≡ false) xs → position_from t i xs ≡ None
none_from t i [] e = refl
none_from t i (x ∷ xs) e = rw e.0 (none_from t (i + 1) xs e.1)

pub position_none : {A : Type 0} (t : A → Bool) (xs : List A) → position t xs ≡ None → AllByRecursion (λ x. t x ≡ false) xs
position_none t xs e = from_none t 0 xs (sym (position_from-zero t xs) ∙ e)

pub none_position : {A : Type 0} (t : A → Bool) (xs : List A) → AllByRecursion (λ x. t x ≡ false) xs → position t xs ≡ None
none_position t xs e = position_from-zero t xs ∙ none_from t 0 xs e

pub any_none : {A : Type 0} (t : A → Bool) (xs : List A) → list_any t xs ≡ false → AllByRecursion (λ x. t x ≡ false) xs
any_none t [] e = tt
any_none t (x ∷ xs) e = let n = or_parts (t x) (list_any t xs) e in (n.0, any_none t xs n.1)

pub none_any : {A : Type 0} (t : A → Bool) (xs : List A) → AllByRecursion (λ x. t x ≡ false) xs → list_any t xs ≡ false
none_any t [] e = refl
none_any t (x ∷ xs) e = rw e.0 (none_any t xs e.1)

-- what passes the test and is in the list
pub any_some : {A : Type 0} (t : A → Bool) (P : A → Type 0) (xs : List A) → ((x : A) → t x ≡ true → P x → ⊥) → AllByRecursion P xs → list_any t xs ≡ false
any_some t P [] f e = refl
any_some t P (x ∷ xs) f e = go (t x) refl (any_some t P xs f e.1)
  where
    go : (b : Bool) → t x ≡ b → list_any t xs ≡ false → (b || list_any t xs) ≡ false
    go true i j = absurd (f x i e.0)
    go false i j = j

-- none of the list is that answer
abbrev pub Not : Answer → List (Option Answer) → Type 0
Not a [] = Unit {0}
Not a (o ∷ r) = (o ≡ Some a → ⊥) × Not a r

pub first_other : (a : Answer) (r : List (Option Answer)) → Not a r → first_of r ≡ Some a → ⊥
first_other a [] n e = cc
first_other a (None ∷ r) n e = first_other a r n.1 e
first_other a (Some x ∷ r) n e = n.0 e

pub map_other : {A : Type 0} (a : Answer) (f : A → Answer) → ((x : A) → f x ≡ a → ⊥) → (o : Option A) → option_map f o ≡ Some a → ⊥
map_other a f n None e = cc
map_other a f n (Some x) e = let g : f x ≡ a = cc in n x g

pub when_other : (a : Answer) (b : Bool) (x : Answer) → (x ≡ a → ⊥) → when b x ≡ Some a → ⊥
when_other a true x n e = let g : x ≡ a = cc in n g
when_other a false x n e = cc

pub no_objection : (o : Option Answer) → (o ≡ Some Good → ⊥) → unwrap_or o Good ≡ Good → o ≡ None
no_objection None n e = refl
no_objection (Some a) n e = let g : Some a ≡ Some Good = ap Some e in absurd (n g)

-- the tests of a stamp that is not bad
pub record StampTests (op : Operation) : Type 0 where
  pub some : eqb (stamp_of op).value 0 ≡ false
  pub under : eqb (stamp_of op).value last_value ≡ false
  pub author : eqb (stamp_of op).replica 0 ≡ false
  pub small : ltb last_replica (stamp_of op).replica ≡ false
  pub ids : AllByRecursion (λ (x : ℕ × ℕ). ltb last_replica x.0 ≡ false) (version_of op)
  pub above : AllByRecursion (λ (x : ℕ × ℕ). leb (stamp_of op).value x.1 ≡ false) (version_of op)

pub stamp_tests : (op : Operation) → bad_stamp op ≡ false → StampTests op
stamp_tests op e =
    let t : Lamport = stamp_of op in
    let v : Entries = version_of op in
    let b5 = or_parts (eqb t.value 0 || eqb t.value last_value || eqb t.replica 0 || ltb last_replica t.replica || list_any (λ x. ltb last_replica x.0) v) (list_any (λ x. leb t.value x.1) v) e in
    let b4 = or_parts (eqb t.value 0 || eqb t.value last_value || eqb t.replica 0 || ltb last_replica t.replica) (list_any (λ x. ltb last_replica x.0) v) b5.0 in
    let b3 = or_parts (eqb t.value 0 || eqb t.value last_value || eqb t.replica 0) (ltb last_replica t.replica) b4.0 in
    let b2 = or_parts (eqb t.value 0 || eqb t.value last_value) (eqb t.replica 0) b3.0 in
    let b1 = or_parts (eqb t.value 0) (eqb t.value last_value) b2.0 in
    record {
      some = b1.0;
      under = b1.1;
      author = b2.1;
      small = b3.1;
      ids = any_none (λ x. ltb last_replica x.0) v b4.1;
      above = any_none (λ x. leb t.value x.1) v b5.1;
    }

pub record Passed (h : History) (w : List Operation) (op : Operation) : Type 0 where
  pub shape : shape_fault op ≡ None
  pub unequal : any_equal (h ++ w) op ≡ false
  pub fresh : any_stamp (h ++ w) op ≡ false
  pub chained : fork_fault h op ≡ None
  pub caused : first_missing h (version_of op) ≡ None
  pub closed : open_replica h (version_of op) ≡ None
  pub ranges : range_fault (full (seen_history h (version_of op))) (pieces_of op) ≡ None
  pub counts : count_fault (seen_history h (version_of op)) (counts_of op) ≡ None

-- an answer that is no refusal, no repeat and no wait is no objection
pub objection_not : (a : Answer) (h : History) (w : List Operation) (op : Operation)
    → ((f : OpFault) → Refused f ≡ a → ⊥)
    → (when (any_equal (h ++ w) op) Repeat ≡ Some a → ⊥)
    → (option_map (λ (e : ℕ × ℕ). Waits e.0 e.1) (first_missing h (version_of op)) ≡ Some a → ⊥)
    → objection h w op ≡ Some a → ⊥
objection_not a h w op fault repeat waits = first_other a (objections h w op) (
  map_other a Refused fault (shape_fault op),
  (
    repeat,
    (
      when_other a (any_stamp (h ++ w) op) (Refused (Conflict (stamp_of op))) (fault (Conflict (stamp_of op))),
      (
        map_other a Refused fault (fork_fault h op),
        (
          waits,
          (
            map_other a (λ r. Refused (OpenVersion r)) (λ r. fault (OpenVersion r)) (open_replica h (version_of op)),
            (
              map_other a Refused fault (range_fault (full (seen_history h (version_of op))) (pieces_of op)),
              (map_other a Refused fault (count_fault (seen_history h (version_of op)) (counts_of op)), tt),
            ),
          ),
        ),
      ),
    ),
  ),
)

good_not : (h : History) (w : List Operation) (op : Operation) → objection h w op ≡ Some Good → ⊥
good_not h w op = objection_not Good h w op (λ f e. cc) (when_other Good (any_equal (h ++ w) op) Repeat (λ e. cc))
    (map_other Good (λ (e : ℕ × ℕ). Waits e.0 e.1) (λ x e. cc) (first_missing h (version_of op)))

pub passed : (h : History) (w : List Operation) (op : Operation) → answer h w op ≡ Good → Passed h w op
unfolding answer
passed h w op e =
    let s0 : objection h w op ≡ None = no_objection (objection h w op) (good_not h w op) e in
    let s1 = first_none _ _ s0 in
    let s2 = first_none _ _ s1.1 in
    let s3 = first_none _ _ s2.1 in
    let s4 = first_none _ _ s3.1 in
    let s5 = first_none _ _ s4.1 in
    let s6 = first_none _ _ s5.1 in
    let s7 = first_none _ _ s6.1 in
    let s8 = first_none _ _ s7.1 in
    record {
      shape = map_none Refused (shape_fault op) s1.0;
      unequal = when_none (any_equal (h ++ w) op) Repeat s2.0;
      fresh = when_none (any_stamp (h ++ w) op) (Refused (Conflict (stamp_of op))) s3.0;
      chained = map_none Refused (fork_fault h op) s4.0;
      caused = map_none (λ e. Waits e.0 e.1) (first_missing h (version_of op)) s5.0;
      closed = map_none (λ r. Refused (OpenVersion r)) (open_replica h (version_of op)) s6.0;
      ranges = map_none Refused (range_fault (full (seen_history h (version_of op))) (pieces_of op)) s7.0;
      counts = map_none Refused (count_fault (seen_history h (version_of op)) (counts_of op)) s8.0;
    }

pub good : (h : History) (w : List Operation) (op : Operation) → Passed h w op → answer h w op ≡ Good
unfolding answer
good h w op p = ap (λ (o : Option Answer). unwrap_or o Good) none
  where
    none : objection h w op ≡ None
    none = first_past _ _ (none_map Refused (shape_fault op) p.shape)
        ∙ first_past _ _ (none_when (any_equal (h ++ w) op) Repeat p.unequal)
        ∙ first_past _ _ (none_when (any_stamp (h ++ w) op) (Refused (Conflict (stamp_of op))) p.fresh)
        ∙ first_past _ _ (none_map Refused (fork_fault h op) p.chained)
        ∙ first_past _ _ (none_map (λ e. Waits e.0 e.1) (first_missing h (version_of op)) p.caused)
        ∙ first_past _ _ (none_map (λ r. Refused (OpenVersion r)) (open_replica h (version_of op)) p.closed)
        ∙ first_past _ _ (none_map Refused (range_fault (full (seen_history h (version_of op))) (pieces_of op)) p.ranges)
        ∙ first_past _ _ (none_map Refused (count_fault (seen_history h (version_of op)) (counts_of op)) p.counts)

pub record Shaped (op : Operation) : Type 0 where
  pub stamp : bad_stamp op ≡ false
  pub base : no_base op ≡ false
  pub limit : ltb text_limit (text_total (pieces_of op)) ≡ false
  pub forward : AllByRecursion (λ (p : Piece). is_reversed p ≡ false) (pieces_of op)
  pub apart : overlap_from 0 0 (pieces_of op) ≡ None

pub shaped : (op : Operation) → shape_fault op ≡ None → Shaped op
shaped op e =
    let s1 = first_none _ _ e in
    let s2 = first_none _ _ s1.1 in
    let s3 = first_none _ _ s2.1 in
    let s4 = first_none _ _ s3.1 in
    let s5 = first_none _ _ s4.1 in
    record {
      stamp = when_none (bad_stamp op) BadStamp s1.0;
      base = when_none (no_base op) NoBase s2.0;
      limit = when_none (ltb text_limit (text_total (pieces_of op))) (TextLimit (text_total (pieces_of op))) s3.0;
      forward = position_none is_reversed (pieces_of op) (map_none Reversed (position is_reversed (pieces_of op)) s4.0);
      apart = map_none Overlap (overlap_from 0 0 (pieces_of op)) s5.0;
    }

pub well_shaped : (op : Operation) → Shaped op → shape_fault op ≡ None
well_shaped op p = first_past _ _ (none_when (bad_stamp op) BadStamp p.stamp)
    ∙ first_past _ _ (none_when (no_base op) NoBase p.base)
    ∙ first_past _ _ (none_when (ltb text_limit (text_total (pieces_of op))) (TextLimit (text_total (pieces_of op))) p.limit)
    ∙ first_past _ _ (none_map Reversed (position is_reversed (pieces_of op)) (none_position is_reversed (pieces_of op) p.forward))
    ∙ first_past _ _ (none_map Overlap (overlap_from 0 0 (pieces_of op)) p.apart)

pub ranged : (bytes : List ℕ) (ps : List Piece) → range_fault bytes ps ≡ None → AllByRecursion (λ (p : Piece). is_past (length bytes) p ≡ false) ps × AllByRecursion (λ (p : Piece). is_inside bytes p ≡ false) ps
ranged bytes ps e =
    let s1 = first_none _ _ e in
    let s2 = first_none _ _ s1.1 in (
      position_none (is_past (length bytes)) ps (map_none (λ i. PastEnd i (length bytes)) (position (is_past (length bytes)) ps) s1.0),
      position_none (is_inside bytes) ps (map_none InsideChar (position (is_inside bytes) ps) s2.0),
    )

pub well_ranged : (bytes : List ℕ) (ps : List Piece) → AllByRecursion (λ (p : Piece). is_past (length bytes) p ≡ false) ps → AllByRecursion (λ (p : Piece). is_inside bytes p ≡ false) ps → range_fault bytes ps ≡ None
well_ranged bytes ps a b = first_past _ _ (none_map (λ i. PastEnd i (length bytes)) (position (is_past (length bytes)) ps) (none_position (is_past (length bytes)) ps a))
    ∙ first_past _ _ (none_map InsideChar (position (is_inside bytes) ps) (none_position (is_inside bytes) ps b))
