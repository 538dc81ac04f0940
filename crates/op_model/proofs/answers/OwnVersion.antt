-- An operation with the clock's stamp and the version of a lawful history passes every case but those of its pieces and
-- counts.
use Rattle.op_model.proofs.Elements.{each_map, and_not, eqb_less, any_member}
use Rattle.std.proofs.Common.{◌≡◌, ℕ, ◌<◌, ◌≤◌, ◌⊎◌, Bool, [], ◌∷◌, ◌++◌, refl, sym, ◌∙◌, ap, subst, inl, inr, true, false, not, ◌||◌, ◌&&◌, eqb, ltb, leb, arith, None}
use Rattle.std.proofs.lemmas.List.{append-nil}
use Rattle.std.proofs.lemmas.Bool.{cases_Bool, lt-leb, le-ltb, cases_lt, and_parts}
use Rattle.std.specs.List.{AllByRecursion, find, list_any}
use Rattle.lamport_clock.specs.Clocks.{last_value}
use Rattle.lamport_clock.specs.declared.stamp.Lamport.{Lamport}
use Rattle.lamport_clock.specs.Stamps.{same_stamp}
use Rattle.lamport_clock.proofs.EntryLists.{each_raise}
use Rattle.lamport_clock.specs.Versions.{Entries, entry, within}
use Rattle.lamport_clock.proofs.Later.{same_stamp_eq, same_stamp_refl}
use Rattle.lamport_clock.proofs.Entries.{own_entries}
use Rattle.op_model.specs.declared.operation.Operation.{Operation}
use Rattle.op_model.specs.declared.operation.Operation.TheVariants.{Edit, Undo}
use Rattle.op_model.specs.declared.faults.OpFault.TheVariants.{Forked}
use Rattle.op_model.specs.Operations.{stamp_of, version_of, last_replica}
use Rattle.op_model.specs.Histories.{History, version, clock}
use Rattle.op_model.specs.Domains.{IsReplica}
use Rattle.op_model.specs.Answers.{bad_stamp, no_base, any_equal, any_stamp, same_op, same_version, same_list, same_piece, same_count, fork_fault, first_missing, open_replica, is_entry_closed}
use Rattle.op_model.specs.Lawful.{Lawful}
use Rattle.op_model.proofs.histories.Lawful.{greatest, entry_version}
use Rattle.op_model.proofs.answers.Passed.{none_find, none_map, none_when, none_any}
use Rattle.op_model.proofs.histories.VersionLaws.{clock_above, clock_under, Stamped, InRange, stamped_from, version_is, has_greatest, lawful_caused, caused_within}

-- ---- the version's entries

version_each : (P : ℕ → Type 0) (h : History) → AllByRecursion (λ (o : Operation). P (stamp_of o).replica) h → AllByRecursion (λ (e : ℕ × ℕ). P e.0) (version h)
version_each P [] e = tt
version_each P (o ∷ h) e = each_raise (λ (e : ℕ × ℕ). P e.0) (version h) (stamp_of o) e.0 (version_each P h e.1)

greatest_below : (h : History) (n r : ℕ) → 0 < n → AllByRecursion (λ (o : Operation). (stamp_of o).value < n) h → greatest h r < n
greatest_below [] n r p e = p
greatest_below (o ∷ h) n r p e = elim (cases_Bool (eqb (stamp_of o).replica r)) [
  | inl q ↦ (let a = greatest_below h n r p e.1 in let b = e.0 in rw q (omega arith))
  | inr q ↦ rw q (greatest_below h n r p e.1)
]

greatest_none : (h : History) → AllByRecursion (λ (o : Operation). 0 < (stamp_of o).replica) h → greatest h 0 ≡ 0
greatest_none [] e = refl
greatest_none (o ∷ h) e = let n = eqb_less 0 (stamp_of o).replica e.0 in rw n (greatest_none h e.1)

-- equal operations have one stamp
pub equal_stamps : (a b : Operation) → same_op a b ≡ true → same_stamp (stamp_of a) (stamp_of b) ≡ true
equal_stamps (Edit a) (Edit b) e = (and_parts (same_stamp a.stamp b.stamp) (same_version a.version b.version) (and_parts (same_stamp a.stamp b.stamp && same_version a.version b.version) (same_list same_piece a.pieces b.pieces) e).0).0
equal_stamps (Edit a) (Undo b) e = cc
equal_stamps (Undo a) (Edit b) e = cc
equal_stamps (Undo a) (Undo b) e = (and_parts (same_stamp a.stamp b.stamp) (same_version a.version b.version) (and_parts (same_stamp a.stamp b.stamp && same_version a.version b.version) (same_list same_count a.counts b.counts) e).0).0

-- what the stamps of a lawful history are
pub record Stamps (h : History) : Type 0 where
  pub values : AllByRecursion (λ (o : Operation). ((stamp_of o).value < 4294967296) × ((stamp_of o).replica < 65536)) h
  pub small : AllByRecursion (λ (o : Operation). (stamp_of o).replica ≤ last_replica) h
  pub base_value : greatest h 0 ≡ 1

pub stamps_of : (h : History) → Lawful h → InRange h → Stamps h
stamps_of [] l r = absurd l
stamps_of (op ∷ ops) l r =
    let s : AllByRecursion Stamped ops = stamped_from (op ∷ []) ops r.1 l.1 in
    let e = l.0.1 in
    let v : (stamp_of op).value ≡ 1 = ap (λ (x : Operation). (stamp_of x).value) e in
    let q : (stamp_of op).replica ≡ 0 = ap (λ (x : Operation). (stamp_of x).replica) e in
    let g : greatest ops 0 ≡ 0 = greatest_none ops (each_map Stamped (λ (o : Operation). 0 < (stamp_of o).replica) (λ o x. x.author) ops s) in
    record {
      values = ((r.0, omega arith), each_map Stamped (λ (o : Operation). ((stamp_of o).value < 4294967296) × ((stamp_of o).replica < 65536)) (λ o x. ((let a = x.under in omega arith), (let a = x.small in omega arith))) ops s);
      small = (omega arith, each_map Stamped (λ (o : Operation). (stamp_of o).replica ≤ last_replica) (λ o x. x.small) ops s);
      base_value = rw (q, v, g) refl;
    }

module _ (h : History) (l : Lawful h) (st : Stamps h) (open_clock : eqb (clock h) last_value ≡ false) where
  under : clock h < last_value
  under = clock_under h open_clock

  past : AllByRecursion (λ (o : Operation). (stamp_of o).value < clock h) h
  past = (clock_above 1 h under).1

  some : 0 < clock h
  some = let a = (clock_above 1 h under).0 in omega arith

  entries : AllByRecursion (λ (e : ℕ × ℕ). entry (version h) e.0 ≡ e.1) (version h)
  entries = own_entries 0 (version h) (version_is h st.values)

  small_ids : AllByRecursion (λ (e : ℕ × ℕ). ltb last_replica e.0 ≡ false) (version h)
  small_ids = each_map (λ (e : ℕ × ℕ). e.0 ≤ last_replica) (λ (e : ℕ × ℕ). ltb last_replica e.0 ≡ false) (λ e a. le-ltb last_replica e.0 a) (version h) (version_each (λ n. n ≤ last_replica) h st.small)

  below_clock : AllByRecursion (λ (e : ℕ × ℕ). leb (clock h) e.1 ≡ false) (version h)
  below_clock = each_map (λ (e : ℕ × ℕ). entry (version h) e.0 ≡ e.1) (λ (e : ℕ × ℕ). leb (clock h) e.1 ≡ false)
      (λ e a. let g = greatest_below h (clock h) e.0 some past in let b = entry_version h e.0 in lt-leb (clock h) e.1 (omega arith)) (version h) entries

  abbrev pub Own : ℕ → Operation → Type 0
  Own r op = (stamp_of op ≡ record { value = clock h; replica = r }) × (version_of op ≡ version h)

  pub own_stamp : (r : ℕ) (op : Operation) → IsReplica r → Own r op → bad_stamp op ≡ false
  own_stamp r op i o = subst (λ (t : Lamport). bad t (version_of op) ≡ false) (sym o.0) (subst (λ (v : Entries). bad (record { value = clock h; replica = r }) v ≡ false) (sym o.1) good)
    where
      bad : Lamport → Entries → Bool
      bad t v = eqb t.value 0 || eqb t.value last_value || eqb t.replica 0 || ltb last_replica t.replica || list_any (λ e. ltb last_replica e.0) v || list_any (λ e. leb t.value e.1) v

      good : bad (record { value = clock h; replica = r }) (version h) ≡ false
      good = rw (
        eqb_less 0 (clock h) some,
        open_clock,
        eqb_less 0 r (let a = i.0 in omega arith),
        le-ltb last_replica r i.1,
        none_any (λ e. ltb last_replica e.0) (version h) small_ids,
        none_any (λ e. leb (clock h) e.1) (version h) below_clock,
      ) refl

  pub own_base : (r : ℕ) (op : Operation) → Own r op → no_base op ≡ false
  own_base r op o = let e : entry (version_of op) 0 ≡ 1 = ap (λ (v : Entries). entry v 0) o.1 ∙ entry_version h 0 ∙ st.base_value in rw e refl

  pub own_fresh : (r : ℕ) (op : Operation) → Own r op → any_stamp (h ++ []) op ≡ false
  own_fresh r op o = subst (λ (x : History). any_stamp x op ≡ false) (sym (append-nil h)) (none_any (λ x. same_stamp (stamp_of x) (stamp_of op)) h
      (each_map (λ (x : Operation). (stamp_of x).value < clock h) (λ (x : Operation). same_stamp (stamp_of x) (stamp_of op) ≡ false) (λ x a. other x a (cases_Bool (same_stamp (stamp_of x) (stamp_of op)))) h past))
    where
      other : (x : Operation) → (stamp_of x).value < clock h → (same_stamp (stamp_of x) (stamp_of op) ≡ true) ⊎ (same_stamp (stamp_of x) (stamp_of op) ≡ false) → same_stamp (stamp_of x) (stamp_of op) ≡ false
      other x a (inl s) = let e : (stamp_of x).value ≡ clock h = ap (λ (t : Lamport). t.value) (same_stamp_eq (stamp_of x) (stamp_of op) s ∙ o.0) in absurd (omega arith)
      other x a (inr s) = s

  -- no operation is equal where none has the stamp
  pub none_equal : (g : History) (op : Operation) → any_stamp g op ≡ false → any_equal g op ≡ false
  none_equal [] op e = refl
  none_equal (x ∷ g) op e = go (cases_Bool (same_stamp (stamp_of x) (stamp_of op))) (cases_Bool (same_op x op)) (none_equal g op)
    where
      go : (same_stamp (stamp_of x) (stamp_of op) ≡ true) ⊎ (same_stamp (stamp_of x) (stamp_of op) ≡ false) → (same_op x op ≡ true) ⊎ (same_op x op ≡ false)
          → (any_stamp g op ≡ false → any_equal g op ≡ false) → any_equal (x ∷ g) op ≡ false
      go (inl s) b f = let t : true ≡ false = rw s at e in cc
      go (inr s) (inl b) f = let t = equal_stamps x op b in cc
      go (inr s) (inr b) f = rw b (f (rw s at e))

  pub own_chained : (r : ℕ) (op : Operation) → Own r op → fork_fault h op ≡ None
  own_chained r op o =
      let a : ltb (entry (version h) (stamp_of op).replica) (entry (version h) (stamp_of op).replica) ≡ false = le-ltb (entry (version h) (stamp_of op).replica) (entry (version h) (stamp_of op).replica) (omega arith) in
      none_when (ltb (entry (version_of op) (stamp_of op).replica) (entry (version h) (stamp_of op).replica)) (Forked (entry (version h) (stamp_of op).replica))
      (subst (λ (v : Entries). ltb (entry v (stamp_of op).replica) (entry (version h) (stamp_of op).replica) ≡ false) (sym o.1) a)

  pub own_caused : first_missing h (version h) ≡ None
  own_caused = none_find (λ e. ltb (entry (version h) e.0) e.1) (version h)
      (each_map (λ (e : ℕ × ℕ). entry (version h) e.0 ≡ e.1) (λ (e : ℕ × ℕ). ltb (entry (version h) e.0) e.1 ≡ false) (λ e a. le-ltb (entry (version h) e.0) e.1 (omega arith)) (version h) entries)

  named : (e : ℕ × ℕ) → entry (version h) e.0 ≡ e.1 → (ltb 0 e.1 && not (is_entry_closed h (version h) e)) ≡ false
  named e a = go (cases_lt 0 e.1)
    where
      go : (0 < e.1) ⊎ (e.1 ≤ 0) → (ltb 0 e.1 && not (is_entry_closed h (version h) e)) ≡ false
      go (inl p) =
          let g : greatest h e.0 ≡ e.1 = sym (entry_version h e.0) ∙ a in
          let w = has_greatest h e.0 (omega arith) in
          let s : stamp_of w.0 ≡ record { value = e.1; replica = e.0 } = w.2 ∙ ap (λ (n : ℕ). record { value = n; replica = e.0 }) g in
          let k : same_stamp (stamp_of w.0) (record { value = e.1; replica = e.0 }) ≡ true = subst (λ (t : Lamport). same_stamp t (record { value = e.1; replica = e.0 }) ≡ true) (sym s) (same_stamp_refl (record { value = e.1; replica = e.0 })) in
          let c = caused_within h w.0 (lawful_caused h l w.0 w.1) in
          and_not (ltb 0 e.1) (is_entry_closed h (version h) e)
          (λ q. any_member (λ o. same_stamp (stamp_of o) (record { value = e.1; replica = e.0 }) && within (version_of o) (version h)) h w.0 w.1 (rw (k, c) refl))
      go (inr p) = let n = le-ltb 0 e.1 p in rw n refl

  pub own_closed : open_replica h (version h) ≡ None
  own_closed = none_map (λ e. e.0) (find (λ e. ltb 0 e.1 && not (is_entry_closed h (version h) e)) (version h))
      (none_find (λ e. ltb 0 e.1 && not (is_entry_closed h (version h) e)) (version h)
      (each_map (λ (e : ℕ × ℕ). entry (version h) e.0 ≡ e.1) (λ (e : ℕ × ℕ). (ltb 0 e.1 && not (is_entry_closed h (version h) e)) ≡ false) named (version h) entries))
