-- From the answer Good to the sequence with one more operation.
use Rattle.op_model.proofs.Elements.{each_map}
use Rattle.std.proofs.Common.{◌≡◌, ℕ, ◌<◌, ◌≤◌, ◌⊎◌, Bool, List, [], ◌∷◌, ◌++◌, length, refl, sym, ◌∙◌, ap, subst, inl, inr, true, false, not, ◌&&◌, eqb, ltb, leb, arith, append_assoc, None}
use Rattle.std.proofs.lemmas.List.{append-nil, length-map}
use Rattle.std.proofs.lemmas.Bool.{cases_Bool, and_parts, or_cases, leb-true, leb-false, ltb-false, le-leb, lt-ltb, cases_lt, not-false}
use Rattle.std.proofs.lemmas.Bool.Decides.{nat_tests}
use Rattle.lamport_clock.specs.declared.stamp.Lamport.{Lamport}
use Rattle.op_model.specs.declared.operation.Operation.{Operation}
use Rattle.op_model.specs.Histories.{History, newer, newest_first, version, seen_history, base, SameSet, In}
use Rattle.lamport_clock.specs.Versions.{Entries, sees, entry, within}
use Rattle.op_model.specs.declared.operation.Piece.{Piece}
use Rattle.lamport_clock.specs.Stamps.{later, same_stamp}
use Rattle.lamport_clock.proofs.Joined.{entry_within}
use Rattle.lamport_clock.proofs.Later.{same_stamp_eq, same_stamp_refl, later_of, not_newer}
use Rattle.lamport_clock.proofs.EntryLists.{each_entry}
use Rattle.op_model.specs.Operations.{stamp_of, version_of, pieces_of}
use Rattle.op_model.specs.Cells.{PathCell, seq_where, seq, cells}
use Rattle.op_model.specs.Laid.{lay}
use Rattle.op_model.specs.Shown.{full, text, full_where, byte}
use Rattle.op_model.specs.Lawful.{Lawful, LawfulFrom}
use Rattle.std.specs.List.{AllByRecursion, find}
use Rattle.op_model.specs.declared.faults.OpFault.TheVariants.{Forked}
use Rattle.op_model.specs.Edits.{is_past, is_reversed}
use Rattle.op_model.specs.Answers.{answer, bad_stamp, any_stamp, is_entry_closed, open_replica, first_missing}
use Rattle.op_model.specs.Answers.Answer.{Good}
use Rattle.op_model.proofs.answers.Passed.{any_none, find_none, map_none, when_none, stamp_tests, passed, shaped, ranged}
use Rattle.op_model.proofs.shown.Bytes.{full_seen}
use Rattle.op_model.proofs.order.LateOperation.{Apart}
use Rattle.op_model.proofs.order.Restricted.{Closed}
use Rattle.op_model.proofs.order.SameSets.{seq_of_set, text_of_set, each_in, newest_same}
use Rattle.op_model.proofs.histories.Lawful.{entry_version, Checked, LawInv, closed_op, law_step, law_base, each_of_in}
use Rattle.op_model.proofs.histories.OneMore.{Fits, Core, one_more, none_yet}

pub in_tail : (keep : Lamport → Bool) (h : History) → ((o p : Operation) → In h o → In h p → keep (stamp_of o) ≡ true → sees (version_of o) (stamp_of p) ≡ true → keep (stamp_of p) ≡ true)
    → Closed keep h
in_tail keep [] f = tt
in_tail keep (o ∷ h) f = (
  (λ k. each_of_in (λ (p : Operation). sees (version_of o) (stamp_of p) ≡ true → keep (stamp_of p) ≡ true) h (λ p i s. f o p (inl refl) (inr i) k s)),
  in_tail keep h (λ a b i j. f a b (inr i) (inr j)),
)

apart_of : (op : Operation) (h : History)
    → ((o : Operation) → In h o → newer o op ≡ true → (sees (version_of o) (stamp_of op) ≡ false) × (sees (version_of op) (stamp_of o) ≡ false)) → Apart op h
apart_of op [] f = tt
apart_of op (o ∷ h) f = (f o (inl refl), apart_of op h (λ p i. f p (inr i)))

-- what stands in the history has not seen a new operation
pub new_unseen : (h : History) (op : Operation) → LawInv h → Checked h op → (o : Operation) → In h o → sees (version_of o) (stamp_of op) ≡ false
new_unseen h op inv c o i = go (cases_Bool (sees (version_of o) (stamp_of op)))
  where
    go : (sees (version_of o) (stamp_of op) ≡ true) ⊎ (sees (version_of o) (stamp_of op) ≡ false) → sees (version_of o) (stamp_of op) ≡ false
    go (inl s) = let l = leb-true (stamp_of op).value (entry (version_of o) (stamp_of op).replica) s in
        let g = inv.caused o i (stamp_of op).replica in let k = c.chained in let n = c.above (stamp_of op).replica in absurd (omega arith)
    go (inr s) = s

pub fits_of : (h : History) (op : Operation) → LawInv h → Checked h op
    → AllByRecursion (λ (p : Piece). p.start ≤ length (seq_where (sees (version_of op)) (newest_first h))) (pieces_of op) → Fits h op
fits_of h op inv c st = record {
  fresh = each_of_in (λ (o : Operation). stamp_of o ≡ stamp_of op → ⊥) (newest_first h) (λ o i. each_in (λ (x : Operation). stamp_of x ≡ stamp_of op → ⊥) h o c.new ((newest_same h o).0 i));
  above = above;
  closed = closed;
  apart = apart;
  starts = st;
}
  where
    above : (u : Lamport) → sees (version_of op) u ≡ true → later (stamp_of op) u ≡ true
    above u s = let l = leb-true u.value (entry (version_of op) u.replica) s in let k = c.above u.replica in later_of (stamp_of op) u (omega arith)

    closed : Closed (sees (version_of op)) (newest_first h)
    closed = in_tail (sees (version_of op)) (newest_first h) (λ o p i j k s.
        let l = leb-true (stamp_of p).value (entry (version_of o) (stamp_of p).replica) s in
        let g = closed_op h op inv c o ((newest_same h o).0 i) k (stamp_of p).replica in
        le-leb (stamp_of p).value (entry (version_of op) (stamp_of p).replica) (omega arith))

    apart : Apart op (newest_first h)
    apart = apart_of op (newest_first h) (λ o i n. (new_unseen h op inv c o ((newest_same h o).0 i), unseeing o n (cases_Bool (sees (version_of op) (stamp_of o)))))
      where
        unseeing : (o : Operation) → newer o op ≡ true → (sees (version_of op) (stamp_of o) ≡ true) ⊎ (sees (version_of op) (stamp_of o) ≡ false) → sees (version_of op) (stamp_of o) ≡ false
        unseeing o n (inl s) = absurd (not_newer (stamp_of op) (stamp_of o) n (above (stamp_of o) s))
        unseeing o n (inr s) = s

stamp_none : (h : History) (op : Operation) → any_stamp h op ≡ false → AllByRecursion (λ (o : Operation). stamp_of o ≡ stamp_of op → ⊥) h
stamp_none h op e = each_map (λ (o : Operation). same_stamp (stamp_of o) (stamp_of op) ≡ false) (λ (o : Operation). stamp_of o ≡ stamp_of op → ⊥)
    (λ o n q. differ (stamp_of o) (stamp_of op) q n) h (any_none (λ o. same_stamp (stamp_of o) (stamp_of op)) h e)
  where
    differ : (s t : Lamport) → s ≡ t → same_stamp s t ≡ false → ⊥
    differ s t q n = let r : same_stamp t t ≡ false = subst (λ (x : Lamport). same_stamp x t ≡ false) q n in
        let i = same_stamp_refl t in cc

-- the operation that the entry names, with its version within v
abbrev pub Named : History → Entries → ℕ × ℕ → Type 0
Named h v e = (m : Operation) × In h m × (stamp_of m ≡ record { value = e.1; replica = e.0 }) × ((q : ℕ) → entry (version_of m) q ≤ entry v q)

pub entry_named : (h : History) (v : Entries) (e : ℕ × ℕ) → is_entry_closed h v e ≡ true → Named h v e
entry_named [] v e t = cc
entry_named (o ∷ h) v e t = go (or_cases (same_stamp (stamp_of o) (record { value = e.1; replica = e.0 }) && within (version_of o) v) (is_entry_closed h v e) t) (entry_named h v e)
  where
    go : (same_stamp (stamp_of o) (record { value = e.1; replica = e.0 }) && within (version_of o) v ≡ true) ⊎ (is_entry_closed h v e ≡ true)
        → (is_entry_closed h v e ≡ true → Named h v e) → Named (o ∷ h) v e
    go (inl z) f = let a = and_parts (same_stamp (stamp_of o) (record { value = e.1; replica = e.0 })) (within (version_of o) v) z in
        (o, inl refl, same_stamp_eq (stamp_of o) (record { value = e.1; replica = e.0 }) a.0, λ q. entry_within (version_of o) v q a.1)
    go (inr z) f = let w = f z in (w.0, inr w.1, w.2, w.3)

pub full_length : (keep : Lamport → Bool) (h : History) → length (full_where keep h) ≡ length (seq_where keep h)
unfolding full_where
full_length keep h = length-map (cells (seq_where keep h)) (byte h) ∙ length-map (seq_where keep h) (λ (p : PathCell). p.cell)

pub seen_length : (h : History) (v : Entries) → length (full (seen_history h v)) ≡ length (seq_where (sees v) (newest_first h))
seen_length h v = ap length (full_seen h v) ∙ full_length (sees v) (newest_first h)

nat_above : (x y : ℕ) → (0 < x → leb y x ≡ false) → 0 < y → x < y
nat_above x y f h = elim (cases_lt 0 x) [ inl p ↦ leb-false y x (f p) | inr p ↦ omega arith ]

pub positive : (x : ℕ) → eqb x 0 ≡ false → 0 < x
positive x e = grind (arith, nat_tests)

pub named : (b : Bool) (x : ℕ) → 0 < x → (ltb 0 x && not b) ≡ false → b ≡ true
named b x h e = let l : ltb 0 x ≡ true = lt-ltb 0 x h in not-false b (rw l at e)

assemble : (h : History) (op : Operation) → 0 < (stamp_of op).value → AllByRecursion (λ (x : ℕ × ℕ). leb (stamp_of op).value x.1 ≡ false) (version_of op)
    → any_stamp h op ≡ false → ltb (entry (version_of op) (stamp_of op).replica) (entry (version h) (stamp_of op).replica) ≡ false
    → first_missing h (version_of op) ≡ None → open_replica h (version_of op) ≡ None → Checked h op
assemble h op pos bad n f w o = record {
  new = stamp_none h op n;
  above = λ r. nat_above (entry (version_of op) r) (stamp_of op).value (each_entry (λ (x : ℕ × ℕ). leb (stamp_of op).value x.1 ≡ false) (version_of op) r bad) pos;
  chained = subst (λ (x : ℕ). x ≤ entry (version_of op) (stamp_of op).replica) (entry_version h (stamp_of op).replica)
      (ltb-false (entry (version_of op) (stamp_of op).replica) (entry (version h) (stamp_of op).replica) f);
  caused = λ r. subst (λ (x : ℕ). entry (version_of op) r ≤ x) (entry_version h r) (cause r (cases_lt 0 (entry (version_of op) r)));
  closed = λ r q. entry_named h (version_of op) (r, entry (version_of op) r)
      (named (is_entry_closed h (version_of op) (r, entry (version_of op) r)) (entry (version_of op) r) q
      (each_entry (λ (e : ℕ × ℕ). (ltb 0 e.1 && not (is_entry_closed h (version_of op) e)) ≡ false) (version_of op) r opens q));
}
  where
    opens : AllByRecursion (λ (e : ℕ × ℕ). (ltb 0 e.1 && not (is_entry_closed h (version_of op) e)) ≡ false) (version_of op)
    opens = find_none (λ e. ltb 0 e.1 && not (is_entry_closed h (version_of op) e)) (version_of op)
        (map_none (λ e. e.0) (find (λ e. ltb 0 e.1 && not (is_entry_closed h (version_of op) e)) (version_of op)) o)

    cause : (r : ℕ) → (0 < entry (version_of op) r) ⊎ (entry (version_of op) r ≤ 0) → entry (version_of op) r ≤ entry (version h) r
    cause r (inl q) = ltb-false (entry (version h) r) (entry (version_of op) r)
        (each_entry (λ (e : ℕ × ℕ). ltb (entry (version h) e.0) e.1 ≡ false) (version_of op) r (find_none (λ e. ltb (entry (version h) e.0) e.1) (version_of op) w) q)
    cause r (inr q) = omega arith

starts_of : (len : ℕ) (ps : List Piece) → AllByRecursion (λ (p : Piece). is_past len p ≡ false) ps → AllByRecursion (λ (p : Piece). is_reversed p ≡ false) ps → AllByRecursion (λ (p : Piece). p.start ≤ len) ps
starts_of len [] a b = tt
starts_of len (p ∷ ps) a b =
    let u = ltb-false len p.end a.0 in let v = ltb-false p.end p.start b.0 in
    (omega arith, starts_of len ps a.1 b.1)

-- the parts of a stamp that is not bad
pub stamp_parts : (op : Operation) → bad_stamp op ≡ false → (0 < (stamp_of op).value) × AllByRecursion (λ (x : ℕ × ℕ). leb (stamp_of op).value x.1 ≡ false) (version_of op) × (eqb (stamp_of op).replica 0 ≡ false)
stamp_parts op e = let s = stamp_tests op e in (positive (stamp_of op).value s.some, s.above, s.author)

pub checked_of : (h : History) (op : Operation) → answer h [] op ≡ Good
    → Checked h op × AllByRecursion (λ (p : Piece). p.start ≤ length (seq_where (sees (version_of op)) (newest_first h))) (pieces_of op)
checked_of h op e =
    let p = passed h [] op e in
    let s = shaped op p.shape in
    let t = stamp_parts op s.stamp in
    let n : any_stamp h op ≡ false = subst (λ (x : History). any_stamp x op ≡ false) (append-nil h) p.fresh in
    let f = when_none (ltb (entry (version_of op) (stamp_of op).replica) (entry (version h) (stamp_of op).replica)) (Forked (entry (version h) (stamp_of op).replica)) p.chained in
    let r = ranged (full (seen_history h (version_of op))) (pieces_of op) p.ranges in
    let q : AllByRecursion (λ (x : Piece). is_past (length (seq_where (sees (version_of op)) (newest_first h))) x ≡ false) (pieces_of op) =
    subst (λ (x : ℕ). AllByRecursion (λ (y : Piece). is_past x y ≡ false) (pieces_of op)) (seen_length h (version_of op)) r.0 in (
      assemble h op t.0 t.1 n f p.caused p.closed,
      starts_of (length (seq_where (sees (version_of op)) (newest_first h))) (pieces_of op) q s.forward,
    )

pub base_fits : (t : List ℕ) → Fits [] (base t)
base_fits t = record { fresh = tt; above = λ u s. none_seen u s; closed = tt; apart = tt; starts = (omega arith, tt) }
  where
    none_seen : (u : Lamport) → sees [] u ≡ true → later (stamp_of (base t)) u ≡ true
    none_seen u s = let l = leb-true u.value 0 s in later_of (stamp_of (base t)) u (omega arith)

-- what a history needs for one operation more
abbrev pub Ready : History → Type 0
Ready h = LawInv h × Core (seq h)

pub ready_base : (t : List ℕ) → Ready (base t ∷ [])
ready_base t = (law_base (base t) (omega arith) refl, (one_more [] (base t) (base_fits t) none_yet).0)

-- an operation whose answer is Good: the next history is ready, and its sequence is the old one with the pieces laid in
pub good_more : (h : History) (op : Operation) → Ready h → answer h [] op ≡ Good
    → Ready (h ++ op ∷ []) × (seq (h ++ op ∷ []) ≡ lay (sees (version_of op)) (stamp_of op) 0 (pieces_of op) (seq h))
good_more h op r e =
    let c = checked_of h op e in
    let m = one_more h op (fits_of h op r.0 c.0 c.1) r.1 in
    ((law_step h op r.0 c.0, m.0), m.1)

ready_from : (h : History) (ops : List Operation) → Ready h → LawfulFrom h ops → Ready (h ++ ops)
ready_from h [] r l = subst Ready (sym (append-nil h)) r
ready_from h (op ∷ ops) r l = subst Ready (append_assoc h (op ∷ []) ops) (ready_from (h ++ op ∷ []) ops (good_more h op r l.0).0 l.1)

pub lawful_ready : (h : History) → Lawful h → Ready h
lawful_ready [] l = absurd l
lawful_ready (op ∷ ops) l = ready_from (op ∷ []) ops (subst (λ (x : Operation). Ready (x ∷ [])) (sym l.0.1) (ready_base l.0.0)) l.1

-- two lawful histories of one set of operations show the same
pub lawful_same : (h g : History) → Lawful h → Lawful g → SameSet h g → (seq h ≡ seq g) × (text h ≡ text g)
lawful_same h g l m s = let a = (lawful_ready h l).0 in let b = (lawful_ready g m).0 in
    (seq_of_set h g a.distinct b.distinct s, text_of_set h g a.distinct b.distinct s)
