-- By stamps each text stands directly after its left neighbour: no later stamp is there to be passed.
use Rattle.op_model.proofs.Elements.{each_map, each_append}
use Rattle.std.proofs.Common.{◌≡◌, ℕ, zero, suc, ◌+◌, ◌≤◌, ◌⊎◌, Bool, List, [], ◌∷◌, ◌++◌, length, refl, sym, ◌∙◌, ap, subst, inl, inr, true, false, cond, arith}
use Rattle.std.proofs.lemmas.List.{append-nil}
use Rattle.std.specs.List.{AllByRecursion}
use Rattle.std.proofs.lemmas.Bool.{cases_Bool}
use Rattle.std.proofs.Common.{append_assoc}
use Rattle.std.proofs.lemmas.Bool.{leb-true, le-leb}
use Rattle.lamport_clock.specs.declared.stamp.Lamport.{Lamport}
use Rattle.op_model.specs.declared.operation.Operation.{Operation}
use Rattle.op_model.specs.Histories.{History, by_stamp, newest_first, base, In}
use Rattle.lamport_clock.specs.Versions.{entry, sees}
use Rattle.op_model.specs.declared.operation.Piece.{Piece}
use Rattle.lamport_clock.specs.Stamps.{later}
use Rattle.lamport_clock.proofs.Later.{later_irrefl, one_way, later_of, later_apart}
use Rattle.op_model.specs.Operations.{stamp_of, version_of, pieces_of}
use Rattle.op_model.specs.Cells.{PathCell, before, put_all, op_places, new_places, text_places, left_path, both, everything, seq_where, seq}
use Rattle.op_model.specs.Laid.{after_run, after_run_from, put_direct, lay, lay_direct, replay, index_after, only}
use Rattle.op_model.specs.Lawful.{Lawful, LawfulFrom}
use Rattle.op_model.proofs.order.Insertion.{each_insert_all}
use Rattle.op_model.proofs.order.LateOperation.{seq_nil, seq_kept, seq_unkept, unkept_anywhere}
use Rattle.op_model.proofs.order.Restricted.{Closed, restrict, Of, text_of, new_of}
use Rattle.op_model.proofs.order.SameSets.{Desc, each_in, newest_same, newest_desc}
use Rattle.op_model.proofs.histories.Lawful.{Checked, LawInv, each_of_in}
use Rattle.op_model.proofs.order.Laying.{laid, end_of}
use Rattle.op_model.proofs.histories.OneMore.{Core, core_of, inv_of, no_stamp, newest_append}
use Rattle.op_model.proofs.answers.Good.{in_tail, checked_of, Ready, ready_base, good_more, new_unseen}

abbrev pub NoLater : Lamport → List PathCell → Type 0
NoLater t s = AllByRecursion (λ (q : PathCell). later q.cell.stamp t ≡ false) s

run_none : (t : Lamport) (ns s : List PathCell) → NoLater t s → after_run t ns s ≡ ns ++ s
run_none t ns [] e = sym (append-nil ns)
run_none t ns (q ∷ s) e = let h : later q.cell.stamp t ≡ false = e.0 in rw h

pub skip_none : (i : ℕ) (t : Lamport) (ns s : List PathCell) → NoLater t s → after_run_from i t ns s ≡ put_direct i ns s
skip_none zero t ns s e = run_none t ns s e
skip_none (suc i) t ns [] e = refl
skip_none (suc i) t ns (q ∷ s) e = ap (λ r. q ∷ r) (skip_none i t ns s e.1)

run_each : (P : PathCell → Type 0) (t : Lamport) (ns s : List PathCell) → AllByRecursion P ns → AllByRecursion P s → AllByRecursion P (after_run t ns s)
run_each P t ns [] e f = e
run_each P t ns (q ∷ s) e f = elim (later q.cell.stamp t) as (λ b. AllByRecursion P (cond b (q ∷ after_run t ns s) (ns ++ q ∷ s)))
    [ true ↦ (f.0, run_each P t ns s e f.1) | false ↦ each_append P ns (q ∷ s) e f ]

skip_each : (P : PathCell → Type 0) (i : ℕ) (t : Lamport) (ns s : List PathCell) → AllByRecursion P ns → AllByRecursion P s → AllByRecursion P (after_run_from i t ns s)
skip_each P zero t ns s e f = run_each P t ns s e f
skip_each P (suc i) t ns [] e f = e
skip_each P (suc i) t ns (q ∷ s) e f = (f.0, skip_each P i t ns s e f.1)

own_not_later : (t : Lamport) (s : List PathCell) → AllByRecursion (Of t) s → NoLater t s
own_not_later t [] e = tt
own_not_later t (q ∷ s) e = (ap (λ (x : Lamport). later x t) e.0 ∙ later_irrefl t, own_not_later t s e.1)

-- an edit that is newer than all of s is laid in directly
direct : (keep : Lamport → Bool) (t : Lamport) (k : ℕ) (ps : List Piece) (s : List PathCell) → NoLater t s
    → (lay keep t k ps s ≡ lay_direct keep t k ps s) × NoLater t (lay keep t k ps s)
direct keep t k [] s n = (refl, n)
direct keep t k (p ∷ ps) s n =
    let ih = direct keep t (k + length p.text) ps s n in
    let r : List PathCell = lay keep t (k + length p.text) ps s in
    let i : ℕ = index_after keep r p.start in
    let ns : List PathCell = text_places (left_path r i) t k p.text in (
      skip_none i t ns r ih.1 ∙ ap (λ (x : List PathCell). put_direct (index_after keep x p.start) (text_places (left_path x (index_after keep x p.start)) t k p.text) x) ih.0,
      skip_each (λ (q : PathCell). later q.cell.stamp t ≡ false) i t ns r (own_not_later t ns (text_of (left_path r i) t k p.text)) ih.1,
    )

-- what holds of the stamps of h holds of the stamps of its cells
stamps_of : (P : Lamport → Type 0) (keep : Lamport → Bool) (h : History) → AllByRecursion (λ (o : Operation). P (stamp_of o)) h → AllByRecursion (λ (q : PathCell). P q.cell.stamp) (seq_where keep h)
stamps_of P keep [] e = rw (seq_nil keep) tt
stamps_of P keep (o ∷ h) e = elim (cases_Bool (keep (stamp_of o))) [
  | inl k ↦ rw (seq_kept keep o h k) (each_insert_all (λ (q : PathCell). P q.cell.stamp) before (op_places (seq_where (both keep (version_of o)) h) o) (seq_where keep h)
      (own (op_places (seq_where (both keep (version_of o)) h) o) (new_of (seq_where (both keep (version_of o)) h) (stamp_of o) 0 (pieces_of o))) (stamps_of P keep h e.1))
  | inr k ↦ rw (seq_unkept keep o h k) (stamps_of P keep h e.1)
]
  where
    own : (s : List PathCell) → AllByRecursion (Of (stamp_of o)) s → AllByRecursion (λ (q : PathCell). P q.cell.stamp) s
    own [] f = tt
    own (q ∷ s) f = (subst P (sym f.0) e.0, own s f.1)

-- each operation stands on older ones, with all that it sees among them
abbrev pub Stacked : History → Type 0
Stacked [] = Unit {0}
Stacked (o ∷ h) = (((u : Lamport) → sees (version_of o) u ≡ true → later (stamp_of o) u ≡ true)
    × AllByRecursion (λ (p : Operation). later (stamp_of o) (stamp_of p) ≡ true) h
    × Closed (sees (version_of o)) h
    × AllByRecursion (λ (p : Piece). p.start ≤ length (seq_where (sees (version_of o)) h)) (pieces_of o))
    × Stacked h

pub stacked_replay : (h : History) → Stacked h → Core (seq_where everything h) × (seq_where everything h ≡ replay h)
unfolding replay
stacked_replay [] s = (rw (seq_nil everything) (tt, tt), seq_nil everything)
stacked_replay (o ∷ h) s =
    let ih = stacked_replay h s.1 in
    let v : Lamport → Bool = sees (version_of o) in
    let t : Lamport = stamp_of o in
    let b : List PathCell = seq_where everything h in
    let r : only v b ≡ seq_where v h = restrict v h s.0.2 in
    let e : seq_where everything (o ∷ h) ≡ put_all (new_places (only v b) t 0 (pieces_of o)) b = seq_kept everything o h refl
    ∙ ap (λ (x : List PathCell). put_all (new_places x t 0 (pieces_of o)) b) (sym r) in
    let l = laid v t s.0.0 (pieces_of o) 0 b
    (inv_of b t (end_of 0 (pieces_of o)) ih.0 (no_stamp t everything h (each_map (λ (p : Operation). later t (stamp_of p) ≡ true) (λ (p : Operation). stamp_of p ≡ t → ⊥) (λ p g. later_apart t (stamp_of p) g) h s.0.1)))
    (subst (λ (x : List PathCell). AllByRecursion (λ (p : Piece). p.start ≤ length x) (pieces_of o)) (sym r) s.0.3) in
    let n : NoLater t b = stamps_of (λ (u : Lamport). later u t ≡ false) everything h
    (each_map (λ (p : Operation). later t (stamp_of p) ≡ true) (λ (p : Operation). later (stamp_of p) t ≡ false) (λ p g. one_way t (stamp_of p) g) h s.0.1) in (
      subst Core (sym e) (core_of (put_all (new_places (only v b) t 0 (pieces_of o)) b) t 0 l.0),
      e ∙ l.1 ∙ (direct v t 0 (pieces_of o) b n).0 ∙ ap (lay_direct v t 0 (pieces_of o)) ih.1,
    )

-- each operation's pieces begin within what its version sees of d
abbrev pub Starts : History → History → Type 0
Starts d h = AllByRecursion (λ (o : Operation). AllByRecursion (λ (p : Piece). p.start ≤ length (seq_where (sees (version_of o)) d)) (pieces_of o)) h

starts_same : (d e : History) (h : History) → AllByRecursion (λ (o : Operation). seq_where (sees (version_of o)) d ≡ seq_where (sees (version_of o)) e) h → Starts d h → Starts e h
starts_same d e [] f s = tt
starts_same d e (o ∷ h) f s = (subst (λ (x : List PathCell). AllByRecursion (λ (p : Piece). p.start ≤ length x) (pieces_of o)) f.0 s.0, starts_same d e h f.1 s.1)

Aboves : History → Type 0
Aboves h = AllByRecursion (λ (o : Operation). (u : Lamport) → sees (version_of o) u ≡ true → later (stamp_of o) u ≡ true) h

-- what is later than o is not seen by o
tail_same : (x : Operation) (g h : History) → Aboves h → AllByRecursion (λ (o : Operation). later (stamp_of x) (stamp_of o) ≡ true) h
    → AllByRecursion (λ (o : Operation). seq_where (sees (version_of o)) (x ∷ g) ≡ seq_where (sees (version_of o)) g) h
unfolding Aboves
tail_same x g [] a e = tt
tail_same x g (o ∷ h) a e = (seq_unkept (sees (version_of o)) x g (unseen (cases_Bool (sees (version_of o) (stamp_of x)))), tail_same x g h a.1 e.1)
  where
    unseen : (sees (version_of o) (stamp_of x) ≡ true) ⊎ (sees (version_of o) (stamp_of x) ≡ false) → sees (version_of o) (stamp_of x) ≡ false
    unseen (inl s) = let u = a.0 (stamp_of x) s in let w = one_way (stamp_of x) (stamp_of o) e.0 in cc
    unseen (inr s) = s

stacked : (h : History) → Desc h → Aboves h → ((o p : Operation) → In h o → In h p → sees (version_of p) (stamp_of o) ≡ true → (r : ℕ) → entry (version_of o) r ≤ entry (version_of p) r)
    → Starts h h → Stacked h
unfolding Aboves
stacked [] d a c s = tt
stacked (o ∷ h) d a c s =
    let t = starts_same (o ∷ h) h h (tail_same o h h a.1 d.0) s.1 in (
      (
        a.0,
        d.0,
        in_tail (sees (version_of o)) h (λ p q i j k z. closed p q i k z),
        subst (λ (x : List PathCell). AllByRecursion (λ (p : Piece). p.start ≤ length x) (pieces_of o)) (seq_unkept (sees (version_of o)) o h (unseen (cases_Bool (sees (version_of o) (stamp_of o))))) s.0,
      ),
      stacked h d.1 a.1 (λ p q i j. c p q (inr i) (inr j)) t,
    )
  where
    closed : (p q : Operation) → In h p → sees (version_of o) (stamp_of p) ≡ true → sees (version_of p) (stamp_of q) ≡ true → sees (version_of o) (stamp_of q) ≡ true
    closed p q i k z = let l = leb-true (stamp_of q).value (entry (version_of p) (stamp_of q).replica) z in
        let g = c p o (inr i) (inl refl) k (stamp_of q).replica in le-leb (stamp_of q).value (entry (version_of o) (stamp_of q).replica) (omega arith)

    unseen : (sees (version_of o) (stamp_of o) ≡ true) ⊎ (sees (version_of o) (stamp_of o) ≡ false) → sees (version_of o) (stamp_of o) ≡ false
    unseen (inl s) = let u = a.0 (stamp_of o) s in let w = later_irrefl (stamp_of o) in cc
    unseen (inr s) = s

-- a lawful history's pieces begin within what their versions see
starts_step : (h : History) (op : Operation) → LawInv h → Checked h op
    → AllByRecursion (λ (p : Piece). p.start ≤ length (seq_where (sees (version_of op)) (newest_first h))) (pieces_of op)
    → Starts (newest_first h) h → Starts (newest_first (h ++ op ∷ [])) (h ++ op ∷ [])
starts_step h op inv c st s =
    let d : History = newest_first h in
    subst (λ (x : History). Starts x (h ++ op ∷ [])) (sym (newest_append h op))
    (each_append (λ (o : Operation). AllByRecursion (λ (p : Piece). p.start ≤ length (seq_where (sees (version_of o)) (by_stamp op d))) (pieces_of o)) h (op ∷ [])
    (starts_same d (by_stamp op d) h
    (each_of_in (λ (o : Operation). seq_where (sees (version_of o)) d ≡ seq_where (sees (version_of o)) (by_stamp op d)) h
    (λ o i. sym (unkept_anywhere (sees (version_of o)) op d (new_unseen h op inv c o i)))) s)
    (subst (λ (x : List PathCell). AllByRecursion (λ (p : Piece). p.start ≤ length x) (pieces_of op)) (sym (unkept_anywhere (sees (version_of op)) op d (own (cases_Bool (sees (version_of op) (stamp_of op)))))) st, tt))
  where
    own : (sees (version_of op) (stamp_of op) ≡ true) ⊎ (sees (version_of op) (stamp_of op) ≡ false) → sees (version_of op) (stamp_of op) ≡ false
    own (inl z) = let l = leb-true (stamp_of op).value (entry (version_of op) (stamp_of op).replica) z in
        let n = c.above (stamp_of op).replica in absurd (omega arith)
    own (inr z) = z

starts_from : (h : History) (ops : List Operation) → Ready h → LawfulFrom h ops → Starts (newest_first h) h → Ready (h ++ ops) × Starts (newest_first (h ++ ops)) (h ++ ops)
starts_from h [] r l s = subst (λ (x : History). Ready x × Starts (newest_first x) x) (sym (append-nil h)) (r, s)
starts_from h (op ∷ ops) r l s =
    let c = checked_of h op l.0 in
    subst (λ (x : History). Ready x × Starts (newest_first x) x) (append_assoc h (op ∷ []) ops)
    (starts_from (h ++ op ∷ []) ops (good_more h op r l.0).0 l.1 (starts_step h op r.0 c.0 c.1 s))

starts_base : (t : List ℕ) → Starts (newest_first (base t ∷ [])) (base t ∷ [])
starts_base t = ((omega arith, tt), tt)

-- a lawful history's sequence is its edits replayed by stamps, each text put directly after its left neighbour
pub lawful_replay : (h : History) → Lawful h → seq h ≡ replay (newest_first h)
unfolding seq Aboves
lawful_replay [] l = absurd l
lawful_replay (op ∷ ops) l =
    let z = starts_from (op ∷ []) ops (subst (λ (x : Operation). Ready (x ∷ [])) (sym l.0.1) (ready_base l.0.0)) l.1
    (subst (λ (x : Operation). Starts (newest_first (x ∷ [])) (x ∷ [])) (sym l.0.1) (starts_base l.0.0)) in
    let h : History = op ∷ ops in
    let inv : LawInv h = z.0.0 in
    let d : History = newest_first h in
    let a : Aboves d = each_of_in (λ (o : Operation). (u : Lamport) → sees (version_of o) u ≡ true → later (stamp_of o) u ≡ true) d
    (λ o i u s. let n = leb-true u.value (entry (version_of o) u.replica) s in
    let k = inv.above o ((newest_same h o).0 i) u.replica in later_of (stamp_of o) u (omega arith)) in
    let st : Starts d d = each_of_in (λ (o : Operation). AllByRecursion (λ (p : Piece). p.start ≤ length (seq_where (sees (version_of o)) d)) (pieces_of o)) d
    (λ o i. each_in (λ (o : Operation). AllByRecursion (λ (p : Piece). p.start ≤ length (seq_where (sees (version_of o)) d)) (pieces_of o)) h o z.1 ((newest_same h o).0 i)) in
    (stacked_replay d (stacked d (newest_desc h inv.distinct) a (λ o p i j s r. inv.closed o p ((newest_same h o).0 i) ((newest_same h p).0 j) s r) st)).1
