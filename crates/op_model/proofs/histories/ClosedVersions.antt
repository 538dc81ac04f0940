-- Closed versions: that of a front sees that front, and what one sees is lawful, with the cells and the deletions that
-- it sees.
use Rattle.std.proofs.Common.{◌≡◌, ℕ, suc, ◌<◌, ◌≤◌, ◌⊎◌, Bool, List, [], ◌∷◌, ◌++◌, map, refl, sym, ◌∙◌, ap, subst, inl, inr, true, false, cond, not, ◌&&◌, eqb, ltb, leb, arith, append_assoc}
use Rattle.std.proofs.lemmas.List.{append-nil}
use Rattle.std.specs.List.{AllByRecursion, filter}
use Rattle.std.proofs.lemmas.Bool.{cases_Bool, and_parts, leb-true, le-leb, lt-leb, cases_lt}
use Rattle.std.proofs.lemmas.Bool.Decides.{nat_tests}
use Rattle.std.proofs.lemmas.List.Elements.{filter-append}
use Rattle.lamport_clock.specs.declared.stamp.Lamport.{Lamport}
use Rattle.lamport_clock.specs.Stamps.{same_stamp}
use Rattle.lamport_clock.specs.Versions.{Entries, IsVersion, entry, sees, within}
use Rattle.lamport_clock.proofs.Joined.{entry_within}
use Rattle.lamport_clock.proofs.Later.{same_stamp_refl}
use Rattle.lamport_clock.proofs.EntryLists.{each_raise}
use Rattle.lamport_clock.proofs.Entries.{own_entries}
use Rattle.op_model.specs.declared.operation.Operation.{Operation}
use Rattle.op_model.specs.Operations.{stamp_of, version_of}
use Rattle.op_model.specs.Histories.{History, In, base, version, kept_history, seen_history, newest_first}
use Rattle.op_model.specs.Cells.{Cell, PathCell, everything, seq, cells}
use Rattle.op_model.specs.Laid.{only}
use Rattle.op_model.specs.Shown.{is_undone, are_undone, visible_by, deleters_where, deleters, shows_where, shows}
use Rattle.op_model.specs.Facts.{was_visible}
use Rattle.op_model.specs.Answers.{answer, is_entry_closed}
use Rattle.op_model.specs.Answers.Answer.{Good}
use Rattle.op_model.specs.Lawful.{Lawful, LawfulFrom, IsClosed}
use Rattle.op_model.proofs.order.Restricted.{Closed, restrict}
use Rattle.op_model.proofs.order.SameSets.{each_in, newest_seen, newest_same, seq_seen}
use Rattle.op_model.proofs.histories.Lawful.{greatest, entry_version, greatest_in, greatest_more}
use Rattle.op_model.proofs.shown.Deleters.{kept_all}
use Rattle.op_model.proofs.shown.OnePass.{undone_newest, all_newest}
use Rattle.op_model.proofs.shown.Parts.{deleters_part}
use Rattle.op_model.proofs.answers.Passed.{passed, shaped}
use Rattle.op_model.proofs.answers.Good.{in_tail, checked_of, stamp_parts}
use Rattle.op_model.proofs.shown.Deletions.{deleters_restrict}
use Rattle.op_model.proofs.histories.VersionLaws.{lawful_caused, caused_within, seen_all, shaped_good, each_lawful}
use Rattle.op_model.proofs.histories.MoreLawful.{lawful_more, lawful_parts}
use Rattle.op_model.proofs.texts.WholeTexts.{in_last}
use Rattle.op_model.proofs.histories.Causes.{Opens, opens_of, of_opens, names, names_closed, causes_within}
use Rattle.op_model.proofs.answers.NeverRefused.{in_part, part_in, never_refused}
use Rattle.op_model.proofs.settling.Settling.{not_waits, within_none}
use Rattle.op_model.proofs.settling.HonestRuns.{repeat_in}
use Rattle.op_model.proofs.Elements.{each_map, member_left}

-- ---- the version of a front

-- each entry of a version put together is an operation's stamp
abbrev Named : History → ℕ × ℕ → Type 0
Named h e = (m : Operation) × In h m × (stamp_of m ≡ record { value = e.1; replica = e.0 })

named_version : (h : History) → AllByRecursion (Named h) (version h)
named_version [] = tt
named_version (o ∷ h) = each_raise (Named (o ∷ h)) (version h) (stamp_of o) (o, inl refl, refl)
    (each_map (Named h) (Named (o ∷ h)) (λ e w. (w.0, inr w.1, w.2)) (version h) (named_version h))

front_opens : (h g : History) → Lawful h → Opens (h ++ g) (version h)
front_opens h g l = each_map (Named h) (λ (e : ℕ × ℕ). (ltb 0 e.1 && not (is_entry_closed (h ++ g) (version h) e)) ≡ false)
    (λ e w. names_closed (h ++ g) (version h) e w.0 (member_left w.0 h g w.1)
    (subst (λ (t : Lamport). same_stamp (stamp_of w.0) t ≡ true) w.2 (same_stamp_refl (stamp_of w.0))) (caused_within h w.0 (lawful_caused h l w.0 w.1)))
    (version h) (named_version h)

front_within : (h g : History) → within (version h) (version (h ++ g)) ≡ true
front_within h g = go (version h) (named_version h)
  where
    go : (v : Entries) → AllByRecursion (Named h) v → within v (version (h ++ g)) ≡ true
    go [] e = refl
    go (d ∷ v) e =
        let m : Operation = e.0.0 in
        let a : (stamp_of m).value ≡ d.1 = ap (λ (t : Lamport). t.value) e.0.2 in
        let b : (stamp_of m).replica ≡ d.0 = ap (λ (t : Lamport). t.replica) e.0.2 in
        let c : (stamp_of m).value ≤ greatest (h ++ g) d.0 = subst (λ (r : ℕ). (stamp_of m).value ≤ greatest (h ++ g) r) b (greatest_in (h ++ g) m (member_left m h g e.0.1)) in
        let f = entry_version (h ++ g) d.0 in
        let t : leb d.1 (entry (version (h ++ g)) d.0) ≡ true = le-leb d.1 (entry (version (h ++ g)) d.0) (omega arith) in
        rw t (go v e.1)

-- what follows a front is not seen by its version
behind_unseen : (h p : History) (g : List Operation) → ((r : ℕ) → greatest h r ≤ greatest p r) → LawfulFrom p g → AllByRecursion (λ (o : Operation). sees (version h) (stamp_of o) ≡ false) g
behind_unseen h p [] f l = tt
behind_unseen h p (op ∷ g) f l =
    let c = (checked_of p op l.0).0 in
    let r : ℕ = (stamp_of op).replica in
    let a = f r in
    let b = c.chained in
    let d = c.above r in
    let e = entry_version h r in
    (lt-leb (stamp_of op).value (entry (version h) r) (omega arith), behind_unseen h (p ++ op ∷ []) g (λ q. (let x = f q in let y = greatest_more p op q in omega arith)) l.1)

none_kept : (keep : Lamport → Bool) (g : List Operation) → AllByRecursion (λ (o : Operation). keep (stamp_of o) ≡ false) g → kept_history keep g ≡ []
none_kept keep [] e = refl
none_kept keep (o ∷ g) e = rw e.0 (none_kept keep g e.1)

front_seen : (h g : History) → Lawful h → Lawful (h ++ g) → seen_history (h ++ g) (version h) ≡ h
front_seen [] g l m = absurd l
front_seen (b ∷ h) g l m =
    let f : LawfulFrom (b ∷ h) g = (lawful_parts (b ∷ []) h g m.1).1 in
    filter-append (λ (o : Operation). sees (version (b ∷ h)) (stamp_of o)) (b ∷ h) g
    ∙ ap (λ (x : History). seen_history (b ∷ h) (version (b ∷ h)) ++ x) (none_kept (sees (version (b ∷ h))) g (behind_unseen (b ∷ h) (b ∷ h) g (λ r. omega arith) f))
    ∙ append-nil (seen_history (b ∷ h) (version (b ∷ h))) ∙ seen_all (b ∷ h)

pub fronts_seen : (h g : History) → Lawful h → Lawful (h ++ g) → IsClosed (h ++ g) (version h) × (seen_history (h ++ g) (version h) ≡ h)
fronts_seen h g l m = ((front_within h g, of_opens (h ++ g) (version h) (front_opens h g l)), front_seen h g l m)

-- ---- what a closed version sees

pub cells_only : (keep : Lamport → Bool) (s : List PathCell) → cells (only keep s) ≡ filter (λ (c : Cell). keep c.stamp) (cells s)
cells_only keep [] = refl
cells_only keep (p ∷ s) = elim (keep p.cell.stamp) as (λ b. map (λ (x : PathCell). x.cell) (cond b (p ∷ only keep s) (only keep s)) ≡ cond b (p.cell ∷ filter (λ (c : Cell). keep c.stamp) (cells s)) (filter (λ (c : Cell). keep c.stamp) (cells s)))
    [ true ↦ ap (λ x. p.cell ∷ x) (cells_only keep s) | false ↦ cells_only keep s ]

module _ (h : History) (l : Lawful h) (v : Entries) (c : IsClosed h v) where
  opens : Opens h v
  opens = opens_of h v c.1

  pub causes : (o : Operation) → In h o → sees v (stamp_of o) ≡ true → within (version_of o) v ≡ true
  causes o i s = causes_within (suc (entry v (stamp_of o).replica)) h l v opens o i (omega arith) s

  pub closed_part : Closed (sees v) (newest_first h)
  closed_part = in_tail (sees v) (newest_first h) (λ o p i j k s.
      let a = entry_within (version_of o) v (stamp_of p).replica (causes o ((newest_same h o).0 i) k) in
      let b = leb-true (stamp_of p).value (entry (version_of o) (stamp_of p).replica) s in
      le-leb (stamp_of p).value (entry v (stamp_of p).replica) (omega arith))

  pub seq_closed : seq (seen_history h v) ≡ only (sees v) (seq h)
  unfolding seq
  seq_closed = seq_seen h v ∙ sym (restrict (sees v) (newest_first h) closed_part)

  pub deleters_closed : (d : Cell) → deleters (seen_history h v) d ≡ filter (sees v) (deleters h d)
  deleters_closed d = ap (λ (x : History). deleters_where everything x d) (newest_seen h v) ∙ deleters_part everything (sees v) (newest_first h) d
      ∙ sym (deleters_restrict (sees v) (newest_first h) d closed_part)

  -- whether a cell was shown, by its deletions in the whole and the counts of what v sees
  pub shown_closed : (d : Cell) → shows (seen_history h v) d ≡ was_visible (seen_history h v) v d.stamp (deleters h d)
  unfolding shows shows_where
  shown_closed d =
      ap (λ (x : History). visible_by x d.stamp (deleters (seen_history h v) d)) (kept_all (newest_first (seen_history h v)))
      ∙ ap (λ (b : Bool). not b && are_undone (newest_first (seen_history h v)) (deleters (seen_history h v) d)) (undone_newest (seen_history h v) d.stamp)
      ∙ ap (λ (b : Bool). not (is_undone (seen_history h v) d.stamp) && b) (all_newest (seen_history h v) (deleters (seen_history h v) d))
      ∙ ap (λ (e : List Lamport). not (is_undone (seen_history h v) d.stamp) && are_undone (seen_history h v) e) (deleters_closed d)

  -- a good operation that v sees is good against what v sees before it
  good_in_part : (p : History) (op : Operation) → Lawful p → answer p [] op ≡ Good → Lawful (seen_history p v) → within (version_of op) v ≡ true → answer (seen_history p v) [] op ≡ Good
  good_in_part p op lp g ls w = elim (never_refused (p ++ op ∷ []) (seen_history p v) [] op (lawful_more p op lp g) ls (λ o i. member_left o p (op ∷ []) (in_part (sees v) p o i).0) (λ o i. absurd i) (in_last p op)) [
    | inl b ↦ absurd (no_base b.0 b.1)
    | inr r ↦ elim r [
      | inl a ↦ absurd (elim (repeat_in (seen_history p v) [] op a) [ inl i ↦ each_in (λ (o : Operation). stamp_of o ≡ stamp_of op → ⊥) p op (checked_of p op g).0.new (in_part (sees v) p op i).0 refl | inr i ↦ i ])
      | inr s ↦ elim s [ inl a ↦ absurd (not_waits (seen_history p v) [] op a.0.0 a.0.1 (within_none (seen_history p v) (version_of op) (there (version_of op) (opens_of p (version_of op) (passed p [] op g).closed) w)) a.1) | inr a ↦ a ]
    ]
  ]
    where
      no_base : (t : List ℕ) → op ≡ base t → ⊥
      no_base t e = let z = (stamp_parts op (shaped_good p op g)).2 in let y : eqb (stamp_of (base t)).replica 0 ≡ false = subst (λ (x : Operation). eqb (stamp_of x).replica 0 ≡ false) e z in cc

      there : (u : Entries) → AllByRecursion (λ (e : ℕ × ℕ). (ltb 0 e.1 && not (is_entry_closed p (version_of op) e)) ≡ false) u → within u v ≡ true → within u (version (seen_history p v)) ≡ true
      there [] o n = refl
      there (e ∷ u) o n =
          let k = and_parts (leb e.1 (entry v e.0)) (within u v) n in
          let t : leb e.1 (entry (version (seen_history p v)) e.0) ≡ true = le-leb e.1 (entry (version (seen_history p v)) e.0) (one (leb-true e.1 (entry v e.0) k.0) (cases_lt 0 e.1)) in
          rw t (there u o.1 k.1)
        where
          one : e.1 ≤ entry v e.0 → (0 < e.1) ⊎ (e.1 ≤ 0) → e.1 ≤ entry (version (seen_history p v)) e.0
          one x (inl q) =
              let m = names p (version_of op) e q o.0 in
              let a : (stamp_of m.0).value ≡ e.1 = ap (λ (t : Lamport). t.value) m.2 in
              let b : (stamp_of m.0).replica ≡ e.0 = ap (λ (t : Lamport). t.replica) m.2 in
              let y : (stamp_of m.0).value ≤ entry v (stamp_of m.0).replica = subst (λ (r : ℕ). (stamp_of m.0).value ≤ entry v r) (sym b) (omega arith) in
              let i : In (seen_history p v) m.0 = part_in (sees v) p m.0 m.1 (le-leb (stamp_of m.0).value (entry v (stamp_of m.0).replica) y) in
              let z : (stamp_of m.0).value ≤ greatest (seen_history p v) e.0 = subst (λ (r : ℕ). (stamp_of m.0).value ≤ greatest (seen_history p v) r) b (greatest_in (seen_history p v) m.0 i) in
              let f = entry_version (seen_history p v) e.0 in omega arith
          one x (inr q) = omega arith

  seen_more : (p : History) (op : Operation) → seen_history (p ++ op ∷ []) v ≡ seen_history p v ++ seen_history (op ∷ []) v
  seen_more p op = filter-append (λ (o : Operation). sees v (stamp_of o)) p (op ∷ [])

  lawful_from : (p ops : List Operation) → ((o : Operation) → In ops o → In h o) → Lawful p → LawfulFrom p ops → Lawful (seen_history p v) → Lawful (seen_history (p ++ ops) v)
  lawful_from p [] f lp ll ls = subst (λ (x : History). Lawful (seen_history x v)) (sym (append-nil p)) ls
  lawful_from p (op ∷ ops) f lp ll ls = subst (λ (x : History). Lawful (seen_history x v)) (append_assoc p (op ∷ []) ops)
      (lawful_from (p ++ op ∷ []) ops (λ o i. f o (inr i)) (lawful_more p op lp ll.0) ll.1 (one (cases_Bool (sees v (stamp_of op)))))
    where
      one : (sees v (stamp_of op) ≡ true) ⊎ (sees v (stamp_of op) ≡ false) → Lawful (seen_history (p ++ op ∷ []) v)
      one (inl s) = rw (seen_more p op, s) (lawful_more (seen_history p v) op ls (good_in_part p op lp ll.0 ls (causes op (f op (inl refl)) s)))
      one (inr s) = rw (seen_more p op, s) (subst Lawful (sym (append-nil (seen_history p v))) ls)

seen_lawful : (h : History) (l : Lawful h) (v : Entries) → IsClosed h v → sees v (record { value = 1; replica = 0 }) ≡ true → Lawful (seen_history h v)
seen_lawful [] l v c s = absurd l
seen_lawful (b ∷ ops) l v c s = lawful_from (b ∷ ops) l v c (b ∷ []) ops (λ o i. inr i) (l.0, tt) l.1
    (let t : sees v (stamp_of b) ≡ true = subst (λ (x : Operation). sees v (stamp_of x) ≡ true) (sym l.0.1) s in rw t (l.0, tt))

-- a version that has not seen the base has seen nothing
base_seen : (h : History) → Lawful h → (v : Entries) → IsClosed h v → (m : Operation) → In h m → within (version_of m) v ≡ true → ((t : List ℕ) × (m ≡ base t)) ⊎ (sees v (record { value = 1; replica = 0 }) ≡ true)
base_seen [] l v c m i w = absurd l
base_seen (b ∷ ops) l v c m i w = elim i [
  | inl e ↦ inl (l.0.0, e ∙ l.0.1)
  | inr n ↦ (let z : entry (version_of m) 0 ≡ 1 = each_in (λ (o : Operation). entry (version_of o) 0 ≡ 1) ops m (each_lawful (λ (o : Operation). entry (version_of o) 0 ≡ 1) (b ∷ []) ops one l.1) n in
      let a = entry_within (version_of m) v 0 w in inr (le-leb 1 (entry v 0) (omega arith)))
]
  where
    is_one : (x : ℕ) → not (eqb x 1) ≡ false → x ≡ 1
    is_one x e = grind (arith, nat_tests)

    one : (g : History) (o : Operation) → answer g [] o ≡ Good → entry (version_of o) 0 ≡ 1
    one g o a = is_one (entry (version_of o) 0) (shaped o (passed g [] o a).shape).base

pub seen_or_empty : (h : History) → Lawful h → (v : Entries) → IsClosed h v → IsVersion v → (v ≡ []) ⊎ Lawful (seen_history h v)
seen_or_empty h l [] c i = inl refl
seen_or_empty h l (e ∷ v) c i =
    let m = names h (e ∷ v) e i.2 (opens_of h (e ∷ v) c.1).0 in
    inr (seen_lawful h l (e ∷ v) c (elim (base_seen h l (e ∷ v) c m.0 m.1 m.3) [
      | inl b ↦ (let t : stamp_of m.0 ≡ record { value = 1; replica = 0 } = ap stamp_of b.1 in
          let s : record { value = e.1; replica = e.0 } ≡ record { value = 1; replica = 0 } = sym m.2 ∙ t in
          subst (λ (x : Lamport). sees (e ∷ v) x ≡ true) s (own (own_entries 0 (e ∷ v) i).0))
      | inr s ↦ s
    ]))
  where
    own : entry (e ∷ v) e.0 ≡ e.1 → leb e.1 (entry (e ∷ v) e.0) ≡ true
    own q = le-leb e.1 (entry (e ∷ v) e.0) (omega arith)
