-- The walk over runs that stand for a history makes runs that stand for it with one edit more.
use Rattle.std.proofs.Common.{◌≡◌, ℕ, zero, suc, ◌+◌, ◌%◌, max, eqb, ◌<◌, Bool, List, [], ◌∷◌, ◌++◌, length, map, refl, sym, ◌∙◌, ap, subst, inl, inr, true, false, cond, arith}
use Rattle.std.proofs.lemmas.Bool.{cases_Bool}
use Rattle.std.specs.List.{AllByRecursion, filter}
use Rattle.lamport_clock.specs.declared.stamp.Lamport.{Lamport}
use Rattle.op_model.specs.declared.operation.Operation.{Operation}
use Rattle.op_model.specs.Histories.{by_stamp, seen_history, sort_onto, History, newest_first, kept_history}
use Rattle.lamport_clock.specs.Versions.{Entries, sees}
use Rattle.lamport_clock.proofs.Later.{later_irrefl}
use Rattle.lamport_clock.proofs.Sees.{passed_unseen}
use Rattle.op_model.specs.Operations.{stamp_of, version_of, pieces_of, counts_of, is_edit}
use Rattle.op_model.specs.Cells.{PathCell, seq, seq_where, cells}
use Rattle.op_model.specs.Laid.{only}
use Rattle.op_model.specs.Shown.{in_pieces, count, is_undone, are_undone}
use Rattle.op_model.specs.Answers.{answer}
use Rattle.op_model.specs.Facts.{Fact, fact, cell_facts, alike, Marking, edit_marking, lay_facts, marks, with_deletion, was_visible}
use Rattle.op_model.specs.declared.operation.Operation.TheVariants.{Edit, Undo}
use Rattle.op_model.specs.Answers.{answer}
use Rattle.op_model.specs.Answers.Answer.{Good}
use Rattle.op_model.specs.Walked.{Run, facts_of, kept_len, Ordered, walk}
use Rattle.op_model.proofs.shown.Walking.{walk_lays}
use Rattle.op_model.proofs.shown.EditTold.{edit_told}
use Rattle.op_model.proofs.answers.Counted.{Counted, uncounted_new, good_ordered}
use Rattle.op_model.proofs.order.Restricted.{restrict}
use Rattle.op_model.proofs.order.SameSets.{newest_seen, newest_desc}
use Rattle.op_model.proofs.shown.Deleters.{count_by_stamp}
use Rattle.op_model.proofs.histories.OneMore.{Fits}
use Rattle.op_model.proofs.answers.Good.{Ready, good_more, checked_of, fits_of, lawful_ready}
use Rattle.op_model.specs.Lawful.{Lawful}

-- how many facts are of cells whose stamps pass
pub passing_facts : (Lamport → Bool) → List Fact → ℕ
passing_facts keep [] = 0
passing_facts keep (q ∷ s) = cond (keep q.cell.stamp) (suc (passing_facts keep s)) (passing_facts keep s)

pub count_alike : (keep : Lamport → Bool) (u : Lamport) (o n : ℕ) (v : Bool) (d : List Lamport) (s : List Fact)
    → passing_facts keep (alike u o n v d ++ s) ≡ cond (keep u) (n + passing_facts keep s) (passing_facts keep s)
unfolding passing_facts
count_alike keep u o zero v d s = elim (cases_Bool (keep u)) [ inl k ↦ rw k (omega arith) | inr k ↦ rw k refl ]
count_alike keep u o (suc n) v d s = let ih = count_alike keep u (suc o) n v d s in
    elim (cases_Bool (keep u)) [ inl k ↦ (let g = rw k at ih in rw k (omega arith)) | inr k ↦ (let g = rw k at ih in rw k g) ]

pub count_runs : (keep : Lamport → Bool) (fs : List Run) → passing_facts keep (facts_of fs) ≡ kept_len keep fs
unfolding passing_facts
count_runs keep [] = refl
count_runs keep (f ∷ fs) = count_alike keep f.stamp f.offset f.len f.visible f.deletions (facts_of fs) ∙ rw (count_runs keep fs) refl

pub count_places : (h : History) (keep : Lamport → Bool) (s : List PathCell) → passing_facts keep (map (fact h) (cells s)) ≡ length (only keep s)
unfolding passing_facts
count_places h keep [] = refl
count_places h keep (q ∷ s) = elim (cases_Bool (keep q.cell.stamp)) [ inl k ↦ rw k (ap suc (count_places h keep s)) | inr k ↦ rw k (count_places h keep s) ]

pub no_counts : (op : Operation) → is_edit op ≡ true → counts_of op ≡ []
no_counts (Edit x) e = refl
no_counts (Undo x) e = cc

pub not_self : (h : History) (op : Operation) → Fits h op → sees (version_of op) (stamp_of op) ≡ false
not_self h op f = elim (cases_Bool (sees (version_of op) (stamp_of op))) [ inl k ↦ (let g = f.above (stamp_of op) k in let n = later_irrefl (stamp_of op) in cc) | inr k ↦ k ]

-- cells, what is shown of them and their deletions
pub walk_told : (h : History) (op : Operation) (rs : List Run) → Ready h → Counted h → answer h [] op ≡ Good → is_edit op ≡ true
    → AllByRecursion (λ (x : Run). 0 < x.len) rs → facts_of rs ≡ cell_facts h
    → facts_of (walk (edit_marking (stamp_of op) (kept_history (sees (version_of op)) (newest_first h)) (version_of op)) (sees (version_of op)) (stamp_of op) 0 0 (pieces_of op) rs) ≡ cell_facts (h ++ op ∷ [])
unfolding seq
walk_told h op rs r c e i l s =
    let m : Marking = edit_marking (stamp_of op) (kept_history (sees (version_of op)) (newest_first h)) (version_of op) in
    let v : Lamport → Bool = sees (version_of op) in
    let k = checked_of h op e in
    let f : Fits h op = fits_of h op r.0 k.0 k.1 in
    let new = k.0.new in
    let desc = newest_desc h r.0.distinct in
    let t = edit_told h op f desc (no_counts op i) (uncounted_new h (stamp_of op) c new) (good_more h op r e).1 in
    let n : kept_len v rs ≡ length (seq_where v (newest_first h)) = sym (count_runs v rs) ∙ ap (passing_facts v) s ∙ count_places h v (seq h) ∙ ap length (restrict v (newest_first h) f.closed) in
    let o : Ordered 0 (0 + kept_len v rs) (pieces_of op) = subst (λ z. Ordered 0 z (pieces_of op)) (omega arith) (good_ordered h op e) in
    sym (walk_lays m v (stamp_of op) (in_pieces (pieces_of op))
    (not_self h op f) (later_irrefl (stamp_of op)) (λ u. passed_unseen (version_of op) (stamp_of op) u f.above) 0 0 (pieces_of op) rs l o (λ j x. refl))
    ∙ ap (λ (z : List Fact). lay_facts v (stamp_of op) 0 0 (pieces_of op) (marks m v (in_pieces (pieces_of op)) 0 z)) s ∙ sym t

-- counts do not depend on the order
count_onto : (d h : History) (t : Lamport) → count (sort_onto d h) t ≡ max (count d t) (count h t)
count_onto d [] t = omega arith
count_onto d (o ∷ h) t = let a = count_onto (by_stamp o d) h t in let b = count_by_stamp o d t in omega arith

pub count_newest : (h : History) (t : Lamport) → count (newest_first h) t ≡ count h t
count_newest h t = let a = count_onto [] h t in omega arith

pub count_seen : (h : History) (v : Entries) (t : Lamport) → count (kept_history (sees v) (newest_first h)) t ≡ count (seen_history h v) t
count_seen h v t = ap (λ (x : History). count x t) (sym (newest_seen h v)) ∙ count_newest (seen_history h v) t

same_undone : (a b : History) → ((t : Lamport) → count a t ≡ count b t) → (t : Lamport) → is_undone a t ≡ is_undone b t
same_undone a b f t = ap (λ (n : ℕ). eqb (n % 2) 1) (f t)

all_same : (a b : History) → ((t : Lamport) → count a t ≡ count b t) → (d : List Lamport) → are_undone a d ≡ are_undone b d
all_same a b f [] = refl
all_same a b f (t ∷ d) = rw (same_undone a b f t, all_same a b f d) refl

pub undone_newest : (h : History) (t : Lamport) → is_undone (newest_first h) t ≡ is_undone h t
undone_newest h t = same_undone (newest_first h) h (count_newest h) t

pub all_newest : (h : History) (d : List Lamport) → are_undone (newest_first h) d ≡ are_undone h d
all_newest h d = all_same (newest_first h) h (count_newest h) d

visible_same : (a b : History) (v : Entries) → ((t : Lamport) → count a t ≡ count b t) → (u : Lamport) (d : List Lamport) → was_visible a v u d ≡ was_visible b v u d
visible_same a b v f u d = rw (same_undone a b f u, all_same a b f (filter (sees v) d)) refl

pub marking_same : (t : Lamport) (a b : History) (v : Entries) → ((t : Lamport) → count a t ≡ count b t) → edit_marking t a v ≡ edit_marking t b v
marking_same t a b v f = λ i. record {
  visible = λ u x d. cond (visible_same a b v f u d i) false x;
  deletions = λ u d. cond (visible_same a b v f u d i) (with_deletion t d) d;
}

-- the same by the part that the version sees
pub walk_seen : (h : History) (op : Operation) (rs : List Run) → Ready h → Counted h → answer h [] op ≡ Good → is_edit op ≡ true
    → AllByRecursion (λ (x : Run). 0 < x.len) rs → facts_of rs ≡ cell_facts h
    → facts_of (walk (edit_marking (stamp_of op) (seen_history h (version_of op)) (version_of op)) (sees (version_of op)) (stamp_of op) 0 0 (pieces_of op) rs) ≡ cell_facts (h ++ op ∷ [])
walk_seen h op rs r c e i l s =
    ap (λ (m : Marking). facts_of (walk m (sees (version_of op)) (stamp_of op) 0 0 (pieces_of op) rs))
    (sym (marking_same (stamp_of op) (kept_history (sees (version_of op)) (newest_first h)) (seen_history h (version_of op)) (version_of op) (count_seen h (version_of op))))
    ∙ walk_told h op rs r c e i l s

pub unseen_self : (h : History) (op : Operation) → Lawful h → answer h [] op ≡ Good → sees (version_of op) (stamp_of op) ≡ false
unseen_self h op l g = let k = checked_of h op g in not_self h op (fits_of h op (lawful_ready h l).0 k.0 k.1)
