-- What one more operation does to deletions, counts and shown cells.
use Rattle.std.proofs.Common.{◌≡◌, ◌⊎◌, max, Bool, List, [], ◌∷◌, ◌++◌, refl, ◌∙◌, ap, inl, inr, true, false, cond, not, ◌&&◌, arith}
use Rattle.std.proofs.lemmas.Bool.{cases_Bool, and_left, and_right}
use Rattle.lamport_clock.specs.declared.stamp.Lamport.{Lamport}
use Rattle.op_model.proofs.Elements.{and_swap}
use Rattle.op_model.specs.declared.operation.Operation.{Operation}
use Rattle.op_model.specs.Histories.{History, newer, by_stamp, newest_first, kept_history}
use Rattle.op_model.specs.Operations.{stamp_of, version_of, pieces_of, counts_of}
use Rattle.lamport_clock.specs.Versions.{sees}
use Rattle.op_model.specs.Cells.{Cell, PathCell, both, everything, seq_where}
use Rattle.op_model.specs.Shown.{greatest_given, count, is_undone, are_undone, in_ranges, visible_by, deleters_where, shows_where, shows}
use Rattle.op_model.proofs.order.Insertion.{insert_past, insert_here, filter_insert_none}
use Rattle.op_model.proofs.order.LateOperation.{Apart, unkept_anywhere, seq_unkept}
use Rattle.op_model.proofs.order.SameSets.{newer_trans, newer_total}
use Rattle.op_model.proofs.histories.OneMore.{newest_append, Fits}

-- op deletes c, seen against the part of h that keep passes
abbrev pub hits : (Lamport → Bool) → Operation → History → Cell → Bool
hits keep op h c = in_ranges (seq_where (both keep (version_of op)) h) 0 (pieces_of op) c
    && visible_by (kept_history (both keep (version_of op)) h) c.stamp (deleters_where (both keep (version_of op)) h c)

pub deleters_kept : (keep : Lamport → Bool) (op : Operation) (h : History) (c : Cell) → keep (stamp_of op) ≡ true
    → deleters_where keep (op ∷ h) c ≡ cond (hits keep op h c) (stamp_of op ∷ deleters_where keep h c) (deleters_where keep h c)
unfolding deleters_where
deleters_kept keep op h c k = rw k

pub deleters_unkept : (keep : Lamport → Bool) (op : Operation) (h : History) (c : Cell) → keep (stamp_of op) ≡ false
    → deleters_where keep (op ∷ h) c ≡ deleters_where keep h c
unfolding deleters_where
deleters_unkept keep op h c k = rw k

kept_unkept : (keep : Lamport → Bool) (op : Operation) (h : History) → keep (stamp_of op) ≡ false → kept_history keep (by_stamp op h) ≡ kept_history keep h
kept_unkept keep op h k = filter_insert_none newer newer_trans newer_total (λ (p : Operation). keep (stamp_of p)) op h k

-- whether o deletes c does not depend on an operation that o does not see
pub hits_same : (keep : Lamport → Bool) (o op : Operation) (h : History) (c : Cell) → both keep (version_of o) (stamp_of op) ≡ false
    → deleters_where (both keep (version_of o)) (by_stamp op h) c ≡ deleters_where (both keep (version_of o)) h c
    → hits keep o (by_stamp op h) c ≡ hits keep o h c
hits_same keep o op h c u d =
    let f : Lamport → Bool = both keep (version_of o) in
    let e1 = unkept_anywhere f op h u in
    let e2 = kept_unkept f op h u in
    ap (λ (x : List PathCell). in_ranges x 0 (pieces_of o) c && visible_by (kept_history f (by_stamp op h)) c.stamp (deleters_where f (by_stamp op h) c)) e1
    ∙ ap (λ (x : History). in_ranges (seq_where f h) 0 (pieces_of o) c && visible_by x c.stamp (deleters_where f (by_stamp op h) c)) e2
    ∙ ap (λ (x : List Lamport). in_ranges (seq_where f h) 0 (pieces_of o) c && visible_by (kept_history f h) c.stamp x) d

pub deleters_anywhere : (keep : Lamport → Bool) (op : Operation) (h : History) (c : Cell) → keep (stamp_of op) ≡ false
    → deleters_where keep (by_stamp op h) c ≡ deleters_where keep h c
deleters_anywhere keep op [] c e = deleters_unkept keep op [] c e
deleters_anywhere keep op (o ∷ h) c e = elim (cases_Bool (newer o op)) [
  | inl n ↦ rw (insert_past newer op o h n) (under (cases_Bool (keep (stamp_of o))) (deleters_anywhere keep op h c e)
      (deleters_anywhere (both keep (version_of o)) op h c (and_left (keep (stamp_of op)) (sees (version_of o) (stamp_of op)) e)))
  | inr n ↦ rw (insert_here newer op o h n) (deleters_unkept keep op (o ∷ h) c e)
]
  where
    under : (keep (stamp_of o) ≡ true) ⊎ (keep (stamp_of o) ≡ false) → deleters_where keep (by_stamp op h) c ≡ deleters_where keep h c
        → deleters_where (both keep (version_of o)) (by_stamp op h) c ≡ deleters_where (both keep (version_of o)) h c
        → deleters_where keep (o ∷ by_stamp op h) c ≡ deleters_where keep (o ∷ h) c
    under (inl k) f g = rw (
      deleters_kept keep o (by_stamp op h) c k,
      deleters_kept keep o h c k,
      hits_same keep o op h c (and_left (keep (stamp_of op)) (sees (version_of o) (stamp_of op)) e) g,
      f,
    )
    under (inr k) f g = rw (deleters_unkept keep o (by_stamp op h) c k, deleters_unkept keep o h c k, f)

-- whether op deletes c does not depend on an operation that op does not see
pub hits_tail : (keep : Lamport → Bool) (op o : Operation) (h : History) (c : Cell) → both keep (version_of op) (stamp_of o) ≡ false
    → hits keep op (o ∷ h) c ≡ hits keep op h c
hits_tail keep op o h c w =
    let f : Lamport → Bool = both keep (version_of op) in
    ap (λ (x : List PathCell). in_ranges x 0 (pieces_of op) c && visible_by (kept_history f (o ∷ h)) c.stamp (deleters_where f (o ∷ h) c)) (seq_unkept f o h w)
    ∙ ap (λ (x : History). in_ranges (seq_where f h) 0 (pieces_of op) c && visible_by x c.stamp (deleters_where f (o ∷ h) c)) (ap (λ (b : Bool). cond b (o ∷ kept_history f h) (kept_history f h)) w)
    ∙ ap (λ (x : List Lamport). in_ranges (seq_where f h) 0 (pieces_of op) c && visible_by (kept_history f h) c.stamp x) (deleters_unkept f o h c w)

deleter_more : (u : History) (t : Lamport) (b : Bool) (d : List Lamport) → are_undone u (cond b (t ∷ d) d) ≡ (cond b (is_undone u t) true && are_undone u d)
deleter_more u t true d = refl
deleter_more u t false d = refl

-- all deleters are undone, op among them where it deletes c
pub late_deleters : (keep : Lamport → Bool) (op : Operation) (h u : History) (c : Cell) → Apart op h → keep (stamp_of op) ≡ true
    → are_undone u (deleters_where keep (by_stamp op h) c) ≡ (cond (hits keep op h c) (is_undone u (stamp_of op)) true && are_undone u (deleters_where keep h c))
late_deleters keep op [] u c a e = ap (are_undone u) (deleters_kept keep op [] c e) ∙ deleter_more u (stamp_of op) (hits keep op [] c) (deleters_where keep [] c)
late_deleters keep op (o ∷ h) u c a e = elim (cases_Bool (newer o op)) [
  | inl n ↦ rw (insert_past newer op o h n) (under (cases_Bool (keep (stamp_of o))) (late_deleters keep op h u c a.1 e)
      (hits_same keep o op h c (and_right (keep (stamp_of op)) (sees (version_of o) (stamp_of op)) (a.0 n).0)
      (deleters_anywhere (both keep (version_of o)) op h c (and_right (keep (stamp_of op)) (sees (version_of o) (stamp_of op)) (a.0 n).0)))
      (hits_tail keep op o h c (and_right (keep (stamp_of o)) (sees (version_of op) (stamp_of o)) (a.0 n).1)))
  | inr n ↦ rw (insert_here newer op o h n) (ap (are_undone u) (deleters_kept keep op (o ∷ h) c e) ∙ deleter_more u (stamp_of op) (hits keep op (o ∷ h) c) (deleters_where keep (o ∷ h) c))
]
  where
    mix : (b : Bool) (x y : Bool) (d d' : List Lamport) → are_undone u d ≡ (y && are_undone u d')
        → are_undone u (cond b (stamp_of o ∷ d) d) ≡ (y && are_undone u (cond b (stamp_of o ∷ d') d'))
    mix true x y d d' i = ap (λ z. is_undone u (stamp_of o) && z) i ∙ and_swap (is_undone u (stamp_of o)) y (are_undone u d')
    mix false x y d d' i = i

    under : (keep (stamp_of o) ≡ true) ⊎ (keep (stamp_of o) ≡ false)
        → are_undone u (deleters_where keep (by_stamp op h) c) ≡ (cond (hits keep op h c) (is_undone u (stamp_of op)) true && are_undone u (deleters_where keep h c))
        → hits keep o (by_stamp op h) c ≡ hits keep o h c
        → hits keep op (o ∷ h) c ≡ hits keep op h c
        → are_undone u (deleters_where keep (o ∷ by_stamp op h) c) ≡ (cond (hits keep op (o ∷ h) c) (is_undone u (stamp_of op)) true && are_undone u (deleters_where keep (o ∷ h) c))
    under (inl k) ih g t = rw (deleters_kept keep o (by_stamp op h) c k, deleters_kept keep o h c k, g, t)
        (mix (hits keep o h c) true (cond (hits keep op h c) (is_undone u (stamp_of op)) true) (deleters_where keep (by_stamp op h) c) (deleters_where keep h c) ih)
    under (inr k) ih g t = rw (deleters_unkept keep o (by_stamp op h) c k, deleters_unkept keep o h c k, t) ih

-- counts do not depend on the order
pub count_by_stamp : (op : Operation) (h : History) (t : Lamport) → count (by_stamp op h) t ≡ max (greatest_given (counts_of op) t) (count h t)
count_by_stamp op [] t = refl
count_by_stamp op (o ∷ h) t = elim (cases_Bool (newer o op)) [
  | inl n ↦ (let g = count_by_stamp op h t in rw (insert_past newer op o h n) (omega arith))
  | inr n ↦ rw (insert_here newer op o h n)
]

pub kept_all : (h : History) → kept_history everything h ≡ h
kept_all [] = refl
kept_all (o ∷ h) = ap (λ (x : History). o ∷ x) (kept_all h)

-- a cell is shown with op where its edit is not undone, the edits that deleted it are undone, and op, if it deletes the
-- cell, is undone
pub shown_more : (h : History) (op : Operation) (c : Cell) → Fits h op
    → let d = newest_first h in let e = by_stamp op d in
    shows (h ++ op ∷ []) c ≡ (not (is_undone e c.stamp) && (cond (hits everything op d c) (is_undone e (stamp_of op)) true && are_undone e (deleters_where everything d c)))
unfolding shows shows_where
shown_more h op c f =
    let d : History = newest_first h in
    let e : History = by_stamp op d in
    ap (λ (x : History). visible_by (kept_history everything x) c.stamp (deleters_where everything x c)) (newest_append h op)
    ∙ ap (λ (x : History). visible_by x c.stamp (deleters_where everything e c)) (kept_all e)
    ∙ ap (λ (b : Bool). not (is_undone e c.stamp) && b) (late_deleters everything op d e c f.apart refl)
