-- What is shown in h|v, read from h.
use Rattle.std.proofs.Common.{◌≡◌, ◌⊎◌, Bool, List, [], ◌∷◌, refl, sym, ◌∙◌, ap, inl, inr, true, false, cond, ◌&&◌}
use Rattle.std.proofs.lemmas.Bool.{cases_Bool, and_left, and_right}
use Rattle.lamport_clock.specs.declared.stamp.Lamport.{Lamport}
use Rattle.op_model.specs.declared.operation.Operation.{Operation}
use Rattle.op_model.specs.Histories.{History, newest_first, kept_history, seen_history}
use Rattle.lamport_clock.specs.Versions.{Entries, sees}
use Rattle.op_model.specs.Operations.{stamp_of, version_of, pieces_of}
use Rattle.op_model.specs.Cells.{Cell, PathCell, both, everything, seq_where}
use Rattle.op_model.specs.Shown.{in_ranges, visible_by, deleters_where, shows_where, shows}
use Rattle.op_model.proofs.order.Restricted.{Agree, seq_agree, agree_both}
use Rattle.op_model.proofs.order.SameSets.{seq_part, agree_swap, newest_seen}
use Rattle.op_model.proofs.shown.Deleters.{hits, deleters_kept, deleters_unkept}

pub kept_agree : (f g : Lamport → Bool) (h : History) → Agree f g h → kept_history f h ≡ kept_history g h
kept_agree f g [] e = refl
kept_agree f g (o ∷ h) e = ap (λ (b : Bool). cond b (o ∷ kept_history f h) (kept_history f h)) e.0 ∙ ap (λ (x : History). cond (g (stamp_of o)) (o ∷ x) x) (kept_agree f g h e.1)

pub kept_kept : (f g : Lamport → Bool) (h : History) → kept_history f (kept_history g h) ≡ kept_history (λ t. f t && g t) h
kept_kept f g [] = refl
kept_kept f g (o ∷ h) = go (f (stamp_of o)) (g (stamp_of o)) (kept_kept f g h) refl refl
  where
    go : (a b : Bool) → kept_history f (kept_history g h) ≡ kept_history (λ t. f t && g t) h → f (stamp_of o) ≡ a → g (stamp_of o) ≡ b
        → kept_history f (kept_history g (o ∷ h)) ≡ kept_history (λ t. f t && g t) (o ∷ h)
    go true true i p q = rw (q, p) (ap (λ (x : History). o ∷ x) i)
    go false true i p q = rw (q, p) i
    go true false i p q = rw (q, p) i
    go false false i p q = rw (q, p) i

hits_at : (f : Lamport → Bool) (o : Operation) (h : History) (c : Cell) (s : List PathCell) (k : History) (d : List Lamport)
    → s ≡ seq_where f h → k ≡ kept_history f h → d ≡ deleters_where f h c
    → (in_ranges s 0 (pieces_of o) c && visible_by k c.stamp d) ≡ (in_ranges (seq_where f h) 0 (pieces_of o) c && visible_by (kept_history f h) c.stamp (deleters_where f h c))
hits_at f o h c s k d a b e =
    ap (λ (x : List PathCell). in_ranges x 0 (pieces_of o) c && visible_by k c.stamp d) a
    ∙ ap (λ (x : History). in_ranges (seq_where f h) 0 (pieces_of o) c && visible_by x c.stamp d) b
    ∙ ap (λ (x : List Lamport). in_ranges (seq_where f h) 0 (pieces_of o) c && visible_by (kept_history f h) c.stamp x) e

nil : (f g : Lamport → Bool) (c : Cell) → deleters_where f [] c ≡ deleters_where g [] c
unfolding deleters_where
nil f g c = refl

pub deleters_agree : (f g : Lamport → Bool) (h : History) (c : Cell) → Agree f g h → deleters_where f h c ≡ deleters_where g h c
deleters_agree f g [] c e = nil f g c
deleters_agree f g (o ∷ h) c e = go (cases_Bool (g (stamp_of o))) (deleters_agree f g h c e.1)
    (hits_at (both g (version_of o)) o h c (seq_where (both f (version_of o)) h) (kept_history (both f (version_of o)) h) (deleters_where (both f (version_of o)) h c)
    (seq_agree (both f (version_of o)) (both g (version_of o)) h (agree_both f g (version_of o) h e.1))
    (kept_agree (both f (version_of o)) (both g (version_of o)) h (agree_both f g (version_of o) h e.1))
    (deleters_agree (both f (version_of o)) (both g (version_of o)) h c (agree_both f g (version_of o) h e.1)))
  where
    go : (g (stamp_of o) ≡ true) ⊎ (g (stamp_of o) ≡ false) → deleters_where f h c ≡ deleters_where g h c → hits f o h c ≡ hits g o h c
        → deleters_where f (o ∷ h) c ≡ deleters_where g (o ∷ h) c
    go (inl k) a b = rw (deleters_kept f o h c (e.0 ∙ k), deleters_kept g o h c k, a, b)
    go (inr k) a b = rw (deleters_unkept f o h c (e.0 ∙ k), deleters_unkept g o h c k, a)

pub deleters_part : (f g : Lamport → Bool) (h : History) (c : Cell) → deleters_where f (kept_history g h) c ≡ deleters_where (λ t. f t && g t) h c
deleters_part f g [] c = nil f (λ t. f t && g t) c
deleters_part f g (o ∷ h) c = go (cases_Bool (g (stamp_of o))) (cases_Bool (f (stamp_of o))) (deleters_part f g h c)
    (hits_at (both fg v) o h c (seq_where (both f v) (kept_history g h)) (kept_history (both f v) (kept_history g h)) (deleters_where (both f v) (kept_history g h) c)
    (seq_part (both f v) g h ∙ sym (seq_agree (both fg v) (λ t. both f v t && g t) h (agree_swap f g v h)))
    (kept_kept (both f v) g h ∙ sym (kept_agree (both fg v) (λ t. both f v t && g t) h (agree_swap f g v h)))
    (deleters_part (both f v) g h c ∙ sym (deleters_agree (both fg v) (λ t. both f v t && g t) h c (agree_swap f g v h))))
  where
    v : Entries
    v = version_of o

    fg : Lamport → Bool
    fg t = f t && g t

    go : (g (stamp_of o) ≡ true) ⊎ (g (stamp_of o) ≡ false) → (f (stamp_of o) ≡ true) ⊎ (f (stamp_of o) ≡ false)
        → deleters_where f (kept_history g h) c ≡ deleters_where (λ t. f t && g t) h c
        → hits f o (kept_history g h) c ≡ hits (λ t. f t && g t) o h c
        → deleters_where f (kept_history g (o ∷ h)) c ≡ deleters_where (λ t. f t && g t) (o ∷ h) c
    go (inl k) (inl l) a b = let kl : (f (stamp_of o) && g (stamp_of o)) ≡ true = rw (l, k) in
        rw k (rw (deleters_kept f o (kept_history g h) c l, deleters_kept (λ t. f t && g t) o h c kl, a, b))
    go (inl k) (inr l) a b = let kl : (f (stamp_of o) && g (stamp_of o)) ≡ false = and_left (f (stamp_of o)) (g (stamp_of o)) l in
        rw k (rw (deleters_unkept f o (kept_history g h) c l, deleters_unkept (λ t. f t && g t) o h c kl, a))
    go (inr k) l a b = let kl : (f (stamp_of o) && g (stamp_of o)) ≡ false = and_right (f (stamp_of o)) (g (stamp_of o)) k in
        rw k (rw (deleters_unkept (λ t. f t && g t) o h c kl, a))

pub shown_part : (f g : Lamport → Bool) (h : History) (c : Cell) → shows_where f (kept_history g h) c ≡ shows_where (λ t. f t && g t) h c
unfolding shows_where
shown_part f g h c =
    ap (λ (x : History). visible_by x c.stamp (deleters_where f (kept_history g h) c)) (kept_kept f g h)
    ∙ ap (λ (x : List Lamport). visible_by (kept_history (λ t. f t && g t) h) c.stamp x) (deleters_part f g h c)

-- shown in h|v
pub shown_seen : (h : History) (v : Entries) (c : Cell) → shows (seen_history h v) c ≡ shows_where (sees v) (newest_first h) c
unfolding shows shows_where
shown_seen h v c =
    ap (λ (x : History). visible_by (kept_history everything x) c.stamp (deleters_where everything x c)) (newest_seen h v)
    ∙ ap (λ (x : History). visible_by x c.stamp (deleters_where everything (kept_history (sees v) (newest_first h)) c)) (kept_kept everything (sees v) (newest_first h))
    ∙ ap (λ (x : List Lamport). visible_by (kept_history (sees v) (newest_first h)) c.stamp x) (deleters_part everything (sees v) (newest_first h) c)
