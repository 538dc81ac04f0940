-- Spans with one widened or inserted.
use Rattle.std.proofs.Common.{◌≡◌, ℕ, suc, ◌+◌, ◌<◌, List, [], ◌∷◌, length, drop, refl, sym, ap, ◌∙◌, arith, true, false, cond, eqb, nat_lt, get_or, set, eq-eqb, ne_eqb, Some, slice_get}
use Rattle.std.proofs.Math.ListN.{length-set}
use Rattle.std.proofs.lemmas.List.{drop_more}
use Rattle.std.proofs.lemmas.Option.{same_Some}
use Rattle.std.proofs.lemmas.Bool.{and_parts, and_from}
use Rattle.std.proofs.lemmas.Bool.Decides.{nat_tests}
use Rattle.std.specs.List.{refill, insert}
use Rattle.lamport_clock.proofs.Entries.{refilled}
use Rattle.lamport_clock.proofs.Raises.{by_order}
use Rattle.fragments.specs.declared.spans.Span.{Span}
use Rattle.fragments.specs.Spans.{hull, with_span, join_spans, spans_before, has_replica, has_replicas}
use Rattle.fragments.specs.SpanLaws.{past, at, before}

widen_set : (u : List Span) (x old : Span) → slice_get u (spans_before u x.replica) ≡ Some old → old.replica ≡ x.replica → set u (spans_before u x.replica) (hull old x) ≡ with_span x u
widen_set [] x old = λ h e. cc
widen_set (y ∷ u) x old =
    elim (nat_lt y.replica x.replica) as (λ b. nat_lt y.replica x.replica ≡ b → slice_get (y ∷ u) (cond b (suc (spans_before u x.replica)) 0) ≡ Some old → old.replica ≡ x.replica
    → set (y ∷ u) (cond b (suc (spans_before u x.replica)) 0) (hull old x) ≡ cond b (y ∷ with_span x u) (cond (eqb y.replica x.replica) (hull y x ∷ u) (x ∷ y ∷ u))) [
      | true ↦ λ b h e. ap (λ l. y ∷ l) (widen_set u x old h e)
      | false ↦ λ b h e. let same : y ≡ old = same_Some y old h in let q : eqb y.replica x.replica ≡ true = eq-eqb y.replica x.replica (ap (λ (z : Span). z.replica) same ∙ e) in
          ap (λ (z : Span). hull z x ∷ u) (sym same) ∙ ap (λ t. cond t (hull y x ∷ u) (x ∷ y ∷ u)) (sym q)
    ] refl

widen_insert : (u : List Span) (x : Span) → ((old : Span) → slice_get u (spans_before u x.replica) ≡ Some old → old.replica ≡ x.replica → ⊥) → insert u (spans_before u x.replica) x ≡ with_span x u
widen_insert [] x = λ h. refl
widen_insert (y ∷ u) x =
    elim (nat_lt y.replica x.replica) as (λ b. nat_lt y.replica x.replica ≡ b → ((old : Span) → slice_get (y ∷ u) (cond b (suc (spans_before u x.replica)) 0) ≡ Some old → old.replica ≡ x.replica → ⊥)
    → insert (y ∷ u) (cond b (suc (spans_before u x.replica)) 0) x ≡ cond b (y ∷ with_span x u) (cond (eqb y.replica x.replica) (hull y x ∷ u) (x ∷ y ∷ u))) [
      | true ↦ λ b h. ap (λ l. y ∷ l) (widen_insert u x h)
      | false ↦ λ b h. let q : eqb y.replica x.replica ≡ false = ne_eqb y.replica x.replica (h y refl) in ap (λ t. cond t (hull y x ∷ u) (x ∷ y ∷ u)) (sym q)
    ] refl

pub set_here : (u s1 s2 s3 : List Span) (i : ℕ) (x old h : Span) → s1 ≡ u → s2 ≡ u → s3 ≡ u → i ≡ spans_before s1 x.replica → (slice_get s2 i ≡ Some old) × (old.replica ≡ x.replica) → h ≡ hull old x
    → refill (length u) u (set s3 i h) ≡ with_span x u
set_here u s1 s2 s3 i x old h a b c p f e =
    let k = rw (b, p, a) at f.0 in
    rw (c, p, a, e) (refilled u (set u (spans_before u x.replica) (hull old x)) (length-set u _ _) ∙ widen_set u x old k f.1)

pub insert_here : (u s1 s2 new : List Span) (i : ℕ) (x : Span) → s1 ≡ u → s2 ≡ u → i ≡ spans_before s1 x.replica → ((old : Span) → slice_get s2 i ≡ Some old → old.replica ≡ x.replica → ⊥) → new ≡ insert u i x → new ≡ with_span x u
insert_here u s1 s2 new i x a b p h e =
    let j : i ≡ spans_before u x.replica = p ∙ ap (λ (z : List Span). spans_before z x.replica) a in
    let k : (old : Span) → slice_get u (spans_before u x.replica) ≡ Some old → old.replica ≡ x.replica → ⊥ = λ old f. h old (ap (λ (z : List Span). slice_get z i) b ∙ ap (slice_get u) j ∙ f) in
    e ∙ ap (λ n. insert u n x) j ∙ widen_insert u x k

-- ---- a span of each replica

-- a replica with a span keeps one if a span is widened or put in
replica_kept : (u : List Span) (x : Span) (r : ℕ) → has_replica u r ≡ true → has_replica (with_span x u) r ≡ true
replica_kept [] x r h = cc
replica_kept (y ∷ u) x r h =
    by_order _ y.replica x.replica
    (λ k. ap (λ w. has_replica w r) (past y u x k) ∙ elim (nat_lt y.replica r) as (λ b. cond b (has_replica u r) (eqb y.replica r) ≡ true → cond b (has_replica (with_span x u) r) (eqb y.replica r) ≡ true) [
      | true ↦ λ e. replica_kept u x r e
      | false ↦ λ e. e
    ] h)
    (λ k. ap (λ w. has_replica w r) (at y u x k) ∙ h)
    (λ k. ap (λ w. has_replica w r) (before y u x k) ∙ elim (nat_lt x.replica r) as (λ b. nat_lt x.replica r ≡ b → cond b (has_replica (y ∷ u) r) (eqb x.replica r) ≡ true) [
      | true ↦ λ e. h
      | false ↦ λ e. grind (arith, nat_tests)
    ] refl)

-- and so does each of the others' replicas
replicas_kept : (u v : List Span) (x : Span) → has_replicas u v ≡ true → has_replicas (with_span x u) v ≡ true
replicas_kept u [] x h = refl
replicas_kept u (y ∷ v) x h = let k = and_parts _ _ h in and_from _ _ (replica_kept u x y.replica k.0) (replicas_kept u v x k.1)

-- a list's next span is widened while the later ones wait
pub next_widened : (s w j items : List Span) (i : ℕ) (d : Span) → i < length items → join_spans s (drop i items) ≡ j → has_replicas s (drop i items) ≡ true → w ≡ with_span (get_or items i d) s
    → (join_spans w (drop (i + 1) items) ≡ j) × (has_replicas w (drop (i + 1) items) ≡ true)
next_widened s w j items i d lt e h n =
    let rest = drop (i + 1) items in
    let cut : drop i items ≡ get_or items i d ∷ rest = drop_more items i d lt in
    let all : has_replicas s (get_or items i d ∷ rest) ≡ true = ap (has_replicas s) (sym cut) ∙ h in
    (ap (λ z. join_spans z rest) n ∙ ap (join_spans s) (sym cut) ∙ e, ap (λ z. has_replicas z rest) n ∙ replicas_kept s rest (get_or items i d) (and_parts _ _ all).1)

here_within : (u : List Span) (r : ℕ) → has_replica u r ≡ true → spans_before u r < length u
here_within [] r = λ h. cc
here_within (y ∷ u) r =
    elim (nat_lt y.replica r) as (λ b. cond b (has_replica u r) (eqb y.replica r) ≡ true → cond b (suc (spans_before u r)) 0 < length (y ∷ u)) [
      | true ↦ λ h. let k = here_within u r h in omega arith
      | false ↦ λ h. omega arith
    ]

here_set : (u : List Span) (x d : Span) → has_replica u x.replica ≡ true → set u (spans_before u x.replica) (hull (get_or u (spans_before u x.replica) d) x) ≡ with_span x u
here_set [] x d = λ h. cc
here_set (y ∷ u) x d =
    elim (nat_lt y.replica x.replica) as (λ b. cond b (has_replica u x.replica) (eqb y.replica x.replica) ≡ true
    → set (y ∷ u) (cond b (suc (spans_before u x.replica)) 0) (hull (get_or (y ∷ u) (cond b (suc (spans_before u x.replica)) 0) d) x) ≡ cond b (y ∷ with_span x u) (cond (eqb y.replica x.replica) (hull y x ∷ u) (x ∷ y ∷ u))) [
      | true ↦ λ h. ap (λ l. y ∷ l) (here_set u x d h)
      | false ↦ λ h. sym (ap (λ t. cond t (hull y x ∷ u) (x ∷ y ∷ u)) h)
    ]

pub within_here : (u s t : List Span) (i r : ℕ) → s ≡ u → t ≡ u → i ≡ spans_before s r → has_replica u r ≡ true → i < length t
within_here u s t i r a b p h = rw (b, p, a) (here_within u r h)

pub widened_here : (w u s1 s2 s3 : List Span) (i : ℕ) (x d h : Span) → w ≡ u → s1 ≡ w → s2 ≡ w → s3 ≡ u → i ≡ spans_before s1 x.replica → h ≡ hull (get_or s2 i d) x → has_replica w x.replica ≡ true
    → refill (length u) u (set s3 i h) ≡ with_span x w
widened_here w u s1 s2 s3 i x d h o a b c p e k =
    rw (e, c, b, p, a, sym o) (refilled w (set w (spans_before w x.replica) (hull (get_or w (spans_before w x.replica) d) x)) (length-set w _ _) ∙ here_set w x d k)
