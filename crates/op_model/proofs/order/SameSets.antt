-- What is defined from a history depends on its set of operations alone; the part that a version sees.
use Rattle.std.proofs.Math.Bool.{and-true}
use Rattle.op_model.proofs.Elements.{each_map}
use Rattle.std.proofs.Common.{◌≡◌, ◌⊎◌, Bool, [], ◌∷◌, refl, sym, ◌∙◌, ap, subst, inl, inr, true, false, ◌&&◌}
use Rattle.std.specs.List.{AllByRecursion}
use Rattle.std.proofs.lemmas.Bool.{cases_Bool, and_left, and_right, not-false}
use Rattle.lamport_clock.specs.Stamps.{later}
use Rattle.lamport_clock.specs.declared.stamp.Lamport.{Lamport}
use Rattle.op_model.specs.declared.operation.Operation.{Operation}
use Rattle.op_model.specs.Histories.{In, SameSet, Distinct, History, newer, by_stamp, newest_first, sort_onto, kept_history, seen_history}
use Rattle.lamport_clock.specs.Versions.{Entries, sees}
use Rattle.lamport_clock.proofs.Later.{later_trans, not_later_trans, not_later_total, no_both, later_strictly}
use Rattle.op_model.specs.Operations.{stamp_of, version_of}
use Rattle.op_model.specs.Cells.{both, everything, seq_where, seq}
use Rattle.op_model.specs.Shown.{text_where, text}
use Rattle.op_model.specs.Sorted.{Ascending}
use Rattle.op_model.proofs.order.Insertion.{insert_past, insert_here, each_insert, insert_up, filter_insert, filter_insert_none}
use Rattle.op_model.proofs.order.LateOperation.{seq_nil, seq_kept, seq_unkept}
use Rattle.op_model.proofs.order.Restricted.{Agree, seq_agree}

pub newer_trans : (a b c : Operation) → newer a b ≡ true → newer b c ≡ true → newer a c ≡ true
newer_trans a b c h g = not_later_trans (stamp_of a) (stamp_of b) (stamp_of c) h g

pub newer_total : (a b : Operation) → newer a b ≡ false → newer b a ≡ true
newer_total a b h = not_later_total (stamp_of a) (stamp_of b) h

-- in descending stamps no stamp stands twice
abbrev pub Desc : History → Type 0
Desc [] = Unit {0}
Desc (o ∷ h) = AllByRecursion (λ (p : Operation). later (stamp_of o) (stamp_of p) ≡ true) h × Desc h

pub each_in : (P : Operation → Type 0) (h : History) (o : Operation) → AllByRecursion P h → In h o → P o
each_in P [] o e i = absurd i
each_in P (p ∷ h) o e i = elim i [ inl q ↦ subst P (sym q) e.0 | inr q ↦ each_in P h o e.1 q ]

pub desc_same : (h g : History) → Desc h → Desc g → SameSet h g → h ≡ g
desc_same [] [] dh dg s = refl
desc_same [] (q ∷ g) dh dg s = absurd ((s q).1 (inl refl))
desc_same (p ∷ h) [] dh dg s = absurd ((s p).0 (inl refl))
desc_same (p ∷ h) (q ∷ g) dh dg s = let e : h ≡ g = desc_same h g dh.1 dg.1 tails in let f : p ≡ q = heads in cc
  where
    heads : p ≡ q
    heads = elim ((s p).0 (inl refl)) [
      | inl e ↦ e
      | inr i ↦ elim ((s q).1 (inl refl)) [
        | inl e ↦ sym e
        | inr j ↦ absurd (no_both (stamp_of q) (stamp_of p) (each_in (λ (o : Operation). later (stamp_of q) (stamp_of o) ≡ true) g p dg.0 i)
            (each_in (λ (o : Operation). later (stamp_of p) (stamp_of o) ≡ true) h q dh.0 j))
      ]
    ]

    self : (x y o : Operation) → x ≡ y → o ≡ x → later (stamp_of y) (stamp_of o) ≡ true → ⊥
    self x y o e f l = no_both (stamp_of o) (stamp_of o) (subst (λ (z : Operation). later (stamp_of z) (stamp_of o) ≡ true) (sym (f ∙ e)) l) (subst (λ (z : Operation). later (stamp_of z) (stamp_of o) ≡ true) (sym (f ∙ e)) l)

    tails : SameSet h g
    tails o = (
      (λ i. elim ((s o).0 (inr i)) [ inl e ↦ absurd (self q p o (sym heads) e (each_in (λ (x : Operation). later (stamp_of p) (stamp_of x) ≡ true) h o dh.0 i)) | inr j ↦ j ]),
      (λ i. elim ((s o).1 (inr i)) [ inl e ↦ absurd (self p q o heads e (each_in (λ (x : Operation). later (stamp_of q) (stamp_of x) ≡ true) g o dg.0 i)) | inr j ↦ j ]),
    )

in_insert : (x : Operation) (h : History) (o : Operation) → In (by_stamp x h) o → In (x ∷ h) o
in_insert x [] o i = i
in_insert x (p ∷ h) o i = go (cases_Bool (newer p x)) (in_insert x h o) i
  where
    go : (newer p x ≡ true) ⊎ (newer p x ≡ false) → (In (by_stamp x h) o → In (x ∷ h) o) → In (by_stamp x (p ∷ h)) o → In (x ∷ p ∷ h) o
    go (inl n) f j = let k : In (p ∷ by_stamp x h) o = subst (λ (z : History). In z o) (insert_past newer x p h n) j in
        elim k [ inl e ↦ inr (inl e) | inr l ↦ elim (f l) [ inl e ↦ inl e | inr m ↦ inr (inr m) ] ]
    go (inr n) f j = subst (λ (z : History). In z o) (insert_here newer x p h n) j

insert_in : (x : Operation) (h : History) (o : Operation) → In (x ∷ h) o → In (by_stamp x h) o
insert_in x [] o i = i
insert_in x (p ∷ h) o i = go (cases_Bool (newer p x)) (insert_in x h o) i
  where
    go : (newer p x ≡ true) ⊎ (newer p x ≡ false) → (In (x ∷ h) o → In (by_stamp x h) o) → In (x ∷ p ∷ h) o → In (by_stamp x (p ∷ h)) o
    go (inl n) f j = subst (λ (z : History). In z o) (sym (insert_past newer x p h n))
        (elim j [ inl e ↦ inr (f (inl e)) | inr k ↦ elim k [ inl e ↦ inl e | inr l ↦ inr (f (inr l)) ] ])
    go (inr n) f j = subst (λ (z : History). In z o) (sym (insert_here newer x p h n)) j

desc_insert : (x : Operation) (h : History) → AllByRecursion (λ (p : Operation). stamp_of p ≡ stamp_of x → ⊥) h → Desc h → Desc (by_stamp x h)
desc_insert x [] n d = (tt, tt)
desc_insert x (p ∷ h) n d = elim (cases_Bool (newer p x)) [
  | inl b ↦ rw (insert_past newer x p h b)
      (each_insert (λ (q : Operation). later (stamp_of p) (stamp_of q) ≡ true) newer x h (later_strictly (stamp_of p) (stamp_of x) b (λ e. n.0 (sym e))) d.0, desc_insert x h n.1 d.1)
  | inr b ↦ (let l : later (stamp_of x) (stamp_of p) ≡ true = not-false (later (stamp_of x) (stamp_of p)) b in
      rw (insert_here newer x p h b) (
        (
          l,
          each_map (λ (q : Operation). later (stamp_of p) (stamp_of q) ≡ true) (λ (q : Operation). later (stamp_of x) (stamp_of q) ≡ true)
              (λ q g. later_trans (stamp_of x) (stamp_of p) (stamp_of q) l g) h d.0,
        ),
        d,
      ))
]

-- apart from those of d
Apart_from : History → History → Type 0
Apart_from d [] = Unit {0}
Apart_from d (o ∷ h) = AllByRecursion (λ (p : Operation). stamp_of p ≡ stamp_of o → ⊥) d × Apart_from d h

apart_more : (x : Operation) (d h : History) → AllByRecursion (λ (p : Operation). stamp_of p ≡ stamp_of x → ⊥) h → Apart_from d h → Apart_from (by_stamp x d) h
unfolding Apart_from
apart_more x d [] n a = tt
apart_more x d (o ∷ h) n a = (each_insert (λ (p : Operation). stamp_of p ≡ stamp_of o → ⊥) newer x d (λ e. n.0 (sym e)) a.0, apart_more x d h n.1 a.1)

desc_sort : (d h : History) → Desc d → Distinct h → Apart_from d h → Desc (sort_onto d h)
unfolding Apart_from
desc_sort d [] dd n a = dd
desc_sort d (o ∷ h) dd n a = desc_sort (by_stamp o d) h (desc_insert o d a.0 dd) n.1 (apart_more o d h n.0 a.1)

apart_none : (h : History) → Apart_from [] h
unfolding Apart_from
apart_none [] = tt
apart_none (o ∷ h) = (tt, apart_none h)

pub newest_desc : (h : History) → Distinct h → Desc (newest_first h)
newest_desc h n = desc_sort [] h tt n (apart_none h)

in_sort : (d h : History) (o : Operation) → In (sort_onto d h) o → In d o ⊎ In h o
in_sort d [] o i = inl i
in_sort d (x ∷ h) o i = elim (in_sort (by_stamp x d) h o i)
    [ inl j ↦ elim (in_insert x d o j) [ inl e ↦ inr (inl e) | inr k ↦ inl k ] | inr j ↦ inr (inr j) ]

sort_in : (d h : History) (o : Operation) → In d o ⊎ In h o → In (sort_onto d h) o
sort_in d [] o i = elim i [ inl j ↦ j | inr j ↦ absurd j ]
sort_in d (x ∷ h) o i = sort_in (by_stamp x d) h o
    (elim i [ inl j ↦ inl (insert_in x d o (inr j)) | inr j ↦ elim j [ inl e ↦ inl (insert_in x d o (inl e)) | inr k ↦ inr k ] ])

pub newest_same : (h : History) → SameSet (newest_first h) h
newest_same h o = ((λ i. elim (in_sort [] h o i) [ inl j ↦ absurd j | inr j ↦ j ]), (λ i. sort_in [] h o (inr i)))

-- two lists of one set of operations have one order by stamps
pub newest_of_set : (h g : History) → Distinct h → Distinct g → SameSet h g → newest_first h ≡ newest_first g
newest_of_set h g dh dg s = desc_same (newest_first h) (newest_first g) (newest_desc h dh) (newest_desc g dg)
    (λ o. ((λ i. (newest_same g o).1 ((s o).0 ((newest_same h o).0 i))), (λ i. (newest_same h o).1 ((s o).1 ((newest_same g o).0 i)))))

pub seq_of_set : (h g : History) → Distinct h → Distinct g → SameSet h g → seq h ≡ seq g
unfolding seq
seq_of_set h g dh dg s = ap (seq_where everything) (newest_of_set h g dh dg s)

pub text_of_set : (h g : History) → Distinct h → Distinct g → SameSet h g → text h ≡ text g
unfolding text
text_of_set h g dh dg s = ap (text_where everything) (newest_of_set h g dh dg s)

-- h|v sorted is sorted h, as v sees it
sort_kept : (keep : Lamport → Bool) (d h : History) → Ascending newer d → sort_onto (kept_history keep d) (kept_history keep h) ≡ kept_history keep (sort_onto d h)
sort_kept keep d [] u = refl
sort_kept keep d (o ∷ h) u = go (cases_Bool (keep (stamp_of o))) (sort_kept keep (by_stamp o d) h (insert_up newer newer_trans newer_total o d u))
  where
    go : (keep (stamp_of o) ≡ true) ⊎ (keep (stamp_of o) ≡ false)
        → sort_onto (kept_history keep (by_stamp o d)) (kept_history keep h) ≡ kept_history keep (sort_onto (by_stamp o d) h)
        → sort_onto (kept_history keep d) (kept_history keep (o ∷ h)) ≡ kept_history keep (sort_onto d (o ∷ h))
    go (inl k) f = rw k (ap (λ (z : History). sort_onto z (kept_history keep h)) (sym (filter_insert newer newer_trans newer_total (λ (p : Operation). keep (stamp_of p)) o d u k)) ∙ f)
    go (inr k) f = rw k (ap (λ (z : History). sort_onto z (kept_history keep h)) (sym (filter_insert_none newer newer_trans newer_total (λ (p : Operation). keep (stamp_of p)) o d k)) ∙ f)

pub newest_seen : (h : History) (v : Entries) → newest_first (seen_history h v) ≡ kept_history (sees v) (newest_first h)
newest_seen h v = sort_kept (sees v) [] h tt

and_swap_last : (a b c : Bool) → ((a && b) && c) ≡ ((a && c) && b)
and_swap_last true true c = sym (and-true c)
and_swap_last true false true = refl
and_swap_last true false false = refl
and_swap_last false b c = refl

pub agree_swap : (f g : Lamport → Bool) (v : Entries) (h : History) → Agree (both (λ t. f t && g t) v) (λ t. both f v t && g t) h
agree_swap f g v [] = tt
agree_swap f g v (o ∷ h) = (and_swap_last (f (stamp_of o)) (g (stamp_of o)) (sees v (stamp_of o)), agree_swap f g v h)

-- the sequence of a part is the sequence of what passes
pub seq_part : (f g : Lamport → Bool) (h : History) → seq_where f (kept_history g h) ≡ seq_where (λ t. f t && g t) h
seq_part f g [] = seq_nil f ∙ sym (seq_nil (λ t. f t && g t))
seq_part f g (o ∷ h) = go (cases_Bool (g (stamp_of o))) (cases_Bool (f (stamp_of o))) (seq_part f g h)
    (seq_part (both f (version_of o)) g h ∙ sym (seq_agree (both (λ t. f t && g t) (version_of o)) (λ t. both f (version_of o) t && g t) h (agree_swap f g (version_of o) h)))
  where
    go : (g (stamp_of o) ≡ true) ⊎ (g (stamp_of o) ≡ false) → (f (stamp_of o) ≡ true) ⊎ (f (stamp_of o) ≡ false)
        → seq_where f (kept_history g h) ≡ seq_where (λ t. f t && g t) h
        → seq_where (both f (version_of o)) (kept_history g h) ≡ seq_where (both (λ t. f t && g t) (version_of o)) h
        → seq_where f (kept_history g (o ∷ h)) ≡ seq_where (λ t. f t && g t) (o ∷ h)
    go (inl k) (inl l) a b = let kl : (f (stamp_of o) && g (stamp_of o)) ≡ true = rw (l, k) in
        rw k (rw (seq_kept f o (kept_history g h) l, seq_kept (λ t. f t && g t) o h kl, a, b))
    go (inl k) (inr l) a b = let kl : (f (stamp_of o) && g (stamp_of o)) ≡ false = and_left (f (stamp_of o)) (g (stamp_of o)) l in
        rw k (rw (seq_unkept f o (kept_history g h) l, seq_unkept (λ t. f t && g t) o h kl, a))
    go (inr k) l a b = let kl : (f (stamp_of o) && g (stamp_of o)) ≡ false = and_right (f (stamp_of o)) (g (stamp_of o)) k in
        rw k (rw (seq_unkept (λ t. f t && g t) o h kl, a))

-- seq(h|v), of the list that v sees, is the part of seq's definition that v sees
pub seq_seen : (h : History) (v : Entries) → seq (seen_history h v) ≡ seq_where (sees v) (newest_first h)
unfolding seq
seq_seen h v = ap (seq_where everything) (newest_seen h v) ∙ seq_part everything (sees v) (newest_first h)
