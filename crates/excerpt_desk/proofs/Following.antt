-- What was synced of buffers, while they grow.
use Rattle.std.proofs.Common.{◌≡◌, ◌≢◌, inl, inr, ℕ, ◌+◌, ◌<◌, true, eqb, List, [], ◌∷◌, ◌++◌, length, get_or, map, set, Result, Ok, Err, IfOk, OnErr, OnOk, refl, sym, ap, ◌∙◌, subst, arith, length-append, length-set}
use Rattle.std.proofs.lemmas.Bool.{cases_Bool, cases_lt, eqb-true, eq-eqb}
use Rattle.std.proofs.lemmas.List.{get_or-set_other, get_or-set_same, get_or_append_left, get_or_default}
use Rattle.op_model.specs.Histories.{History, In}
use Rattle.op_model.specs.declared.operation.Operation.{Operation}
use Rattle.text_buffer.specs.Buffer.{BufferState}
use Rattle.multi_buffer.specs.declared.excerpt.Excerpt.{Excerpt}
use Rattle.multi_buffer.specs.Calls.{IsWithin, after_push, after_sync, excerpt_of, followed_in}
use Rattle.multi_buffer.specs.State.{MultiState, history_in, history_of, put}
use Rattle.multi_buffer.proofs.Sourced.{source-put, source-put_other}
use Rattle.excerpt_desk.specs.Desk.{AreFollowed, IsDesk, IsNowIn}

in_more : (h : History) (op o : Operation) → In h o → In (h ++ op ∷ []) o
in_more [] op o i = absurd i
in_more (x ∷ h) op o (inl e) = inl e
in_more (x ∷ h) op o (inr m) = inr (in_more h op o m)

same_within : (h g : History) → h ≡ g → IsWithin h g
same_within h g e op i = subst (λ (k : History). In k op) e i

-- a call that appends an operation or leaves all as it was
pub edited : {E : Type 0} (r : Result Operation E) (b n : BufferState) → IfOk r (λ op. n.history ≡ b.history ++ op ∷ []) → OnErr r (n ≡ b) → IsWithin b.history n.history
edited (Ok op) b n e f o i = subst (λ (k : History). In k o) (sym e) (in_more b.history op o i)
edited (Err x) b n e f o i = subst (λ (k : BufferState). In k.history o) (sym f) i

module _ (m : MultiState) (ps : List BufferState) (f : AreFollowed m ps) where
  pub followed_opened : (b : BufferState) → AreFollowed m (ps ++ b ∷ [])
  followed_opened b = record {
    within = λ k d l. elim (cases_lt k (length ps)) [
      | inl u ↦ subst (λ (p : BufferState). IsWithin (history_of k m.synced) p.history) (sym (get_or_append_left ps (b ∷ []) d k u)) (f.within k d u)
      | inr u ↦ (λ op i. (let none : In [] op = subst (λ (h : History). In h op) (f.others k u) i in absurd none))
    ];
    others = λ k l. f.others k (let e = length-append ps (b ∷ []) in omega (arith, e, l));
  }

  module _ (b : ℕ) (h : History) (n : IsNowIn ps b h) where
    pub may_sync : IsWithin (history_of b m.synced) h
    may_sync op i = (
        let d : BufferState = first ps n.page in
        subst (λ (g : History). In g op) (sym (n.now d)) (f.within b d n.page op i))
      where
        first : (qs : List BufferState) → b < length qs → BufferState
        first [] l = absurd (omega arith)
        first (q ∷ qs) l = q

    same_buffer : (k : ℕ) → k ≡ b → history_of k (put (record { buffer = b; snapshot = h }) m.synced) ≡ h
    same_buffer k e =
        ap (λ (j : ℕ). history_of j (put (record { buffer = b; snapshot = h }) m.synced)) e
        ∙ ap history_in (source-put (record { buffer = b; snapshot = h }) m.synced)

    other_buffer : (k : ℕ) → k ≢ b → history_of k (put (record { buffer = b; snapshot = h }) m.synced) ≡ history_of k m.synced
    other_buffer k e = ap history_in (source-put_other k (record { buffer = b; snapshot = h }) m.synced e)

    pub followed_synced : AreFollowed (after_sync b h m) ps
    followed_synced = record {
      within = λ k d l. elim (cases_Bool (eqb k b)) [
        | inl t ↦ (
            let e : k ≡ b = eqb-true k b t in
            same_within (history_of k (put (record { buffer = b; snapshot = h }) m.synced)) (get_or ps k d).history
            (same_buffer k e ∙ n.now d ∙ ap (λ (j : ℕ). (get_or ps j d).history) (sym e)))
        | inr t ↦ (
            let e : k ≡ b → ⊥ = λ q. (let u : eqb k b ≡ true = eq-eqb k b q in let z : ⊥ = cc in z) in
            subst (λ (g : History). IsWithin g (get_or ps k d).history) (sym (other_buffer k e)) (f.within k d l))
      ];
      others = λ k l. (let p = n.page in other_buffer k (λ q. omega (arith, q, l, p)) ∙ f.others k l);
    }

    pub followed_pushed : (s e : ℕ) → AreFollowed (after_push b h s e m) ps
    followed_pushed s e = record { within = followed_synced.within; others = followed_synced.others }

  pub followed_set : (i : ℕ) (b : BufferState) → i < length ps → ((d : BufferState) → IsWithin (get_or ps i d).history b.history) → AreFollowed m (set ps i b)
  followed_set i b l w = record {
    within = λ k d u. elim (cases_Bool (eqb k i)) [
      | inl t ↦ (
          let e : k ≡ i = eqb-true k i t in
          let h : k < length ps = omega (arith, e, l) in
          let new : b.history ≡ (get_or (set ps i b) k d).history = sym (ap (λ (j : ℕ). (get_or (set ps i b) j d).history) e ∙ ap (λ (p : BufferState). p.history) (get_or-set_same ps i b d l)) in
          let old : IsWithin (history_of k m.synced) (get_or ps i d).history = subst (λ (j : ℕ). IsWithin (history_of k m.synced) (get_or ps j d).history) e (f.within k d h) in
          (λ op x. subst (λ (g : History). In g op) new (w d op (old op x))))
      | inr t ↦ (
          let e : k ≡ i → ⊥ = λ q. (let v : eqb k i ≡ true = eq-eqb k i q in let z : ⊥ = cc in z) in
          let h : k < length ps = (let n = length-set ps i b in omega (arith, n, u)) in
          subst (λ (p : BufferState). IsWithin (history_of k m.synced) p.history) (sym (get_or-set_other ps i k b d e)) (f.within k d h))
    ];
    others = λ k u. f.others k (let n = length-set ps i b in omega (arith, n, u));
  }

-- ---- desks

same_desk : (m n : MultiState) (ps : List BufferState) (k : ℕ) → n ≡ m → IsDesk m ps k → IsDesk n ps k
same_desk m n ps k e d = subst (λ (l : MultiState). IsDesk l ps k) (sym e) d

pub open_desk : (m : MultiState) (ps qs : List BufferState) (k : ℕ) (b : BufferState) → qs ≡ ps ++ b ∷ [] → IsDesk m ps k → IsDesk m qs k
open_desk m ps qs k b e d = subst (λ (rs : List BufferState). IsDesk m rs k) (sym e) (record { followed = followed_opened m ps d.followed b; count = d.count })

map_count : (b : ℕ) (h : History) (xs : List Excerpt) → length (map (followed_in b h) xs) ≡ length xs
map_count b h [] = refl
map_count b h (x ∷ xs) = let e = map_count b h xs in omega arith

module _ (m n : MultiState) (ps : List BufferState) (k b : ℕ) (h : History) (i : IsNowIn ps b h) (d : IsDesk m ps k) where
  pub may_sync_desk : IsWithin (history_of b m.synced) h
  may_sync_desk = may_sync m ps d.followed b h i

  pub sync_desk : {T E : Type 0} (r : Result T E) → OnOk r (n ≡ after_sync b h m) → OnErr r (n ≡ m) → IsDesk n ps k
  sync_desk (Ok x) e f = subst (λ (l : MultiState). IsDesk l ps k) (sym e) (record { followed = followed_synced m ps d.followed b h i; count = map_count b h m.excerpts ∙ d.count })
  sync_desk (Err x) e f = same_desk m n ps k f d

  pub push_desk : (s e j : ℕ) → n ≡ after_push b h s e m → j ≡ k + 1 → IsDesk n ps j
  push_desk s e j f q =
      let c = map_count b h m.excerpts in
      let l = length-append (map (followed_in b h) m.excerpts) (excerpt_of b h s e ∷ []) in
      let o = d.count in
      subst (λ (g : MultiState). IsDesk g ps j) (sym f) (record { followed = followed_pushed m ps d.followed b h i s e; count = omega (arith, c, l, o, q) })

pub set_desk : (m : MultiState) (ps qs : List BufferState) (k i : ℕ) (b d : BufferState) → i < length ps → d ≡ get_or ps i d → IsWithin d.history b.history → qs ≡ set ps i b → IsDesk m ps k → IsDesk m qs k
set_desk m ps qs k i b d l e w q desk =
    subst (λ (rs : List BufferState). IsDesk m rs k) (sym q) (record {
      followed = followed_set m ps desk.followed i b l (λ f. subst (λ (p : BufferState). IsWithin p.history b.history) (e ∙ get_or_default ps i d f l) w);
      count = desk.count;
    })
