-- Each step keeps the rule of a worker's queue.
use Rattle.std.proofs.Common.{◌≡◌, ◌≢◌, ℕ, zero, suc, ◌+◌, ◌≤◌, true, false, true≢false, List, [], ◌∷◌, ◌++◌, length, set, sym, refl, ap, ◌∙◌, subst, ⊎_elim, append_assoc, length-append, arith}
use mathlib.Core.Option.{some, some-ne-none}
use lib.ListN.{get_elem?}
use Rattle.std.specs.List.{All, Contains}
use Rattle.std.proofs.lemmas.List.Elements.{All-append, All-cons, All-nil, All-contains, Contains-append_right}
use Rattle.crossbeam_queue.specs.Fifo.{Pushes, Pops, Forks, Merges, Learns}
use Rattle.crossbeam_queue.proofs.Lists.{at_set, at_snoc}
use Rattle.snapshot_pub.specs.States.{ReaderState}
use Rattle.queries.specs.declared.job.Entry.{Entry}
use Rattle.queries.specs.declared.queue.Log.{Log}
use Rattle.queries.specs.Queue.{log, Fits, IsHandedOn, IsFor}

module _ {Q : Type 0} where
  at_end : (l : List (Log Q)) (a b : Log Q) (j : ℕ) → get_elem? l j ≢ some b → get_elem? (l ++ a ∷ []) j ≡ some b → j ≡ length l
  at_end [] a b zero n e = refl
  at_end [] a b (suc j) n e = absurd (some-ne-none b (sym e))
  at_end (x ∷ xs) a b zero n e = absurd (n e)
  at_end (x ∷ xs) a b (suc j) n e = ap suc (at_end xs a b j n e)

  abbrev Each : (ℕ → Log Q → Type 0) → List (Log Q) → Type 0
  Each F views = (port : ℕ) (v : Log Q) → get_elem? views port ≡ some v → F port v

  each_set : (F : ℕ → Log Q → Type 0) (views : List (Log Q)) (port : ℕ) (w : Log Q) → F port w → ((j : ℕ) (u : Log Q) → j ≢ port → get_elem? views j ≡ some u → F j u) → Each F (set views port w)
  each_set F views port w mine others j u e = ⊎_elim (λ (x : (j ≡ port) × (w ≡ u)). subst (λ (y : ℕ × Log Q). F y.0 y.1) (λ i. (sym x.0 i, x.1 i)) mine)
      (λ (x : (j ≢ port) × (get_elem? views j ≡ some u)). others j u x.0 x.1) (at_set views port j w u e)

  pub begins : IsHandedOn {Q = Q} [] (log true true [] [] [] ∷ [])
  begins = (
    0,
    0,
    [],
    [],
    [],
    refl,
    All-nil (IsFor []),
    each_set (Fits 0 0 [] [] []) (log true true [] [] [] ∷ []) 0 (log true true [] [] []) ((λ _. (refl, refl, refl)), λ _. (refl, refl, refl)) (λ j u other e. absurd (other (at_end [] _ u j (λ x. some-ne-none u (sym x)) e))),
  )

  pub sends : (n port : ℕ) (v : Log Q) (x : Entry Q) → v.sends ≡ true → IsFor v.readers x → Pushes IsHandedOn n port v x (λ w. w ≡ log v.sends v.takes (v.sent ++ x ∷ []) v.taken v.readers)
  sends n port v x may own items views _ h at =
      let w : Log Q = log v.sends v.takes (v.sent ++ x ∷ []) v.taken v.readers in
      let mine = h.7 port v at in
      let sent = h.2 ++ x ∷ [] in
      let own' : IsFor h.4 x = subst (λ (l : List ReaderState). IsFor l x) (mine.0 may).2 own in (
        w,
        (
          h.0,
          h.1,
          sent,
          h.3,
          h.4,
          ap (λ l. l ++ x ∷ []) h.5 ∙ append_assoc h.3 items (x ∷ []),
          All-append (IsFor h.4) h.2 (x ∷ []) h.6 (All-cons (IsFor h.4) x [] own' (All-nil (IsFor h.4))),
          each_set (Fits h.0 h.1 sent h.3 h.4) views port w ((λ _. ((mine.0 may).0, ap (λ l. l ++ x ∷ []) (mine.0 may).1, (mine.0 may).2)), mine.1)
              (λ j u other e. ((λ p. absurd (other (((h.7 j u e).0 p).0 ∙ sym (mine.0 may).0))), (h.7 j u e).1)),
        ),
        refl,
      )

  contains_front : (x : Entry Q) (items : List (Entry Q)) → Contains (x ∷ items) x
  contains_front x items = (0, omega arith, refl)

  pub gets : (port : ℕ) (v : Log Q) → v.takes ≡ true → Pops IsHandedOn port v (λ x w. (w ≡ log v.sends v.takes v.sent (v.taken ++ x ∷ []) v.readers) × IsFor v.readers x)
  gets port v may x items views h at =
      let w : Log Q = log v.sends v.takes v.sent (v.taken ++ x ∷ []) v.readers in
      let mine = h.7 port v at in
      let taken = h.3 ++ x ∷ [] in
      let there : Contains h.2 x = subst (λ (l : List (Entry Q)). Contains l x) (sym h.5) (Contains-append_right h.3 (x ∷ items) x (contains_front x items)) in
      let own : IsFor v.readers x = subst (λ (l : List ReaderState). IsFor l x) (sym (mine.1 may).2) (All-contains (IsFor h.4) h.2 x h.6 there) in (
        w,
        (
          h.0,
          h.1,
          h.2,
          taken,
          h.4,
          h.5 ∙ sym (append_assoc h.3 (x ∷ []) items),
          h.6,
          each_set (Fits h.0 h.1 h.2 taken h.4) views port w (mine.0, λ _. ((mine.1 may).0, ap (λ l. l ++ x ∷ []) (mine.1 may).1, (mine.1 may).2))
              (λ j u other e. ((h.7 j u e).0, λ p. absurd (other (((h.7 j u e).1 p).0 ∙ sym (mine.1 may).0)))),
        ),
        (refl, own),
      )

  -- before anything was sent, the readers may be chosen
  pub forks : (port : ℕ) (v : Log Q) (readers : List ReaderState) → v.sends ≡ true → v.takes ≡ true → v.sent ≡ []
      → Forks IsHandedOn port v (log true false v.sent [] readers) (log false true [] v.taken readers)
  forks port v readers a b none items views h at =
      let l : Log Q = log true false v.sent [] readers in
      let r : Log Q = log false true [] v.taken readers in
      let mine = h.7 port v at in
      let vs : List (Log Q) = set views port l in
      let empty : h.2 ≡ [] = sym (mine.0 a).1 ∙ none in
      let Old : ℕ → Log Q → Type 0 = λ j u. (u.sends ≡ true → (j ≡ h.0) × (u.sent ≡ h.2) × (u.readers ≡ readers)) × (u.takes ≢ true) in
      let old : Each Old vs = each_set Old views port l ((λ _. ((mine.0 a).0, (mine.0 a).1, refl)), λ p. true≢false (sym p))
      (λ j u other e. ((λ p. absurd (other (((h.7 j u e).0 p).0 ∙ sym (mine.0 a).0))), λ p. other (((h.7 j u e).1 p).0 ∙ sym (mine.1 b).0))) in (
        h.0,
        length vs,
        h.2,
        h.3,
        readers,
        h.5,
        subst (λ (s : List (Entry Q)). All (IsFor readers) s) (sym empty) (All-nil (IsFor readers)),
        λ j u e. ⊎_elim (λ x. ((old j u x).0, λ p. absurd ((old j u x).1 p)))
            (λ (is : r ≡ u). ((λ p. absurd (true≢false (sym (ap (λ (y : Log Q). y.sends) is ∙ p)))), λ p. (at_end vs r u j (λ x. (old j u x).1 p) e, ap (λ (y : Log Q). y.taken) (sym is) ∙ (mine.1 b).1, ap (λ (y : Log Q). y.readers) (sym is)))) (at_snoc vs r u j e),
      )

  pub merges : (port : ℕ) (v : Log Q) (other : ℕ) (u : Log Q) → v.sends ≡ true → u.takes ≡ true → Merges IsHandedOn port v other u (log true true v.sent u.taken v.readers) (log false false [] [] [])
  merges port v other u a b items views h at two at' =
      let both : Log Q = log true true v.sent u.taken v.readers in
      let mine = h.7 port v at in
      let vs : List (Log Q) = set views port both in
      let was : get_elem? views other ≡ some u = ⊎_elim (λ x. absurd (two x.0)) (λ x. x.1) (at_set views port other both u at') in
      let theirs = (h.7 other u was).1 b in
      let Now : ℕ → Log Q → Type 0 = λ j y. j ≢ other → Fits h.0 port h.2 h.3 h.4 j y in
      let now : Each Now vs = each_set Now views port both (λ _. ((λ _. mine.0 a), λ _. (refl, theirs.1, (mine.0 a).2))) (λ j y _ e apart. ((h.7 j y e).0, λ p. absurd (apart (((h.7 j y e).1 p).0 ∙ sym theirs.0)))) in
      (h.0, port, h.2, h.3, h.4, h.5, h.6, each_set (Fits h.0 port h.2 h.3 h.4) vs other (log false false [] [] []) ((λ p. absurd (true≢false (sym p))), λ p. absurd (true≢false (sym p))) (λ j y apart e. now j y e apart))

  pub rests : (port : ℕ) (v : Log Q) → v.sends ≡ true → v.takes ≡ true → Learns IsHandedOn port v (λ items. v.sent ≡ v.taken ++ items)
  rests port v a b items views h at = let mine = h.7 port v at in (mine.0 a).1 ∙ h.5 ∙ ap (λ l. l ++ items) (sym (mine.1 b).1)

  pub sent_bound : (port : ℕ) (v : Log Q) → v.sends ≡ true → Learns IsHandedOn port v (λ items. length items ≤ length v.sent)
  sent_bound port v may items views h at =
      let mine = ((h.7 port v at).0 may).1 in
      let e : length v.sent ≡ length h.3 + length items = ap (λ (l : List (Entry Q)). length l) (mine ∙ h.5) ∙ length-append h.3 items in
      omega arith

  -- before anything was sent, the pass may be split
  pub fresh_forks : (port : ℕ) (v : Log Q) (readers : List ReaderState) → v ≡ log true true [] [] [] → Forks IsHandedOn port v (log true false v.sent [] readers) (log false true [] v.taken readers)
  fresh_forks port v readers is = forks port v readers (ap (λ (w : Log Q). w.sends) is) (ap (λ (w : Log Q). w.takes) is) (ap (λ (w : Log Q). w.sent) is)

  -- a pass that sends and takes knows what is left
  pub joined_rests : (port : ℕ) (v : Log Q) (sent taken : List (Entry Q)) (readers : List ReaderState) → v ≡ log true true sent taken readers → Learns IsHandedOn port v (λ items. v.sent ≡ v.taken ++ items)
  joined_rests port v sent taken readers is = rests port v (ap (λ (w : Log Q). w.sends) is) (ap (λ (w : Log Q). w.takes) is)

  pub joined_rest : (v : Log Q) (sent taken : List (Entry Q)) (readers : List ReaderState) → v ≡ log true true sent taken readers → ((items : List (Entry Q)) × (v.sent ≡ v.taken ++ items))
      → (items : List (Entry Q)) × (sent ≡ taken ++ items)
  joined_rest v sent taken readers is h = (h.0, sym (ap (λ (w : Log Q). w.sent) is) ∙ (h.1 ∙ ap (λ (w : Log Q). w.taken ++ h.0) is))
