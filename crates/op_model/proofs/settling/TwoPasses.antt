-- Two passes are enough: what the second finds without a missing cause it refuses or drops.
use Rattle.std.proofs.Common.{◌≡◌, ℕ, suc, ◌<◌, ◌≤◌, ◌⊎◌, List, [], ◌∷◌, ◌++◌, length, refl, sym, ◌∙◌, ap, subst, inl, inr, true, false, cond, not, ◌&&◌, eqb, ltb, leb, arith}
use Rattle.std.specs.List.{AllByRecursion, find}
use Rattle.std.proofs.lemmas.Bool.{leb-false, le-leb, cases_lt, eq-eqb}
use Rattle.lamport_clock.specs.declared.stamp.Lamport.{Lamport}
use Rattle.lamport_clock.specs.Versions.{Entries, entry, within}
use Rattle.lamport_clock.proofs.Later.{not_below}
use Rattle.op_model.specs.declared.operation.Operation.{Operation}
use Rattle.op_model.specs.Rules.{Rules}
use Rattle.op_model.specs.Sorted.{Ascending}
use Rattle.op_model.specs.Operations.{stamp_of, version_of}
use Rattle.op_model.specs.Histories.{History, In, version}
use Rattle.op_model.specs.Answers.{is_entry_closed}
use Rattle.op_model.specs.Settled.{State, Turn, turn, pass, passes, settle}
use Rattle.op_model.specs.Settled.Turn.{Append, Drop, Stay, Refuse}
use Rattle.op_model.specs.Steps.{older}
use Rattle.op_model.proofs.order.SameSets.{each_in}
use Rattle.op_model.proofs.histories.Lawful.{entry_version, greatest_in, in_append}
use Rattle.op_model.proofs.answers.Passed.{passed, shaped, find_none, map_none}
use Rattle.op_model.proofs.answers.Good.{stamp_parts, entry_named, named}
use Rattle.op_model.proofs.settling.Settling.{after, pass_is, append_good, stay_misses}

-- what a pass adds was waiting
pub pass_adds : (l : Rules) (h : History) (w : List Operation) (m : Operation) → In (pass l h w).history m → In h m ⊎ In w m
unfolding pass
pass_adds l h [] m i = inl i
pass_adds l h (op ∷ w) m i = go (turn l h op) (subst (λ (s : State). In s.history m) (pass_is l h op w) i) (λ j. pass_adds l (h ++ op ∷ []) w m j) (λ j. pass_adds l h w m j)
  where
    tail : In h m ⊎ In w m → In h m ⊎ In (op ∷ w) m
    tail (inl a) = inl a
    tail (inr b) = inr (inr b)

    more : In (h ++ op ∷ []) m ⊎ In w m → In h m ⊎ In (op ∷ w) m
    more (inl a) = elim (in_append h op m a) [ inl b ↦ inl b | inr b ↦ inr (inl b) ]
    more (inr b) = inr (inr b)

    go : (t : Turn) → In (after t l h op w).history m → (In (pass l (h ++ op ∷ []) w).history m → In (h ++ op ∷ []) m ⊎ In w m) → (In (pass l h w).history m → In h m ⊎ In w m) → In h m ⊎ In (op ∷ w) m
    go Append j f g = more (f j)
    go Drop j f g = tail (g j)
    go Stay j f g = tail (g j)
    go (Refuse x) j f g = tail (g j)

-- an operation that missed a cause in h misses it in g, if g has nothing more of values below its own, or is not good
-- there
stuck : (l : Rules) (h g : History) (op : Operation) → turn l h op ≡ Stay → ((m : Operation) → In g m → (stamp_of m).value < (stamp_of op).value → In h m) → turn l g op ≡ Append → ⊥
stuck l h g op s f a =
    let p = passed g [] op (append_good l g op a) in
    let b = (stamp_parts op (shaped op p.shape).stamp).1 in
    let c = find_none (λ e. ltb 0 e.1 && not (is_entry_closed g (version_of op) e)) (version_of op) (map_none (λ e. e.0) (find (λ e. ltb 0 e.1 && not (is_entry_closed g (version_of op) e)) (version_of op)) p.closed) in
    let t : within (version_of op) (version h) ≡ true = go (version_of op) b c in
    let n = stay_misses l h op s in cc
  where
    one : (e : ℕ × ℕ) → leb (stamp_of op).value e.1 ≡ false → (ltb 0 e.1 && not (is_entry_closed g (version_of op) e)) ≡ false → leb e.1 (entry (version h) e.0) ≡ true
    one e x y = elim (cases_lt 0 e.1) [
      | inl q ↦ (let w = entry_named g (version_of op) e (named (is_entry_closed g (version_of op) e) e.1 q y) in
          let v : (stamp_of w.0).value ≡ e.1 = ap (λ (t : Lamport). t.value) w.2 in
          let r : (stamp_of w.0).replica ≡ e.0 = ap (λ (t : Lamport). t.replica) w.2 in
          let k = leb-false (stamp_of op).value e.1 x in
          let i : In h w.0 = f w.0 w.1 (omega arith) in
          let z = greatest_in h w.0 i in
          let y2 : (stamp_of w.0).value ≤ entry (version h) e.0 = subst (λ (n : ℕ). (stamp_of w.0).value ≤ entry (version h) n) r (subst (λ (n : ℕ). (stamp_of w.0).value ≤ n) (sym (entry_version h (stamp_of w.0).replica)) z) in
          le-leb e.1 (entry (version h) e.0) (omega arith))
      | inr q ↦ le-leb e.1 (entry (version h) e.0) (omega arith)
    ]

    go : (v : Entries) → AllByRecursion (λ (e : ℕ × ℕ). leb (stamp_of op).value e.1 ≡ false) v → AllByRecursion (λ (e : ℕ × ℕ). (ltb 0 e.1 && not (is_entry_closed g (version_of op) e)) ≡ false) v → within v (version h) ≡ true
    go [] x y = refl
    go (e ∷ v) x y = let a = one e x.0 y.0 in rw a (go v x.1 y.1)

-- what a pass leaves waiting is appended by no pass directly after it
pub pass_stuck : (l : Rules) (h : History) (w : List Operation) → Ascending older w → AllByRecursion (λ (op : Operation). turn l (pass l h w).history op ≡ Append → ⊥) (pass l h w).waiting
unfolding pass
pass_stuck l h [] u = tt
pass_stuck l h (op ∷ w) u = subst (λ (s : State). AllByRecursion (λ (o : Operation). turn l s.history o ≡ Append → ⊥) s.waiting) (sym (pass_is l h op w))
    (go (turn l h op) refl (pass_stuck l (h ++ op ∷ []) w u.1) (pass_stuck l h w u.1))
  where
    behind : (m : Operation) → In (pass l h w).history m → (stamp_of m).value < (stamp_of op).value → In h m
    behind m i b = elim (pass_adds l h w m i) [
      | inl a ↦ a
      | inr a ↦ absurd (let k = not_below (stamp_of m) (stamp_of op) (each_in (λ (o : Operation). older op o ≡ true) w m u.0 a) in omega arith)
    ]

    go : (t : Turn) → turn l h op ≡ t → AllByRecursion (λ (o : Operation). turn l (pass l (h ++ op ∷ []) w).history o ≡ Append → ⊥) (pass l (h ++ op ∷ []) w).waiting
        → AllByRecursion (λ (o : Operation). turn l (pass l h w).history o ≡ Append → ⊥) (pass l h w).waiting
        → AllByRecursion (λ (o : Operation). turn l (after t l h op w).history o ≡ Append → ⊥) (after t l h op w).waiting
    go Append e a b = a
    go Drop e a b = b
    go Stay e a b = (stuck l h (pass l h w).history op e behind, b)
    go (Refuse x) e a b = b

unmoved : (l : Rules) (h : History) (w : List Operation) → AllByRecursion (λ (op : Operation). turn l h op ≡ Append → ⊥) w → (pass l h w).history ≡ h
unfolding pass
unmoved l h [] e = refl
unmoved l h (op ∷ w) e = ap (λ (s : State). s.history) (pass_is l h op w) ∙ go (turn l h op) refl (unmoved l h w e.1)
  where
    go : (t : Turn) → turn l h op ≡ t → (pass l h w).history ≡ h → (after t l h op w).history ≡ h
    go Append q f = absurd (e.0 q)
    go Drop q f = f
    go Stay q f = f
    go (Refuse x) q f = f

last_pass : (n : ℕ) (l : Rules) (h : History) (w : List Operation) → (pass l h w).history ≡ h → passes (suc n) l h w ≡ pass l h w
unfolding passes
last_pass n l h w e = let t : eqb (length (pass l h w).history) (length h) ≡ true = ap (λ (g : History). eqb (length g) (length h)) e ∙ eq-eqb (length h) (length h) refl in rw t refl

two : (n m : ℕ) (l : Rules) (h : History) (w : List Operation) → Ascending older w → passes (suc (suc n)) l h w ≡ passes (suc (suc m)) l h w
unfolding passes
two n m l h w u =
    let s : State = pass l h w in
    let e : (pass l s.history s.waiting).history ≡ s.history = unmoved l s.history s.waiting (pass_stuck l h w u) in
    let q : passes (suc n) l s.history s.waiting ≡ passes (suc m) l s.history s.waiting = last_pass n l s.history s.waiting e ∙ sym (last_pass m l s.history s.waiting e) in
    ap (λ (r : State). cond (eqb (length s.history) (length h)) s (record { history = r.history; waiting = r.waiting; refused = s.refused ++ r.refused })) q

pub two_passes : (l : Rules) (h : History) (w : List Operation) → Ascending older w → settle l h w ≡ passes 2 l h w
unfolding settle
two_passes l h [] u = none l h
  where
    none : (l : Rules) (h : History) → passes 1 l h [] ≡ passes 2 l h []
    none l h = last_pass 0 l h [] (unmoved l h [] tt) ∙ sym (last_pass 1 l h [] (unmoved l h [] tt))
two_passes l h (x ∷ w) u = two (length w) 0 l h (x ∷ w) u
