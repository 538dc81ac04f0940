-- Two stamps that a version takes may be taken in either order.
use Rattle.std.proofs.Common.{◌≡◌, ℕ, ◌<◌, ◌≤◌, ◌≢◌, [], ◌∷◌, refl, sym, ap, ◌∙◌, arith, true, false, cond, eqb, nat_lt}
use Rattle.std.proofs.lemmas.Bool.{ltb-true}
use Rattle.std.proofs.lemmas.Bool.Decides.{nat_tests}
use Rattle.lamport_clock.specs.declared.stamp.Lamport.{Lamport}
use Rattle.lamport_clock.specs.Versions.{Entries, entry, put_entry, raise}

pub put_past : (e : ℕ × ℕ) (v : Entries) (r x : ℕ) → e.0 < r → put_entry r x (e ∷ v) ≡ e ∷ put_entry r x v
put_past e v r x h = grind (arith, nat_tests)

pub put_at : (e : ℕ × ℕ) (v : Entries) (r x : ℕ) → e.0 ≡ r → put_entry r x (e ∷ v) ≡ (r, x) ∷ v
put_at e v r x h = grind (arith, nat_tests)

pub put_before : (e : ℕ × ℕ) (v : Entries) (r x : ℕ) → r < e.0 → put_entry r x (e ∷ v) ≡ (r, x) ∷ e ∷ v
put_before e v r x h = grind (arith, nat_tests)

-- where a number stands against another
pub by_order : (P : Type 0) (a b : ℕ) → (a < b → P) → (a ≡ b → P) → (b < a → P) → P
by_order P a b low same high =
    elim (nat_lt a b) as (λ t. nat_lt a b ≡ t → P) [
      | true ↦ λ e. low (ltb-true a b e)
      | false ↦ λ e. elim (eqb a b) as (λ t. eqb a b ≡ t → P) [
        | true ↦ λ q. same (grind (arith, nat_tests))
        | false ↦ λ q. high (grind (arith, nat_tests))
      ] refl
    ] refl

pub entry-put_at : (v : Entries) (r x : ℕ) → entry (put_entry r x v) r ≡ x
entry-put_at [] r x = grind (arith, nat_tests)
entry-put_at (e ∷ v) r x =
    let ih = entry-put_at v r x in
    by_order _ e.0 r
    (λ h. ap (λ w. entry w r) (put_past e v r x h) ∙ grind (arith, nat_tests))
    (λ h. ap (λ w. entry w r) (put_at e v r x h) ∙ grind (arith, nat_tests))
    (λ h. ap (λ w. entry w r) (put_before e v r x h) ∙ grind (arith, nat_tests))

pub entry-put_off : (v : Entries) (r x q : ℕ) → q ≢ r → entry (put_entry r x v) q ≡ entry v q
entry-put_off [] r x q n = grind (arith, nat_tests)
entry-put_off (e ∷ v) r x q n =
    let ih = entry-put_off v r x q n in
    by_order _ e.0 r
    (λ h. ap (λ w. entry w q) (put_past e v r x h) ∙ ap (λ k. cond (eqb e.0 q) e.1 k) ih)
    (λ h. ap (λ w. entry w q) (put_at e v r x h) ∙ grind (arith, nat_tests))
    (λ h. ap (λ w. entry w q) (put_before e v r x h) ∙ grind (arith, nat_tests))

put-put_at : (v : Entries) (r x y : ℕ) → put_entry r x (put_entry r y v) ≡ put_entry r x v
put-put_at [] r x y = put_at (r, y) [] r x refl
put-put_at (e ∷ v) r x y =
    let ih = put-put_at v r x y in
    by_order _ e.0 r
    (λ h. ap (put_entry r x) (put_past e v r y h) ∙ put_past e (put_entry r y v) r x h ∙ ap (λ w. e ∷ w) ih ∙ sym (put_past e v r x h))
    (λ h. ap (put_entry r x) (put_at e v r y h) ∙ put_at (r, y) v r x refl ∙ sym (put_at e v r x h))
    (λ h. ap (put_entry r x) (put_before e v r y h) ∙ put_at (r, y) (e ∷ v) r x refl ∙ sym (put_before e v r x h))

put-put_less : (v : Entries) (r x q y : ℕ) → r < q → put_entry r x (put_entry q y v) ≡ put_entry q y (put_entry r x v)
put-put_less [] r x q y l = put_before (q, y) [] r x l ∙ sym (put_past (r, x) [] q y l)
put-put_less (e ∷ v) r x q y l =
    let ih = put-put_less v r x q y l in
    by_order _ e.0 r
    (λ h. let k : e.0 < q = omega arith in ap (put_entry r x) (put_past e v q y k) ∙ put_past e (put_entry q y v) r x h ∙ ap (λ w. e ∷ w) ih ∙ sym (ap (put_entry q y) (put_past e v r x h) ∙ put_past e (put_entry r x v) q y k))
    (λ h. let k : e.0 < q = omega arith in ap (put_entry r x) (put_past e v q y k) ∙ put_at e (put_entry q y v) r x h ∙ sym (ap (put_entry q y) (put_at e v r x h) ∙ put_past (r, x) v q y l))
    (λ h. let past = ap (put_entry q y) (put_before e v r x h) ∙ put_past (r, x) (e ∷ v) q y l in by_order _ e.0 q
    (λ k. ap (put_entry r x) (put_past e v q y k) ∙ put_before e (put_entry q y v) r x h ∙ sym (past ∙ ap (λ w. (r, x) ∷ w) (put_past e v q y k)))
    (λ k. ap (put_entry r x) (put_at e v q y k) ∙ put_before (q, y) v r x l ∙ sym (past ∙ ap (λ w. (r, x) ∷ w) (put_at e v q y k)))
    (λ k. ap (put_entry r x) (put_before e v q y k) ∙ put_before (q, y) (e ∷ v) r x l ∙ sym (past ∙ ap (λ w. (r, x) ∷ w) (put_before e v q y k))))

put-put_off : (v : Entries) (r x q y : ℕ) → r ≢ q → put_entry r x (put_entry q y v) ≡ put_entry q y (put_entry r x v)
put-put_off v r x q y n = by_order _ r q (λ h. put-put_less v r x q y h) (λ h. absurd (n h)) (λ h. sym (put-put_less v q y r x h))

pub raise_seen : (v : Entries) (t : Lamport) → t.value ≤ entry v t.replica → raise v t ≡ v
raise_seen v t h = grind (arith, nat_tests)

pub raise_new : (v : Entries) (t : Lamport) → entry v t.replica < t.value → raise v t ≡ put_entry t.replica t.value v
raise_new v t h = grind (arith, nat_tests)

pub by_bound : (P : Type 0) (a b : ℕ) → (a ≤ b → P) → (b < a → P) → P
by_bound P a b low high = by_order P a b (λ h. low (omega arith)) (λ h. low (omega arith)) high

-- one replica
raise-raise_at : (v : Entries) (s t : Lamport) → s.replica ≡ t.replica → s.value ≤ t.value → (raise (raise v s) t ≡ raise v t) × (raise (raise v t) s ≡ raise v t)
raise-raise_at v s t e l = by_bound _ t.value (entry v t.replica)
    (λ h. let k : s.value ≤ entry v s.replica = rw e (omega arith) in (ap (λ w. raise w t) (raise_seen v s k), ap (λ w. raise w s) (raise_seen v t h) ∙ raise_seen v s k ∙ sym (raise_seen v t h)))
    (λ h.
    let first = raise_new v t h in
    let at : entry (put_entry t.replica t.value v) s.replica ≡ t.value = rw e (entry-put_at v t.replica t.value) in
    let back = ap (λ w. raise w s) first ∙ raise_seen (put_entry t.replica t.value v) s (omega arith) ∙ sym first in (
      by_bound _ s.value (entry v s.replica)
          (λ k. ap (λ w. raise w t) (raise_seen v s k))
          (λ k. let low = raise_new v s k in
          let on : entry (put_entry s.replica s.value v) t.replica ≡ s.value = rw (← e) (entry-put_at v s.replica s.value) in
          by_bound _ t.value s.value
          (λ g. let same : s.value ≡ t.value = omega arith in ap (λ w. raise w t) low ∙ raise_seen (put_entry s.replica s.value v) t (omega arith) ∙ ap (λ w. put_entry w s.value v) e ∙ ap (λ w. put_entry t.replica w v) same ∙ sym first)
          (λ g. ap (λ w. raise w t) low ∙ raise_new (put_entry s.replica s.value v) t (omega arith) ∙ ap (λ w. put_entry t.replica t.value (put_entry w s.value v)) e ∙ put-put_at v t.replica t.value s.value ∙ sym first)),
      back,
    ))

raise-raise_off : (v : Entries) (s t : Lamport) → s.replica ≢ t.replica → raise (raise v s) t ≡ raise (raise v t) s
raise-raise_off v s t n =
    let m : t.replica ≢ s.replica = λ e. n (sym e) in
    let off_s = entry-put_off v s.replica s.value t.replica m in
    let off_t = entry-put_off v t.replica t.value s.replica n in
    by_bound _ s.value (entry v s.replica)
    (λ h. by_bound _ t.value (entry v t.replica)
    (λ k. ap (λ w. raise w t) (raise_seen v s h) ∙ raise_seen v t k ∙ sym (ap (λ w. raise w s) (raise_seen v t k) ∙ raise_seen v s h))
    (λ k. let b = raise_new v t k in ap (λ w. raise w t) (raise_seen v s h) ∙ b ∙ sym (ap (λ w. raise w s) b ∙ raise_seen (put_entry t.replica t.value v) s (omega arith))))
    (λ h. let a = raise_new v s h in by_bound _ t.value (entry v t.replica)
    (λ k. ap (λ w. raise w t) a ∙ raise_seen (put_entry s.replica s.value v) t (omega arith) ∙ sym (ap (λ w. raise w s) (raise_seen v t k) ∙ a))
    (λ k. let b = raise_new v t k in ap (λ w. raise w t) a ∙ raise_new (put_entry s.replica s.value v) t (omega arith) ∙ sym (ap (λ w. raise w s) b ∙ raise_new (put_entry t.replica t.value v) s (omega arith) ∙ put-put_off v s.replica s.value t.replica t.value n)))

pub raise-raise : (v : Entries) (s t : Lamport) → raise (raise v s) t ≡ raise (raise v t) s
raise-raise v s t = by_order _ s.replica t.replica
    (λ h. raise-raise_off v s t (λ e. absurd (omega arith)))
    (λ e. by_bound _ s.value t.value
    (λ l. let k = raise-raise_at v s t e l in k.0 ∙ sym k.1)
    (λ l. let k = raise-raise_at v t s (sym e) (omega arith) in k.1 ∙ sym k.0))
    (λ h. raise-raise_off v s t (λ e. absurd (omega arith)))
