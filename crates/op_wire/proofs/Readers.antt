-- What is read is what was written, what was written is read, and a faulty field stays faulty whatever follows.
use Rattle.std.proofs.Common.{◌≡◌, ℕ, ◌+◌, ◌^◌, ◌<◌, ◌≤◌, ◌⊎◌, inl, inr, Bool, true, false, cond, ltb, List, ◌++◌, length, take, drop, Result, Ok, Err, refl, sym, ap, subst, ◌∙◌, append_assoc, arith, length-append}
use Rattle.std.specs.Int.{Width, w16, w32, w64, byte_len, from_be_bytes, to_be_bytes}
use Rattle.std.proofs.lemmas.Bool.{cases_lt, ltb-false, le-ltb}
use Rattle.std.proofs.lemmas.List.{take_at, drop_at, take-append-drop, length-take, get_or-drop, get_or-take, get_or_past}
use Rattle.std.proofs.lemmas.Nat.{be_bytes_2, be_bytes_4, be_bytes_8, from_be_bytes-to_be_bytes_2, from_be_bytes-to_be_bytes_4, from_be_bytes-to_be_bytes_8}
use Rattle.op_wire.specs.declared.fault.Word.{Word}
use Rattle.op_wire.specs.declared.fault.Stop.{Stop}
use Rattle.op_wire.specs.declared.fault.Stop.TheVariants.{Short, Bad}
use Rattle.op_wire.specs.Reading.{IsBytes, ◌>>=◌, number_at, refused, checked_at}

pub IsBytes-drop : (n : ℕ) (bytes : List ℕ) → IsBytes bytes → IsBytes (drop n bytes)
IsBytes-drop n bytes h i = rw get_or-drop (h (n + i))

pub IsBytes-take : (n : ℕ) (bytes : List ℕ) → IsBytes bytes → IsBytes (take n bytes)
IsBytes-take n bytes h i =
    elim (cases_lt i n) [
      | inl lt ↦ rw (get_or-take n bytes i 0 lt) (h i)
      | inr le ↦ rw (get_or_past (take n bytes) i 0 (omega (arith, length-take n bytes))) (omega arith)
    ]

-- what a reader took from the front
pub record Takes (bytes text rest : List ℕ) : Type 0 where
  pub parts : bytes ≡ text ++ rest
  pub rest_fits : IsBytes rest

pub Takes-then : (a x b y c : List ℕ) → Takes a x b → Takes b y c → Takes a (x ++ y) c
Takes-then a x b y c p q = record { parts = p.parts ∙ ap (λ (t : List ℕ). x ++ t) q.parts ∙ sym (append_assoc x y c); rest_fits = q.rest_fits }

rest-within : (bytes x rest : List ℕ) (n : ℕ) → Takes bytes x rest → n ≤ length rest → n ≤ length bytes
rest-within bytes x rest n t le = omega (arith, le, ap length t.parts ∙ length-append x rest)

-- it reads what the values that fit are spelled as, and nothing else
pub record IsReader {A : Type 0} (spell : A → List ℕ) (Fits : A → Type 0) (read : List ℕ → Result (A × List ℕ) Stop) : Type 0 where
  pub takes : (bytes : List ℕ) (x : A × List ℕ) → IsBytes bytes → read bytes ≡ Ok x → Takes bytes (spell x.0) x.1 × Fits x.0
  pub again : (x : A) (rest : List ℕ) → Fits x → read (spell x ++ rest) ≡ Ok (x, rest)
  pub within : (bytes : List ℕ) (w : Word) (n : ℕ) → IsBytes bytes → read bytes ≡ Err (Bad w n) → n ≤ length bytes
  pub stays : (bytes more : List ℕ) (w : Word) (n : ℕ) → IsBytes bytes → read bytes ≡ Err (Bad w n) → read (bytes ++ more) ≡ Err (Bad w (n + length more))

-- what was read is read again whatever follows
pub more : {A : Type 0} (spell : A → List ℕ) (Fits : A → Type 0) (read : List ℕ → Result (A × List ℕ) Stop) → IsReader spell Fits read
    → (bytes after : List ℕ) (x : A × List ℕ) → IsBytes bytes → read bytes ≡ Ok x → read (bytes ++ after) ≡ Ok (x.0, x.1 ++ after)
more spell Fits read reads bytes after x fits e =
    let t = reads.takes bytes x fits e in
    ap read (ap (λ (b : List ℕ). b ++ after) t.0.parts ∙ append_assoc (spell x.0) x.1 after) ∙ reads.again x.0 (x.1 ++ after) t.1

-- ---- one step after the other

pub bind_ok : {A B : Type 0} (r : Result A Stop) (f : A → Result B Stop) (y : B) → (r >>= f) ≡ Ok y → (x : A) × (r ≡ Ok x) × (f x ≡ Ok y)
bind_ok (Ok x) f y e = (x, refl, e)
bind_ok (Err d) f y e = absurd cc

pub bind_err : {A B : Type 0} (r : Result A Stop) (f : A → Result B Stop) (d : Stop) → (r >>= f) ≡ Err d → (r ≡ Err d) ⊎ ((x : A) × (r ≡ Ok x) × (f x ≡ Err d))
bind_err (Ok x) f d e = inr (x, refl, e)
bind_err (Err c) f d e = inl cc

abbrev done : {A : Type 0} → A → Result A Stop
done x = Ok x

pub ok_is : {A : Type 0} (x y : A) → done x ≡ done y → x ≡ y
ok_is x y e = cc

pub never : {A : Type 0} {B : Type 0} (x : A) (d : Stop) → done x ≡ Err d → B
never x d e = absurd cc

-- f, then g by what f gave, and both joined
abbrev pub both : {A B C : Type 0} → (A → B → C) → (List ℕ → Result (A × List ℕ) Stop) → (A → List ℕ → Result (B × List ℕ) Stop) → List ℕ → Result (C × List ℕ) Stop
both join f g bytes = f bytes >>= λ x. g x.0 x.1 >>= λ y. Ok (join x.0 y.0, y.1)

-- a value that fits is joined from two that fit
abbrev pub Joins : {A B C : Type 0} → (A → B → C) → (A → Type 0) → (A → B → Type 0) → C → Type 0
Joins {A} {B} join P Q c = (a : A) × (b : B) × P a × Q a b × (join a b ≡ c)

pub both-reads : {A B C : Type 0} (join : A → B → C) (f : List ℕ → Result (A × List ℕ) Stop) (g : A → List ℕ → Result (B × List ℕ) Stop)
    (s : A → List ℕ) (t : A → B → List ℕ) (P : A → Type 0) (Q : A → B → Type 0) (u : C → List ℕ) (R : C → Type 0)
    → ((a : A) (b : B) → P a → Q a b → u (join a b) ≡ s a ++ t a b)
    → ((a : A) (b : B) → P a → Q a b → R (join a b))
    → ((c : C) → R c → Joins join P Q c)
    → IsReader s P f → ((a : A) → P a → IsReader (t a) (Q a) (g a)) → IsReader u R (both join f g)
both-reads {A} {B} {C} join f g s t P Q u R spelled fits parts F G = record {
  takes = λ bytes x ok e.
      let a = bind_ok (f bytes) (λ x. g x.0 x.1 >>= λ y. Ok (join x.0 y.0, y.1)) x e in
      let b = bind_ok (g a.0.0 a.0.1) (λ y. Ok (join a.0.0 y.0, y.1)) x a.2 in
      let t1 = F.takes bytes a.0 ok a.1 in
      let t2 = (G a.0.0 t1.1).takes a.0.1 b.0 t1.0.rest_fits b.1 in
      let made : C × List ℕ = (join a.0.0 b.0.0, b.0.1) in
      let joined = Takes-then bytes (s a.0.0) a.0.1 (t a.0.0 b.0.0) b.0.1 t1.0 t2.0 in
      subst (λ (y : C × List ℕ). Takes bytes (u y.0) y.1 × R y.0) (ok_is made x b.2) (rw (spelled a.0.0 b.0.0 t1.1 t2.1) joined, fits a.0.0 b.0.0 t1.1 t2.1);
  again = λ c rest h.
      let p = parts c h in
      let e : u c ++ rest ≡ s p.0 ++ (t p.0 p.1 ++ rest) = ap (λ (x : C). u x ++ rest) (sym p.4) ∙ ap (λ (x : List ℕ). x ++ rest) (spelled p.0 p.1 p.2 p.3) ∙ append_assoc (s p.0) (t p.0 p.1) rest in
      ap (both join f g) e ∙ rw (F.again p.0 (t p.0 p.1 ++ rest) p.2, (G p.0 p.2).again p.1 rest p.3) (ap (λ (x : C). Ok (x, rest)) p.4);
  within = λ bytes w n ok e.
      elim (bind_err (f bytes) (λ x. g x.0 x.1 >>= λ y. Ok (join x.0 y.0, y.1)) (Bad w n) e) [
        | inl h ↦ F.within bytes w n ok h
        | inr h ↦
            let t1 = F.takes bytes h.0 ok h.1 in
            elim (bind_err (g h.0.0 h.0.1) (λ y. Ok (join h.0.0 y.0, y.1)) (Bad w n) h.2) [
              | inl k ↦ rest-within bytes (s h.0.0) h.0.1 n t1.0 ((G h.0.0 t1.1).within h.0.1 w n t1.0.rest_fits k)
              | inr k ↦ never _ _ k.2
            ]
      ];
  stays = λ bytes after w n ok e.
      elim (bind_err (f bytes) (λ x. g x.0 x.1 >>= λ y. Ok (join x.0 y.0, y.1)) (Bad w n) e) [
        | inl h ↦ rw (F.stays bytes after w n ok h) refl
        | inr h ↦
            let t1 = F.takes bytes h.0 ok h.1 in
            elim (bind_err (g h.0.0 h.0.1) (λ y. Ok (join h.0.0 y.0, y.1)) (Bad w n) h.2) [
              | inl k ↦ rw (more s P f F bytes after h.0 ok h.1, (G h.0.0 t1.1).stays h.0.1 after w n t1.0.rest_fits k) refl
              | inr k ↦ never _ _ k.2
            ]
      ];
}

-- the same reader
pub alike-reads : {A : Type 0} (u : A → List ℕ) (R : A → Type 0) (f g : List ℕ → Result (A × List ℕ) Stop) → ((bytes : List ℕ) → f bytes ≡ g bytes) → IsReader u R g → IsReader u R f
alike-reads u R f g same G = record {
  takes = λ bytes x ok e. G.takes bytes x ok (sym (same bytes) ∙ e);
  again = λ x rest h. same (u x ++ rest) ∙ G.again x rest h;
  within = λ bytes w n ok e. G.within bytes w n ok (sym (same bytes) ∙ e);
  stays = λ bytes after w n ok e. same (bytes ++ after) ∙ G.stays bytes after w n ok (sym (same bytes) ∙ e);
}

-- a step that gives its value itself
pub last_step : {B : Type 0} (r : Result (B × List ℕ) Stop) → r ≡ (r >>= λ y. Ok (y.0, y.1))
last_step (Ok x) = refl
last_step (Err d) = refl

pub bind_alike : {A B : Type 0} (r : Result A Stop) (f g : A → Result B Stop) → ((x : A) → f x ≡ g x) → (r >>= f) ≡ (r >>= g)
bind_alike (Ok x) f g h = h x
bind_alike (Err d) f g h = refl

-- ---- numbers

pub record IsWide (w : Width) (limit : ℕ) : Type 0 where
  pub len : (n : ℕ) → length (to_be_bytes w n) ≡ byte_len w
  pub back : (bytes : List ℕ) → length bytes ≡ byte_len w → IsBytes bytes → to_be_bytes w (from_be_bytes w bytes) ≡ bytes
  pub again : (n : ℕ) → n < limit → from_be_bytes w (to_be_bytes w n) ≡ n
  pub below : (bytes : List ℕ) → IsBytes bytes → from_be_bytes w bytes < limit

pub wide16 : IsWide w16 (2 ^ 16)
wide16 = record {
  len = λ n. refl;
  back = λ bytes len fits. be_bytes_2 bytes _ len fits refl;
  again = λ n lt. from_be_bytes-to_be_bytes_2 n lt;
  below = λ bytes fits. omega (arith, fits 0, fits 1);
}

pub wide32 : IsWide w32 (2 ^ 32)
wide32 = record {
  len = λ n. refl;
  back = λ bytes len fits. be_bytes_4 bytes _ len fits refl;
  again = λ n lt. from_be_bytes-to_be_bytes_4 n lt;
  below = λ bytes fits. omega (arith, fits 0, fits 1, fits 2, fits 3);
}

pub wide64 : IsWide w64 (2 ^ 64)
wide64 = record {
  len = λ n. refl;
  back = λ bytes len fits. be_bytes_8 bytes _ len fits refl;
  again = λ n lt. from_be_bytes-to_be_bytes_8 n lt;
  below = λ bytes fits. omega (arith, fits 0, fits 1, fits 2, fits 3, fits 4, fits 5, fits 6, fits 7);
}

-- a stop with k more bytes at the end
abbrev longer : ℕ → Stop → Stop
longer k Short = Short
longer k (Bad w n) = Bad w (n + k)

guard_ok : (b : Bool) (d : Stop) (x y : ℕ × List ℕ) → cond b (Err d) (Ok x) ≡ Ok y → (b ≡ false) × (x ≡ y)
guard_ok true d x y e = absurd cc
guard_ok false d x y e = (refl, cc)

guard_err : (b : Bool) (d c : Stop) (x : ℕ × List ℕ) → cond b (Err d) (Ok x) ≡ Err c → (b ≡ true) × (d ≡ c)
guard_err true d c x e = (refl, cc)
guard_err false d c x e = absurd cc

short_is_not_bad : {B : Type 0} (w : Word) (n : ℕ) → Short ≡ Bad w n → B
short_is_not_bad w n e = absurd cc

bad_within : (v w : Word) (k n : ℕ) → Bad v k ≡ Bad w n → n ≤ k
bad_within v w k n e = let l : k ≡ n = cc in omega (arith, l)

number_again : (w : Width) (limit : ℕ) (wide : IsWide w limit) (n : ℕ) (rest : List ℕ) → n < limit → number_at w (to_be_bytes w n ++ rest) ≡ Ok (n, rest)
number_again w limit wide n rest lt =
    let len = wide.len n in
    let long : ltb (length (to_be_bytes w n ++ rest)) (byte_len w) ≡ false = le-ltb _ _ (omega (arith, length-append (to_be_bytes w n) rest)) in
    rw (long, take_at (to_be_bytes w n) rest (byte_len w) len, drop_at (to_be_bytes w n) rest (byte_len w) len, wide.again n lt) refl

pub number-reads : (w : Width) (limit : ℕ) → IsWide w limit → IsReader (to_be_bytes w) (λ n. n < limit) (number_at w)
number-reads w limit wide = record {
  takes = λ bytes x fits e.
      let g = guard_ok (ltb (length bytes) (byte_len w)) Short (from_be_bytes w (take (byte_len w) bytes), drop (byte_len w) bytes) x e in
      let long : byte_len w ≤ length bytes = ltb-false _ _ g.0 in
      let n-is : from_be_bytes w (take (byte_len w) bytes) ≡ x.0 = ap (λ (p : ℕ × List ℕ). p.0) g.1 in
      let rest-is : drop (byte_len w) bytes ≡ x.1 = ap (λ (p : ℕ × List ℕ). p.1) g.1 in
      let front : to_be_bytes w x.0 ≡ take (byte_len w) bytes = rw (← n-is) (wide.back (take (byte_len w) bytes) (omega (arith, length-take (byte_len w) bytes)) (IsBytes-take (byte_len w) bytes fits)) in
      (record { parts = rw (front, ← rest-is) (sym (take-append-drop (byte_len w) bytes)); rest_fits = rw (← rest-is) (IsBytes-drop (byte_len w) bytes fits) }, rw (← n-is) (wide.below (take (byte_len w) bytes) (IsBytes-take (byte_len w) bytes fits)));
  again = λ n rest lt. number_again w limit wide n rest lt;
  within = λ bytes word n fits e.
      let g = guard_err (ltb (length bytes) (byte_len w)) Short (Bad word n) (from_be_bytes w (take (byte_len w) bytes), drop (byte_len w) bytes) e in
      short_is_not_bad word n g.1;
  stays = λ bytes after word n fits e.
      let g = guard_err (ltb (length bytes) (byte_len w)) Short (Bad word n) (from_be_bytes w (take (byte_len w) bytes), drop (byte_len w) bytes) e in
      short_is_not_bad word n g.1;
}

-- a number that the test lets through
abbrev pub Passes : ℕ → (ℕ → Bool) → ℕ → Type 0
Passes limit test n = (n < limit) × (test n ≡ false)

pub checked-reads : (w : Width) (limit : ℕ) (wide : IsWide w limit) (test : ℕ → Bool) (word : Word) → IsReader (to_be_bytes w) (Passes limit test) (checked_at w test word)
unfolding checked_at
checked-reads w limit wide test word =
    let N = number-reads w limit wide in
    record {
      takes = λ bytes x fits e.
          let a = bind_ok (number_at w bytes) (refused test word bytes) x e in
          let t = N.takes bytes a.0 fits a.1 in
          let g = guard_ok (test a.0.0) (Bad word (length bytes)) a.0 x a.2 in
          subst (λ (y : ℕ × List ℕ). Takes bytes (to_be_bytes w y.0) y.1 × Passes limit test y.0) g.1 (t.0, (t.1, g.0));
      again = λ n rest h. rw (N.again n rest h.0, h.1) refl;
      within = λ bytes v n fits e.
          elim (bind_err (number_at w bytes) (refused test word bytes) (Bad v n) e) [
            | inl h ↦ N.within bytes v n fits h
            | inr h ↦
                let g = guard_err (test h.0.0) (Bad word (length bytes)) (Bad v n) h.0 h.2 in
                bad_within word v (length bytes) n g.1
          ];
      stays = λ bytes after v n fits e.
          elim (bind_err (number_at w bytes) (refused test word bytes) (Bad v n) e) [
            | inl h ↦ rw (N.stays bytes after v n fits h) refl
            | inr h ↦
                let g = guard_err (test h.0.0) (Bad word (length bytes)) (Bad v n) h.0 h.2 in
                let m = more (to_be_bytes w) (λ (k : ℕ). k < limit) (number_at w) N bytes after h.0 fits h.1 in
                rw (m, g.0, length-append bytes after) (ap (λ (s : Stop). Err (longer (length after) s)) g.1)
          ];
    }
