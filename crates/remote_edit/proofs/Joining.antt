-- A move after others, and what it does with them.
use Rattle.std.proofs.Common.{◌≡◌, ℕ, zero, suc, ◌+◌, ◌^◌, ◌<◌, ◌==◌, Bool, true, false, cond, nat_lt, List, [], ◌∷◌, ◌++◌, length, take, drop, set, get_or, Option, Some, None, refl, sym, ap, ◌∙◌, arith, append_assoc, inl, inr, ◌-◌}
use Rattle.std.proofs.Math.Seq.{take-add}
use Rattle.std.proofs.lemmas.List.{append-nil, drop-drop}
use Rattle.std.proofs.lemmas.Bool.{cases_Bool, eqb-true, false_from_ne_true}
use Rattle.remote_edit.specs.declared.moves.Move.{Move}
use Rattle.remote_edit.specs.declared.moves.Move.TheVariants.{Visible, Hidden, Hide, Show, Insert}
use Rattle.remote_edit.specs.Moves.{Texts, texts_of, with_fronts, after_moves, DoTheSame, length_of, as_one, join_moves, with_last, with_move, from_shown, from_hidden, from_new, MovesCompose, JoinedMovesDoTheSame, KeptBytesCommute}

-- ---- which list it is

pub lengthens : (ms : List Move) (i : ℕ) (m next one : Move) → suc i ≡ length ms → m ≡ get_or ms i m → as_one m next ≡ Some one → with_last ms next ≡ set ms i one
lengthens [] i m next one e g o = absurd (omega (arith, e))
lengthens (x ∷ []) zero m next one e g o = let q : as_one x next ≡ Some one = ap (λ k. as_one k next) (sym g) ∙ o in rw q refl
lengthens (x ∷ []) (suc i) m next one e g o = absurd (omega (arith, e))
lengthens (x ∷ y ∷ ms) zero m next one e g o = absurd (omega (arith, e))
lengthens (x ∷ y ∷ ms) (suc i) m next one e g o = ap (λ k. x ∷ k) (lengthens (y ∷ ms) i m next one (omega (arith, e)) g o)

pub adds : (ms : List Move) (i : ℕ) (m next : Move) → suc i ≡ length ms → m ≡ get_or ms i m → as_one m next ≡ None → with_last ms next ≡ ms ++ next ∷ []
adds [] i m next e g o = absurd (omega (arith, e))
adds (x ∷ []) zero m next e g o = let q : as_one x next ≡ None = ap (λ k. as_one k next) (sym g) ∙ o in rw q refl
adds (x ∷ []) (suc i) m next e g o = absurd (omega (arith, e))
adds (x ∷ y ∷ ms) zero m next e g o = absurd (omega (arith, e))
adds (x ∷ y ∷ ms) (suc i) m next e g o = ap (λ k. x ∷ k) (adds (y ∷ ms) i m next (omega (arith, e)) g o)

some_bytes : (n : ℕ) → (n ≡ 0 → ⊥) → (n == 0) ≡ false
some_bytes n e = false_from_ne_true (n == 0) (λ x. e (eqb-true n 0 x))

pub one_longer : (ms : List Move) (n : ℕ) (m next one : Move) → (length_of next ≡ 0 → ⊥) → n ≡ length ms → 0 < n → m ≡ get_or ms (n - 1) m → as_one m next ≡ Some one → set ms (n - 1) one ≡ with_move ms next
one_longer ms n m next one b e l g o = let q : suc (n - 1) ≡ length ms = omega (arith, e, l) in rw (some_bytes (length_of next) b) (sym (lengthens ms (n - 1) m next one q g o))

pub one_more : (ms : List Move) (n : ℕ) (m next : Move) → (length_of next ≡ 0 → ⊥) → n ≡ length ms → 0 < n → m ≡ get_or ms (n - 1) m → as_one m next ≡ None → ms ++ next ∷ [] ≡ with_move ms next
one_more ms n m next b e l g o = let q : suc (n - 1) ≡ length ms = omega (arith, e, l) in rw (some_bytes (length_of next) b) (sym (adds ms (n - 1) m next q g o))

pub first_one : (ms : List Move) (next : Move) → (length_of next ≡ 0 → ⊥) → length ms ≡ 0 → ms ++ next ∷ [] ≡ with_move ms next
first_one [] next b e = rw (some_bytes (length_of next) b) refl
first_one (m ∷ ms) next b e = absurd (omega (arith, e))

-- ---- what moves do one after the other

pub twice : (a b c d : List ℕ) (r : Texts) → with_fronts a b (with_fronts c d r) ≡ with_fronts (a ++ c) (b ++ d) r
twice a b c d r = ap (λ x. texts_of x (b ++ (d ++ r.hidden))) (sym (append_assoc a c r.shown)) ∙ ap (λ x. texts_of ((a ++ c) ++ r.shown) x) (sym (append_assoc b d r.hidden))

pub compose : MovesCompose
compose [] ns s h n = refl
compose (Visible k ∷ ms) ns s h n =
    let r : Texts = after_moves ms (drop k s) h n in
    rw (← drop-drop (from_shown ms) k s, compose ms ns (drop k s) h n) (twice (take k s) [] r.shown r.hidden (after_moves ns (drop (from_shown ms) (drop k s)) (drop (from_hidden ms) h) (drop (from_new ms) n)))
compose (Hidden k ∷ ms) ns s h n =
    let r : Texts = after_moves ms s (drop k h) n in
    rw (← drop-drop (from_hidden ms) k h, compose ms ns s (drop k h) n) (twice [] (take k h) r.shown r.hidden (after_moves ns (drop (from_shown ms) s) (drop (from_hidden ms) (drop k h)) (drop (from_new ms) n)))
compose (Hide k ∷ ms) ns s h n =
    let r : Texts = after_moves ms (drop k s) h n in
    rw (← drop-drop (from_shown ms) k s, compose ms ns (drop k s) h n) (twice [] (take k s) r.shown r.hidden (after_moves ns (drop (from_shown ms) (drop k s)) (drop (from_hidden ms) h) (drop (from_new ms) n)))
compose (Show k ∷ ms) ns s h n =
    let r : Texts = after_moves ms s (drop k h) n in
    rw (← drop-drop (from_hidden ms) k h, compose ms ns s (drop k h) n) (twice (take k h) [] r.shown r.hidden (after_moves ns (drop (from_shown ms) s) (drop (from_hidden ms) (drop k h)) (drop (from_new ms) n)))
compose (Insert k ∷ ms) ns s h n =
    let r : Texts = after_moves ms s h (drop k n) in
    rw (← drop-drop (from_new ms) k n, compose ms ns s h (drop k n)) (twice (take k n) [] r.shown r.hidden (after_moves ns (drop (from_shown ms) s) (drop (from_hidden ms) h) (drop (from_new ms) (drop k n))))

-- ---- equal lists before and after

pub same_behind : (ms : List Move) (ks ns : List Move) → DoTheSame ks ns → DoTheSame (ms ++ ks) (ms ++ ns)
same_behind [] ks ns e s h n = e s h n
same_behind (Visible k ∷ ms) ks ns e s h n = ap (with_fronts (take k s) []) (same_behind ms ks ns e (drop k s) h n)
same_behind (Hidden k ∷ ms) ks ns e s h n = ap (with_fronts [] (take k h)) (same_behind ms ks ns e s (drop k h) n)
same_behind (Hide k ∷ ms) ks ns e s h n = ap (with_fronts [] (take k s)) (same_behind ms ks ns e (drop k s) h n)
same_behind (Show k ∷ ms) ks ns e s h n = ap (with_fronts (take k h) []) (same_behind ms ks ns e s (drop k h) n)
same_behind (Insert k ∷ ms) ks ns e s h n = ap (with_fronts (take k n) []) (same_behind ms ks ns e s h (drop k n))

pub kept_commute : KeptBytesCommute
kept_commute ms ns a b = same_behind ms (Visible a ∷ Hidden b ∷ ns) (Hidden b ∷ Visible a ∷ ns) (λ s h n. refl)

-- ---- two moves of a kind

to_shown : (a b : ℕ) (s : List ℕ) (f : List ℕ → Texts) → with_fronts (take (a + b) s) [] (f (drop (a + b) s)) ≡ with_fronts (take a s) [] (with_fronts (take b (drop a s)) [] (f (drop b (drop a s))))
to_shown a b s f = rw (take-add a b s, ← drop-drop b a s) (sym (twice (take a s) [] (take b (drop a s)) [] (f (drop b (drop a s)))))

to_hidden : (a b : ℕ) (s : List ℕ) (f : List ℕ → Texts) → with_fronts [] (take (a + b) s) (f (drop (a + b) s)) ≡ with_fronts [] (take a s) (with_fronts [] (take b (drop a s)) (f (drop b (drop a s))))
to_hidden a b s f = rw (take-add a b s, ← drop-drop b a s) (sym (twice [] (take a s) [] (take b (drop a s)) (f (drop b (drop a s)))))

pub fitted : {A : Type 0} (b : Bool) (x y : A) → cond b (Some x) None ≡ Some y → x ≡ y
fitted true x y e = cc
fitted false x y e = cc

one_same : (m next one : Move) (ns : List Move) → as_one m next ≡ Some one → DoTheSame (one ∷ ns) (m ∷ next ∷ ns)
one_same (Visible a) (Visible b) one ns o s h n = rw (← fitted (nat_lt (a + b) (2 ^ 64)) (Visible (a + b)) one o) (to_shown a b s (λ x. after_moves ns x h n))
one_same (Hidden a) (Hidden b) one ns o s h n = rw (← fitted (nat_lt (a + b) (2 ^ 64)) (Hidden (a + b)) one o) (to_hidden a b h (λ x. after_moves ns s x n))
one_same (Hide a) (Hide b) one ns o s h n = rw (← fitted (nat_lt (a + b) (2 ^ 64)) (Hide (a + b)) one o) (to_hidden a b s (λ x. after_moves ns x h n))
one_same (Show a) (Show b) one ns o s h n = rw (← fitted (nat_lt (a + b) (2 ^ 64)) (Show (a + b)) one o) (to_shown a b h (λ x. after_moves ns s x n))
one_same (Insert a) (Insert b) one ns o s h n = rw (← fitted (nat_lt (a + b) (2 ^ 64)) (Insert (a + b)) one o) (to_shown a b n (λ x. after_moves ns s h x))
one_same m next one ns o s h n = cc

no_bytes : (m : Move) (ns : List Move) → length_of m ≡ 0 → DoTheSame (m ∷ ns) ns
no_bytes (Visible k) ns e s h n = rw e refl
no_bytes (Hidden k) ns e s h n = rw e refl
no_bytes (Hide k) ns e s h n = rw e refl
no_bytes (Show k) ns e s h n = rw e refl
no_bytes (Insert k) ns e s h n = rw e refl

last_same : (ms : List Move) (next : Move) → DoTheSame (with_last ms next) (ms ++ next ∷ [])
last_same [] next s h n = refl
last_same (m ∷ []) next s h n = go (as_one m next) refl s h n
  where
    go : (o : Option Move) → as_one m next ≡ o → DoTheSame (join_moves o m next) (m ∷ next ∷ [])
    go (Some one) e = one_same m next one [] e
    go None e = λ s h n. refl
last_same (m ∷ k ∷ ms) next s h n = same_behind (m ∷ []) (with_last (k ∷ ms) next) ((k ∷ ms) ++ next ∷ []) (last_same (k ∷ ms) next) s h n

pub joined_same : JoinedMovesDoTheSame
joined_same ms next s h n = elim (cases_Bool (length_of next == 0)) [
  | inl e ↦ rw e (sym (same_behind ms (next ∷ []) [] (no_bytes next [] (eqb-true (length_of next) 0 e)) s h n ∙ ap (λ k. after_moves k s h n) (append-nil ms)))
  | inr e ↦ rw e (last_same ms next s h n)
]

-- ---- with other moves after it

-- ---- the numbers of bytes that moves take

-- a number of moves that adds up
pub record AddsUp (total : List Move → ℕ) : Type 0 where
  pub none : total [] ≡ 0
  pub first : (m : Move) (ms : List Move) → total (m ∷ ms) ≡ total (m ∷ []) + total ms
  pub one : (m next one : Move) → as_one m next ≡ Some one → total (one ∷ []) ≡ total (m ∷ []) + total (next ∷ [])
  pub empty : (m : Move) → length_of m ≡ 0 → total (m ∷ []) ≡ 0

last_total : (total : List Move → ℕ) → AddsUp total → (ms : List Move) (next : Move) → total (with_last ms next) ≡ total ms + total (next ∷ [])
last_total total a [] next = let e = a.none in omega (arith, e)
last_total total a (m ∷ []) next = go (as_one m next) refl
  where
    go : (o : Option Move) → as_one m next ≡ o → total (join_moves o m next) ≡ total (m ∷ []) + total (next ∷ [])
    go (Some one) e = a.one m next one e
    go None e = a.first m (next ∷ [])
last_total total a (m ∷ k ∷ ms) next =
    let e = last_total total a (k ∷ ms) next in
    let f = a.first m (with_last (k ∷ ms) next) in
    let g = a.first m (k ∷ ms) in
    omega (arith, e, f, g)

pub more_total : (total : List Move → ℕ) → AddsUp total → (ms : List Move) (next : Move) → total (with_move ms next) ≡ total ms + total (next ∷ [])
more_total total a ms next = elim (cases_Bool (length_of next == 0)) [
  | inl e ↦ (let z = a.empty next (eqb-true (length_of next) 0 e) in rw e (omega (arith, z)))
  | inr e ↦ rw e (last_total total a ms next)
]

shown_one : (m next one : Move) → as_one m next ≡ Some one → from_shown (one ∷ []) ≡ from_shown (m ∷ []) + from_shown (next ∷ [])
shown_one (Visible a) (Visible b) one o = rw (← fitted (nat_lt (a + b) (2 ^ 64)) (Visible (a + b)) one o) (omega arith)
shown_one (Hidden a) (Hidden b) one o = rw (← fitted (nat_lt (a + b) (2 ^ 64)) (Hidden (a + b)) one o) (omega arith)
shown_one (Hide a) (Hide b) one o = rw (← fitted (nat_lt (a + b) (2 ^ 64)) (Hide (a + b)) one o) (omega arith)
shown_one (Show a) (Show b) one o = rw (← fitted (nat_lt (a + b) (2 ^ 64)) (Show (a + b)) one o) (omega arith)
shown_one (Insert a) (Insert b) one o = rw (← fitted (nat_lt (a + b) (2 ^ 64)) (Insert (a + b)) one o) (omega arith)
shown_one m next one o = cc

hidden_one : (m next one : Move) → as_one m next ≡ Some one → from_hidden (one ∷ []) ≡ from_hidden (m ∷ []) + from_hidden (next ∷ [])
hidden_one (Visible a) (Visible b) one o = rw (← fitted (nat_lt (a + b) (2 ^ 64)) (Visible (a + b)) one o) (omega arith)
hidden_one (Hidden a) (Hidden b) one o = rw (← fitted (nat_lt (a + b) (2 ^ 64)) (Hidden (a + b)) one o) (omega arith)
hidden_one (Hide a) (Hide b) one o = rw (← fitted (nat_lt (a + b) (2 ^ 64)) (Hide (a + b)) one o) (omega arith)
hidden_one (Show a) (Show b) one o = rw (← fitted (nat_lt (a + b) (2 ^ 64)) (Show (a + b)) one o) (omega arith)
hidden_one (Insert a) (Insert b) one o = rw (← fitted (nat_lt (a + b) (2 ^ 64)) (Insert (a + b)) one o) (omega arith)
hidden_one m next one o = cc

new_one : (m next one : Move) → as_one m next ≡ Some one → from_new (one ∷ []) ≡ from_new (m ∷ []) + from_new (next ∷ [])
new_one (Visible a) (Visible b) one o = rw (← fitted (nat_lt (a + b) (2 ^ 64)) (Visible (a + b)) one o) (omega arith)
new_one (Hidden a) (Hidden b) one o = rw (← fitted (nat_lt (a + b) (2 ^ 64)) (Hidden (a + b)) one o) (omega arith)
new_one (Hide a) (Hide b) one o = rw (← fitted (nat_lt (a + b) (2 ^ 64)) (Hide (a + b)) one o) (omega arith)
new_one (Show a) (Show b) one o = rw (← fitted (nat_lt (a + b) (2 ^ 64)) (Show (a + b)) one o) (omega arith)
new_one (Insert a) (Insert b) one o = rw (← fitted (nat_lt (a + b) (2 ^ 64)) (Insert (a + b)) one o) (omega arith)
new_one m next one o = cc

pub shown_adds : AddsUp from_shown
shown_adds = record {
  none = refl;
  first = head;
  one = shown_one;
  empty = go;
}
  where
    go : (m : Move) → length_of m ≡ 0 → from_shown (m ∷ []) ≡ 0
    go (Visible k) e = omega (arith, e)
    go (Hidden k) e = refl
    go (Hide k) e = omega (arith, e)
    go (Show k) e = refl
    go (Insert k) e = refl

    head : (m : Move) (ms : List Move) → from_shown (m ∷ ms) ≡ from_shown (m ∷ []) + from_shown ms
    head (Visible k) ms = omega arith
    head (Hidden k) ms = omega arith
    head (Hide k) ms = omega arith
    head (Show k) ms = omega arith
    head (Insert k) ms = omega arith

pub hidden_adds : AddsUp from_hidden
hidden_adds = record {
  none = refl;
  first = head;
  one = hidden_one;
  empty = go;
}
  where
    go : (m : Move) → length_of m ≡ 0 → from_hidden (m ∷ []) ≡ 0
    go (Visible k) e = refl
    go (Hidden k) e = omega (arith, e)
    go (Hide k) e = refl
    go (Show k) e = omega (arith, e)
    go (Insert k) e = refl

    head : (m : Move) (ms : List Move) → from_hidden (m ∷ ms) ≡ from_hidden (m ∷ []) + from_hidden ms
    head (Visible k) ms = omega arith
    head (Hidden k) ms = omega arith
    head (Hide k) ms = omega arith
    head (Show k) ms = omega arith
    head (Insert k) ms = omega arith

pub new_adds : AddsUp from_new
new_adds = record {
  none = refl;
  first = head;
  one = new_one;
  empty = go;
}
  where
    go : (m : Move) → length_of m ≡ 0 → from_new (m ∷ []) ≡ 0
    go (Visible k) e = refl
    go (Hidden k) e = refl
    go (Hide k) e = refl
    go (Show k) e = refl
    go (Insert k) e = omega (arith, e)

    head : (m : Move) (ms : List Move) → from_new (m ∷ ms) ≡ from_new (m ∷ []) + from_new ms
    head (Visible k) ms = omega arith
    head (Hidden k) ms = omega arith
    head (Hide k) ms = omega arith
    head (Show k) ms = omega arith
    head (Insert k) ms = omega arith
