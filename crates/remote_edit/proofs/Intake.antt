-- The number of a tree's fragments that a gather takes, and the number that it makes.
use Rattle.std.proofs.Common.{◌≡◌, ℕ, zero, suc, ◌+◌, ◌-◌, ◌*◌, ◌<◌, ◌≤◌, max, min, true, false, List, [], ◌∷◌, ◌++◌, length, take, drop, refl, sym, ap, ◌∙◌, arith, subst, inl, inr, leb, Option, Some, None, not, ◌&&◌, length-append, length-drop}
use Rattle.std.specs.Prelude.{option_to_list}
use Rattle.std.proofs.lemmas.Bool.{cases_Bool}
use Rattle.std.proofs.lemmas.List.{length-take-le}
use Rattle.lamport_clock.specs.declared.stamp.Lamport.{Lamport}
use Rattle.lamport_clock.specs.Stamps.{later}
use Rattle.lamport_clock.specs.Versions.{Entries, sees}
use Rattle.locators.specs.Locator.{between_digits}
use Rattle.op_model.specs.declared.operation.Piece.{Piece}
use Rattle.undo_map.specs.declared.entry.UndoEntry.{UndoEntry}
use Rattle.fragments.specs.declared.fragment.Fragment.{Fragment}
use Rattle.fragments.proofs.Cells.{one_over, later_none}
use Rattle.remote_edit.specs.Marks.{touch}
use Rattle.remote_edit.specs.Walk.{Zip, zip, last_id, next_id, new_fragment, front, back, advance, skip_later, put_new, one_piece}
use Rattle.remote_edit.specs.Steps.{head, tail, after, later_first}
use Rattle.remote_edit.specs.declared.gather.Gather.{Gather}
use Rattle.remote_edit.specs.Gathers.{ahead}
use Rattle.remote_edit.specs.Starts.{AllSeen, intake, starts, IsFew, IsLeft, MakeFew}
use Rattle.remote_edit.proofs.Gathers.{headed, none_rest}

-- ---- a walk makes at most three more fragments

abbrev all : Zip → ℕ
all z = length z.pre + length z.rest

advance-length : (m : Option (List UndoEntry)) (t : Lamport) (v : Entries) (n : ℕ) (pre rest : List Fragment) → all (advance m t v n pre rest) ≤ length pre + length rest + 1
advance-length m t v n pre [] = omega arith
advance-length m t v zero pre (f ∷ fs) = omega arith
advance-length m t v (suc n) pre (f ∷ fs) = elim (cases_Bool (sees v f.stamp)) [
  | inr s ↦ (let ih = advance-length m t v (suc n) (pre ++ f ∷ []) fs in let e = length-append pre (f ∷ []) in rw s (omega (arith, ih, e)))
  | inl s ↦ elim (cases_Bool (leb f.len (suc n))) [
    | inl l ↦ (let ih = advance-length m t v (suc n - f.len) (pre ++ touch m t v f ∷ []) fs in let e = length-append pre (touch m t v f ∷ []) in rw (s, l) (omega (arith, ih, e)))
    | inr l ↦ (let g : Fragment = touch m t v (front f (suc n) (between_digits (last_id pre) f.id)) in let e = length-append pre (g ∷ []) in rw (s, l) (omega (arith, e)))
  ]
]

skip-length : (t : Lamport) (v : Entries) (pre rest : List Fragment) → all (skip_later t v pre rest) ≡ length pre + length rest
skip-length t v pre [] = refl
skip-length t v pre (f ∷ fs) = elim (cases_Bool (later f.stamp t && not (sees v f.stamp))) [
  | inl s ↦ (let ih = skip-length t v (pre ++ f ∷ []) fs in let e = length-append pre (f ∷ []) in rw s (omega (arith, ih, e)))
  | inr s ↦ rw s refl
]

put-length : (t : Lamport) (k n : ℕ) (pre rest : List Fragment) → all (put_new t k n pre rest) ≤ length pre + length rest + 1
put-length t k zero pre rest = omega arith
put-length t k (suc n) pre rest = let e = length-append pre (new_fragment t k (suc n) (between_digits (last_id pre) (next_id rest)) ∷ []) in omega (arith, e)

pub one_piece-length : (w : List UndoEntry) (t : Lamport) (v : Entries) (n k : ℕ) (p : Piece) (pre rest : List Fragment) → all (one_piece w t v n k p pre rest) ≤ length pre + length rest + 3
one_piece-length w t v n k p pre rest =
    let a : Zip = advance None t v n pre rest in
    let b : Zip = skip_later t v a.pre a.rest in
    let c : Zip = put_new t k (length p.text) b.pre b.rest in
    let ea = advance-length None t v n pre rest in
    let eb = skip-length t v a.pre a.rest in
    let ec = put-length t k (length p.text) b.pre b.rest in
    let ed = advance-length (Some w) t v (p.end - p.start) c.pre c.rest in
    omega (arith, ea, eb, ec, ed)

-- so if few are taken, few are made
made_few : (xs made : List Fragment) (i j c : ℕ) (b : Option Fragment) (z : Zip) → i ≤ length xs → zip (take i xs ++ made) (option_to_list b ++ drop j xs) ≡ z → all z ≤ length (take i xs) + length (drop i xs) + 3 → j ≤ i + 1 + c
    → length made + length (option_to_list b) ≤ c + 4
made_few xs made i j c b z h e l q =
    let p : all (zip (take i xs ++ made) (option_to_list b ++ drop j xs)) ≡ all z = ap all e in
    let x = length-append (take i xs) made in
    let y = length-append (option_to_list b) (drop j xs) in
    let t = length-take-le i xs h in
    let d = length-drop i xs in
    let g = length-drop j xs in
    omega (arith, p, x, y, t, d, g, l, q, h)

pub piece_made : (xs made : List Fragment) (low i j c : ℕ) (b : Option Fragment) (z : Zip) → low ≡ i → i ≤ length xs → zip (take low xs ++ made) (option_to_list b ++ drop j xs) ≡ z → all z ≤ length (take i xs) + length (drop i xs) + 3
    → j ≤ i + 1 + c → length made + length (option_to_list b) ≤ c + 4
piece_made xs made low i j c b z q h e l k = made_few xs made i j c b z h (subst (λ (m : ℕ). zip (take m xs ++ made) (option_to_list b ++ drop j xs) ≡ z) q e) l k

-- ---- one fragment further

pub next_seen : (v : Entries) (f : Fragment) (xs : List Fragment) → AllSeen v xs → Some f ≡ head xs → (sees v f.stamp ≡ true) × AllSeen v (tail xs)
next_seen v f [] h e = cc
next_seen v f (x ∷ xs) h e = let q : x ≡ f = cc in (subst (λ (z : Fragment). sees v z.stamp ≡ true) q h.0, h.1)

-- all of it
pub intake_whole : (i j n r : ℕ) (b : Option Fragment) (f : Fragment) (rest rest2 : List Fragment) → rest ≡ f ∷ tail rest → rest2 ≡ tail rest → 0 < f.len → 0 < n → f.len ≤ n → j + length (option_to_list b) ≡ i + 1
    → j + starts 0 (n - f.len + r) rest2 ≤ i + starts (length (option_to_list b)) (n + r) rest
intake_whole i j n r b f rest rest2 e d l h k q =
    let o : length (option_to_list b) ≤ 1 = one_over b in
    let c : n - f.len + r ≡ n + r - f.len = omega (arith, k) in
    let a : length (option_to_list b) - f.len ≡ 0 = omega (arith, o, l) in
    let x : starts (length (option_to_list b)) (n + r) rest ≡ (min 1 (n + r) - length (option_to_list b)) + starts (length (option_to_list b) - f.len) (n + r - f.len) (tail rest) = ap (starts (length (option_to_list b)) (n + r)) e in
    let y : starts (length (option_to_list b) - f.len) (n + r - f.len) (tail rest) ≡ starts 0 (n - f.len + r) rest2
    = ap (λ (m : ℕ). starts m (n + r - f.len) (tail rest)) a ∙ ap (λ (m : ℕ). starts 0 m (tail rest)) (sym c) ∙ ap (starts 0 (n - f.len + r)) (sym d) in
    omega (arith, x, y, q, h, o)

-- its first n cells
pub intake_split : (i j n r : ℕ) (b b2 : Option Fragment) (f g : Fragment) (rest rest2 : List Fragment) → rest ≡ f ∷ tail rest → rest2 ≡ g ∷ tail rest → b2 ≡ Some g → g ≡ back f n → 0 < n → n < f.len → j + length (option_to_list b) ≡ i + 1
    → j + starts (length (option_to_list b2)) (0 + r) rest2 ≤ i + starts (length (option_to_list b)) (n + r) rest
intake_split i j n r b b2 f g rest rest2 e d u w h k q =
    let o : length (option_to_list b) ≤ 1 = one_over b in
    let s : length (option_to_list b2) ≡ 1 = ap (λ (z : Option Fragment). length (option_to_list z)) u in
    let l : g.len ≡ f.len - n = ap (λ (z : Fragment). z.len) w in
    let x : starts (length (option_to_list b)) (n + r) rest ≡ (min 1 (n + r) - length (option_to_list b)) + starts (length (option_to_list b) - f.len) (n + r - f.len) (tail rest) = ap (starts (length (option_to_list b)) (n + r)) e in
    let y : starts (length (option_to_list b2)) (0 + r) rest2 ≡ (min 1 (0 + r) - length (option_to_list b2)) + starts (length (option_to_list b2) - g.len) (0 + r - g.len) (tail rest) = ap (starts (length (option_to_list b2)) (0 + r)) d in
    let a : length (option_to_list b) - f.len ≡ length (option_to_list b2) - g.len = omega (arith, o, s, l, k, h) in
    let c : n + r - f.len ≡ 0 + r - g.len = omega (arith, l, k) in
    let z : starts (length (option_to_list b) - f.len) (n + r - f.len) (tail rest) ≡ starts (length (option_to_list b2) - g.len) (0 + r - g.len) (tail rest)
    = ap (λ (m : ℕ). starts m (n + r - f.len) (tail rest)) a ∙ ap (λ (m : ℕ). starts (length (option_to_list b2) - g.len) m (tail rest)) c in
    omega (arith, x, y, z, q, s, o, h)

-- ---- of a gather

pub few_more : (v : Entries) (xs : List Fragment) (g g2 g3 : Gather) (n k m : ℕ) → IsFew v xs g n g2 k → IsFew v xs g2 k g3 m → IsFew v xs g n g3 m
few_more v xs g g2 g3 n k m a b = record { seen = b.seen; few = λ r. (let x = a.few r in let y = b.few r in omega (arith, x, y)) }

pub few_none : (v : Entries) (xs : List Fragment) (g : Gather) (n : ℕ) → AllSeen v (ahead xs g) → None ≡ head (ahead xs g) → IsFew v xs g n g 0
few_none v xs g n h e = record {
  seen = h;
  few = λ r. (let w : ahead xs g ≡ [] = none_rest (ahead xs g) e in
      let x : starts (length (option_to_list g.back)) (0 + r) (ahead xs g) ≡ 0 = ap (starts (length (option_to_list g.back)) (0 + r)) w in omega (arith, x));
}

pub few_whole : (v : Entries) (xs : List Fragment) (g g2 : Gather) (f : Fragment) (n : ℕ) → AllSeen v (ahead xs g) → Some f ≡ head (ahead xs g) → 0 < f.len → 0 < n → f.len ≤ n
    → ahead xs g2 ≡ tail (ahead xs g) → g2.back ≡ None → g2.at + length (option_to_list g.back) ≡ g.at + 1 → IsFew v xs g n g2 (n - f.len)
few_whole v xs g g2 f n h e l k m a b q = record {
  seen = subst (AllSeen v) (sym a) (next_seen v f (ahead xs g) h e).1;
  few = λ r. (let z : length (option_to_list g2.back) ≡ 0 = ap (λ (o : Option Fragment). length (option_to_list o)) b in
      let t = intake_whole g.at g2.at n r g.back f (ahead xs g) (ahead xs g2) (headed (ahead xs g) f e) a l k m q in
      let y : starts (length (option_to_list g2.back)) (n - f.len + r) (ahead xs g2) ≡ starts 0 (n - f.len + r) (ahead xs g2) = ap (λ (i : ℕ). starts i (n - f.len + r) (ahead xs g2)) z in
      omega (arith, t, y));
}

pub few_split : (v : Entries) (xs : List Fragment) (g g2 : Gather) (f b : Fragment) (n : ℕ) → AllSeen v (ahead xs g) → Some f ≡ head (ahead xs g) → b ≡ back f n → 0 < n → n < f.len
    → ahead xs g2 ≡ b ∷ tail (ahead xs g) → g2.back ≡ Some b → g2.at + length (option_to_list g.back) ≡ g.at + 1 → IsFew v xs g n g2 0
few_split v xs g g2 f b n h e w k m a d q =
    let s = next_seen v f (ahead xs g) h e in
    let o : b.stamp ≡ f.stamp = ap (λ (z : Fragment). z.stamp) w in
    record {
      seen = subst (AllSeen v) (sym a) (ap (sees v) o ∙ s.0, s.1);
      few = λ r. intake_split g.at g2.at n r g.back g2.back f b (ahead xs g) (ahead xs g2) (headed (ahead xs g) f e) a d w k m q;
    }

-- over a whole piece
pub few_all : (v : Entries) (xs : List Fragment) (g g1 g2 g3 g4 : Gather) (n r : ℕ) → IsFew v xs g n g1 0 → (g2.at ≡ g1.at) × (g2.back ≡ g1.back) → g3.at ≡ g2.at → g3.back ≡ g2.back → (AllSeen v (ahead xs g3) → IsFew v xs g3 r g4 0)
    → g4.at ≤ intake xs g (n + r)
few_all v xs g g1 g2 g3 g4 n r a e p q f =
    let i : g1.at ≡ g3.at = sym (p ∙ e.0) in
    let b : g1.back ≡ g3.back = sym (q ∙ e.1) in
    let here : ℕ → Option Fragment → ℕ → ℕ = λ j d m. j + starts (length (option_to_list d)) m (after xs j d) in
    let w : ahead xs g1 ≡ ahead xs g3 = ap (λ (j : ℕ). after xs j g1.back) i ∙ ap (after xs g3.at) b in
    let s : intake xs g1 (0 + r) ≡ intake xs g3 (r + 0) = ap (λ (j : ℕ). here j g1.back (0 + r)) i ∙ ap (λ (d : Option Fragment). here g3.at d (0 + r)) b ∙ ap (here g3.at g3.back) (let z : 0 + r ≡ r + 0 = omega arith in z) in
    let x = a.few r in
    let y = (f (subst (AllSeen v) w a.seen)).few 0 in
    omega (arith, s, x, y)

pub no_later : (t : Lamport) (v : Entries) (fs : List Fragment) → AllSeen v fs → later_first t v fs ≡ false
no_later t v [] h = refl
no_later t v (f ∷ fs) h = later_none t v f h.0

-- ---- what putting them in the tree makes

pub put_few : (old new low high n h : ℕ) → h ≤ 15 → new ≤ old + (26 * (h + 1) + 2 * n) → (high ≤ low + 1 → n ≤ 12 → new ≤ old + 6 * (h + 1)) → MakeFew old new low high n
put_few old new low high n h l a b zero q m = let k = b (omega (arith, q)) (omega (arith, m)) in omega (arith, k, l)
put_few old new low high n h l a b (suc c) q m = omega (arith, a, l, m)

pub back_few : (old new low high at n m : ℕ) → high ≤ at → n ≡ m → MakeFew old new low high n → MakeFew old new low at m
back_few old new low high at n m l e f c q k = f c (omega (arith, q, l)) (omega (arith, e, k))

-- with what is left of one
pub all_long : (made all : List Fragment) (f : Fragment) (b : Option Fragment) → all ≡ made ++ f ∷ [] → b ≡ Some f → length all ≡ length made + length (option_to_list b)
all_long made all f b e q = let x = ap length e ∙ length-append made (f ∷ []) in let y = ap (λ (o : Option Fragment). length (option_to_list o)) q in omega (arith, x, y)

-- what a piece makes
pub piece_few : (v : Entries) (xs ys : List Fragment) (old new low high i n k r m : ℕ) → IsLeft v n ys k (drop i xs) → high ≤ i + starts 0 (k + r) (drop i xs) → low ≡ i → ((c : ℕ) → high ≤ i + 1 + c → m ≤ c + 4) → MakeFew old new low high m
    → new ≤ old + 256 * (1 + starts (max 1 n) (n + r) ys)
piece_few v xs ys old new low high i n k r m l h e q f =
    let s = l.1 r in
    f (starts (max 1 n) (n + r) ys) (omega (arith, s, h, e)) (q (starts (max 1 n) (n + r) ys) (omega (arith, s, h)))

-- a fragment that is seen is not passed for a later edit
pub none_later : (t : Lamport) (v : Entries) (xs : List Fragment) (i j : ℕ) (b d : Option Fragment) → AllSeen v (after xs i b) → (j ≡ i) × (d ≡ b) → later_first t v (after xs j d) ≡ true → ⊥
none_later t v xs i j b d h e l =
    let n = no_later t v (after xs i b) h in
    let k : later_first t v (after xs i b) ≡ true = subst (λ (m : ℕ). later_first t v (after xs m b) ≡ true) e.0 (subst (λ (z : Option Fragment). later_first t v (after xs j z) ≡ true) e.1 l) in cc
