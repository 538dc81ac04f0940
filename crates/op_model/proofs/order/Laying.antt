-- The cells of a new edit, laid into the sequence.
use Rattle.op_model.proofs.Elements.{each_map, each_append, each_last}
use Rattle.std.proofs.Common.{◌≡◌, ℕ, zero, suc, ◌+◌, ◌<◌, ◌≤◌, ◌⊎◌, Bool, List, [], ◌∷◌, ◌++◌, length, refl, sym, ◌∙◌, ap, subst, inl, inr, true, false, cond, arith, append_assoc}
use Rattle.std.specs.List.{AllByRecursion}
use Rattle.std.proofs.lemmas.Bool.{cases_Bool}
use Rattle.lamport_clock.specs.declared.stamp.Lamport.{Lamport}
use Rattle.lamport_clock.specs.Stamps.{later}
use Rattle.lamport_clock.proofs.Later.{later_irrefl, one_way, later_down}
use Rattle.op_model.specs.declared.operation.Piece.{Piece}
use Rattle.op_model.specs.Cells.{Cell, cell_at, PathCell, path, path_at, left_path, text_places, new_places, before, put_all}
use Rattle.op_model.specs.Laid.{after_run, after_run_from, only, index_after, lay}
use Rattle.op_model.proofs.order.Insertion.{each_insert, each_insert_all, insert_past, insert_here, filter_all_none}
use Rattle.op_model.proofs.order.LateOperation.{before_trans, before_total, before_antisym}
use Rattle.op_model.proofs.order.Restricted.{new_of, each_of}
use Rattle.op_model.proofs.order.Skipping.{put, Strict, Sound, Fresh, Rises, AllOn, Has, at, text_placed}

-- a cell of edit t is number k or a later one
abbrev pub From : Lamport → ℕ → Cell → Type 0
From t k d = d.stamp ≡ t → k ≤ d.k

abbrev pub Held : List PathCell → Lamport → ℕ → PathCell → Type 0
Held s t k q = AllOn s [] (path q) × Rises q × AllByRecursion (From t k) (path q)

-- no place twice; what a path goes through is there; stamps rise along a path; of edit t only cells from k on
abbrev pub Inv : List PathCell → Lamport → ℕ → Type 0
Inv s t k = Strict s × AllByRecursion (Held s t k) s

fresh_from : (t : Lamport) (k n : ℕ) (q : List Cell) → 0 < n → AllByRecursion (From t (k + n)) q → AllByRecursion (Fresh (cell_at t k)) q
fresh_from t k n [] h e = tt
fresh_from t k n (d ∷ q) h e = (λ i. (let g : k + n ≤ d.k = e.0 i in omega arith), fresh_from t k n q h e.1)

sound_from : (s : List PathCell) (t : Lamport) (k n : ℕ) (r : List PathCell) → 0 < n → AllByRecursion (Held s t (k + n)) r → AllByRecursion (Sound s (cell_at t k)) r
sound_from s t k n [] h e = tt
sound_from s t k n (q ∷ r) h e = ((e.0.0, e.0.1, fresh_from t k n (path q) h e.0.2), sound_from s t k n r h e.1)

-- the n-th place that passes, counted from 0
abbrev Nth : (Lamport → Bool) → List PathCell → ℕ → Type 0
Nth keep s n = (j : ℕ) × (index_after keep s (suc n) ≡ suc j) × (path_at (only keep s) n ≡ path_at s j) × (j < length s)

nth_here : (keep : Lamport → Bool) (q : PathCell) (s : List PathCell) → keep q.cell.stamp ≡ true → Nth keep (q ∷ s) zero
nth_here keep q s k = (zero, rw k, rw k, omega arith)

nth_next : (keep : Lamport → Bool) (q : PathCell) (s : List PathCell) (n : ℕ) → keep q.cell.stamp ≡ true → Nth keep s n → Nth keep (q ∷ s) (suc n)
nth_next keep q s n k e = (suc e.0, rw k (ap suc e.1), rw k e.2, omega arith)

nth_past : (keep : Lamport → Bool) (q : PathCell) (s : List PathCell) (n : ℕ) → keep q.cell.stamp ≡ false → Nth keep s n → Nth keep (q ∷ s) n
nth_past keep q s n k e = (suc e.0, rw k (ap suc e.1), rw k e.2, omega arith)

nth : (keep : Lamport → Bool) (s : List PathCell) (n : ℕ) → n < length (only keep s) → Nth keep s n
nth keep [] n h = absurd (omega arith)
nth keep (q ∷ s) zero h = elim (cases_Bool (keep q.cell.stamp))
    [ inl k ↦ nth_here keep q s k | inr k ↦ nth_past keep q s zero k (nth keep s zero (rw k at h)) ]
nth keep (q ∷ s) (suc n) h = elim (cases_Bool (keep q.cell.stamp)) [
  | inl k ↦ (let g : suc n < suc (length (only keep s)) = rw k at h in nth_next keep q s n k (nth keep s n (omega arith)))
  | inr k ↦ nth_past keep q s (suc n) k (nth keep s (suc n) (rw k at h))
]

-- the left neighbour among those that pass is the one at the place after it among all
pub kept_left : (keep : Lamport → Bool) (s : List PathCell) (n : ℕ) → n ≤ length (only keep s)
    → (left_path (only keep s) n ≡ left_path s (index_after keep s n)) × (index_after keep s n ≤ length s)
kept_left keep s zero h = (refl, omega arith)
kept_left keep s (suc n) h = let e = nth keep s n (omega arith) in (rw e.1 e.2, rw e.1 (omega (arith, e.3)))

-- what passes is below t, so its whole path is
low_path : (t u : Lamport) (p : List Cell) → later t u ≡ true → AllByRecursion (λ (a : Cell). later a.stamp u ≡ false) p → AllByRecursion (λ (a : Cell). later t a.stamp ≡ true) p
low_path t u [] h e = tt
low_path t u (a ∷ p) h e = (later_down t u a.stamp h e.0, low_path t u p h e.1)

low_at : (keep : Lamport → Bool) (t : Lamport) (k : ℕ) (s : List PathCell) (n : ℕ) → ((u : Lamport) → keep u ≡ true → later t u ≡ true)
    → AllByRecursion Rises s → n < length (only keep s) → AllByRecursion (λ (a : Cell). later t a.stamp ≡ true) (path_at (only keep s) n)
low_at keep t k [] n low e h = absurd (omega arith)
low_at keep t k (q ∷ s) n low e h = go n h (cases_Bool (keep q.cell.stamp)) (λ m. low_at keep t k s m low e.1)
  where
    go : (n : ℕ) → n < length (only keep (q ∷ s)) → (keep q.cell.stamp ≡ true) ⊎ (keep q.cell.stamp ≡ false)
        → ((m : ℕ) → m < length (only keep s) → AllByRecursion (λ (a : Cell). later t a.stamp ≡ true) (path_at (only keep s) m))
        → AllByRecursion (λ (a : Cell). later t a.stamp ≡ true) (path_at (only keep (q ∷ s)) n)
    go zero h (inl b) f = rw b (low_path t q.cell.stamp (path q) (low q.cell.stamp b) e.0)
    go (suc m) h (inl b) f = let g : suc m < suc (length (only keep s)) = rw b at h in rw b (f m (omega arith))
    go m h (inr b) f = rw b (f m (rw b at h))

pub put_all_append : (xs ys s : List PathCell) → put_all (xs ++ ys) s ≡ put_all xs (put_all ys s)
put_all_append [] ys s = refl
put_all_append (x ∷ xs) ys s = ap (put x) (put_all_append xs ys s)

after_run_none : (t : Lamport) (s : List PathCell) → after_run t [] s ≡ s
after_run_none t [] = refl
after_run_none t (q ∷ s) = elim (later q.cell.stamp t) as (λ b. cond b (q ∷ after_run t [] s) (q ∷ s) ≡ q ∷ s) [ true ↦ ap (λ r. q ∷ r) (after_run_none t s) | false ↦ refl ]

skip_put_none : (i : ℕ) (t : Lamport) (s : List PathCell) → after_run_from i t [] s ≡ s
skip_put_none zero t s = after_run_none t s
skip_put_none (suc i) t [] = refl
skip_put_none (suc i) t (q ∷ s) = ap (λ r. q ∷ r) (skip_put_none i t s)

strict_insert : (x : PathCell) (s : List PathCell) → AllByRecursion (λ (y : PathCell). before x y ≡ true → before y x ≡ true → ⊥) s → Strict s → Strict (put x s)
strict_insert x [] e st = (tt, tt)
strict_insert x (y ∷ s) e st = elim (cases_Bool (before y x)) [
  | inl b ↦ (let nb : before x y ≡ false = not_both (cases_Bool (before x y)) b in
      rw (insert_past before x y s b) (each_insert (λ (z : PathCell). before z y ≡ false) before x s nb st.0, strict_insert x s e.1 st.1))
  | inr b ↦ rw (insert_here before x y s b) ((b, each_map (λ (z : PathCell). before z y ≡ false) (λ (z : PathCell). before z x ≡ false) (λ z f. far z b f (cases_Bool (before z x))) s st.0), st)
]
  where
    not_both : (before x y ≡ true) ⊎ (before x y ≡ false) → before y x ≡ true → before x y ≡ false
    not_both (inl a) b = absurd (e.0 a b)
    not_both (inr a) b = a

    far : (z : PathCell) → before y x ≡ false → before z y ≡ false → (before z x ≡ true) ⊎ (before z x ≡ false) → before z x ≡ false
    far z b f (inl a) = let g : before y x ≡ true = before_trans y z x (before_total z y f) a in cc
    far z b f (inr a) = a

abbrev pub Past : Lamport → ℕ → PathCell → Type 0
Past t k y = y.cell.stamp ≡ t → k ≤ y.cell.k

pub past_down : (t : Lamport) (k m : ℕ) (s : List PathCell) → k ≤ m → AllByRecursion (Past t m) s → AllByRecursion (Past t k) s
past_down t k m [] h e = tt
past_down t k m (y ∷ s) h e = (λ i. (let g : m ≤ y.cell.k = e.0 i in omega arith), past_down t k m s h e.1)

apart : (u : List Cell) (t : Lamport) (k : ℕ) (s : List PathCell) → AllByRecursion (Past t (suc k)) s
    → AllByRecursion (λ (y : PathCell). before (at u (cell_at t k)) y ≡ true → before y (at u (cell_at t k)) ≡ true → ⊥) s
apart u t k [] e = tt
apart u t k (y ∷ s) e = (λ a b. no (before_antisym (at u (cell_at t k)) y a b), apart u t k s e.1)
  where
    no : at u (cell_at t k) ≡ y → ⊥
    no i = let g : suc k ≤ y.cell.k = e.0 (sym (ap (λ (z : PathCell). z.cell.stamp) i)) in
        let h : k ≡ y.cell.k = ap (λ (z : PathCell). z.cell.k) i in omega arith

text_strict : (u : List Cell) (t : Lamport) (k m : ℕ) (bs : List ℕ) (r : List PathCell) → k + length bs ≤ m → Strict r → AllByRecursion (Past t m) r
    → Strict (put_all (text_places u t k bs) r) × AllByRecursion (Past t k) (put_all (text_places u t k bs) r)
text_strict u t k m [] r h st e = (st, past_down t k m r (omega arith) e)
text_strict u t k m (b ∷ bs) r h st e =
    let ih = text_strict (u ++ cell_at t k ∷ []) t (suc k) m bs r (omega arith) st e in (
      strict_insert (at u (cell_at t k)) (put_all (text_places (u ++ cell_at t k ∷ []) t (suc k) bs) r) (apart u t k (put_all (text_places (u ++ cell_at t k ∷ []) t (suc k) bs) r) ih.1) ih.0,
      each_insert (Past t k) before (at u (cell_at t k)) (put_all (text_places (u ++ cell_at t k ∷ []) t (suc k) bs) r) (λ i. omega arith)
          (past_down t k (suc k) (put_all (text_places (u ++ cell_at t k ∷ []) t (suc k) bs) r) (omega arith) ih.1),
    )

has_put : (x : PathCell) (s : List PathCell) (q : List Cell) → Has s q → Has (put x s) q
has_put x [] q h = absurd h
has_put x (y ∷ s) q h = elim (before y x) as (λ b. Has (cond b (y ∷ put x s) (x ∷ y ∷ s)) q)
    [ true ↦ elim h [ inl i ↦ inl i | inr i ↦ inr (has_put x s q i) ] | false ↦ inr h ]

has_new : (x : PathCell) (s : List PathCell) → Has (put x s) (path x)
has_new x [] = inl refl
has_new x (y ∷ s) = elim (before y x) as (λ b. Has (cond b (y ∷ put x s) (x ∷ y ∷ s)) (path x)) [ true ↦ inr (has_new x s) | false ↦ inl refl ]

has_put_all : (xs s : List PathCell) (q : List Cell) → Has s q → Has (put_all xs s) q
has_put_all [] s q h = h
has_put_all (x ∷ xs) s q h = has_put x (put_all xs s) q (has_put_all xs s q h)

has_all : (xs s : List PathCell) → AllByRecursion (λ (x : PathCell). Has (put_all xs s) (path x)) xs
has_all [] s = tt
has_all (x ∷ xs) s = (
  has_new x (put_all xs s),
  each_map (λ (y : PathCell). Has (put_all xs s) (path y)) (λ (y : PathCell). Has (put x (put_all xs s)) (path y)) (λ y h. has_put x (put_all xs s) (path y) h) xs (has_all xs s),
)

on_more : (s r : List PathCell) → ((q : List Cell) → Has s q → Has r q) → (f q : List Cell) → AllOn s f q → AllOn r f q
on_more s r m f [] e = tt
on_more s r m f (d ∷ q) e = (m (f ++ d ∷ []) e.0, on_more s r m (f ++ d ∷ []) q e.1)

on_snoc : (s : List PathCell) (f u : List Cell) (c : Cell) → AllOn s f u → Has s (f ++ (u ++ c ∷ [])) → AllOn s f (u ++ c ∷ [])
on_snoc s f [] c e h = (h, tt)
on_snoc s f (d ∷ u) c e h = (e.0, on_snoc s (f ++ d ∷ []) u c e.1 (subst (Has s) (sym (append_assoc f (d ∷ []) (u ++ c ∷ []))) h))

text_on : (r : List PathCell) (u : List Cell) (t : Lamport) (k : ℕ) (bs : List ℕ) → AllOn r [] u
    → AllByRecursion (λ (x : PathCell). Has r (path x)) (text_places u t k bs) → AllByRecursion (λ (x : PathCell). AllOn r [] (path x)) (text_places u t k bs)
text_on r u t k [] e h = tt
text_on r u t k (b ∷ bs) e h = let g : AllOn r [] (u ++ cell_at t k ∷ []) = on_snoc r [] u (cell_at t k) e h.0 in
    (g, text_on r (u ++ cell_at t k ∷ []) t (suc k) bs g h.1)

text_rises : (u : List Cell) (t : Lamport) (k : ℕ) (bs : List ℕ) → AllByRecursion (λ (a : Cell). later a.stamp t ≡ false) u → AllByRecursion Rises (text_places u t k bs)
text_rises u t k [] e = tt
text_rises u t k (b ∷ bs) e = let g = each_append (λ (a : Cell). later a.stamp t ≡ false) u (cell_at t k ∷ []) e (later_irrefl t, tt) in
    (g, text_rises (u ++ cell_at t k ∷ []) t (suc k) bs g)

text_from : (u : List Cell) (t : Lamport) (low k : ℕ) (bs : List ℕ) → low ≤ k → AllByRecursion (From t low) u → AllByRecursion (λ (x : PathCell). AllByRecursion (From t low) (path x)) (text_places u t k bs)
text_from u t low k [] h e = tt
text_from u t low k (b ∷ bs) h e = let g = each_append (From t low) u (cell_at t k ∷ []) e ((λ i. h), tt) in
    (g, text_from (u ++ cell_at t k ∷ []) t low (suc k) bs (omega arith) g)

all_three : (s : List PathCell) (t : Lamport) (k : ℕ) (r : List PathCell) → AllByRecursion (λ (x : PathCell). AllOn s [] (path x)) r → AllByRecursion Rises r
    → AllByRecursion (λ (x : PathCell). AllByRecursion (From t k) (path x)) r → AllByRecursion (Held s t k) r
all_three s t k [] a b c = tt
all_three s t k (x ∷ r) a b c = ((a.0, b.0, c.0), all_three s t k r a.1 b.1 c.1)

held_past : (s : List PathCell) (t : Lamport) (k : ℕ) (r : List PathCell) → AllByRecursion (Held s t k) r → AllByRecursion (Past t k) r
held_past s t k [] e = tt
held_past s t k (x ∷ r) e = (each_last (From t k) x.above x.cell e.0.2, held_past s t k r e.1)

from_down : (t : Lamport) (k m : ℕ) (q : List Cell) → k ≤ m → AllByRecursion (From t m) q → AllByRecursion (From t k) q
from_down t k m [] h e = tt
from_down t k m (d ∷ q) h e = (λ i. (let g : m ≤ d.k = e.0 i in omega arith), from_down t k m q h e.1)

held_more : (s r : List PathCell) (t : Lamport) (k m : ℕ) (z : List PathCell) → k ≤ m → ((q : List Cell) → Has s q → Has r q)
    → AllByRecursion (Held s t m) z → AllByRecursion (Held r t k) z
held_more s r t k m [] h f e = tt
held_more s r t k m (x ∷ z) h f e = ((on_more s r f [] (path x) e.0.0, e.0.1, from_down t k m (path x) h e.0.2), held_more s r t k m z h f e.1)

not_later_low : (t : Lamport) (u : List Cell) → AllByRecursion (λ (a : Cell). later t a.stamp ≡ true) u → AllByRecursion (λ (a : Cell). later a.stamp t ≡ false) u
not_later_low t [] e = tt
not_later_low t (a ∷ u) e = (one_way t a.stamp e.0, not_later_low t u e.1)

low_from : (t : Lamport) (k : ℕ) (u : List Cell) → AllByRecursion (λ (a : Cell). later t a.stamp ≡ true) u → AllByRecursion (From t k) u
low_from t k [] e = tt
low_from t k (a ∷ u) e = (λ i. absurd (no i), low_from t k u e.1)
  where
    no : a.stamp ≡ t → ⊥
    no i = let g : later t t ≡ true = subst (λ (x : Lamport). later t x ≡ true) i e.0 in let h = later_irrefl t in cc

-- one text keeps what holds
text_inv : (u : List Cell) (t : Lamport) (k m : ℕ) (bs : List ℕ) (r : List PathCell) → k + length bs ≤ m → Inv r t m
    → AllByRecursion (λ (a : Cell). later t a.stamp ≡ true) u → AllOn r [] u → Inv (put_all (text_places u t k bs) r) t k
text_inv u t k m bs r h inv low on =
    let ns : List PathCell = text_places u t k bs in
    let s : List PathCell = put_all ns r in (
      (text_strict u t k m bs r h inv.0 (held_past r t m r inv.1)).0,
      each_insert_all (Held s t k) before ns r
          (all_three s t k ns (text_on s u t k bs (on_more r s (λ q g. has_put_all ns r q g) [] u on) (has_all ns r))
          (text_rises u t k bs (not_later_low t u low)) (text_from u t k k bs (omega arith) (low_from t k u low)))
          (held_more r s t k m r (omega arith) (λ q g. has_put_all ns r q g) inv.1),
    )

abbrev pub end_of : ℕ → List Piece → ℕ
end_of k [] = k
end_of k (p ∷ ps) = end_of (k + length p.text) ps

path_on : (s : List PathCell) (t : Lamport) (k j : ℕ) (r : List PathCell) → AllByRecursion (Held s t k) r → AllOn s [] (path_at r j)
path_on s t k j [] e = tt
path_on s t k zero (x ∷ r) e = e.0.0
path_on s t k (suc j) (x ∷ r) e = path_on s t k j r e.1

left_on : (s : List PathCell) (t : Lamport) (k i : ℕ) → AllByRecursion (Held s t k) s → AllOn s [] (left_path s i)
left_on s t k zero e = tt
left_on s t k (suc j) e = path_on s t k j s e

rises_of : (s : List PathCell) (t : Lamport) (k : ℕ) (r : List PathCell) → AllByRecursion (Held s t k) r → AllByRecursion Rises r
rises_of s t k [] e = tt
rises_of s t k (x ∷ r) e = (e.0.1, rises_of s t k r e.1)

left_low : (keep : Lamport → Bool) (t : Lamport) (s : List PathCell) (n : ℕ) → ((u : Lamport) → keep u ≡ true → later t u ≡ true)
    → AllByRecursion Rises s → n ≤ length (only keep s) → AllByRecursion (λ (a : Cell). later t a.stamp ≡ true) (left_path (only keep s) n)
left_low keep t s zero low e h = tt
left_low keep t s (suc n) low e h = low_at keep t 0 s n low e (omega arith)

module _ (keep : Lamport → Bool) (t : Lamport) (low : (u : Lamport) → keep u ≡ true → later t u ≡ true) where
  keep_not : keep t ≡ false
  keep_not = elim (cases_Bool (keep t)) [ inl k ↦ (let g = low t k in let h = later_irrefl t in cc) | inr k ↦ k ]

  only_same : (v s : List PathCell) (k : ℕ) (ps : List Piece) → only keep (put_all (new_places v t k ps) s) ≡ only keep s
  only_same v s k ps = filter_all_none before before_trans before_total (λ (p : PathCell). keep p.cell.stamp) (new_places v t k ps) s
      (each_of keep false t (new_places v t k ps) keep_not (new_of v t k ps))

  piece : (s r : List PathCell) (k : ℕ) (p : Piece) → only keep r ≡ only keep s → p.start ≤ length (only keep s) → Inv r t (k + length p.text)
      → Inv (put_all (text_places (left_path (only keep s) p.start) t k p.text) r) t k
      × (put_all (text_places (left_path (only keep s) p.start) t k p.text) r
      ≡ after_run_from (index_after keep r p.start) t (text_places (left_path r (index_after keep r p.start)) t k p.text) r)
  piece s r k p same h inv =
      let i : ℕ = index_after keep r p.start in
      let h' : p.start ≤ length (only keep r) = subst (λ (x : List PathCell). p.start ≤ length x) (sym same) h in
      let e : left_path (only keep s) p.start ≡ left_path r i = ap (λ (x : List PathCell). left_path x p.start) (sym same) ∙ (kept_left keep r p.start h').0 in
      let lo : AllByRecursion (λ (a : Cell). later t a.stamp ≡ true) (left_path r i) = subst (λ (x : List Cell). AllByRecursion (λ (a : Cell). later t a.stamp ≡ true) x)
      ((kept_left keep r p.start h').0) (left_low keep t r p.start low (rises_of r t (k + length p.text) r inv.1) h') in (
        subst (λ (x : List Cell). Inv (put_all (text_places x t k p.text) r) t k) (sym e)
            (text_inv (left_path r i) t k (k + length p.text) p.text r (omega arith) inv lo (left_on r t (k + length p.text) i inv.1)),
        subst (λ (x : List Cell). put_all (text_places x t k p.text) r ≡ after_run_from i t (text_places (left_path r i) t k p.text) r) (sym e)
            (whole r k i p.text inv lo (kept_left keep r p.start h').1),
      )
    where
      whole : (r : List PathCell) (k i : ℕ) (bs : List ℕ) → Inv r t (k + length bs) → AllByRecursion (λ (a : Cell). later t a.stamp ≡ true) (left_path r i) → i ≤ length r
          → put_all (text_places (left_path r i) t k bs) r ≡ after_run_from i t (text_places (left_path r i) t k bs) r
      whole r k i [] inv lo h = sym (skip_put_none i t r)
      whole r k i (b ∷ bs) inv lo h = text_placed r t k (b ∷ bs) i inv.0 (sound_from r t k (length (b ∷ bs)) r (omega arith) inv.1) lo h (omega arith)

  -- the new cells, put where their paths say, are laid directly after their left neighbours
  pub laid : (ps : List Piece) (k : ℕ) (s : List PathCell) → Inv s t (end_of k ps) → AllByRecursion (λ (p : Piece). p.start ≤ length (only keep s)) ps
      → Inv (put_all (new_places (only keep s) t k ps) s) t k × (put_all (new_places (only keep s) t k ps) s ≡ lay keep t k ps s)
  laid [] k s inv e = (inv, refl)
  laid (p ∷ ps) k s inv e =
      let ih = laid ps (k + length p.text) s inv e.1 in
      let r : List PathCell = put_all (new_places (only keep s) t (k + length p.text) ps) s in
      let one = piece s r k p (only_same (only keep s) s (k + length p.text) ps) e.0 ih.0 in
      let a = put_all_append (text_places (left_path (only keep s) p.start) t k p.text) (new_places (only keep s) t (k + length p.text) ps) s in (
        subst (λ (x : List PathCell). Inv x t k) (sym a) one.0,
        a ∙ one.1 ∙ ap (λ (x : List PathCell). after_run_from (index_after keep x p.start) t (text_places (left_path x (index_after keep x p.start)) t k p.text) x) ih.1,
      )
