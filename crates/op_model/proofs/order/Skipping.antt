-- A new cell stands after its left neighbour, past the cells there whose stamps are later.
use Rattle.std.proofs.Common.{◌≡◌, ℕ, zero, suc, ◌<◌, ◌≤◌, ◌⊎◌, List, [], ◌∷◌, ◌++◌, length, refl, sym, ◌∙◌, ap, subst, inl, inr, true, false, cond, arith, append_assoc}
use Rattle.std.proofs.lemmas.List.{same_from_push}
use Rattle.std.specs.List.{AllByRecursion}
use Rattle.std.proofs.lemmas.Bool.{cases_Bool}
use Rattle.std.proofs.lemmas.Bool.Decides.{nat_tests}
use Rattle.lamport_clock.specs.declared.stamp.Lamport.{Lamport}
use Rattle.lamport_clock.specs.Stamps.{later, same_stamp}
use Rattle.lamport_clock.proofs.Later.{later_trans, same_stamp_eq, later_up}
use Rattle.std.proofs.Math.Bool.{or-false}
use Rattle.op_model.specs.Cells.{path_at, left_path, text_places, put_all, Cell, PathCell, same_cell, sibling_first, path, path_before, before, cell_at}
use Rattle.op_model.specs.Laid.{after_run, after_run_from}
use Rattle.op_model.proofs.order.PathOrder.{path_refl, same_cell_refl, first_by_stamp, path_trans, path_antisym}
use Rattle.op_model.specs.Sorted.{insert_by, Ascending}
use Rattle.op_model.proofs.order.Insertion.{insert_past, insert_here}
use Rattle.op_model.proofs.order.LateOperation.{before_total}

abbrev pub put : PathCell → List PathCell → List PathCell
put p s = insert_by before p s

-- the first cell of q that is not on p: the root of q's branch beside or below p
abbrev pub root : Cell → List Cell → List Cell → Cell
root c p [] = c
root c [] (d ∷ q) = d
root c (a ∷ p) (d ∷ q) = cond (same_cell d a) (root c p q) d

-- the cells before it
abbrev pub trunk : List Cell → List Cell → List Cell
trunk p [] = []
trunk [] (d ∷ q) = []
trunk (a ∷ p) (d ∷ q) = cond (same_cell d a) (d ∷ trunk p q) []

abbrev pub fork : Cell → List Cell → List Cell → List Cell
fork c p q = trunk p q ++ root c p q ∷ []

-- d is a cell of c's edit only if it comes later in it
abbrev pub Fresh : Cell → Cell → Type 0
Fresh c d = d.stamp ≡ c.stamp → c.k < d.k

fresh_test : (c d : Cell) → Fresh c d → (same_cell d c ≡ false) × (sibling_first d c ≡ later d.stamp c.stamp)
unfolding same_cell sibling_first
fresh_test c d f = elim (cases_Bool (same_stamp d.stamp c.stamp)) [
  | inl s ↦ (let h : c.k < d.k = f (same_stamp_eq d.stamp c.stamp s) in
      (grind (arith, nat_tests), grind (arith, nat_tests)))
  | inr s ↦ (rw s, rw s (or-false (later d.stamp c.stamp)))
]

-- a cell after the left neighbour stands before the new cell exactly where its branch has the later stamp
pub by_branch : (c : Cell) (p q : List Cell) → path_before q p ≡ false → AllByRecursion (λ (a : Cell). later c.stamp a.stamp ≡ true) p → AllByRecursion (Fresh c) q
    → path_before q (p ++ c ∷ []) ≡ later (root c p q).stamp c.stamp
by_branch c p [] h l f = cc
by_branch c [] (d ∷ q) h l f = let t = fresh_test c d f.0 in
    let s : same_cell d c ≡ false = t.0 in rw s t.1
by_branch c (a ∷ p) (d ∷ q) h l f = elim (cases_Bool (same_cell d a)) [
  | inl s ↦ rw s (by_branch c p q (rw s at h) l.1 f.1)
  | inr s ↦ (let g : sibling_first d a ≡ false = rw s at h in rw (s, g) (sym (not_later g)))
]
  where
    not_later : sibling_first d a ≡ false → later d.stamp c.stamp ≡ false
    not_later g = elim (cases_Bool (later d.stamp c.stamp)) [
      | inl t ↦ (let u : sibling_first d a ≡ true = first_by_stamp d a (later_trans d.stamp c.stamp a.stamp t l.0) in cc)
      | inr t ↦ t
    ]

pub fork_after : (c : Cell) (p q : List Cell) → path_before q p ≡ false → path_before (fork c p q) p ≡ false
fork_after c p [] h = cc
fork_after c [] (d ∷ q) h = refl
fork_after c (a ∷ p) (d ∷ q) h = elim (cases_Bool (same_cell d a)) [
  | inl s ↦ rw (s, s) (fork_after c p q (rw s at h))
  | inr s ↦ rw (s, s) (rw s at h)
]

pub fork_on : (c : Cell) (p q : List Cell) → path_before q p ≡ false → path_before (fork c p q) q ≡ true
fork_on c p [] h = cc
fork_on c [] (d ∷ q) h = let e : same_cell d d ≡ true = same_cell_refl d in rw e
fork_on c (a ∷ p) (d ∷ q) h = let e : same_cell d d ≡ true = same_cell_refl d in elim (cases_Bool (same_cell d a)) [
  | inl s ↦ rw (s, e) (fork_on c p q (rw s at h))
  | inr s ↦ rw (s, e)
]

-- the path is one of s
abbrev pub Has : List PathCell → List Cell → Type 0
Has [] q = ⊥
Has (p ∷ s) q = (path p ≡ q) ⊎ Has s q

-- each front of q, put after front, is the path of a place of s
abbrev pub AllOn : List PathCell → List Cell → List Cell → Type 0
AllOn s front [] = Unit {0}
AllOn s front (d ∷ q) = Has s (front ++ d ∷ []) × AllOn s (front ++ d ∷ []) q

snoc_on : (front : List Cell) (d : Cell) (r : List Cell) → (front ++ d ∷ []) ++ r ≡ front ++ (d ∷ r)
snoc_on front d r = append_assoc front (d ∷ []) r

pub fork_is_on : (s : List PathCell) (c : Cell) (front p q : List Cell) → path_before q p ≡ false → AllOn s front q → Has s (front ++ fork c p q)
fork_is_on s c front p [] h a = cc
fork_is_on s c front [] (d ∷ q) h a = a.0
fork_is_on s c front (b ∷ p) (d ∷ q) h a = elim (cases_Bool (same_cell d b)) [
  | inl e ↦ rw e (subst (Has s) (snoc_on front d (fork c p q)) (fork_is_on s c (front ++ d ∷ []) p q (rw e at h) a.1))
  | inr e ↦ rw e a.0
]

-- no cell above r has a later stamp than r's
abbrev pub Rises : PathCell → Type 0
Rises r = AllByRecursion (λ (a : Cell). later a.stamp r.cell.stamp ≡ false) (path r)

pub root_rises : (c : Cell) (p q : List Cell) (t : Lamport) → path_before q p ≡ false → AllByRecursion (λ (a : Cell). later a.stamp t ≡ false) q → later (root c p q).stamp t ≡ false
root_rises c p [] t h e = cc
root_rises c [] (d ∷ q) t h e = e.0
root_rises c (a ∷ p) (d ∷ q) t h e = elim (cases_Bool (same_cell d a)) [
  | inl s ↦ rw s (root_rises c p q t (rw s at h) e.1)
  | inr s ↦ rw s e.0
]

-- a place that stands after the left neighbour, whose path is p
abbrev pub Fine : List PathCell → Cell → List Cell → PathCell → Type 0
Fine s c p r = (path_before (path r) p ≡ false) × AllOn s [] (path r) × Rises r × AllByRecursion (Fresh c) (path r)

-- each path after p that is one of s is one of w or of r
abbrev pub Cover : List PathCell → List Cell → List PathCell → List PathCell → Type 0
Cover s p w r = (q : List Cell) → Has s q → path_before q p ≡ false → Has w q ⊎ Has r q

abbrev pub Later : Lamport → List PathCell → Type 0
Later t w = AllByRecursion (λ (q : PathCell). later q.cell.stamp t ≡ true) w

has_later : (t : Lamport) (w : List PathCell) (front : List Cell) (e : Cell) → Later t w → Has w (front ++ e ∷ []) → later e.stamp t ≡ true
has_later t [] front e l h = absurd h
has_later t (q ∷ w) front e l h = elim h [
  | inl g ↦ (let i = same_from_push q.above front q.cell e g in subst (λ (x : Cell). later x.stamp t ≡ true) i.1 l.0)
  | inr g ↦ has_later t w front e l.1 g
]

has_before : (r : PathCell) (s : List PathCell) (q : List Cell) → AllByRecursion (λ (y : PathCell). before r y ≡ true) s → Has s q → path_before (path r) q ≡ true
has_before r [] q e h = absurd h
has_before r (y ∷ s) q e h = elim h [
  | inl g ↦ subst (λ (x : List Cell). path_before (path r) x ≡ true) g e.0
  | inr g ↦ has_before r s q e.1 g
]

-- the stamp of the next place says the same as the stamp of its branch
own_stamp : (s : List PathCell) (c : Cell) (p : List Cell) (w : List PathCell) (r : PathCell) (rest : List PathCell)
    → Cover s p w (r ∷ rest) → Fine s c p r → AllByRecursion (λ (y : PathCell). before r y ≡ true) rest → Later c.stamp w
    → later (root c p (path r)).stamp c.stamp ≡ later r.cell.stamp c.stamp
own_stamp s c p w r rest cover fine up lw = elim (cases_Bool (later (root c p (path r)).stamp c.stamp)) [
  | inl t ↦ t ∙ sym (later_up (root c p (path r)).stamp r.cell.stamp c.stamp t (root_rises c p (path r) r.cell.stamp fine.0 fine.2))
  | inr t ↦ elim (cover (fork c p (path r)) (fork_is_on s c [] p (path r) fine.0 fine.1) (fork_after c p (path r) fine.0)) [
    | inl g ↦ (let u : later (root c p (path r)).stamp c.stamp ≡ true = has_later c.stamp w (trunk p (path r)) (root c p (path r)) lw g in cc)
    | inr g ↦ elim g [
      | inl e ↦ same e
      | inr g' ↦ same (path_antisym (path r) (fork c p (path r)) (has_before r rest (fork c p (path r)) up g') (fork_on c p (path r) fine.0))
    ]
  ]
]
  where
    same : path r ≡ fork c p (path r) → later (root c p (path r)).stamp c.stamp ≡ later r.cell.stamp c.stamp
    same e = let i = same_from_push r.above (trunk p (path r)) r.cell (root c p (path r)) e in ap (λ (x : Cell). later x.stamp c.stamp) (sym i.1)

-- ns put where x would be put
abbrev pub gap : PathCell → List PathCell → List PathCell → List PathCell
gap x ns [] = ns
gap x ns (q ∷ s) = cond (before q x) (q ∷ gap x ns s) (ns ++ q ∷ s)

abbrev pub at : List Cell → Cell → PathCell
at p c = record { above = p; cell = c }

pub skip : (s : List PathCell) (c : Cell) (p : List Cell) (ns w r : List PathCell)
    → AllByRecursion (λ (a : Cell). later c.stamp a.stamp ≡ true) p
    → Cover s p w r → AllByRecursion (Fine s c p) r → Ascending before r → Later c.stamp w
    → gap (at p c) ns r ≡ after_run c.stamp ns r
skip s c p ns w [] low cover fine up lw = refl
skip s c p ns w (r ∷ rest) low cover fine up lw = go (cases_Bool (later r.cell.stamp c.stamp))
    (λ l. skip s c p ns (r ∷ w) rest low onward fine.1 up.1 (l, lw))
  where
    test : before r (at p c) ≡ later r.cell.stamp c.stamp
    test = by_branch c p (path r) fine.0.0 low fine.0.3 ∙ own_stamp s c p w r rest cover fine.0 up.0 lw

    onward : (q : List Cell) → Has s q → path_before q p ≡ false → Has (r ∷ w) q ⊎ Has rest q
    onward q h g = elim (cover q h g) [ inl a ↦ inl (inr a) | inr a ↦ elim a [ inl b ↦ inl (inl b) | inr b ↦ inr b ] ]

    go : (later r.cell.stamp c.stamp ≡ true) ⊎ (later r.cell.stamp c.stamp ≡ false)
        → (later r.cell.stamp c.stamp ≡ true → gap (at p c) ns rest ≡ after_run c.stamp ns rest)
        → gap (at p c) ns (r ∷ rest) ≡ after_run c.stamp ns (r ∷ rest)
    go (inl l) ih = let h : before r (at p c) ≡ true = test ∙ l in rw (h, l) (ap (λ x. r ∷ x) (ih l))
    go (inr l) ih = let h : before r (at p c) ≡ false = test ∙ l in rw (h, l)

-- each place stands strictly before all that follow
abbrev pub Strict : List PathCell → Type 0
Strict [] = Unit {0}
Strict (p ∷ s) = AllByRecursion (λ (q : PathCell). before q p ≡ false) s × Strict s

up_each : (p : PathCell) (s : List PathCell) → AllByRecursion (λ (q : PathCell). before q p ≡ false) s → AllByRecursion (λ (q : PathCell). before p q ≡ true) s
up_each p [] e = tt
up_each p (q ∷ s) e = (before_total q p e.0, up_each p s e.1)

pub strict_up : (s : List PathCell) → Strict s → Ascending before s
strict_up [] e = tt
strict_up (p ∷ s) e = (up_each p s e.0, strict_up s e.1)

-- what a place needs, wherever it stands
abbrev pub Sound : List PathCell → Cell → PathCell → Type 0
Sound s c r = AllOn s [] (path r) × Rises r × AllByRecursion (Fresh c) (path r)

fine_after : (s : List PathCell) (c : Cell) (p : List Cell) (l : PathCell) (r : List PathCell) → path l ≡ p → AllByRecursion (λ (q : PathCell). before q l ≡ false) r
    → AllByRecursion (Sound s c) r → AllByRecursion (Fine s c p) r
fine_after s c p l [] i e f = tt
fine_after s c p l (q ∷ r) i e f = ((subst (λ (x : List Cell). path_before (path q) x ≡ false) i e.0, f.0.0, f.0.1, f.0.2), fine_after s c p l r i e.1 f.1)

some_before_none : (q : List Cell) (x : Cell) → path_before (q ++ x ∷ []) [] ≡ false
some_before_none [] x = refl
some_before_none (a ∷ q) x = refl

fine_start : (s : List PathCell) (c : Cell) (r : List PathCell) → AllByRecursion (Sound s c) r → AllByRecursion (Fine s c []) r
fine_start s c [] f = tt
fine_start s c (q ∷ r) f = ((some_before_none q.above q.cell, f.0.0, f.0.1, f.0.2), fine_start s c r f.1)

path_extends : (p r : List Cell) → path_before p (p ++ r) ≡ true
path_extends [] r = refl
path_extends (a ∷ p) r = let e = same_cell_refl a in rw e (path_extends p r)

abbrev pub Low : Cell → List Cell → Type 0
Low c p = AllByRecursion (λ (a : Cell). later c.stamp a.stamp ≡ true) p

-- each of front stands before each of r
abbrev pub AllBefore : List PathCell → List PathCell → Type 0
AllBefore front r = AllByRecursion (λ (f : PathCell). AllByRecursion (λ (q : PathCell). before f q ≡ true) r) front

all_before_tail : (front : List PathCell) (q : PathCell) (r : List PathCell) → AllBefore front (q ∷ r) → AllBefore front r
all_before_tail [] q r e = tt
all_before_tail (f ∷ front) q r e = (e.0.1, all_before_tail front q r e.1)

at_has : (r : List PathCell) (j : ℕ) (p : List Cell) → path_at r j ≡ p → j < length r → Has r p
at_has [] j p e h = omega arith
at_has (q ∷ r) zero p e h = inl e
at_has (q ∷ r) (suc j) p e h = inr (at_has r j p e (omega arith))

not_in_front : (front : List PathCell) (l : PathCell) (r : List PathCell) (q : List Cell) → AllBefore front (l ∷ r) → path_before q (path l) ≡ false → Has front q → ⊥
not_in_front [] l r q e g h = h
not_in_front (f ∷ front) l r q e g h = elim h [
  | inl i ↦ (let u : path_before q (path l) ≡ true = subst (λ (x : List Cell). path_before x (path l) ≡ true) i e.0.0 in cc)
  | inr i ↦ not_in_front front l r q e.1 g i
]

walk : (s : List PathCell) (c : Cell) (p : List Cell) (ns : List PathCell) (j : ℕ) (front r : List PathCell)
    → ((q : List Cell) → Has s q → Has front q ⊎ Has r q) → AllBefore front r → Strict r → AllByRecursion (Sound s c) r → Low c p
    → path_at r j ≡ p → j < length r → gap (at p c) ns r ≡ after_run_from (suc j) c.stamp ns r
walk s c p ns j front [] k fb st so low e h = absurd (omega arith)
walk s c p ns zero front (l ∷ r) k fb st so low e h =
    let b : before l (at p c) ≡ true = subst (λ (x : List Cell). path_before x (p ++ c ∷ []) ≡ true) (sym e) (path_extends p (c ∷ [])) in
    rw b (ap (λ x. l ∷ x) (skip s c p ns [] r low cover (fine_after s c p l r e st.0 so.1) (strict_up r st.1) tt))
  where
    cover : (q : List Cell) → Has s q → path_before q p ≡ false → ⊥ ⊎ Has r q
    cover q a g = elim (k q a) [
      | inl f ↦ absurd (not_in_front front l r q fb (subst (λ (x : List Cell). path_before q x ≡ false) (sym e) g) f)
      | inr f ↦ elim f [
        | inl i ↦ (let u : path_before q p ≡ true = subst (λ (x : List Cell). path_before x p ≡ true) (sym e ∙ i) (path_refl p) in cc)
        | inr i ↦ inr i
      ]
    ]
walk s c p ns (suc j) front (l ∷ r) k fb st so low e h =
    let u : path_before (path l) p ≡ true = has_before l r p (up_each l r st.0) (at_has r j p e (omega arith)) in
    let b : before l (at p c) ≡ true = path_trans (path l) p (p ++ c ∷ []) u (path_extends p (c ∷ [])) in
    rw b (ap (λ x. l ∷ x) (walk s c p ns j (l ∷ front) r onward (up_each l r st.0, all_before_tail front l r fb) st.1 so.1 low e (omega arith)))
  where
    onward : (q : List Cell) → Has s q → Has (l ∷ front) q ⊎ Has r q
    onward q a = elim (k q a) [ inl f ↦ inl (inr f) | inr f ↦ elim f [ inl i ↦ inl (inl i) | inr i ↦ inr i ] ]

-- a text under the left neighbour before place i stands past the run of later stamps from place i on
pub placed : (s : List PathCell) (c : Cell) (ns : List PathCell) (i : ℕ) → Strict s → AllByRecursion (Sound s c) s → Low c (left_path s i) → i ≤ length s
    → gap (at (left_path s i) c) ns s ≡ after_run_from i c.stamp ns s
placed s c ns zero st so low h = skip s c [] ns [] s low (λ q a g. inr a) (fine_start s c s so) (strict_up s st) tt
placed s c ns (suc j) st so low h = walk s c (path_at s j) ns j [] s (λ q a. inr a) tt st so low refl (omega arith)

-- a whole text goes where its first cell goes
past_same : (c : Cell) (p q t : List Cell) → AllByRecursion (Fresh c) q → path_before q (p ++ c ∷ t) ≡ path_before q (p ++ c ∷ [])
past_same c [] [] t f = refl
past_same c [] (d ∷ q) t f = let e : same_cell d c ≡ false = (fresh_test c d f.0).0 in rw e
past_same c (a ∷ p) [] t f = refl
past_same c (a ∷ p) (d ∷ q) t f = ap (λ b. cond (same_cell d a) b (sibling_first d a)) (past_same c p q t f.1)

chain_one : (x y : PathCell) (ys s : List PathCell) → AllByRecursion (λ (q : PathCell). before q y ≡ before q x) s
    → AllByRecursion (λ (z : PathCell). before z y ≡ false) ys → put y (gap x ys s) ≡ gap x (y ∷ ys) s
chain_one x y [] [] e f = refl
chain_one x y (z ∷ ys) [] e f = insert_here before y z ys f.0
chain_one x y ys (q ∷ s) e f = elim (cases_Bool (before q x)) [
  | inl b ↦ rw b (insert_past before y q (gap x ys s) (e.0 ∙ b) ∙ ap (λ r. q ∷ r) (chain_one x y ys s e.1 f))
  | inr b ↦ rw b (front ys f (e.0 ∙ b))
]
  where
    front : (zs : List PathCell) → AllByRecursion (λ (z : PathCell). before z y ≡ false) zs → before q y ≡ false → put y (zs ++ q ∷ s) ≡ y ∷ (zs ++ q ∷ s)
    front [] g h = insert_here before y q s h
    front (z ∷ zs) g h = insert_here before y z (zs ++ q ∷ s) g.0

-- each of ns stands strictly before those that follow, and each of s answers to it as to x
abbrev pub Alike : PathCell → List PathCell → List PathCell → Type 0
Alike x [] s = Unit {0}
Alike x (y ∷ ys) s = AllByRecursion (λ (q : PathCell). before q y ≡ before q x) s × AllByRecursion (λ (z : PathCell). before z y ≡ false) ys × Alike x ys s

gap_none : (x : PathCell) (s : List PathCell) → gap x [] s ≡ s
gap_none x [] = refl
gap_none x (q ∷ s) = elim (before q x) as (λ b. cond b (q ∷ gap x [] s) (q ∷ s) ≡ q ∷ s) [ true ↦ ap (λ r. q ∷ r) (gap_none x s) | false ↦ refl ]

pub chain : (x : PathCell) (ns s : List PathCell) → Alike x ns s → put_all ns s ≡ gap x ns s
chain x [] s a = sym (gap_none x s)
chain x (y ∷ ys) s a = ap (put y) (chain x ys s a.2) ∙ chain_one x y ys s a.0 a.1

alike_each : (p : List Cell) (c : Cell) (front : List Cell) (d : Cell) (s : List PathCell) → AllByRecursion (λ (q : PathCell). AllByRecursion (Fresh c) (path q)) s
    → AllByRecursion (λ (q : PathCell). before q (at (p ++ c ∷ front) d) ≡ before q (at p c)) s
alike_each p c front d [] f = tt
alike_each p c front d (q ∷ s) f =
    (ap (path_before (path q)) (append_assoc p (c ∷ front) (d ∷ [])) ∙ past_same c p (path q) (front ++ d ∷ []) f.0, alike_each p c front d s f.1)

-- a proper extension does not stand before
not_before_more : (p front : List Cell) (d : Cell) → path_before (p ++ (front ++ d ∷ [])) p ≡ false
not_before_more [] front d = some_before_none front d
not_before_more (a ∷ p) front d = let e = same_cell_refl a in rw e (not_before_more p front d)

below_each : (p : List Cell) (c : Cell) (front : List Cell) (t : Lamport) (k : ℕ) (bs : List ℕ)
    → AllByRecursion (λ (z : PathCell). before z (at p c) ≡ false) (text_places (p ++ c ∷ front) t k bs)
below_each p c front t k [] = tt
below_each p c front t k (b ∷ bs) = (
  rw (append_assoc p (c ∷ front) (cell_at t k ∷ []) ∙ sym (append_assoc p (c ∷ []) (front ++ cell_at t k ∷ [])))
      (not_before_more (p ++ c ∷ []) front (cell_at t k)),
  subst (λ (f : List Cell). AllByRecursion (λ (z : PathCell). before z (at p c) ≡ false) (text_places f t (suc k) bs)) (sym (append_assoc p (c ∷ front) (cell_at t k ∷ [])))
      (below_each p c (front ++ cell_at t k ∷ []) t (suc k) bs),
)

-- the rest of a text whose first cell is c
text_alike : (p : List Cell) (c : Cell) (front : List Cell) (t : Lamport) (k : ℕ) (bs : List ℕ) (s : List PathCell)
    → AllByRecursion (λ (q : PathCell). AllByRecursion (Fresh c) (path q)) s → Alike (at p c) (text_places (p ++ c ∷ front) t k bs) s
text_alike p c front t k [] s f = tt
text_alike p c front t k (b ∷ bs) s f = (
  alike_each p c front (cell_at t k) s f,
  below_each (p ++ c ∷ front) (cell_at t k) [] t (suc k) bs,
  subst (λ (g : List Cell). Alike (at p c) (text_places g t (suc k) bs) s) (sym (append_assoc p (c ∷ front) (cell_at t k ∷ [])))
      (text_alike p c (front ++ cell_at t k ∷ []) t (suc k) bs s f),
)

each_refl : (x : PathCell) (s : List PathCell) → AllByRecursion (λ (q : PathCell). before q x ≡ before q x) s
each_refl x [] = tt
each_refl x (q ∷ s) = (refl, each_refl x s)

sound_fresh : (s : List PathCell) (c : Cell) (r : List PathCell) → AllByRecursion (Sound s c) r → AllByRecursion (λ (q : PathCell). AllByRecursion (Fresh c) (path q)) r
sound_fresh s c [] e = tt
sound_fresh s c (q ∷ r) e = (e.0.2, sound_fresh s c r e.1)

-- one text put into s
pub text_placed : (s : List PathCell) (t : Lamport) (k : ℕ) (bs : List ℕ) (i : ℕ) → Strict s → AllByRecursion (Sound s (cell_at t k)) s
    → Low (cell_at t k) (left_path s i) → i ≤ length s
    → 0 < length bs
    → put_all (text_places (left_path s i) t k bs) s ≡ after_run_from i t (text_places (left_path s i) t k bs) s
text_placed s t k [] i st so low h n = absurd (omega arith)
text_placed s t k (b ∷ bs) i st so low h n =
    chain (at (left_path s i) (cell_at t k)) (text_places (left_path s i) t k (b ∷ bs)) s (
      each_refl (at (left_path s i) (cell_at t k)) s,
      below_each (left_path s i) (cell_at t k) [] t (suc k) bs,
      text_alike (left_path s i) (cell_at t k) [] t (suc k) bs s (sound_fresh s (cell_at t k) s so),
    )
    ∙ placed s (cell_at t k) (text_places (left_path s i) t k (b ∷ bs)) i st so low h
