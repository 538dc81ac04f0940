-- A sequence has each cell of its history once, in path order.
use Rattle.op_model.proofs.Elements.{each_map, each_append, member_left, member_right, each_member}
use Rattle.std.proofs.Common.{◌≡◌, ℕ, zero, suc, ◌+◌, ◌-◌, ◌<◌, ◌≤◌, ◌⊎◌, ◌↔◌, List, [], ◌∷◌, ◌++◌, length, map, refl, sym, ◌∙◌, ap, subst, inl, inr, true, false, arith, Bool}
use Rattle.std.specs.List.{AllByRecursion}
use Rattle.std.proofs.lemmas.Bool.{cases_Bool, cases_lt}
use Rattle.std.proofs.lemmas.List.{length-append, length-map}
use Rattle.lamport_clock.specs.declared.stamp.Lamport.{Lamport}
use Rattle.lamport_clock.specs.Stamps.{same_stamp}
use Rattle.lamport_clock.proofs.Later.{same_stamp_eq, same_stamp_refl}
use Rattle.lamport_clock.specs.Versions.{Entries, sees}
use Rattle.op_model.specs.declared.operation.Operation.{Operation}
use Rattle.op_model.specs.declared.operation.Piece.{Piece}
use Rattle.op_model.specs.Sorted.{EachPair, Member, Ascending}
use Rattle.op_model.specs.Operations.{stamp_of, version_of, pieces_of}
use Rattle.op_model.specs.Histories.{History, In, Distinct, newest_first}
use Rattle.op_model.specs.Cells.{Cell, same_cell, PathCell, before, put_all, left_path, text_places, new_places, op_places, both, everything, seq_where, seq, cells, cell_at}
use Rattle.op_model.specs.Shown.{texts, new_bytes, IsCell}
use Rattle.op_model.proofs.order.Insertion.{each_insert_all, member_new, member_old}
use Rattle.op_model.proofs.order.PathOrder.{same_cell_refl as same_self}
use Rattle.op_model.proofs.order.LateOperation.{seq_nil, seq_kept}
use Rattle.op_model.proofs.order.Restricted.{seq_up}
use Rattle.op_model.proofs.order.SameSets.{newest_desc, newest_same, each_in}
use Rattle.op_model.proofs.order.Unique.{Unique, seq_unique}
use Rattle.op_model.specs.Facts.{Fact, alike}
use Rattle.op_model.proofs.shown.FactCells.{cells_in}

-- cells of edit t from k on, n of them
abbrev Within : Lamport → ℕ → ℕ → PathCell → Type 0
Within t k n p = (p.cell.stamp ≡ t) × (k ≤ p.cell.k) × (p.cell.k < k + n)

text_within : (u : List Cell) (t : Lamport) (k : ℕ) (bs : List ℕ) → AllByRecursion (Within t k (length bs)) (text_places u t k bs)
text_within u t k [] = tt
text_within u t k (b ∷ bs) = (
  (refl, omega arith, omega arith),
  each_map (Within t (suc k) (length bs)) (Within t k (length (b ∷ bs))) (λ p w. (w.0, (let a = w.1 in omega arith), (let a = w.2 in omega arith)))
      (text_places (u ++ record { stamp = t; k = k } ∷ []) t (suc k) bs) (text_within (u ++ record { stamp = t; k = k } ∷ []) t (suc k) bs),
)

new_within : (s : List PathCell) (t : Lamport) (k : ℕ) (ps : List Piece) → AllByRecursion (Within t k (length (texts ps))) (new_places s t k ps)
new_within s t k [] = tt
new_within s t k (p ∷ ps) =
    let l : length (p.text ++ texts ps) ≡ length p.text + length (texts ps) = length-append p.text (texts ps) in
    each_append (Within t k (length (p.text ++ texts ps))) (text_places (left_path s p.start) t k p.text) (new_places s t (k + length p.text) ps)
    (each_map (Within t k (length p.text)) (Within t k (length (p.text ++ texts ps))) (λ q w. (w.0, w.1, (let a = w.2 in omega arith)))
    (text_places (left_path s p.start) t k p.text) (text_within (left_path s p.start) t k p.text))
    (each_map (Within t (k + length p.text) (length (texts ps))) (Within t k (length (p.text ++ texts ps))) (λ q w. (w.0, (let a = w.1 in omega arith), (let a = w.2 in omega arith)))
    (new_places s t (k + length p.text) ps) (new_within s t (k + length p.text) ps))

-- what is made of an element is among what is made of the list
pub member_map : {A B : Type 0} (f : A → B) (x : A) (xs : List A) → Member x xs → Member (f x) (map f xs)
member_map f x [] m = absurd m
member_map f x (y ∷ ys) (inl e) = inl (ap f e)
member_map f x (y ∷ ys) (inr m) = inr (member_map f x ys m)

-- s has a place of the cell
abbrev At : List PathCell → Lamport → ℕ → Type 0
At s t k = (p : PathCell) × Member p s × (p.cell ≡ record { stamp = t; k = k })

at_append : (t : Lamport) (k : ℕ) (xs ys : List PathCell) → At xs t k ⊎ At ys t k → At (xs ++ ys) t k
at_append t k xs ys m = elim m [ inl a ↦ (a.0, member_left a.0 xs ys a.1, a.2) | inr a ↦ (a.0, member_right a.0 xs ys a.1, a.2) ]

at_tail : (t : Lamport) (k : ℕ) (x : PathCell) (s : List PathCell) → At s t k → At (x ∷ s) t k
at_tail t k x s a = (a.0, inr a.1, a.2)

at_k : (t : Lamport) (j k : ℕ) (s : List PathCell) → j ≡ k → At s t j → At s t k
at_k t j k s e a = subst (λ (i : ℕ). At s t i) e a

text_at : (u : List Cell) (t : Lamport) (k : ℕ) (bs : List ℕ) (j : ℕ) → j < length bs → At (text_places u t k bs) t (k + j)
text_at u t k [] j h = absurd (omega arith)
text_at u t k (b ∷ bs) zero h = at_k t k (k + 0) (text_places u t k (b ∷ bs)) (omega arith) (record { above = u; cell = record { stamp = t; k = k } }, inl refl, refl)
text_at u t k (b ∷ bs) (suc j) h =
    let c : Cell = record { stamp = t; k = k } in
    at_k t (suc k + j) (k + suc j) (text_places u t k (b ∷ bs)) (omega arith)
    (at_tail t (suc k + j) (record { above = u; cell = c }) (text_places (u ++ c ∷ []) t (suc k) bs) (text_at (u ++ c ∷ []) t (suc k) bs j (omega arith)))

new_at : (s : List PathCell) (t : Lamport) (k : ℕ) (ps : List Piece) (j : ℕ) → j < length (texts ps) → At (new_places s t k ps) t (k + j)
new_at s t k [] j h = absurd (omega arith)
new_at s t k (p ∷ ps) j h =
    let l : length (p.text ++ texts ps) ≡ length p.text + length (texts ps) = length-append p.text (texts ps) in
    at_append t (k + j) (text_places (left_path s p.start) t k p.text) (new_places s t (k + length p.text) ps) (elim (cases_lt j (length p.text)) [
      | inl a ↦ inl (text_at (left_path s p.start) t k p.text j a)
      | inr a ↦ inr (at_k t (k + length p.text + (j - length p.text)) (k + j) (new_places s t (k + length p.text) ps) (omega arith)
          (new_at s t (k + length p.text) ps (j - length p.text) (omega arith)))
    ])

at_old : (t : Lamport) (k : ℕ) (xs s : List PathCell) → At s t k → At (put_all xs s) t k
at_old t k xs s a = (a.0, member_old before a.0 xs s a.1, a.2)

at_new : (t : Lamport) (k : ℕ) (xs s : List PathCell) → At xs t k → At (put_all xs s) t k
at_new t k xs s a = (a.0, each_member (λ (p : PathCell). Member p (put_all xs s)) xs a.0 (member_new before xs s) a.1, a.2)

-- each byte of an edit has a place
all_at : (d : History) (o : Operation) (j : ℕ) → In d o → j < length (texts (pieces_of o)) → At (seq_where everything d) (stamp_of o) j
all_at [] o j i h = absurd i
all_at (q ∷ d) o j i h = subst (λ (s : List PathCell). At s (stamp_of o) j) (sym (seq_kept everything q d refl)) (elim i [
  | inl e ↦ subst (λ (x : Operation). j < length (texts (pieces_of x)) → At (put_all (op_places (seq_where (both everything (version_of q)) d) q) (seq_where everything d)) (stamp_of x) j) (sym e) own h
  | inr e ↦ at_old (stamp_of o) j (op_places (seq_where (both everything (version_of q)) d) q) (seq_where everything d) (all_at d o j e h)
])
  where
    own : j < length (texts (pieces_of q)) → At (put_all (op_places (seq_where (both everything (version_of q)) d) q) (seq_where everything d)) (stamp_of q) j
    own g = at_new (stamp_of q) j (op_places (seq_where (both everything (version_of q)) d) q) (seq_where everything d)
        (at_k (stamp_of q) (0 + j) j (op_places (seq_where (both everything (version_of q)) d) q) (omega arith) (new_at (seq_where (both everything (version_of q)) d) (stamp_of q) 0 (pieces_of q) j g))

-- the place's cell is a byte of an operation of d
abbrev pub From : History → PathCell → Type 0
From d p = (o : Operation) × In d o × (p.cell.stamp ≡ stamp_of o) × (p.cell.k < length (texts (pieces_of o)))

pub all_from : (d : History) → AllByRecursion (From d) (seq_where everything d)
all_from [] = rw (seq_nil everything) tt
all_from (q ∷ d) = rw (seq_kept everything q d refl) (each_insert_all (From (q ∷ d)) before (op_places (seq_where (both everything (version_of q)) d) q) (seq_where everything d)
    (each_map (Within (stamp_of q) 0 (length (texts (pieces_of q)))) (From (q ∷ d)) (λ p w. (q, inl refl, w.0, (let a = w.2 in omega arith)))
    (op_places (seq_where (both everything (version_of q)) d) q) (new_within (seq_where (both everything (version_of q)) d) (stamp_of q) 0 (pieces_of q)))
    (each_map (From d) (From (q ∷ d)) (λ p f. (f.0, inr f.1, f.2, f.3)) (seq_where everything d) (all_from d)))

member_cells : (p : PathCell) (s : List PathCell) → Member p s → Member p.cell (cells s)
member_cells p [] m = absurd m
member_cells p (q ∷ s) m = elim m [ inl e ↦ inl (ap (λ (x : PathCell). x.cell) e) | inr n ↦ inr (member_cells p s n) ]

cells_member : (c : Cell) (s : List PathCell) → Member c (cells s) → (p : PathCell) × Member p s × (c ≡ p.cell)
cells_member c [] m = absurd m
cells_member c (q ∷ s) m = elim m [ inl e ↦ (q, inl refl, e) | inr n ↦ (let r = cells_member c s n in (r.0, inr r.1, r.2)) ]

-- with distinct stamps the bytes of a stamp are those of its operation
pub bytes_of_one : (h : History) (o : Operation) → Distinct h → In h o → new_bytes h (stamp_of o) ≡ texts (pieces_of o)
bytes_of_one [] o d i = absurd i
bytes_of_one (p ∷ h) o d i = elim i [
  | inl e ↦ subst (λ (x : Operation). new_bytes (p ∷ h) (stamp_of x) ≡ texts (pieces_of x)) (sym e) own
  | inr n ↦ other n (cases_Bool (same_stamp (stamp_of p) (stamp_of o))) (bytes_of_one h o d.1 n)
]
  where
    own : new_bytes (p ∷ h) (stamp_of p) ≡ texts (pieces_of p)
    own = let r = same_stamp_refl (stamp_of p) in rw r refl

    other : In h o → (same_stamp (stamp_of p) (stamp_of o) ≡ true) ⊎ (same_stamp (stamp_of p) (stamp_of o) ≡ false)
        → new_bytes h (stamp_of o) ≡ texts (pieces_of o) → new_bytes (p ∷ h) (stamp_of o) ≡ texts (pieces_of o)
    other n (inl s) ih = absurd (each_in (λ (x : Operation). stamp_of x ≡ stamp_of p → ⊥) h o d.0 n (sym (same_stamp_eq (stamp_of p) (stamp_of o) s)))
    other n (inr s) ih = rw s ih

bytes_from : (h : History) (t : Lamport) (k : ℕ) → k < length (new_bytes h t) → (o : Operation) × In h o × (stamp_of o ≡ t) × (k < length (texts (pieces_of o)))
bytes_from [] t k l = absurd (omega arith)
bytes_from (p ∷ h) t k l = go (cases_Bool (same_stamp (stamp_of p) t)) (bytes_from h t k)
  where
    go : (same_stamp (stamp_of p) t ≡ true) ⊎ (same_stamp (stamp_of p) t ≡ false)
        → (k < length (new_bytes h t) → (o : Operation) × In h o × (stamp_of o ≡ t) × (k < length (texts (pieces_of o))))
        → (o : Operation) × In (p ∷ h) o × (stamp_of o ≡ t) × (k < length (texts (pieces_of o)))
    go (inl s) f = (p, inl refl, same_stamp_eq (stamp_of p) t s, rw s at l)
    go (inr s) f = let r = f (rw s at l) in (r.0, inr r.1, r.2, r.3)

differ : (a b : Cell) → same_cell a b ≡ false → a ≡ b → ⊥
differ a b n e = let r : same_cell b b ≡ false = subst (λ (x : Cell). same_cell x b ≡ false) e n in let t = same_self b in cc

each_differ : (p : PathCell) (s : List PathCell) → AllByRecursion (λ (q : PathCell). same_cell p.cell q.cell ≡ false) s → AllByRecursion (λ (c : Cell). p.cell ≡ c → ⊥) (cells s)
each_differ p [] e = tt
each_differ p (q ∷ s) e = (differ p.cell q.cell e.0, each_differ p s e.1)

pairs_differ : (s : List PathCell) → Unique s → EachPair (λ (a b : Cell). a ≡ b → ⊥) (cells s)
pairs_differ [] u = tt
pairs_differ (p ∷ s) u = (each_differ p s u.0, pairs_differ s u.1)

pub seq_ascends : (h : History) → Ascending before (seq h)
unfolding seq
seq_ascends h = seq_up everything (newest_first h)

pub once : (h : History) → Distinct h → EachPair (λ (a b : Cell). a ≡ b → ⊥) (cells (seq h))
unfolding seq
once h d = pairs_differ (seq_where everything (newest_first h)) (seq_unique everything (newest_first h) (newest_desc h d))

pub all_cells : (h : History) → Distinct h → (c : Cell) → Member c (cells (seq h)) ↔ IsCell h c
unfolding seq
all_cells h d c = (to, from)
  where
    to : Member c (cells (seq_where everything (newest_first h))) → IsCell h c
    to m =
        let p = cells_member c (seq_where everything (newest_first h)) m in
        let f = each_member (From (newest_first h)) (seq_where everything (newest_first h)) p.0 (all_from (newest_first h)) p.1 in
        let b = bytes_of_one h f.0 d ((newest_same h f.0).0 f.1) in
        subst (λ (x : Cell). x.k < length (new_bytes h x.stamp)) (sym p.2) (subst (λ (t : Lamport). p.0.cell.k < length (new_bytes h t)) (sym f.2) (rw b f.3))

    from : IsCell h c → Member c (cells (seq_where everything (newest_first h)))
    from k =
        let b = bytes_from h c.stamp c.k k in
        let a = all_at (newest_first h) b.0 c.k ((newest_same h b.0).1 b.1) b.3 in
        let e : a.0.cell ≡ c = a.2 ∙ ap (λ (t : Lamport). record { stamp = t; k = c.k }) b.2 in
        subst (λ (x : Cell). Member x (cells (seq_where everything (newest_first h)))) e (member_cells a.0 (seq_where everything (newest_first h)) a.1)

-- ---- how many cells

pub length_cells : (s : List PathCell) → length (cells s) ≡ length s
length_cells s = length-map s (λ (p : PathCell). p.cell)

-- ---- an edit's stamp is new

pub cell_in : (n : ℕ) (t : Lamport) (k : ℕ) (v : Bool) (d : List Lamport) (s : List Fact) → 0 < n → Member (cell_at t k) (cells_in (alike t k n v d ++ s))
cell_in zero t k v d s h = absurd (omega arith)
cell_in (suc n) t k v d s h = inl refl

pub in_more : (c : Cell) (a s : List Fact) → Member c (cells_in s) → Member c (cells_in (a ++ s))
in_more c [] s m = m
in_more c (x ∷ a) s m = inr (in_more c a s m)

-- ---- the version of a history sees all of it

pub seen_cell : (v : Entries) (h : History) (t : Lamport) → AllByRecursion (λ (o : Operation). sees v (stamp_of o) ≡ true) h → 0 < length (new_bytes h t) → sees v t ≡ true
seen_cell v [] t e l = absurd (omega (arith, l))
seen_cell v (o ∷ h) t e l = elim (cases_Bool (same_stamp (stamp_of o) t)) [
  | inl q ↦ subst (λ (u : Lamport). sees v u ≡ true) (same_stamp_eq (stamp_of o) t q) e.0
  | inr q ↦ seen_cell v h t e.1 (rw q at l)
]

pub alike_bounds : (c : Cell) (t : Lamport) (o n : ℕ) (v : Bool) (d : List Lamport) → Member c (cells_in (alike t o n v d)) → (t ≡ c.stamp) × (o ≤ c.k) × (c.k < o + n)
alike_bounds c t o zero v d m = absurd m
alike_bounds c t o (suc n) v d (inl e) = let k : c.k ≡ o = ap (λ (x : Cell). x.k) e in (ap (λ (x : Cell). x.stamp) (sym e), omega (arith, k), omega (arith, k))
alike_bounds c t o (suc n) v d (inr m) = let k = alike_bounds c t (suc o) n v d m in let a = k.1 in let b = k.2 in (k.0, omega (arith, a), omega (arith, b))
