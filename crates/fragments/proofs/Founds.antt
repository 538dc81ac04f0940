-- If fragments and an index stand for a history, the index finds the fragment of each cell; one fragment stands for the
-- base.
use Rattle.std.proofs.Common.{◌≡◌, ℕ, ◌+◌, ◌<◌, ◌≤◌, ◌^◌, Bool, true, false, cond, leb, nat_lt, Option, List, [], ◌∷◌, ◌++◌, length, map, refl, sym, ap, ◌∙◌, arith, subst, inl, inr, Some, None, option_map}
use Rattle.std.specs.List.{AllByRecursion}
use Rattle.std.proofs.lemmas.Bool.{cases_Bool, and_parts, and_from, leb-true, le-leb, ltb-true, ltb-false}
use Rattle.std.proofs.lemmas.List.{append-nil, map-append}
use Rattle.lamport_clock.specs.declared.stamp.Lamport.{Lamport}
use Rattle.lamport_clock.specs.Stamps.{same_stamp}
use Rattle.lamport_clock.proofs.Later.{same_stamp_eq, same_stamp_refl}
use Rattle.op_model.specs.declared.operation.Operation.{Operation}
use Rattle.op_model.specs.declared.operation.UndoCount.{UndoCount}
use Rattle.op_model.specs.Operations.{counts_of}
use Rattle.op_model.specs.Sorted.{EachPair, Member}
use Rattle.op_model.specs.Histories.{History, base}
use Rattle.op_model.specs.Cells.{Cell, seq, cells, cell_at}
use Rattle.op_model.specs.Facts.{Fact, alike}
use Rattle.op_model.specs.Walked.{facts_of}
use Rattle.op_model.specs.Lawful.{Lawful}
use Rattle.op_model.proofs.order.CellsOnce.{member_map}
use Rattle.op_model.proofs.MainLaws.{each_cell_once}
use Rattle.op_model.proofs.shown.FactCells.{cells_in, told_cells}
use Rattle.op_model.proofs.texts.WholeTexts.{base_told}
use Rattle.op_model.proofs.Elements.{member_left, member_right, pairs_right, pairs_across, each_member}
use Rattle.op_model.proofs.shown.Alike.{alike_has}
use Rattle.fragments.specs.declared.fragment.Fragment.{Fragment}
use Rattle.fragments.specs.declared.index_entry.IndexEntry.{IndexEntry}
use Rattle.fragments.specs.Index.{covers, nearest, entry_for, id_for}
use Rattle.fragments.specs.Stand.{runs, Tell, IsFilled, entry_of, IsIndexOf}
use Rattle.fragments.specs.Laws.{IndexFindsFragments, BaseStands, whole_base}
use Rattle.fragments.specs.DeletedRuns.{has_cell as has_number}
use Rattle.fragments.proofs.Runs.{none_numbered}

pub fragment_of : (e : IndexEntry) (fs : List Fragment) → Member e (map entry_of fs) → (f : Fragment) × Member f fs × (e ≡ entry_of f)
fragment_of e [] m = absurd m
fragment_of e (g ∷ fs) (inl q) = (g, inl refl, q)
fragment_of e (g ∷ fs) (inr m) = let k = fragment_of e fs m in (k.0, inr k.1, k.2)

-- ---- the entry of a cell

-- what is found is an entry, and covers the cell
abbrev pub IsSound : Lamport → ℕ → List IndexEntry → Option IndexEntry → Type 0
IsSound t o w None = Unit {0}
IsSound t o w (Some e) = Member e w × (covers t o e ≡ true)

sound_more : (t : Lamport) (o : ℕ) (y : IndexEntry) (w : List IndexEntry) (r : Option IndexEntry) → IsSound t o w r → IsSound t o (y ∷ w) r
sound_more t o y w None h = tt
sound_more t o y w (Some e) h = (inr h.0, h.1)

sound_nearest : (t : Lamport) (o : ℕ) (y : IndexEntry) (w : List IndexEntry) (r : Option IndexEntry) → covers t o y ≡ true → IsSound t o w r → IsSound t o (y ∷ w) (Some (nearest y r))
sound_nearest t o y w None c h = (inl refl, c)
sound_nearest t o y w (Some z) c h = go (nat_lt y.offset z.offset)
  where
    go : (b : Bool) → IsSound t o (y ∷ w) (Some (cond b z y))
    go true = (inr h.0, h.1)
    go false = (inl refl, c)

pub sound : (t : Lamport) (o : ℕ) (w : List IndexEntry) → IsSound t o w (entry_for t o w)
sound t o [] = tt
sound t o (y ∷ w) = elim (cases_Bool (covers t o y)) [
  | inl c ↦ rw c (sound_nearest t o y w (entry_for t o w) c (sound t o w))
  | inr c ↦ rw c (sound_more t o y w (entry_for t o w) (sound t o w))
]

-- it has an offset no less than x's
abbrev pub IsBest : IndexEntry → Option IndexEntry → Type 0
IsBest x None = ⊥
IsBest x (Some e) = x.offset ≤ e.offset

best_first : (y : IndexEntry) (r : Option IndexEntry) → IsBest y (Some (nearest y r))
best_first y None = omega arith
best_first y (Some z) = go (nat_lt y.offset z.offset) refl
  where
    go : (b : Bool) → nat_lt y.offset z.offset ≡ b → y.offset ≤ (cond b z y).offset
    go true e = let l = ltb-true y.offset z.offset e in omega arith
    go false e = omega arith

best_behind : (x y : IndexEntry) (r : Option IndexEntry) → IsBest x r → IsBest x (Some (nearest y r))
best_behind x y None h = absurd h
best_behind x y (Some z) h = go (nat_lt y.offset z.offset) refl
  where
    go : (b : Bool) → nat_lt y.offset z.offset ≡ b → x.offset ≤ (cond b z y).offset
    go true e = h
    go false e = let l : z.offset ≤ y.offset = ltb-false y.offset z.offset e in omega arith

pub best : (t : Lamport) (o : ℕ) (x : IndexEntry) (w : List IndexEntry) → Member x w → covers t o x ≡ true → IsBest x (entry_for t o w)
best t o x [] m c = absurd m
best t o x (y ∷ w) (inl e) c = let d : covers t o y ≡ true = ap (covers t o) (sym e) ∙ c in rw d (subst (λ (z : IndexEntry). IsBest z (Some (nearest y (entry_for t o w)))) (sym e) (best_first y (entry_for t o w)))
best t o x (y ∷ w) (inr m) c = elim (cases_Bool (covers t o y)) [
  | inl d ↦ rw d (best_behind x y (entry_for t o w) (best t o x w m c))
  | inr d ↦ rw d (best t o x w m c)
]

-- ---- cells

abbrev cells_of : List Fragment → List Cell
cells_of fs = cells_in (facts_of (runs fs))

abbrev facts : Fragment → List Fact
facts f = alike f.stamp f.offset f.len f.visible f.deletions

abbrev Differ : Cell → Cell → Type 0
Differ a b = a ≡ b → ⊥

abbrev Has : Fragment → Lamport → ℕ → Type 0
Has f t k = (f.stamp ≡ t) × (f.offset ≤ k) × (k < f.offset + f.len)

has_cell : (f : Fragment) (t : Lamport) (k : ℕ) → Has f t k → Member (cell_at t k) (cells_in (facts f))
has_cell f t k h = subst (λ (s : Lamport). Member (cell_at s k) (cells_in (facts f))) h.0 (alike_has f.stamp f.offset f.len f.visible f.deletions k h.1 h.2)

cells_first : (f : Fragment) (fs : List Fragment) → cells_of (f ∷ fs) ≡ cells_in (facts f) ++ cells_of fs
cells_first f fs = map-append (λ (q : Fact). q.cell) (facts f) (facts_of (runs fs))

one_has : (f : Fragment) (fs : List Fragment) (t : Lamport) (k : ℕ) → Member f fs → Has f t k → Member (cell_at t k) (cells_of fs)
one_has f [] t k m h = absurd m
one_has f (x ∷ fs) t k (inl e) h = subst (Member (cell_at t k)) (sym (cells_first x fs)) (member_left (cell_at t k) (cells_in (facts x)) (cells_of fs) (has_cell x t k (subst (λ (z : Fragment). Has z t k) e h)))
one_has f (x ∷ fs) t k (inr m) h = subst (Member (cell_at t k)) (sym (cells_first x fs)) (member_right (cell_at t k) (cells_in (facts x)) (cells_of fs) (one_has f fs t k m h))

-- a cell is of one fragment
same_fragment : (fs : List Fragment) (f g : Fragment) (t : Lamport) (k : ℕ) → EachPair Differ (cells_of fs) → Member f fs → Member g fs → Has f t k → Has g t k → f ≡ g
same_fragment [] f g t k d m n h i = absurd m
same_fragment (x ∷ fs) f g t k d m n h i = go m n (λ r. same_fragment fs f g t k r)
  where
    whole : EachPair Differ (cells_in (facts x) ++ cells_of fs)
    whole = subst (EachPair Differ) (cells_first x fs) d

    apart : (a b : Fragment) → a ≡ x → Member b fs → Has a t k → Has b t k → ⊥
    apart a b e o p q = pairs_across Differ (cell_at t k) (cell_at t k) (cells_in (facts x)) (cells_of fs) whole
        (has_cell x t k (subst (λ (z : Fragment). Has z t k) e p)) (one_has b fs t k o q) refl

    go : Member f (x ∷ fs) → Member g (x ∷ fs) → (EachPair Differ (cells_of fs) → Member f fs → Member g fs → Has f t k → Has g t k → f ≡ g) → f ≡ g
    go (inl e) (inl o) rest = e ∙ sym o
    go (inl e) (inr o) rest = absurd (apart f g e o h i)
    go (inr e) (inl o) rest = absurd (apart g f o e i h)
    go (inr e) (inr o) rest = rest (pairs_right Differ (cells_in (facts x)) (cells_of fs) whole) e o h i

pub cells_differ : (fs : List Fragment) (h : History) → Lawful h → Tell fs h → EachPair Differ (cells_of fs)
cells_differ fs h l e = subst (EachPair Differ) (sym (ap cells_in e ∙ told_cells h (cells (seq h)))) (each_cell_once h l).1

-- ---- what is found

pub finds : (fs : List Fragment) (w : List IndexEntry) → EachPair Differ (cells_of fs) → AllByRecursion IsFilled fs → IsIndexOf fs w → (f : Fragment) → Member f fs → (j : ℕ) → j < f.len → id_for f.stamp (f.offset + j) w ≡ Some f.id
finds fs w d filled index f m j l = go (entry_for f.stamp (f.offset + j) w) refl (sound f.stamp (f.offset + j) w) (best f.stamp (f.offset + j) (entry_of f) w in_w over)
  where
    in_w : Member (entry_of f) w
    in_w = (index (entry_of f)).1 (member_map entry_of f fs m)

    over : covers f.stamp (f.offset + j) (entry_of f) ≡ true
    over = and_from _ _ (same_stamp_refl f.stamp) (le-leb f.offset (f.offset + j) (omega arith))

    same : (g : Fragment) → Member g fs → covers f.stamp (f.offset + j) (entry_of g) ≡ true → f.offset ≤ g.offset → f ≡ g
    same g n c b =
        let k = and_parts (same_stamp g.stamp f.stamp) (leb g.offset (f.offset + j)) c in
        let u : g.offset ≤ f.offset + j = leb-true _ _ k.1 in
        let some : 0 < g.len = (each_member IsFilled fs g filled n).0 in
        same_fragment fs f g f.stamp g.offset d m n (refl, b, omega arith) (same_stamp_eq g.stamp f.stamp k.0, omega arith, omega arith)

    go : (r : Option IndexEntry) → entry_for f.stamp (f.offset + j) w ≡ r → IsSound f.stamp (f.offset + j) w r → IsBest (entry_of f) r → id_for f.stamp (f.offset + j) w ≡ Some f.id
    go None q s b = absurd b
    go (Some e) q s b =
        let k = fragment_of e fs ((index e).0 s.0) in
        let c = ap (covers f.stamp (f.offset + j)) (sym k.2) ∙ s.1 in
        let o : f.offset ≤ k.0.offset = subst (λ (z : IndexEntry). f.offset ≤ z.offset) k.2 b in
        ap (option_map (λ (z : IndexEntry). z.id)) q ∙ ap (λ (z : IndexEntry). Some z.id) k.2 ∙ ap (λ (z : Fragment). Some z.id) (sym (same k.0 k.1 c o))

pub finds_none : (fs : List Fragment) (w : List IndexEntry) → IsIndexOf fs w → (t : Lamport) → AllByRecursion (λ (f : Fragment). f.stamp ≡ t → ⊥) fs → (o : ℕ) → id_for t o w ≡ None
finds_none fs w index t n o = go (entry_for t o w) refl (sound t o w)
  where
    go : (r : Option IndexEntry) → entry_for t o w ≡ r → IsSound t o w r → id_for t o w ≡ None
    go None q s = ap (option_map (λ (z : IndexEntry). z.id)) q
    go (Some e) q s =
        let k = fragment_of e fs ((index e).0 s.0) in
        let c = and_parts (same_stamp e.stamp t) (leb e.offset o) s.1 in
        absurd (each_member (λ (f : Fragment). f.stamp ≡ t → ⊥) fs k.0 n k.1 (ap (λ (z : IndexEntry). z.stamp) (sym k.2) ∙ same_stamp_eq e.stamp t c.0))

pub index_finds_fragments : IndexFindsFragments
index_finds_fragments fs w u h l s = (finds fs w.entries (cells_differ fs h l s.cells) s.filled s.index, finds_none fs w.entries s.index)

-- ---- the base

pub base_stands : BaseStands
base_stands = (
  λ id t some few low high ends. record {
    cells = append-nil (alike (record { value = 1; replica = 0 }) 0 (length t) true []) ∙ sym (base_told t);
    filled = ((some, (let l : length t < 2 ^ 64 = few in omega arith)), tt);
    ids = (low, ends, high);
    ascending = λ i j d l m. absurd (omega arith);
    index = λ e. (λ m. m, λ m. m);
    numbered = none_numbered;
    deletions = λ l s u k. sym (none_once (has_number u k (whole_base id t)));
    counts = refl;
    undos = ((λ op m c n k. absurd (none op t m c n)), tt);
  },
  record {
    cells = sym (base_told []);
    filled = tt;
    ids = refl;
    ascending = λ i j d l m. absurd (omega arith);
    index = λ e. (λ m. m, λ m. m);
    numbered = none_numbered;
    deletions = λ l s u k. refl;
    counts = refl;
    undos = tt;
  },
)
  where
    none_once : (b : Bool) → cond b 0 0 + 0 ≡ 0
    none_once true = omega arith
    none_once false = omega arith

    none : (op : Operation) (t : List ℕ) → Member op (base t ∷ []) → (c : UndoCount) → Member c (counts_of op) → ⊥
    none op t (inl e) c n = subst (λ (o : Operation). Member c (counts_of o)) e n
    none op t (inr m) c n = m
