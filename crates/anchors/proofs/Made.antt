-- Anchors made at shown cells.
use Rattle.std.proofs.Common.{[], min, ◌^◌, ◌≡◌, ℕ, zero, suc, ◌+◌, ◌-◌, ◌<◌, Bool, true, cond, eqb, List, ◌∷◌, ◌++◌, length, Some, None, refl, sym, ap, ◌∙◌, arith, subst}
use Rattle.std.specs.List.{AllByRecursion}
use Rattle.std.specs.Prelude.{slice_get}
use Rattle.std.specs.Option.{option_map}
use Rattle.std.proofs.lemmas.Bool.{eqb-true, false_from_ne_true}
use Rattle.std.proofs.lemmas.Option.{slice_get_past, slice_get_within}
use Rattle.op_model.specs.Histories.{History, SameSet}
use Rattle.op_model.specs.Cells.{Cell, cell_at}
use Rattle.op_model.specs.Shown.{shows, text}
use Rattle.op_model.specs.Lawful.{Lawful}
use Rattle.op_model.specs.declared.anchor.Anchor.TheVariants.{Greatest, At}
use Rattle.op_model.specs.declared.anchor.Bias.TheVariants.{Left, Right}
use Rattle.op_model.specs.Anchors.{shown_cells, left_anchor, right_anchor, shown_count}
use Rattle.op_model.proofs.anchors.Standing.{text_length}
use Rattle.op_model.specs.declared.anchor.Bias.{Bias}
use Rattle.op_model.proofs.MainLaws.{same_sets_answer_alike}
use Rattle.undo_map.specs.declared.entry.UndoEntry.{UndoEntry}
use Rattle.fragments.specs.declared.fragment.Fragment.{Fragment}
use Rattle.fragments.specs.DeletedRuns.{IndexState}
use Rattle.fragments.specs.Stand.{Stand, Tell, IsFilled}
use Rattle.fragments.specs.Laws.{shown_len}
use Rattle.fragments.proofs.Cells.{shown_number}
use Rattle.anchors.specs.declared.making.Byte.{Byte}
use Rattle.anchors.specs.Making.{cell_of, made_anchor}
use Rattle.anchors.proofs.Splits.{got_shown}
use Rattle.anchors.proofs.Runs.{before, behind, cells_split, is_shown, shown_before}
use Rattle.anchors.proofs.Seeking.{ByteAt, seek_none, shown_sought}

-- behind the last there is none
pub no_byte : (fs : List Fragment) (w : IndexState) (u : List UndoEntry) (h : History) (o : ℕ) → Stand fs w u h → None ≡ slice_get fs (shown_sought o 0 fs) → None ≡ slice_get (shown_cells h) o
no_byte fs w u h o s e =
    let k = seek_none fs o 0 (omega arith) (sym e) in
    let n = shown_number fs h s.cells in
    sym (slice_get_past (shown_cells h) o (omega (arith, k, n)))

-- its fragment is filled
filled_at : (fs : List Fragment) (w : IndexState) (u : List UndoEntry) (h : History) (o b : ℕ) (f : Fragment) → Stand fs w u h → ByteAt fs o f b → f.offset + f.len < 2 ^ 64
filled_at fs w u h o b f s a = (go a.pre (subst (AllByRecursion IsFilled) a.parts s.filled)).1
  where
    go : (pre : List Fragment) → AllByRecursion IsFilled (pre ++ f ∷ a.post) → IsFilled f
    go [] k = k.0
    go (x ∷ pre) k = go pre k.1

-- the number that a fragment's cell has there
number_is : (fs : List Fragment) (w : IndexState) (u : List UndoEntry) (h : History) (o b n : ℕ) (f : Fragment) → Stand fs w u h → ByteAt fs o f b
    → n ≡ min (f.offset + (o - b)) (2 ^ 64 - 1) → (n ≡ f.offset + (o - b)) × (n + 1 < 2 ^ 64)
number_is fs w u h o b n f s a e = let l = a.low in let m = a.high in let g = filled_at fs w u h o b f s a in (omega (arith, e, l, m, g), omega (arith, e, l, m, g))

-- the cell that a fragment has there
pub byte_is : (fs : List Fragment) (w : IndexState) (u : List UndoEntry) (h : History) (o b n : ℕ) (f : Fragment) → Stand fs w u h → Lawful h → ByteAt fs o f b
    → n ≡ min (f.offset + (o - b)) (2 ^ 64 - 1) → Some (cell_at f.stamp n) ≡ slice_get (shown_cells h) o
byte_is fs w u h o b n f s l a e =
    let lo = a.low in
    let hi = a.high in
    let ct = a.count in
    let m : o - b < f.len = omega (arith, lo, hi) in
    let t : Tell (a.pre ++ f ∷ a.post) h = subst (λ (z : List Fragment). Tell z h) a.parts s.cells in
    let c : Cell = cell_at f.stamp (f.offset + (o - b)) in
    let cs : List Cell = before h a.pre a.post f (o - b) t m in
    let v : shows h c ≡ true = sym (is_shown h a.pre a.post f (o - b) t m) ∙ a.visible in
    let k : shown_count h cs ≡ shown_len a.pre + cond f.visible (o - b) 0 = shown_before h a.pre a.post f (o - b) t m in
    let x : cond f.visible (o - b) 0 ≡ o - b = ap (λ (z : Bool). cond z (o - b) 0) a.visible in
    let q : shown_count h cs ≡ o = omega (arith, k, x, ct, lo) in
    ap (λ (z : ℕ). Some (cell_at f.stamp z)) (number_is fs w u h o b n f s a e).0
    ∙ sym (got_shown h l cs c (behind h a.pre a.post f (o - b) t m) (cells_split h a.pre a.post f (o - b) t m) v) ∙ ap (slice_get (shown_cells h)) q

pub byte_room : (fs : List Fragment) (w : IndexState) (u : List UndoEntry) (h : History) (o b n : ℕ) (f : Fragment) → Stand fs w u h → ByteAt fs o f b → n ≡ min (f.offset + (o - b)) (2 ^ 64 - 1) → n + 1 < 2 ^ 64
byte_room fs w u h o b n f s a e = (number_is fs w u h o b n f s a e).1

pub left_some : (h : History) (o : ℕ) (b : Byte) (n : ℕ) → (o ≡ 0 → ⊥) → Some (cell_of b) ≡ slice_get (shown_cells h) (o - 1) → b.k + 1 < 2 ^ 64 → n ≡ min (b.k + 1) (2 ^ 64 - 1)
    → left_anchor h o ≡ Some (At b.stamp n Left)
unfolding left_anchor
left_some h zero b n z e m i = absurd (z refl)
left_some h (suc o) b n z e m i =
    let q : suc o - 1 ≡ o = omega arith in
    let k : n ≡ suc b.k = omega (arith, m, i) in
    ap (option_map (λ (c : Cell). At c.stamp (suc c.k) Left)) (sym (e ∙ ap (slice_get (shown_cells h)) q)) ∙ ap (λ (x : ℕ). Some (At b.stamp x Left)) (sym k)

pub right_some : (h : History) (o : ℕ) (b : Byte) → Lawful h → Some (cell_of b) ≡ slice_get (shown_cells h) o → right_anchor h o ≡ Some (At b.stamp b.k Right)
unfolding right_anchor
right_some h o b l e =
    let n = slice_get_within (shown_cells h) o (cell_of b) (sym e) in let t = text_length h l in
    ap (λ (x : Bool). cond x (Some Greatest) (option_map (λ (c : Cell). At c.stamp c.k Right) (slice_get (shown_cells h) o)))
    (false_from_ne_true (eqb o (length (text h))) (λ q. let i = eqb-true o (length (text h)) q in absurd (omega (arith, i, n, t))))
    ∙ ap (option_map (λ (c : Cell). At c.stamp c.k Right)) (sym e)

pub made_same : (h g : History) → Lawful h → Lawful g → SameSet h g → (o : ℕ) → (b : Bias) → made_anchor h o b ≡ made_anchor g o b
made_same h g l m s o Left = ((same_sets_answer_alike h g l m s).0 o).0
made_same h g l m s o Right = ((same_sets_answer_alike h g l m s).0 o).1
