-- The text of chunks of which a range is changed.
use Rattle.std.specs.Prelude.{slice_get}
use Rattle.std.proofs.Common.{◌≡◌, ℕ, ◌+◌, ◌-◌, ◌^◌, ◌<◌, ◌≤◌, Some, List, [], ◌∷◌, ◌++◌, length, take, drop, get_or, refl, ap, sym, subst, ◌∙◌, arith, append_assoc, length-append, length-take, ⊎_elim}
use Rattle.std.specs.List.{All, concat}
use Rattle.std.specs.Str.{IsUtf8, IsCharBoundary}
use Rattle.std.proofs.lemmas.Bool.{cases_lt}
use Rattle.std.proofs.lemmas.List.{append-nil, drop_all, take-take, drop-take, get_or-take}
use Rattle.std.proofs.lemmas.List.Elements.{All-append, All-take, All-drop, All-push, All-nil}
use Rattle.std.proofs.lemmas.Str.{IsUtf8-append}
use Rattle.sum_tree.specs.Spliced.{splice_list}
use Rattle.rope_chunks.specs.Chunks.{IsChunk, AreChunks}
use Rattle.rope_chunks.specs.Spots.{IsSpot, text_with}
use Rattle.std.proofs.lemmas.List.Folds.{concat-append}
use Rattle.rope_chunks.proofs.Grows.{concat-more, get_drop}
use Rattle.rope_chunks.proofs.Stops.{front-short}
use Rattle.rope_chunks.proofs.Spots.{spot_front, spot_back}

pub concat-spliced : (i j : ℕ) (ys cs : List (List ℕ)) → concat (splice_list i j ys cs) ≡ text_with i j (concat ys) cs
concat-spliced i j ys cs =
    concat-append (take i cs ++ ys) (drop j cs) ∙ ap (λ t. t ++ concat (drop j cs)) (concat-append (take i cs) ys)

pub are_changed : (i j : ℕ) (ys cs : List (List ℕ)) → All IsChunk cs → All IsChunk ys → length (text_with i j (concat ys) cs) ≤ 2 ^ 40 → AreChunks (splice_list i j ys cs)
are_changed i j ys cs old new few = record {
  each = All-append IsChunk (take i cs ++ ys) (drop j cs) (All-append IsChunk (take i cs) ys (All-take IsChunk i cs old) new) (All-drop IsChunk j cs old);
  few = rw (concat-spliced i j ys cs) few;
}

-- the chunk before the first i, and the one after them
pub before_is : (cs : List (List ℕ)) (i : ℕ) (c : List ℕ) → 0 < i → slice_get cs (i - 1) ≡ Some c → concat (take (i - 1) cs) ++ c ≡ concat (take i cs)
before_is cs i c some h =
    let one : i - 1 + 1 ≡ i = omega (arith, some) in
    sym (concat-more cs (i - 1) c h) ∙ ap (λ n. concat (take n cs)) one

pub behind_is : (cs : List (List ℕ)) (i : ℕ) (c : List ℕ) → slice_get cs i ≡ Some c → c ++ concat (drop (i + 1) cs) ≡ concat (drop i cs)
behind_is cs i c h = ap concat (sym (get_drop cs i c h))

pub one_is : (c front middle back : List ℕ) → c ≡ (front ++ middle) ++ back → IsUtf8 front → IsUtf8 middle → IsUtf8 back → length front + length middle + length back ≤ 128 → 0 < length c → IsChunk c
one_is c front middle back e u v w few some = record {
  text = rw e (IsUtf8-append (front ++ middle) back (IsUtf8-append front middle u v) w);
  some = some;
  few = omega (arith, ap length e, length-append (front ++ middle) back, length-append front middle, few);
}

pub one_list : (cs : List (List ℕ)) (old : List (List ℕ)) (c : List ℕ) → cs ≡ old ++ c ∷ [] → old ≡ [] → IsChunk c → All IsChunk cs
one_list cs old c e f h = rw (e, f) (All-push IsChunk [] c (All-nil IsChunk) h)

-- texts at the ends of a range, taken into what comes in its place
pub widened : (a f x b d : List ℕ) → (a ++ ((f ++ x) ++ b)) ++ d ≡ ((a ++ f) ++ x) ++ (b ++ d)
widened a f x b d =
    rw (append_assoc f x b, append_assoc a (f ++ (x ++ b)) d, append_assoc f (x ++ b) d, append_assoc x b d, append_assoc (a ++ f) x (b ++ d), append_assoc a f (x ++ (b ++ d))) refl

-- a chunk further on is not before it
shorter : (m n : ℕ) (cs : List (List ℕ)) → m ≤ n → length (concat (take m cs)) ≤ length (concat (take n cs))
shorter m n cs h = subst (λ xs. length (concat xs) ≤ length (concat (take n cs))) (take-take m n cs h) (front-short m (take n cs))

pub in_order : (cs : List (List ℕ)) (o p i j r q : ℕ) (c d : List ℕ) → IsSpot cs o i c r → IsSpot cs p j d q → o + (length c - r) < p → i ≤ j
in_order cs o p i j r q c d s t far =
    ⊎_elim
    (λ (back : j < i).
    absurd (omega (arith, shorter (j + 1) i cs (omega (arith, back)), ap length (concat-more cs j d t.at), length-append (concat (take j cs)) d, s.offset, t.offset, s.within, t.within, far)))
    (λ (on : i ≤ j). on)
    (cases_lt j i)

-- the plain replacement of a range is a change of the chunks in which its ends lie
pub replaced_is : (cs : List (List ℕ)) (s e i j r q : ℕ) (c d x : List ℕ) → IsSpot cs s i c r → IsSpot cs e j d q → text_with i (j + 1) ((take r c ++ x) ++ drop q d) cs ≡ splice_list s e x (concat cs)
replaced_is cs s e i j r q c d x a b =
    widened (concat (take i cs)) (take r c) x (drop q d) (concat (drop (j + 1) cs))
    ∙ ap (λ bs. (bs ++ x) ++ (drop q d ++ concat (drop (j + 1) cs))) (sym (spot_front cs s i c r a))
    ∙ ap (λ bs. (take s (concat cs) ++ x) ++ bs) (sym (spot_back cs e j d q b))

pub replaced_all : (cs : List (List ℕ)) (s e i j r q : ℕ) (c d x front back whole : List ℕ) → IsSpot cs s i c r → IsSpot cs e j d q → front ≡ take r c → back ≡ drop q d → whole ≡ (front ++ x) ++ back → text_with i (j + 1) whole cs ≡ splice_list s e x (concat cs)
replaced_all cs s e i j r q c d x front back whole a b f g h =
    ap (λ bs. text_with i (j + 1) bs cs) (h ∙ ap (λ t. (t ++ x) ++ back) f ∙ ap (λ t. (take r c ++ x) ++ t) g)
    ∙ replaced_is cs s e i j r q c d x a b

-- the chunks up to an offset, and from it on
pub front_is : (cs fs : List (List ℕ)) (o i : ℕ) (c : List ℕ) (r : ℕ) → IsSpot cs o i c r → fs ≡ take (i + 1) cs → text_with i (i + 1) (take r c) fs ≡ take o (concat cs)
front_is cs fs o i c r s e =
    let before : take i fs ≡ take i cs = rw e (take-take i (i + 1) cs (omega arith)) in
    let behind : drop (i + 1) fs ≡ [] = rw e (drop_all (i + 1) (take (i + 1) cs) (omega (arith, length-take (i + 1) cs))) in
    rw (before, behind) (append-nil (concat (take i cs) ++ take r c) ∙ sym (spot_front cs o i c r s))

pub back_is : (cs fs : List (List ℕ)) (o i : ℕ) (c : List ℕ) (r : ℕ) → IsSpot cs o i c r → fs ≡ drop i cs → text_with 0 1 (drop r c) fs ≡ drop o (concat cs)
back_is cs fs o i c r s e =
    rw (e, get_drop cs i c s.at) (sym (spot_back cs o i c r s))

pub front_all : (cs fs : List (List ℕ)) (o i : ℕ) (c : List ℕ) (r : ℕ) (piece bs : List ℕ) → IsSpot cs o i c r → fs ≡ take (i + 1) cs → piece ≡ take r c → bs ≡ text_with i (i + 1) piece fs → bs ≡ take o (concat cs)
front_all cs fs o i c r piece bs s e p h =
    h ∙ ap (λ t. text_with i (i + 1) t fs) p ∙ front_is cs fs o i c r s e

pub back_all : (cs fs : List (List ℕ)) (o i : ℕ) (c : List ℕ) (r : ℕ) (piece bs : List ℕ) → IsSpot cs o i c r → fs ≡ drop i cs → piece ≡ drop r c → bs ≡ text_with 0 1 piece fs → bs ≡ drop o (concat cs)
back_all cs fs o i c r piece bs s e p h =
    h ∙ ap (λ t. text_with 0 1 t fs) p ∙ back_is cs fs o i c r s e

-- a part of a front is a part
pub part_is : (bs : List ℕ) (s e : ℕ) → s ≤ e → drop s (take e bs) ≡ take (e - s) (drop s bs)
part_is bs s e h =
    let split : e ≡ s + (e - s) = omega (arith, h) in
    ap (λ n. drop s (take n bs)) split ∙ drop-take s (e - s) bs

pub part_boundary : (bs : List ℕ) (s e : ℕ) → s ≤ e → IsCharBoundary bs s → IsCharBoundary bs e → IsCharBoundary (take e bs) s
part_boundary bs s e h a b =
    let len : length (take e bs) ≡ e = omega (arith, length-take e bs, b.0) in (
      omega (arith, len, h),
      λ l high.
          let same : get_or (take e bs) s 0 ≡ get_or bs s 0 = get_or-take e bs s 0 (omega (arith, len, l)) in
          subst (λ x. 192 ≤ x) (sym same) (a.1 (omega (arith, len, l, b.0)) (subst (λ x. 128 ≤ x) same high)),
    )
