-- A history has as many cells as its texts have bytes.
use Rattle.std.proofs.Common.{◌≡◌, ℕ, zero, suc, ◌+◌, ◌≤◌, Bool, true, false, not, cond, List, [], ◌∷◌, ◌++◌, length, take, drop, drop-cons, get_or, refl, sym, ◌∙◌, ap, arith, inl, length-append}
use Rattle.std.specs.List.{filter}
use Rattle.std.proofs.lemmas.List.{append-nil, length-map, take_all}
use Rattle.std.proofs.lemmas.List.Filters.{length-filter_both}
use Rattle.lamport_clock.specs.declared.stamp.Lamport.{Lamport}
use Rattle.op_model.specs.declared.operation.Operation.{Operation}
use Rattle.op_model.specs.declared.operation.Piece.{Piece}
use Rattle.op_model.specs.Sorted.{insert_by, insert_all}
use Rattle.op_model.specs.Operations.{stamp_of, version_of, pieces_of, text_total, bytes_of}
use Rattle.op_model.specs.Histories.{History, base, bytes_held, by_stamp, newer, newest_first, sort_onto}
use Rattle.op_model.specs.Cells.{Cell, PathCell, before, both, cells, everything, new_places, op_places, left_path, seq, seq_where, text_places}
use Rattle.op_model.specs.Facts.{Fact, alike}
use Rattle.op_model.specs.Shown.{byte, full, hidden_text, shows, shows_where, text, text_where}
use Rattle.op_model.proofs.answers.Good.{full_length}
use Rattle.op_model.proofs.texts.Utf8Runs.{bytes}
use Rattle.op_model.proofs.texts.WholeTexts.{base_told, byte_is, byte_of, text_told}

-- ---- all cells

insert_len : {A : Type 0} (first : A → A → Bool) (x : A) (s : List A) → length (insert_by first x s) ≡ suc (length s)
insert_len first x [] = refl
insert_len first x (y ∷ s) = elim (first y x) as (λ b. length (cond b (y ∷ insert_by first x s) (x ∷ y ∷ s)) ≡ suc (suc (length s))) [ true ↦ ap suc (insert_len first x s) | false ↦ refl ]

all_len : {A : Type 0} (first : A → A → Bool) (xs s : List A) → length (insert_all first xs s) ≡ length xs + length s
all_len first [] s = omega arith
all_len first (x ∷ xs) s = let a = insert_len first x (insert_all first xs s) in let b = all_len first xs s in omega (arith, a, b)

text_len : (above : List Cell) (t : Lamport) (k : ℕ) (bs : List ℕ) → length (text_places above t k bs) ≡ length bs
text_len above t k [] = refl
text_len above t k (b ∷ bs) = ap suc (text_len (above ++ record { stamp = t; k = k } ∷ []) t (suc k) bs)

new_len : (s : List PathCell) (t : Lamport) (k : ℕ) (ps : List Piece) → length (new_places s t k ps) ≡ text_total ps
new_len s t k [] = refl
new_len s t k (p ∷ ps) =
    let l = length-append (text_places (left_path s p.start) t k p.text) (new_places s t (k + length p.text) ps) in
    let a = text_len (left_path s p.start) t k p.text in
    let b = new_len s t (k + length p.text) ps in
    omega (arith, l, a, b)

seq_len : (h : History) → length (seq_where everything h) ≡ bytes_held h
unfolding seq_where
seq_len [] = refl
seq_len (op ∷ h) =
    let s : List PathCell = seq_where (both everything (version_of op)) h in
    let l = all_len before (op_places s op) (seq_where everything h) in
    let a = new_len s (stamp_of op) 0 (pieces_of op) in
    let b = seq_len h in
    omega (arith, l, a, b)

put_bytes : (op : Operation) (d : History) → bytes_held (by_stamp op d) ≡ bytes_of op + bytes_held d
put_bytes op [] = refl
put_bytes op (o ∷ d) = elim (newer o op) as (λ b. bytes_held (cond b (o ∷ insert_by newer op d) (op ∷ o ∷ d)) ≡ bytes_of op + (bytes_of o + bytes_held d)) [
  | true ↦ (let i = put_bytes op d in omega (arith, i))
  | false ↦ refl
]

sorted_bytes : (d h : History) → bytes_held (sort_onto d h) ≡ bytes_held d + bytes_held h
sorted_bytes d [] = omega arith
sorted_bytes d (op ∷ h) = let a = sorted_bytes (by_stamp op d) h in let b = put_bytes op d in omega (arith, a, b)

pub full_bytes : (h : History) → length (full h) ≡ bytes_held h
unfolding full
full_bytes h = let a = full_length everything (newest_first h) in let b = seq_len (newest_first h) in let c = sorted_bytes [] h in omega (arith, a, b, c)

-- ---- shown and hidden ones

pub both_bytes : (h : History) → length (text h) + length (hidden_text h) ≡ bytes_held h
unfolding text text_where shows seq
both_bytes h =
    let d : History = newest_first h in
    let s : List Cell = cells (seq_where everything d) in
    let a = length-map (filter (shows_where everything d) s) (byte d) in
    let b = length-map (filter (λ (c : Cell). not (shows_where everything d c)) s) (byte h) in
    let p = length-filter_both (shows_where everything d) (λ (c : Cell). not (shows_where everything d c)) (λ (c : Cell). refl) s in
    let c = length-map (seq_where everything d) (λ (x : PathCell). x.cell) in
    let n = seq_len d in
    let m = sorted_bytes [] h in
    omega (arith, a, b, p, c, n, m)

pub text_length : (h : History) → length (text h) ≤ bytes_held h
text_length h = omega (arith, both_bytes h)

-- ---- the base

part_bytes : (f : Cell → ℕ) (t : Lamport) (w : List ℕ) (k n : ℕ) → ((j : ℕ) → f (record { stamp = t; k = j }) ≡ get_or w j 0) → k + n ≤ length w → bytes f (alike t k n true []) ≡ take n (drop k w)
part_bytes f t w k zero e l = refl
part_bytes f t w k (suc n) e l =
    ap (λ (z : List ℕ). f (record { stamp = t; k = k }) ∷ z) (part_bytes f t w (suc k) n e (omega arith))
    ∙ ap (λ (b : ℕ). b ∷ take n (drop (suc k) w)) (e k)
    ∙ sym (ap (take (suc n)) (drop-cons w k 0 (omega arith)))

all_visible : (t : Lamport) (k n : ℕ) → filter (λ (q : Fact). q.visible) (alike t k n true []) ≡ alike t k n true []
all_visible t k zero = refl
all_visible t k (suc n) = ap (λ z. record { cell = record { stamp = t; k = k }; visible = true; deletions = [] } ∷ z) (all_visible t (suc k) n)

pub text_base : (t : List ℕ) → text (base t ∷ []) ≡ t
text_base t =
    let one : Lamport = record { value = 1; replica = 0 } in
    let h : History = base t ∷ [] in
    text_told h
    ∙ ap (λ s. bytes (byte_of h) (filter (λ (q : Fact). q.visible) s)) (base_told t)
    ∙ ap (bytes (byte_of h)) (all_visible one 0 (length t))
    ∙ part_bytes (byte_of h) one (t ++ []) 0 (length t) (byte_is h (tt, tt) (base t) (inl refl)) (omega (arith, length-append t []))
    ∙ ap (take (length t)) (append-nil t)
    ∙ take_all (length t) t (omega arith)
