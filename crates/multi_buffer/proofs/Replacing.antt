-- Replacements before a place and from it on, and in texts with an LF between two.
use Rattle.std.proofs.Common.{◌≡◌, ℕ, zero, suc, ◌+◌, ◌-◌, ◌≤◌, List, [], ◌∷◌, ◌++◌, length, take, drop, refl, sym, ap, ◌∙◌, arith, append_assoc, append-nil}
use Rattle.std.specs.Prelude.{slice_range}
use Rattle.op_model.specs.declared.operation.Piece.{Piece}
use Rattle.op_model.specs.Edits.{replaced_from}
use Rattle.op_model.specs.Walked.{Ordered as AreWithin}
use Rattle.multi_buffer.specs.State.{lines}

abbrev pub move_by : ℕ → Piece → Piece
move_by c p = record { start = c + p.start; end = c + p.end; text = p.text }

-- each a number of bytes later
abbrev pub later : ℕ → List Piece → List Piece
later c [] = []
later c (p ∷ ps) = move_by c p ∷ later c ps

-- the pieces of each text, which ascend within it
abbrev pub AreEach : List (List ℕ) → List (List Piece) → Type 0
AreEach [] [] = Unit {0}
AreEach [] (g ∷ gs) = ⊥
AreEach (t ∷ ts) [] = ⊥
AreEach (t ∷ ts) (g ∷ gs) = AreWithin 0 (length t) g × AreEach ts gs

-- they all, as pieces of the texts with one LF between two
abbrev pub joined_pieces : List (List ℕ) → List (List Piece) → List Piece
joined_pieces [] gs = []
joined_pieces (t ∷ ts) [] = []
joined_pieces (t ∷ ts) (g ∷ gs) = g ++ later (suc (length t)) (joined_pieces ts gs)

-- each text with its pieces replaced
abbrev pub each_replacement : List (List ℕ) → List (List Piece) → List (List ℕ)
each_replacement [] gs = []
each_replacement (t ∷ ts) [] = []
each_replacement (t ∷ ts) (g ∷ gs) = replaced_from 0 g t ∷ each_replacement ts gs

drop_len : (t u : List ℕ) (n : ℕ) → drop (length t + n) (t ++ u) ≡ drop n u
drop_len [] u n = let z : 0 + n ≡ n = omega arith in ap (λ (k : ℕ). drop k u) z
drop_len (x ∷ t) u n = let z : suc (length t) + n ≡ suc (length t + n) = omega arith in rw z (drop_len t u n)

drop_in : (t u : List ℕ) (n : ℕ) → n ≤ length t → drop n (t ++ u) ≡ drop n t ++ u
drop_in t u zero l = refl
drop_in [] u (suc n) l = absurd (omega arith)
drop_in (x ∷ t) u (suc n) l = drop_in t u n (omega arith)

take_in : (t u : List ℕ) (n : ℕ) → n ≤ length t → take n (t ++ u) ≡ take n t
take_in t u zero l = refl
take_in [] u (suc n) l = absurd (omega arith)
take_in (x ∷ t) u (suc n) l = ap (λ (z : List ℕ). x ∷ z) (take_in t u n (omega arith))

take_len : (t u : List ℕ) (n : ℕ) → take (length t + n) (t ++ u) ≡ t ++ take n u
take_len [] u n = let z : 0 + n ≡ n = omega arith in ap (λ (k : ℕ). take k u) z
take_len (x ∷ t) u n = let z : suc (length t) + n ≡ suc (length t + n) = omega arith in rw z (ap (λ (k : List ℕ). x ∷ k) (take_len t u n))

drop_count : (t : List ℕ) (n : ℕ) → length (drop n t) ≡ length t - n
drop_count t zero = omega arith
drop_count [] (suc n) = omega arith
drop_count (x ∷ t) (suc n) = let e = drop_count t n in omega arith

-- pieces that are all behind
behind_all : (qs : List Piece) (t u : List ℕ) (at : ℕ) → replaced_from (length t + at) (later (length t) qs) (t ++ u) ≡ replaced_from at qs u
behind_all [] t u at = drop_len t u at
behind_all (q ∷ qs) t u at =
    let n : length t + q.start - (length t + at) ≡ q.start - at = omega arith in
    ap (λ (z : List ℕ). take (length t + q.start - (length t + at)) z ++ (q.text ++ replaced_from (length t + q.end) (later (length t) qs) (t ++ u))) (drop_len t u at)
    ∙ ap (λ (k : ℕ). take k (drop at u) ++ (q.text ++ replaced_from (length t + q.end) (later (length t) qs) (t ++ u))) n
    ∙ ap (λ (z : List ℕ). slice_range u at q.start ++ (q.text ++ z)) (behind_all qs t u q.end)

seam : (t u : List ℕ) (at n : ℕ) → at ≤ length t → slice_range (t ++ u) at (length t + n) ≡ drop at t ++ take n u
seam t u at n l =
    let e = drop_count t at in
    let m : length t + n - at ≡ length (drop at t) + n = omega arith in
    ap (take (length t + n - at)) (drop_in t u at l) ∙ ap (λ (k : ℕ). take k (drop at t ++ u)) m ∙ take_len (drop at t) u n

pub within_end : (at end : ℕ) (ps : List Piece) → AreWithin at end ps → at ≤ end
within_end at end [] w = w
within_end at end (p ∷ ps) w = let a = w.0 in let b = w.1 in let c = within_end p.end end ps w.2 in omega arith

-- where no piece goes over a place, the text before it and the text from it on are replaced apart
pub replaces_apart : (ps qs : List Piece) (t u : List ℕ) (at end : ℕ) → AreWithin at (length t) ps → AreWithin 0 end qs
    → replaced_from at (ps ++ later (length t) qs) (t ++ u) ≡ replaced_from at ps t ++ replaced_from 0 qs u
replaces_apart [] [] t u at end w v = drop_in t u at w
replaces_apart [] (q ∷ qs) t u at end w v =
    let z : q.start - 0 ≡ q.start = omega arith in
    ap (λ (x : List ℕ). x ++ (q.text ++ replaced_from (length t + q.end) (later (length t) qs) (t ++ u))) (seam t u at q.start w)
    ∙ ap (λ (x : List ℕ). (drop at t ++ take q.start u) ++ (q.text ++ x)) (behind_all qs t u q.end) ∙ append_assoc (drop at t) (take q.start u) (q.text ++ replaced_from q.end qs u)
    ∙ ap (λ (k : ℕ). drop at t ++ (take k u ++ (q.text ++ replaced_from q.end qs u))) (sym z)
replaces_apart (p ∷ ps) qs t u at end w v =
    let a = w.0 in
    let b = w.1 in
    let c = within_end p.end (length t) ps w.2 in
    let e = drop_count t at in
    let s : slice_range (t ++ u) at p.start ≡ slice_range t at p.start = ap (take (p.start - at)) (drop_in t u at (omega arith)) ∙ take_in (drop at t) u (p.start - at) (omega arith) in
    ap (λ (x : List ℕ). x ++ (p.text ++ replaced_from p.end (ps ++ later (length t) qs) (t ++ u))) s
    ∙ ap (λ (x : List ℕ). slice_range t at p.start ++ (p.text ++ x)) (replaces_apart ps qs t u p.end end w.2 v)
    ∙ ap (λ (x : List ℕ). slice_range t at p.start ++ x) (sym (append_assoc p.text (replaced_from p.end ps t) (replaced_from 0 qs u)))
    ∙ sym (append_assoc (slice_range t at p.start) (p.text ++ replaced_from p.end ps t) (replaced_from 0 qs u))

-- ---- texts with an LF between two

pub wider : (at a b : ℕ) (ps : List Piece) → a ≤ b → AreWithin at a ps → AreWithin at b ps
wider at a b [] l w = omega (arith, w, l)
wider at a b (p ∷ ps) l w = (w.0, w.1, wider p.end a b ps l w.2)

longer : (t u : List ℕ) → length (t ++ u) ≡ length t + length u
longer [] u = omega arith
longer (x ∷ t) u = let e = longer t u in omega arith

pub later_within : (c at end : ℕ) (ps : List Piece) → AreWithin at end ps → AreWithin (c + at) (c + end) (later c ps)
later_within c at end [] w = omega (arith, w)
later_within c at end (p ∷ ps) w = (let a = w.0 in omega arith, let b = w.1 in omega arith, later_within c p.end end ps w.2)

pub from_start : (c at end : ℕ) (ps : List Piece) → c ≤ at → AreWithin at end ps → AreWithin c end ps
from_start c at end [] l w = omega (arith, l, w)
from_start c at end (p ∷ ps) l w = (let a = w.0 in omega arith, w.1, w.2)

pub both_within : (at mid end : ℕ) (ps qs : List Piece) → AreWithin at mid ps → AreWithin mid end qs → AreWithin at end (ps ++ qs)
both_within at mid end [] qs w v = from_start at mid end qs w v
both_within at mid end (p ∷ ps) qs w v = (w.0, w.1, both_within p.end mid end ps qs w.2 v)

all_within : (ts : List (List ℕ)) (gs : List (List Piece)) → AreEach ts gs → (end : ℕ) × AreWithin 0 end (joined_pieces ts gs)
all_within [] [] w = (0, omega arith)
all_within [] (g ∷ gs) w = absurd w
all_within (t ∷ ts) [] w = absurd w
all_within (t ∷ ts) (g ∷ gs) w =
    let r = all_within ts gs w.1 in
    let z : suc (length t) + 0 ≡ suc (length t) = omega arith in (
      suc (length t) + r.0,
      both_within 0 (length t) (suc (length t) + r.0) g (later (suc (length t)) (joined_pieces ts gs)) w.0
          (from_start (length t) (suc (length t) + 0) (suc (length t) + r.0) (later (suc (length t)) (joined_pieces ts gs)) (omega arith) (later_within (suc (length t)) 0 r.0 (joined_pieces ts gs) r.1)),
    )

-- texts that are shown as one, replaced as one, are the texts replaced one by one
pub lines_replace : (ts : List (List ℕ)) (gs : List (List Piece)) → AreEach ts gs → replaced_from 0 (joined_pieces ts gs) (lines ts) ≡ lines (each_replacement ts gs)
lines_replace [] [] w = refl
lines_replace [] (g ∷ gs) w = absurd w
lines_replace (t ∷ ts) [] w = absurd w
lines_replace (t ∷ []) (g ∷ []) w = ap (λ (ps : List Piece). replaced_from 0 ps t) (append-nil g)
lines_replace (t ∷ []) (g ∷ (f ∷ gs)) w = absurd w.1
lines_replace (t ∷ (u ∷ ts)) (g ∷ []) w = absurd w.1
lines_replace (t ∷ (u ∷ ts)) (g ∷ (f ∷ gs)) w =
    let rest : List ℕ = lines (u ∷ ts) in
    let ps : List Piece = joined_pieces (u ∷ ts) (f ∷ gs) in
    let r = all_within (u ∷ ts) (f ∷ gs) w.1 in
    let n : length (t ++ (10 ∷ [])) ≡ suc (length t) = (let e = longer t (10 ∷ []) in omega arith) in
    let front : replaced_from 0 g (t ++ (10 ∷ [])) ≡ replaced_from 0 g t ++ (10 ∷ []) =
    ap (λ (k : List Piece). replaced_from 0 k (t ++ (10 ∷ []))) (sym (append-nil g)) ∙ replaces_apart g [] t (10 ∷ []) 0 0 w.0 (omega arith) in
    ap (λ (z : List ℕ). replaced_from 0 (g ++ later (suc (length t)) ps) z) (sym (append_assoc t (10 ∷ []) rest))
    ∙ ap (λ (k : ℕ). replaced_from 0 (g ++ later k ps) ((t ++ (10 ∷ [])) ++ rest)) (sym n)
    ∙ replaces_apart g ps (t ++ (10 ∷ [])) rest 0 r.0 (wider 0 (length t) (length (t ++ (10 ∷ []))) g (omega (arith, n)) w.0) r.1
    ∙ ap (λ (z : List ℕ). z ++ replaced_from 0 ps rest) front ∙ append_assoc (replaced_from 0 g t) (10 ∷ []) (replaced_from 0 ps rest)
    ∙ ap (λ (z : List ℕ). replaced_from 0 g t ++ (10 ∷ z)) (lines_replace (u ∷ ts) (f ∷ gs) w.1)

-- the text of an excerpt: what is before it and after it is replaced apart from it
pub excerpt_replaces : (t u v : List ℕ) (before mine behind : List Piece) (end : ℕ) → AreWithin 0 (length t) before → AreWithin 0 (length u) mine → AreWithin 0 end behind
    → replaced_from 0 (before ++ later (length t) (mine ++ later (length u) behind)) (t ++ (u ++ v)) ≡ replaced_from 0 before t ++ (replaced_from 0 mine u ++ replaced_from 0 behind v)
excerpt_replaces t u v before mine behind end a b c =
    replaces_apart before (mine ++ later (length u) behind) t (u ++ v) 0 (length u + end) a
    (both_within 0 (length u) (length u + end) mine (later (length u) behind) b (from_start (length u) (length u + 0) (length u + end) (later (length u) behind) (omega arith) (later_within (length u) 0 end behind c)))
    ∙ ap (λ (z : List ℕ). replaced_from 0 before t ++ z) (replaces_apart mine behind u v 0 end b c)
