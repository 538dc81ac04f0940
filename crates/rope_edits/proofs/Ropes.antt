-- Ranges of a text that are replaced from the last to the first.
use Rattle.std.proofs.Common.{◌≡◌, ℕ, zero, suc, ◌+◌, ◌-◌, ◌<◌, ◌≤◌, ◌^◌, List, [], ◌∷◌, ◌++◌, length, take, drop, get_or, sym, ◌∙◌, ap, subst, arith, None, append_assoc}
use Rattle.std.proofs.lemmas.List.{length-take-le, take-take, take-append-le, take-append-drop, drop_at, drop_more}
use Rattle.std.proofs.lemmas.Str.{IsCharBoundary-start, IsCharBoundary-at_seam, IsUtf8-append, IsUtf8-between, IsUtf8-drop}
use Rattle.std.specs.List.{slice_range}
use Rattle.std.specs.Str.{IsCharBoundary, IsUtf8}
use Rattle.op_model.proofs.Elements.{take_split}
use Rattle.op_model.specs.declared.operation.Piece.{Piece}
use Rattle.op_model.specs.Operations.{text_total}
use Rattle.op_model.specs.Edits.{piece_fault, replace_ranges, replaced_from}
use Rattle.op_model.specs.Domains.{AreUtf8}
use Rattle.op_model.proofs.texts.Pieces.{total_drop}
use Rattle.rope_edits.specs.Fit.{AreFit}
use Rattle.rope_edits.proofs.Fit.{fits_of_none, length_replaced}

pub fit_at : (at : ℕ) (ps : List Piece) (text : List ℕ) → AreFit at ps text → IsCharBoundary text at
fit_at at [] text h = h
fit_at at (p ∷ ps) text h = h.0

pub fit_front : (at : ℕ) (ps : List Piece) (text : List ℕ) → IsUtf8 text → AreFit at ps text → AreFit 0 ps text
fit_front at [] text u h = IsCharBoundary-start text u
fit_front at (p ∷ ps) text u h = (IsCharBoundary-start text u, omega arith, h.2, h.3, h.4)

pub fit_drop : (i at : ℕ) (ps : List Piece) (text : List ℕ) → IsUtf8 text → AreFit at ps text → AreFit 0 (drop i ps) text
fit_drop zero at ps text u h = fit_front at ps text u h
fit_drop (suc i) at [] text u h = IsCharBoundary-start text u
fit_drop (suc i) at (p ∷ ps) text u h = fit_drop i p.end ps text u h.4

-- what comes from a place on is UTF-8
pub utf8_rest : (at : ℕ) (ps : List Piece) (text : List ℕ) → IsUtf8 text → AreFit at ps text → AreUtf8 ps → IsUtf8 (replaced_from at ps text)
utf8_rest at [] text u h w = IsUtf8-drop text at u h
utf8_rest at (p ∷ ps) text u h w =
    IsUtf8-append (slice_range text at p.start) (p.text ++ replaced_from p.end ps text) (IsUtf8-between text at p.start u h.1 h.0 h.2)
    (IsUtf8-append p.text (replaced_from p.end ps text) w.0 (utf8_rest p.end ps text u h.4 w.1))

-- before the first range the text stays
pub front_stays : (at : ℕ) (ps : List Piece) (text : List ℕ) → AreFit at ps text → replace_ranges ps text ≡ take at text ++ replaced_from at ps text
front_stays at [] text h = sym (take-append-drop at text)
front_stays at (p ∷ ps) text h =
    let more : List ℕ = p.text ++ replaced_from p.end ps text in
    let from : p.start - 0 ≡ p.start = omega arith in
    let all : take (p.start - 0) text ≡ take p.start text = ap (λ (k : ℕ). take k text) from in
    ap (λ z. z ++ more) (all ∙ take_split text at p.start h.1) ∙ append_assoc (take at text) (slice_range text at p.start) more

-- one range more, before the others
pub one_more : (p : Piece) (ps : List Piece) (text : List ℕ) → AreFit 0 (p ∷ ps) text → replace_ranges (p ∷ ps) text ≡ (take p.start (replace_ranges ps text) ++ p.text) ++ drop p.end (replace_ranges ps text)
one_more p ps text h =
    let rest : List ℕ = replaced_from p.end ps text in
    let u : List ℕ = replace_ranges ps text in
    let e : u ≡ take p.end text ++ rest = front_stays p.end ps text h.4 in
    let within : p.end ≤ length text = (fit_at p.end ps text h.4).0 in
    let order : p.start ≤ p.end = h.3 in
    let len : length (take p.end text) ≡ p.end = length-take-le p.end text within in
    let front : take p.start u ≡ take p.start text = ap (take p.start) e ∙ take-append-le p.start (take p.end text) rest (omega arith) ∙ take-take p.start p.end text order in
    let back : drop p.end u ≡ rest = ap (drop p.end) e ∙ drop_at (take p.end text) rest p.end len in
    let from : p.start - 0 ≡ p.start = omega arith in
    let all : take (p.start - 0) text ≡ take p.start text = ap (λ (k : ℕ). take k text) from in
    ap (λ z. z ++ (p.text ++ rest)) all
    ∙ sym (append_assoc (take p.start text) p.text rest)
    ∙ sym (ap (λ z. (z ++ p.text) ++ drop p.end u) front ∙ ap (λ z. (take p.start text ++ p.text) ++ z) back)

-- a turn of the loop: where the ranges behind a range are replaced, it is replaced next
pub record Turn (old : List ℕ) (p : Piece) (ps : List Piece) (u : List ℕ) : Type 0 where
  pub start : IsCharBoundary u p.start
  pub end : IsCharBoundary u p.end
  pub order : p.start ≤ p.end
  pub room : length u + length p.text ≤ 2 ^ 40 + (p.end - p.start)
  pub text : replace_ranges (p ∷ ps) old ≡ (take p.start u ++ p.text) ++ drop p.end u

pub turn : (text : List ℕ) (p : Piece) (ps : List Piece) (u : List ℕ) → IsUtf8 text → AreFit 0 (p ∷ ps) text → AreUtf8 ps → length text + text_total (p ∷ ps) ≤ 2 ^ 40 → u ≡ replace_ranges ps text → Turn text p ps u
turn text p ps u utf8 h w room e =
    let rest : List ℕ = replaced_from p.end ps text in
    let part : List ℕ = slice_range text p.start p.end in
    let order : p.start ≤ p.end = h.3 in
    let last : IsCharBoundary text p.end = fit_at p.end ps text h.4 in
    let seam : u ≡ take p.end text ++ rest = e ∙ front_stays p.end ps text h.4 in
    let earlier : u ≡ take p.start text ++ (part ++ rest) = seam ∙ ap (λ z. z ++ rest) (take_split text p.start p.end order) ∙ append_assoc (take p.start text) part rest in
    let v : IsUtf8 rest = utf8_rest p.end ps text utf8 h.4 w in
    let len : length (replace_ranges ps text) + 0 ≤ length text + text_total ps = length_replaced 0 ps text (fit_front p.end ps text utf8 h.4) in
    let same : length u ≡ length (replace_ranges ps text) = ap length e in
    record {
      start = subst (λ (n : ℕ). IsCharBoundary u n) (length-take-le p.start text h.2.0) (IsCharBoundary-at_seam u (take p.start text) (part ++ rest) earlier (IsUtf8-append part rest (IsUtf8-between text p.start p.end utf8 order h.2 last) v));
      end = subst (λ (n : ℕ). IsCharBoundary u n) (length-take-le p.end text last.0) (IsCharBoundary-at_seam u (take p.end text) rest seam v);
      order = order;
      room = omega arith;
      text = one_more p ps text h ∙ ap (λ z. (take p.start z ++ p.text) ++ drop p.end z) (sym e);
    }

pub record AtTurn (text : List ℕ) (changes : List Piece) (i : ℕ) (p : Piece) (u : List ℕ) : Type 0 where
  pub split : drop (i - 1) changes ≡ p ∷ drop i changes
  pub next : Turn text p (drop i changes) u

pub at_turn : (text : List ℕ) (changes : List Piece) (i : ℕ) (p : Piece) (u : List ℕ) → piece_fault text changes ≡ None → IsUtf8 text → length text + text_total changes ≤ 2 ^ 40 → 0 < i → i ≤ length changes
    → p ≡ get_or changes (i - 1) p → u ≡ replace_ranges (drop i changes) text → AreUtf8 (drop i changes) → AtTurn text changes i p u
at_turn text changes i p u f utf8 room some within e g w =
    let on : i - 1 + 1 ≡ i = omega arith in
    let split : drop (i - 1) changes ≡ p ∷ drop i changes =
    drop_more changes (i - 1) p (omega arith) ∙ ap (λ (z : Piece). z ∷ drop (i - 1 + 1) changes) (sym e) ∙ ap (λ (n : ℕ). p ∷ drop n changes) on in
    let fit : AreFit 0 (drop (i - 1) changes) text = fit_drop (i - 1) 0 changes text utf8 (fits_of_none text changes f utf8) in
    let total : text_total (drop (i - 1) changes) ≤ text_total changes = total_drop (i - 1) changes in
    let same : text_total (drop (i - 1) changes) ≡ text_total (p ∷ drop i changes) = ap text_total split in
    record {
      split = split;
      next = turn text p (drop i changes) u utf8 (subst (λ (ps : List Piece). AreFit 0 ps text) split fit) w (omega arith) g;
    }
