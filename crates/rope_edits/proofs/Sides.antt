-- Two texts on the way, move by move.
use Rattle.std.proofs.Common.{◌≡◌, ℕ, ◌+◌, ◌-◌, ◌<◌, ◌≤◌, ◌^◌, min, get_or, inl, inr, List, [], ◌∷◌, ◌++◌, length, take, drop, refl, sym, ◌∙◌, ap, subst, arith, append_assoc, length-append}
use Rattle.std.proofs.lemmas.Bool.{cases_lt}
use Rattle.std.proofs.lemmas.List.{append-nil, take-append-drop, take_all, take_at, drop_at, drop_more, length-take-le}
use Rattle.std.proofs.lemmas.Str.{IsUtf8-drop, IsCharBoundary-from_take, IsCharBoundary-at_seam}
use Rattle.std.specs.List.{slice_range}
use Rattle.std.specs.Str.{IsCharBoundary, IsUtf8}
use Rattle.remote_edit.specs.declared.moves.Move.{Move}
use Rattle.remote_edit.specs.declared.moves.Move.TheVariants.{Visible, Hidden, Hide, Show, Insert}
use Rattle.remote_edit.specs.Moves.{Texts, after_moves}
use Rattle.rope_edits.specs.Sides.{SideState, SidesState, sides_len, after_move, outcome, MayTake}
use Rattle.remote_edit.proofs.Stepping.{to_shown, to_hidden}

-- ---- one rope

-- where the next n bytes of a rope end of which some are made
pub record Stop (rope : List ℕ) (made n end : ℕ) : Type 0 where
  pub boundary : IsCharBoundary rope end
  pub order : made ≤ end
  pub part : slice_range rope made end ≡ take n (drop made rope)
  pub front : take end rope ≡ take made rope ++ take n (drop made rope)
  pub back : drop end rope ≡ drop n (drop made rope)

pub stop_at : (rope : List ℕ) (made n end : ℕ) → IsUtf8 rope → IsCharBoundary rope made → IsUtf8 (take n (drop made rope)) → end ≡ length (take made rope ++ take n (drop made rope)) → Stop rope made n end
stop_at rope made n end u h w e =
    let a : List ℕ = take made rope in
    let x : List ℕ = take n (drop made rope) in
    let b : List ℕ = drop n (drop made rope) in
    let rest : x ++ b ≡ drop made rope = take-append-drop n (drop made rope) in
    let whole : rope ≡ (a ++ x) ++ b = sym (take-append-drop made rope) ∙ ap (λ z. a ++ z) (sym rest) ∙ sym (append_assoc a x b) in
    let front : length a ≡ made = length-take-le made rope h.0 in
    let both : length (a ++ x) ≡ length a + length x = length-append a x in
    let parts : length (x ++ b) ≡ length x + length b = length-append x b in
    let same : length (x ++ b) ≡ length (drop made rope) = ap length rest in
    let taken : take (length x) (drop made rope) ≡ x = ap (take (length x)) (sym rest) ∙ take_at x b (length x) refl in
    let seam : IsCharBoundary (drop made rope) (length x) = IsCharBoundary-from_take (drop made rope) (length x) (IsUtf8-drop rope made u h) (omega arith) (subst IsUtf8 (sym taken) w) in
    let dropped : drop (length x) (drop made rope) ≡ b = ap (drop (length x)) (sym rest) ∙ drop_at x b (length x) refl in
    let v : IsUtf8 b = subst IsUtf8 dropped (IsUtf8-drop (drop made rope) (length x) (IsUtf8-drop rope made u h) seam) in
    let len : end - made ≡ length x = omega arith in
    record {
      boundary = subst (λ (k : ℕ). IsCharBoundary rope k) (sym e) (IsCharBoundary-at_seam rope (a ++ x) b whole v);
      order = omega arith;
      part = ap (λ (k : ℕ). take k (drop made rope)) len ∙ taken;
      front = ap (take end) whole ∙ take_at (a ++ x) b end (sym e);
      back = ap (drop end) whole ∙ drop_at (a ++ x) b end (sym e);
    }

-- a rope of what is made and what is left
pub record Parts (rope a b : List ℕ) (made : ℕ) : Type 0 where
  pub boundary : IsCharBoundary rope made
  pub front : take made rope ≡ a
  pub back : drop made rope ≡ b

pub parts_at : (rope a b : List ℕ) (made : ℕ) → rope ≡ a ++ b → made ≡ length a → IsUtf8 b → Parts rope a b made
parts_at rope a b made e l u = record {
  boundary = subst (λ (k : ℕ). IsCharBoundary rope k) (sym l) (IsCharBoundary-at_seam rope a b e u);
  front = ap (take made) e ∙ take_at a b made (sym l);
  back = ap (drop made) e ∙ drop_at a b made (sym l);
}

abbrev side_of : List ℕ → List ℕ → SideState
side_of a x = record { made = a; left = x }

pub side_is : (a b x y : List ℕ) → a ≡ b → x ≡ y → side_of a x ≡ side_of b y
side_is a b x y e f = λ i. side_of (e i) (f i)

-- what is left of a rope once the next bytes are gone
pub parts_without : (rope next : List ℕ) (made n end : ℕ) → IsUtf8 rope → IsCharBoundary rope made → Stop rope made n end → next ≡ (take made rope ++ []) ++ drop end rope → Parts next (take made rope) (drop n (drop made rope)) made
parts_without rope next made n end u h s e =
    parts_at next (take made rope) (drop n (drop made rope)) made (e ∙ ap (λ z. z ++ drop end rope) (append-nil (take made rope)) ∙ ap (λ z. take made rope ++ z) s.back)
    (sym (length-take-le made rope h.0)) (subst IsUtf8 s.back (IsUtf8-drop rope end u s.boundary))

pub outcome_step : (m : Move) (ms : List Move) (s : SidesState) → outcome s (m ∷ ms) ≡ outcome (after_move m s) ms
outcome_step (Visible k) ms s = to_shown s.shown.made s.hidden.made (take k s.shown.left) (after_moves ms (drop k s.shown.left) s.hidden.left s.fresh)
outcome_step (Hidden k) ms s = to_hidden s.shown.made s.hidden.made (take k s.hidden.left) (after_moves ms s.shown.left (drop k s.hidden.left) s.fresh)
outcome_step (Hide k) ms s = to_hidden s.shown.made s.hidden.made (take k s.shown.left) (after_moves ms (drop k s.shown.left) s.hidden.left s.fresh)
outcome_step (Show k) ms s = to_shown s.shown.made s.hidden.made (take k s.hidden.left) (after_moves ms s.shown.left (drop k s.hidden.left) s.fresh)
outcome_step (Insert k) ms s = to_shown s.shown.made s.hidden.made (take k s.fresh) (after_moves ms s.shown.left s.hidden.left (drop k s.fresh))

pub takes_rest : (m : Move) (ms : List Move) (s : SidesState) → MayTake s (m ∷ ms) → MayTake (after_move m s) ms
takes_rest (Visible k) ms s h = h.1
takes_rest (Hidden k) ms s h = h.1
takes_rest (Hide k) ms s h = h.1
takes_rest (Show k) ms s h = h.1
takes_rest (Insert k) ms s h = h.1

cut_len : (k : ℕ) (xs : List ℕ) → length (take k xs) + length (drop k xs) ≡ length xs
cut_len k xs = sym (length-append (take k xs) (drop k xs)) ∙ ap length (take-append-drop k xs)

pub same_len : (m : Move) (s : SidesState) → sides_len (after_move m s) ≡ sides_len s
same_len (Visible k) s = omega (arith, length-append s.shown.made (take k s.shown.left), cut_len k s.shown.left)
same_len (Hidden k) s = omega (arith, length-append s.hidden.made (take k s.hidden.left), cut_len k s.hidden.left)
same_len (Hide k) s = omega (arith, length-append s.hidden.made (take k s.shown.left), cut_len k s.shown.left)
same_len (Show k) s = omega (arith, length-append s.shown.made (take k s.hidden.left), cut_len k s.hidden.left)
same_len (Insert k) s = omega (arith, length-append s.shown.made (take k s.fresh), cut_len k s.fresh)

-- the front of a text up to n of its bytes, or all of them, is whole where these are
cut_take : (text : List ℕ) (n len : ℕ) → len ≡ min (length text) n → take len text ≡ take n text
cut_take text n len e = elim (cases_lt n (length text)) [
  | inl l ↦ (let q : len ≡ n = omega (arith, e, l) in ap (λ (k : ℕ). take k text) q)
  | inr l ↦ (take_all len text (omega (arith, e, l)) ∙ sym (take_all n text l))
]

pub front_at : (text : List ℕ) (n len : ℕ) → IsUtf8 text → IsUtf8 (take n text) → len ≡ min (length text) n → IsCharBoundary text len
front_at text n len u w e = IsCharBoundary-from_take text len u (omega (arith, e)) (subst IsUtf8 (sym (cut_take text n len e)) w)

-- a turn of the loop over moves
pub record Turn (all : Texts) (s : SidesState) (ms : List Move) : Type 0 where
  pub outcome : outcome s ms ≡ all
  pub takes : MayTake s ms
  pub room : sides_len s ≤ 2 ^ 40

pub turn_on : (ms : List Move) (i : ℕ) (d : Move) (s t : SidesState) (all : Texts) → i < length ms → t ≡ after_move (get_or ms i d) s → outcome s (drop i ms) ≡ all → MayTake s (drop i ms) → sides_len s ≤ 2 ^ 40 → Turn all t (drop (i + 1) ms)
turn_on ms i d s t all l e o h r =
    let m : Move = get_or ms i d in
    let rest : List Move = drop (i + 1) ms in
    let split : drop i ms ≡ m ∷ rest = drop_more ms i d l in
    record {
      outcome = ap (λ (z : SidesState). outcome z rest) e ∙ sym (outcome_step m rest s) ∙ sym (ap (outcome s) split) ∙ o;
      takes = subst (λ (z : SidesState). MayTake z rest) (sym e) (takes_rest m rest s (subst (MayTake s) split h));
      room = omega (arith, ap sides_len e, same_len m s, r);
    }
