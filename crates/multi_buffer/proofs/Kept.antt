-- An excerpt of a history after a local edit: its anchors stand where its text is then.
use Rattle.std.proofs.Common.{◌≡◌, inl, inr, ℕ, zero, suc, ◌+◌, ◌-◌, ◌≤◌, ◌<◌, true, eqb, List, [], ◌∷◌, ◌++◌, length, length-append, take, drop, Option, Some, None, refl, sym, ap, ◌∙◌, subst, arith, append_assoc, append-nil}
use Rattle.std.specs.Prelude.{slice_get, slice_range, option_map}
use Rattle.std.proofs.lemmas.Bool.{cases_Bool, eqb-true, eq-eqb}
use Rattle.std.proofs.lemmas.Option.{same_Some}
use Rattle.op_model.specs.declared.anchor.Anchor.{Anchor}
use Rattle.op_model.specs.declared.anchor.Anchor.TheVariants.{Least, Greatest, At}
use Rattle.op_model.specs.declared.anchor.Bias.TheVariants.{Left, Right}
use Rattle.op_model.specs.declared.operation.Operation.{Operation}
use Rattle.op_model.specs.declared.operation.Piece.{Piece}
use Rattle.op_model.specs.Anchors.{left_anchor, place, right_anchor, shown_cells}
use Rattle.op_model.specs.Cells.{Cell}
use Rattle.op_model.specs.Edits.{replaced_from}
use Rattle.op_model.specs.Histories.{History}
use Rattle.op_model.specs.Lawful.{Lawful}
use Rattle.op_model.specs.Places.{cells_from, replaced_cells}
use Rattle.op_model.specs.Shown.{text}
use Rattle.op_model.proofs.MainLaws.{shown_anchors_are_made_again}
use Rattle.op_model.specs.Walked.{Ordered as AreWithin}
use Rattle.multi_buffer.proofs.Replacing.{both_within, excerpt_replaces, later, later_within, replaces_apart, wider, within_end}

-- ---- lists

module _ {X : Type 0} where
  get_left : (xs ys : List X) (i : ℕ) → i < length xs → slice_get (xs ++ ys) i ≡ slice_get xs i
  get_left [] ys i l = absurd (omega arith)
  get_left (x ∷ xs) ys zero l = refl
  get_left (x ∷ xs) ys (suc i) l = get_left xs ys i (omega arith)

  get_right : (xs ys : List X) (i n : ℕ) → i ≡ length xs → slice_get (xs ++ ys) (i + n) ≡ slice_get ys n
  get_right [] ys i n e = let z : i + n ≡ n = omega arith in ap (slice_get ys) z
  get_right (x ∷ xs) ys zero n e = absurd (omega arith)
  get_right (x ∷ xs) ys (suc i) n e = let z : suc i + n ≡ suc (i + n) = omega arith in ap (slice_get (x ∷ (xs ++ ys))) z ∙ get_right xs ys i n (omega arith)

  get_take : (n i : ℕ) (xs : List X) → i < n → slice_get (take n xs) i ≡ slice_get xs i
  get_take zero i xs l = absurd (omega arith)
  get_take (suc n) i [] l = refl
  get_take (suc n) zero (x ∷ xs) l = refl
  get_take (suc n) (suc i) (x ∷ xs) l = get_take n i xs (omega arith)

  get_drop : (n i : ℕ) (xs : List X) → slice_get (drop n xs) i ≡ slice_get xs (n + i)
  get_drop zero i xs = let z : i ≡ 0 + i = omega arith in ap (slice_get xs) z
  get_drop (suc n) i [] = refl
  get_drop (suc n) i (x ∷ xs) = let z : suc n + i ≡ suc (n + i) = omega arith in get_drop n i xs ∙ ap (slice_get (x ∷ xs)) (sym z)

  drop_count : (n : ℕ) (xs : List X) → length (drop n xs) ≡ length xs - n
  drop_count zero xs = omega arith
  drop_count (suc n) [] = omega arith
  drop_count (suc n) (x ∷ xs) = let e = drop_count n xs in omega arith

  take_count : (n : ℕ) (xs : List X) → n ≤ length xs → length (take n xs) ≡ n
  take_count zero xs l = refl
  take_count (suc n) [] l = absurd (omega arith)
  take_count (suc n) (x ∷ xs) l = let e = take_count n xs (omega arith) in omega arith

  take_more : (n i : ℕ) (xs : List X) → i < n → i < length xs → i < length (take n xs)
  take_more zero i xs l m = absurd (omega arith)
  take_more (suc n) i [] l m = absurd (omega arith)
  take_more (suc n) zero (x ∷ xs) l m = omega arith
  take_more (suc n) (suc i) (x ∷ xs) l m = let e = take_more n i xs (omega arith) (omega arith) in omega arith

  slice_count : (xs : List X) (a b : ℕ) → b ≤ length xs → length (slice_range xs a b) ≡ b - a
  slice_count xs a b l = let d = drop_count a xs in take_count (b - a) (drop a xs) (omega arith)

  take_drop : (n : ℕ) (xs : List X) → take n xs ++ drop n xs ≡ xs
  take_drop zero xs = refl
  take_drop (suc n) [] = refl
  take_drop (suc n) (x ∷ xs) = ap (λ (ys : List X). x ∷ ys) (take_drop n xs)

  drop_nil : (n : ℕ) → drop {A = X} n [] ≡ []
  drop_nil zero = refl
  drop_nil (suc n) = refl

  drop_drop : (a b : ℕ) (xs : List X) → drop b (drop a xs) ≡ drop (a + b) xs
  drop_drop zero b xs = let z : b ≡ 0 + b = omega arith in ap (λ (n : ℕ). drop n xs) z
  drop_drop (suc a) b [] = drop_nil b ∙ sym (drop_nil (suc a + b))
  drop_drop (suc a) b (x ∷ xs) = let z : suc a + b ≡ suc (a + b) = omega arith in drop_drop a b xs ∙ ap (λ (n : ℕ). drop n (x ∷ xs)) (sym z)

  -- a list in three parts
  pub three : (xs : List X) (s e : ℕ) → s ≤ e → take s xs ++ (slice_range xs s e ++ drop e xs) ≡ xs
  three xs s e l =
      let z : s + (e - s) ≡ e = omega arith in
      ap (λ (ys : List X). take s xs ++ (slice_range xs s e ++ ys)) (sym (drop_drop s (e - s) xs ∙ ap (λ (n : ℕ). drop n xs) z))
      ∙ ap (λ (ys : List X). take s xs ++ ys) (take_drop (e - s) (drop s xs)) ∙ take_drop s xs

  drop_past : (xs ys : List X) (n : ℕ) → n ≡ length xs → drop n (xs ++ ys) ≡ ys
  drop_past [] ys zero e = refl
  drop_past [] ys (suc n) e = absurd (omega arith)
  drop_past (x ∷ xs) ys zero e = absurd (omega arith)
  drop_past (x ∷ xs) ys (suc n) e = drop_past xs ys n (omega arith)

  take_past : (xs ys : List X) (n : ℕ) → n ≡ length xs → take n (xs ++ ys) ≡ xs
  take_past [] ys zero e = refl
  take_past [] ys (suc n) e = absurd (omega arith)
  take_past (x ∷ xs) ys zero e = absurd (omega arith)
  take_past (x ∷ xs) ys (suc n) e = ap (λ (zs : List X). x ∷ zs) (take_past xs ys n (omega arith))

  -- the middle one
  slice_middle : (xs ys zs : List X) (s e : ℕ) → s ≡ length xs → e ≡ length xs + length ys → slice_range (xs ++ (ys ++ zs)) s e ≡ ys
  slice_middle xs ys zs s e f g = ap (take (e - s)) (drop_past xs (ys ++ zs) s f) ∙ take_past ys zs (e - s) (omega arith)

-- ---- how long texts get

-- the length of n bytes from a place on, with ranges replaced
abbrev pub span : ℕ → List Piece → ℕ → ℕ
span at [] n = n - at
span at (p ∷ ps) n = p.start - at + (length p.text + span p.end ps n)

pub span_is : (at : ℕ) (ps : List Piece) (t : List ℕ) → AreWithin at (length t) ps → length (replaced_from at ps t) ≡ span at ps (length t)
span_is at [] t w = drop_count at t
span_is at (p ∷ ps) t w =
    let a = w.0 in
    let b = w.1 in
    let c = within_end p.end (length t) ps w.2 in
    let e = span_is p.end ps t w.2 in
    let f = slice_count t at p.start (omega arith) in
    let g = length-append (slice_range t at p.start) (p.text ++ replaced_from p.end ps t) in
    let h = length-append p.text (replaced_from p.end ps t) in
    omega arith

span_suc : (at n : ℕ) (ps : List Piece) → AreWithin at n ps → span at ps (suc n) ≡ suc (span at ps n)
span_suc at n [] w = omega arith
span_suc at n (p ∷ ps) w = let e = span_suc p.end n ps w.2 in omega arith

-- ---- cells that stay

-- the first of these starts after place o
abbrev pub AreAfter : ℕ → List Piece → Type 0
AreAfter o [] = Unit {0}
AreAfter o (r ∷ rs) = o < r.start

module _ (op : Operation) (cs : List Cell) (o : ℕ) (l : o < length cs) where
  cells_count : (k n : ℕ) → length (cells_from op k n) ≡ n
  cells_count k zero = refl
  cells_count k (suc n) = let e = cells_count (suc k) n in omega arith

  kept_here : (at k : ℕ) (rest : List Piece) → at ≤ o → AreAfter o rest → slice_get (replaced_cells op at k rest cs) (o - at) ≡ slice_get cs o
  kept_here at k [] m a = let z : at + (o - at) ≡ o = omega arith in get_drop at (o - at) cs ∙ ap (slice_get cs) z
  kept_here at k (r ∷ rs) m a =
      let z : at + (o - at) ≡ o = omega arith in
      let d = drop_count at cs in
      let n : o - at < length (take (r.start - at) (drop at cs)) = take_more (r.start - at) (o - at) (drop at cs) (omega arith) (omega arith) in
      get_left (slice_range cs at r.start) (cells_from op k (length r.text) ++ replaced_cells op r.end (k + length r.text) rs cs) (o - at) n
      ∙ get_take (r.start - at) (o - at) (drop at cs) (omega arith) ∙ get_drop at (o - at) cs ∙ ap (slice_get cs) z

  pub kept : (at k : ℕ) (ps rest : List Piece) → AreWithin at o ps → AreAfter o rest → slice_get (replaced_cells op at k (ps ++ rest) cs) (span at ps o) ≡ slice_get cs o
  kept at k [] rest w a = kept_here at k rest w a
  kept at k (p ∷ ps) rest w a =
      let b = w.1 in
      let c = within_end p.end o ps w.2 in
      let s : p.start - at ≡ length (slice_range cs at p.start) = sym (slice_count cs at p.start (omega arith)) in
      get_right (slice_range cs at p.start) (cells_from op k (length p.text) ++ replaced_cells op p.end (k + length p.text) (ps ++ rest) cs) (p.start - at) (length p.text + span p.end ps o) s
      ∙ get_right (cells_from op k (length p.text)) (replaced_cells op p.end (k + length p.text) (ps ++ rest) cs) (length p.text) (span p.end ps o) (sym (cells_count k (length p.text)))
      ∙ kept p.end (k + length p.text) ps rest w.2 a

some_cell : (o : Option Cell) (f : Cell → Anchor) (a : Anchor) → option_map f o ≡ Some a → (c : Cell) × (o ≡ Some c) × (f c ≡ a)
some_cell None f a e = cc
some_cell (Some c) f a e = (c, refl, same_Some (f c) a e)

-- ---- pieces that are move_by

pub later-append : (c : ℕ) (ps rs : List Piece) → later c (ps ++ rs) ≡ later c ps ++ later c rs
later-append c [] rs = refl
later-append c (p ∷ ps) rs = ap (λ (zs : List Piece). record { start = c + p.start; end = c + p.end; text = p.text } ∷ zs) (later-append c ps rs)

-- the first of these starts after place 0
abbrev pub AreApart : List Piece → Type 0
AreApart [] = Unit {0}
AreApart (r ∷ rs) = 0 < r.start

after_later : (s n e : ℕ) (rs : List Piece) → s + n ≡ e → AreApart rs → AreAfter e (later s (later n rs))
after_later s n e [] f a = tt
after_later s n e (r ∷ rs) f a = omega (arith, f, a)

after_own : (o n : ℕ) (ms rs : List Piece) → AreWithin 0 n ms → AreApart rs → AreAfter o (later (suc o) (ms ++ later n rs))
after_own o n [] [] w a = tt
after_own o n [] (r ∷ rs) w a = omega arith
after_own o n (m ∷ ms) rs w a = omega arith

none_after : (n : ℕ) (rs : List Piece) → n ≡ 0 → AreWithin 0 n rs → AreApart rs → rs ≡ []
none_after n [] e w a = refl
none_after n (r ∷ rs) e w a = let b = w.1 in let c = within_end r.end n rs w.2 in absurd (omega (arith, a, b, c, e))

-- ---- anchors

-- these pieces end before place s
abbrev pub AreBefore : ℕ → List Piece → Type 0
AreBefore zero ps = ps ≡ []
AreBefore (suc o) ps = AreWithin 0 o ps

pub before_within : (s : ℕ) (ps : List Piece) → AreBefore s ps → AreWithin 0 s ps
before_within zero ps b = subst (AreWithin 0 0) (sym b) (omega arith)
before_within (suc o) ps b = wider 0 o (suc o) ps (omega arith) b

module _ (h g : History) (lawful : Lawful g) (op : Operation) (qs : List Piece) (cells : shown_cells g ≡ replaced_cells op 0 0 qs (shown_cells h))
    (bytes : text g ≡ replaced_from 0 qs (text h)) (count : length (text h) ≡ length (shown_cells h)) where
  there : (o : ℕ) (c : Cell) (ps rest : List Piece) → qs ≡ ps ++ rest → o < length (shown_cells h) → slice_get (shown_cells h) o ≡ Some c → AreWithin 0 o ps → AreAfter o rest → slice_get (shown_cells g) (span 0 ps o) ≡ Some c
  there o c ps rest e l f w a =
      ap (λ (cs : List Cell). slice_get cs (span 0 ps o)) (cells ∙ ap (λ (rs : List Piece). replaced_cells op 0 0 rs (shown_cells h)) e)
      ∙ kept op (shown_cells h) o l 0 0 ps rest w a ∙ f

  left_goes : (s : ℕ) (a : Anchor) (before rest : List Piece) → qs ≡ before ++ rest → left_anchor h s ≡ Some a → s ≤ length (text h) → AreBefore s before → ((o : ℕ) → s ≡ suc o → AreAfter o rest) → place g a ≡ span 0 before s
  unfolding left_anchor place
  left_goes zero a before rest e f l b n =
      let q : Least ≡ a = same_Some Least a f in
      let z : span 0 before 0 ≡ 0 = ap (λ (ps : List Piece). span 0 ps 0) b in
      ap (place g) (sym q) ∙ sym z
  left_goes (suc o) a before rest e f l b n =
      let c = some_cell (slice_get (shown_cells h) o) (λ (c : Cell). At c.stamp (suc c.k) Left) a f in
      let d = shown_anchors_are_made_again g lawful (span 0 before o) c.0 (there o c.0 before rest e (omega (arith, count, l)) c.1 b (n o refl)) in
      ap (place g) (sym c.2) ∙ d.2 ∙ sym (span_suc 0 o before b)

  right_goes : (e : ℕ) (a : Anchor) (ps rest : List Piece) → qs ≡ ps ++ rest → right_anchor h e ≡ Some a → e ≤ length (text h) → AreWithin 0 e ps → AreAfter e rest → (e ≡ length (text h) → rest ≡ []) → place g a ≡ span 0 ps e
  unfolding right_anchor place
  right_goes e a ps rest q f l w n z = elim (cases_Bool (eqb e (length (text h)))) [
    | inl t ↦ (
        let s : e ≡ length (text h) = eqb-true e (length (text h)) t in
        let r : Some Greatest ≡ Some a = rw t at f in
        let b : Greatest ≡ a = same_Some Greatest a r in
        let all : qs ≡ ps = q ∙ ap (λ (rs : List Piece). ps ++ rs) (z s) ∙ append-nil ps in
        ap (place g) (sym b) ∙ ap length (bytes ∙ ap (λ (rs : List Piece). replaced_from 0 rs (text h)) all)
        ∙ span_is 0 ps (text h) (subst (λ (m : ℕ). AreWithin 0 m ps) s w) ∙ ap (span 0 ps) (sym s))
    | inr t ↦ (
        let r : option_map (λ (c : Cell). At c.stamp c.k Right) (slice_get (shown_cells h) e) ≡ Some a = rw t at f in
        let ne : e ≡ length (text h) → ⊥ = λ s. (let u : eqb e (length (text h)) ≡ true = eq-eqb e (length (text h)) s in let y : ⊥ = cc in y) in
        let c = some_cell (slice_get (shown_cells h) e) (λ (c : Cell). At c.stamp c.k Right) a r in
        let d = shown_anchors_are_made_again g lawful (span 0 ps e) c.0 (there e c.0 ps rest q (omega (arith, count, l, ne)) c.1 w n) in
        ap (place g) (sym c.2) ∙ d.3)
  ]

  -- ---- the text between them

  -- s..e is an excerpt; the pieces are those before it, its own, and those after it
  module _ (s e : ℕ) (left right : Anchor) (made_left : left_anchor h s ≡ Some left) (made_right : right_anchor h e ≡ Some right) (order : s ≤ e) (within : e ≤ length (text h))
      (before mine after : List Piece) (parts : qs ≡ before ++ later s (mine ++ later (e - s) after)) (b : AreBefore s before) (m : AreWithin 0 (e - s) mine)
      (r : AreWithin 0 (length (text h) - e) after) (apart : AreApart after) where
    pub goes : slice_range (text g) (place g left) (place g right) ≡ replaced_from 0 mine (slice_range (text h) s e)
    goes =
        let t : List ℕ = take s (text h) in
        let u : List ℕ = slice_range (text h) s e in
        let v : List ℕ = drop e (text h) in
        let tn : length t ≡ s = take_count s (text h) (omega arith) in
        let un : length u ≡ e - s = slice_count (text h) s e within in
        let vn : length v ≡ length (text h) - e = drop_count e (text h) in
        let old : text h ≡ t ++ (u ++ v) = sym (three (text h) s e order) in
        let wb : AreWithin 0 (length t) before = subst (λ (n : ℕ). AreWithin 0 n before) (sym tn) (before_within s before b) in
        let wm : AreWithin 0 (length u) mine = subst (λ (n : ℕ). AreWithin 0 n mine) (sym un) m in
        let A : List ℕ = replaced_from 0 before t in
        let B : List ℕ = replaced_from 0 mine u in
        let C : List ℕ = replaced_from 0 after v in
        let new : text g ≡ A ++ (B ++ C) =
        bytes ∙ ap (λ (rs : List Piece). replaced_from 0 rs (text h)) parts
        ∙ ap (replaced_from 0 (before ++ later s (mine ++ later (e - s) after))) old
        ∙ ap (λ (n : ℕ). replaced_from 0 (before ++ later n (mine ++ later (e - s) after)) (t ++ (u ++ v))) (sym tn)
        ∙ ap (λ (n : ℕ). replaced_from 0 (before ++ later (length t) (mine ++ later n after)) (t ++ (u ++ v))) (sym un)
        ∙ excerpt_replaces t u v before mine after (length (text h) - e) wb wm r in
        let la : length A ≡ span 0 before s = span_is 0 before t wb ∙ ap (span 0 before) tn in
        let left_at : place g left ≡ length A = left_goes s left before (later s (mine ++ later (e - s) after)) parts made_left (omega arith) b (first_after s) ∙ sym la in
        let joined : replaced_from 0 (before ++ later s mine) (t ++ u) ≡ A ++ B =
        ap (λ (n : ℕ). replaced_from 0 (before ++ later n mine) (t ++ u)) (sym tn) ∙ replaces_apart before mine t u 0 (e - s) wb m in
        let tu : length (t ++ u) ≡ e = (let l = length-append t u in omega arith) in
        let own : AreWithin s e (later s mine) = own_at in
        let wo : AreWithin 0 e (before ++ later s mine) = both_within 0 s e before (later s mine) (before_within s before b) own in
        let lab : length A + length B ≡ span 0 (before ++ later s mine) e =
        (let l = length-append A B in let k = ap length joined in let j = span_is 0 (before ++ later s mine) (t ++ u) (subst (λ (n : ℕ). AreWithin 0 n (before ++ later s mine)) (sym tu) wo) in let i = ap (span 0 (before ++ later s mine)) tu in omega (arith, l, k, j, i)) in
        let split : qs ≡ (before ++ later s mine) ++ later s (later (e - s) after) = parts ∙ ap (λ (zs : List Piece). before ++ zs) (later-append s mine (later (e - s) after)) ∙ sym (append_assoc before (later s mine) (later s (later (e - s) after))) in
        let right_at : place g right ≡ length A + length B =
        right_goes e right (before ++ later s mine) (later s (later (e - s) after)) split made_right within wo (after_later s (e - s) e after (omega arith) apart) last ∙ sym lab in
        ap (λ (n : List ℕ). slice_range n (place g left) (place g right)) new ∙ slice_middle A B C (place g left) (place g right) left_at right_at
      where
        own_at : AreWithin s e (later s mine)
        own_at = let w = later_within s 0 (e - s) mine m in let z : s + 0 ≡ s = omega arith in let y : s + (e - s) ≡ e = omega arith in
            subst (λ (n : ℕ). AreWithin n e (later s mine)) z (subst (λ (n : ℕ). AreWithin (s + 0) n (later s mine)) y w)

        first_after : (n : ℕ) (o : ℕ) → n ≡ suc o → AreAfter o (later n (mine ++ later (e - s) after))
        first_after n o f = subst (λ (k : ℕ). AreAfter o (later k (mine ++ later (e - s) after))) (sym f) (after_own o (e - s) mine after m apart)

        last : e ≡ length (text h) → later s (later (e - s) after) ≡ []
        last f = ap (λ (zs : List Piece). later s (later (e - s) zs)) (none_after (length (text h) - e) after (omega arith) r apart)
