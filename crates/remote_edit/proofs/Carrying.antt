-- Moves carry bytes along with a walk over fragments.
use Rattle.op_model.proofs.Elements.{each_left, each_right}
use Rattle.std.proofs.Common.{◌≡◌, ℕ, zero, suc, ◌+◌, ◌≤◌, ◌<◌, Bool, true, false, cond, not, List, [], ◌∷◌, ◌++◌, length, map, take, drop, get_or, refl, sym, ap, ◌∙◌, subst, arith, append_assoc, length-append, drop-cons}
use Rattle.std.specs.List.{AllByRecursion, filter}
use Rattle.std.specs.Str.{IsUtf8}
use Rattle.std.proofs.lemmas.Str.{IsUtf8-nil, IsUtf8-append}
use Rattle.std.proofs.lemmas.List.{drop-drop}
use Rattle.lamport_clock.specs.declared.stamp.Lamport.{Lamport}
use Rattle.op_model.specs.Cells.{Cell}
use Rattle.op_model.specs.Facts.{Fact, alike}
use Rattle.op_model.specs.Walked.{facts_of}
use Rattle.op_model.proofs.texts.Utf8Runs.{take_front, drop_front}
use Rattle.fragments.specs.declared.fragment.Fragment.{Fragment}
use Rattle.fragments.specs.Stand.{runs}
use Rattle.fragments.specs.Laws.{shown_len}
use Rattle.remote_edit.specs.declared.moves.Move.{Move}
use Rattle.remote_edit.specs.declared.moves.Move.TheVariants.{Visible, Hidden, Insert}
use Rattle.remote_edit.specs.Moves.{texts_of, with_fronts, with_move, TakeTexts, HaveMoved}
use Rattle.remote_edit.specs.Carried.{CarryOn, move_for, shown_bytes, hidden_bytes, both_bytes, hidden_len, cell_bytes, IsText, Carried}
use Rattle.remote_edit.proofs.Stepping.{step, keep}
use Rattle.remote_edit.proofs.Characters.{take_more, take_kept}

-- two fragments have the same cells
abbrev pub SameCells : Fragment → Fragment → Type 0
SameCells f g = (g.stamp ≡ f.stamp) × (g.offset ≡ f.offset) × (g.len ≡ f.len)

module _ (byte : Cell → ℕ) where
  abbrev pub bytes_of : Fragment → List ℕ
  bytes_of f = cell_bytes byte f.stamp f.offset f.len

  pub long : (t : Lamport) (k n : ℕ) → n ≡ length (cell_bytes byte t k n)
  long t k zero = refl
  long t k (suc n) = ap suc (long t (suc k) n)

  -- the bytes for which p holds, by whether they are visible
  abbrev picked : (Bool → Bool) → List Fact → List ℕ
  picked p s = map (λ (q : Fact). byte q.cell) (filter (λ (q : Fact). p q.visible) s)

  pick_alike : (p : Bool → Bool) (t : Lamport) (k n : ℕ) (v : Bool) (d : List Lamport) (s : List Fact) → picked p (alike t k n v d ++ s) ≡ cond (p v) (cell_bytes byte t k n ++ picked p s) (picked p s)
  pick_alike p t k n v d s = go (p v) refl k n
    where
      go : (b : Bool) → p v ≡ b → (k n : ℕ) → picked p (alike t k n v d ++ s) ≡ cond b (cell_bytes byte t k n ++ picked p s) (picked p s)
      go true e k zero = refl
      go true e k (suc n) = rw e (ap (λ z. byte (record { stamp = t; k = k }) ∷ z) (go true e (suc k) n))
      go false e k zero = refl
      go false e k (suc n) = rw e (go false e (suc k) n)

  pub shown_first : (f : Fragment) (fs : List Fragment) → shown_bytes byte (f ∷ fs) ≡ cond f.visible (bytes_of f ++ shown_bytes byte fs) (shown_bytes byte fs)
  shown_first f fs = pick_alike (λ b. b) f.stamp f.offset f.len f.visible f.deletions (facts_of (runs fs))

  pub hidden_first : (f : Fragment) (fs : List Fragment) → hidden_bytes byte (f ∷ fs) ≡ cond (not f.visible) (bytes_of f ++ hidden_bytes byte fs) (hidden_bytes byte fs)
  hidden_first f fs = pick_alike not f.stamp f.offset f.len f.visible f.deletions (facts_of (runs fs))

  parts : (b : Bool) (x y z : List ℕ) → cond b (x ++ (y ++ z)) (y ++ z) ≡ cond b (x ++ y) y ++ z
  parts true x y z = sym (append_assoc x y z)
  parts false x y z = refl

  pub shown_append : (xs ys : List Fragment) → shown_bytes byte (xs ++ ys) ≡ shown_bytes byte xs ++ shown_bytes byte ys
  shown_append [] ys = refl
  shown_append (x ∷ xs) ys = shown_first x (xs ++ ys) ∙ ap (λ z. cond x.visible (bytes_of x ++ z) z) (shown_append xs ys)
      ∙ parts x.visible (bytes_of x) (shown_bytes byte xs) (shown_bytes byte ys) ∙ ap (λ z. z ++ shown_bytes byte ys) (sym (shown_first x xs))

  pub hidden_append : (xs ys : List Fragment) → hidden_bytes byte (xs ++ ys) ≡ hidden_bytes byte xs ++ hidden_bytes byte ys
  hidden_append [] ys = refl
  hidden_append (x ∷ xs) ys = hidden_first x (xs ++ ys) ∙ ap (λ z. cond (not x.visible) (bytes_of x ++ z) z) (hidden_append xs ys)
      ∙ parts (not x.visible) (bytes_of x) (hidden_bytes byte xs) (hidden_bytes byte ys) ∙ ap (λ z. z ++ hidden_bytes byte ys) (sym (hidden_first x xs))

  pub both_append : (xs ys : List Fragment) → both_bytes byte (xs ++ ys) ≡ with_fronts (shown_bytes byte xs) (hidden_bytes byte xs) (both_bytes byte ys)
  both_append xs ys = rw (shown_append xs ys, hidden_append xs ys) refl

  -- a move after others, if it takes what lies between pre and rest
  pub one_move : {t : Lamport} {s h n : List ℕ} {ms : List Move} {pre rest : List Fragment} {k : ℕ} (m : Move) (g : Fragment) (rest2 : List Fragment) (j : ℕ)
      → Carried byte t s h n ms pre rest k
      → HaveMoved (shown_bytes byte rest) (hidden_bytes byte rest) (drop k n) (m ∷ []) (both_bytes byte (g ∷ [])) (both_bytes byte rest2) (drop j n)
      → (IsText byte g → TakeTexts (m ∷ []) (shown_bytes byte rest) (hidden_bytes byte rest) (drop k n))
      → Carried byte t s h n (with_move ms m) (pre ++ g ∷ []) rest2 j
  one_move {t} {s} {h} {n} {ms} {pre} {rest} {k} m g rest2 j c a w = record {
    moves = rw (both_append pre (g ∷ [])) (step s h n ms (both_bytes byte pre) (both_bytes byte rest) (drop k n) m (both_bytes byte (g ∷ [])) (both_bytes byte rest2) (drop j n) c.moves a);
    text = c.text;
    characters = λ u. take_more ms m s h n (c.characters (each_left (IsText byte) pre (g ∷ []) u)) (rw (c.moves.left_shown, c.moves.left_hidden, c.moves.news) (w (each_right (IsText byte) pre (g ∷ []) u).0));
  }

  taken : (f : Fragment) (x : List ℕ) → take f.len (bytes_of f ++ x) ≡ bytes_of f
  taken f x = take_front (bytes_of f) x f.len (long f.stamp f.offset f.len)

  left_of : (f : Fragment) (x : List ℕ) → drop f.len (bytes_of f ++ x) ≡ x
  left_of f x = drop_front (bytes_of f) x f.len (long f.stamp f.offset f.len)

  same_cells : (f g : Fragment) → SameCells f g → bytes_of g ≡ bytes_of f
  same_cells f g e = rw (e.0, e.1, e.2) refl

  -- f becomes g
  becomes : (f g : Fragment) (rest : List Fragment) (x : List ℕ) → SameCells f g
      → HaveMoved (shown_bytes byte (f ∷ rest)) (hidden_bytes byte (f ∷ rest)) x (move_for f.visible g.visible f.len ∷ []) (both_bytes byte (g ∷ [])) (both_bytes byte rest) x
  becomes f g rest x e = rw (shown_first f rest, hidden_first f rest, shown_first g [], hidden_first g [], same_cells f g e) (go f.visible g.visible)
    where
      s : List ℕ
      s = shown_bytes byte rest

      h : List ℕ
      h = hidden_bytes byte rest

      b : List ℕ
      b = bytes_of f

      zero_more : (n : ℕ) → n + 0 ≡ n
      zero_more n = omega arith

      go : (was now : Bool) → HaveMoved (cond was (b ++ s) s) (cond (not was) (b ++ h) h) x (move_for was now f.len ∷ []) (texts_of (cond now (b ++ []) []) (cond (not now) (b ++ []) [])) (both_bytes byte rest) x
      go true true = record { put = rw (taken f s) refl; left_shown = rw (zero_more f.len) (left_of f s); left_hidden = refl; news = refl }
      go true false = record { put = rw (taken f s) refl; left_shown = rw (zero_more f.len) (left_of f s); left_hidden = refl; news = refl }
      go false true = record { put = rw (taken f h) refl; left_shown = refl; left_hidden = rw (zero_more f.len) (left_of f h); news = refl }
      go false false = record { put = rw (taken f h) refl; left_shown = refl; left_hidden = rw (zero_more f.len) (left_of f h); news = refl }

  -- whole characters
  takes : (f g : Fragment) (rest : List Fragment) (x : List ℕ) → SameCells f g → IsText byte g → TakeTexts (move_for f.visible g.visible f.len ∷ []) (shown_bytes byte (f ∷ rest)) (hidden_bytes byte (f ∷ rest)) x
  takes f g rest x e u = rw (shown_first f rest, hidden_first f rest) (go f.visible g.visible)
    where
      w : IsUtf8 (bytes_of f)
      w = subst IsUtf8 (same_cells f g e) u

      first : (z : List ℕ) → IsUtf8 (take f.len (bytes_of f ++ z))
      first z = subst IsUtf8 (sym (taken f z)) w

      go : (was now : Bool) → TakeTexts (move_for was now f.len ∷ []) (cond was (bytes_of f ++ shown_bytes byte rest) (shown_bytes byte rest)) (cond (not was) (bytes_of f ++ hidden_bytes byte rest) (hidden_bytes byte rest)) x
      go true true = (first (shown_bytes byte rest), tt)
      go true false = (first (shown_bytes byte rest), tt)
      go false true = (first (hidden_bytes byte rest), tt)
      go false false = (first (hidden_bytes byte rest), tt)

  -- one fragment is put out, shown or hidden as before or not
  pub carried_one : {t : Lamport} {s h n : List ℕ} {ms : List Move} {pre : List Fragment} (f g : Fragment) (rest : List Fragment) {k : ℕ}
      → Carried byte t s h n ms pre (f ∷ rest) k → SameCells f g → Carried byte t s h n (with_move ms (move_for f.visible g.visible f.len)) (pre ++ g ∷ []) rest k
  carried_one {t} {s} {h} {n} {ms} {pre} f g rest {k} c e = one_move (move_for f.visible g.visible f.len) g rest k c (becomes f g rest (drop k n) e) (takes f g rest (drop k n) e)

  -- a stretch of fragments is passed
  pub shown_long : (xs : List Fragment) → shown_len xs ≡ length (shown_bytes byte xs)
  shown_long [] = refl
  shown_long (x ∷ xs) = rw (shown_first x xs) (go x.visible (shown_long xs))
    where
      go : (b : Bool) → shown_len xs ≡ length (shown_bytes byte xs) → cond b (x.len + shown_len xs) (shown_len xs) ≡ length (cond b (bytes_of x ++ shown_bytes byte xs) (shown_bytes byte xs))
      go true e = let a = length-append (bytes_of x) (shown_bytes byte xs) in let l = long x.stamp x.offset x.len in omega (arith, a, l, e)
      go false e = e

  pub hidden_long : (xs : List Fragment) → hidden_len xs ≡ length (hidden_bytes byte xs)
  hidden_long [] = refl
  hidden_long (x ∷ xs) = rw (hidden_first x xs) (go x.visible (hidden_long xs))
    where
      go : (b : Bool) → hidden_len xs ≡ length (hidden_bytes byte xs) → cond b (hidden_len xs) (x.len + hidden_len xs) ≡ length (cond (not b) (bytes_of x ++ hidden_bytes byte xs) (hidden_bytes byte xs))
      go true e = e
      go false e = let a = length-append (bytes_of x) (hidden_bytes byte xs) in let l = long x.stamp x.offset x.len in omega (arith, a, l, e)

  shown_text : (xs : List Fragment) → AllByRecursion (IsText byte) xs → IsUtf8 (shown_bytes byte xs)
  shown_text [] u = IsUtf8-nil
  shown_text (x ∷ xs) u = subst IsUtf8 (sym (shown_first x xs)) (go x.visible (shown_text xs u.1))
    where
      go : (b : Bool) → IsUtf8 (shown_bytes byte xs) → IsUtf8 (cond b (bytes_of x ++ shown_bytes byte xs) (shown_bytes byte xs))
      go true w = IsUtf8-append (bytes_of x) (shown_bytes byte xs) u.0 w
      go false w = w

  hidden_text : (xs : List Fragment) → AllByRecursion (IsText byte) xs → IsUtf8 (hidden_bytes byte xs)
  hidden_text [] u = IsUtf8-nil
  hidden_text (x ∷ xs) u = subst IsUtf8 (sym (hidden_first x xs)) (go (not x.visible) (hidden_text xs u.1))
    where
      go : (b : Bool) → IsUtf8 (hidden_bytes byte xs) → IsUtf8 (cond b (bytes_of x ++ hidden_bytes byte xs) (hidden_bytes byte xs))
      go true w = IsUtf8-append (bytes_of x) (hidden_bytes byte xs) u.0 w
      go false w = w

  pub carried_stretch : {t : Lamport} {s h n : List ℕ} {ms : List Move} {pre : List Fragment} (xs rest : List Fragment) {k : ℕ}
      → Carried byte t s h n ms pre (xs ++ rest) k → Carried byte t s h n (with_move (with_move ms (Visible (shown_len xs))) (Hidden (hidden_len xs))) (pre ++ xs) rest k
  carried_stretch {t} {s} {h} {n} {ms} {pre} xs rest {k} c = record {
    moves = rw (both_append pre xs) (keep s h n ms (both_bytes byte pre) (shown_bytes byte xs) (shown_bytes byte rest) (hidden_bytes byte xs) (hidden_bytes byte rest) (drop k n)
        (shown_len xs) (hidden_len xs) (shown_long xs) (hidden_long xs) found);
    text = c.text;
    characters = λ u. take_kept ms s h n (shown_bytes byte xs) (shown_bytes byte rest) (hidden_bytes byte xs) (hidden_bytes byte rest) (shown_len xs) (hidden_len xs) (shown_long xs) (hidden_long xs)
        found.left_shown found.left_hidden (shown_text xs (each_right (IsText byte) pre xs u)) (hidden_text xs (each_right (IsText byte) pre xs u)) (c.characters (each_left (IsText byte) pre xs u));
  }
    where
      found : HaveMoved s h n ms (both_bytes byte pre) (texts_of (shown_bytes byte xs ++ shown_bytes byte rest) (hidden_bytes byte xs ++ hidden_bytes byte rest)) (drop k n)
      found = subst (λ z. HaveMoved s h n ms (both_bytes byte pre) z (drop k n)) (both_append xs rest) c.moves

  text_from : (t : Lamport) (n : List ℕ) → ((j : ℕ) → byte (record { stamp = t; k = j }) ≡ get_or n j 0) → (k l : ℕ) → k + l ≤ length n → cell_bytes byte t k l ≡ take l (drop k n)
  text_from t n e k zero h = refl
  text_from t n e k (suc l) h = let i : k < length n = omega (arith, h) in rw (drop-cons n k 0, e k) (ap (λ z. get_or n k 0 ∷ z) (text_from t n e (suc k) l (omega (arith, h))))

  -- new cells are put out
  pub carried_insert : {t : Lamport} {s h n : List ℕ} {ms : List Move} {pre : List Fragment} (rest : List Fragment) (k : ℕ) (f : Fragment) → f.stamp ≡ t → f.offset ≡ k → f.visible ≡ true
      → Carried byte t s h n ms pre rest k → k + f.len ≤ length n → Carried byte t s h n (with_move ms (Insert f.len)) (pre ++ f ∷ []) rest (k + f.len)
  carried_insert {t} {s} {h} {n} {ms} {pre} rest k f is from shown c e = one_move (Insert f.len) f rest (k + f.len) c
      (record {
        put = rw (shown_first f [], hidden_first f [], shown, is, from, cells) refl;
        left_shown = refl;
        left_hidden = refl;
        news = let z : f.len + 0 ≡ f.len = omega arith in rw z (drop-drop f.len k n);
      })
      (λ u. (subst IsUtf8 (ap (λ x. cell_bytes byte x f.offset f.len) is ∙ ap (λ x. cell_bytes byte t x f.len) from ∙ cells) u, tt))
    where
      cells : cell_bytes byte t k f.len ≡ take f.len (drop k n)
      cells = text_from t n c.text k f.len e

-- ---- going on

pub go_on : {t : Lamport} {ms ms2 ms3 : List Move} {pre rest pre2 rest2 pre3 rest3 : List Fragment} {k k2 k3 : ℕ} → k2 ≤ k3
    → CarryOn t ms pre rest k ms2 pre2 rest2 k2 → CarryOn t ms2 pre2 rest2 k2 ms3 pre3 rest3 k3 → CarryOn t ms pre rest k ms3 pre3 rest3 k3
go_on {k2 = k2} {k3 = k3} o a b byte s h n l c = b byte s h n l (a byte s h n (omega (arith, o, l)) c)

pub stay : {t : Lamport} {ms : List Move} {pre rest : List Fragment} {k : ℕ} → CarryOn t ms pre rest k ms pre rest k
stay byte s h n l c = c

pub on_one : {t : Lamport} {ms : List Move} {pre : List Fragment} (f g : Fragment) (rest : List Fragment) {k : ℕ} → SameCells f g
    → CarryOn t ms pre (f ∷ rest) k (with_move ms (move_for f.visible g.visible f.len)) (pre ++ g ∷ []) rest k
on_one f g rest e byte s h n l c = carried_one byte f g rest c e

pub on_stretch : {t : Lamport} {ms : List Move} {pre : List Fragment} (xs rest : List Fragment) {k : ℕ}
    → CarryOn t ms pre (xs ++ rest) k (with_move (with_move ms (Visible (shown_len xs))) (Hidden (hidden_len xs))) (pre ++ xs) rest k
on_stretch xs rest byte s h n l c = carried_stretch byte xs rest c

pub on_insert : {t : Lamport} {ms : List Move} {pre : List Fragment} (rest : List Fragment) (k : ℕ) (f : Fragment) → f.stamp ≡ t → f.offset ≡ k → f.visible ≡ true
    → CarryOn t ms pre rest k (with_move ms (Insert f.len)) (pre ++ f ∷ []) rest (k + f.len)
on_insert rest k f is from shown byte s h n l c = carried_insert byte rest k f is from shown c l
