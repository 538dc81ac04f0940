-- One more move.
use Rattle.std.proofs.Common.{◌≡◌, ℕ, ◌+◌, List, [], ◌∷◌, ◌++◌, length, drop, refl, ap, ◌∙◌, arith}
use Rattle.std.proofs.lemmas.List.{append-nil, drop-drop}
use Rattle.op_model.proofs.texts.Utf8Runs.{take_front, drop_front}
use Rattle.remote_edit.specs.declared.moves.Move.{Move}
use Rattle.remote_edit.specs.declared.moves.Move.TheVariants.{Visible, Hidden}
use Rattle.remote_edit.specs.Moves.{Texts, texts_of, with_fronts, after_moves, with_move, from_shown, from_hidden, from_new, HaveMoved}
use Rattle.remote_edit.proofs.Joining.{AddsUp, more_total, shown_adds, hidden_adds, new_adds, compose, joined_same, twice}

drop_more : (total : List Move → ℕ) → AddsUp total → (ms : List Move) (m : Move) (s x y : List ℕ) → drop (total ms) s ≡ x → drop (total (m ∷ [])) x ≡ y → drop (total (with_move ms m)) s ≡ y
drop_more total a ms m s x y e f = rw (more_total total a ms m, ← drop-drop (total (m ∷ [])) (total ms) s, e) f

pub step : (s h n : List ℕ) (ms : List Move) (out left : Texts) (left_new : List ℕ) (m : Move) (put after : Texts) (after_new : List ℕ)
    → HaveMoved s h n ms out left left_new → HaveMoved left.shown left.hidden left_new (m ∷ []) put after after_new
    → HaveMoved s h n (with_move ms m) (with_fronts out.shown out.hidden put) after after_new
step s h n ms out left left_new m put after after_new a b = record {
  put = joined_same ms m s h n ∙ compose ms (m ∷ []) s h n ∙ all (after_moves ms s h n) out (drop (from_shown ms) s) left.shown (drop (from_hidden ms) h) left.hidden (drop (from_new ms) n) left_new b.put a.put a.left_shown a.left_hidden a.news;
  left_shown = drop_more from_shown shown_adds ms m s left.shown after.shown a.left_shown b.left_shown;
  left_hidden = drop_more from_hidden hidden_adds ms m h left.hidden after.hidden a.left_hidden b.left_hidden;
  news = drop_more from_new new_adds ms m n left_new after_new a.news b.news;
}
  where
    same : (x x' y y' z z' : List ℕ) → x ≡ x' → y ≡ y' → z ≡ z' → after_moves (m ∷ []) x y z ≡ after_moves (m ∷ []) x' y' z'
    same x x' y y' z z' f g i = rw (f, g, i) refl

    all : (r q : Texts) (x x' y y' z z' : List ℕ) → after_moves (m ∷ []) x' y' z' ≡ put → r ≡ q → x ≡ x' → y ≡ y' → z ≡ z' → with_fronts r.shown r.hidden (after_moves (m ∷ []) x y z) ≡ with_fronts q.shown q.hidden put
    all r q x x' y y' z z' p e f g i = ap (λ (k : Texts). with_fronts k.shown k.hidden (after_moves (m ∷ []) x y z)) e ∙ ap (with_fronts q.shown q.hidden) (same x x' y y' z z' f g i ∙ p)

-- shown and hidden bytes that stay what they are
pub keep : (s h n : List ℕ) (ms : List Move) (out : Texts) (a b c d x : List ℕ) (v u : ℕ) → v ≡ length a → u ≡ length c → HaveMoved s h n ms out (texts_of (a ++ b) (c ++ d)) x
    → HaveMoved s h n (with_move (with_move ms (Visible v)) (Hidden u)) (with_fronts out.shown out.hidden (texts_of a c)) (texts_of b d) x
keep s h n ms out a b c d x v u e f m = rw (← end) second
  where
    over : (n : ℕ) → n + 0 ≡ n
    over n = omega arith

    first : HaveMoved s h n (with_move ms (Visible v)) (with_fronts out.shown out.hidden (texts_of a [])) (texts_of b (c ++ d)) x
    first = step s h n ms out (texts_of (a ++ b) (c ++ d)) x (Visible v) (texts_of a []) (texts_of b (c ++ d)) x m
        (record { put = rw (take_front a b v e, append-nil a) refl; left_shown = rw (over v) (drop_front a b v e); left_hidden = refl; news = refl })

    second : HaveMoved s h n (with_move (with_move ms (Visible v)) (Hidden u)) (with_fronts (out.shown ++ a) (out.hidden ++ []) (texts_of [] c)) (texts_of b d) x
    second = step s h n (with_move ms (Visible v)) (with_fronts out.shown out.hidden (texts_of a [])) (texts_of b (c ++ d)) x (Hidden u) (texts_of [] c) (texts_of b d) x first
        (record { put = rw (take_front c d u f, append-nil c) refl; left_shown = refl; left_hidden = rw (over u) (drop_front c d u f); news = refl })

    end : with_fronts (out.shown ++ a) (out.hidden ++ []) (texts_of [] c) ≡ with_fronts out.shown out.hidden (texts_of a c)
    end = ap (λ z. texts_of z ((out.hidden ++ []) ++ c)) (append-nil (out.shown ++ a)) ∙ ap (λ z. texts_of (out.shown ++ a) (z ++ c)) (append-nil out.hidden)

-- ---- moves

pub to_shown : (a b c : List ℕ) (r : Texts) → with_fronts a b (with_fronts c [] r) ≡ with_fronts (a ++ c) b r
to_shown a b c r = twice a b c [] r ∙ ap (λ z. with_fronts (a ++ c) z r) (append-nil b)

pub to_hidden : (a b d : List ℕ) (r : Texts) → with_fronts a b (with_fronts [] d r) ≡ with_fronts a (b ++ d) r
to_hidden a b d r = twice a b [] d r ∙ ap (λ z. with_fronts z (b ++ d) r) (append-nil a)
