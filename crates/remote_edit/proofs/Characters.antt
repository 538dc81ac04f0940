-- Moves that take whole characters.
use Rattle.std.proofs.Common.{◌≡◌, ℕ, ◌+◌, ◌^◌, ◌==◌, nat_lt, List, [], ◌∷◌, ◌++◌, length, take, drop, Option, Some, None, refl, sym, ap, ◌∙◌, subst, arith, inl, inr}
use Rattle.std.specs.Str.{IsUtf8}
use Rattle.std.proofs.Math.Seq.{take-add}
use Rattle.std.proofs.lemmas.Str.{IsUtf8-append}
use Rattle.std.proofs.lemmas.List.{drop-drop}
use Rattle.std.proofs.lemmas.Bool.{cases_Bool}
use Rattle.op_model.proofs.texts.Utf8Runs.{take_front}
use Rattle.remote_edit.specs.declared.moves.Move.{Move}
use Rattle.remote_edit.specs.declared.moves.Move.TheVariants.{Visible, Hidden, Hide, Show, Insert}
use Rattle.remote_edit.specs.Moves.{TakeTexts, length_of, as_one, join_moves, with_last, with_move, from_shown, from_hidden, from_new}
use Rattle.remote_edit.proofs.Joining.{AddsUp, more_total, shown_adds, hidden_adds, new_adds, fitted}

-- the first move and those after it
none_more : (k : ℕ) → k + 0 ≡ k
none_more k = omega arith

front : (m : Move) (ns : List Move) (s h n : List ℕ) → TakeTexts (m ∷ []) s h n → TakeTexts ns (drop (from_shown (m ∷ [])) s) (drop (from_hidden (m ∷ [])) h) (drop (from_new (m ∷ [])) n) → TakeTexts (m ∷ ns) s h n
front (Visible k) ns s h n a b = (a.0, subst (λ (j : ℕ). TakeTexts ns (drop j s) h n) (none_more k) b)
front (Hidden k) ns s h n a b = (a.0, subst (λ (j : ℕ). TakeTexts ns s (drop j h) n) (none_more k) b)
front (Hide k) ns s h n a b = (a.0, subst (λ (j : ℕ). TakeTexts ns (drop j s) h n) (none_more k) b)
front (Show k) ns s h n a b = (a.0, subst (λ (j : ℕ). TakeTexts ns s (drop j h) n) (none_more k) b)
front (Insert k) ns s h n a b = (a.0, subst (λ (j : ℕ). TakeTexts ns s h (drop j n)) (none_more k) b)

back : (m : Move) (ns : List Move) (s h n : List ℕ) → TakeTexts (m ∷ ns) s h n → TakeTexts (m ∷ []) s h n × TakeTexts ns (drop (from_shown (m ∷ [])) s) (drop (from_hidden (m ∷ [])) h) (drop (from_new (m ∷ [])) n)
back (Visible k) ns s h n a = ((a.0, tt), subst (λ (j : ℕ). TakeTexts ns (drop j s) h n) (sym (none_more k)) a.1)
back (Hidden k) ns s h n a = ((a.0, tt), subst (λ (j : ℕ). TakeTexts ns s (drop j h) n) (sym (none_more k)) a.1)
back (Hide k) ns s h n a = ((a.0, tt), subst (λ (j : ℕ). TakeTexts ns (drop j s) h n) (sym (none_more k)) a.1)
back (Show k) ns s h n a = ((a.0, tt), subst (λ (j : ℕ). TakeTexts ns s (drop j h) n) (sym (none_more k)) a.1)
back (Insert k) ns s h n a = ((a.0, tt), subst (λ (j : ℕ). TakeTexts ns s h (drop j n)) (sym (none_more k)) a.1)

-- two moves of a kind as one
both_texts : (a b : ℕ) (s : List ℕ) → IsUtf8 (take a s) → IsUtf8 (take b (drop a s)) → IsUtf8 (take (a + b) s)
both_texts a b s u w = subst IsUtf8 (sym (take-add a b s)) (IsUtf8-append (take a s) (take b (drop a s)) u w)

one_takes : (m next one : Move) → as_one m next ≡ Some one → (s h n : List ℕ) → TakeTexts (m ∷ next ∷ []) s h n → TakeTexts (one ∷ []) s h n
one_takes (Visible a) (Visible b) one o s h n t = rw (← fitted (nat_lt (a + b) (2 ^ 64)) (Visible (a + b)) one o) (both_texts a b s t.0 t.1.0, tt)
one_takes (Hidden a) (Hidden b) one o s h n t = rw (← fitted (nat_lt (a + b) (2 ^ 64)) (Hidden (a + b)) one o) (both_texts a b h t.0 t.1.0, tt)
one_takes (Hide a) (Hide b) one o s h n t = rw (← fitted (nat_lt (a + b) (2 ^ 64)) (Hide (a + b)) one o) (both_texts a b s t.0 t.1.0, tt)
one_takes (Show a) (Show b) one o s h n t = rw (← fitted (nat_lt (a + b) (2 ^ 64)) (Show (a + b)) one o) (both_texts a b h t.0 t.1.0, tt)
one_takes (Insert a) (Insert b) one o s h n t = rw (← fitted (nat_lt (a + b) (2 ^ 64)) (Insert (a + b)) one o) (both_texts a b n t.0 t.1.0, tt)
one_takes m next one o s h n t = absurd (let z : None ≡ Some one = o in cc)

-- a total past the first move
past : (total : List Move → ℕ) → AddsUp total → (m : Move) (ms : List Move) (s : List ℕ) → drop (total (m ∷ ms)) s ≡ drop (total ms) (drop (total (m ∷ [])) s)
past total a m ms s = ap (λ (k : ℕ). drop k s) (a.first m ms) ∙ sym (drop-drop (total ms) (total (m ∷ [])) s)

last_takes : (ms : List Move) (next : Move) (s h n : List ℕ) → TakeTexts ms s h n → TakeTexts (next ∷ []) (drop (from_shown ms) s) (drop (from_hidden ms) h) (drop (from_new ms) n) → TakeTexts (with_last ms next) s h n
last_takes [] next s h n t u = u
last_takes (m ∷ []) next s h n t u = go (as_one m next) refl
  where
    go : (o : Option Move) → as_one m next ≡ o → TakeTexts (join_moves o m next) s h n
    go (Some one) e = one_takes m next one e s h n (front m (next ∷ []) s h n t u)
    go None e = front m (next ∷ []) s h n t u
last_takes (m ∷ k ∷ ms) next s h n t u =
    let b = back m (k ∷ ms) s h n t in
    let w = rw (past from_shown shown_adds m (k ∷ ms) s, past from_hidden hidden_adds m (k ∷ ms) h, past from_new new_adds m (k ∷ ms) n) at u in
    front m (with_last (k ∷ ms) next) s h n b.0 (last_takes (k ∷ ms) next (drop (from_shown (m ∷ [])) s) (drop (from_hidden (m ∷ [])) h) (drop (from_new (m ∷ [])) n) b.1 w)

-- one more move
pub take_more : (ms : List Move) (next : Move) (s h n : List ℕ) → TakeTexts ms s h n → TakeTexts (next ∷ []) (drop (from_shown ms) s) (drop (from_hidden ms) h) (drop (from_new ms) n) → TakeTexts (with_move ms next) s h n
take_more ms next s h n t u = elim (cases_Bool (length_of next == 0)) [ inl e ↦ rw e t | inr e ↦ rw e (last_takes ms next s h n t u) ]

-- shown and hidden bytes that stay what they are
pub take_kept : (ms : List Move) (s h n a b c d : List ℕ) (v u : ℕ) → v ≡ length a → u ≡ length c → drop (from_shown ms) s ≡ a ++ b → drop (from_hidden ms) h ≡ c ++ d → IsUtf8 a → IsUtf8 c
    → TakeTexts ms s h n → TakeTexts (with_move (with_move ms (Visible v)) (Hidden u)) s h n
take_kept ms s h n a b c d v u e f i j x y t =
    let first : TakeTexts (with_move ms (Visible v)) s h n = take_more ms (Visible v) s h n t (subst IsUtf8 (sym (ap (take v) i ∙ take_front a b v e)) x, tt) in
    let none : from_hidden ms + 0 ≡ from_hidden ms = omega arith in
    let same : drop (from_hidden (with_move ms (Visible v))) h ≡ c ++ d = ap (λ (k : ℕ). drop k h) (more_total from_hidden hidden_adds ms (Visible v) ∙ none) ∙ j in
    take_more (with_move ms (Visible v)) (Hidden u) s h n first (subst IsUtf8 (sym (ap (take u) same ∙ take_front c d u f)) y, tt)
