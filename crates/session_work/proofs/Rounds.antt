-- A session that is worked as it is made.
use Rattle.std.proofs.Common.{◌≡◌, ℕ, zero, suc, ◌+◌, ◌-◌, ◌<◌, ◌≤◌, List, [], ◌∷◌, ◌++◌, length, drop, get_or, refl, sym, ap, ap₂, ◌∙◌, subst, arith, append_assoc, append-nil}
use Rattle.std.specs.List.{flat_map, range_with_len}
use Rattle.std.proofs.lemmas.List.{drop_all, drop_more}
use Rattle.session_lines.specs.declared.session.SessionLine.{SessionLine}
use Rattle.session_lines.specs.declared.session.SessionLine.TheVariants.{Give}
use Rattle.session_maker.specs.Draws.{next}
use Rattle.session_maker.specs.Made.{gives_behind, gives_of, gives_to, ids_to, made_lines, round_of, rounds_from, turn_at}
use Rattle.session_maker.specs.Turns.{author_of, turn_of}
use Rattle.op_model.proofs.Elements.{range_more}
use Rattle.text_buffer.specs.Buffer.{BufferState}
use Rattle.session_lines.specs.Report.{line_text}
use Rattle.session_maker.proofs.Decoding.{made_sessions_decode}
use Rattle.session_work.specs.Making.{Makes, count_lines, length_at, made_opening, made_session, summary_of, summary_with}
use Rattle.session_work.specs.MakingOn.{Leaves, TakesTurn, Works, WorksRound, work_state}
use Rattle.session_work.specs.Work.{State, after_all, counts_report, step}
use Rattle.session_work.specs.declared.making.Making.{Making}

-- ---- lines worked one after another

pub after_all-append : (ls ks : List SessionLine) (s : State) → after_all (ls ++ ks) s ≡ after_all ks (after_all ls s)
after_all-append [] ks s = refl
after_all-append (l ∷ ls) ks s = after_all-append ls ks (step l s)

pub works_then : (a b c : Making) (x y : ℕ) (ls ks : List SessionLine) → Works a b x ls → Works b c y ks → Works a c y (ls ++ ks)
works_then a b c x y ls ks f g = record {
  lines = g.lines ∙ ap (λ z. z ++ ks) f.lines ∙ append_assoc a.lines.items ls ks;
  state = g.state ∙ ap (after_all ks) f.state ∙ sym (after_all-append ls ks (work_state a));
  draws = g.draws;
}

-- ---- what is left of them

pub leaves_all : (a : Making) (all : List SessionLine) → Leaves a a all all
leaves_all a all = record { lines = refl; state = refl }

pub leaves_more : (a b c : Making) (y : ℕ) (all ls rest : List SessionLine) → Leaves a b all (ls ++ rest) → Works b c y ls → Leaves a c all rest
leaves_more a b c y all ls rest f g = record {
  lines = ap (λ z. z ++ rest) g.lines ∙ append_assoc b.lines.items ls rest ∙ f.lines;
  state = ap (after_all rest) g.state ∙ sym (after_all-append ls rest (work_state b)) ∙ f.state;
}

pub leaves_lines : (a b : Making) (all : List SessionLine) → Leaves a b all [] → b.lines.items ≡ a.lines.items ++ all
leaves_lines a b all f = sym (append-nil b.lines.items) ∙ f.lines

pub leaves_nothing : (a b : Making) (all : List SessionLine) → Leaves a b all [] → b.draws ≡ a.draws → Works a b a.draws all
leaves_nothing a b all f e = record { lines = leaves_lines a b all f; state = f.state; draws = e }

-- the loops over numbers and over replicas: lines that each member of a list makes
module _ (f : ℕ → List SessionLine) (a : Making) where
  abbrev pub Going : Making → List ℕ → ℕ → Type 0
  Going b xs i = Leaves a b (flat_map f xs) (flat_map f (drop i xs)) × (b.draws ≡ a.draws)

  pub going_first : (xs : List ℕ) → Going a xs 0
  going_first xs = (leaves_all a (flat_map f xs), refl)

  pub going_on : (b c : Making) (xs : List ℕ) (i x d : ℕ) → i < length xs → x ≡ get_or xs i d → Going b xs i → Works b c b.draws (f x) → Going c xs (i + 1)
  going_on b c xs i x d lt is g w =
      let rest = flat_map f (drop (i + 1) xs) in
      let is_rest : flat_map f (drop i xs) ≡ f x ++ rest = ap (flat_map f) (drop_more xs i d lt) ∙ ap (λ z. f z ++ rest) (sym is) in
      (leaves_more a b c b.draws (flat_map f xs) (f x) rest (subst (λ (z : List SessionLine). Leaves a b (flat_map f xs) z) is_rest g.0) w, w.draws ∙ g.1)

  pub going_done : (b : Making) (xs : List ℕ) (i : ℕ) → length xs ≤ i → Going b xs i → Works a b a.draws (flat_map f xs)
  going_done b xs i le g =
      leaves_nothing a b (flat_map f xs) (subst (λ (z : List ℕ). Leaves a b (flat_map f xs) (flat_map f z)) (drop_all i xs le) g.0) g.1

-- one line for each number
abbrev pub give_one : ℕ → ℕ → List SessionLine
give_one r n = Give r n ∷ []

pub gives_are : (r : ℕ) (ns : List ℕ) → flat_map (give_one r) ns ≡ gives_to ns r
gives_are r [] = refl
gives_are r (n ∷ ns) = ap (λ (z : List SessionLine). Give r n ∷ z) (gives_are r ns)

-- ---- a turn

module _ (a m c : Making) (n i r l : ℕ) (line : SessionLine) where
  pub turn_worked : m.lines.items ≡ a.lines.items → work_state m ≡ work_state a → r ≡ author_of n (next a.draws) → l ≡ length_at r (work_state a)
      → (line, m.draws) ≡ turn_of i r l (next a.draws) → Works m c m.draws (line ∷ []) → TakesTurn a c n i
  unfolding TakesTurn
  turn_worked lines state author len turn w =
      let p : SessionLine × ℕ = turn_at after_all length_at n i a.draws (work_state a) in
      let is : (line, m.draws) ≡ p =
      turn ∙ ap (λ z. turn_of i r z (next a.draws)) len ∙ ap (λ z. turn_of i z (length_at z (work_state a)) (next a.draws)) author in
      let is_line : line ≡ p.0 = ap (λ q. q.0) is in
      record {
        lines = w.lines ∙ ap₂ (λ xs x. xs ++ x ∷ []) lines is_line;
        state = w.state ∙ ap₂ (λ s x. after_all (x ∷ []) s) state is_line;
        draws = w.draws ∙ ap (λ q. q.1) is;
      }

-- a turn, and what is given behind it
pub round_worked : (a b c : Making) (n i : ℕ) → TakesTurn a b n i → Works b c b.draws (gives_behind n i) → WorksRound a c n i
unfolding TakesTurn WorksRound
round_worked a b c n i f g =
    let p : SessionLine × ℕ = turn_at after_all length_at n i a.draws (work_state a) in
    let w = works_then a b c p.1 b.draws (p.0 ∷ []) (gives_behind n i) f g in record { lines = w.lines; state = w.state; draws = w.draws ∙ f.draws }

-- ---- rounds

module _ (a : Making) (n edits : ℕ) where
  abbrev pub rounds_at : Making → ℕ → List SessionLine
  rounds_at b done = rounds_from after_all length_at n (edits - done) (1 + done) b.draws (work_state b)

  abbrev pub all_rounds : List SessionLine
  all_rounds = rounds_from after_all length_at n edits 1 a.draws (work_state a)

  abbrev pub AtRound : Making → ℕ → Type 0
  AtRound b done = Leaves a b all_rounds (rounds_at b done)

  pub round_first : AtRound a 0
  round_first =
      let whole : edits ≡ edits - 0 = omega arith in
      subst (λ (z : List SessionLine). Leaves a a all_rounds z) (ap (λ z. rounds_from after_all length_at n z 1 a.draws (work_state a)) whole) (leaves_all a all_rounds)

  pub round_more : (b c : Making) (done : ℕ) → done < edits → AtRound b done
      → WorksRound b c n (1 + done) → AtRound c (done + 1)
  unfolding WorksRound
  round_more b c done lt f w =
      let p : SessionLine × ℕ = turn_at after_all length_at n (1 + done) b.draws (work_state b) in
      let lines : List SessionLine = round_of n (1 + done) p.0 in
      let k : ℕ = edits - (done + 1) in
      let one_less : edits - done ≡ suc k = omega arith in
      let split : rounds_at b done ≡ lines ++ rounds_from after_all length_at n k ((1 + done) + 1) p.1 (after_all lines (work_state b)) =
      ap (λ z. rounds_from after_all length_at n z (1 + done) b.draws (work_state b)) one_less in
      let number : (1 + done) + 1 ≡ 1 + (done + 1) = omega arith in
      let rest : rounds_from after_all length_at n k ((1 + done) + 1) p.1 (after_all lines (work_state b)) ≡ rounds_at c (done + 1) =
      ap (λ z. rounds_from after_all length_at n k z p.1 (after_all lines (work_state b))) number
      ∙ ap₂ (λ x s. rounds_from after_all length_at n k (1 + (done + 1)) x s) (sym w.draws) (sym w.state) in
      leaves_more a b c p.1 all_rounds lines (rounds_at c (done + 1)) (subst (λ (z : List SessionLine). Leaves a b all_rounds z) (split ∙ ap (λ z. lines ++ z) rest) f) w

  pub rounds_done : (b : Making) (done : ℕ) → edits ≤ done → AtRound b done → Leaves a b all_rounds []
  rounds_done b done le f =
      let none : edits - done ≡ zero = omega arith in
      subst (λ (z : List SessionLine). Leaves a b all_rounds z) (ap (λ z. rounds_from after_all length_at n z (1 + done) b.draws (work_state b)) none) f

-- ---- the summary

pub more_counts : (bs : List BufferState) (i : ℕ) (d : BufferState) (out new all : List ℕ) → i < length bs → out ++ count_lines (drop i bs) ≡ all → new ≡ out ++ line_text (counts_report (get_or bs i d))
    → new ++ count_lines (drop (i + 1) bs) ≡ all
more_counts bs i d out new all lt e n =
    ap (λ t. t ++ count_lines (drop (i + 1) bs)) n ∙ append_assoc out (line_text (counts_report (get_or bs i d))) (count_lines (drop (i + 1) bs))
    ∙ ap (λ cs. out ++ count_lines cs) (sym (drop_more bs i d lt)) ∙ e

pub counts_done : (bs : List BufferState) (i : ℕ) (out all : List ℕ) → length bs ≤ i → out ++ count_lines (drop i bs) ≡ all → out ≡ all
counts_done bs i out all le e = sym (append-nil out) ∙ ap (λ cs. out ++ count_lines cs) (sym (drop_all i bs le)) ∙ e

module _ (m a b : Making) (seed n edits : ℕ) (ids ns : List ℕ) where
  abbrev rounds : List SessionLine
  rounds = rounds_from after_all length_at n edits 1 m.draws (work_state m)

  pub summed : work_state m ≡ made_opening n → m.draws ≡ seed → m.lines.items ≡ [] → a.lines.items ≡ m.lines.items ++ rounds → work_state a ≡ after_all rounds (work_state m) → Works a b a.draws (flat_map (gives_to ns) ids)
      → ids ≡ ids_to n → ns ≡ range_with_len 1 edits → summary_with (length b.lines.items) (work_state b) ≡ summary_of (made_session seed n edits)
  unfolding summary_of
  summed start draws none lines state w is numbers =
      let all : List SessionLine = made_lines after_all length_at seed n edits (made_opening n) in
      let rounds_are : rounds ≡ rounds_from after_all length_at n edits 1 seed (made_opening n) = ap₂ (λ x s. rounds_from after_all length_at n edits 1 x s) draws start in
      let gives_are : flat_map (gives_to ns) ids ≡ gives_of n (range_with_len 1 edits) = ap₂ (λ xs ys. flat_map (gives_to xs) ys) numbers is in
      let together : rounds ++ flat_map (gives_to ns) ids ≡ all = ap₂ (λ xs ys. xs ++ ys) rounds_are gives_are in
      let lines_are : b.lines.items ≡ all = w.lines ∙ ap (λ z. z ++ flat_map (gives_to ns) ids) (lines ∙ ap (λ z. z ++ rounds) none) ∙ together in
      let state_is : work_state b ≡ after_all all (made_opening n) =
      w.state ∙ ap (after_all (flat_map (gives_to ns) ids)) state ∙ sym (after_all-append rounds (flat_map (gives_to ns) ids) (work_state m)) ∙ ap₂ after_all together start in
      ap₂ (λ ls s. summary_with (length ls) s) lines_are state_is

-- the summary of a session that is made; its text decodes to it
pub makes : (seed n edits : ℕ) (output : List ℕ) → 1 ≤ n → n ≤ 16 → edits ≤ 20000 → output ≡ summary_of (made_session seed n edits) → Makes seed n edits output
makes seed n edits output some few at_most is = (is, made_sessions_decode State after_all length_at (made_opening n) seed n edits some few at_most)

-- ---- ids

pub number_more : (n : ℕ) (xs ys : List ℕ) → xs ≡ range_with_len 1 n → ys ≡ xs ++ (n + 1) ∷ [] → ys ≡ range_with_len 1 (n + 1)
number_more n xs ys e f =
    let swap : n + 1 ≡ 1 + n = omega arith in
    let one : suc n ≡ n + 1 = omega arith in
    f ∙ ap₂ (λ z x. z ++ x ∷ []) e swap ∙ sym (range_more 1 n) ∙ ap (range_with_len 1) one
