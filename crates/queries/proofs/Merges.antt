-- The answers of all workers, one after another from their lists in turn.
use Rattle.std.proofs.Common.{◌≡◌, ◌≢◌, ℕ, ◌+◌, ◌-◌, ◌%◌, ◌<◌, ◌≤◌, ◌==◌, Bool, true, cond, List, [], ◌∷◌, ◌++◌, length, set, get_or, take, drop, refl, sym, ap, ◌∙◌, subst, arith, append_assoc, ⊎_elim}
use Rattle.std.specs.List.{AllPairs, AllZip, filter}
use Rattle.std.proofs.lemmas.List.{append-nil, get_or-map, drop_more, drop_all, take_more, take_all}
use Rattle.std.proofs.lemmas.List.FromFn.{get_or-range_with_len}
use Rattle.std.proofs.lemmas.Nat.{mod_below}
use Rattle.std.proofs.lemmas.Bool.{cases_lt, eq-eqb, ne_eqb}
use Rattle.std.proofs.lemmas.Slice.Zip.{all_zipped_more}
use Rattle.op_model.specs.declared.operation.Operation.{Operation}
use Rattle.op_model.proofs.Elements.{none_paired, none_go}
use Rattle.queries.specs.Asks.{Ask, asks_to, worker_of}
use Rattle.queries.specs.Answers.{NeverFewer}
use Rattle.queries.specs.declared.query.Answer.{Answer}
use Rattle.queries.specs.Dealt.{AllAt, AreNumbered}
use Rattle.queries.specs.Final.{AreGathered, IsFinal}
use Rattle.queries.proofs.Places.{each_set}
use Rattle.queries.proofs.Turns.{filter_in, filter_out, pairs_dealt}

pub head_of : {X : Type 0} (xs : List X) → 0 < length xs → X
head_of [] h = absurd (omega (arith, h))
head_of (x ∷ xs) h = x

module _ {Q A : Type 0} (plain : Q → List Operation → A) (lasts : List (List Operation)) (workers : ℕ) (asks : List (Ask Q)) where
  abbrev its : ℕ → Answer Q A → Bool
  its w a = worker_of workers a.number == w

  -- after q answers: those of the first q asks are in order, and each worker's list has the others; all is what the lists were
  module _ {X : Type 0} (f : X → List (Answer Q A)) (all : List X) where
    pub record IsTurn (q : ℕ) (answers : List (Answer Q A)) (lists : List X) : Type 0 where
      pub done : AllZip (IsFinal plain lasts) answers (take q asks)
      pub rest : AllAt (λ w r. AllZip (IsFinal plain lasts) (f r) (asks_to workers w (drop q asks))) lists
      pub whole : AllAt (λ w r. (d : X) → filter (its w) answers ++ f r ≡ f (get_or all w d)) lists

    module _ (numbers : AreNumbered asks) where
      pub number_at : (q : ℕ) (d : Ask Q) → q < length asks → (get_or asks q d).number ≡ 1 + q
      number_at q d below =
          sym (get_or-map (λ (a : Ask Q). a.number) asks q d 0 below) ∙ (ap (λ (l : List ℕ). get_or l q 0) numbers ∙ get_or-range_with_len 1 (length asks) q 0 below)

      turn_at : (q : ℕ) (d : Ask Q) → q < length asks → worker_of workers (get_or asks q d).number ≡ q % workers
      turn_at q d below = ap (λ (n : ℕ). n % workers) (let n = number_at q d below in omega (arith, n))

      -- the asks that are left to the worker whose turn it is, and to another
      left_here : (q : ℕ) (d : Ask Q) → q < length asks → asks_to workers (q % workers) (drop q asks) ≡ get_or asks q d ∷ asks_to workers (q % workers) (drop (q + 1) asks)
      left_here q d below =
          ap (asks_to workers (q % workers)) (drop_more asks q d below)
          ∙ ap (λ (b : Bool). cond b (get_or asks q d ∷ asks_to workers (q % workers) (drop (q + 1) asks)) (asks_to workers (q % workers) (drop (q + 1) asks))) (ap (λ (m : ℕ). m == q % workers) (turn_at q d below) ∙ eq-eqb (q % workers) (q % workers) refl)

      left_there : (q w : ℕ) (d : Ask Q) → q < length asks → w ≢ q % workers → asks_to workers w (drop q asks) ≡ asks_to workers w (drop (q + 1) asks)
      left_there q w d below other =
          ap (asks_to workers w) (drop_more asks q d below)
          ∙ ap (λ (b : Bool). cond b (get_or asks q d ∷ asks_to workers w (drop (q + 1) asks)) (asks_to workers w (drop (q + 1) asks))) (ap (λ (m : ℕ). m == w) (turn_at q d below) ∙ ne_eqb (q % workers) w (λ e. other (sym e)))

      pub turn_more : (q : ℕ) (answers : List (Answer Q A)) (lists : List X) (old new : X) (a : Answer Q A) (d : Ask Q) → q < length asks → q % workers < length lists → IsTurn q answers lists
          → old ≡ get_or lists (q % workers) old → f old ≡ a ∷ f new → IsTurn (q + 1) (answers ++ a ∷ []) (set lists (q % workers) new)
      turn_more q answers lists old new a d below within h at is =
          let w = q % workers in
          let k = get_or asks q d in
          let mine : AllZip (IsFinal plain lasts) (f old) (asks_to workers w (drop q asks)) = subst (λ (x : X). AllZip (IsFinal plain lasts) (f x) (asks_to workers w (drop q asks))) (sym at) (h.rest w old within) in
          let two : AllZip (IsFinal plain lasts) (a ∷ f new) (k ∷ asks_to workers w (drop (q + 1) asks)) =
          subst (λ (l : List (Answer Q A)). AllZip (IsFinal plain lasts) l (k ∷ asks_to workers w (drop (q + 1) asks))) is (subst (AllZip (IsFinal plain lasts) (f old)) (left_here q d below) mine) in
          let number : a.number ≡ k.number = two.0.answer.number in
          let turn : worker_of workers a.number ≡ w = ap (worker_of workers) number ∙ turn_at q d below in
          let front : (e : X) → filter (its w) answers ++ f old ≡ f (get_or all w e) = subst (λ (x : X). (e : X) → filter (its w) answers ++ f x ≡ f (get_or all w e)) (sym at) (h.whole w old within) in
          let goes : its w a ≡ true = ap (λ (m : ℕ). m == w) turn ∙ eq-eqb w w refl in record {
            done = subst (AllZip (IsFinal plain lasts) (answers ++ a ∷ [])) (sym (take_more asks q d below)) (all_zipped_more (IsFinal plain lasts) answers (take q asks) a k h.done two.0);
            rest = each_set (λ i r. AllZip (IsFinal plain lasts) (f r) (asks_to workers i (drop q asks))) (λ i r. AllZip (IsFinal plain lasts) (f r) (asks_to workers i (drop (q + 1) asks))) lists w new within h.rest two.1
                (λ i x other p. subst (AllZip (IsFinal plain lasts) (f x)) (left_there q i d below other) p);
            whole = each_set (λ i r. (e : X) → filter (its i) answers ++ f r ≡ f (get_or all i e)) (λ i r. (e : X) → filter (its i) (answers ++ a ∷ []) ++ f r ≡ f (get_or all i e)) lists w new within h.whole
                (λ e. ap (λ (l : List (Answer Q A)). l ++ f new) (filter_in (its w) answers a goes) ∙ (append_assoc (filter (its w) answers) (a ∷ []) (f new) ∙ (ap (λ (l : List (Answer Q A)). filter (its w) answers ++ l) (sym is) ∙ front e)))
                (λ i x other p e. ap (λ (l : List (Answer Q A)). l ++ f x) (filter_out (its i) answers a (ne_eqb (worker_of workers a.number) i (λ z. other (sym z ∙ turn)))) ∙ p e);
          }

      -- the same at a place that is the worker whose turn it is
      pub turn_at_place : (q k : ℕ) (answers : List (Answer Q A)) (lists : List X) (old new : X) (a : Answer Q A) → k ≡ q % workers → q < length asks → k < length lists → IsTurn q answers lists
          → old ≡ get_or lists k old → f old ≡ a ∷ f new → IsTurn (q + 1) (answers ++ a ∷ []) (set lists k new)
      turn_at_place q k answers lists old new a k_is below within h at is =
          subst (λ (w : ℕ). IsTurn (q + 1) (answers ++ a ∷ []) (set lists w new)) (sym k_is)
          (turn_more q answers lists old new a (head_of asks (omega (arith, below))) below (omega (arith, within, k_is)) h (subst (λ (w : ℕ). old ≡ get_or lists w old) k_is at) is)

      -- as many as are left to each worker
      abbrev pub AreLeft : (X → ℕ) → ℕ → List X → Type 0
      AreLeft size q lists = AllAt (λ w r. size r ≡ length (asks_to workers w (drop q asks))) lists

      pub left_more : (size : X → ℕ) (q k : ℕ) (lists : List X) (old new : X) → k ≡ q % workers → q < length asks → k < length lists → AreLeft size q lists → old ≡ get_or lists k old → size old ≡ size new + 1 → AreLeft size (q + 1) (set lists k new)
      left_more size q k lists old new k_is below within h at is =
          let d = head_of asks (omega (arith, below)) in
          let mine : size old ≡ length (asks_to workers k (drop q asks)) = ap size at ∙ h k old within in
          let one : asks_to workers k (drop q asks) ≡ get_or asks q d ∷ asks_to workers k (drop (q + 1) asks) =
          subst (λ (w : ℕ). asks_to workers w (drop q asks) ≡ get_or asks q d ∷ asks_to workers w (drop (q + 1) asks)) (sym k_is) (left_here q d below) in
          let fewer : size new ≡ length (asks_to workers k (drop (q + 1) asks)) = omega (arith, mine, is, ap (λ (l : List (Ask Q)). length l) one) in
          each_set (λ w r. size r ≡ length (asks_to workers w (drop q asks))) (λ w r. size r ≡ length (asks_to workers w (drop (q + 1) asks))) lists k new within h fewer
          (λ w r other p. p ∙ ap (λ (l : List (Ask Q)). length l) (left_there q w d below (λ e. other (e ∙ sym k_is))))

      pub some_left : (size : X → ℕ) (q k : ℕ) (lists : List X) (old : X) → k ≡ q % workers → q < length asks → k < length lists → AreLeft size q lists → old ≡ get_or lists k old → 0 < size old
      some_left size q k lists old k_is below within h at =
          let d = head_of asks (omega (arith, below)) in
          let mine : size old ≡ length (asks_to workers k (drop q asks)) = ap size at ∙ h k old within in
          let one : asks_to workers k (drop q asks) ≡ get_or asks q d ∷ asks_to workers k (drop (q + 1) asks) =
          subst (λ (w : ℕ). asks_to workers w (drop q asks) ≡ get_or asks q d ∷ asks_to workers w (drop (q + 1) asks)) (sym k_is) (left_here q d below) in
          omega (arith, mine, ap (λ (l : List (Ask Q)). length l) one)

      -- once all are in order, each worker's are what its list was
      module _ (q : ℕ) (answers : List (Answer Q A)) (lists : List X) (d : X) (finished : length asks ≤ q) (many : length lists ≡ workers) (h : IsTurn q answers lists) where
        nothing_left : (w : ℕ) → w < workers → f (get_or lists w d) ≡ []
        nothing_left w within = none_paired (IsFinal plain lasts) (f (get_or lists w d)) (asks_to workers w (drop q asks)) (h.rest w d (omega (arith, within, many))) (ap (asks_to workers w) (drop_all q asks finished))

        pub whole_list : (w : ℕ) → w < workers → filter (its w) answers ≡ f (get_or all w d)
        whole_list w within =
            sym (append-nil (filter (its w) answers)) ∙ (ap (λ (l : List (Answer Q A)). filter (its w) answers ++ l) (sym (nothing_left w within)) ∙ h.whole w d (omega (arith, within, many)) d)

        of_worker : 0 < workers → AllAt (λ w r. AllPairs NeverFewer (f r)) all → length all ≡ workers → (w : ℕ) → AllPairs NeverFewer (filter (its w) answers)
        of_worker some never count w = ⊎_elim
            (λ (within : w < workers). subst (AllPairs NeverFewer) (sym (whole_list w within)) (never w d (omega (arith, within, count))))
            (λ (far : workers ≤ w). subst (AllPairs NeverFewer) (sym (none_go (λ (a : Answer Q A). worker_of workers a.number) answers w (λ a. omega (arith, far, mod_below (a.number - 1) workers some)))) (λ i j e lt below. absurd (omega arith)))
            (cases_lt w workers)

        pub turns_end : 0 < workers → AllAt (λ w r. AllPairs NeverFewer (f r)) all → length all ≡ workers → AreGathered plain workers lasts asks answers
        turns_end some never count = record {
          each = subst (AllZip (IsFinal plain lasts) answers) (take_all q asks finished) h.done;
          never_falls = pairs_dealt (λ (a : Answer Q A). worker_of workers a.number) NeverFewer answers (of_worker some never count);
        }
