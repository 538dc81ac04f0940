-- One query more is put into the inbox whose turn it is.
use Rattle.std.proofs.Common.{◌≡◌, ◌≢◌, ℕ, suc, ◌+◌, ◌%◌, ◌<◌, ◌≤◌, ◌==◌, Bool, true, false, List, [], ◌∷◌, ◌++◌, length, map, set, get_or, refl, sym, ap, ◌∙◌, subst, arith, length-append, get_or-set_same}
use Rattle.std.specs.List.{range_with_len}
use Rattle.std.proofs.lemmas.List.{map-append, get_or-map, get_or-set_other, get_or_default, length-map, length-set}
use Rattle.std.proofs.lemmas.List.FromFn.{get_or-map-range_with_len, length-map-range_with_len}
use Rattle.std.proofs.lemmas.Nat.{mod_below}
use Rattle.std.proofs.lemmas.Bool.{eq-eqb, eqb-true, ne_eqb}
use Rattle.atomic_table.specs.Seated.{TableId}
use Rattle.logbook.specs.Pages.{Named}
use Rattle.op_model.specs.declared.operation.Operation.{Operation}
use Rattle.op_model.proofs.Elements.{range_more}
use Rattle.snapshot_pub.specs.States.{PublisherState, ReaderState}
use Rattle.queries.specs.Queue.{jobs_of, pairs_of, IsOpen}
use Rattle.queries.specs.States.{DeskState, InboxState, DispatcherState, PublishersState}
use Rattle.queries.specs.Asks.{Ask, HasPut, ask_of, asks_of, asks_to, put_into, worker_of}
use Rattle.queries.specs.Asked.{IsOfPair}
use Rattle.queries.specs.declared.job.Entry.{Entry}
use Rattle.queries.specs.declared.job.Entry.TheVariants as entry
use Rattle.queries.proofs.Jobs.{asks_more, asks_ended, open_more, ended_more}
use Rattle.queries.specs.Published.{AreLevel, AreTied, column, no_pair, published_lists, rows_of}
use Rattle.queries.specs.Dealt.{AllAt, AreEnds, AreNumbered, HasAsked, IsClosed, IsDealt}
use Rattle.queries.proofs.Levels.{level_published, level_publishes}
use Rattle.queries.proofs.Places.{each_set}
use Rattle.queries.proofs.Turns.{few_go, filter_in, filter_out}

module _ {Q : Type 0} where
  -- an open inbox has as many entries as asks
  sent_length : (es : List (Entry Q)) → IsOpen es → length es ≡ length (asks_of es)
  sent_length es o = ap (λ (l : List (Entry Q)). length l) o ∙ (length-map (jobs_of es) entry.Job ∙ sym (length-map (jobs_of es) ask_of))

  -- there is room in an inbox that has its part
  pub dealt_room : (d : DispatcherState Q) (asks : List (Ask Q)) (w : ℕ) (i : InboxState Q) → HasAsked d asks → w < length d.inboxes → IsDealt (length d.inboxes) d.limit asks w i → length i.sent < i.room
  dealt_room d asks w i h within dealt =
      let few = few_go (λ (a : Ask Q). a.number) asks (length d.inboxes) w d.limit within h.numbers (omega (arith, h.count, h.most)) in
      omega (arith, few, sent_length i.sent dealt.open_, ap (λ (l : List (Ask Q)). length l) dealt.has, dealt.room)

  pub has_room : (d : DispatcherState Q) (asks : List (Ask Q)) (w : ℕ) (i : InboxState Q) → HasAsked d asks → w < length d.inboxes → i ≡ get_or d.inboxes w i → length i.sent < i.room
  has_room d asks w i h within at = dealt_room d asks w i h within (subst (IsDealt (length d.inboxes) d.limit asks w) (sym at) (h.each w i within))

  -- the numbers go on
  pub numbered_more : (asks : List (Ask Q)) (ask : Ask Q) → AreNumbered asks → ask.number ≡ length asks + 1 → AreNumbered (asks ++ ask ∷ [])
  numbered_more asks ask h is =
      let one : length (asks ++ ask ∷ []) ≡ suc (length asks) = omega (arith, length-append asks (ask ∷ [])) in
      map-append (λ (a : Ask Q). a.number) asks (ask ∷ [])
      ∙ (ap (λ (l : List ℕ). l ++ ask.number ∷ []) h ∙ (ap (λ (n : ℕ). range_with_len 1 (length asks) ++ n ∷ []) (omega (arith, is)) ∙ (sym (range_more 1 (length asks)) ∙ ap (λ (n : ℕ). range_with_len 1 n) (sym one))))

  -- the inbox of its worker has the ask more, and any other inbox what it had
  module _ (workers limit : ℕ) (asks : List (Ask Q)) (ask : Ask Q) (turn : ℕ) (is : worker_of workers ask.number ≡ turn) where
    pub dealt_here : (old new : InboxState Q) → IsDealt workers limit asks turn old → HasPut old new ask → IsDealt workers limit (asks ++ ask ∷ []) turn new
    dealt_here old new h put =
        let goes : (worker_of workers ask.number == turn) ≡ true = ap (λ (m : ℕ). m == turn) is ∙ eq-eqb turn turn refl in
        let next : InboxState Q = put_into old (entry.Job put.0) in
        subst (IsDealt workers limit (asks ++ ask ∷ []) turn) (sym put.2) (record {
          open_ = open_more old.sent next.sent put.0 refl h.open_;
          has = asks_more old.sent next.sent put.0 refl
              ∙ (ap (λ (l : List (Ask Q)). l ++ ask_of put.0 ∷ []) h.has ∙ (ap (λ (a : Ask Q). asks_to workers turn asks ++ a ∷ []) put.1 ∙ sym (filter_in (λ (a : Ask Q). worker_of workers a.number == turn) asks ask goes)));
          room = h.room;
        })

    pub dealt_there : (w : ℕ) (i : InboxState Q) → w ≢ turn → IsDealt workers limit asks w i → IsDealt workers limit (asks ++ ask ∷ []) w i
    dealt_there w i other h =
        let stays : (worker_of workers ask.number == w) ≡ false = ne_eqb (worker_of workers ask.number) w (λ e. other (sym e ∙ is)) in
        record { open_ = h.open_; has = h.has ∙ sym (filter_out (λ (a : Ask Q). worker_of workers a.number == w) asks ask stays); room = h.room }

  module _ (d : DispatcherState Q) (asks : List (Ask Q)) (ask : Ask Q) (old new : InboxState Q) (turn : ℕ) where
    abbrev pub asked_next : DispatcherState Q
    asked_next = record { inboxes = set d.inboxes turn new; count = d.count + 1; limit = d.limit }

    module _ (h : HasAsked d asks) (turn_is : turn ≡ d.count % length d.inboxes) (at : old ≡ get_or d.inboxes turn old) (number : ask.number ≡ d.count + 1) (put : HasPut old new ask) (more : d.count < d.limit) where
      below : turn < length d.inboxes
      below = omega (arith, mod_below d.count (length d.inboxes) h.some, turn_is)

      same : length (set d.inboxes turn new) ≡ length d.inboxes
      same = length-set d.inboxes turn new

      its_turn : worker_of (length d.inboxes) ask.number ≡ turn
      its_turn = ap (λ (n : ℕ). n % length d.inboxes) (omega (arith, number)) ∙ sym turn_is

      at_place : (w : ℕ) (e : InboxState Q) → w < length d.inboxes → (b : Bool) → (w == turn) ≡ b → IsDealt (length d.inboxes) d.limit (asks ++ ask ∷ []) w (get_or (set d.inboxes turn new) w e)
      at_place w e within true is =
          let here : w ≡ turn = eqb-true w turn is in
          subst (λ (k : ℕ). IsDealt (length d.inboxes) d.limit (asks ++ ask ∷ []) k (get_or (set d.inboxes turn new) k e)) (sym here)
          (subst (IsDealt (length d.inboxes) d.limit (asks ++ ask ∷ []) turn) (sym (get_or-set_same d.inboxes turn new e below))
          (dealt_here (length d.inboxes) d.limit asks ask turn its_turn old new (subst (IsDealt (length d.inboxes) d.limit asks turn) (sym at) (h.each turn old below)) put))
      at_place w e within false is =
          let other : w ≢ turn = λ f. absurd (cc (is, ap (λ (k : ℕ). k == turn) f ∙ eq-eqb turn turn refl)) in
          subst (IsDealt (length d.inboxes) d.limit (asks ++ ask ∷ []) w) (sym (get_or-set_other d.inboxes turn w new e other))
          (dealt_there (length d.inboxes) d.limit asks ask turn its_turn w (get_or d.inboxes w e) other (h.each w e within))

      pub asked_more : HasAsked asked_next (asks ++ ask ∷ [])
      asked_more = record {
        some = omega (arith, h.some, same);
        count = omega (arith, h.count, length-append asks (ask ∷ []));
        most = omega (arith, more);
        numbers = numbered_more asks ask h.numbers (omega (arith, number, h.count));
        each = λ w e within. subst (λ (n : ℕ). IsDealt n d.limit (asks ++ ask ∷ []) w (get_or (set d.inboxes turn new) w e)) (sym same) (at_place w e (omega (arith, within, same)) (w == turn) refl);
      }

  -- ---- the pairs of an inbox

  -- as many inboxes as workers
  pub tied_length : (is : List (InboxState Q)) (s : PublishersState) → AreTied is s → length is ≡ s.workers
  tied_length is s t = sym (length-map is (λ (i : InboxState Q). pairs_of i.readers)) ∙ (ap (λ (l : List (List Named)). length l) t ∙ length-map-range_with_len (λ w. column w (rows_of s)) 0 s.workers)

  tied_at : (is : List (InboxState Q)) (s : PublishersState) (w : ℕ) (i : InboxState Q) → AreTied is s → w < length is → i ≡ get_or is w i → pairs_of i.readers ≡ column w (rows_of s)
  tied_at is s w i t within at =
      ap (λ (x : InboxState Q). pairs_of x.readers) at ∙ (sym (get_or-map (λ (x : InboxState Q). pairs_of x.readers) is w i [] within)
      ∙ (ap (λ (l : List (List Named)). get_or l w []) t ∙ get_or-map-range_with_len (λ k. column k (rows_of s)) 0 s.workers w w [] (omega (arith, within, tied_length is s t)) (omega arith)))

  pub of_pair : (is : List (InboxState Q)) (s : PublishersState) (w r : ℕ) (i : InboxState Q) (p : PublisherState) → AreTied is s → AreLevel s → w < length is → r < length s.list → i ≡ get_or is w i → p ≡ get_or s.list r p → IsOfPair i r w p
  of_pair is s w r i p t a within there at is_p =
      let pairs : pairs_of i.readers ≡ column w (rows_of s) = tied_at is s w i t within at in
      let rows : length (rows_of s) ≡ length s.list = length-map s.list (λ (q : PublisherState). q.pairs) in
      let here : r < length (rows_of s) = omega (arith, there, rows) in
      let many : length p.pairs ≡ s.workers = ap (λ (q : PublisherState). length q.pairs) is_p ∙ (a.each r p there).1 in
      let row : get_or (rows_of s) r p.pairs ≡ p.pairs = get_or-map (λ (q : PublisherState). q.pairs) s.list r p p.pairs there ∙ ap (λ (q : PublisherState). q.pairs) (sym is_p) in (
        omega (arith, here, sym (length-map i.readers (λ (x : ReaderState). x.pair)), ap (λ (l : List Named). length l) pairs, length-map (rows_of s) (λ (x : List Named). get_or x w no_pair)),
        λ e. get_or_default p.pairs w e no_pair (omega (arith, within, tied_length is s t, many))
            ∙ (ap (λ (l : List Named). get_or l w no_pair) (sym row) ∙ (sym (get_or-map (λ (x : List Named). get_or x w no_pair) (rows_of s) r p.pairs e here) ∙ ap (λ (l : List Named). get_or l r e) (sym pairs))),
      )

  -- ---- what an inbox is asked

  -- what is known of the inbox whose turn it is, and of the replica's publisher
  pub record IsNext (d : DispatcherState Q) (asks : List (Ask Q)) (s : PublishersState) (r turn : ℕ) (i : InboxState Q) (p : PublisherState) : Type 0 where
    pub asked : HasAsked d asks
    pub turn_is : turn ≡ d.count % length d.inboxes
    pub at : i ≡ get_or d.inboxes turn i
    pub pair : IsOfPair i r turn p
    pub room : length i.sent < i.room
    pub worker : turn < length p.published
    pub history : get_or p.published turn [] ≡ get_or (published_lists s) r []

  pub is_next : (d e : DispatcherState Q) (s t : PublishersState) (asks : List (Ask Q)) (r workers : ℕ) (i : InboxState Q) (p : PublisherState) → d ≡ e → s ≡ t → length d.inboxes ≡ workers → HasAsked e asks → AreTied e.inboxes t → AreLevel t → r < length t.list
      → i ≡ get_or d.inboxes (d.count % workers) i → p ≡ get_or s.list r p → IsNext d asks t r (d.count % workers) i p
  is_next d e s t asks r workers i p same alike many asked tied level there at is_p =
      let mine : HasAsked d asks = subst (λ (x : DispatcherState Q). HasAsked x asks) (sym same) asked in
      let bound : AreTied d.inboxes t = subst (λ (x : DispatcherState Q). AreTied x.inboxes t) (sym same) tied in
      let turn = d.count % workers in
      let turn_is : turn ≡ d.count % length d.inboxes = ap (λ (n : ℕ). d.count % n) (sym many) in
      let below : turn < length d.inboxes = omega (arith, mod_below d.count (length d.inboxes) mine.some, turn_is) in
      let p_is : p ≡ get_or t.list r p = is_p ∙ ap (λ (x : PublishersState). get_or x.list r p) alike in
      let publishes = level_publishes t r p level there p_is in
      let worker : turn < length p.published = omega (arith, below, tied_length d.inboxes t bound, publishes.0) in record {
        asked = mine;
        turn_is = turn_is;
        at = at;
        pair = of_pair d.inboxes t turn r i p bound level below there at p_is;
        room = has_room d asks turn i mine below at;
        worker = worker;
        history = publishes.1 turn [] worker ∙ sym (level_published t r p there p_is);
      }

  pub put_more : (d e : DispatcherState Q) (asks : List (Ask Q)) (s : PublishersState) (r turn : ℕ) (i new : InboxState Q) (p : PublisherState) (query : Q) → d ≡ e → IsNext d asks s r turn i p → e.count < e.limit
      → HasPut i new (record { number = d.count + 1; index = r; query = query; history = get_or p.published turn [] })
      → HasAsked (record { inboxes = set d.inboxes turn new; count = d.count + 1; limit = d.limit }) (asks ++ record { number = e.count + 1; index = r; query = query; history = get_or (published_lists s) r [] } ∷ [])
  put_more d e asks s r turn i new p query same f more put =
      let with_history : HasPut i new (record { number = d.count + 1; index = r; query = query; history = get_or (published_lists s) r [] }) =
      subst (λ (h : List Operation). HasPut i new (record { number = d.count + 1; index = r; query = query; history = h })) f.history put in
      let below : d.count < d.limit = omega (arith, more, ap (λ (x : DispatcherState Q). x.count) same, ap (λ (x : DispatcherState Q). x.limit) same) in
      subst (λ (n : ℕ). HasAsked (record { inboxes = set d.inboxes turn new; count = d.count + 1; limit = d.limit }) (asks ++ record { number = n; index = r; query = query; history = get_or (published_lists s) r [] } ∷ []))
      (ap (λ (x : DispatcherState Q). x.count + 1) same)
      (asked_more d asks (record { number = d.count + 1; index = r; query = query; history = get_or (published_lists s) r [] }) i new turn f.asked f.turn_is f.at refl with_history below)

  -- ---- the end marks

  -- the inboxes before place k are closed, and the others as they were dealt
  abbrev pub IsEnding : ℕ → ℕ → ℕ → List (Ask Q) → ℕ → InboxState Q → Type 0
  IsEnding workers limit k asks w i = (w < k → IsClosed workers asks w i) × (k ≤ w → IsDealt workers limit asks w i)

  pub closed_by_end : (workers limit : ℕ) (asks : List (Ask Q)) (w : ℕ) (i : InboxState Q) → IsDealt workers limit asks w i → IsClosed workers asks w (put_into i entry.End)
  closed_by_end workers limit asks w i h = record {
    ended = ended_more i.sent (put_into i entry.End).sent refl h.open_;
    has = asks_ended i.sent (put_into i entry.End).sent refl ∙ h.has;
  }

  pub ending_more : (workers limit k : ℕ) (asks : List (Ask Q)) (is : List (InboxState Q)) (old : InboxState Q) → k < length is → AllAt (IsEnding workers limit k asks) is → old ≡ get_or is k old
      → AllAt (IsEnding workers limit (k + 1) asks) (set is k (put_into old entry.End))
  ending_more workers limit k asks is old within h at =
      let dealt : IsDealt workers limit asks k old = subst (IsDealt workers limit asks k) (sym at) ((h k old within).1 (omega arith)) in
      each_set (IsEnding workers limit k asks) (IsEnding workers limit (k + 1) asks) is k (put_into old entry.End) within h
      (λ _. closed_by_end workers limit asks k old dealt, λ le. absurd (omega (arith, le)))
      (λ w i other was. (λ lt. was.0 (omega (arith, lt, other)), λ le. was.1 (omega (arith, le))))

  pub ending_ends : (workers limit k : ℕ) (asks : List (Ask Q)) (is : List (InboxState Q)) → length is ≤ k → AllAt (IsEnding workers limit k asks) is → AllAt (IsClosed workers asks) is
  ending_ends workers limit k asks is far h w i within = (h w i within).0 (omega (arith, far, within))

  -- ---- fresh inboxes

  -- nothing was sent, and there is so much room
  abbrev pub IsFresh : ℕ → InboxState Q → Type 0
  IsFresh room i = (i.sent ≡ []) × (i.room ≡ room)

  pub ends_more : (is : List (InboxState Q)) (ds : List DeskState) (i : InboxState Q) (d : DeskState) → AreEnds is ds → i.queue ≡ d.queue → pairs_of i.readers ≡ pairs_of d.readers → AreEnds (is ++ i ∷ []) (ds ++ d ∷ [])
  ends_more is ds i d h queue pairs = record {
    queues = map-append (λ (x : InboxState Q). x.queue) is (i ∷ []) ∙ (ap (λ (l : List TableId). l ++ i.queue ∷ []) h.queues ∙ (ap (λ (q : TableId). map (λ (x : DeskState). x.queue) ds ++ q ∷ []) queue ∙ sym (map-append (λ (x : DeskState). x.queue) ds (d ∷ []))));
    pairs = map-append (λ (x : InboxState Q). pairs_of x.readers) is (i ∷ []) ∙ (ap (λ (l : List (List Named)). l ++ pairs_of i.readers ∷ []) h.pairs
        ∙ (ap (λ (b : List Named). map (λ (x : DeskState). pairs_of x.readers) ds ++ b ∷ []) pairs ∙ sym (map-append (λ (x : DeskState). pairs_of x.readers) ds (d ∷ []))));
  }
