-- The answers of workers, gathered in the order of the queries, are replies that so many workers may give.
use Rattle.std.proofs.Common.{◌≡◌, ℕ, suc, ◌+◌, ◌<◌, ◌≤◌, ◌==◌, Bool, true, false, cond, not, List, [], ◌∷◌, ◌++◌, length, map, slice_index_or, take, Some, refl, sym, ap, ap₂, append_assoc, ◌∙◌, subst, arith}
use Rattle.std.specs.List.{All, AllPairs, AllZip}
use Rattle.std.proofs.lemmas.List.Elements.{All-cons, All-head, All-nil, All-tail}
use Rattle.std.proofs.lemmas.List.Kept.{AllPairs-cons}
use Rattle.sum_tree.proofs.Keys.{AllPairs-cross, AllPairs-right}
use Rattle.op_model.specs.declared.operation.Operation.{Operation}
use Rattle.text_buffer.specs.Buffer.{BufferState}
use Rattle.text_buffer.specs.Document.{IsFront}
use Rattle.text_buffer.proofs.Fronts.{front_length}
use Rattle.session_lines.specs.declared.report.QueryAnswer.{QueryAnswer}
use Rattle.session_lines.specs.declared.report.Report.{Report}
use Rattle.session_lines.specs.declared.report.Report.TheVariants as report
use Rattle.session_more.specs.declared.session.MoreSession.{MoreSession}
use Rattle.queries.specs.Asks.{worker_of}
use Rattle.queries.specs.declared.query.Answer.{Answer}
use Rattle.queries.specs.Final.{AreGathered, IsFinal, IsPast, NeverFalls}
use Rattle.session_work.specs.Work.{State, applied_count, buffer_of, histories}
use Rattle.session_replay.specs.Replies as replies
use Rattle.session_replay.specs.Replies.{AreReplies, IsWithin, Reply, history_at_end, history_or_empty, reply_line}
use Rattle.session_work.specs.MoreQueries.{more_queries_of, plain_end_of}
use Rattle.session_work.specs.Queries.{AskedQuery, plain_answer}
use Rattle.session_replay.specs.Beside.{ask_among, asks_among, line_of, index_among}
use Rattle.session_work.specs.declared.queries.Question.{Question}
use Rattle.session_work.specs.Later.{AllGrow}
use Rattle.session_replay.proofs.Asking.{same_place}
use Rattle.session_replay.proofs.Replies.{IsPlaced, front_count, front_taken, placed}

-- an answer of a worker
abbrev Made : Type 0
Made = Answer Question QueryAnswer

-- the line of one answer more
pub line_more : (ls more : List Report) (line : Report) (a : Made) (rest from all : List Made) → more ≡ ls ++ line ∷ [] → line ≡ line_of a → from ≡ a ∷ rest
    → ls ++ map line_of from ≡ map line_of all → more ++ map line_of rest ≡ map line_of all
line_more ls more line a rest from all grown is step was =
    ap (λ (rs : List Report). rs ++ map line_of rest) grown
    ∙ (append_assoc ls (line ∷ []) (map line_of rest) ∙ (ap (λ (r : Report). ls ++ r ∷ map line_of rest) is ∙ (ap (λ (as_ : List Made). ls ++ map line_of as_) (sym step) ∙ was)))

-- ---- what a replica is, by its place

-- a replica that has its base is there
pub stands : (r : ℕ) (bs : List BufferState) → 1 ≤ length (history_or_empty (buffer_of r bs))
    → (index_among bs r < length (histories bs)) × (slice_index_or (histories bs) (index_among bs r) [] ≡ history_or_empty (buffer_of r bs))
stands r [] l = absurd (omega arith)
stands r (b ∷ bs) l =
    elim (b.replica == r) as (λ (t : Bool). 1 ≤ length (history_or_empty (cond t (Some b) (buffer_of r bs)))
    → (cond (not t) (1 + index_among bs r) 0 < length (histories (b ∷ bs))) × (slice_index_or (histories (b ∷ bs)) (cond (not t) (1 + index_among bs r) 0) [] ≡ history_or_empty (cond t (Some b) (buffer_of r bs)))) [
      | true ↦ (λ l. (omega arith, refl))
      | false ↦ (λ l.
          let s = stands r bs l in
          let e : suc (index_among bs r) ≡ 1 + index_among bs r = omega arith in
          (omega (arith, s.0), subst (λ (k : ℕ). slice_index_or (histories (b ∷ bs)) k [] ≡ history_or_empty (buffer_of r bs)) e s.1))
    ] l

-- ---- one answer

-- the answer is to that query of a session that ends so
abbrev IsTo : List BufferState → State → Made → AskedQuery → Type 0
IsTo bs end a c = IsFinal plain_answer (histories end.buffers) a (ask_among bs c)

-- the reply that it is
abbrev reply_to : Made → AskedQuery → Reply
reply_to a c = record { query = c; count = applied_count a.snapshot }

module _ (bs : List BufferState) (end : State) (g : AllGrow bs end.buffers) where
  long : (c : AskedQuery) → IsPlaced end c → 1 ≤ length (history_or_empty (buffer_of c.replica end.buffers))
  long c f = omega (arith, f.1, front_length c.history (history_or_empty (buffer_of c.replica end.buffers)) f.0)

  -- its snapshot begins what the replica has applied at the end
  front_of : (a : Made) (c : AskedQuery) → IsTo bs end a c → IsPlaced end c → IsFront a.snapshot (history_at_end end (reply_to a c))
  front_of a c t f =
      let s = stands c.replica end.buffers (long c f) in
      subst (IsFront a.snapshot) (ap (λ (i : ℕ). slice_index_or (histories end.buffers) i []) (sym (same_place c.replica bs end.buffers g)) ∙ s.1) t.front

  within_one : (a : Made) (c : AskedQuery) → IsTo bs end a c → IsPlaced end c → IsWithin end (reply_to a c)
  within_one a c t f = (front_count c.history a.snapshot t.answer.told, front_count a.snapshot (history_at_end end (reply_to a c)) (front_of a c t f))

  line_one : (a : Made) (c : AskedQuery) → IsTo bs end a c → IsPlaced end c → line_of a ≡ reply_line end (reply_to a c)
  line_one a c t f =
      let final : List Operation = history_at_end end (reply_to a c) in
      let some : 1 ≤ length a.snapshot = omega (arith, f.1, front_length c.history a.snapshot t.answer.told) in
      let taken : take (applied_count a.snapshot + 1) final ≡ a.snapshot = front_taken a.snapshot final (front_of a c t f) some in
      ap₂ (λ (n : ℕ) (answer : QueryAnswer). report.Query n (applied_count a.snapshot) answer) t.answer.number
      (t.answer.answer ∙ (ap (λ (q : Question). plain_answer q a.snapshot) t.answer.query ∙ ap (λ (h : List Operation). plain_answer c.question h) (sym taken)))

  -- ---- all answers

  pub past : (cs : List AskedQuery) → All (IsPlaced end) cs → All (IsPast {Q = Question} (histories end.buffers)) (asks_among bs cs)
  past [] f = All-nil (IsPast {Q = Question} (histories end.buffers))
  past (c ∷ cs) f =
      let one = All-head (IsPlaced end) c cs f in
      let s = stands c.replica end.buffers (long c one) in
      let i : index_among end.buffers c.replica ≡ index_among bs c.replica = same_place c.replica bs end.buffers g in
      All-cons (IsPast {Q = Question} (histories end.buffers)) (ask_among bs c) (asks_among bs cs) (
        subst (λ (k : ℕ). k < length (histories end.buffers)) i s.0,
        subst (IsFront c.history) (sym (ap (λ (k : ℕ). slice_index_or (histories end.buffers) k []) (sym i) ∙ s.1)) one.0,
      )
      (past cs (All-tail (IsPlaced end) c cs f))

  abbrev AreTo : List Made → List AskedQuery → Type 0
  AreTo xs cs = AllZip (IsFinal plain_answer (histories end.buffers)) xs (asks_among bs cs)

  abbrev pub replies_to : List Made → List AskedQuery → List Reply
  replies_to [] cs = []
  replies_to (a ∷ xs) [] = []
  replies_to (a ∷ xs) (c ∷ cs) = reply_to a c ∷ replies_to xs cs

  their_queries : (xs : List Made) (cs : List AskedQuery) → AreTo xs cs → map (λ (p : Reply). p.query) (replies_to xs cs) ≡ cs
  their_queries [] [] t = refl
  their_queries [] (c ∷ cs) t = absurd t
  their_queries (a ∷ xs) [] t = refl
  their_queries (a ∷ xs) (c ∷ cs) t = ap (λ (ds : List AskedQuery). c ∷ ds) (their_queries xs cs t.1)

  all_within : (xs : List Made) (cs : List AskedQuery) → AreTo xs cs → All (IsPlaced end) cs → All (IsWithin end) (replies_to xs cs)
  all_within [] cs t f = All-nil (IsWithin end)
  all_within (a ∷ xs) [] t f = All-nil (IsWithin end)
  all_within (a ∷ xs) (c ∷ cs) t f =
      All-cons (IsWithin end) (reply_to a c) (replies_to xs cs) (within_one a c t.0 (All-head (IsPlaced end) c cs f)) (all_within xs cs t.1 (All-tail (IsPlaced end) c cs f))

  all_lines : (xs : List Made) (cs : List AskedQuery) → AreTo xs cs → All (IsPlaced end) cs → map line_of xs ≡ map (reply_line end) (replies_to xs cs)
  all_lines [] cs t f = refl
  all_lines (a ∷ xs) [] t f = absurd t
  all_lines (a ∷ xs) (c ∷ cs) t f = ap₂ (λ (l : Report) (ls : List Report). l ∷ ls) (line_one a c t.0 (All-head (IsPlaced end) c cs f)) (all_lines xs cs t.1 (All-tail (IsPlaced end) c cs f))

  module _ (workers : ℕ) where
    -- where the later answer is not on fewer operations, so is the later reply
    falls_one : (a b : Made) (c d : AskedQuery) → IsTo bs end a c → IsTo bs end b d → NeverFalls workers a b → replies.NeverFalls workers (reply_to a c) (reply_to b d)
    falls_one a b c d t u h same_replica same_worker =
        let turn : worker_of workers a.number ≡ worker_of workers b.number =
        ap (worker_of workers) t.answer.number ∙ (same_worker ∙ ap (worker_of workers) (sym u.answer.number)) in
        let place : a.index ≡ b.index = t.answer.index ∙ (ap (index_among bs) same_replica ∙ sym u.answer.index) in
        omega (arith, h turn place)

    first_falls : (a : Made) (c : AskedQuery) → IsTo bs end a c → (xs : List Made) (cs : List AskedQuery) → AreTo xs cs → All (NeverFalls workers a) xs
        → All (replies.NeverFalls workers (reply_to a c)) (replies_to xs cs)
    first_falls a c t [] cs u h = All-nil (replies.NeverFalls workers (reply_to a c))
    first_falls a c t (b ∷ xs) [] u h = All-nil (replies.NeverFalls workers (reply_to a c))
    first_falls a c t (b ∷ xs) (d ∷ cs) u h =
        All-cons (replies.NeverFalls workers (reply_to a c)) (reply_to b d) (replies_to xs cs) (falls_one a b c d t u.0 (All-head (NeverFalls workers a) b xs h))
        (first_falls a c t xs cs u.1 (All-tail (NeverFalls workers a) b xs h))

    never_falls : (xs : List Made) (cs : List AskedQuery) → AreTo xs cs → AllPairs (NeverFalls workers) xs → AllPairs (replies.NeverFalls workers) (replies_to xs cs)
    never_falls [] cs t h = λ i j d lt within. absurd (omega arith)
    never_falls (a ∷ xs) [] t h = λ i j d lt within. absurd (omega arith)
    never_falls (a ∷ xs) (c ∷ cs) t h =
        AllPairs-cons (replies.NeverFalls workers) (reply_to a c) (replies_to xs cs)
        (first_falls a c t.0 xs cs t.1 (AllPairs-cross (NeverFalls workers) (a ∷ []) xs 0 a h (omega arith)))
        (never_falls xs cs t.1 (AllPairs-right (NeverFalls workers) (a ∷ []) xs h))

-- ---- the replies of a session

module _ (s : MoreSession) (workers : ℕ) (some : 1 ≤ workers) (bs : List BufferState) (g : AllGrow bs (plain_end_of s).buffers) (xs : List Made)
    (t : AreGathered plain_answer workers (histories (plain_end_of s).buffers) (asks_among bs (more_queries_of s)) xs) where
  pub gathered : AreReplies s workers (replies_to bs (plain_end_of s) g xs (more_queries_of s))
  gathered = record {
    queries = their_queries bs (plain_end_of s) g xs (more_queries_of s) t.each;
    within = all_within bs (plain_end_of s) g xs (more_queries_of s) t.each (placed s);
    on_the_spot = λ z. absurd (omega (arith, z, some));
    never_falls = never_falls bs (plain_end_of s) g workers xs (more_queries_of s) t.each t.never_falls;
  }

  pub gathered_lines : map line_of xs ≡ map (reply_line (plain_end_of s)) (replies_to bs (plain_end_of s) g xs (more_queries_of s))
  gathered_lines = all_lines bs (plain_end_of s) g xs (more_queries_of s) t.each (placed s)
