-- The queries of a session that are answered on the spot: what they are answered on is the front of what is applied at
-- the end.
use Rattle.std.proofs.Common.{◌≡◌, Bool, true, false, cond, Ok, ℕ, ◌+◌, ◌≤◌, List, [], ◌∷◌, ◌++◌, length, map, take, Option, None, Some, refl, sym, ap, ◌∙◌, subst, arith}
use Rattle.std.specs.List.{All, AllPairs}
use Rattle.std.proofs.Math.Seq.{take-append_seam}
use Rattle.std.proofs.lemmas.List.Elements.{All-append, All-cons, All-head, All-map, All-nil, All-same, All-tail, All-weaker}
use Rattle.std.proofs.lemmas.List.Kept.{AllPairs-cons}
use Rattle.std.proofs.lemmas.List.Sums.{sum_by-cons}
use Rattle.sum_tree.proofs.Keys.{AllPairs-append, AllPairs-cross, AllPairs-right}
use Rattle.op_model.specs.declared.operation.Operation.{Operation}
use Rattle.op_model.specs.Shown.{text}
use Rattle.op_model.proofs.Elements.{AllPairs-nil}
use Rattle.text_buffer.specs.Buffer.{BaseText, BufferState}
use Rattle.text_buffer.specs.Document.{IsFront}
use Rattle.text_buffer.proofs.Fronts.{front_length, front_trans}
use Rattle.session_lines.specs.Session as old
use Rattle.session_lines.specs.declared.report.Report.{Report}
use Rattle.session_lines.specs.declared.session.SessionLine.{SessionLine}
use Rattle.session_lines.specs.declared.session.SessionLine.TheVariants as line
use Rattle.session_more.specs.Decoding.{headed}
use Rattle.session_more.specs.Lines.{is_query, query_count}
use Rattle.session_more.specs.Reports.{more_report_text}
use Rattle.session_more.specs.declared.session.MoreLine.{MoreLine}
use Rattle.session_more.specs.declared.session.MoreLine.TheVariants as more
use Rattle.session_more.specs.declared.session.MoreSession.{MoreSession}
use Rattle.session_work.specs.declared.queries.Question.{Question}
use Rattle.session_work.specs.Work.{State, applied_count, base_of, buffer_of, first_buffer}
use Rattle.session_replay.specs.Replies.{AreReplies, IsReport, IsWithin, NeverFalls, Reply, history_or_empty, reply_line}
use Rattle.session_work.specs.MoreQueries.{more_queries_from, more_queries_of, more_query_at, more_question_of, more_report_of, more_report_with, plain_end_of}
use Rattle.session_work.specs.MoreWork.{MoreState, after_all_more, more_opening, more_step}
use Rattle.session_work.specs.Queries.{AskedQuery, answer_line, plain_line, query_at, query_of, query_with}
use Rattle.session_replay.specs.Laws.{PlainWithWorkers, PlainWithoutQueries, PlainWithoutWorkers}
use Rattle.session_work.specs.Later.{AllGrow}
use Rattle.session_work.proofs.Growth.{AreBased, based_grow, based_one, later, lines_grow, more_step_grows}

-- ---- fronts

pub front_count : (h g : List Operation) → IsFront h g → applied_count h ≤ applied_count g
front_count h g f = omega (arith, front_length h g f)

-- the front of a list with as many operations as one that begins it
pub front_taken : (h g : List Operation) → IsFront h g → 1 ≤ length h → take (applied_count h + 1) g ≡ h
front_taken h g f l =
    let n : applied_count h + 1 ≡ length h = omega arith in
    ap (λ (m : ℕ). take m g) n ∙ ap (λ (x : List Operation). take (length h) x) f.1 ∙ take-append_seam h f.0

-- ---- queries among the lines of a session

-- the query's history begins what its replica has applied in a later state
abbrev pub IsPlaced : State → AskedQuery → Type 0
IsPlaced end c = IsFront c.history (history_or_empty (buffer_of c.replica end.buffers)) × (1 ≤ length c.history)

module _ (q : ℕ) (s end : State) (g : AllGrow s.buffers end.buffers) (a : AreBased s.buffers) where
  one_placed : (r : ℕ) (ask : Question) (o : Option BufferState) → buffer_of r s.buffers ≡ o → All (IsPlaced end) (query_of q r ask o)
  one_placed r ask None e = All-nil (IsPlaced end)
  one_placed r ask (Some b) e =
      let n = later r s.buffers end.buffers b g e in
      All-cons (IsPlaced end) (record { number = q; replica = r; history = b.history; question = ask }) []
      (subst (λ (o : Option BufferState). IsFront b.history (history_or_empty o)) (sym n.1) n.2, based_one r s.buffers b a e) (All-nil (IsPlaced end))

  query_placed : (o : Option (ℕ × Question)) → All (IsPlaced end) (query_with q s o)
  query_placed None = All-nil (IsPlaced end)
  query_placed (Some (r, ask)) = one_placed r ask (buffer_of r s.buffers) refl

all_placed : (q : ℕ) (ls : List MoreLine) (s : MoreState) → AreBased s.plain.buffers → All (IsPlaced (after_all_more ls s).plain) (more_queries_from q ls s)
all_placed q [] s a = All-nil (IsPlaced s.plain)
all_placed q (l ∷ ls) s a =
    let end : State = (after_all_more ls (more_step l s)).plain in
    let next : ℕ = q + length (more_query_at q l s) in
    All-append (IsPlaced end) (more_query_at q l s) (more_queries_from next ls (more_step l s)) (query_placed q s.plain end (lines_grow (l ∷ ls) s) a (more_question_of l))
    (all_placed next ls (more_step l s) (based_grow s.plain.buffers (more_step l s).plain.buffers (more_step_grows l s) a))

-- ---- a later query of a replica finds no fewer operations

-- what a query of replica r finds, if this asks r
abbrev Finds : ℕ → List Operation → AskedQuery → Type 0
Finds r h d = r ≡ d.replica → applied_count h ≤ applied_count d.history

module _ (r : ℕ) (h : List Operation) where
  same_buffer : (i : ℕ) (s : State) (b n : BufferState) → buffer_of r s.buffers ≡ Some b → buffer_of i s.buffers ≡ Some n → r ≡ i → b ≡ n
  same_buffer i s b n e f k = let same : Some b ≡ Some n = sym e ∙ ap (λ (j : ℕ). buffer_of j s.buffers) k ∙ f in cc same

  module _ (q : ℕ) (s : State) (b : BufferState) (e : buffer_of r s.buffers ≡ Some b) (f : IsFront h b.history) where
    one_finds : (i : ℕ) (ask : Question) (o : Option BufferState) → buffer_of i s.buffers ≡ o → All (Finds r h) (query_of q i ask o)
    one_finds i ask None k = All-nil (Finds r h)
    one_finds i ask (Some n) k =
        All-cons (Finds r h) (record { number = q; replica = i; history = n.history; question = ask }) []
        (λ t. front_count h n.history (subst (λ (x : BufferState). IsFront h x.history) (same_buffer i s b n e k t) f)) (All-nil (Finds r h))

    query_finds : (o : Option (ℕ × Question)) → All (Finds r h) (query_with q s o)
    query_finds None = All-nil (Finds r h)
    query_finds (Some (i, ask)) = one_finds i ask (buffer_of i s.buffers) refl

  all_find : (q : ℕ) (ls : List MoreLine) (s : MoreState) (b : BufferState) → buffer_of r s.plain.buffers ≡ Some b → IsFront h b.history → All (Finds r h) (more_queries_from q ls s)
  all_find q [] s b e f = All-nil (Finds r h)
  all_find q (l ∷ ls) s b e f =
      let n = later r s.plain.buffers (more_step l s).plain.buffers b (more_step_grows l s) e in
      let next : ℕ = q + length (more_query_at q l s) in
      All-append (Finds r h) (more_query_at q l s) (more_queries_from next ls (more_step l s)) (query_finds q s.plain b e f (more_question_of l))
      (all_find next ls (more_step l s) n.0 n.1 (front_trans h b.history n.0.history f n.2))

abbrev Follows : AskedQuery → AskedQuery → Type 0
Follows c d = Finds c.replica c.history d

module _ (q next : ℕ) (l : MoreLine) (ls : List MoreLine) (s : MoreState) where
  abbrev rest : List AskedQuery
  rest = more_queries_from next ls (more_step l s)

  one_pair : (r : ℕ) (ask : Question) (o : Option BufferState) → AllPairs Follows (query_of q r ask o)
  one_pair r ask None = AllPairs-nil Follows
  one_pair r ask (Some b) =
      let c : AskedQuery = record { number = q; replica = r; history = b.history; question = ask } in
      AllPairs-cons Follows c [] (All-nil (Follows c)) (AllPairs-nil Follows)

  query_pair : (o : Option (ℕ × Question)) → AllPairs Follows (query_with q s.plain o)
  query_pair None = AllPairs-nil Follows
  query_pair (Some (r, ask)) = one_pair r ask (buffer_of r s.plain.buffers)

  one_first : (r : ℕ) (ask : Question) (o : Option BufferState) → buffer_of r s.plain.buffers ≡ o → All (λ c. All (Follows c) rest) (query_of q r ask o)
  one_first r ask None e = All-nil (λ c. All (Follows c) rest)
  one_first r ask (Some b) e =
      let n = later r s.plain.buffers (more_step l s).plain.buffers b (more_step_grows l s) e in
      All-cons (λ c. All (Follows c) rest) (record { number = q; replica = r; history = b.history; question = ask }) []
      (all_find r b.history next ls (more_step l s) n.0 n.1 n.2) (All-nil (λ c. All (Follows c) rest))

  query_first : (o : Option (ℕ × Question)) → All (λ c. All (Follows c) rest) (query_with q s.plain o)
  query_first None = All-nil (λ c. All (Follows c) rest)
  query_first (Some (r, ask)) = one_first r ask (buffer_of r s.plain.buffers) refl

all_follow : (q : ℕ) (ls : List MoreLine) (s : MoreState) → AllPairs Follows (more_queries_from q ls s)
all_follow q [] s = AllPairs-nil Follows
all_follow q (l ∷ ls) s =
    let next : ℕ = q + length (more_query_at q l s) in
    AllPairs-append Follows (more_query_at q l s) (more_queries_from next ls (more_step l s)) (query_pair q next l ls s (more_question_of l)) (all_follow next ls (more_step l s))
    (query_first q next l ls s (more_question_of l))

-- ---- replies on the spot

abbrev on_the_spot : AskedQuery → Reply
on_the_spot c = record { query = c; count = applied_count c.history }

their_queries : (cs : List AskedQuery) → map (λ (p : Reply). p.query) (map on_the_spot cs) ≡ cs
their_queries [] = refl
their_queries (c ∷ cs) = ap (λ (ds : List AskedQuery). c ∷ ds) (their_queries cs)

pairs_of : (workers : ℕ) (cs : List AskedQuery) → AllPairs Follows cs → AllPairs (NeverFalls workers) (map on_the_spot cs)
pairs_of workers [] a = AllPairs-nil (NeverFalls workers)
pairs_of workers (c ∷ cs) a =
    let first : All (Follows c) cs = AllPairs-cross Follows (c ∷ []) cs 0 c a (omega arith) in
    AllPairs-cons (NeverFalls workers) (on_the_spot c) (map on_the_spot cs)
    (All-map (NeverFalls workers (on_the_spot c)) on_the_spot cs (All-weaker (Follows c) (λ d. NeverFalls workers (on_the_spot c) (on_the_spot d)) (λ d f k w. f k) cs first))
    (pairs_of workers cs (AllPairs-right Follows (c ∷ []) cs a))

opened_based : (t : BaseText) (rs : List ℕ) → AreBased (map (first_buffer t) rs)
opened_based t [] = tt
opened_based t (r ∷ rs) = (omega arith, opened_based t rs)

pub placed : (s : MoreSession) → All (IsPlaced (plain_end_of s)) (more_queries_of s)
placed s = all_placed 1 s.lines (more_opening s) (opened_based (base_of (headed s)) s.replicas)

spot_replies : (s : MoreSession) (workers : ℕ) → AreReplies s workers (map on_the_spot (more_queries_of s))
spot_replies s workers = record {
  queries = their_queries (more_queries_of s);
  within = All-map (IsWithin (plain_end_of s)) on_the_spot (more_queries_of s)
      (All-weaker (IsPlaced (plain_end_of s)) (λ c. IsWithin (plain_end_of s) (on_the_spot c)) (λ c f. (omega arith, front_count c.history (history_or_empty (buffer_of c.replica (plain_end_of s).buffers)) f.0)) (more_queries_of s) (placed s));
  on_the_spot = λ z. All-map (λ (p : Reply). p.count ≡ applied_count p.query.history) on_the_spot (more_queries_of s) (λ k d lt. refl);
  never_falls = pairs_of workers (more_queries_of s) (all_follow 1 s.lines (more_opening s));
}

-- ---- their lines

one_line : (end : State) (p : Reply) → p.count ≡ applied_count p.query.history → IsPlaced end p.query → reply_line end p ≡ plain_line p.query
one_line end p e f =
    let final : List Operation = history_or_empty (buffer_of p.query.replica end.buffers) in
    ap (λ (n : ℕ). answer_line p.query.number n p.query.question (text (take (n + 1) final))) e
    ∙ ap (λ (h : List Operation). answer_line p.query.number (applied_count p.query.history) p.query.question (text h)) (front_taken p.query.history final f.0 f.1)

same_lines : (end : State) (ps : List Reply) → All (λ (p : Reply). p.count ≡ applied_count p.query.history) ps → All (IsPlaced end) (map (λ (p : Reply). p.query) ps)
    → map (reply_line end) ps ≡ map plain_line (map (λ (p : Reply). p.query) ps)
same_lines end [] a f = refl
same_lines end (p ∷ ps) a f =
    let head = one_line end p (All-head (λ (p : Reply). p.count ≡ applied_count p.query.history) p ps a) (All-head (IsPlaced end) p.query (map (λ (p : Reply). p.query) ps) f) in
    let tail = same_lines end ps (All-tail (λ (p : Reply). p.count ≡ applied_count p.query.history) p ps a) (All-tail (IsPlaced end) p.query (map (λ (p : Reply). p.query) ps) f) in
    cc (head, tail)

plain_lines : (s : MoreSession) (ps : List Reply) → map (λ (p : Reply). p.query) ps ≡ more_queries_of s → All (λ (p : Reply). p.count ≡ applied_count p.query.history) ps
    → map (reply_line (plain_end_of s)) ps ≡ map plain_line (more_queries_of s)
plain_lines s ps e a = same_lines (plain_end_of s) ps a (All-same (IsPlaced (plain_end_of s)) (map (λ (p : Reply). p.query) ps) (more_queries_of s) e (placed s)) ∙ ap (map plain_line) e

plain_text : (s : MoreSession) (ps : List Reply) → map (λ (p : Reply). p.query) ps ≡ more_queries_of s → All (λ (p : Reply). p.count ≡ applied_count p.query.history) ps
    → more_report_text (more_report_with s (map (reply_line (plain_end_of s)) ps)) ≡ more_report_text (more_report_of s)
unfolding more_report_of
plain_text s ps e a = ap (λ (rs : List Report). more_report_text (more_report_with s rs)) (plain_lines s ps e a)

-- the plain report is one that so many workers may give
pub plain_report : (s : MoreSession) (workers : ℕ) → IsReport s workers (more_report_text (more_report_of s))
plain_report s workers =
    let ps : List Reply = map on_the_spot (more_queries_of s) in
    (ps, spot_replies s workers, sym (plain_text s ps (their_queries (more_queries_of s)) ((spot_replies s 0).on_the_spot refl)))

pub plain_with_workers : PlainWithWorkers
plain_with_workers input s workers d = (s, d, plain_report s workers)

pub plain_without_workers : PlainWithoutWorkers
plain_without_workers input output r = (r.0, r.1, r.2.2 ∙ plain_text r.0 r.2.0 r.2.1.queries (r.2.1.on_the_spot refl))

-- ---- sessions without queries

no_query_of : (q : ℕ) (l : SessionLine) (s : State) → old.is_query l ≡ false → query_at q l s ≡ []
no_query_of q (line.Edit r ps) s e = refl
no_query_of q (line.Undo r ms) s e = refl
no_query_of q (line.Op o) s e = refl
no_query_of q (line.Uop u) s e = refl
no_query_of q (line.Give r n) s e = refl
no_query_of q (line.Text r) s e = refl
no_query_of q (line.Anchor r n o b) s e = refl
no_query_of q (line.Where r n) s e = refl
no_query_of q (line.Mark r n) s e = refl
no_query_of q (line.Since r n) s e = refl
no_query_of q (line.Find r t) s e = absurd (cc e)
no_query_of q (line.Point r o) s e = absurd (cc e)
no_query_of q (line.Offset r k c) s e = absurd (cc e)
no_query_of q (line.Reopen r) s e = refl

no_more_query : (q : ℕ) (l : MoreLine) (s : MoreState) → is_query l ≡ false → more_query_at q l s ≡ []
no_more_query q (more.Plain l) s e = no_query_of q l s.plain e
no_more_query q (more.Select r name rs) s e = refl
no_more_query q (more.Share r name) s e = refl
no_more_query q (more.Selected r a) s e = refl
no_more_query q (more.Fold r start end) s e = refl
no_more_query q (more.Unfold r start end) s e = refl
no_more_query q (more.Folded r) s e = refl
no_more_query q (more.Display r o) s e = refl
no_more_query q (more.Excerpt name r start end) s e = refl
no_more_query q (more.Multi name) s e = refl
no_more_query q (more.Medit name ps) s e = refl

none_first : (t : Bool) (n : ℕ) → cond t 1 0 + n ≡ 0 → (t ≡ false) × (n ≡ 0)
none_first true n e = absurd (omega arith)
none_first false n e = (refl, omega arith)

no_queries : (q : ℕ) (ls : List MoreLine) (s : MoreState) → query_count ls ≡ 0 → more_queries_from q ls s ≡ []
no_queries q [] s e = refl
no_queries q (l ∷ ls) s e =
    let f = none_first (is_query l) (query_count ls) (sym (sum_by-cons (λ (k : MoreLine). cond (is_query k) 1 0) l ls) ∙ e) in
    ap (λ (cs : List AskedQuery). cs ++ more_queries_from (q + length cs) ls (more_step l s)) (no_more_query q l s f.0) ∙ no_queries (q + 0) ls (more_step l s) f.1

no_reply : (ps : List Reply) → map (λ (p : Reply). p.query) ps ≡ [] → ps ≡ []
no_reply [] e = refl
no_reply (p ∷ ps) e = absurd (cc e)

one_report : (s : MoreSession) (ps : List Reply) → query_count s.lines ≡ 0 → map (λ (p : Reply). p.query) ps ≡ more_queries_of s → more_report_text (more_report_with s (map (reply_line (plain_end_of s)) ps)) ≡ more_report_text (more_report_of s)
unfolding more_report_of
one_report s ps n e =
    let none : more_queries_of s ≡ [] = no_queries 1 s.lines (more_opening s) n in
    ap (λ (ps : List Reply). more_report_text (more_report_with s (map (reply_line (plain_end_of s)) ps))) (no_reply ps (e ∙ none)) ∙ ap (λ (cs : List AskedQuery). more_report_text (more_report_with s (map plain_line cs))) (sym none)

pub plain_without_queries : PlainWithoutQueries
plain_without_queries input output workers r s d n =
    let same : Ok r.0 ≡ Ok s = sym r.1 ∙ d in
    let is : r.0 ≡ s = cc same in
    r.2.2 ∙ one_report r.0 r.2.0 (ap (λ (t : MoreSession). query_count t.lines) is ∙ n) r.2.1.queries ∙ ap (λ (t : MoreSession). more_report_text (more_report_of t)) is
