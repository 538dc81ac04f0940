-- What an editor asks of the workers beside it, line by line.
use Rattle.std.proofs.Common.{◌≡◌, ℕ, zero, suc, ◌+◌, ◌<◌, ◌≤◌, ◌==◌, Bool, true, cond, not, List, [], ◌∷◌, ◌++◌, length, map, get_or, slice_index_or, slice_set, nat_lt, Option, None, Some, refl, sym, ap, ap₂, ◌∙◌, subst, arith, append_assoc, append-nil}
use Rattle.std.specs.List.{AllZip, position}
use Rattle.std.proofs.lemmas.Bool.{ltb-true}
use Rattle.std.proofs.lemmas.Option.{cond_some}
use Rattle.std.proofs.lemmas.List.{length-append, length-map, map-append}
use Rattle.std.proofs.lemmas.List.Sums.{sum_by-cons}
use Rattle.std.proofs.lemmas.Slice.Zip.{AllZip-long}
use Rattle.op_model.specs.declared.operation.Operation.{Operation}
use Rattle.text_buffer.specs.Buffer.{BufferState}
use Rattle.text_buffer.specs.Document.{IsFront}
use Rattle.text_buffer.proofs.Fronts.{front_itself, front_trans}
use Rattle.session_lines.specs.Session as old
use Rattle.session_lines.specs.declared.session.SessionLine.{SessionLine}
use Rattle.session_lines.specs.declared.session.SessionLine.TheVariants as line
use Rattle.session_lines.proofs.Queries.{none_asked}
use Rattle.session_more.specs.Lines.{is_query, query_count}
use Rattle.session_more.specs.declared.report.MoreReport.TheVariants.{Plain}
use Rattle.session_more.specs.declared.session.MoreLine.{MoreLine}
use Rattle.session_more.specs.declared.session.MoreLine.TheVariants as more
use Rattle.queries.specs.Asks.{Ask}
use Rattle.queries.specs.Dealt.{HasAsked, pairs_in}
use Rattle.queries.specs.Published.{AreLevel, columns, published_lists, published_of, rows_of}
use Rattle.queries.specs.States.{DispatcherState, PublishersState}
use Rattle.session_work.specs.Work.{State, buffer_of, events, step, histories}
use Rattle.session_work.specs.MoreQueries.{more_queries_from, more_query_at, more_question_of}
use Rattle.session_work.specs.MoreWork.{MoreState, more_events, more_step}
use Rattle.session_work.specs.Queries.{AskedQuery, query_at, query_of, query_with, question_of}
use Rattle.session_replay.specs.Beside.{IsAsking, KeepsEnds, ask_among, asks_among, index_among}
use Rattle.session_work.specs.declared.queries.Question.{Question}
use Rattle.session_work.proofs.Buffers.{found}
use Rattle.session_work.specs.Later.{AllGrow, Grows}
use Rattle.session_work.proofs.Growth.{more_step_grows}

-- what asks query n of the replica at place i
abbrev pub one_ask : ℕ → ℕ → Question → List Operation → Ask Question
one_ask n i q h = record { number = n; index = i; query = q; history = h }

-- ---- replicas that grow

-- they keep their places
pub same_place : (r : ℕ) (bs cs : List BufferState) → AllGrow bs cs → index_among cs r ≡ index_among bs r
same_place r [] [] g = refl
same_place r [] (c ∷ cs) g = absurd g
same_place r (b ∷ bs) [] g = absurd g
same_place r (b ∷ bs) (c ∷ cs) g = ap₂ (λ (t : Bool) (m : ℕ). cond (not t) (1 + m) 0) (ap (λ (q : ℕ). q == r) g.0.0) (same_place r bs cs g.1)

pub same_asks : (bs cs : List BufferState) (qs : List AskedQuery) → AllGrow bs cs → asks_among cs qs ≡ asks_among bs qs
same_asks bs cs [] g = refl
same_asks bs cs (q ∷ qs) g =
    ap₂ (λ (m : ℕ) (ks : List (Ask Question)). one_ask q.number m q.question q.history ∷ ks) (same_place q.replica bs cs g) (same_asks bs cs qs g)

-- what begins what they had begins what they have
pub fronts_grow : (hs : List (List Operation)) (bs cs : List BufferState) → AllZip IsFront hs (histories bs) → AllGrow bs cs → AllZip IsFront hs (histories cs)
fronts_grow [] [] [] f g = tt
fronts_grow [] [] (c ∷ cs) f g = absurd g
fronts_grow [] (b ∷ bs) cs f g = absurd f
fronts_grow (h ∷ hs) [] cs f g = absurd f
fronts_grow (h ∷ hs) (b ∷ bs) [] f g = absurd g
fronts_grow (h ∷ hs) (b ∷ bs) (c ∷ cs) f g = (front_trans h b.history c.history f.0 g.0.1, fronts_grow hs bs cs f.1 g.1)

-- ---- the replica of a query

pub front_at : (hs : List (List Operation)) (bs : List BufferState) (i : ℕ) (d : BufferState) → AllZip IsFront hs (histories bs) → i < length bs
    → (i < length hs) × IsFront (slice_index_or hs i []) (get_or bs i d).history
front_at [] [] i d f l = absurd (omega arith)
front_at [] (b ∷ bs) i d f l = absurd f
front_at (h ∷ hs) [] i d f l = absurd f
front_at (h ∷ hs) (b ∷ bs) zero d f l = (omega arith, f.0)
front_at (h ∷ hs) (b ∷ bs) (suc i) d f l = let r = front_at hs bs i d f.1 (omega arith) in (omega (arith, r.0), r.1)

-- the front of a place stays one, where what is there is published
pub fronts_set : (hs : List (List Operation)) (bs : List BufferState) (i : ℕ) (d : BufferState) → AllZip IsFront hs (histories bs) → i < length bs
    → AllZip IsFront (slice_set hs i (get_or bs i d).history) (histories bs)
fronts_set [] [] i d f l = absurd (omega arith)
fronts_set [] (b ∷ bs) i d f l = absurd f
fronts_set (h ∷ hs) [] i d f l = absurd f
fronts_set (h ∷ hs) (b ∷ bs) zero d f l = (front_itself b.history, f.1)
fronts_set (h ∷ hs) (b ∷ bs) (suc i) d f l = (f.0, fronts_set hs bs i d f.1 (omega arith))

module _ (bs : List BufferState) (r i : ℕ) (d : BufferState) (e : Some i ≡ position (λ (b : BufferState). b.replica == r) bs) where
  pub at_place : (i < length bs) × (index_among bs r ≡ i)
  at_place = let p = cond_some (nat_lt (index_among bs r) (length bs)) (index_among bs r) i (sym e) in
      (subst (λ (k : ℕ). k < length bs) p.1 (ltb-true (index_among bs r) (length bs) p.0), p.1)

  -- what is asked of it
  pub asked_one : (q : ℕ) (ask : Question) (h : List Operation) → h ≡ (get_or bs i d).history
      → one_ask q i ask h ∷ [] ≡ asks_among bs (query_of q r ask (buffer_of r bs))
  asked_one q ask h is =
      let f = found r (λ (b : BufferState). b) bs i d e in
      ap₂ (λ (m : ℕ) (k : List Operation). one_ask q m ask k ∷ []) (sym at_place.1) is
      ∙ ap (λ (o : Option BufferState). asks_among bs (query_of q r ask o)) (sym f.0)

  -- what the dispatcher wants to know of it
  module _ (asks : List (Ask Question)) (o : DispatcherState Question) (p : PublishersState) (a : IsAsking bs asks o p) where
    front : (i < length (published_lists p)) × IsFront (slice_index_or (published_lists p) i []) (get_or bs i d).history
    front = front_at (published_lists p) bs i d a.fronts at_place.0

    pub is_listed : i < length p.list
    is_listed = omega (arith, front.0, length-map p.list published_of)

    pub begins : (h : List Operation) → h ≡ (get_or bs i d).history → IsFront (slice_index_or (published_lists p) i []) h
    begins h is = subst (IsFront (slice_index_or (published_lists p) i [])) (sym is) front.1

-- ---- how many queries a line is

one_of : (q r : ℕ) (ask : Question) (o : Option BufferState) → length (query_of q r ask o) ≤ 1
one_of q r ask None = let le : 0 ≤ 1 = omega arith in le
one_of q r ask (Some b) = let le : 1 ≤ 1 = omega arith in le

few_at : (q : ℕ) (l : SessionLine) (s : State) → length (query_at q l s) ≤ cond (old.is_query l) 1 0
few_at q (line.Edit r ps) s = none_asked
few_at q (line.Undo r ms) s = none_asked
few_at q (line.Op o) s = none_asked
few_at q (line.Uop u) s = none_asked
few_at q (line.Give r n) s = none_asked
few_at q (line.Text r) s = none_asked
few_at q (line.Anchor r n o b) s = none_asked
few_at q (line.Where r n) s = none_asked
few_at q (line.Mark r n) s = none_asked
few_at q (line.Since r n) s = none_asked
few_at q (line.Find r t) s = one_of q r _ (buffer_of r s.buffers)
few_at q (line.Point r o) s = one_of q r _ (buffer_of r s.buffers)
few_at q (line.Offset r k c) s = one_of q r _ (buffer_of r s.buffers)
few_at q (line.Reopen r) s = none_asked

pub few_more : (q : ℕ) (l : MoreLine) (s : MoreState) → length (more_query_at q l s) ≤ cond (is_query l) 1 0
few_more q (more.Plain l) s = few_at q l s.plain
few_more q (more.Select r name rs) s = none_asked
few_more q (more.Share r name) s = none_asked
few_more q (more.Selected r a) s = none_asked
few_more q (more.Fold r start end) s = none_asked
few_more q (more.Unfold r start end) s = none_asked
few_more q (more.Folded r) s = none_asked
few_more q (more.Display r o) s = none_asked
few_more q (more.Excerpt name r start end) s = none_asked
few_more q (more.Multi name) s = none_asked
few_more q (more.Medit name ps) s = none_asked

-- a line that asks is a query
is_asked : (l : SessionLine) (a : ℕ × Question) → Some a ≡ question_of l → old.is_query l ≡ true
is_asked (line.Edit r ps) a e = absurd (cc e)
is_asked (line.Undo r ms) a e = absurd (cc e)
is_asked (line.Op o) a e = absurd (cc e)
is_asked (line.Uop u) a e = absurd (cc e)
is_asked (line.Give r n) a e = absurd (cc e)
is_asked (line.Text r) a e = absurd (cc e)
is_asked (line.Anchor r n o b) a e = absurd (cc e)
is_asked (line.Where r n) a e = absurd (cc e)
is_asked (line.Mark r n) a e = absurd (cc e)
is_asked (line.Since r n) a e = absurd (cc e)
is_asked (line.Find r t) a e = refl
is_asked (line.Point r o) a e = refl
is_asked (line.Offset r k c) a e = refl
is_asked (line.Reopen r) a e = absurd (cc e)

more_asked : (l : MoreLine) (a : ℕ × Question) → Some a ≡ more_question_of l → is_query l ≡ true
more_asked (more.Plain l) a e = is_asked l a e
more_asked (more.Select r name rs) a e = absurd (cc e)
more_asked (more.Share r name) a e = absurd (cc e)
more_asked (more.Selected r b) a e = absurd (cc e)
more_asked (more.Fold r start end) a e = absurd (cc e)
more_asked (more.Unfold r start end) a e = absurd (cc e)
more_asked (more.Folded r) a e = absurd (cc e)
more_asked (more.Display r o) a e = absurd (cc e)
more_asked (more.Excerpt name r start end) a e = absurd (cc e)
more_asked (more.Multi name) a e = absurd (cc e)
more_asked (more.Medit name ps) a e = absurd (cc e)

pub count_more : (l : MoreLine) (ls : List MoreLine) → query_count (l ∷ ls) ≡ cond (is_query l) 1 0 + query_count ls
count_more l ls = sum_by-cons (λ (k : MoreLine). cond (is_query k) 1 0) l ls

pub asks_count : (l : MoreLine) (a : ℕ × Question) → Some a ≡ more_question_of l → query_count (l ∷ []) ≡ 1
asks_count l a e = count_more l [] ∙ ap (λ (b : Bool). cond b 1 0 + query_count []) (more_asked l a e)

-- ---- an editor on its way

-- where it had asked these before lines that it works, and works the rest of them now
pub record Leads (ls : List MoreLine) (s0 : MoreState) (asks : List (Ask Question)) (rest : List MoreLine) (s : MoreState) (d : DispatcherState Question) (p : PublishersState) : Type 0 where
  pub more : List AskedQuery
  pub asking : IsAsking s.plain.buffers (asks ++ asks_among s0.plain.buffers more) d p
  pub whole : more ++ more_queries_from (length asks + length more + 1) rest s ≡ more_queries_from (length asks + 1) ls s0
  pub room : length asks + length more + query_count rest ≤ d.limit

count_all : (bs : List BufferState) (asks : List (Ask Question)) (more : List AskedQuery) → length (asks ++ asks_among bs more) ≡ length asks + length more
count_all bs asks more = omega (arith, length-append asks (asks_among bs more), length-map more (ask_among bs))

pub leads_first : (ls : List MoreLine) (s : MoreState) (asks : List (Ask Question)) (d : DispatcherState Question) (p : PublishersState) → IsAsking s.plain.buffers asks d p → d.count + query_count ls ≤ d.limit
    → Leads ls s asks ls s d p
leads_first ls s asks d p a room =
    let same : length asks + 0 + 1 ≡ length asks + 1 = omega arith in
    let fits : length asks + 0 + query_count ls ≤ d.limit = omega (arith, room, a.asked.count) in record {
      more = [];
      asking = subst (λ (ks : List (Ask Question)). IsAsking s.plain.buffers ks d p) (sym (append-nil asks)) a;
      whole = ap (λ (k : ℕ). more_queries_from k ls s) same;
      room = fits;
    }

module _ (ls : List MoreLine) (s0 : MoreState) (asks : List (Ask Question)) (left : List MoreLine) (next : MoreLine) (rest : List MoreLine) (s : MoreState) (d : DispatcherState Question) (p : PublishersState)
    (splits : left ≡ next ∷ rest) (l : Leads ls s0 asks left s d p) where
  -- the room that is left for the line
  pub room_for : d.count + query_count (next ∷ []) ≤ d.limit
  room_for =
      let split : query_count left ≡ cond (is_query next) 1 0 + query_count rest = ap query_count splits ∙ count_more next rest in
      let one : query_count (next ∷ []) ≡ cond (is_query next) 1 0 + query_count [] = count_more next [] in
      omega (arith, l.room, split, one, l.asking.asked.count, count_all s0.plain.buffers asks l.more)

  pub leads_more : (t : MoreState) (e : DispatcherState Question) (q : PublishersState) → AllGrow s0.plain.buffers s.plain.buffers → t ≡ more_step next s → e.limit ≡ d.limit
      → ((ks : List (Ask Question)) → IsAsking s.plain.buffers ks d p → IsAsking t.plain.buffers (ks ++ asks_among s.plain.buffers (more_query_at (length ks + 1) next s)) e q) → Leads ls s0 asks rest t e q
  leads_more t e q g is limit h =
      let ks : List (Ask Question) = asks ++ asks_among s0.plain.buffers l.more in
      let n : length ks ≡ length asks + length l.more = count_all s0.plain.buffers asks l.more in
      let qs : List AskedQuery = more_query_at (length asks + length l.more + 1) next s in
      let same : asks_among s.plain.buffers (more_query_at (length ks + 1) next s) ≡ asks_among s0.plain.buffers qs =
      ap (λ (k : ℕ). asks_among s.plain.buffers (more_query_at (k + 1) next s)) n ∙ same_asks s0.plain.buffers s.plain.buffers qs g in
      let all : ks ++ asks_among s.plain.buffers (more_query_at (length ks + 1) next s) ≡ asks ++ asks_among s0.plain.buffers (l.more ++ qs) =
      ap (λ (js : List (Ask Question)). ks ++ js) same ∙ (append_assoc asks (asks_among s0.plain.buffers l.more) (asks_among s0.plain.buffers qs)
      ∙ ap (λ (js : List (Ask Question)). asks ++ js) (sym (map-append (ask_among s0.plain.buffers) l.more qs))) in
      let count : length asks + length (l.more ++ qs) + 1 ≡ length asks + length l.more + 1 + length qs = omega (arith, length-append l.more qs) in
      let split : query_count left ≡ cond (is_query next) 1 0 + query_count rest = ap query_count splits ∙ count_more next rest in
      record {
        more = l.more ++ qs;
        asking = subst (λ (js : List (Ask Question)). IsAsking t.plain.buffers js e q) all (h ks l.asking);
        whole =
            append_assoc l.more qs (more_queries_from (length asks + length (l.more ++ qs) + 1) rest t)
            ∙ (ap (λ (m : ℕ). l.more ++ (qs ++ more_queries_from m rest t)) count
            ∙ (ap (λ (u : MoreState). l.more ++ (qs ++ more_queries_from (length asks + length l.more + 1 + length qs) rest u)) is
            ∙ (ap (λ (k : List MoreLine). l.more ++ more_queries_from (length asks + length l.more + 1) k s) (sym splits) ∙ l.whole)));
        room = omega (arith, l.room, split, limit, length-append l.more qs, few_more (length asks + length l.more + 1) next s);
      }

-- no line is left
pub leads_last : (ls : List MoreLine) (s0 : MoreState) (asks : List (Ask Question)) (left : List MoreLine) (s : MoreState) (d : DispatcherState Question) (p : PublishersState) → left ≡ []
    → Leads ls s0 asks left s d p → IsAsking s.plain.buffers (asks ++ asks_among s0.plain.buffers (more_queries_from (length asks + 1) ls s0)) d p
leads_last ls s0 asks left s d p none l =
    let unasked : more_queries_from (length asks + length l.more + 1) left s ≡ [] = ap (λ (k : List MoreLine). more_queries_from (length asks + length l.more + 1) k s) none in
    let all : l.more ≡ more_queries_from (length asks + 1) ls s0 = sym (append-nil l.more) ∙ (ap (λ (qs : List AskedQuery). l.more ++ qs) (sym unasked) ∙ l.whole) in
    subst (λ (qs : List AskedQuery). IsAsking s.plain.buffers (asks ++ asks_among s0.plain.buffers qs) d p) all l.asking

-- ---- one line

-- the line asks nothing
pub nothing_asked : (bs : List BufferState) (asks : List (Ask Question)) (d : DispatcherState Question) (p : PublishersState) (qs : List AskedQuery) → qs ≡ [] → IsAsking bs asks d p → IsAsking bs (asks ++ asks_among bs qs) d p
nothing_asked bs asks d p qs e a =
    subst (λ (ks : List (Ask Question)). IsAsking bs ks d p) (sym (ap (λ (js : List AskedQuery). asks ++ asks_among bs js) e ∙ append-nil asks)) a

-- a line that asks reports no event and changes nothing
asks_only : (l : SessionLine) (a : ℕ × Question) → Some a ≡ question_of l → (s : State) → (events l s ≡ []) × (step l s ≡ s)
asks_only (line.Edit r ps) a e s = absurd (cc e)
asks_only (line.Undo r ms) a e s = absurd (cc e)
asks_only (line.Op o) a e s = absurd (cc e)
asks_only (line.Uop u) a e s = absurd (cc e)
asks_only (line.Give r n) a e s = absurd (cc e)
asks_only (line.Text r) a e s = absurd (cc e)
asks_only (line.Anchor r n o b) a e s = absurd (cc e)
asks_only (line.Where r n) a e s = absurd (cc e)
asks_only (line.Mark r n) a e s = absurd (cc e)
asks_only (line.Since r n) a e s = absurd (cc e)
asks_only (line.Find r t) a e s = (refl, refl)
asks_only (line.Point r o) a e s = (refl, refl)
asks_only (line.Offset r k c) a e s = (refl, refl)
asks_only (line.Reopen r) a e s = absurd (cc e)

pub more_asks_only : (l : MoreLine) (a : ℕ × Question) → Some a ≡ more_question_of l → (s : MoreState) → (more_events l s ≡ []) × (more_step l s ≡ s)
more_asks_only (more.Plain l) a e s =
    let none = asks_only l a e s.plain in
    let with_plain : State → MoreState = λ u. record s { plain = u } in
    (ap (map Plain) none.0, ap with_plain none.1)
more_asks_only (more.Select r name rs) a e s = absurd (cc e)
more_asks_only (more.Share r name) a e s = absurd (cc e)
more_asks_only (more.Selected r b) a e s = absurd (cc e)
more_asks_only (more.Fold r start end) a e s = absurd (cc e)
more_asks_only (more.Unfold r start end) a e s = absurd (cc e)
more_asks_only (more.Folded r) a e s = absurd (cc e)
more_asks_only (more.Display r o) a e s = absurd (cc e)
more_asks_only (more.Excerpt name r start end) a e s = absurd (cc e)
more_asks_only (more.Multi name) a e s = absurd (cc e)
more_asks_only (more.Medit name ps) a e s = absurd (cc e)

pub no_question : (q : ℕ) (l : MoreLine) (s : MoreState) → None ≡ more_question_of l → more_query_at q l s ≡ []
no_question q l s e = ap (query_with q s.plain) (sym e)

-- the line asks a replica, and is put
module _ (bs : List BufferState) (asks : List (Ask Question)) (d e : DispatcherState Question) (p q : PublishersState) (i : ℕ) (x : BufferState) (qs : List AskedQuery) (ask : Question) (h : List Operation) where
  pub asks_more : i < length bs → h ≡ (get_or bs i x).history → one_ask (length asks + 1) i ask h ∷ [] ≡ asks_among bs qs
      → ((ks : List (Ask Question)) → HasAsked d ks → HasAsked e (ks ++ one_ask (d.count + 1) i ask h ∷ []))
      → AreLevel q → q.workers ≡ p.workers → rows_of q ≡ rows_of p → pairs_in e.inboxes ≡ pairs_in d.inboxes → published_lists q ≡ slice_set (published_lists p) i h
      → IsAsking bs asks d p → IsAsking bs (asks ++ asks_among bs qs) e q
  asks_more lt is one put level workers rows pairs published a =
      let all : asks ++ one_ask (d.count + 1) i ask h ∷ [] ≡ asks ++ asks_among bs qs =
      ap (λ (n : ℕ). asks ++ one_ask (n + 1) i ask h ∷ []) a.asked.count ∙ ap (λ (ks : List (Ask Question)). asks ++ ks) one in
      record {
        few = a.few;
        asked = subst (HasAsked e) all (put asks a.asked);
        level = level;
        tied = pairs ∙ (a.tied ∙ ap₂ columns (sym workers) (sym rows));
        fronts = subst (λ (hs : List (List Operation)). AllZip IsFront hs (histories bs))
            (sym (published ∙ ap (slice_set (published_lists p) i) is)) (fronts_set (published_lists p) bs i x a.fronts lt);
      }

-- the line is worked, and the replicas grow
pub asking_grows : (bs cs : List BufferState) (asks : List (Ask Question)) (d : DispatcherState Question) (p : PublishersState) → AllGrow bs cs → IsAsking bs asks d p → IsAsking cs asks d p
asking_grows bs cs asks d p g a =
    record { few = omega (arith, a.few, AllZip-long Grows bs cs g); asked = a.asked; level = a.level; tied = a.tied; fronts = fronts_grow (published_lists p) bs cs a.fronts g }

pub asking_steps : (l : MoreLine) (s t : MoreState) (asks : List (Ask Question)) (d : DispatcherState Question) (p : PublishersState) → t ≡ more_step l s → IsAsking s.plain.buffers asks d p → IsAsking t.plain.buffers asks d p
asking_steps l s t asks d p is a =
    subst (λ (u : MoreState). IsAsking u.plain.buffers asks d p) (sym is) (asking_grows s.plain.buffers (more_step l s).plain.buffers asks d p (more_step_grows l s) a)

-- ---- the queues and the pairs

pub ends_same : (d : DispatcherState Question) (p : PublishersState) → KeepsEnds d p d p
ends_same d p = record { workers = refl; rows = refl; queues = refl; pairs = refl; limit = refl }

pub ends_trans : (d e f : DispatcherState Question) (p q r : PublishersState) → KeepsEnds d p e q → KeepsEnds e q f r → KeepsEnds d p f r
ends_trans d e f p q r k l =
    record { workers = l.workers ∙ k.workers; rows = l.rows ∙ k.rows; queues = l.queues ∙ k.queues; pairs = l.pairs ∙ k.pairs; limit = l.limit ∙ k.limit }
