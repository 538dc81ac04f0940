-- A session at its opening, and what an editor over it has once all is gathered.
use Rattle.std.proofs.Common.{◌≡◌, ℕ, ◌≤◌, List, [], ◌++◌, length, map, sym, ap, ◌∙◌, subst, arith}
use Rattle.std.specs.List.{All, AllZip, flat_map}
use Rattle.std.proofs.lemmas.List.{length-map}
use Rattle.op_model.specs.declared.operation.Operation.{Operation}
use Rattle.op_model.proofs.Elements.{zip_itself}
use Rattle.text_buffer.proofs.Fronts.{front_itself}
use Rattle.text_buffer.specs.Document.{IsFront}
use Rattle.session_lines.specs.Report.{report_text}
use Rattle.session_lines.specs.declared.report.QueryAnswer.{QueryAnswer}
use Rattle.session_more.specs.Decoding.{headed}
use Rattle.session_more.specs.Lines.{query_count}
use Rattle.session_more.specs.Reports.{more_report_text}
use Rattle.session_more.specs.declared.session.MoreLine.{MoreLine}
use Rattle.session_more.specs.declared.session.MoreSession.{MoreSession}
use Rattle.queries.specs.declared.query.Answer.{Answer}
use Rattle.queries.specs.Dealt.{HasAsked}
use Rattle.queries.specs.Final.{AreGathered, IsPast}
use Rattle.queries.specs.Published.{AreLevel, AreTied, published_lists}
use Rattle.queries.specs.States.{PublishersState}
use Rattle.queries.proofs.Dealing.{tied_length}
use Rattle.session_replay.specs.Replies.{IsReport, reply_line}
use Rattle.session_work.specs.MoreQueries.{more_end_of, more_queries_from, more_queries_of, plain_end_of}
use Rattle.session_work.specs.MoreWork.{IsMoreSession, MoreState, after_all_more, all_more_events, more_opening}
use Rattle.session_work.specs.Work.{at_end, base_of, first_buffer, histories}
use Rattle.session_work.specs.Working.{more_state_of}
use Rattle.session_work.specs.Queries.{plain_answer}
use Rattle.session_replay.specs.Beside.{CanEdit, HasEdited, asks_among, line_of}
use Rattle.session_replay.specs.declared.beside.Editor.{Editor}
use Rattle.session_replay.specs.declared.beside.Edited.{Edited}
use Rattle.session_work.specs.declared.queries.Question.{Question}
use Rattle.session_work.specs.Later.{AllGrow}
use Rattle.session_work.proofs.Excerpting.{opening_room}
use Rattle.session_work.proofs.Growth.{lines_grow}
use Rattle.session_work.proofs.MoreReports.{three_parts}
use Rattle.session_work.proofs.Read.{few_replicas}
use Rattle.session_replay.proofs.Replies.{placed}
use Rattle.session_replay.proofs.Gathered.{gathered, gathered_lines, past, replies_to}

-- ---- at the opening

module _ (s : MoreSession) (h : IsMoreSession s) (o : Editor) (p : PublishersState) (begins : more_state_of o.progress ≡ more_opening s) where
  start : o.progress.plain.exchange.buffers ≡ map (first_buffer (base_of (headed s))) s.replicas
  start = ap (λ (u : MoreState). u.plain.buffers) begins

  pub can_edit : (workers limit : ℕ) (ls : List MoreLine) → ls ≡ s.lines → o.workers ≡ workers → length o.dispatcher.inboxes ≡ workers → limit ≡ query_count s.lines
      → HasAsked o.dispatcher [] → o.dispatcher.limit ≡ limit → AreLevel p → AreTied o.dispatcher.inboxes p → published_lists p ≡ histories o.progress.plain.exchange.buffers → CanEdit ls o p
  can_edit workers limit ls l w n room asked most level tied published = record {
    asking = record {
      few = omega (arith, few_replicas s h.header, ap (λ bs. length bs) start, length-map s.replicas (first_buffer (base_of (headed s))));
      asked = asked;
      level = level;
      tied = tied;
      fronts = subst (λ (hs : List (List Operation)). AllZip IsFront hs (histories o.progress.plain.exchange.buffers)) (sym published) (zip_itself IsFront front_itself (histories o.progress.plain.exchange.buffers));
    };
    workers = w ∙ (sym n ∙ tied_length o.dispatcher.inboxes p tied);
    room = omega (arith, asked.count, most, room, ap query_count l);
    few = opening_room s h ls l (more_state_of o.progress) begins;
  }

-- ---- once the editor has left

module _ (s : MoreSession) (ls : List MoreLine) (l : ls ≡ s.lines) (o : Editor) (e : Edited) (h : HasEdited ls o e) (start : more_state_of o.progress ≡ more_opening s) where
  ended : more_state_of e.progress ≡ more_end_of s
  ended = h.state ∙ (ap (after_all_more ls) start ∙ ap (λ (k : List MoreLine). after_all_more k (more_opening s)) l)

  all_grow : AllGrow (more_opening s).plain.buffers (plain_end_of s).buffers
  all_grow = lines_grow s.lines (more_opening s)

  pub are_past : All (IsPast {Q = Question} (histories e.progress.plain.exchange.buffers)) (asks_among o.progress.plain.exchange.buffers (more_queries_from 1 ls (more_state_of o.progress)))
  are_past =
      let at_end : All (IsPast {Q = Question} (histories (plain_end_of s).buffers)) (asks_among (more_opening s).plain.buffers (more_queries_from 1 s.lines (more_opening s))) =
      past (more_opening s).plain.buffers (plain_end_of s) all_grow (more_queries_of s) (placed s) in
      let of_lines : All (IsPast {Q = Question} (histories (plain_end_of s).buffers)) (asks_among (more_opening s).plain.buffers (more_queries_from 1 ls (more_opening s))) =
      subst (λ (k : List MoreLine). All (IsPast {Q = Question} (histories (plain_end_of s).buffers)) (asks_among (more_opening s).plain.buffers (more_queries_from 1 k (more_opening s)))) (sym l) at_end in
      let of_start : All (IsPast {Q = Question} (histories (plain_end_of s).buffers)) (asks_among o.progress.plain.exchange.buffers (more_queries_from 1 ls (more_state_of o.progress))) =
      subst (λ (u : MoreState). All (IsPast {Q = Question} (histories (plain_end_of s).buffers)) (asks_among u.plain.buffers (more_queries_from 1 ls u))) (sym start) of_lines in
      subst (λ (u : MoreState). All (IsPast {Q = Question} (histories u.plain.buffers)) (asks_among o.progress.plain.exchange.buffers (more_queries_from 1 ls (more_state_of o.progress)))) (sym ended) of_start

  module _ (workers : ℕ) (some : 1 ≤ workers) (n : length o.dispatcher.inboxes ≡ workers) (none : o.progress.plain.report.items ≡ []) (xs : List (Answer Question QueryAnswer))
      (t : AreGathered plain_answer (length o.dispatcher.inboxes) (histories e.progress.plain.exchange.buffers) (asks_among o.progress.plain.exchange.buffers (more_queries_from 1 ls (more_state_of o.progress))) xs) where
    all : AreGathered plain_answer workers (histories (plain_end_of s).buffers) (asks_among (more_opening s).plain.buffers (more_queries_of s)) xs
    all =
        let of_workers = subst (λ (m : ℕ). AreGathered plain_answer m (histories e.progress.plain.exchange.buffers) (asks_among o.progress.plain.exchange.buffers (more_queries_from 1 ls (more_state_of o.progress))) xs) n t in
        let of_end = subst (λ (u : MoreState). AreGathered plain_answer workers (histories u.plain.buffers) (asks_among o.progress.plain.exchange.buffers (more_queries_from 1 ls (more_state_of o.progress))) xs) ended of_workers in
        let of_start = subst (λ (u : MoreState). AreGathered plain_answer workers (histories (plain_end_of s).buffers) (asks_among u.plain.buffers (more_queries_from 1 ls u)) xs) start of_end in
        subst (λ (k : List MoreLine). AreGathered plain_answer workers (histories (plain_end_of s).buffers) (asks_among (more_opening s).plain.buffers (more_queries_from 1 k (more_opening s))) xs) l of_start

    pub is_report : (text : List ℕ) → text ≡ (e.progress.plain.report.items ++ report_text (map line_of xs)) ++ report_text (flat_map at_end e.progress.plain.exchange.buffers) → IsReport s workers text
    is_report text w =
        let ps = replies_to (more_opening s).plain.buffers (plain_end_of s) all_grow xs (more_queries_of s) in
        let events : e.progress.plain.report.items ≡ more_report_text (all_more_events s.lines (more_opening s)) =
        h.report ∙ (ap (λ (x : List ℕ). x ++ more_report_text (all_more_events ls (more_state_of o.progress))) none
        ∙ (ap (λ (u : MoreState). more_report_text (all_more_events ls u)) start ∙ ap (λ (k : List MoreLine). more_report_text (all_more_events k (more_opening s))) l)) in
        let mid : List ℕ = e.progress.plain.report.items ++ report_text (map line_of xs) in (
          ps,
          gathered s workers some (more_opening s).plain.buffers all_grow xs all,
          three_parts (all_more_events s.lines (more_opening s)) (map (reply_line (plain_end_of s)) ps) (flat_map at_end (plain_end_of s).buffers) e.progress.plain.report.items mid text events
              (ap (λ ls. e.progress.plain.report.items ++ report_text ls) (gathered_lines s workers some (more_opening s).plain.buffers all_grow xs all))
              (w ∙ ap (λ (u : MoreState). mid ++ report_text (flat_map at_end u.plain.buffers)) ended),
        )
