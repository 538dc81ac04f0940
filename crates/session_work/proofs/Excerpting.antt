-- What is carried from line to line of excerpts.
use Rattle.std.proofs.Common.{◌≡◌, ℕ, suc, ◌+◌, ◌<◌, ◌^◌, nat_lt, List, [], ◌∷◌, ◌++◌, length, map, Option, None, Some, sym, ap, ap₂, ◌∙◌, subst, arith, append_assoc}
use Rattle.std.proofs.lemmas.List.{length-map}
use Rattle.std.specs.List.{AllZip, position, position_or_len}
use Rattle.std.specs.Option.{option_map, option_map_or, option_to_list}
use Rattle.std.proofs.lemmas.Bool.{ltb-true}
use Rattle.std.proofs.lemmas.Option.{cond_some}
use Rattle.op_model.specs.Histories.{History}
use Rattle.op_model.specs.declared.operation.Piece.{Piece}
use Rattle.fold_map.proofs.Within.{front_within}
use Rattle.multi_buffer.specs.Calls.{IsWithin}
use Rattle.text_buffer.specs.Buffer.{BufferState}
use Rattle.session_excerpts.specs.Lines.{after_excerpt, after_sync_of, medit_split}
use Rattle.session_excerpts.specs.State.{AllGoOn, GoOnAt, Multis, StopsInSync}
use Rattle.session_excerpts.specs.declared.answers.SplitAnswer.{SplitAnswer}
use Rattle.session_excerpts.proofs.Carried.{all_go_on_at, all_go_on_later, all_have_room, excerpt_goes_on, excerpt_has, stop_goes_on, sync_goes_on, sync_has_no_more}
use Rattle.session_lines.specs.Report.{report_text}
use Rattle.session_more.specs.Reports.{more_report_text}
use Rattle.session_more.specs.declared.report.MeditAnswer.{MeditAnswer}
use Rattle.session_more.specs.declared.report.MoreReport.{MoreReport}
use Rattle.session_more.specs.declared.report.MoreReport.TheVariants as report
use Rattle.session_more.specs.declared.session.MoreLine.{MoreLine}
use Rattle.session_more.specs.declared.session.MoreLine.TheVariants as line
use Rattle.session_more.specs.declared.session.MoreSession.{MoreSession}
use Rattle.session_work.specs.Later.{AllGrow}
use Rattle.session_work.specs.MoreWork.{IsMoreSession, MoreState, index_of, medit_events, more_events, more_opening, more_step, split_at}
use Rattle.session_work.specs.Parts.{medit_answer, parts_of, settled_from, with_parts}
use Rattle.session_work.specs.Room.{HasRoom, HasRoomFor}
use Rattle.session_work.specs.Work.{State, histories, next_number}
use Rattle.session_work.proofs.Buffers.{is_own}
use Rattle.session_work.proofs.Growth.{as_many}
use Rattle.session_work.proofs.MoreReports.{text-append, text-plain}

-- ---- the buffers grow

pub histories_within : (bs cs : List BufferState) → AllGrow bs cs → AllZip IsWithin (histories bs) (histories cs)
histories_within [] [] g = tt
histories_within [] (c ∷ cs) g = absurd g
histories_within (b ∷ bs) [] g = absurd g
histories_within (b ∷ bs) (c ∷ cs) g = (front_within b.history c.history g.0.1, histories_within bs cs g.1)

pub still_few : (bs cs : List BufferState) → AllGrow bs cs → length bs < 2 ^ 32 → length cs < 2 ^ 32
still_few bs cs g l = let e = as_many bs cs g in omega (arith, e, l)

pub go_on_grown : (bs cs : List BufferState) (w : Multis) → AllGrow bs cs → AllGoOn (histories bs) w → AllGoOn (histories cs) w
go_on_grown bs cs w g a = all_go_on_later (histories bs) (histories cs) w (histories_within bs cs g) a

-- ---- the snapshots of all replicas

pub few_snapshots : (bs : List BufferState) (hs : List History) → hs ≡ histories bs → length bs < 2 ^ 32 → length hs < 2 ^ 32
few_snapshots bs hs e l =
    let n : length hs ≡ length bs = ap (λ (x : List History). length x) e ∙ length-map bs (λ (b : BufferState). b.history) in
    omega (arith, n, l)

pub index_within : (r i : ℕ) (bs : List BufferState) (hs : List History) → hs ≡ histories bs → Some i ≡ position (is_own r) bs → i < length hs
index_within r i bs hs e at =
    let n : length hs ≡ length bs = ap (λ (x : List History). length x) e ∙ length-map bs (λ (b : BufferState). b.history) in
    let place = position_or_len (is_own r) bs in
    let p = cond_some (nat_lt place (length bs)) place i (sym at) in
    let within : place < length bs = ltb-true place (length bs) p.0 in
    omega (arith, n, within, p.1)

-- ---- room for excerpts

pub room_for : (n : ℕ) (l : MoreLine) (s : MoreState) → HasRoom (n + 1) s → HasRoomFor l s
room_for n (line.Excerpt name r start end) s h = all_have_room h.0 name s.excerpts (omega (arith, h.2)) h.1
room_for n (line.Plain l) s h = tt
room_for n (line.Select r name rs) s h = tt
room_for n (line.Share r name) s h = tt
room_for n (line.Selected r a) s h = tt
room_for n (line.Fold r start end) s h = tt
room_for n (line.Unfold r start end) s h = tt
room_for n (line.Folded r) s h = tt
room_for n (line.Display r o) s h = tt
room_for n (line.Multi name) s h = tt
room_for n (line.Medit name ps) s h = tt

excerpt_room : (n : ℕ) (name : List ℕ) (start end : ℕ) (s : MoreState) (o : Option ℕ) → HasRoom (n + 1) s
    → HasRoom n (record s { excerpts = option_map_or (λ i. after_excerpt name i start end (histories s.plain.buffers) s.excerpts) o s.excerpts })
excerpt_room n name start end s None h = (h.0, h.1, omega (arith, h.2))
excerpt_room n name start end s (Some i) h = (suc h.0, excerpt_has h.0 name i start end (histories s.plain.buffers) s.excerpts h.1, omega (arith, h.2))

-- what is left after a line
pub room_left : (n : ℕ) (l : MoreLine) (s : MoreState) → HasRoom (n + 1) s → HasRoom n (more_step l s)
room_left n (line.Excerpt name r start end) s h = excerpt_room n name start end s (index_of r s.plain.buffers) h
room_left n (line.Plain l) s h = (h.0, h.1, omega (arith, h.2))
room_left n (line.Select r name rs) s h = (h.0, h.1, omega (arith, h.2))
room_left n (line.Share r name) s h = (h.0, h.1, omega (arith, h.2))
room_left n (line.Selected r a) s h = (h.0, h.1, omega (arith, h.2))
room_left n (line.Fold r start end) s h = (h.0, h.1, omega (arith, h.2))
room_left n (line.Unfold r start end) s h = (h.0, h.1, omega (arith, h.2))
room_left n (line.Folded r) s h = (h.0, h.1, omega (arith, h.2))
room_left n (line.Display r o) s h = (h.0, h.1, omega (arith, h.2))
room_left n (line.Multi name) s h = (h.0, sync_has_no_more h.0 name (histories s.plain.buffers) s.excerpts h.1, omega (arith, h.2))
room_left n (line.Medit name ps) s h = (h.0, sync_has_no_more h.0 name (histories s.plain.buffers) s.excerpts h.1, omega (arith, h.2))

-- ---- room over all lines

-- l is the first of the lines that are left
module _ (left : List MoreLine) (l : MoreLine) (rest : List MoreLine) (s : MoreState) (begins : left ≡ l ∷ rest) where
  room_of_rest : HasRoom (length left) s → HasRoom (length rest + 1) s
  room_of_rest h = subst (λ (n : ℕ). HasRoom n s) (ap (λ (x : List MoreLine). length x) begins ∙ omega arith) h

  pub room_before : HasRoom (length left) s → HasRoomFor l s
  room_before h = room_for (length rest) l s (room_of_rest h)

module _ (left : List MoreLine) (l : MoreLine) (rest : List MoreLine) (s t : MoreState) (begins : left ≡ l ∷ rest) (is : t ≡ more_step l s) where
  pub room_after : HasRoom (length left) s → HasRoom (length rest) t
  room_after h = subst (HasRoom (length rest)) (sym is) (room_left (length rest) l s (room_of_rest left l rest s begins h))

-- a session that was read has room for its lines
pub opening_room : (s : MoreSession) → IsMoreSession s → (ls : List MoreLine) → ls ≡ s.lines → (t : MoreState) → t ≡ more_opening s → HasRoom (length ls) t
opening_room s h ls e t is =
    let n = ap (λ (x : List MoreLine). length x) e in
    subst (HasRoom (length ls)) (sym is) (0, tt, omega (arith, h.few, n))

-- ---- what was synced is behind the buffers

module _ (bs : List BufferState) (hs : List History) (is : hs ≡ histories bs) (name : List ℕ) (w : Multis) (a : AllGoOn (histories bs) w) where
  of_snapshots : AllGoOn hs w
  of_snapshots = subst (λ (x : List History). AllGoOn x w) (sym is) a

  of_buffers : (n : Multis) → AllGoOn hs n → AllGoOn (histories bs) n
  of_buffers n b = subst (λ (x : List History). AllGoOn x n) is b

  pub go_on_before : GoOnAt name hs w
  go_on_before = all_go_on_at name hs w of_snapshots

  -- a call that failed has synced some of them
  pub go_on_stopped : (n : Multis) → StopsInSync name hs w n → AllGoOn (histories bs) n
  go_on_stopped n s = of_buffers n (stop_goes_on name hs w n s of_snapshots)

  pub go_on_after : (n : Multis) → n ≡ after_sync_of name hs w → AllGoOn (histories bs) n
  go_on_after n e = of_buffers n (subst (AllGoOn hs) (sym e) (sync_goes_on name hs w of_snapshots))

  pub go_on_excerpt : (i start end : ℕ) (n : Multis) → n ≡ after_excerpt name i start end hs w → AllGoOn (histories bs) n
  go_on_excerpt i start end n e = of_buffers n (subst (AllGoOn hs) (sym e) (excerpt_goes_on name i start end hs w of_snapshots))

-- ---- what a line leaves

excerpts_changed : (s : MoreState) (w v : Multis) → w ≡ v → ◌≡◌ {A = MoreState} (record s { excerpts = w }) (record s { excerpts = v })
excerpts_changed s w v e = let with_excerpts : Multis → MoreState = λ x. record s { excerpts = x } in ap with_excerpts e

module _ (s : MoreState) (name : List ℕ) (r start end : ℕ) where
  abbrev after : Option ℕ → Multis
  after o = option_map_or (λ i. after_excerpt name i start end (histories s.plain.buffers) s.excerpts) o s.excerpts

  -- the replica is there
  pub excerpted_at : (i : ℕ) (hs : List History) (w : Multis) → Some i ≡ index_of r s.plain.buffers → hs ≡ histories s.plain.buffers → w ≡ after_excerpt name i start end hs s.excerpts
      → ◌≡◌ {A = MoreState} (record s { excerpts = w }) (more_step (line.Excerpt name r start end) s)
  excerpted_at i hs w at e is =
      excerpts_changed s w (after (index_of r s.plain.buffers)) (is ∙ (ap (λ (x : List History). after_excerpt name i start end x s.excerpts) e ∙ ap after at))

  -- it is not there
  pub excerpted_nowhere : None ≡ index_of r s.plain.buffers → ◌≡◌ {A = MoreState} s (more_step (line.Excerpt name r start end) s)
  excerpted_nowhere e = excerpts_changed s s.excerpts (after (index_of r s.plain.buffers)) (ap after e)

pub synced : (s : MoreState) (name : List ℕ) (hs : List History) (w : Multis) → hs ≡ histories s.plain.buffers → w ≡ after_sync_of name hs s.excerpts
    → ◌≡◌ {A = MoreState} (record s { excerpts = w }) (more_step (line.Multi name) s)
synced s name hs w e is = excerpts_changed s w (after_sync_of name (histories s.plain.buffers) s.excerpts) (is ∙ ap (λ (x : List History). after_sync_of name x s.excerpts) e)

-- ---- an edit of excerpts

module _ (s : MoreState) (name : List ℕ) (ps : List Piece) (hs : List History) (e : hs ≡ histories s.plain.buffers) (o : Option SplitAnswer) (is : o ≡ medit_split name ps hs s.excerpts) where
  split_is : o ≡ split_at name ps s
  split_is = is ∙ ap (λ (x : List History). medit_split name ps x s.excerpts) e

  pub edited : (u : State) (w : Multis) → u ≡ with_parts (parts_of o) s.plain → w ≡ after_sync_of name hs s.excerpts
      → ◌≡◌ {A = MoreState} (record s { plain = u; excerpts = w }) (more_step (line.Medit name ps) s)
  edited u w d f =
      let of_parts : State → Multis → MoreState = λ x y. record s { plain = x; excerpts = y } in
      ap₂ of_parts (d ∙ ap (λ (x : Option SplitAnswer). with_parts (parts_of x) s.plain) split_is) (f ∙ ap (λ (x : List History). after_sync_of name x s.excerpts) e)

  pub medit_reported : (out mid new settled : List ℕ) (a : Option MeditAnswer) (r : Option MoreReport) → a ≡ medit_answer (next_number s.plain) o s.plain.buffers → r ≡ option_map (report.Medit name) a
      → mid ≡ out ++ more_report_text (option_to_list r) → settled ≡ report_text (settled_from 0 (parts_of o) s.plain.buffers) → new ≡ mid ++ settled
      → new ≡ out ++ more_report_text (more_events (line.Medit name ps) s)
  medit_reported out mid new settled a r b c d f n =
      let ys = settled_from 0 (parts_of o) s.plain.buffers in
      let said : r ≡ option_map (report.Medit name) (medit_answer (next_number s.plain) o s.plain.buffers) = c ∙ ap (option_map (report.Medit name)) b in
      let first = option_to_list (option_map (report.Medit name) (medit_answer (next_number s.plain) o s.plain.buffers)) in
      let line_is : mid ≡ out ++ more_report_text first = d ∙ ap (λ (x : Option MoreReport). out ++ more_report_text (option_to_list x)) said in
      n ∙ ap₂ (λ (x y : List ℕ). x ++ y) line_is (f ∙ sym (text-plain ys))
      ∙ (append_assoc out (more_report_text first) (more_report_text (map report.Plain ys))
      ∙ (ap (λ (x : List ℕ). out ++ x) (sym (text-append first (map report.Plain ys)))
      ∙ ap (λ (x : Option SplitAnswer). out ++ more_report_text (medit_events name x s.plain)) split_is))
