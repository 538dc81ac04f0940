-- The ends of a queue, and what a worker gives back, may go to another thread where queries and answers may.
use denote.RattleType.{RattleType}
use denote.Enum.Enum.{Enum}
use denote.Enum.Declared.{variants, shape}
use denote.Param.Send.{IsSend, IsSync, LiveAt, SendAt, recorded_send_at, recorded_send_of, enum_send_at, sendable}
use denote.Param.SendFields.{FieldsHave, declared_send, as_row_send}
use denote.Struct.Field.{Field}
use Rattle.std.proofs.Common.{List, [], ◌∷◌, Option, None, Some, Result, Ok, Err}
use Rattle.std.proofs.Crossing.{Arc-send, Vec-send, crosses, frees, send as heap_send, sync as heap_sync}
use Rattle.text_buffer.proofs.Crossing.{snapshot_sent}
use Rattle.snapshot_pub.proofs.Crossing.{reader_sent, told_sent}
use Rattle.crossbeam_queue.proofs.array_queue.Slotted.TheSendSync as slotted
use Rattle.atomic_table.proofs.shared.Seat.TheSendSync as seat
use Rattle.std.specs.contracts.vec.Vec as vec
use Rattle.std.specs.contracts.alloc.Global as heap
use Rattle.std.specs.contracts.impls.GlobalAllocator.TheImpl as alloc
use Rattle.std.specs.contracts.sync.Arc as arc
use Rattle.std.specs.contracts.option.Option as option
use Rattle.std.specs.contracts.result.Result as result
use Rattle.std.specs.contracts.alloc.AllocError as refused
use Rattle.atomic_table.specs.contracts.shared.Seat as seats
use Rattle.crossbeam_queue.specs.contracts.array_queue.Slotted as slots
use Rattle.crossbeam_queue.specs.contracts.array_queue.Doing as doing
use Rattle.crossbeam_queue.specs.contracts.array_queue.Turns as turns
use Rattle.crossbeam_queue.specs.contracts.array_queue.TurnsTableRuleOptionDoingUnit.TheImpl as turns_rule
use Rattle.queries.specs.contracts.queue.Log as log
use Rattle.queries.specs.contracts.queue.InOrder as in_order
use Rattle.queries.specs.contracts.queue.InOrderProtocolEntryLog.TheImpl as in_order_rule
use Rattle.queries.specs.contracts.job.Job as job
use Rattle.queries.specs.contracts.job.Entry as entry
use Rattle.queries.specs.declared.job.Entry.{Entry}
use Rattle.queries.specs.declared.job.Entry.TheVariants as given
use Rattle.queries.specs.contracts.query.Answer as answer
use Rattle.queries.specs.contracts.desk.Desk as desk
use Rattle.queries.specs.contracts.desk.Desk.TheInside as desk_inside
use Rattle.queries.specs.contracts.desk.Done as done
use Rattle.queries.specs.contracts.desk.Done.TheInside as done_inside

pub job_sent : (Q : RattleType) → IsSend Q → IsSend (job.the_row Q)
job_sent Q s = declared_send (job.the_type Q) (search (crosses, sendable), (search (crosses, sendable), (search (s, crosses, sendable), (told_sent, tt))))

entry_parts : (Q : RattleType) → IsSend Q → (d : Entry Q.Denot) → LiveAt SendAt (variants (entry.the_type Q)) ((entry.the_type Q).to d)
entry_parts Q s (given.Job j) = let F = job.the_field Q in (recorded_send_at F.row F.Value F.into F.into_one (job_sent Q s) j, tt)
entry_parts Q s given.End = tt

pub entry_sent : (Q : RattleType) → IsSend Q → IsSend (entry.the_row Q)
entry_sent Q s = let T = entry.the_type Q in recorded_send_of (Enum (shape T)) T.D T.to T.to_one (λ d. enum_send_at (shape T) (T.to d) (entry_parts Q s d))

pub answer_sent : (Q A : RattleType) → IsSend Q → IsSend A → IsSend (answer.the_row Q A)
answer_sent Q A s t = declared_send (answer.the_type Q A) (search (crosses, sendable), (search (crosses, sendable), (search (s, crosses, sendable), (snapshot_sent, (search (t, crosses, sendable), tt)))))

answers_sent : (Q A : RattleType) → IsSend Q → IsSend A → IsSend (vec.the_row (answer.the_row Q A) heap.the_row alloc.ghosts)
answers_sent Q A s t = search (answer_sent Q A s t, crosses, sendable) depth 60 fits 20000

-- the row of each field may go to another thread
abbrev RowsHave : List Field → Type 0
RowsHave [] = Unit {0}
RowsHave (F ∷ Fs) = IsSend F.row × RowsHave Fs

by_rows : (Fs : List Field) → RowsHave Fs → FieldsHave IsSend Fs
by_rows [] h = tt
by_rows (F ∷ Fs) h = (as_row_send F h.0, by_rows Fs h.1)

-- the row of a worker's queue, and what each of its passes does
abbrev doing_row : RattleType → RattleType
doing_row Q = doing.the_row (entry.the_row Q) (log.the_row Q)

abbrev queue_row : RattleType → RattleType
queue_row Q =
    slots.the_row (option.the_row (entry.the_row Q)) (doing_row Q) (turns.the_row in_order.the_row) heap.the_row
    (turns_rule.ghosts (entry.the_row Q) (log.the_row Q) in_order.the_row (in_order_rule.ghosts Q) turns_rule.no_dict) alloc.ghosts

entries_parts : (Q : RattleType) → IsSend Q → (d : Option (Entry Q.Denot)) → LiveAt SendAt (variants (option.the_type (entry.the_row Q))) ((option.the_type (entry.the_row Q)).to d)
entries_parts Q s None = tt
entries_parts Q s (Some e) = let h = entry_sent Q s in ((h.owned e, λ k. h.leaving k e), tt)

entries_sent : (Q : RattleType) → IsSend Q → IsSend (option.the_row (entry.the_row Q))
entries_sent Q s = let T = option.the_type (entry.the_row Q) in recorded_send_of (Enum (shape T)) T.D T.to T.to_one (λ d. enum_send_at (shape T) (T.to d) (entries_parts Q s d))

queue_sent : (Q : RattleType) → IsSend Q → IsSend (queue_row Q)
queue_sent Q s =
    slotted.the_send (option.the_row (entry.the_row Q)) (doing_row Q) (turns.the_row in_order.the_row) heap.the_row
    (turns_rule.ghosts (entry.the_row Q) (log.the_row Q) in_order.the_row (in_order_rule.ghosts Q) turns_rule.no_dict) alloc.ghosts (entries_sent Q s) heap_send frees

queue_shared : (Q : RattleType) → IsSend Q → IsSync (queue_row Q)
queue_shared Q s =
    slotted.the_sync (option.the_row (entry.the_row Q)) (doing_row Q) (turns.the_row in_order.the_row) heap.the_row
    (turns_rule.ghosts (entry.the_row Q) (log.the_row Q) in_order.the_row (in_order_rule.ghosts Q) turns_rule.no_dict) alloc.ghosts (entries_sent Q s) heap_send heap_sync frees

pass_sent : (Q : RattleType) → IsSend Q → IsSend (seats.the_row (option.the_row (entry.the_row Q)) (doing_row Q))
pass_sent Q s = search (entries_sent Q s, seat.the_send, sendable) depth 60 fits 20000

arc_sent : (Q : RattleType) → IsSend Q → IsSend (arc.the_row (queue_row Q) heap.the_row alloc.ghosts)
arc_sent Q s = Arc-send (queue_row Q) (queue_sent Q s) (queue_shared Q s)

desk_rows : (Q : RattleType) → IsSend Q → RowsHave (desk_inside.the_type Q).parts
desk_rows Q s = (arc_sent Q s, (pass_sent Q s, (search (reader_sent, crosses, sendable) depth 60 fits 20000, (search (crosses, sendable), tt))))

desk_inside_sent : (Q : RattleType) → IsSend Q → IsSend (desk_inside.the_row Q)
desk_inside_sent Q s = declared_send (desk_inside.the_type Q) (by_rows (desk_inside.the_type Q).parts (desk_rows Q s))

pub desk_sent : (Q : RattleType) → IsSend Q → IsSend (desk.the_row Q)
desk_sent Q s = search (desk_inside_sent Q s, sendable) depth 60 fits 20000

done_rows : (Q A : RattleType) → IsSend Q → IsSend A → RowsHave (done_inside.the_type Q A).parts
done_rows Q A s t = (pass_sent Q s, (search (reader_sent, crosses, sendable) depth 60 fits 20000, (search (answers_sent Q A s t, crosses, sendable) depth 60 fits 20000, tt)))

done_inside_sent : (Q A : RattleType) → IsSend Q → IsSend A → IsSend (done_inside.the_row Q A)
done_inside_sent Q A s t = declared_send (done_inside.the_type Q A) (by_rows (done_inside.the_type Q A).parts (done_rows Q A s t))

pub done_sent : (Q A : RattleType) → IsSend Q → IsSend A → IsSend (done.the_row Q A)
done_sent Q A s t = search (done_inside_sent Q A s t, sendable) depth 60 fits 20000

pub desks_sent : (Q : RattleType) → IsSend Q → IsSend (vec.the_row (desk.the_row Q) heap.the_row alloc.ghosts)
desks_sent Q s = Vec-send (desk.the_row Q) (desk_sent Q s)

dones_sent : (Q A : RattleType) → IsSend Q → IsSend A → IsSend (vec.the_row (done.the_row Q A) heap.the_row alloc.ghosts)
dones_sent Q A s t = Vec-send (done.the_row Q A) (done_sent Q A s t)

refused_sent : IsSend refused.the_row
refused_sent = search (crosses, sendable)

outcome_parts : (Q A : RattleType) → IsSend Q → IsSend A → (d : Result (vec.the_row (done.the_row Q A) heap.the_row alloc.ghosts).Denot refused.the_row.Denot)
    → LiveAt SendAt (variants (result.the_type (vec.the_row (done.the_row Q A) heap.the_row alloc.ghosts) refused.the_row)) ((result.the_type (vec.the_row (done.the_row Q A) heap.the_row alloc.ghosts) refused.the_row).to d)
outcome_parts Q A s t (Ok v) = let h = dones_sent Q A s t in ((h.owned v, λ k. h.leaving k v), tt)
outcome_parts Q A s t (Err e) = ((refused_sent.owned e, λ k. refused_sent.leaving k e), tt)

pub outcome_sent : (Q A : RattleType) → IsSend Q → IsSend A → IsSend (result.the_row (vec.the_row (done.the_row Q A) heap.the_row alloc.ghosts) refused.the_row)
outcome_sent Q A s t =
    let T = result.the_type (vec.the_row (done.the_row Q A) heap.the_row alloc.ghosts) refused.the_row in
    recorded_send_of (Enum (shape T)) T.D T.to T.to_one (λ d. enum_send_at (shape T) (T.to d) (outcome_parts Q A s t d))
