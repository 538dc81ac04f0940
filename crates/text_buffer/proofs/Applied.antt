-- A document and a buffer after an operation is applied.
use Rattle.op_model.proofs.Elements.{each_append}
use Rattle.std.proofs.Common.{◌≡◌, ℕ, ◌+◌, ◌^◌, ◌≤◌, List, [], ◌∷◌, ◌++◌, length, sym, ap, subst, ◌∙◌, arith, false, None}
use Rattle.std.specs.Arc.{arc_value}
use Rattle.std.specs.List.{AllByRecursion}
use Rattle.lamport_clock.specs.declared.stamp.Lamport.{Lamport}
use Rattle.lamport_clock.specs.Clocks.{clock_after}
use Rattle.lamport_clock.specs.Versions.{raise}
use Rattle.op_model.specs.declared.operation.Operation.{Operation}
use Rattle.op_model.specs.declared.operation.Operation.TheVariants.{Undo}
use Rattle.op_model.specs.declared.operation.UndoOp.{UndoOp}
use Rattle.op_model.specs.declared.faults.OpFault.TheVariants.{Full}
use Rattle.op_model.specs.Sorted.{Ascending, insert_by}
use Rattle.op_model.specs.Domains.{IsProper}
use Rattle.op_model.specs.Operations.{stamp_of, bytes_of, entries_of}
use Rattle.op_model.specs.Histories.{History, version, clock, bytes_held, entries_held}
use Rattle.op_model.specs.Limited.{Excess, excess}
use Rattle.op_model.specs.Answers.{answer, any_stamp}
use Rattle.op_model.specs.Answers.Answer.{Good}
use Rattle.op_model.specs.Lawful.{Lawful}
use Rattle.op_model.specs.Rules.{KeepsRule, answer_under, rule_fault}
use Rattle.op_model.specs.Settled.{full_fault}
use Rattle.op_model.specs.Steps.{older}
use Rattle.op_model.proofs.answers.Under.{under_good}
use Rattle.op_model.proofs.histories.Append.{version-append, clock-append, bytes_held-append}
use Rattle.op_model.proofs.answers.Passed.{map_none, none_map}
use Rattle.op_model.proofs.histories.MoreLawful.{lawful_more}
use Rattle.op_model.proofs.histories.Proper.{utf8}
use Rattle.op_model.proofs.texts.Lengths.{text_length}
use Rattle.op_model.proofs.histories.Growing.{room_in, entries_more}
use Rattle.op_model.proofs.settling.Waiting.{insert_ascends, unlike_waiting}
use Rattle.undo_map.specs.declared.entry.UndoEntry.{UndoEntry}
use Rattle.undo_map.specs.Undos.{undo_entries}
use Rattle.undo_map.proofs.Entries.{entries_within}
use Rattle.text_buffer.specs.Buffer.{BufferState, IsBuffer, rules}
use Rattle.text_buffer.specs.Document.{IsContent, IsBufferHistory, HasRoom}
use Rattle.text_buffer.specs.DocumentInside.{IsDocumentInside}
use Rattle.text_buffer.specs.declared.document.Document.TheInside.{Inside}

-- an operation that passes no limit leaves what is held within them
pub room_of : (b : BufferState) (op : Operation) → full_fault (rules b) b.history op ≡ None → (bytes_held b.history + bytes_of op ≤ b.limits.bytes) × (entries_held b.history + entries_of op ≤ b.limits.entries)
room_of b op f = room_in b.limits b.history (bytes_of op) (entries_of op) (map_none (λ (e : Excess). Full e.unit e.held e.adds) (excess b.limits b.history (bytes_of op) (entries_of op)) f)

-- and an operation passes no limit where what it adds passes none
pub within_limits : (b : BufferState) (op : Operation) (n m : ℕ) → bytes_of op ≡ n → entries_of op ≡ m → excess b.limits b.history n m ≡ None → full_fault (rules b) b.history op ≡ None
within_limits b op n m x y e = none_map (λ (e : Excess). Full e.unit e.held e.adds) (excess b.limits b.history (bytes_of op) (entries_of op))
    (ap (λ z. excess b.limits b.history z (entries_of op)) x ∙ ap (λ z. excess b.limits b.history n z) y ∙ e)

-- there is room for the counts of an undo
pub counts_fit : (h : History) (u : UndoOp) (w : List UndoEntry) → IsBufferHistory h → w ≡ undo_entries h → HasRoom h (Undo u) → length w + length u.counts ≤ 2 ^ 40
counts_fit h u w k e r =
    let held = entries_within h k.lawful in
    let same : length w ≡ length (undo_entries h) = ap length e in
    omega (arith, held, same, r.entries)

-- an operation that passes no limit finds room
pub room_for : (b : BufferState) (op : Operation) → IsBuffer b → full_fault (rules b) b.history op ≡ None → HasRoom b.history op
room_for b op k f =
    let r = room_of b op f in
    record { bytes = omega (arith, r.0, k.most_bytes); entries = omega (arith, r.1, k.most_entries) }

pub IsBufferHistory-applied : (h : History) (op : Operation) → IsBufferHistory h → IsProper op → answer h [] op ≡ Good → HasRoom h op → IsBufferHistory (h ++ op ∷ [])
IsBufferHistory-applied h op k p g r =
    let law : Lawful (h ++ op ∷ []) = lawful_more h op k.lawful g in
    let proper : AllByRecursion IsProper (h ++ op ∷ []) = each_append IsProper h (op ∷ []) k.proper (p, tt) in
    record {
      lawful = law;
      proper = proper;
      bytes = omega (arith, bytes_held-append h op, r.bytes);
      entries = omega (arith, entries_more h op g, r.entries);
      utf8 = (utf8 (h ++ op ∷ []) law proper).0;
      text_bytes = text_length (h ++ op ∷ []);
    }

-- what is held stays far below the end of its type
pub stay_few : (i : Inside) (h : History) (op : Operation) (n m : ℕ) → IsDocumentInside i → i.operations ≡ h → HasRoom h op → n ≡ bytes_of op → m ≡ entries_of op → (i.bytes + n ≤ 2 ^ 40) × (i.entries + m ≤ 2 ^ 40)
stay_few i h op n m k e r x y =
    let b : bytes_held i.operations ≡ bytes_held h = ap bytes_held e in
    let f : entries_held i.operations ≡ entries_held h = ap entries_held e in
    (omega (arith, k.bytes, b, r.bytes, x), omega (arith, k.entries, f, r.entries, y))

-- the clock and the version observe its stamp, it stands last, and the content is that which is then
pub IsDocumentInside-applied : (i j : Inside) (op : Operation) (s : Lamport) → IsDocumentInside i → IsProper op → answer i.operations [] op ≡ Good → HasRoom i.operations op → s ≡ stamp_of op
    → j.operations ≡ i.operations ++ op ∷ [] → j.clock ≡ clock_after i.clock s.value → arc_value j.version ≡ raise (version i.operations) s
    → IsContent j.content (i.operations ++ op ∷ []) → j.bytes ≡ i.bytes + bytes_of op → j.entries ≡ i.entries + entries_of op → IsDocumentInside j
IsDocumentInside-applied i j op s k p g r t items clocks versions content bytes entries =
    record {
      clock = clocks ∙ ap (λ (u : Lamport). clock_after i.clock u.value) t ∙ ap (λ c. clock_after c (stamp_of op).value) k.clock ∙ sym (clock-append i.operations op) ∙ ap clock (sym items);
      version = versions ∙ ap (raise (version i.operations)) t ∙ sym (version-append i.operations op) ∙ ap version (sym items);
      content = subst (IsContent j.content) (sym items) content;
      bytes = omega (arith, bytes, k.bytes, bytes_held-append i.operations op, ap bytes_held items);
      entries = omega (arith, entries, k.entries, entries_more i.operations op g, ap entries_held items);
      history = subst IsBufferHistory (sym items) (IsBufferHistory-applied i.operations op k.history p g r);
    }

-- a buffer whose document has one operation more
pub IsBuffer-put : (b : BufferState) (op : Operation) (h : History) → IsBuffer b → IsBufferHistory h → answer_under b.endings b.history [] op ≡ Good → full_fault (rules b) b.history op ≡ None → h ≡ b.history ++ op ∷ []
    → IsBuffer (record b { history = h })
IsBuffer-put b op h k n g f e =
    let room = room_of b op f in
    let u = under_good b.endings b.history [] op g in
    record {
      history = n;
      rule = subst (KeepsRule b.endings) (sym e) (each_append (λ (o : Operation). rule_fault b.endings o ≡ None) b.history (op ∷ []) k.rule (u.1, tt));
      waiting_ascending = k.waiting_ascending;
      least_replica = k.least_replica;
      greatest_replica = k.greatest_replica;
      most_bytes = k.most_bytes;
      most_entries = k.most_entries;
      bytes = omega (arith, ap bytes_held e, bytes_held-append b.history op, room.0);
      entries = omega (arith, ap entries_held e, entries_more b.history op u.0, room.1);
    }

-- one more waits
pub IsBuffer-deferred : (b : BufferState) (op : Operation) (w : List Operation) → IsBuffer b → any_stamp (b.history ++ b.waiting) op ≡ false → w ≡ insert_by older op b.waiting → IsBuffer (record b { waiting = w })
IsBuffer-deferred b op w k f e = record {
  history = k.history;
  rule = k.rule;
  waiting_ascending = subst (Ascending older) (sym e) (insert_ascends op b.waiting (unlike_waiting b.history b.waiting op f) k.waiting_ascending);
  least_replica = k.least_replica;
  greatest_replica = k.greatest_replica;
  most_bytes = k.most_bytes;
  most_entries = k.most_entries;
  bytes = k.bytes;
  entries = k.entries;
}
