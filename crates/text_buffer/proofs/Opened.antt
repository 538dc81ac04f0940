-- The fields of a base, of a new document and of a new buffer.
use Rattle.std.proofs.Common.{◌≡◌, ℕ, ◌-◌, ◌^◌, ◌≤◌, List, [], ◌∷◌, length, refl, sym, ap, subst, ◌∙◌, arith}
use Rattle.std.specs.List.{AllByRecursion}
use Rattle.std.specs.Arc.{arc_value}
use Rattle.std.specs.Str.{IsUtf8}
use Rattle.lamport_clock.specs.declared.stamp.Lamport.{Lamport}
use Rattle.op_model.specs.Operations.{last_replica}
use Rattle.op_model.specs.declared.operation.Operation.{Operation}
use Rattle.op_model.specs.declared.limits.Limits.{Limits as LimitsType}
use Rattle.op_model.specs.declared.faults.OpFault.{OpFault}
use Rattle.op_model.specs.Domains.{IsProper}
use Rattle.op_model.specs.Rules.{KeepsRule}
use Rattle.op_model.specs.declared.endings.Endings.{Endings}
use Rattle.op_model.specs.Histories.{History, base, version, clock, bytes_held, entries_held}
use Rattle.op_model.specs.Lawful.{Lawful}
use Rattle.op_model.proofs.histories.Proper.{utf8}
use Rattle.op_model.proofs.texts.Lengths.{text_length}
use Rattle.text_buffer.specs.Bases.{opening_text}
use Rattle.text_buffer.specs.Buffer.{BufferState, IsBuffer}
use Rattle.text_buffer.specs.Document.{IsContent, IsBufferHistory}
use Rattle.text_buffer.specs.DocumentInside.{IsDocumentInside}
use Rattle.text_buffer.specs.declared.document.Document.TheInside.{Inside as DocumentInside}

pub history_opened : (t : List ℕ) → IsUtf8 t → length t ≤ 2 ^ 40 → IsBufferHistory (base t ∷ [])
history_opened t u l =
    let one : History = base t ∷ [] in
    let law : Lawful one = ((t, refl), tt) in
    let proper : AllByRecursion IsProper one = ((omega arith, (u, tt)), tt) in
    record {
      lawful = law;
      proper = proper;
      bytes = (let held : bytes_held one ≡ length t = omega arith in omega arith);
      entries = omega arith;
      utf8 = (utf8 one law proper).0;
      text_bytes = text_length one;
    }

pub IsDocumentInside-opened : (j : DocumentInside) (t : List ℕ) → IsUtf8 t → length t ≤ 2 ^ 40
    → j.operations ≡ base t ∷ [] → j.clock ≡ 2 → arc_value j.version ≡ version (base t ∷ []) → IsContent j.content (base t ∷ []) → j.bytes ≡ length t → j.entries ≡ 0
    → IsDocumentInside j
IsDocumentInside-opened j t u l h clocks versions content bytes entries =
    let one : History = base t ∷ [] in
    let held : bytes_held one ≡ length t = omega arith in
    record {
      clock = clocks ∙ ap clock (sym h);
      version = versions ∙ ap version (sym h);
      content = subst (IsContent j.content) (sym h) content;
      bytes = bytes ∙ sym held ∙ ap bytes_held (sym h);
      entries = entries ∙ ap entries_held (sym h);
      history = subst IsBufferHistory (sym h) (history_opened t u l);
    }

pub IsBuffer-opened : (r : ℕ) (l : LimitsType) (e : Endings) (h w : List Operation) (f : List (Lamport × OpFault)) (t : List ℕ) → IsUtf8 t → KeepsRule e (base t ∷ []) → 1 ≤ r → r ≤ last_replica → l.bytes ≤ 2 ^ 40 → l.entries ≤ 2 ^ 40 - 1 → length t ≤ l.bytes
    → h ≡ base t ∷ [] → w ≡ [] → f ≡ [] → IsBuffer (record { history = h; waiting = w; refused = f; replica = r; limits = l; endings = e })
IsBuffer-opened r l e h w f t u rule low high most_bytes most_entries room he we fe =
    let one : History = base t ∷ [] in
    let k = history_opened t u (omega arith) in
    let held : bytes_held one ≡ length t = omega arith in
    let b : BufferState = record { history = one; waiting = []; refused = []; replica = r; limits = l; endings = e } in
    let same : b ≡ record { history = h; waiting = w; refused = f; replica = r; limits = l; endings = e } = λ i. record { history = sym he i; waiting = sym we i; refused = sym fe i; replica = r; limits = l; endings = e } in
    let state : IsBuffer b = record {
      history = k;
      rule = rule;
      waiting_ascending = tt;
      least_replica = low;
      greatest_replica = high;
      most_bytes = most_bytes;
      most_entries = most_entries;
      bytes = omega arith;
      entries = omega arith;
    } in
    subst IsBuffer same state

-- the text of a base is the one that its document opens with
pub base_alone : (h : List Operation) (t : List ℕ) → h ≡ base t ∷ [] → h ≡ base (opening_text h) ∷ []
base_alone h t e = e ∙ ap (λ (u : List ℕ). base u ∷ []) (sym (ap opening_text e))

-- it is UTF-8
pub base_utf8 : (t : List ℕ) → IsBufferHistory (base t ∷ []) → IsUtf8 t
base_utf8 t k = k.proper.0.1.0
