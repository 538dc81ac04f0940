-- A stream that is fed piece by piece, and what it unpacks to.
use Rattle.std.proofs.Common.{◌≡◌, ℕ, ◌+◌, ◌-◌, ◌<◌, ◌^◌, ◌⊎◌, inl, inr, List, [], ◌∷◌, ◌++◌, append_assoc, append-nil, length, length-append, take, drop, None, Some, Result, Ok, Err, refl, sym, ap, ap₂, ◌∙◌, subst, arith}
use Rattle.std.specs.List.{AllByRecursion, flat_map}
use Rattle.std.proofs.lemmas.List.Concat.{flat_map-append}
use Rattle.std.proofs.lemmas.List.{drop_at, nil_from_length, take-append-drop, take_at}
use Rattle.op_model.specs.declared.operation.Operation.{Operation}
use Rattle.op_wire.specs.declared.fault.WireFault.{WireFault}
use Rattle.op_wire.specs.declared.fault.WireFault.TheVariants as faults
use Rattle.op_wire.specs.Reading.{IsBytes, record_at}
use Rattle.op_wire.specs.Spelling.{HasSpelling, spelling}
use Rattle.op_wire.specs.Stream.{Appends, Fed, FeedCause, Finds, HasRead, IsUnfinished, Splits, Turn, bytes_fed, fault_at, faulted, finished, fresh, operations_of, operations_unless}
use Rattle.op_wire.proofs.Prefixes.{faults_stay}
use Rattle.op_wire.proofs.Readers.{IsBytes-drop, IsBytes-take}
use Rattle.op_wire.proofs.Whole.{records_are_streams, streams_are_read, streams_are_records}
use Rattle.record_lines.specs.Laws.{RecordsUnpack, UnpackedAreRecords, UnpacksToOne}
use Rattle.record_lines.specs.Lines.{operation_lines}
use Rattle.record_lines.specs.Unpacking.{AreWritten, Unpacks, lines_or_fault, lines_unless, lines_of_stream}

-- ---- what a reader comes to

with_lines : (end : Result (Unit {0}) WireFault) (ops : List Operation) → lines_or_fault (operations_unless end ops) ≡ lines_unless end ops
with_lines (Err e) ops = refl
with_lines (Ok u) ops = refl

pub unpacks_to_one : UnpacksToOne
unfolding lines_of_stream
unpacks_to_one bytes r u = ap lines_or_fault (streams_are_read bytes u.ops u.after u.read) ∙ (with_lines (finished u.after) u.ops ∙ sym u.text)

-- ---- operations that are read

both : (xs ys : List Operation) → AllByRecursion HasSpelling xs → AllByRecursion HasSpelling ys → AllByRecursion HasSpelling (xs ++ ys)
both [] ys h k = k
both (x ∷ xs) ys h k = (h.0, both xs ys h.1 k)

-- records and a rest, and with more bytes further records and another rest
joined : (bytes more : List ℕ) (ops others : List Operation) (rest last : List ℕ) → Splits bytes ops rest → Splits (rest ++ more) others last → Splits (bytes ++ more) (ops ++ others) last
joined bytes more ops others rest last s t = record {
  whole = ap (λ (b : List ℕ). b ++ more) s.whole
      ∙ (append_assoc (flat_map spelling ops) rest more
      ∙ (ap (λ (b : List ℕ). flat_map spelling ops ++ b) t.whole
      ∙ (sym (append_assoc (flat_map spelling ops) (flat_map spelling others) last)
      ∙ ap (λ (b : List ℕ). b ++ last) (sym (flat_map-append spelling ops others)))));
  each = both ops others s.each t.each;
}

-- to a list that was empty, all that it has was appended
of_nothing : (bytes : List ℕ) (before after : List Operation) (rest : List ℕ) → before ≡ [] → Appends bytes before after rest → Splits bytes after rest
of_nothing bytes before after rest none a =
    let same : after ≡ a.ops = a.appended ∙ ap (λ (xs : List Operation). xs ++ a.ops) none in
    subst (λ (xs : List Operation). Splits bytes xs rest) (sym same) a.splits

pub onto_nothing : (bytes : List ℕ) (ops : List Operation) (rest : List ℕ) → Splits bytes ops rest → Appends bytes [] ops rest
onto_nothing bytes ops rest s = record { ops = ops; appended = refl; splits = s }

-- ---- a reader that was fed bytes, and lines

none_read : IsUnfinished []
unfolding record_at
none_read = refl

written-start : (reader : Fed) (lines : List ℕ) → reader ≡ fresh → lines ≡ [] → AreWritten [] reader lines
written-start reader lines new none =
    subst (λ (f : Fed). AreWritten [] f lines) (sym new)
    (record {
      ops = [];
      read = record { sound = refl; reads = onto_nothing [] [] [] (record { whole = refl; each = tt }); unfinished = none_read; counted = refl; still = refl };
      written = none;
    })

-- with a piece more
pub written-more : (came piece : List ℕ) (old new : Fed) (lines text : List ℕ) (before after : List Operation) → before ≡ [] → HasRead old piece before after new → text ≡ lines ++ operation_lines after → AreWritten came old lines
    → AreWritten (came ++ piece) new text
written-more came piece old new lines text before after none r is w = record {
  ops = w.ops ++ after;
  read = record {
    sound = refl;
    reads = onto_nothing (came ++ piece) (w.ops ++ after) new.rest
        (joined came piece w.ops after old.rest new.rest (of_nothing came [] w.ops old.rest refl w.read.reads) (of_nothing (old.rest ++ piece) before after new.rest none r.reads));
    unfinished = r.unfinished;
    counted = omega (arith, r.counted, w.read.counted, length-append came piece);
    still = r.still;
  };
  written = is ∙ (ap (λ (t : List ℕ). t ++ operation_lines after) w.written ∙ sym (flat_map-append _ w.ops after));
}

-- ---- a fault

bytes_within : (bytes front rest after : List ℕ) → bytes ≡ front ++ (rest ++ after) → IsBytes bytes → IsBytes rest
bytes_within bytes front rest after e fits =
    let tail : IsBytes (rest ++ after) = subst IsBytes (ap (drop (length front)) e ∙ drop_at front (rest ++ after) (length front) refl) (IsBytes-drop (length front) bytes fits) in
    subst IsBytes (take_at rest after (length rest) refl) (IsBytes-take (length rest) (rest ++ after) tail)

found : (came piece after : List ℕ) (old new : Fed) (lines : List ℕ) (before into : List Operation) (e : WireFault) → before ≡ [] → Finds e old piece before into new → IsBytes (came ++ (piece ++ after)) → AreWritten came old lines
    → Unpacks (came ++ (piece ++ after)) (Err e)
found came piece after old new lines before into e none f fits w =
    let bytes : List ℕ = came ++ (piece ++ after) in
    let ops : List Operation = w.ops ++ into in
    let s : Splits (came ++ piece) ops f.rest = joined came piece w.ops into old.rest f.rest (of_nothing came [] w.ops old.rest refl w.read.reads) (of_nothing (old.rest ++ piece) before into f.rest none f.reads) in
    let whole : bytes ≡ flat_map spelling ops ++ (f.rest ++ after) =
    sym (append_assoc came piece after) ∙ (ap (λ (b : List ℕ). b ++ after) s.whole ∙ append_assoc (flat_map spelling ops) f.rest after) in
    let stay = faults_stay f.rest after f.word f.left (bytes_within bytes (flat_map spelling ops) f.rest after whole fits) f.faulty in
    let l : length bytes ≡ length came + (length piece + length after) = omega (arith, length-append came (piece ++ after), length-append piece after) in
    let at : bytes_fed old + length piece - f.left ≡ bytes_fed fresh + length bytes - (f.left + length after) = omega (arith, l, w.read.counted) in
    let last : Fed = faulted (bytes_fed fresh + length bytes) (length (f.rest ++ after)) e in
    let finds : Finds e fresh bytes [] ops last = record {
      sound = refl;
      rest = f.rest ++ after;
      reads = onto_nothing bytes ops (f.rest ++ after) (record { whole = whole; each = s.each });
      word = f.word;
      left = f.left + length after;
      faulty = stay.1;
      within = omega (arith, f.within, length-append f.rest after);
      is = f.is ∙ ap (fault_at f.word) at;
      answered = refl;
    } in
    record { ops = ops; after = last; read = inr (e, inr finds); text = refl }

-- the fault of a feed is that of the stream, whatever comes after
pub written-fault : (came piece after : List ℕ) (old new : Fed) (lines : List ℕ) (before into : List Operation) (e : WireFault) → before ≡ [] → FeedCause e old piece before into new → IsBytes (came ++ (piece ++ after)) → AreWritten came old lines
    → (lines_of_stream (came ++ (piece ++ after)) ≡ Err e) ⊎ (e ≡ faults.OutOfMemory)
written-fault came piece after old new lines before into e none (inl answered) fits w = let k : None ≡ Some e = sym w.read.still ∙ answered.0 in cc
written-fault came piece after old new lines before into e none (inr (inl f)) fits w = inl (unpacks_to_one (came ++ (piece ++ after)) (Err e) (found came piece after old new lines before into e none f fits w))
written-fault came piece after old new lines before into e none (inr (inr m)) fits w = inr m.0

-- ---- the end of the stream

pub written-end : (bytes : List ℕ) (reader : Fed) (lines : List ℕ) → AreWritten bytes reader lines → finished reader ≡ Ok tt → lines_of_stream bytes ≡ Ok lines
written-end bytes reader lines w e =
    unpacks_to_one bytes (Ok lines) (record { ops = w.ops; after = reader; read = inl w.read; text = ap Ok w.written ∙ ap (λ r. lines_unless r w.ops) (sym e) })

pub written-cut : (bytes : List ℕ) (reader : Fed) (lines : List ℕ) (e : WireFault) → AreWritten bytes reader lines → finished reader ≡ Err e → lines_of_stream bytes ≡ Err e
written-cut bytes reader lines e w is = unpacks_to_one bytes (Err e) (record { ops = w.ops; after = reader; read = inl w.read; text = ap (λ r. lines_unless r w.ops) (sym is) })

-- ---- a piece at a time

-- the bytes before the rest were fed, and what is written is theirs
abbrev pub IsAhead : List ℕ → List ℕ → Fed → List ℕ → Type 0
IsAhead bytes rest reader lines = (came : List ℕ) × (bytes ≡ came ++ rest) × AreWritten came reader lines

module _ (bytes rest piece after : List ℕ) (reader : Fed) (lines : List ℕ) (parts : rest ≡ piece ++ after) (a : IsAhead bytes rest reader lines) where
  whole : bytes ≡ a.0 ++ (piece ++ after)
  whole = a.1 ∙ ap (λ (r : List ℕ). a.0 ++ r) parts

  pub ahead-fits : length bytes < 2 ^ 64 → bytes_fed reader + length piece < 2 ^ 64
  ahead-fits small = omega (arith, small, a.2.read.counted, ap length whole, length-append a.0 (piece ++ after), length-append piece after)

  pub ahead-more : (new : Fed) (text : List ℕ) → ((came : List ℕ) → AreWritten came reader lines → AreWritten (came ++ piece) new text) → IsAhead bytes after new text
  ahead-more new text more = (a.0 ++ piece, whole ∙ sym (append_assoc a.0 piece after), more a.0 a.2)

  pub ahead-fault : (e : WireFault) → ((came others : List ℕ) → IsBytes (came ++ (piece ++ others)) → AreWritten came reader lines → (lines_of_stream (came ++ (piece ++ others)) ≡ Err e) ⊎ (e ≡ faults.OutOfMemory)) → IsBytes bytes
      → (lines_of_stream bytes ≡ Err e) ⊎ (e ≡ faults.OutOfMemory)
  ahead-fault e fault fits = subst (λ (b : List ℕ). (lines_of_stream b ≡ Err e) ⊎ (e ≡ faults.OutOfMemory)) (sym whole) (fault a.0 after (subst IsBytes whole fits) a.2)

pub ahead-start : (bytes : List ℕ) (reader : Fed) (lines : List ℕ) → reader ≡ fresh → lines ≡ [] → IsAhead bytes bytes reader lines
ahead-start bytes reader lines new none = ([], refl, written-start reader lines new none)

pub ahead-end : (bytes rest : List ℕ) (reader : Fed) (lines : List ℕ) → length rest ≡ 0 → IsAhead bytes rest reader lines → AreWritten bytes reader lines
ahead-end bytes rest reader lines none a =
    let all : bytes ≡ a.0 = a.1 ∙ (ap (λ (r : List ℕ). a.0 ++ r) (nil_from_length rest none) ∙ append-nil a.0) in
    subst (λ (b : List ℕ). AreWritten b reader lines) (sym all) a.2

pub parted : (n : ℕ) (rest front back : List ℕ) → front ≡ take n rest → back ≡ drop n rest → rest ≡ front ++ back
parted n rest front back f b = sym (take-append-drop n rest) ∙ ap₂ (λ (xs ys : List ℕ). xs ++ ys) (sym f) (sym b)

-- ---- laws

pub records_unpack : RecordsUnpack
unfolding lines_of_stream
records_unpack ops each = ap lines_or_fault (records_are_streams ops each)

lines_of : (r : Result (List Operation) WireFault) (text : List ℕ) → lines_or_fault r ≡ Ok text → (ops : List Operation) × (r ≡ Ok ops) × (text ≡ operation_lines ops)
lines_of (Err e) text is = absurd cc
lines_of (Ok ops) text is = (ops, refl, cc)

pub unpacked_are_records : UnpackedAreRecords
unfolding lines_of_stream
unpacked_are_records bytes text fits is =
    let p = lines_of (operations_of bytes) text is in
    let r = streams_are_records bytes p.0 fits p.1 in
    (p.0, r.1, r.0, p.2)
