-- A whole stream is read as its operations, or as its first fault, in whatever pieces it comes.
use Rattle.std.proofs.Common.{◌≡◌, ℕ, zero, suc, ◌+◌, ◌-◌, ◌<◌, ◌≤◌, inl, inr, List, [], ◌∷◌, ◌++◌, length, Option, None, Some, Result, Ok, Err, refl, sym, ap, subst, ◌∙◌, append_assoc, arith, length-append}
use Rattle.std.specs.List.{flat_map, AllByRecursion, concat}
use Rattle.std.proofs.lemmas.List.{append-nil, nil_from_length}
use Rattle.std.proofs.lemmas.List.Concat.{flat_map-cons}
use Rattle.op_model.specs.declared.operation.Operation.{Operation}
use Rattle.op_wire.specs.declared.fault.Word.{Word}
use Rattle.op_wire.specs.declared.fault.WireFault.{WireFault}
use Rattle.op_wire.specs.declared.fault.WireFault.TheVariants as faults
use Rattle.op_wire.specs.declared.fault.Stop.{Stop}
use Rattle.op_wire.specs.declared.fault.Stop.TheVariants.{Short, Bad}
use Rattle.op_wire.specs.Spelling.{spelling, HasSpelling}
use Rattle.op_wire.specs.Reading.{IsBytes, Read, record_at}
use Rattle.op_wire.specs.Stream.{Appends, Fed, Finds, IsFaulty, IsUnfinished, Splits, bytes_fed, fault_at, fault_of, finished, finished_with, fresh, operations_in, operations_of, operations_unless, then_others, with_first}
use Rattle.op_wire.specs.Laws.{PiecesAreRead, RecordsAreStreams, StreamsAreRead, StreamsAreRecords}
use Rattle.op_wire.proofs.Prefixes.{spelled_is_read}
use Rattle.op_wire.proofs.Records.{record-reads, longer}
use Rattle.op_wire.proofs.Turns.{begins, gathers}

abbrev Many : Type 0
Many = Result (List Operation) WireFault

-- what the operations of the last bytes of a stream are, if there are no more records than are asked for
abbrev Gives : ℕ → List ℕ → Many → Type 0
Gives size bytes r = (n : ℕ) → length bytes ≤ n → operations_in n size bytes ≡ r

gives-nothing : (size : ℕ) → Gives size [] (Ok [])
gives-nothing size zero le = refl
gives-nothing size (suc n) le = refl

step : (n size : ℕ) (bytes : List ℕ) → 0 < length bytes → operations_in (suc n) size bytes ≡ then_others (operations_in n size) (fault_of size (length bytes)) (record_at bytes)
step n size [] some = absurd (omega (arith, some))
step n size (b ∷ bytes) some = refl

gives-record : (size : ℕ) (op : Operation) (rest : List ℕ) (r : Many) → HasSpelling op → Gives size rest r → Gives size (spelling op ++ rest) (with_first op r)
gives-record size op rest r h more zero le = absurd (omega (arith, le, length-append (spelling op) rest, longer op))
gives-record size op rest r h more (suc n) le =
    let l = length-append (spelling op) rest in
    let bytes : List ℕ = spelling op ++ rest in
    step n size bytes (omega (arith, l, longer op))
    ∙ (ap (then_others (operations_in n size) (fault_of size (length bytes))) (spelled_is_read op rest h) ∙ ap (with_first op) (more n (omega (arith, le, l, longer op))))

gives-stop : (size : ℕ) (rest : List ℕ) (s : Stop) → 0 < length rest → record_at rest ≡ Err s → Gives size rest (Err (fault_of size (length rest) s))
gives-stop size rest s some e zero le = absurd (omega (arith, le, some))
gives-stop size rest s some e (suc n) le = step n size rest some ∙ ap (then_others (operations_in n size) (fault_of size (length rest))) e

-- operations before those that follow them
abbrev with_front : List Operation → Many → Many
with_front [] r = r
with_front (op ∷ ops) r = with_first op (with_front ops r)

gives-records : (size : ℕ) (ops : List Operation) (rest : List ℕ) (r : Many) → AllByRecursion HasSpelling ops → Gives size rest r → Gives size (flat_map spelling ops ++ rest) (with_front ops r)
gives-records size [] rest r h more = more
gives-records size (op ∷ ops) rest r h more =
    let parts : flat_map spelling (op ∷ ops) ++ rest ≡ spelling op ++ (flat_map spelling ops ++ rest) = ap (λ (b : List ℕ). b ++ rest) (flat_map-cons spelling op ops) ∙ append_assoc (spelling op) (flat_map spelling ops) rest in
    subst (λ (bytes : List ℕ). Gives size bytes (with_first op (with_front ops r))) (sym parts)
    (gives-record size op (flat_map spelling ops ++ rest) (with_front ops r) h.0 (gives-records size ops rest r h.1 more))

front_ok : (ops : List Operation) → with_front ops (Ok []) ≡ Ok ops
front_ok [] = refl
front_ok (op ∷ ops) = ap (with_first op) (front_ok ops)

front_err : (ops : List Operation) (e : WireFault) → with_front ops (Err e) ≡ Err e
front_err [] e = refl
front_err (op ∷ ops) e = ap (with_first op) (front_err ops e)

-- ---- streams

stream_gives : (bytes : List ℕ) (r : Many) → Gives (length bytes) bytes r → operations_of bytes ≡ r
unfolding operations_of
stream_gives bytes r gives = gives (length bytes) (omega arith)

all_of : (bytes : List ℕ) (ops : List Operation) → Splits bytes ops [] → operations_of bytes ≡ Ok ops
all_of bytes ops s =
    stream_gives bytes (with_front ops (Ok []))
    (subst (λ (b : List ℕ). Gives (length bytes) b (with_front ops (Ok []))) (sym s.whole) (gives-records (length bytes) ops [] (Ok []) s.each (gives-nothing (length bytes))))
    ∙ front_ok ops

stop_of : (bytes : List ℕ) (ops : List Operation) (rest : List ℕ) (s : Stop) → Splits bytes ops rest → 0 < length rest → record_at rest ≡ Err s → operations_of bytes ≡ Err (fault_of (length bytes) (length rest) s)
stop_of bytes ops rest s p some e =
    let fault : WireFault = fault_of (length bytes) (length rest) s in
    stream_gives bytes (with_front ops (Err fault))
    (subst (λ (b : List ℕ). Gives (length bytes) b (with_front ops (Err fault))) (sym p.whole) (gives-records (length bytes) ops rest (Err fault) p.each (gives-stop (length bytes) rest s some e)))
    ∙ front_err ops fault

-- ---- what a reader comes to

splits_of : (bytes : List ℕ) (ops : List Operation) (rest : List ℕ) → Appends bytes [] ops rest → Splits bytes ops rest
splits_of bytes ops rest a = subst (λ (xs : List Operation). Splits bytes xs rest) (sym a.appended) a.splits

-- at the end of a stream that has no faulty field
read_to : (bytes : List ℕ) (ops : List Operation) (start : ℕ) (rest : List ℕ) → Splits bytes ops rest → IsUnfinished rest → start ≡ length bytes - length rest → operations_of bytes ≡ operations_unless (finished_with start rest None) ops
read_to bytes ops start [] s unfinished at = all_of bytes ops s
read_to bytes ops start (b ∷ rest) s unfinished at = stop_of bytes ops (b ∷ rest) Short s (omega arith) unfinished ∙ ap (λ (n : ℕ). Err (faults.Cut n)) (sym at)

none_is_bad : {A : Type 0} (word : Word) (n : ℕ) → record_at [] ≡ Err (Bad word n) → A
unfolding record_at
none_is_bad word n e = absurd cc

some_left : (rest : List ℕ) (word : Word) (n : ℕ) → IsFaulty rest word n → 0 < length rest
some_left [] word n e = none_is_bad word n e
some_left (b ∷ rest) word n e = omega arith

found_in : (bytes : List ℕ) (ops : List Operation) (e : WireFault) (reader : Fed) → Finds e fresh bytes [] ops reader → operations_of bytes ≡ Err e
found_in bytes ops e reader f =
    let s = splits_of bytes ops f.rest f.reads in
    let at : bytes_fed fresh + length bytes - f.left ≡ length bytes - f.left = omega arith in
    let is : e ≡ fault_at f.word (length bytes - f.left) = f.is ∙ ap (fault_at f.word) at in
    stop_of bytes ops f.rest (Bad f.word f.left) s (some_left f.rest f.word f.left f.faulty) f.faulty ∙ ap (λ (x : WireFault). Err x) (sym is)

pub streams_are_read : StreamsAreRead
streams_are_read bytes ops reader (inl r) =
    read_to bytes ops reader.start reader.rest (splits_of bytes ops reader.rest r.reads) r.unfinished (omega (arith, r.counted))
    ∙ ap (λ (fault : Option WireFault). operations_unless (finished_with reader.start reader.rest fault) ops) (sym r.still)
streams_are_read bytes ops reader (inr (e, inl k)) = let none : None ≡ Some e = k.0 in absurd cc
streams_are_read bytes ops reader (inr (e, inr f)) = found_in bytes ops e reader f ∙ ap (λ (g : Fed). operations_unless (finished g) ops) (sym f.answered)

pub pieces_are_read : PiecesAreRead
pieces_are_read pieces ops reader fits t = streams_are_read (concat pieces) ops reader (gathers fresh fresh reader [] pieces [] [] ops fits begins t)

-- ---- streams and records

pub records_are_streams : RecordsAreStreams
records_are_streams ops each = all_of (flat_map spelling ops) ops (record { whole = sym (append-nil (flat_map spelling ops)); each = each })

abbrev AreRecords : List ℕ → List Operation → Type 0
AreRecords bytes ops = (bytes ≡ flat_map spelling ops) × AllByRecursion HasSpelling ops

abbrev good : List Operation → Many
good ops = Ok ops

many_is : (x y : List Operation) → good x ≡ good y → x ≡ y
many_is x y e = cc

nothing_is : (bytes : List ℕ) (ops : List Operation) → bytes ≡ [] → [] ≡ ops → AreRecords bytes ops
nothing_is bytes ops none same = subst (AreRecords bytes) same (none, tt)

parted : (op : Operation) (r : Many) (ops : List Operation) → with_first op r ≡ Ok ops → (others : List Operation) × (r ≡ Ok others) × (ops ≡ op ∷ others)
parted op (Ok others) ops e = (others, refl, sym (many_is (op ∷ others) ops e))
parted op (Err fault) ops e = absurd cc

first_then : (n size : ℕ) (bytes : List ℕ) (ops : List Operation) (read : Read Operation) → IsBytes bytes → record_at bytes ≡ read → length bytes ≤ suc n
    → ((rest : List ℕ) (others : List Operation) → length rest ≤ n → IsBytes rest → operations_in n size rest ≡ Ok others → AreRecords rest others)
    → then_others (operations_in n size) (fault_of size (length bytes)) read ≡ Ok ops → AreRecords bytes ops
first_then n size bytes ops (Err stop) fits is le others e = absurd cc
first_then n size bytes ops (Ok first) fits is le others e =
    let p = parted first.0 (operations_in n size first.1) ops e in
    let t = record-reads.takes bytes first fits is in
    let l : length bytes ≡ length (spelling first.0) + length first.1 = ap length t.0.parts ∙ length-append (spelling first.0) first.1 in
    let rest = others first.1 p.0 (omega (arith, l, le, longer first.0)) t.0.rest_fits p.1 in
    let whole : bytes ≡ flat_map spelling (first.0 ∷ p.0) = t.0.parts ∙ (ap (λ (b : List ℕ). spelling first.0 ++ b) rest.0 ∙ sym (flat_map-cons spelling first.0 p.0)) in
    subst (AreRecords bytes) (sym p.2) (whole, (t.1, rest.1))

records_in : (n size : ℕ) (bytes : List ℕ) (ops : List Operation) → length bytes ≤ n → IsBytes bytes → operations_in n size bytes ≡ Ok ops → AreRecords bytes ops
records_in zero size bytes ops le fits e = nothing_is bytes ops (nil_from_length bytes (omega (arith, le))) (many_is [] ops e)
records_in (suc n) size [] ops le fits e = nothing_is [] ops refl (many_is [] ops e)
records_in (suc n) size (b ∷ bytes) ops le fits e = first_then n size (b ∷ bytes) ops (record_at (b ∷ bytes)) fits refl le (records_in n size) e

pub streams_are_records : StreamsAreRecords
unfolding operations_of
streams_are_records bytes ops fits e = records_in (length bytes) (length bytes) bytes ops (omega arith) fits e
