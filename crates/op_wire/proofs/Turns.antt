-- Feeds one after the other.
use Rattle.std.proofs.Common.{◌≡◌, ℕ, ◌+◌, ◌-◌, ◌<◌, inl, inr, List, [], ◌∷◌, ◌++◌, length, Option, Some, None, Result, Err, refl, sym, ap, subst, ◌∙◌, append_assoc, arith, length-append}
use Rattle.std.specs.List.{flat_map, AllByRecursion, concat}
use Rattle.std.proofs.lemmas.List.{append-nil, take_at, get_or-append-add}
use Rattle.std.proofs.lemmas.List.Concat.{flat_map-append}
use Rattle.op_model.specs.declared.operation.Operation.{Operation}
use Rattle.op_wire.specs.declared.fault.Word.{Word}
use Rattle.op_wire.specs.declared.fault.WireFault.{WireFault}
use Rattle.op_wire.specs.declared.fault.Stop.{Stop}
use Rattle.op_wire.specs.declared.fault.Stop.TheVariants.{Short, Bad}
use Rattle.op_wire.specs.Spelling.{spelling, HasSpelling}
use Rattle.op_wire.specs.Reading.{IsBytes, record_at}
use Rattle.op_wire.specs.Stream.{Appends, fault_at, Fed, fresh, bytes_fed, HasRead, Stays, faulted, Finds, Turn, Turns}
use Rattle.op_wire.specs.Laws.{TurnsAgree, TurnsJoin, CutsDoNotMatter}
use Rattle.op_wire.proofs.Readers.{IsBytes-take}
use Rattle.op_wire.proofs.Prefixes.{one_split, stops_have_none, faults_stay}

front-bytes : (a b : List ℕ) → IsBytes (a ++ b) → IsBytes a
front-bytes a b fits = subst IsBytes (take_at a b (length a) refl) (IsBytes-take (length a) (a ++ b) fits)

-- ---- what was appended, and the rest, are determined

same_split : (bytes : List ℕ) (before after others : List Operation) (rest other : List ℕ) (s t : Stop)
    → Appends bytes before after rest → record_at rest ≡ Err s → Appends bytes before others other → record_at other ≡ Err t
    → (after ≡ others) × (rest ≡ other)
same_split bytes before after others rest other s t a h b k =
    let p = one_split a.ops b.ops rest other a.splits.each b.splits.each (stops_have_none rest s h) (stops_have_none other t k) (sym a.splits.whole ∙ b.splits.whole) in
    (a.appended ∙ ap (λ (ops : List Operation). before ++ ops) p.0 ∙ sym b.appended, p.1)

abbrev stopped : Stop → Result (Operation × List ℕ) Stop
stopped s = Err s

stop_is : (s t : Stop) → stopped s ≡ stopped t → s ≡ t
stop_is s t e = cc

short_is_not_bad : {B : Type 0} (w : Word) (n : ℕ) → Short ≡ Bad w n → B
short_is_not_bad w n e = absurd cc

bad_is : (v w : Word) (k n : ℕ) → Bad v k ≡ Bad w n → (v ≡ w) × (k ≡ n)
bad_is v w k n e = (cc, cc)

none_is_not : {B : Type 0} (o : Option WireFault) (e : WireFault) → o ≡ None → o ≡ Some e → B
none_is_not o e p q = absurd (cc (p, q))

pub fed_is : (x y : Fed) → x.start ≡ y.start → x.rest ≡ y.rest → x.fault ≡ y.fault → x ≡ y
fed_is x y s r f = let a : x ≡ record { start = y.start; rest = y.rest; fault = y.fault } = rw (← s, ← r, ← f) refl in a

read_agrees : (old new other : Fed) (piece : List ℕ) (before after others : List Operation) → HasRead old piece before after new → HasRead old piece before others other → (after ≡ others) × (new ≡ other)
read_agrees old new other piece before after others a b =
    let p = same_split (old.rest ++ piece) before after others new.rest other.rest Short Short a.reads a.unfinished b.reads b.unfinished in
    let l : length new.rest ≡ length other.rest = ap length p.1 in
    (p.0, fed_is new other (omega (arith, l, a.counted, b.counted)) p.1 (a.still ∙ sym b.still))

read_finds_not : {B : Type 0} (e : WireFault) (old new other : Fed) (piece : List ℕ) (before after others : List Operation) → HasRead old piece before after new → Finds e old piece before others other → B
read_finds_not e old new other piece before after others a b =
    let p = same_split (old.rest ++ piece) before after others new.rest b.rest Short (Bad b.word b.left) a.reads a.unfinished b.reads b.faulty in
    short_is_not_bad b.word b.left (stop_is _ _ (sym a.unfinished ∙ ap record_at p.1 ∙ b.faulty))

finds_agree : (e f : WireFault) (old new other : Fed) (piece : List ℕ) (before after others : List Operation) → Finds e old piece before after new → Finds f old piece before others other → (after ≡ others) × (new ≡ other)
finds_agree e f old new other piece before after others a b =
    let p = same_split (old.rest ++ piece) before after others a.rest b.rest (Bad a.word a.left) (Bad b.word b.left) a.reads a.faulty b.reads b.faulty in
    let q = bad_is a.word b.word a.left b.left (stop_is _ _ (sym a.faulty ∙ ap record_at p.1 ∙ b.faulty)) in
    let same : e ≡ f = a.is ∙ rw (q.0, q.1) refl ∙ sym b.is in
    (p.0, a.answered ∙ rw (same, p.1) refl ∙ sym b.answered)

pub turns_agree : TurnsAgree
turns_agree old new other piece before after others (inl a) (inl b) = read_agrees old new other piece before after others a b
turns_agree old new other piece before after others (inl a) (inr (f, inl b)) = none_is_not old.fault f a.sound b.0
turns_agree old new other piece before after others (inl a) (inr (f, inr b)) = read_finds_not f old new other piece before after others a b
turns_agree old new other piece before after others (inr (e, inl a)) (inl b) = none_is_not old.fault e b.sound a.0
turns_agree old new other piece before after others (inr (e, inl a)) (inr (f, inl b)) = (a.1.1 ∙ sym b.1.1, a.1.0 ∙ sym b.1.0)
turns_agree old new other piece before after others (inr (e, inl a)) (inr (f, inr b)) = none_is_not old.fault e b.sound a.0
turns_agree old new other piece before after others (inr (e, inr a)) (inl b) = read_finds_not e old other new piece before others after b a
turns_agree old new other piece before after others (inr (e, inr a)) (inr (f, inl b)) = none_is_not old.fault f a.sound b.0
turns_agree old new other piece before after others (inr (e, inr a)) (inr (f, inr b)) = finds_agree e f old new other piece before after others a b

-- ---- two feeds are one

each_append : (xs ys : List Operation) → AllByRecursion HasSpelling xs → AllByRecursion HasSpelling ys → AllByRecursion HasSpelling (xs ++ ys)
each_append [] ys h k = k
each_append (x ∷ xs) ys h k = (h.0, each_append xs ys h.1 k)

appends_then : (x b : List ℕ) (before between after : List Operation) (rest end : List ℕ) → Appends x before between rest → Appends (rest ++ b) between after end → Appends (x ++ b) before after end
appends_then x b before between after rest end p q =
    let ps = p.ops in
    let qs = q.ops in
    let moved : x ++ b ≡ flat_map spelling (ps ++ qs) ++ end =
    ap (λ (y : List ℕ). y ++ b) p.splits.whole ∙ append_assoc (flat_map spelling ps) rest b ∙ ap (λ (y : List ℕ). flat_map spelling ps ++ y) q.splits.whole
    ∙ sym (append_assoc (flat_map spelling ps) (flat_map spelling qs) end) ∙ ap (λ (y : List ℕ). y ++ end) (sym (flat_map-append spelling ps qs)) in
    record {
      ops = ps ++ qs;
      appended = q.appended ∙ ap (λ (y : List Operation). y ++ qs) p.appended ∙ append_assoc before ps qs;
      splits = record { whole = moved; each = each_append ps qs p.splits.each q.splits.each };
    }

joined : (old next : Fed) (a b : List ℕ) (before between after : List Operation) (end : List ℕ) → HasRead old a before between next → Appends (next.rest ++ b) between after end → Appends (old.rest ++ (a ++ b)) before after end
joined old next a b before between after end p q =
    subst (λ (x : List ℕ). Appends x before after end) (append_assoc old.rest a b) (appends_then (old.rest ++ a) b before between after next.rest end p.reads q)

total : (old next : Fed) (a b : List ℕ) (before between : List Operation) → HasRead old a before between next → bytes_fed next + length b ≡ bytes_fed old + length (a ++ b)
total old next a b before between p = omega (arith, p.counted, length-append a b)

read_then_reads : (old next new : Fed) (a b : List ℕ) (before between after : List Operation) → HasRead old a before between next → HasRead next b between after new → HasRead old (a ++ b) before after new
read_then_reads old next new a b before between after p q = record {
  sound = p.sound;
  reads = joined old next a b before between after new.rest p q.reads;
  unfinished = q.unfinished;
  counted = q.counted ∙ total old next a b before between p;
  still = q.still;
}

read_then_finds : (e : WireFault) (old next new : Fed) (a b : List ℕ) (before between after : List Operation) → HasRead old a before between next → Finds e next b between after new → Finds e old (a ++ b) before after new
read_then_finds e old next new a b before between after p q =
    let t = total old next a b before between p in
    record {
      sound = p.sound;
      rest = q.rest;
      reads = joined old next a b before between after q.rest p q.reads;
      word = q.word;
      left = q.left;
      faulty = q.faulty;
      within = q.within;
      is = q.is ∙ ap (λ (n : ℕ). fault_at q.word (n - q.left)) t;
      answered = q.answered ∙ ap (λ (n : ℕ). faulted n (length q.rest) e) t;
    }

part_bytes : (bytes : List ℕ) (before after : List Operation) (rest : List ℕ) → IsBytes bytes → Appends bytes before after rest → IsBytes rest
part_bytes bytes before after rest fits p i =
    let f = flat_map spelling p.ops in
    subst (λ (n : ℕ). n < 256) (get_or-append-add f rest i 0) (subst IsBytes p.splits.whole fits (length f + i))

-- a fault stays, whatever follows
finds_then : (e : WireFault) (old new : Fed) (a b : List ℕ) (before after : List Operation) → IsBytes (old.rest ++ a) → Finds e old a before after new → Finds e old (a ++ b) before after new
finds_then e old new a b before after fits p =
    let s = faults_stay p.rest b p.word p.left (part_bytes (old.rest ++ a) before after p.rest fits p.reads) p.faulty in
    let l = length-append a b in
    let m = length-append p.rest b in
    let at : bytes_fed old + length a - p.left ≡ bytes_fed old + length (a ++ b) - (p.left + length b) = omega (arith, l) in
    let begins : bytes_fed old + length a - length p.rest ≡ bytes_fed old + length (a ++ b) - length (p.rest ++ b) = omega (arith, l, m) in
    let whole : old.rest ++ (a ++ b) ≡ flat_map spelling p.reads.ops ++ (p.rest ++ b) = sym (append_assoc old.rest a b) ∙ ap (λ (x : List ℕ). x ++ b) p.reads.splits.whole ∙ append_assoc (flat_map spelling p.reads.ops) p.rest b in
    record {
      sound = p.sound;
      rest = p.rest ++ b;
      reads = record { ops = p.reads.ops; appended = p.reads.appended; splits = record { whole = whole; each = p.reads.splits.each } };
      word = p.word;
      left = p.left + length b;
      faulty = s.1;
      within = omega (arith, m, p.within);
      is = p.is ∙ ap (fault_at p.word) at;
      answered = p.answered ∙ ap (λ (n : ℕ). record { start = n; rest = []; fault = Some e }) begins;
    }

fault_is : (old new : Fed) (a : List ℕ) (before after : List Operation) (e : WireFault) → Finds e old a before after new → new.fault ≡ Some e
fault_is old new a before after e p = ap (λ (f : Fed). f.fault) p.answered

-- after a fault a feed changes nothing
still : (e : WireFault) (next new : Fed) (b : List ℕ) (between after : List Operation) → next.fault ≡ Some e → Turn next b between after new → Stays next between new after
still e next new b between after h (inl q) = none_is_not next.fault e q.sound h
still e next new b between after h (inr (f, inl q)) = q.1
still e next new b between after h (inr (f, inr q)) = none_is_not next.fault e q.sound h

pub turns_join : TurnsJoin
turns_join old next new a b before between after fits (inl p) (inl q) = inl (read_then_reads old next new a b before between after p q)
turns_join old next new a b before between after fits (inl p) (inr (f, inl q)) = none_is_not next.fault f p.still q.0
turns_join old next new a b before between after fits (inl p) (inr (f, inr q)) = inr (f, inr (read_then_finds f old next new a b before between after p q))
turns_join old next new a b before between after fits (inr (e, inl p)) q =
    let s = still e next new b between after (ap (λ (x : Fed). x.fault) p.1.0 ∙ p.0) q in
    inr (e, inl (p.0, (s.0 ∙ p.1.0, s.1 ∙ p.1.1)))
turns_join old next new a b before between after fits (inr (e, inr p)) q =
    let s = still e next new b between after (fault_is old next a before between e p) q in
    inr (e, inr (subst (λ (x : Fed). Finds e old (a ++ b) before after x) (sym s.0) (subst (λ (x : List Operation). Finds e old (a ++ b) before x next) (sym s.1) (finds_then e old next a b before between fits p))))

-- ---- any number of feeds

pub gathers : (old next new : Fed) (a : List ℕ) (pieces : List (List ℕ)) (before between after : List Operation) → IsBytes (old.rest ++ (a ++ concat pieces)) → Turn old a before between next → Turns next pieces between after new
    → Turn old (a ++ concat pieces) before after new
gathers old next new a [] before between after fits t s =
    subst (λ (x : List ℕ). Turn old x before after new) (sym (append-nil a)) (subst (λ (x : Fed). Turn old a before after x) (sym s.0) (subst (λ (x : List Operation). Turn old a before x next) (sym s.1) t))
gathers old next new a (p ∷ ps) before between after fits t s =
    let e : (a ++ p) ++ concat ps ≡ a ++ (p ++ concat ps) = append_assoc a p (concat ps) in
    let all : IsBytes (old.rest ++ ((a ++ p) ++ concat ps)) = subst (λ (x : List ℕ). IsBytes (old.rest ++ x)) (sym e) fits in
    let front : IsBytes (old.rest ++ a) = front-bytes (old.rest ++ a) (p ++ concat ps) (subst IsBytes (sym (append_assoc old.rest a (p ++ concat ps))) fits) in
    subst (λ (x : List ℕ). Turn old x before after new) e
    (gathers old s.1 new (a ++ p) ps before s.0 after all (turns_join old next s.1 a p before between s.0 front t s.2) s.3)

pub begins : Turn fresh [] [] [] fresh
unfolding record_at
begins = inl (record { sound = refl; reads = record { ops = []; appended = refl; splits = record { whole = refl; each = tt } }; unfinished = refl; counted = refl; still = refl })

pub cuts_do_not_matter : CutsDoNotMatter
cuts_do_not_matter pieces others after other new same fits e s t =
    turns_agree fresh new same (concat pieces) [] after other (gathers fresh fresh new [] pieces [] [] after fits begins s)
    (subst (λ (x : List ℕ). Turn fresh x [] other same) (sym e) (gathers fresh fresh same [] others [] [] other (subst IsBytes e fits) begins t))
