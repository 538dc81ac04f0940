-- Records read one after the other.
use Rattle.std.proofs.Common.{◌≡◌, ℕ, ◌+◌, ◌<◌, ◌-◌, List, [], ◌∷◌, ◌++◌, length, Some, None, Result, Ok, Err, refl, sym, ap, subst, ◌∙◌, append_assoc, arith, length-append}
use Rattle.std.specs.List.{flat_map, AllByRecursion}
use Rattle.std.proofs.lemmas.List.Concat.{flat_map-append, flat_map-cons}
use Rattle.std.proofs.lemmas.List.{append-nil}
use Rattle.op_model.specs.declared.operation.Operation.{Operation}
use Rattle.op_wire.specs.declared.fault.Word.{Word}
use Rattle.op_wire.specs.declared.fault.Halt.{Halt}
use Rattle.op_wire.specs.declared.fault.Halt.TheVariants as halts
use Rattle.op_wire.specs.declared.fault.WireFault.{WireFault}
use Rattle.op_wire.specs.Spelling.{spelling, HasSpelling}
use Rattle.op_wire.specs.Reading.{IsBytes, record_at}
use Rattle.op_wire.specs.Stream.{Appends, IsFaulty, Halts, fault_at, Fed, bytes_fed, faulted, Finds}
use Rattle.op_wire.proofs.Records.{record-reads, longer}
use Rattle.op_wire.proofs.Turns.{fed_is}

-- what a loop over records keeps
pub record Reached (bytes : List ℕ) (old new : List Operation) (rest : List ℕ) : Type 0 where
  pub so_far : Appends bytes old new rest
  pub fits : IsBytes rest

all-push : (ops : List Operation) (op : Operation) → AllByRecursion HasSpelling ops → HasSpelling op → AllByRecursion HasSpelling (ops ++ op ∷ [])
all-push [] op h k = (k, tt)
all-push (x ∷ ops) op h k = (h.0, all-push ops op h.1 k)

one : (op : Operation) → flat_map spelling (op ∷ []) ≡ spelling op
one op = flat_map-cons spelling op [] ∙ append-nil (spelling op)

pub reached-start : (bytes : List ℕ) (old : List Operation) → IsBytes bytes → Reached bytes old old bytes
reached-start bytes old fits = record { so_far = record { ops = []; appended = sym (append-nil old); splits = record { whole = refl; each = tt } }; fits = fits }

pub reached-more : (bytes : List ℕ) (old new : List Operation) (rest : List ℕ) (op : Operation) (after : List ℕ) → Reached bytes old new rest → record_at rest ≡ Ok (op, after) → Reached bytes old (new ++ op ∷ []) after
reached-more bytes old new rest op after r e =
    let t = record-reads.takes rest (op, after) r.fits e in
    let ops = r.so_far.ops in
    let s = r.so_far.splits in
    let moved : flat_map spelling ops ++ (spelling op ++ after) ≡ flat_map spelling (ops ++ op ∷ []) ++ after =
    sym (append_assoc (flat_map spelling ops) (spelling op) after) ∙ ap (λ (x : List ℕ). x ++ after) (ap (λ (x : List ℕ). flat_map spelling ops ++ x) (sym (one op)) ∙ sym (flat_map-append spelling ops (op ∷ []))) in
    record {
      so_far = record {
        ops = ops ++ op ∷ [];
        appended = ap (λ (x : List Operation). x ++ op ∷ []) r.so_far.appended ∙ append_assoc old ops (op ∷ []);
        splits = record { whole = s.whole ∙ ap (λ (x : List ℕ). flat_map spelling ops ++ x) t.0.parts ∙ moved; each = all-push ops op s.each t.1 };
      };
      fits = t.0.rest_fits;
    }

pub shorter : (rest : List ℕ) (op : Operation) (after : List ℕ) → IsBytes rest → record_at rest ≡ Ok (op, after) → length after < length rest
shorter rest op after fits e =
    let t = record-reads.takes rest (op, after) fits e in
    let l : length rest ≡ length (spelling op) + length after = ap length t.0.parts ∙ length-append (spelling op) after in
    omega (arith, l, longer op)

-- ---- a faulty field

abbrev halted : {X : Type 0} → Word → ℕ → ℕ → Result X Halt
halted w n m = Err (halts.Bad w n m)

halted_is : {X : Type 0} (v w : Word) (k n l m : ℕ) → halted {X = X} v k l ≡ halted w n m → (v ≡ w) × ((k ≡ n) × (l ≡ m))
halted_is v w k n l m e = (cc, (cc, cc))

stops : (bytes : List ℕ) (old new : List Operation) (rest : List ℕ) (w : Word) (n : ℕ) → Reached bytes old new rest → IsFaulty rest w n → Halts bytes old new w n (length rest)
stops bytes old new rest w n r e = record {
  rest = rest;
  reads = r.so_far;
  faulty = e;
  within = record-reads.within rest w n r.fits e;
  part = omega (arith, ap length r.so_far.splits.whole, length-append (flat_map spelling r.so_far.ops) rest);
  size = refl;
}

pub stops_as : {X : Type 0} (bytes : List ℕ) (old new : List Operation) (rest : List ℕ) (v u w : Word) (k l n m : ℕ) → Reached bytes old new rest → IsFaulty rest v k → u ≡ v → l ≡ k → halted {X = X} u l (length rest) ≡ halted w n m → Halts bytes old new w n m
stops_as bytes old new rest v u w k l n m r e p q same =
    let s = halted_is u w l n (length rest) m same in
    rw (← s.0, ← s.1.0, ← s.1.1, p, q) (stops bytes old new rest v k r e)

-- the reader after it
pub finds_fault : (old new : Fed) (piece bytes : List ℕ) (before after : List Operation) (w : Word) (n m at : ℕ) (e : WireFault) → old.fault ≡ None → bytes ≡ old.rest ++ piece → Halts bytes before after w n m
    → e ≡ fault_at w at → at ≡ old.start + length bytes - n → new.start ≡ old.start + length bytes - m → new.rest ≡ [] → new.fault ≡ Some e → Finds e old piece before after new
finds_fault old new piece bytes before after w n m at e sound all h is place start none fault =
    let l : old.start + length bytes ≡ bytes_fed old + length piece = omega (arith, ap length all, length-append old.rest piece) in
    record {
      sound = sound;
      rest = h.rest;
      reads = subst (λ (b : List ℕ). Appends b before after h.rest) all h.reads;
      word = w;
      left = n;
      faulty = h.faulty;
      within = omega (arith, h.within, h.size);
      is = is ∙ ap (fault_at w) (place ∙ ap (λ (k : ℕ). k - n) l);
      answered = fed_is new (faulted (bytes_fed old + length piece) (length h.rest) e) (omega (arith, start, l, h.size)) none fault;
    }
