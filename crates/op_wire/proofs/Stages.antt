-- Steps on in an unfinished record.
use Rattle.std.proofs.Common.{◌≡◌, ℕ, suc, ◌+◌, ◌-◌, ◌^◌, ◌<◌, ◌≤◌, inl, inr, Bool, true, false, List, [], ◌∷◌, ◌++◌, length, take, drop, Result, Ok, Err, refl, sym, ap, subst, ◌∙◌, append_assoc, arith, length-append}
use Rattle.std.specs.Prelude.{nat_lt}
use Rattle.std.specs.Int.{w32, to_be_bytes}
use Rattle.std.proofs.lemmas.List.{append-nil, drop_at, take-append-drop, length-take}
use Rattle.lamport_clock.specs.declared.stamp.Lamport.{Lamport}
use Rattle.lamport_clock.specs.Versions.{Entries}
use Rattle.op_model.specs.declared.operation.Piece.{Piece}
use Rattle.op_model.specs.declared.operation.UndoCount.{UndoCount}
use Rattle.op_model.specs.declared.operation.Operation.{Operation}
use Rattle.op_model.specs.declared.operation.Operation.TheVariants.{Edit, Undo}
use Rattle.op_wire.specs.declared.fault.Word.TheVariants.{Long}
use Rattle.op_wire.specs.declared.fault.Stop.{Stop}
use Rattle.op_wire.specs.declared.fault.Stop.TheVariants.{Short, Bad}
use Rattle.op_wire.specs.declared.fault.ReadError.{ReadError}
use Rattle.op_wire.specs.declared.fault.ReadError.TheVariants as errors
use Rattle.op_wire.specs.declared.scan.Stage.{Stage}
use Rattle.op_wire.specs.declared.scan.Stage.TheVariants as stages
use Rattle.op_wire.specs.Spelling.{limit, stamp, entry, piece, count, IsStamp, IsCount}
use Rattle.op_wire.specs.Reading.{IsBytes, ◌>>=◌, Fails, stamp_at, entry_at, entries_at, amount_at, version_at, piece_at, pieces_at, count_at, counts_at, all_pieces_at, all_counts_at, head_at, edit_at, undo_at, record_at}
use Rattle.op_wire.specs.Stages.{first_amount_at, sum_at, kind, good, tail_at, parts, IsShortAt, Leads, pause, PauseCause, IsSeen}
use Rattle.op_wire.proofs.Readers.{Takes-then, IsReader, Passes, more, bind_ok, bind_err, ok_is, never, checked-reads, wide32}
use Rattle.op_wire.proofs.Records.{IsEntry, IsShortPiece, entry-reads, piece-reads, count-reads, stamp-reads}

-- ---- steps

pub pause-cause : {Y : Type 0} (stage : Stage) (bytes : List ℕ) (e : ReadError) (read : Result Y Stop) → Fails e read → (read ≡ Err Short → IsShortAt stage bytes) → PauseCause (pause e) stage bytes
pause-cause stage bytes errors.OutOfMemory read h short = tt
pause-cause stage bytes (errors.Stopped Short) read h short = short h
pause-cause stage bytes (errors.Stopped (Bad w n)) read h short = tt

abbrev pub Step : Stage → List ℕ → Stage → List ℕ → Type 0
Step stage bytes next rest = Leads stage bytes next rest × (length rest < length bytes)

step : (stage next : Stage) (bytes front rest : List ℕ) → bytes ≡ front ++ rest → 0 < length front → ((after : List ℕ) → IsShortAt next (rest ++ after) → IsShortAt stage (bytes ++ after)) → Step stage bytes next rest
step stage next bytes front rest parts some leads = (record { front = front; parts = parts; leads = leads }, omega (arith, some, ap length parts ∙ length-append front rest))

pub stays_there : (stage : Stage) (bytes : List ℕ) → Leads stage bytes stage bytes
stays_there stage bytes = record { front = []; parts = refl; leads = λ after h. h }

pub leads_on : (s t u : Stage) (a b c : List ℕ) → Leads s a t b → Leads t b u c → Leads s a u c
leads_on s t u a b c p q = record {
  front = p.front ++ q.front;
  parts = p.parts ∙ ap (λ (x : List ℕ). p.front ++ x) q.parts ∙ sym (append_assoc p.front q.front c);
  leads = λ after h. p.leads after (q.leads after h);
}

-- ---- numbers of entries, of pieces and of counts

amount-reads : IsReader (to_be_bytes w32) (Passes (2 ^ 32) (nat_lt limit)) amount_at
amount-reads = checked-reads w32 (2 ^ 32) wide32 (nat_lt limit) Long

unit_short : {A : Type 0} (r : Result A Stop) → (r >>= λ _. good) ≡ Err Short → r ≡ Err Short
unit_short (Ok x) e = absurd cc
unit_short (Err d) e = let s : d ≡ Short = cc in rw s refl

-- what was read, by f, with the bytes after it
abbrev seen_by : {A C : Type 0} → (A → C) → A × List ℕ → Result (C × List ℕ) Stop
seen_by f v = Ok (f v.0, v.1)

-- what follows is short if it is short in the whole
two_short : {A B C D : Type 0} (r : Result (A × List ℕ) Stop) (f : A → C) (k : List ℕ → Result (B × List ℕ) Stop) (g : C → B → D)
    → (r >>= λ v. k v.1 >>= λ _. good) ≡ Err Short → ((r >>= seen_by f) >>= λ c. k c.1 >>= seen_by (g c.0)) ≡ Err Short
two_short (Ok x) f k g e = rw (unit_short (k x.1) e) refl
two_short (Err d) f k g e = let s : d ≡ Short = cc in rw s refl

abbrev edit_of : Lamport × Entries → List Piece → Operation
edit_of h ps = Edit (record { stamp = h.0; version = h.1; pieces = ps })

abbrev undo_of : Lamport × Entries → List UndoCount → Operation
undo_of h cs = Undo (record { stamp = h.0; version = h.1; counts = cs })

edit_starts : (bytes rest after : List ℕ) (t : Lamport) (middle : List ℕ) (n : ℕ) → stamp_at (bytes ++ after) ≡ Ok (t, middle ++ after) → amount_at (middle ++ after) ≡ Ok (n, rest ++ after)
    → (entries_at n 0 (rest ++ after) >>= λ v. tail_at false v.1) ≡ Err Short → edit_at (bytes ++ after) ≡ Err Short
unfolding edit_at head_at version_at
edit_starts bytes rest after t middle n p q h = rw (p, q) (two_short (entries_at n 0 (rest ++ after)) (λ v. (t, v)) all_pieces_at edit_of h)

undo_starts : (bytes rest after : List ℕ) (t : Lamport) (middle : List ℕ) (n : ℕ) → stamp_at (bytes ++ after) ≡ Ok (t, middle ++ after) → amount_at (middle ++ after) ≡ Ok (n, rest ++ after)
    → (entries_at n 0 (rest ++ after) >>= λ v. tail_at true v.1) ≡ Err Short → undo_at (bytes ++ after) ≡ Err Short
unfolding undo_at head_at version_at
undo_starts bytes rest after t middle n p q h = rw (p, q) (two_short (entries_at n 0 (rest ++ after)) (λ v. (t, v)) all_counts_at undo_of h)

starts : (is_undo : Bool) (bytes rest after : List ℕ) (t : Lamport) (middle : List ℕ) (n : ℕ) → stamp_at (bytes ++ after) ≡ Ok (t, middle ++ after) → amount_at (middle ++ after) ≡ Ok (n, rest ++ after)
    → (entries_at n 0 (rest ++ after) >>= λ v. tail_at is_undo v.1) ≡ Err Short → record_at (kind is_undo ∷ (bytes ++ after)) ≡ Err Short
unfolding record_at
starts false bytes rest after t middle n p q h = edit_starts bytes rest after t middle n p q h
starts true bytes rest after t middle n p q h = undo_starts bytes rest after t middle n p q h

pub head_leads : (is_undo : Bool) (bytes rest : List ℕ) (n : ℕ) → IsBytes bytes → first_amount_at bytes ≡ Ok (n, rest) → Step stages.Start (kind is_undo ∷ bytes) (stages.Entries is_undo n 0) rest
unfolding first_amount_at
head_leads is_undo bytes rest n fits e =
    let a = bind_ok (stamp_at bytes) (λ t. amount_at t.1) (n, rest) e in
    let t = stamp-reads.takes bytes a.0 fits a.1 in
    let u = amount-reads.takes a.0.1 (n, rest) t.0.rest_fits a.2 in
    let both = Takes-then bytes (stamp a.0.0) a.0.1 (to_be_bytes w32 n) rest t.0 u.0 in
    step stages.Start (stages.Entries is_undo n 0) (kind is_undo ∷ bytes) (kind is_undo ∷ (stamp a.0.0 ++ to_be_bytes w32 n)) rest
    (ap (λ (x : List ℕ). kind is_undo ∷ x) both.parts) (omega arith)
    (λ after h. starts is_undo bytes rest after a.0.0 a.0.1 n
    (more stamp IsStamp stamp_at stamp-reads bytes after a.0 fits a.1)
    (more (to_be_bytes w32) (Passes (2 ^ 32) (nat_lt limit)) amount_at amount-reads a.0.1 after (n, rest) t.0.rest_fits a.2) h)

edit_short : (bytes : List ℕ) → first_amount_at bytes ≡ Err Short → edit_at bytes ≡ Err Short
unfolding first_amount_at edit_at head_at version_at
edit_short bytes e =
    elim (bind_err (stamp_at bytes) (λ t. amount_at t.1) Short e) [
      | inl h ↦ rw h refl
      | inr h ↦ rw (h.1, h.2) refl
    ]

undo_short : (bytes : List ℕ) → first_amount_at bytes ≡ Err Short → undo_at bytes ≡ Err Short
unfolding first_amount_at undo_at head_at version_at
undo_short bytes e =
    elim (bind_err (stamp_at bytes) (λ t. amount_at t.1) Short e) [
      | inl h ↦ rw h refl
      | inr h ↦ rw (h.1, h.2) refl
    ]

pub head_short : (is_undo : Bool) (bytes : List ℕ) → first_amount_at bytes ≡ Err Short → IsShortAt stages.Start (kind is_undo ∷ bytes)
unfolding record_at
head_short false bytes e = edit_short bytes e
head_short true bytes e = undo_short bytes e

-- ---- from the last entry to the pieces or counts

pieces_lead : (least : ℕ) (bytes rest : List ℕ) (n : ℕ) → IsBytes bytes → amount_at bytes ≡ Ok (n, rest) → Step (stages.Entries false 0 least) bytes (stages.Pieces n 0) rest
unfolding entries_at all_pieces_at
pieces_lead least bytes rest n fits e =
    let t = amount-reads.takes bytes (n, rest) fits e in
    step (stages.Entries false 0 least) (stages.Pieces n 0) bytes (to_be_bytes w32 n) rest t.0.parts (omega arith)
    (λ after h. rw (more (to_be_bytes w32) (Passes (2 ^ 32) (nat_lt limit)) amount_at amount-reads bytes after (n, rest) fits e, h) refl)

counts_lead : (least : ℕ) (bytes rest : List ℕ) (n : ℕ) → IsBytes bytes → amount_at bytes ≡ Ok (n, rest) → Step (stages.Entries true 0 least) bytes (stages.Counts n) rest
unfolding entries_at all_counts_at
counts_lead least bytes rest n fits e =
    let t = amount-reads.takes bytes (n, rest) fits e in
    step (stages.Entries true 0 least) (stages.Counts n) bytes (to_be_bytes w32 n) rest t.0.parts (omega arith)
    (λ after h. rw (more (to_be_bytes w32) (Passes (2 ^ 32) (nat_lt limit)) amount_at amount-reads bytes after (n, rest) fits e, h) refl)

pub tail_leads : (is_undo : Bool) (least : ℕ) (bytes rest : List ℕ) (n : ℕ) → IsBytes bytes → amount_at bytes ≡ Ok (n, rest) → Step (stages.Entries is_undo 0 least) bytes (parts is_undo n) rest
tail_leads false least bytes rest n fits e = pieces_lead least bytes rest n fits e
tail_leads true least bytes rest n fits e = counts_lead least bytes rest n fits e

pub tail_short : (is_undo : Bool) (least : ℕ) (bytes : List ℕ) → amount_at bytes ≡ Err Short → IsShortAt (stages.Entries is_undo 0 least) bytes
unfolding entries_at all_pieces_at all_counts_at
tail_short false least bytes e = rw e refl
tail_short true least bytes e = rw e refl

-- ---- elements

-- what follows a list that was read
after_list : {A : Type 0} (r : Result (List A × List ℕ) Stop) (x : A) (k : List ℕ → Result (Unit {0}) Stop) → ((r >>= seen_by (λ (xs : List A). x ∷ xs)) >>= λ v. k v.1) ≡ (r >>= λ v. k v.1)
after_list (Ok v) x k = refl
after_list (Err s) x k = refl

pub entry_leads : (is_undo : Bool) (n least : ℕ) (bytes rest : List ℕ) (e : ℕ × ℕ) → IsBytes bytes → 0 < n → entry_at least bytes ≡ Ok (e, rest) → Step (stages.Entries is_undo n least) bytes (stages.Entries is_undo (n - 1) (e.0 + 1)) rest
unfolding entries_at
entry_leads is_undo n least bytes rest e fits lt h =
    let t = (entry-reads least).takes bytes (e, rest) fits h in
    let k : n ≡ suc (n - 1) = omega arith in
    step (stages.Entries is_undo n least) (stages.Entries is_undo (n - 1) (e.0 + 1)) bytes (entry e) rest t.0.parts (omega arith)
    (λ after s.
    let m = more entry (IsEntry least) (entry_at least) (entry-reads least) bytes after (e, rest) fits h in
    subst (λ (j : ℕ). IsShortAt (stages.Entries is_undo j least) (bytes ++ after)) (sym k)
    (rw m (after_list (entries_at (n - 1) (e.0 + 1) (rest ++ after)) e (tail_at is_undo) ∙ s)))

pub entry_short : (is_undo : Bool) (n least : ℕ) (bytes : List ℕ) → 0 < n → entry_at least bytes ≡ Err Short → IsShortAt (stages.Entries is_undo n least) bytes
unfolding entries_at
entry_short is_undo n least bytes lt h =
    let k : n ≡ suc (n - 1) = omega arith in
    subst (λ (j : ℕ). IsShortAt (stages.Entries is_undo j least) bytes) (sym k) (rw h refl)

one_piece : (n so_far : ℕ) (bytes : List ℕ) (p : Piece × List ℕ) → IsBytes bytes → 0 < n → piece_at so_far bytes ≡ Ok p → Step (stages.Pieces n so_far) bytes (stages.Pieces (n - 1) (so_far + length p.0.text)) p.1
unfolding pieces_at
one_piece n so_far bytes p fits lt h =
    let t = (piece-reads so_far).takes bytes p fits h in
    let k : n ≡ suc (n - 1) = omega arith in
    step (stages.Pieces n so_far) (stages.Pieces (n - 1) (so_far + length p.0.text)) bytes (piece p.0) p.1 t.0.parts (omega arith)
    (λ after s.
    let m = more piece (IsShortPiece so_far) (piece_at so_far) (piece-reads so_far) bytes after p fits h in
    subst (λ (j : ℕ). IsShortAt (stages.Pieces j so_far) (bytes ++ after)) (sym k) (rw (m, s) refl))

pub piece_leads : (n so_far : ℕ) (bytes rest : List ℕ) (sum : ℕ) → IsBytes bytes → 0 < n → sum_at so_far bytes ≡ Ok (sum, rest) → Step (stages.Pieces n so_far) bytes (stages.Pieces (n - 1) sum) rest
unfolding sum_at
piece_leads n so_far bytes rest sum fits lt h =
    let p = bind_ok (piece_at so_far bytes) (λ p. Ok (so_far + length p.0.text, p.1)) (sum, rest) h in
    subst (λ (x : ℕ × List ℕ). Step (stages.Pieces n so_far) bytes (stages.Pieces (n - 1) x.0) x.1) (ok_is (so_far + length p.0.0.text, p.0.1) (sum, rest) p.2) (one_piece n so_far bytes p.0 fits lt p.1)

pub piece_short : (n so_far : ℕ) (bytes : List ℕ) → 0 < n → sum_at so_far bytes ≡ Err Short → IsShortAt (stages.Pieces n so_far) bytes
unfolding sum_at pieces_at
piece_short n so_far bytes lt h =
    let k : n ≡ suc (n - 1) = omega arith in
    elim (bind_err (piece_at so_far bytes) (λ p. Ok (so_far + length p.0.text, p.1)) Short h) [
      | inl e ↦ subst (λ (j : ℕ). IsShortAt (stages.Pieces j so_far) bytes) (sym k) (rw e refl)
      | inr e ↦ never _ _ e.2
    ]

pub count_leads : (n : ℕ) (bytes rest : List ℕ) (c : UndoCount) → IsBytes bytes → 0 < n → count_at bytes ≡ Ok (c, rest) → Step (stages.Counts n) bytes (stages.Counts (n - 1)) rest
unfolding counts_at
count_leads n bytes rest c fits lt h =
    let t = count-reads.takes bytes (c, rest) fits h in
    let k : n ≡ suc (n - 1) = omega arith in
    step (stages.Counts n) (stages.Counts (n - 1)) bytes (count c) rest t.0.parts (omega arith)
    (λ after s.
    let m = more count IsCount count_at count-reads bytes after (c, rest) fits h in
    subst (λ (j : ℕ). IsShortAt (stages.Counts j) (bytes ++ after)) (sym k) (rw (m, s) refl))

pub count_short : (n : ℕ) (bytes : List ℕ) → 0 < n → count_at bytes ≡ Err Short → IsShortAt (stages.Counts n) bytes
unfolding counts_at
count_short n bytes lt h =
    let k : n ≡ suc (n - 1) = omega arith in
    subst (λ (j : ℕ). IsShortAt (stages.Counts j) bytes) (sym k) (rw h refl)

-- ---- bytes that are held

pub seen_at_front : (bytes : List ℕ) → IsSeen bytes 0 stages.Start
seen_at_front bytes = record { within = omega arith; seen = stays_there stages.Start bytes }

drop_more : (n : ℕ) (a b : List ℕ) → n ≤ length a → drop n (a ++ b) ≡ drop n a ++ b
drop_more n a b le =
    let e : a ++ b ≡ take n a ++ (drop n a ++ b) = ap (λ (x : List ℕ). x ++ b) (sym (take-append-drop n a)) ∙ append_assoc (take n a) (drop n a) b in
    ap (drop n) e ∙ drop_at (take n a) (drop n a ++ b) n (omega (arith, length-take n a))

-- more bytes come
pub seen_more : (bytes piece : List ℕ) (at : ℕ) (stage : Stage) → IsSeen bytes at stage → IsSeen (bytes ++ piece) at stage
seen_more bytes piece at stage s =
    let l = length-append bytes piece in
    let d : drop at (bytes ++ piece) ≡ drop at bytes ++ piece = drop_more at bytes piece s.within in
    record {
      within = omega (arith, l, s.within);
      seen = rw d (record {
        front = s.seen.front;
        parts = ap (λ (x : List ℕ). x ++ piece) s.seen.parts ∙ append_assoc s.seen.front (drop at bytes) piece;
        leads = λ after h. subst (IsShortAt stages.Start) (sym (append_assoc bytes piece after)) (s.seen.leads (piece ++ after) (subst (IsShortAt stage) (append_assoc (drop at bytes) piece after) h));
      });
    }

-- further on
pub seen_on : (bytes : List ℕ) (at : ℕ) (stage next : Stage) (rest : List ℕ) → IsSeen bytes at stage → Leads stage (drop at bytes) next rest → IsSeen bytes (length bytes - length rest) next
seen_on bytes at stage next rest s p =
    let q = leads_on stages.Start stage next bytes (drop at bytes) rest s.seen p in
    let l : length bytes ≡ length q.front + length rest = ap length q.parts ∙ length-append q.front rest in
    let d : drop (length bytes - length rest) bytes ≡ rest = ap (drop (length bytes - length rest)) q.parts ∙ drop_at q.front rest (length bytes - length rest) (omega (arith, l)) in
    record { within = omega arith; seen = rw d q }

pub unfinished : (bytes : List ℕ) (at : ℕ) (stage next : Stage) (rest : List ℕ) → IsSeen bytes at stage → Leads stage (drop at bytes) next rest → IsShortAt next rest → record_at bytes ≡ Err Short
unfinished bytes at stage next rest s p h =
    let q = leads_on stages.Start stage next bytes (drop at bytes) rest s.seen p in
    subst (IsShortAt stages.Start) (append-nil bytes) (q.leads [] (subst (IsShortAt next) (sym (append-nil rest)) h))
