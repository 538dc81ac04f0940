-- The parts of a record, and records.
use Rattle.std.proofs.Common.{◌≡◌, ℕ, zero, suc, ◌+◌, ◌^◌, ◌<◌, ◌≤◌, ◌⊎◌, inl, inr, Bool, true, false, cond, ltb, List, [], ◌∷◌, ◌++◌, length, take, drop, Option, Some, None, Result, Ok, Err, refl, sym, ap, subst, ◌∙◌, append_assoc, arith, length-append}
use Rattle.std.specs.Prelude.{nat_lt, ◌==◌, IsUtf8}
use Rattle.std.specs.List.{flat_map, AllByRecursion}
use Rattle.std.specs.Str.{is_utf8}
use Rattle.std.specs.Int.{w16, w32, w64, to_be_bytes}
use Rattle.std.proofs.lemmas.Bool.{ltb-false, le-ltb, eqb-true, false_from_ne_true}
use Rattle.std.proofs.lemmas.List.{take_at, drop_at, take-append-drop, length-take, nil_from_length}
use Rattle.std.proofs.lemmas.List.Concat.{flat_map-cons}
use Rattle.std.proofs.lemmas.Str.{IsUtf8-from_is_utf8, is_utf8-from_IsUtf8}
use Rattle.lamport_clock.specs.declared.stamp.Lamport.{Lamport}
use Rattle.lamport_clock.specs.Versions.{Entries, IsVersion, IsVersionFrom}
use Rattle.op_model.specs.declared.operation.Piece.{Piece}
use Rattle.op_model.specs.declared.operation.UndoCount.{UndoCount}
use Rattle.op_model.specs.declared.operation.Operation.{Operation}
use Rattle.op_model.specs.declared.operation.Operation.TheVariants.{Edit, Undo}
use Rattle.op_model.specs.Choice.{first_of, when}
use Rattle.op_wire.specs.declared.fault.Word.{Word}
use Rattle.op_wire.specs.declared.fault.Word.TheVariants.{Kind, Order, Zero, Long, Utf8}
use Rattle.op_wire.specs.declared.fault.Stop.{Stop}
use Rattle.op_wire.specs.declared.fault.Stop.TheVariants.{Short, Bad}
use Rattle.op_wire.specs.Spelling.{limit, stamp, entry, version, text, piece, pieces, count, counts, spelling, long_sum, IsStamp, IsPiece, IsCount, HasSpelling}
use Rattle.op_wire.specs.Reading.{IsBytes, number_at, checked_at, stamp_at, entry_at, entries_at, amount_at, version_at, string_at, text_at, range_at, piece_at, pieces_at, count_at, counts_at, all_pieces_at, all_counts_at, head_at, edit_at, undo_at, record_at}
use Rattle.op_wire.proofs.Readers.{IsBytes-drop, Takes, IsReader, Passes, both, Joins, both-reads, alike-reads, last_step, bind_alike, ok_is, number-reads, checked-reads, wide16, wide32, wide64}

-- ---- lists of what is read by turns

nil-reads : {A : Type 0} (s : A → List ℕ) (R : List A → Type 0) → R [] → ((xs : List A) → R xs → xs ≡ []) → IsReader (flat_map s) R (λ bytes. Ok ([], bytes))
nil-reads {A} s R r only = record {
  takes = λ bytes x fits e. subst (λ (y : List A × List ℕ). Takes bytes (flat_map s y.0) y.1 × R y.0) (ok_is ([], bytes) x e) (record { parts = refl; rest_fits = fits }, r);
  again = λ xs rest h. rw (only xs h) refl;
  within = λ bytes w n fits e. absurd cc;
  stays = λ bytes after w n fits e. absurd cc;
}

cons-joins : {A : Type 0} (P : A → Type 0) (Q : A → List A → Type 0) (R : List A → Type 0)
    → ((x : A) (xs : List A) → R (x ∷ xs) → P x × Q x xs) → (R [] → ⊥) → (xs : List A) → R xs → Joins (λ (x : A) (ys : List A). x ∷ ys) P Q xs
cons-joins P Q R parts never [] h = absurd (never h)
cons-joins P Q R parts never (x ∷ xs) h = (x, xs, (parts x xs h).0, (parts x xs h).1, refl)

cons-reads : {A : Type 0} (f : List ℕ → Result (A × List ℕ) Stop) (g : A → List ℕ → Result (List A × List ℕ) Stop) (s : A → List ℕ) (P : A → Type 0) (Q : A → List A → Type 0) (R : List A → Type 0)
    → ((x : A) (xs : List A) → P x → Q x xs → R (x ∷ xs))
    → ((x : A) (xs : List A) → R (x ∷ xs) → P x × Q x xs)
    → (R [] → ⊥)
    → IsReader s P f → ((x : A) → P x → IsReader (flat_map s) (Q x) (g x)) → IsReader (flat_map s) R (both (λ x xs. x ∷ xs) f g)
cons-reads {A} f g s P Q R fits parts never F G =
    both-reads (λ x xs. x ∷ xs) f g s (λ _ xs. flat_map s xs) P Q (flat_map s) R
    (λ x xs _ _. flat_map-cons s x xs) fits
    (cons-joins P Q R parts never)
    F G

-- ---- stamps and versions

pub stamp-reads : IsReader stamp IsStamp stamp_at
unfolding stamp_at
stamp-reads = both-reads (λ v r. record { value = v; replica = r }) (number_at w32) (λ _. number_at w16) (to_be_bytes w32) (λ _ r. to_be_bytes w16 r) (λ (v : ℕ). v < 2 ^ 32) (λ _ (r : ℕ). r < 2 ^ 16) stamp IsStamp
    (λ a b p q. refl) (λ a b p q. (p, q)) (λ t h. (t.value, t.replica, h.0, h.1, refl)) (number-reads w32 (2 ^ 32) wide32) (λ _ _. number-reads w16 (2 ^ 16) wide16)

above_zero : (v : ℕ) → (v == 0) ≡ false → 0 < v
above_zero zero e = absurd cc
above_zero (suc v) e = omega arith

not_zero : (v : ℕ) → 0 < v → (v == 0) ≡ false
not_zero v h = false_from_ne_true _ (λ t. let z : v ≡ 0 = eqb-true _ _ t in omega (arith, h, z))

abbrev pub IsEntry : ℕ → ℕ × ℕ → Type 0
IsEntry least e = (least ≤ e.0) × ((e.0 < 65536) × ((0 < e.1) × (e.1 < 4294967296)))

pub entry-reads : (least : ℕ) → IsReader entry (IsEntry least) (entry_at least)
unfolding entry_at
entry-reads least =
    let is_low : ℕ → Bool = λ r. nat_lt r least in
    let is_zero : ℕ → Bool = λ v. v == 0 in
    both-reads (λ r v. (r, v)) (checked_at w16 is_low Order) (λ _. checked_at w32 is_zero Zero) (to_be_bytes w16) (λ _ v. to_be_bytes w32 v) (Passes (2 ^ 16) is_low) (λ _. Passes (2 ^ 32) is_zero) entry (IsEntry least)
    (λ a b p q. refl) (λ a b p q. (ltb-false _ _ p.1, (p.0, (above_zero b q.1, q.0))))
    (λ e h. (e.0, e.1, (h.1.0, le-ltb _ _ h.0), (h.1.1.1, not_zero e.1 h.1.1.0), refl))
    (checked-reads w16 (2 ^ 16) wide16 is_low Order) (λ _ _. checked-reads w32 (2 ^ 32) wide32 is_zero Zero)

abbrev pub AreEntries : ℕ → ℕ → Entries → Type 0
AreEntries n least v = (length v ≡ n) × IsVersionFrom least v

pub entries-read : (n least : ℕ) → IsReader (flat_map entry) (AreEntries n least) (entries_at n least)
unfolding entries_at
entries-read zero least = nil-reads entry (AreEntries 0 least) (refl, tt) (λ xs h. nil_from_length xs h.0)
entries-read (suc n) least =
    cons-reads (entry_at least) (λ e. entries_at n (e.0 + 1)) entry (IsEntry least) (λ e v. AreEntries n (e.0 + 1) v) (AreEntries (suc n) least)
    (λ e v p q. (ap suc q.0, (p.0, p.1.0, p.1.1.0, p.1.1.1, subst (λ k. IsVersionFrom k v) (omega arith) q.1)))
    (λ e v h. ((h.1.0, (h.1.1, (h.1.2, h.1.3))), (omega (arith, h.0), subst (λ k. IsVersionFrom k v) (omega arith) h.1.4)))
    (λ h. omega (arith, h.0))
    (entry-reads least) (λ e _. entries-read n (e.0 + 1))

abbrev pub IsShortVersion : Entries → Type 0
IsShortVersion v = IsVersion v × (length v ≤ limit)

pub version-reads : IsReader version IsShortVersion version_at
unfolding version_at
version-reads =
    let join : ℕ → Entries → Entries = λ n v. v in
    let g : ℕ → List ℕ → Result (Entries × List ℕ) Stop = λ n. entries_at n 0 in
    alike-reads version IsShortVersion version_at (both join amount_at g) (λ bytes. bind_alike (amount_at bytes) _ _ (λ n. last_step (entries_at n.0 0 n.1)))
    (both-reads join amount_at g (to_be_bytes w32) (λ _ v. flat_map entry v) (Passes (2 ^ 32) (nat_lt limit)) (λ n v. AreEntries n 0 v) version IsShortVersion
    (λ n v p q. rw q.0 refl) (λ n v p q. (q.1, rw q.0 (ltb-false _ _ p.1)))
    (λ v h. (length v, v, (omega (arith, h.1), le-ltb _ _ h.1), (refl, h.0), refl))
    (checked-reads w32 (2 ^ 32) wide32 (nat_lt limit) Long) (λ n _. entries-read n 0))

-- ---- texts and pieces

abbrev pub IsString : ℕ → List ℕ → Type 0
IsString n t = (length t ≡ n) × (is_utf8 t ≡ true)

string_ok : (b c : Bool) (x y : List ℕ × List ℕ) (k : ℕ) → cond b (Err Short) (cond c (Ok x) (Err (Bad Utf8 k))) ≡ Ok y → (b ≡ false) × ((c ≡ true) × (x ≡ y))
string_ok true c x y k e = absurd cc
string_ok false true x y k e = (refl, (refl, ok_is x y e))
string_ok false false x y k e = absurd cc

string_err : (b c : Bool) (x : List ℕ × List ℕ) (k n : ℕ) (w : Word) → cond b (Err Short) (cond c (Ok x) (Err (Bad Utf8 k))) ≡ Err (Bad w n) → (b ≡ false) × ((c ≡ false) × ((w ≡ Utf8) × (k ≡ n)))
string_err true c x k n w e = absurd cc
string_err false true x k n w e = absurd cc
string_err false false x k n w e = (refl, (refl, (cc, cc)))

take_within : (n : ℕ) (a b : List ℕ) → n ≤ length a → take n (a ++ b) ≡ take n a
take_within n a b le =
    let e : a ++ b ≡ take n a ++ (drop n a ++ b) = ap (λ (x : List ℕ). x ++ b) (sym (take-append-drop n a)) ∙ append_assoc (take n a) (drop n a) b in
    ap (take n) e ∙ take_at (take n a) (drop n a ++ b) n (omega (arith, length-take n a))

pub string-reads : (n : ℕ) → IsReader (λ (t : List ℕ). t) (IsString n) (string_at n)
unfolding string_at
string-reads n = record {
  takes = λ bytes x fits e.
      let h = string_ok (ltb (length bytes) n) (is_utf8 (take n bytes)) (take n bytes, drop n bytes) x (length bytes) e in
      let long : n ≤ length bytes = ltb-false _ _ h.0 in
      subst (λ (y : List ℕ × List ℕ). Takes bytes y.0 y.1 × IsString n y.0) h.1.1
      (record { parts = sym (take-append-drop n bytes); rest_fits = IsBytes-drop n bytes fits }, (omega (arith, length-take n bytes), h.1.0));
  again = λ t rest h.
      let long : ltb (length (t ++ rest)) n ≡ false = le-ltb _ _ (omega (arith, h.0, length-append t rest)) in
      rw (long, take_at t rest n h.0, drop_at t rest n h.0, h.1) refl;
  within = λ bytes w k fits e.
      let h = string_err (ltb (length bytes) n) (is_utf8 (take n bytes)) (take n bytes, drop n bytes) (length bytes) k w e in
      omega (arith, h.1.1.1);
  stays = λ bytes after w k fits e.
      let h = string_err (ltb (length bytes) n) (is_utf8 (take n bytes)) (take n bytes, drop n bytes) (length bytes) k w e in
      let le : n ≤ length bytes = ltb-false _ _ h.0 in
      let long : ltb (length (bytes ++ after)) n ≡ false = le-ltb _ _ (omega (arith, le, length-append bytes after)) in
      rw (long, take_within n bytes after le, h.1.0, length-append bytes after, h.1.1.0, h.1.1.1) refl;
}

abbrev pub IsShortText : ℕ → List ℕ → Type 0
IsShortText so_far t = IsUtf8 t × (so_far + length t ≤ limit)

pub text-reads : (so_far : ℕ) → IsReader text (IsShortText so_far) (text_at so_far)
unfolding text_at
text-reads so_far =
    let is_long : ℕ → Bool = λ n. nat_lt limit (so_far + n) in
    let join : ℕ → List ℕ → List ℕ = λ n t. t in
    let f = checked_at w32 is_long Long in
    alike-reads text (IsShortText so_far) (text_at so_far) (both join f string_at) (λ bytes. bind_alike (f bytes) _ _ (λ n. last_step (string_at n.0 n.1)))
    (both-reads join f string_at (to_be_bytes w32) (λ _ t. t) (Passes (2 ^ 32) is_long) IsString text (IsShortText so_far)
    (λ n t p q. rw q.0 refl) (λ n t p q. (IsUtf8-from_is_utf8 t q.1, rw q.0 (ltb-false _ _ p.1)))
    (λ t h. (length t, t, (omega (arith, h.1), le-ltb _ _ h.1), (refl, is_utf8-from_IsUtf8 t h.0), refl))
    (checked-reads w32 (2 ^ 32) wide32 is_long Long) (λ n _. string-reads n))

abbrev IsRange : ℕ × ℕ → Type 0
IsRange r = (r.0 < 2 ^ 64) × (r.1 < 2 ^ 64)

abbrev range : ℕ × ℕ → List ℕ
range r = to_be_bytes w64 r.0 ++ to_be_bytes w64 r.1

range-reads : IsReader range IsRange range_at
unfolding range_at
range-reads = both-reads (λ s e. (s, e)) (number_at w64) (λ _. number_at w64) (to_be_bytes w64) (λ _ e. to_be_bytes w64 e) (λ (s : ℕ). s < 2 ^ 64) (λ _ (e : ℕ). e < 2 ^ 64) range IsRange
    (λ a b p q. refl) (λ a b p q. (p, q)) (λ t h. (t.0, t.1, h.0, h.1, refl)) (number-reads w64 (2 ^ 64) wide64) (λ _ _. number-reads w64 (2 ^ 64) wide64)

abbrev pub IsShortPiece : ℕ → Piece → Type 0
IsShortPiece so_far p = IsPiece p × (so_far + length p.text ≤ limit)

pub piece-reads : (so_far : ℕ) → IsReader piece (IsShortPiece so_far) (piece_at so_far)
unfolding piece_at
piece-reads so_far =
    let join : ℕ × ℕ → List ℕ → Piece = λ r t. record { start = r.0; end = r.1; text = t } in
    both-reads join range_at (λ _. text_at so_far) range (λ _ t. text t) IsRange (λ _ t. IsShortText so_far t) piece (IsShortPiece so_far)
    (λ r t p q. sym (append_assoc (to_be_bytes w64 r.0) (to_be_bytes w64 r.1) (text t)))
    (λ r t p q. ((p.0, (p.1, q.0)), q.1))
    (λ c h. ((c.start, c.end), c.text, (h.0.0, h.0.1.0), (h.0.1.1, h.1), refl))
    range-reads (λ _ _. text-reads so_far)

abbrev pub ArePieces : ℕ → ℕ → List Piece → Type 0
ArePieces n so_far ps = (length ps ≡ n) × (AllByRecursion IsPiece ps × (long_sum so_far ps ≡ None))

none_chosen : {A : Type 0} (b : Bool) (x : A) (y : Option A) → cond b (Some x) y ≡ None → (b ≡ false) × (y ≡ None)
none_chosen true x y e = absurd cc
none_chosen false x y e = (refl, e)

pub short_step : (so_far : ℕ) (p : Piece) (ps : List Piece) → long_sum so_far (p ∷ ps) ≡ None → (so_far + length p.text ≤ limit) × (long_sum (so_far + length p.text) ps ≡ None)
short_step so_far p ps e =
    let h = none_chosen (ltb limit (so_far + length p.text)) (so_far + length p.text) (long_sum (so_far + length p.text) ps) e in
    (ltb-false _ _ h.0, h.1)

sum_stays : (so_far : ℕ) (p : Piece) (ps : List Piece) → so_far + length p.text ≤ limit → long_sum (so_far + length p.text) ps ≡ None → long_sum so_far (p ∷ ps) ≡ None
sum_stays so_far p ps le e = rw (le-ltb _ _ le) e

pub pieces-read : (n so_far : ℕ) → IsReader (flat_map piece) (ArePieces n so_far) (pieces_at n so_far)
unfolding pieces_at
pieces-read zero so_far = nil-reads piece (ArePieces 0 so_far) (refl, (tt, refl)) (λ xs h. nil_from_length xs h.0)
pieces-read (suc n) so_far =
    cons-reads (piece_at so_far) (λ p. pieces_at n (so_far + length p.text)) piece (IsShortPiece so_far) (λ p ps. ArePieces n (so_far + length p.text) ps) (ArePieces (suc n) so_far)
    (λ p ps h q. (ap suc q.0, ((h.0, q.1.0), sum_stays so_far p ps h.1 q.1.1)))
    (λ p ps h. let s = short_step so_far p ps h.1.1 in ((h.1.0.0, s.0), (omega (arith, h.0), (h.1.0.1, s.1))))
    (λ h. omega (arith, h.0))
    (piece-reads so_far) (λ p _. pieces-read n (so_far + length p.text))

abbrev pub AreShortPieces : List Piece → Type 0
AreShortPieces ps = (length ps ≤ limit) × (AllByRecursion IsPiece ps × (long_sum 0 ps ≡ None))

pub all_pieces-read : IsReader pieces AreShortPieces all_pieces_at
unfolding all_pieces_at
all_pieces-read =
    let join : ℕ → List Piece → List Piece = λ n v. v in
    let g : ℕ → List ℕ → Result (List Piece × List ℕ) Stop = λ n. pieces_at n 0 in
    alike-reads pieces AreShortPieces all_pieces_at (both join amount_at g) (λ bytes. bind_alike (amount_at bytes) _ _ (λ n. last_step (pieces_at n.0 0 n.1)))
    (both-reads join amount_at g (to_be_bytes w32) (λ _ v. flat_map piece v) (Passes (2 ^ 32) (nat_lt limit)) (λ n v. ArePieces n 0 v) pieces AreShortPieces
    (λ n v p q. rw q.0 refl) (λ n v p q. (rw q.0 (ltb-false _ _ p.1), q.1))
    (λ v h. (length v, v, (omega (arith, h.0), le-ltb _ _ h.0), (refl, h.1), refl))
    (checked-reads w32 (2 ^ 32) wide32 (nat_lt limit) Long) (λ n _. pieces-read n 0))

-- ---- counts

pub count-reads : IsReader count IsCount count_at
unfolding count_at
count-reads = both-reads (λ t c. record { edit = t; count = c }) stamp_at (λ _. number_at w32) stamp (λ _ c. to_be_bytes w32 c) IsStamp (λ _ (c : ℕ). c < 2 ^ 32) count IsCount
    (λ a b p q. refl) (λ a b p q. (p, q)) (λ t h. (t.edit, t.count, h.0, h.1, refl)) stamp-reads (λ _ _. number-reads w32 (2 ^ 32) wide32)

abbrev pub AreCounts : ℕ → List UndoCount → Type 0
AreCounts n cs = (length cs ≡ n) × AllByRecursion IsCount cs

pub counts-read : (n : ℕ) → IsReader (flat_map count) (AreCounts n) (counts_at n)
unfolding counts_at
counts-read zero = nil-reads count (AreCounts 0) (refl, tt) (λ xs h. nil_from_length xs h.0)
counts-read (suc n) =
    cons-reads count_at (λ _. counts_at n) count IsCount (λ _ cs. AreCounts n cs) (AreCounts (suc n))
    (λ p ps h q. (ap suc q.0, (h, q.1))) (λ p ps h. (h.1.0, (omega (arith, h.0), h.1.1))) (λ h. omega (arith, h.0))
    count-reads (λ p _. counts-read n)

abbrev pub AreShortCounts : List UndoCount → Type 0
AreShortCounts cs = (length cs ≤ limit) × AllByRecursion IsCount cs

pub all_counts-read : IsReader counts AreShortCounts all_counts_at
unfolding all_counts_at
all_counts-read =
    let join : ℕ → List UndoCount → List UndoCount = λ n v. v in
    alike-reads counts AreShortCounts all_counts_at (both join amount_at counts_at) (λ bytes. bind_alike (amount_at bytes) _ _ (λ n. last_step (counts_at n.0 n.1)))
    (both-reads join amount_at counts_at (to_be_bytes w32) (λ _ v. flat_map count v) (Passes (2 ^ 32) (nat_lt limit)) (λ n v. AreCounts n v) counts AreShortCounts
    (λ n v p q. rw q.0 refl) (λ n v p q. (rw q.0 (ltb-false _ _ p.1), q.1))
    (λ v h. (length v, v, (omega (arith, h.0), le-ltb _ _ h.0), (refl, h.1), refl))
    (checked-reads w32 (2 ^ 32) wide32 (nat_lt limit) Long) (λ n _. counts-read n))

-- ---- records

abbrev IsHead : Lamport × Entries → Type 0
IsHead h = IsStamp h.0 × IsShortVersion h.1

abbrev head : Lamport × Entries → List ℕ
head h = stamp h.0 ++ version h.1

head-reads : IsReader head IsHead head_at
unfolding head_at
head-reads = both-reads (λ t v. (t, v)) stamp_at (λ _. version_at) stamp (λ _ v. version v) IsStamp (λ _ v. IsShortVersion v) head IsHead
    (λ a b p q. refl) (λ a b p q. (p, q)) (λ t h. (t.0, t.1, h.0, h.1, refl)) stamp-reads (λ _ _. version-reads)

-- a record without its kind
abbrev body : Operation → List ℕ
body (Edit e) = stamp e.stamp ++ (version e.version ++ pieces e.pieces)
body (Undo u) = stamp u.stamp ++ (version u.version ++ counts u.counts)

abbrev IsWireEdit : Operation → Type 0
IsWireEdit (Edit e) = IsHead (e.stamp, e.version) × AreShortPieces e.pieces
IsWireEdit (Undo u) = ⊥

abbrev IsWireUndo : Operation → Type 0
IsWireUndo (Edit e) = ⊥
IsWireUndo (Undo u) = IsHead (u.stamp, u.version) × AreShortCounts u.counts

abbrev edit_of : Lamport × Entries → List Piece → Operation
edit_of h ps = Edit (record { stamp = h.0; version = h.1; pieces = ps })

abbrev undo_of : Lamport × Entries → List UndoCount → Operation
undo_of h cs = Undo (record { stamp = h.0; version = h.1; counts = cs })

edit-joins : (op : Operation) → IsWireEdit op → Joins edit_of IsHead (λ _ ps. AreShortPieces ps) op
edit-joins (Edit e) h = ((e.stamp, e.version), e.pieces, h.0, h.1, refl)
edit-joins (Undo u) h = absurd h

undo-joins : (op : Operation) → IsWireUndo op → Joins undo_of IsHead (λ _ cs. AreShortCounts cs) op
undo-joins (Edit e) h = absurd h
undo-joins (Undo u) h = ((u.stamp, u.version), u.counts, h.0, h.1, refl)

edit-reads : IsReader body IsWireEdit edit_at
unfolding edit_at
edit-reads = both-reads edit_of head_at (λ _. all_pieces_at) head (λ _ ps. pieces ps) IsHead (λ _ ps. AreShortPieces ps) body IsWireEdit
    (λ h ps p q. sym (append_assoc (stamp h.0) (version h.1) (pieces ps))) (λ h ps p q. (p, q)) edit-joins head-reads (λ _ _. all_pieces-read)

undo-reads : IsReader body IsWireUndo undo_at
unfolding undo_at
undo-reads = both-reads undo_of head_at (λ _. all_counts_at) head (λ _ cs. counts cs) IsHead (λ _ cs. AreShortCounts cs) body IsWireUndo
    (λ h cs p q. sym (append_assoc (stamp h.0) (version h.1) (counts cs))) (λ h cs p q. (p, q)) undo-joins head-reads (λ _ _. all_counts-read)

-- what has a spelling is an edit or an undo that has its parts short
none_first : {A : Type 0} (b : Bool) (x : A) (xs : List (Option A)) → first_of (when b x ∷ xs) ≡ None → (b ≡ false) × (first_of xs ≡ None)
none_first true x xs e = absurd cc
none_first false x xs e = (refl, e)

none_second : {A : Type 0} (o : Option A) (xs : List (Option A)) → first_of (o ∷ xs) ≡ None → (o ≡ None) × (first_of xs ≡ None)
none_second (Some x) xs e = absurd cc
none_second None xs e = (refl, e)

abbrev IsEither : Operation → Type 0
IsEither op = IsWireEdit op ⊎ IsWireUndo op

either_of : (op : Operation) → HasSpelling op → IsEither op
either_of (Edit e) h =
    let a = none_first (ltb limit (length e.version)) (length e.version) _ h.short in
    let b = none_first (ltb limit (length e.pieces)) (length e.pieces) _ a.1 in
    let c = none_second (long_sum 0 e.pieces) _ b.1 in
    inl ((h.stamp, (h.version, ltb-false _ _ a.0)), (ltb-false _ _ b.0, (h.pieces, c.0)))
either_of (Undo u) h =
    let a = none_first (ltb limit (length u.version)) (length u.version) _ h.short in
    let d = none_first (ltb limit (length u.counts)) (length u.counts) [] a.1 in
    inr ((h.stamp, (h.version, ltb-false _ _ a.0)), (ltb-false _ _ d.0, h.counts))

spelling_of_edit : (op : Operation) → IsWireEdit op → HasSpelling op × (spelling op ≡ 1 ∷ body op)
spelling_of_edit (Edit e) h = (record { stamp = h.0.0; version = h.0.1.0; pieces = h.1.1.0; counts = tt; short = rw (le-ltb _ _ h.0.1.1, le-ltb _ _ h.1.0, h.1.1.1) refl }, refl)
spelling_of_edit (Undo u) h = absurd h

spelling_of_undo : (op : Operation) → IsWireUndo op → HasSpelling op × (spelling op ≡ 2 ∷ body op)
spelling_of_undo (Edit e) h = absurd h
spelling_of_undo (Undo u) h = (record { stamp = h.0.0; version = h.0.1.0; pieces = tt; counts = h.1.1; short = rw (le-ltb _ _ h.0.1.1, le-ltb _ _ h.1.0) refl }, refl)

abbrev bad_kind : ℕ → Result (Operation × List ℕ) Stop
bad_kind n = Err (Bad Kind n)

IsBytes-rest : (b : ℕ) (bytes : List ℕ) → IsBytes (b ∷ bytes) → IsBytes bytes
IsBytes-rest b bytes h i = h (suc i)

behind : (k : ℕ) (bytes text rest : List ℕ) → Takes bytes text rest → Takes (k ∷ bytes) (k ∷ text) rest
behind k bytes text rest t = record { parts = ap (λ (b : List ℕ). k ∷ b) t.parts; rest_fits = t.rest_fits }

record_takes : (bytes : List ℕ) (x : Operation × List ℕ) → IsBytes bytes → record_at bytes ≡ Ok x → Takes bytes (spelling x.0) x.1 × HasSpelling x.0
unfolding record_at
record_takes [] x fits e = absurd cc
record_takes (zero ∷ bytes) x fits e = absurd cc
record_takes (suc zero ∷ bytes) x fits e =
    let t = edit-reads.takes bytes x (IsBytes-rest 1 bytes fits) e in
    let s = spelling_of_edit x.0 t.1 in
    (rw s.1 (behind 1 bytes (body x.0) x.1 t.0), s.0)
record_takes (suc (suc zero) ∷ bytes) x fits e =
    let t = undo-reads.takes bytes x (IsBytes-rest 2 bytes fits) e in
    let s = spelling_of_undo x.0 t.1 in
    (rw s.1 (behind 2 bytes (body x.0) x.1 t.0), s.0)
record_takes (suc (suc (suc k)) ∷ bytes) x fits e = absurd cc

record_again : (x : Operation) (rest : List ℕ) → HasSpelling x → record_at (spelling x ++ rest) ≡ Ok (x, rest)
unfolding record_at
record_again x rest h =
    elim (either_of x h) [
      | inl e ↦ rw (spelling_of_edit x e).1 (edit-reads.again x rest e)
      | inr u ↦ rw (spelling_of_undo x u).1 (undo-reads.again x rest u)
    ]

kind_within : (k n : ℕ) (w : Word) → bad_kind k ≡ Err (Bad w n) → n ≤ k
kind_within k n w e = let l : n ≡ k = cc in omega (arith, l)

record_within : (bytes : List ℕ) (w : Word) (n : ℕ) → IsBytes bytes → record_at bytes ≡ Err (Bad w n) → n ≤ length bytes
unfolding record_at
record_within [] w n fits e = absurd cc
record_within (zero ∷ bytes) w n fits e = kind_within (suc (length bytes)) n w e
record_within (suc zero ∷ bytes) w n fits e = omega (arith, edit-reads.within bytes w n (IsBytes-rest 1 bytes fits) e)
record_within (suc (suc zero) ∷ bytes) w n fits e = omega (arith, undo-reads.within bytes w n (IsBytes-rest 2 bytes fits) e)
record_within (suc (suc (suc k)) ∷ bytes) w n fits e = kind_within (suc (length bytes)) n w e

kind_stays : (bytes after : List ℕ) (w : Word) (n : ℕ) → bad_kind (suc (length bytes)) ≡ Err (Bad w n) → bad_kind (suc (length (bytes ++ after))) ≡ Err (Bad w (n + length after))
kind_stays bytes after w n e =
    let k : n ≡ suc (length bytes) = cc in
    let v : w ≡ Kind = cc in
    let l : suc (length (bytes ++ after)) ≡ n + length after = omega (arith, k, length-append bytes after) in
    rw (l, v) refl

record_stays : (bytes after : List ℕ) (w : Word) (n : ℕ) → IsBytes bytes → record_at bytes ≡ Err (Bad w n) → record_at (bytes ++ after) ≡ Err (Bad w (n + length after))
unfolding record_at
record_stays [] after w n fits e = absurd cc
record_stays (zero ∷ bytes) after w n fits e = kind_stays bytes after w n e
record_stays (suc zero ∷ bytes) after w n fits e = edit-reads.stays bytes after w n (IsBytes-rest 1 bytes fits) e
record_stays (suc (suc zero) ∷ bytes) after w n fits e = undo-reads.stays bytes after w n (IsBytes-rest 2 bytes fits) e
record_stays (suc (suc (suc k)) ∷ bytes) after w n fits e = kind_stays bytes after w n e

pub record-reads : IsReader spelling HasSpelling record_at
record-reads = record { takes = record_takes; again = record_again; within = record_within; stays = record_stays }

pub longer : (op : Operation) → 0 < length (spelling op)
longer (Edit e) = omega arith
longer (Undo u) = omega arith
