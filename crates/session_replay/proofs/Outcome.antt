-- What an answer says of its input.
use Rattle.std.proofs.Common.{◌≡◌, ℕ, ◌+◌, ◌<◌, ◌≤◌, ◌⊎◌, inl, inr, List, length, refl, sym, ap, ◌∙◌, subst, cond, Bool, true, false, nat_lt, arith, Option, Result, Ok, Err}
use Rattle.std.proofs.lemmas.Bool.{lt-ltb, le-ltb, ltb-true, ltb-false}
use Rattle.session_lines.specs.Cut.{lines_of}
use Rattle.session_lines.specs.Session.{lines_limit}
use Rattle.session_lines.specs.Words.{bad_line, many_line}
use Rattle.session_lines.specs.declared.fault.Word.{Word}
use Rattle.session_lines.specs.declared.fault.DecodeFault.{DecodeFault}
use Rattle.session_lines.specs.declared.fault.DecodeFault.TheVariants.{Lines, Bad, OutOfMemory}
use Rattle.session_more.specs.Decoding.{more_session_of_text}
use Rattle.session_more.specs.declared.session.MoreSession.{MoreSession}
use Rattle.session_io.specs.Causes.{RoseBy}
use Rattle.session_work.specs.Work.{session_limit}
use Rattle.session_io.specs.Traffic.{Had}
use Rattle.session_replay.specs.Replay.{large_line, migrates, reads_session, refusal, Does, HasMany, IsBad, IsGood, IsPrepared, IsReady, IsRefused, IsResponse, IsWritten, RespondsToSource}
use Rattle.session_replay.specs.declared.top.Prepared.{Prepared}
use Rattle.session_replay.specs.declared.top.Prepared.TheVariants as prepared
use Rattle.command_words.specs.declared.command.Task.{Task}
use Rattle.command_words.specs.declared.command.Task.TheVariants as task
use Rattle.op_wire.specs.declared.fault.WireFault.{WireFault}
use Rattle.record_lines.specs.Unpacking.{lines_of_stream}
use Rattle.session_work.specs.Packing.{session_records}
use Rattle.session_replay.specs.declared.top.Status.{Status}
use Rattle.session_replay.specs.declared.top.Status.TheVariants as status
use Rattle.session_replay.proofs.Decoded.{never_memory, session_of_many, too_many}

-- ---- an input that is no session, for a task that reads one

has_many : (c : Task) (input : List ℕ) → reads_session c ≡ true → lines_limit < length (lines_of input) → HasMany c input
has_many (task.Replay workers) input reads h = h
has_many task.Check input reads h = h
has_many task.Migrate input reads h = h
has_many task.Pack input reads h = h
has_many task.Unpack input reads h = absurd (cc reads)

has_bad : (c : Task) (input : List ℕ) (n : ℕ) (w : Word) (line : List ℕ) → reads_session c ≡ true → more_session_of_text (migrates c) input ≡ Err (Bad n w) → line ≡ bad_line n w → IsBad c input line
has_bad (task.Replay workers) input n w line reads is e = (n, w, is, e)
has_bad task.Check input n w line reads is e = (n, w, is, e)
has_bad task.Migrate input n w line reads is e = (n, w, is, e)
has_bad task.Pack input n w line reads is e = inl (n, w, is, e)
has_bad task.Unpack input n w line reads is e = absurd (cc reads)

first : (a st : Status) (t text : List ℕ) → ◌≡◌ {A = Status × List ℕ} (a, t) (st, text) → st ≡ a
first a st t text e = ap (λ p. p.0) (sym e)

second : (a st : Status) (t text : List ℕ) → ◌≡◌ {A = Status × List ℕ} (a, t) (st, text) → text ≡ t
second a st t text e = ap (λ p. p.1) (sym e)

pub refused_answer : (c : Task) (input : List ℕ) (e : DecodeFault) (st : Status) (text : List ℕ) → reads_session c ≡ true → length input ≤ session_limit → more_session_of_text (migrates c) input ≡ Err e → refusal e ≡ (st, text) → IsResponse c input st text
refused_answer c input (Lines n) st text reads le is r =
    inr (inr (first status.TooLarge st many_line text r, inr (le, has_many c input reads (too_many (migrates c) input n is), second status.TooLarge st many_line text r)))
refused_answer c input (Bad n w) st text reads le is r =
    inr (inl (first status.Session st (bad_line n w) text r, le, has_bad c input n w text reads is (second status.Session st (bad_line n w) text r)))
refused_answer c input OutOfMemory st text reads le is r = absurd (never_memory (migrates c) input is)

-- ---- an input of which a task can make something is not refused

other : {P : Type 0} (r : Result MoreSession DecodeFault) (s : MoreSession) (e : DecodeFault) → r ≡ Ok s → r ≡ Err e → P
other r s e a b = let f : Ok s ≡ Err e = sym a ∙ b in cc

-- the records of a session, or the line of the first operation that is too long
records_other : {P : Type 0} (r : Result MoreSession DecodeFault) (s t : MoreSession) (text : List ℕ) (n : ℕ) → r ≡ Ok s → r ≡ Ok t → session_records s ≡ Ok text → session_records t ≡ Err n → P
records_other r s t text n a b k l =
    let same : ◌≡◌ {A = Result MoreSession DecodeFault} (Ok s) (Ok t) = sym a ∙ b in
    let one : s ≡ t = cc same in
    let f : Ok text ≡ Err n = sym k ∙ (ap session_records one ∙ l) in
    cc

unpacks_other : {P : Type 0} (r : Result (List ℕ) WireFault) (text : List ℕ) (e : WireFault) → r ≡ Ok text → r ≡ Err e → P
unpacks_other r text e a b = let f : Ok text ≡ Err e = sym a ∙ b in cc

pub good_bad : {P : Type 0} (c : Task) (input line : List ℕ) → IsGood c input → IsBad c input line → P
good_bad (task.Replay workers) input line g b = other (more_session_of_text false input) g.0 (Bad b.0 b.1) g.1 b.2
good_bad task.Check input line g b = other (more_session_of_text false input) g.0 (Bad b.0 b.1) g.1 b.2
good_bad task.Migrate input line g b = other (more_session_of_text true input) g.0 (Bad b.0 b.1) g.1 b.2
good_bad task.Pack input line g (inl b) = other (more_session_of_text false input) g.1.0 (Bad b.0 b.1) g.1.1 b.2
good_bad task.Pack input line g (inr b) = records_other (more_session_of_text false input) g.1.0 b.0 g.0 b.2.0 g.1.1 b.1 g.1.2 b.2.1
good_bad task.Unpack input line g b = unpacks_other (lines_of_stream input) g.0 b.0 g.1 b.1

pub good_many : {P : Type 0} (c : Task) (input : List ℕ) → IsGood c input → HasMany c input → P
good_many (task.Replay workers) input g h = other (more_session_of_text false input) g.0 (Lines (length (lines_of input))) g.1 (session_of_many false input h)
good_many task.Check input g h = other (more_session_of_text false input) g.0 (Lines (length (lines_of input))) g.1 (session_of_many false input h)
good_many task.Migrate input g h = other (more_session_of_text true input) g.0 (Lines (length (lines_of input))) g.1 (session_of_many true input h)
good_many task.Pack input g h = other (more_session_of_text false input) g.1.0 (Lines (length (lines_of input))) g.1.1 (session_of_many false input h)
good_many task.Unpack input g h = absurd h

pub done_refused : {P : Type 0} (c : Task) (input text : List ℕ) → Does c input text → IsRefused c input → P
done_refused (task.Replay workers) input text d r = other (more_session_of_text false input) d.0 r.0 d.1 r.1
done_refused task.Check input text d r = other (more_session_of_text false input) d.0 r.0 d.1 r.1
done_refused task.Migrate input text d r = other (more_session_of_text true input) d.0 r.0 d.1 r.1
done_refused task.Pack input text d (inl r) = other (more_session_of_text false input) d.0 r.0 d.1 r.1
done_refused task.Pack input text d (inr r) = records_other (more_session_of_text false input) d.0 r.0 text r.2.0 d.1 r.1 d.2 r.2.1
done_refused task.Unpack input text d r = unpacks_other (lines_of_stream input) text r.0 d r.1

-- ---- what a status says

pub record Told (c : Task) (input : List ℕ) (st : Status) (text : List ℕ) : Type 0 where
  pub done : st ≡ status.Done → (length input ≤ session_limit) × Does c input text
  pub session : st ≡ status.Session → (length input ≤ session_limit) × IsBad c input text
  pub large : st ≡ status.TooLarge → ((session_limit < length input) × (text ≡ large_line)) ⊎ ((length input ≤ session_limit) × HasMany c input × (text ≡ many_line))
  pub kinds : (st ≡ status.Done) ⊎ ((st ≡ status.Session) ⊎ (st ≡ status.TooLarge))

differ : {P : Type 0} (a st b : Status) → st ≡ a → st ≡ b → (a ≡ b → ⊥) → P
differ a st b e k n = absurd (n (sym e ∙ k))

pub told : (c : Task) (input : List ℕ) (st : Status) (text : List ℕ) → IsResponse c input st text → Told c input st text
told c input st text (inl w) = record {
  done = λ k. (w.1, w.2);
  session = λ k. differ status.Done st status.Session w.0 k (λ x. cc);
  large = λ k. differ status.Done st status.TooLarge w.0 k (λ x. cc);
  kinds = inl w.0;
}
told c input st text (inr (inl w)) = record {
  done = λ k. differ status.Session st status.Done w.0 k (λ x. cc);
  session = λ k. (w.1, w.2);
  large = λ k. differ status.Session st status.TooLarge w.0 k (λ x. cc);
  kinds = inr (inl w.0);
}
told c input st text (inr (inr w)) = record {
  done = λ k. differ status.TooLarge st status.Done w.0 k (λ x. cc);
  session = λ k. differ status.TooLarge st status.Session w.0 k (λ x. cc);
  large = λ k. w.1;
  kinds = inr (inr w.0);
}

-- ---- what was answered for a source

module _ (c : Task) (left left_after : Option (List ℕ)) (given given_after ends ends_after : ℕ) where
  abbrev Answer : Status → List ℕ → Type 0
  Answer st text = RespondsToSource c left left_after given given_after ends ends_after st text

  pub answered_large : (text : List ℕ) → text ≡ large_line → (input : List ℕ) × Had left input × (session_limit < length input) → RoseBy (session_limit + 1) given given_after → Answer status.TooLarge text
  answered_large text e h r = record {
    input = h.0;
    taken = record { had = h.1; whole = λ le. absurd (omega (arith, h.2)); large = λ _. r };
    response = inr (inr (refl, inl (h.2, e)));
  }

-- ---- what was prepared

pub is_ready : (c : Task) (input : List ℕ) (p : Prepared) → IsPrepared c input p → IsReady p
is_ready c input (prepared.Response st text) h = tt
is_ready c input (prepared.Beside workers s) h = (h.1, h.4)

pub written_response : (c : Task) (input : List ℕ) (p : Prepared) (st : Status) (text : List ℕ) → IsPrepared c input p → IsWritten p st text → IsResponse c input st text
written_response c input (prepared.Response st0 text0) st text h w = subst (λ (s : Status). IsResponse c input s text) (sym w.0) (subst (λ (t : List ℕ). IsResponse c input st0 t) (sym w.1) h)
written_response c input (prepared.Beside workers s) st text h w =
    let d : Does (task.Replay workers) input text = (s, subst (λ (d : Task). more_session_of_text (migrates d) input ≡ Ok s) h.0 h.3, w.1) in
    inl (w.0, h.2, subst (λ (d : Task). Does d input text) (sym h.0) d)
