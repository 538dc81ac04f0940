-- What the status says once the answer to a source was sent.
use Rattle.std.proofs.Common.{◌≡◌, ℕ, ◌+◌, ◌<◌, ◌≤◌, ◌⊎◌, inl, inr, List, length, refl, sym, ◌∙◌, subst, arith, Option, None, Some, IfSome, Ok, Err}
use Rattle.std.specs.Io.KnownBytes.{Appends}
use Rattle.session_io.specs.Causes.{Rose, RoseBy}
use Rattle.session_work.specs.Work.{session_limit}
use Rattle.session_io.specs.Traffic.{AppendsFront, Had, WasRead}
use Rattle.session_lines.specs.Words.{many_line}
use Rattle.session_replay.specs.Replay.{large_line, Does, HasMany, IsBad, IsGood, IsOutput, IsRefused, IsResponse, RespondsToSource, WasTaken}
use Rattle.command_words.specs.declared.command.Task.{Task}
use Rattle.session_replay.specs.declared.top.Status.{Status}
use Rattle.session_replay.specs.declared.top.Status.TheVariants as status
use Rattle.session_replay.proofs.Outcome.{Told, done_refused, good_bad, good_many, told}

if_had : (left : Option (List ℕ)) (input : List ℕ) (P : List ℕ → Type 0) → Had left input → P input → IfSome left P
if_had None input P h p = tt
if_had (Some xs) input P h p = subst P h p

module _ (c : Task) (left left_after : Option (List ℕ)) (given given_after ends ends_after : ℕ) (written written_after : Option (List ℕ)) (r st : Status) (shown text : List ℕ)
    (is : shown ≡ text) (a : RespondsToSource c left left_after given given_after ends ends_after st text) (either : (r ≡ st) ⊎ (r ≡ status.WriteFault))
    (whole : r ≡ st → Appends written written_after shown) where
  kept : Told c a.input st text
  kept = told c a.input st text a.response

  same_by : (d : Status) → (r ≡ st) ⊎ (r ≡ status.WriteFault) → r ≡ d → (status.WriteFault ≡ d → ⊥) → (st ≡ d) × (r ≡ st)
  same_by d (inl e) k n = (sym e ∙ k, e)
  same_by d (inr e) k n = absurd (n (sym e ∙ k))

  same : (d : Status) → r ≡ d → (status.WriteFault ≡ d → ⊥) → (st ≡ d) × (r ≡ st)
  same d k n = same_by d either k n

  wrote : r ≡ st → (t : List ℕ) → t ≡ text → Appends written written_after t
  wrote e t k = subst (Appends written written_after) (is ∙ sym k) (whole e)

  one_of : (d : Status) → (st ≡ status.Done) ⊎ ((st ≡ status.Session) ⊎ (st ≡ status.TooLarge)) → st ≡ d → (status.Done ≡ d → ⊥) → (status.Session ≡ d → ⊥) → (status.TooLarge ≡ d → ⊥) → ⊥
  one_of d (inl e) k x y z = x (sym e ∙ k)
  one_of d (inr (inl e)) k x y z = y (sym e ∙ k)
  one_of d (inr (inr e)) k x y z = z (sym e ∙ k)

  pub not_sent : (d : Status) → (status.Done ≡ d → ⊥) → (status.Session ≡ d → ⊥) → (status.TooLarge ≡ d → ⊥) → (status.WriteFault ≡ d → ⊥) → r ≡ d → ⊥
  not_sent d x y z n k = one_of d kept.kinds (same d k n).0 x y z

  pub sent_done : r ≡ status.Done → (input : List ℕ) × WasRead left left_after given given_after ends ends_after input
      × (length input ≤ session_limit) × ((output : List ℕ) × Appends written written_after output × Does c input output)
  sent_done k =
      let s = same status.Done k (λ x. cc) in
      let f = kept.done s.0 in
      (a.input, a.taken.whole f.0, f.0, (text, wrote s.1 text refl, f.1))

  pub sent_session : r ≡ status.Session → (input : List ℕ) × WasRead left left_after given given_after ends ends_after input
      × (length input ≤ session_limit) × ((line : List ℕ) × IsBad c input line × Appends written written_after line)
  sent_session k =
      let s = same status.Session k (λ x. cc) in
      let f = kept.session s.0 in
      (a.input, a.taken.whole f.0, f.0, (text, f.1, wrote s.1 text refl))

  pub sent_ended : (r ≡ status.Done) ⊎ (r ≡ status.Session) → Rose ends ends_after
  sent_ended (inl k) = (a.taken.whole (kept.done (same status.Done k (λ x. cc)).0).0).ended
  sent_ended (inr k) = (a.taken.whole (kept.session (same status.Session k (λ x. cc)).0).0).ended

  -- what is sent for too many bytes, or for too many lines
  abbrev TooLarge : Type 0
  TooLarge =
      (IfSome left (λ input. session_limit < length input) × RoseBy (session_limit + 1) given given_after × Appends written written_after large_line)
      ⊎ ((input : List ℕ) × WasRead left left_after given given_after ends ends_after input × (length input ≤ session_limit) × HasMany c input × Appends written written_after many_line)

  large_by : r ≡ st → ((session_limit < length a.input) × (text ≡ large_line)) ⊎ ((length a.input ≤ session_limit) × HasMany c a.input × (text ≡ many_line)) → TooLarge
  large_by e (inl f) = inl (if_had left a.input (λ input. session_limit < length input) a.taken.had f.0, a.taken.large f.0, wrote e large_line (sym f.1))
  large_by e (inr f) = inr (a.input, a.taken.whole f.0, f.0, f.1, wrote e many_line (sym f.2))

  pub sent_large : r ≡ status.TooLarge → TooLarge
  sent_large k = let s = same status.TooLarge k (λ x. cc) in large_by s.1 (kept.large s.0)

  large_output : ((session_limit < length a.input) × (text ≡ large_line)) ⊎ ((length a.input ≤ session_limit) × HasMany c a.input × (text ≡ many_line)) → IsOutput c a.input text
  large_output (inl f) = inr (inl f)
  large_output (inr f) = inr (inr (f.0, inl (f.1, f.2)))

  output_by : (st ≡ status.Done) ⊎ ((st ≡ status.Session) ⊎ (st ≡ status.TooLarge)) → IsOutput c a.input text
  output_by (inl k) = inl (kept.done k)
  output_by (inr (inl k)) = let f = kept.session k in inr (inr (f.0, inr f.1))
  output_by (inr (inr k)) = large_output (kept.large k)

  pub sent_front : (d : Task) → d ≡ c → AppendsFront written written_after shown → (input : List ℕ) × WasTaken left left_after given given_after ends ends_after input
      × ((output : List ℕ) × IsOutput d input output × AppendsFront written written_after output)
  sent_front d e f = (a.input, a.taken, (text, subst (λ (d : Task). IsOutput d a.input text) (sym e) (output_by kept.kinds), subst (AppendsFront written written_after) is f))

  module _ (no_fault : r ≡ status.WriteFault → ⊥) where
    sent_by : (r ≡ st) ⊎ (r ≡ status.WriteFault) → r ≡ st
    sent_by (inl e) = e
    sent_by (inr e) = absurd (no_fault e)

    -- an input of which the task can make something is not refused
    many_by : IsGood c a.input → length a.input ≤ session_limit → ((session_limit < length a.input) × (text ≡ large_line)) ⊎ ((length a.input ≤ session_limit) × HasMany c a.input × (text ≡ many_line)) → st ≡ status.Done
    many_by g le (inl f) = absurd (omega (arith, f.0, le))
    many_by g le (inr f) = good_many c a.input g f.1

    done_by : length a.input ≤ session_limit → IsGood c a.input → IsResponse c a.input st text → st ≡ status.Done
    done_by le g (inl w) = w.0
    done_by le g (inr (inl w)) = good_bad c a.input text g w.2
    done_by le g (inr (inr w)) = many_by g le w.1

    pub completes : IfSome left (λ input. length input ≤ session_limit → IsGood c input → (r ≡ status.Done) ⊎ (r ≡ status.Memory))
    completes =
        if_had left a.input (λ input. length input ≤ session_limit → IsGood c input → (r ≡ status.Done) ⊎ (r ≡ status.Memory)) a.taken.had
        (λ le g. inl (sent_by either ∙ done_by le g a.response))

    none_done : st ≡ status.Done → (session_limit < length a.input) ⊎ IsRefused c a.input → ⊥
    none_done k (inl h) = omega (arith, (kept.done k).0)
    none_done k (inr h) = done_refused c a.input text (kept.done k).1 h

    by_kind : (st ≡ status.Done) ⊎ ((st ≡ status.Session) ⊎ (st ≡ status.TooLarge)) → (session_limit < length a.input) ⊎ IsRefused c a.input
        → (r ≡ status.Session) ⊎ ((r ≡ status.TooLarge) ⊎ (r ≡ status.Memory))
    by_kind (inl k) h = absurd (none_done k h)
    by_kind (inr (inl k)) h = inl (sent_by either ∙ k)
    by_kind (inr (inr k)) h = inr (inl (sent_by either ∙ k))

    pub refuses : IfSome left (λ input. (session_limit < length input) ⊎ IsRefused c input → (r ≡ status.Session) ⊎ ((r ≡ status.TooLarge) ⊎ (r ≡ status.Memory)))
    refuses =
        if_had left a.input (λ input. (session_limit < length input) ⊎ IsRefused c input → (r ≡ status.Session) ⊎ ((r ≡ status.TooLarge) ⊎ (r ≡ status.Memory))) a.taken.had
        (by_kind kept.kinds)

no_fault_by : (st : Status) → (st ≡ status.Done) ⊎ ((st ≡ status.Session) ⊎ (st ≡ status.TooLarge)) → st ≡ status.WriteFault → ⊥
no_fault_by st (inl e) k = let f : status.Done ≡ status.WriteFault = sym e ∙ k in cc
no_fault_by st (inr (inl e)) k = let f : status.Session ≡ status.WriteFault = sym e ∙ k in cc
no_fault_by st (inr (inr e)) k = let f : status.TooLarge ≡ status.WriteFault = sym e ∙ k in cc

pub never_fails : (c : Task) (left left_after : Option (List ℕ)) (given given_after ends ends_after : ℕ) (st : Status) (text : List ℕ)
    → RespondsToSource c left left_after given given_after ends ends_after st text → st ≡ status.WriteFault → ⊥
never_fails c left left_after given given_after ends ends_after st text a = no_fault_by st (told c a.input st text a.response).kinds
