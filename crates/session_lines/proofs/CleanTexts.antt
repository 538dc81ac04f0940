-- A session of version 1 that is read to be migrated brings no text with a CR into its buffers.
use Rattle.std.proofs.Common.{◌≡◌, ℕ, ◌+◌, Bool, true, false, cond, ◌&&◌, nat_lt, List, [], ◌∷◌, ◌++◌, length, Option, Some, None, Result, Ok, Err, refl, sym, ap, ◌∙◌, subst}
use Rattle.std.specs.Prelude.{⊤}
use Rattle.std.specs.List.{AllByRecursion, list_any}
use Rattle.serde_json.specs.Data.{Data}
use Rattle.op_model.specs.Choice.{first_of, when}
use Rattle.op_model.specs.Rules.{is_return}
use Rattle.session_lines.specs.Cut.{lines_of}
use Rattle.session_lines.specs.Forms.{line_of_value}
use Rattle.session_lines.specs.Heading.{header_of_value}
use Rattle.session_lines.specs.Json.{value_of}
use Rattle.session_lines.specs.Session.{bars_return, brings_return, form_or_word, header_of, header_or_word, is_known, is_named, is_numbered, line_of, line_or_word, lines_limit, operation_count, rest_of, session_of, session_of_text, then_from, unless, value_or_word, with_header, word_of}
use Rattle.session_lines.specs.declared.fault.DecodeFault.{DecodeFault}
use Rattle.session_lines.specs.declared.fault.DecodeFault.TheVariants.{Lines}
use Rattle.session_lines.specs.declared.fault.Word.{Word}
use Rattle.session_lines.specs.declared.fault.Word.TheVariants as word
use Rattle.session_lines.specs.declared.header.Header.{Header}
use Rattle.session_lines.specs.declared.session.Session.{Session}
use Rattle.session_lines.specs.declared.session.SessionLine.{SessionLine}

-- no text that the line brings into buffers has a CR
abbrev pub IsClean : SessionLine → Type 0
IsClean l = brings_return l ≡ false

abbrev pub AreClean : List SessionLine → Type 0
AreClean ls = AllByRecursion IsClean ls

abbrev pub IsCleanText : List ℕ → Type 0
IsCleanText t = list_any is_return t ≡ false

-- what holds of what is read, where something is
abbrev OnRead : {A E : Type 0} → (A → Type 0) → Result A E → Type 0
OnRead P (Ok x) = P x
OnRead P (Err e) = ⊤

-- ---- a line

both_first : (a b : Bool) → a ≡ true → (a && b) ≡ false → b ≡ false
both_first a b e n = sym (ap (λ (x : Bool). x && b) e) ∙ n

unless_last : {A : Type 0} (x : A) (a b c d : Bool) → OnRead (λ (y : A). d ≡ false)
    (unless x (first_of (when a word.Replica ∷ when b word.Number ∷ when c word.Name ∷ when d word.Cr ∷ [])))
unless_last x true b c d = tt
unless_last x false true c d = tt
unless_last x false false true d = tt
unless_last x false false false true = tt
unless_last x false false false false = refl

only_x : {A : Type 0} (P : A → Type 0) (x : A) (o : Option Word) (T : Type 0) → (T → P x) → OnRead (λ (y : A). T) (unless x o) → OnRead P (unless x o)
only_x P x None T f h = f h
only_x P x (Some w) T f h = tt

module _ (h : Header) (bars : bars_return true h ≡ true) where
  form_clean : (before : List SessionLine) (o : Option SessionLine) → OnRead IsClean (form_or_word true h before o)
  form_clean before None = tt
  form_clean before (Some l) =
      only_x IsClean l (word_of true h before l) ((bars_return true h && brings_return l) ≡ false) (both_first (bars_return true h) (brings_return l) bars)
      (unless_last l _ _ _ (bars_return true h && brings_return l))

  value_clean : (before : List SessionLine) (o : Option Data) → OnRead IsClean (line_or_word true h before o)
  value_clean before None = tt
  value_clean before (Some d) = form_clean before (line_of_value h.version d)

  line_clean : (before : List SessionLine) (line : List ℕ) → OnRead IsClean (line_of true h before line)
  unfolding line_of
  line_clean before line = value_clean before (value_of line)

  -- ---- the lines

  one_more : (before : List SessionLine) (l : SessionLine) → AreClean before → IsClean l → AreClean (before ++ l ∷ [])
  one_more [] l c k = (k, tt)
  one_more (b ∷ bs) l c k = (c.0, one_more bs l c.1 k)

  then_clean : (n : ℕ) (r : Result SessionLine Word) (next : SessionLine → Result (List SessionLine) DecodeFault) → OnRead IsClean r → ((l : SessionLine) → IsClean l → OnRead AreClean (next l)) → OnRead AreClean (then_from n r next)
  then_clean n (Err w) next c f = tt
  then_clean n (Ok l) next c f = f l c

  rest_clean : (before : List SessionLine) (lines : List (List ℕ)) → AreClean before → OnRead AreClean (rest_of true h before lines)
  rest_clean before [] c = c
  rest_clean before (l ∷ ls) c =
      then_clean (2 + length before) (line_of true h before l) (λ x. rest_of true h (before ++ x ∷ []) ls) (line_clean before l)
      (λ x k. rest_clean (before ++ x ∷ []) ls (one_more before x c k))

-- ---- the session

-- none of its texts that enter buffers has a CR, if it has version 1
abbrev IsBarred : Session → Type 0
IsBarred s = s.version ≡ 1 → IsCleanText s.base × AreClean s.lines

abbrev IsBarredHeader : Header → Type 0
IsBarredHeader h = bars_return true h ≡ true → IsCleanText h.base

unless_cr : (h : Header) (d : Bool) → OnRead (λ (x : Header). d ≡ false) (unless h (when d word.Cr))
unless_cr h true = tt
unless_cr h false = refl

read_barred : (o : Option Header) → OnRead IsBarredHeader (value_or_word true o)
read_barred None = tt
read_barred (Some h) =
    let d : Bool = bars_return true h && list_any is_return h.base in
    only_x IsBarredHeader h (when d word.Cr) (d ≡ false) (λ n bars. both_first (bars_return true h) (list_any is_return h.base) bars n) (unless_cr h d)

value_barred : (o : Option Data) → OnRead IsBarredHeader (header_or_word true o)
value_barred None = tt
value_barred (Some d) = read_barred (header_of_value d)

header_barred : (line : List ℕ) → OnRead IsBarredHeader (header_of true line)
unfolding header_of
header_barred line = value_barred (value_of line)

bars_one : (h : Header) → h.version ≡ 1 → bars_return true h ≡ true
bars_one h e = rw e refl

with_lines : (h : Header) (r : Result (List SessionLine) DecodeFault) → IsBarredHeader h → (bars_return true h ≡ true → OnRead AreClean r) → OnRead IsBarred (with_header h r)
with_lines h (Err e) b c = tt
with_lines h (Ok ls) b c = λ one. (b (bars_one h one), c (bars_one h one))

then_barred : (r : Result Header Word) (lines : List (List ℕ)) → OnRead IsBarredHeader r → OnRead IsBarred (then_from 1 r (λ h. with_header h (rest_of true h [] lines)))
then_barred (Err w) lines b = tt
then_barred (Ok h) lines b = with_lines h (rest_of true h [] lines) b (λ bars. rest_clean h bars [] lines tt)

lines_barred : (lines : List (List ℕ)) → OnRead IsBarred (session_of true lines)
lines_barred [] = tt
lines_barred (l ∷ ls) = then_barred (header_of true l) ls (header_barred l)

either_barred : (b : Bool) (n : ℕ) (r : Result Session DecodeFault) → OnRead IsBarred r → OnRead IsBarred (cond b (Err (Lines n)) r)
either_barred true n r h = tt
either_barred false n r h = h

-- a session of version 1 that is read to be migrated
pub clean_session : (input : List ℕ) (s : Session) → session_of_text true input ≡ Ok s → s.version ≡ 1 → IsCleanText s.base × AreClean s.lines
unfolding session_of_text
clean_session input s e =
    subst (OnRead IsBarred) e (either_barred (nat_lt lines_limit (length (lines_of input))) (length (lines_of input)) (session_of true (lines_of input)) (lines_barred (lines_of input)))
