-- Lines that are read after what stands before each are those that are read after the lines before.
use Rattle.std.proofs.Common.{◌≡◌, ℕ, ◌+◌, ◌<◌, ◌≤◌, Bool, true, false, cond, ◌&&◌, ◌==◌, not, nat_lt, ◌||◌, List, [], ◌∷◌, ◌++◌, length, Option, Some, None, Result, Ok, Err, refl, sym, ap, ap₂, ◌∙◌, arith}
use Rattle.std.proofs.Math.Nat.{min-eq_left}
use Rattle.std.proofs.lemmas.Bool.{le-ltb}
use Rattle.std.proofs.lemmas.List.Folds.{list_any-append}
use Rattle.std.proofs.lemmas.List.{length-append}
use Rattle.std.specs.List.{list_any}
use Rattle.std.proofs.lemmas.List.Sums.{count_by-le-length, sum_by-append}
use Rattle.op_model.specs.Choice.{first_of, when}
use Rattle.serde_json.specs.Data.{Data}
use Rattle.session_lines.specs.Before.{BeforeState, after_header, count_raised, form_after, has_name, header_read, last_number, line_read, lines_read, returns_barred, taken_in, then_header, value_after, whole_read, with_before, with_name, word_after}
use Rattle.session_lines.specs.Cut.{lines_of}
use Rattle.session_lines.specs.Forms.{line_of_value}
use Rattle.session_lines.specs.Json.{value_of}
use Rattle.session_lines.specs.Session.{IsSession, anchor_name, bars_return, brings_return, form_or_word, has_anchor, has_mark, header_of, is_known, is_name, is_named, is_named_by, is_numbered, is_operation, line_of, line_or_word, lines_limit, mark_name, operation_count, rest_of, session_of, session_of_text, then_from, unless, with_header, word_of}
use Rattle.session_lines.specs.declared.fault.DecodeFault.{DecodeFault}
use Rattle.session_lines.specs.declared.fault.DecodeFault.TheVariants.{Lines}
use Rattle.session_lines.specs.declared.fault.Word.{Word}
use Rattle.session_lines.specs.declared.fault.Word.TheVariants as word
use Rattle.session_lines.specs.declared.header.Header.{Header}
use Rattle.session_lines.specs.declared.session.Session.{Session}
use Rattle.session_lines.specs.declared.session.SessionLine.{SessionLine}
use Rattle.session_lines.proofs.Headers.{session_read}
use Rattle.session_lines.proofs.LineNames.{has_with}

-- ---- after the same lines

-- b is what a line is checked against after a header and lines
pub record IsAfter (m : Bool) (h : Header) (ls : List SessionLine) (b : BeforeState) : Type 0 where
  pub version : b.version ≡ h.version
  pub migrate : b.migrate ≡ m
  pub replicas : b.replicas ≡ h.replicas
  pub operations : b.operations ≡ operation_count ls
  pub anchors : (q : List ℕ) → has_name b.anchors q ≡ has_anchor ls q
  pub marks : (q : List ℕ) → has_name b.marks q ≡ has_mark ls q

pub starts_after : (migrate : Bool) (h : Header) → IsAfter migrate h [] (after_header migrate h).1
starts_after migrate h = record { version = refl; migrate = refl; replicas = refl; operations = refl; anchors = λ q. refl; marks = λ q. refl }

or_false : (b : Bool) → (b || false) ≡ b
or_false true = refl
or_false false = refl

-- the names that lines keep, with those of one line more
name_more : (f : SessionLine → Option (List ℕ)) (names : List (List ℕ)) (ls : List SessionLine) (l : SessionLine) (q : List ℕ) → has_name names q ≡ list_any (λ x. is_name q (f x)) ls
    → has_name (with_name (f l) names) q ≡ list_any (λ x. is_name q (f x)) (ls ++ l ∷ [])
name_more f names ls l q e =
    has_with (f l) names q ∙ ap₂ (λ a b. a || b) e (sym (or_false (is_name q (f l)))) ∙ sym (list_any-append (λ x. is_name q (f x)) ls (l ∷ []))

count_more : (ls : List SessionLine) (l : SessionLine) → operation_count (ls ++ l ∷ []) ≡ operation_count ls + cond (is_operation l) 1 0
count_more ls l = sum_by-append (λ x. cond (is_operation x) 1 0) ls (l ∷ []) ∙ omega arith

raised_by : (b : Bool) (n : ℕ) → n < last_number → cond b (count_raised 1 n) n ≡ n + cond b 1 0
raised_by true n few = min-eq_left (omega arith)
raised_by false n few = omega arith

pub takes_after : (migrate : Bool) (h : Header) (ls : List SessionLine) (b : BeforeState) (l : SessionLine) → length ls < last_number → IsAfter migrate h ls b → IsAfter migrate h (ls ++ l ∷ []) (taken_in l b)
takes_after migrate h ls b l few a =
    let small = count_by-le-length is_operation ls in
    record {
      version = a.version;
      migrate = a.migrate;
      replicas = a.replicas;
      operations = ap (λ n. cond (is_operation l) (count_raised 1 n) n) a.operations ∙ raised_by (is_operation l) (operation_count ls) (omega arith) ∙ sym (count_more ls l);
      anchors = λ q. name_more anchor_name b.anchors ls l q (a.anchors q);
      marks = λ q. name_more mark_name b.marks ls l q (a.marks q);
    }

-- ---- a line

module _ (migrate : Bool) (h : Header) (ls : List SessionLine) (b : BeforeState) (a : IsAfter migrate h ls b) where
  named_same : (line : SessionLine) → is_named_by (has_name b.anchors) (has_name b.marks) line ≡ is_named ls line
  named_same line = λ i. is_named_by (λ q. a.anchors q i) (λ q. a.marks q i) line

  barred_same : returns_barred b ≡ bars_return migrate h
  barred_same = ap₂ (λ m v. m && (v == 1)) a.migrate a.version

  word_same : (line : SessionLine) → word_after b line ≡ word_of migrate h ls line
  word_same line = λ i. first_of (
      when (not (is_known (a.replicas i) line)) word.Replica
      ∷ when (not (is_numbered (a.operations i) line)) word.Number
      ∷ when (not (named_same line i)) word.Name
      ∷ when (barred_same i && brings_return line) word.Cr
      ∷ [])

  form_same : (o : Option SessionLine) → form_after b o ≡ form_or_word migrate h ls o
  form_same None = refl
  form_same (Some line) = ap (unless line) (word_same line)

  value_same : (o : Option Data) → value_after b o ≡ line_or_word migrate h ls o
  value_same None = refl
  value_same (Some d) = form_same (line_of_value b.version d) ∙ ap (λ v. form_or_word migrate h ls (line_of_value v d)) a.version

  -- the line is the same
  pub line_same : (line : List ℕ) → line_read b line ≡ line_of migrate h ls line
  unfolding line_read line_of
  line_same line = value_same (value_of line)

-- ---- all lines

then_same : {A B : Type 0} (n : ℕ) (r : Result A Word) (f g : A → Result B DecodeFault) → ((x : A) → f x ≡ g x) → then_from n r f ≡ then_from n r g
then_same n (Err w) f g e = refl
then_same n (Ok x) f g e = e x

pub lines_same : (migrate : Bool) (h : Header) (ls : List SessionLine) (b : BeforeState) (lines : List (List ℕ)) → length ls + length lines ≤ last_number → IsAfter migrate h ls b
    → lines_read b ls lines ≡ rest_of migrate h ls lines
lines_same migrate h ls b [] few a = refl
lines_same migrate h ls b (l ∷ lines) few a =
    ap (λ r. then_from (2 + length ls) r (λ x. lines_read (taken_in x b) (ls ++ x ∷ []) lines)) (line_same migrate h ls b a l)
    ∙ then_same (2 + length ls) (line_of migrate h ls l) (λ x. lines_read (taken_in x b) (ls ++ x ∷ []) lines) (λ x. rest_of migrate h (ls ++ x ∷ []) lines)
    (λ x. let more = length-append ls (x ∷ []) in lines_same migrate h (ls ++ x ∷ []) (taken_in x b) lines (omega arith) (takes_after migrate h ls b x (omega arith) a))

-- ---- the session

with_same : (migrate : Bool) (h : Header) (r : Result (List SessionLine) DecodeFault) → with_before h.base (after_header migrate h).1 r ≡ with_header h r
with_same migrate h (Err e) = refl
with_same migrate h (Ok ls) = refl

header_same : (migrate : Bool) (r : Result Header Word) (lines : List (List ℕ)) → 0 + length lines ≤ last_number
    → then_from 1 (then_header migrate r) (λ p. with_before p.0 p.1 (lines_read p.1 [] lines)) ≡ then_from 1 r (λ h. with_header h (rest_of migrate h [] lines))
header_same migrate (Err w) lines few = refl
header_same migrate (Ok h) lines few =
    with_same migrate h (lines_read (after_header migrate h).1 [] lines)
    ∙ ap (with_header h) (lines_same migrate h [] (after_header migrate h).1 lines few (starts_after migrate h))

whole_same : (migrate : Bool) (lines : List (List ℕ)) → length lines ≤ lines_limit → whole_read migrate lines ≡ session_of migrate lines
unfolding header_read
whole_same migrate [] few = refl
whole_same migrate (l ∷ lines) few = header_same migrate (header_of migrate l) lines (omega arith)

not_many : (n : ℕ) → n ≤ lines_limit → nat_lt lines_limit n ≡ false
not_many n few = le-ltb lines_limit n few

limited : (n : ℕ) (r : Result Session DecodeFault) → n ≤ lines_limit → cond (nat_lt lines_limit n) (Err (Lines n)) r ≡ r
limited n r few = ap (λ b. cond b (Err (Lines n)) r) (not_many n few)

-- the session of a text of not too many lines is read line by line
pub text_read : (migrate : Bool) (input : List ℕ) → length (lines_of input) ≤ lines_limit → session_of_text migrate input ≡ whole_read migrate (lines_of input)
unfolding session_of_text
text_read migrate input few =
    limited (length (lines_of input)) (session_of migrate (lines_of input)) few ∙ sym (whole_same migrate (lines_of input) few)

pub is_session : (migrate : Bool) (input : List ℕ) (s : Session) → length (lines_of input) ≤ lines_limit → whole_read migrate (lines_of input) ≡ Ok s → IsSession (length input) s
is_session migrate input s few e = session_read migrate input s (text_read migrate input few ∙ e)
