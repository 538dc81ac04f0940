-- The text that is written for a session decodes to it, with version 2.
use Rattle.std.proofs.Common.{◌≡◌, ℕ, ◌+◌, ◌≤◌, ◌==◌, Bool, true, false, cond, ◌&&◌, nat_lt, List, [], ◌∷◌, ◌++◌, length, Option, Some, None, Result, Ok, Err, IsUtf8, refl, sym, ap, ◌∙◌, arith}
use Rattle.std.specs.List.{All, flat_map, list_any}
use Rattle.std.specs.Option.{option_map_or}
use Rattle.std.proofs.lemmas.Bool.{eqb-true, le-ltb, ltb-false}
use Rattle.std.proofs.lemmas.List.Elements.{All-head, All-tail}
use Rattle.op_model.specs.Choice.{when}
use Rattle.op_model.specs.Domains.{IsReplica}
use Rattle.op_model.specs.Rules.{is_return}
use Rattle.serde_json.specs.Data.{Data}
use Rattle.serde_json.specs.Written.{compact_text}
use Rattle.session_lines.specs.Before as old
use Rattle.session_lines.specs.Before.{after_header, header_read, line_read, then_header}
use Rattle.session_lines.specs.Cut.{lines_of}
use Rattle.session_lines.specs.Forms.{line_of_value}
use Rattle.session_lines.specs.Heading.{header_of_value}
use Rattle.session_lines.specs.Json.{value_of}
use Rattle.session_lines.specs.Session.{IsSession, bars_return, header_of, header_or_word, lines_limit, then_from, unless, value_or_word}
use Rattle.session_lines.specs.declared.fault.DecodeFault.{DecodeFault}
use Rattle.session_lines.specs.declared.fault.DecodeFault.TheVariants.{Lines}
use Rattle.session_lines.specs.declared.fault.Word.{Word}
use Rattle.session_lines.specs.declared.fault.Word.TheVariants as word
use Rattle.session_lines.specs.declared.header.Header.{Header}
use Rattle.session_lines.specs.declared.session.SessionLine.{SessionLine}
use Rattle.session_more.specs.Decoding.{form_after, headed, more_line_read, more_lines_read, more_session_of, more_session_of_text, or_further, value_after, with_header}
use Rattle.session_more.specs.Forms.{further_of_value}
use Rattle.session_more.specs.Lines.{more_taken_in}
use Rattle.session_more.specs.State.{MoreState, first_state}
use Rattle.session_more.specs.declared.session.MoreLine.{MoreLine}
use Rattle.session_more.specs.declared.session.MoreSession.{MoreSession}
use Rattle.session_more.proofs.Headers.{is_session}
use Rattle.session_writer.specs.Migrated.{IsMigrated, migrated_text, second, written_line}
use Rattle.session_writer.specs.Readable.{AreReadable, AreWritten, IsForm, IsReadable, IsWritten, is_one_line}
use Rattle.session_writer.specs.Values.{header_value, line_text}
use Rattle.session_writer.proofs.Again.{HaveValues, is_second, lines_again, value_more}
use Rattle.session_writer.proofs.Compact.{one_text}
use Rattle.session_writer.proofs.Forms.{formed, further_formed}
use Rattle.session_writer.proofs.Headers.{AreSmallIds, head_read, ids_forms, ids_small}
use Rattle.session_writer.proofs.CutLines.{cut_text}

-- ---- the lines of a session are values

further_readable : (s : MoreState) (d : Data) (o : Option MoreLine) (y : MoreLine) → further_of_value d ≡ o → form_after s o ≡ Ok y → IsForm d
further_readable s d None y is e = cc
further_readable s d (Some x) y is e = further_formed d x is

form_readable : (s : MoreState) (line : List ℕ) (d : Data) (o : Option SessionLine) (y : MoreLine) → value_of line ≡ Some d → line_of_value s.plain.version d ≡ o → or_further s line (old.form_after s.plain o) ≡ Ok y → IsReadable line
form_readable s line d None y v is e =
    let was = is_second s.plain.version s line y e in (d, v, further_readable s d (further_of_value d) y refl (ap (value_after s) (sym v) ∙ was.1))
form_readable s line d (Some x) y v is e = (d, v, formed s.plain.version d x is)

value_readable : (s : MoreState) (line : List ℕ) (o : Option Data) (y : MoreLine) → value_of line ≡ o → or_further s line (old.value_after s.plain o) ≡ Ok y → IsReadable line
value_readable s line None y v e = cc
value_readable s line (Some d) y v e = form_readable s line d (line_of_value s.plain.version d) y v refl e

line_readable : (s : MoreState) (line : List ℕ) (y : MoreLine) → more_line_read s line ≡ Ok y → IsReadable line
unfolding more_line_read line_read
line_readable s line y e = value_readable s line (value_of line) y refl e

then_readable : (n : ℕ) (r : Result MoreLine Word) (next : MoreLine → Result (List MoreLine) DecodeFault) (xs : List MoreLine) (P Q : Type 0) → ((x : MoreLine) → r ≡ Ok x → P) → ((x : MoreLine) → next x ≡ Ok xs → Q) → then_from n r next ≡ Ok xs → P × Q
then_readable n (Err w) next xs P Q f g e = cc
then_readable n (Ok x) next xs P Q f g e = (f x refl, g x e)

lines_readable : (s : MoreState) (before : List MoreLine) (lines : List (List ℕ)) (xs : List MoreLine) → more_lines_read s before lines ≡ Ok xs → AreReadable lines
lines_readable s before [] xs e = tt
lines_readable s before (l ∷ ls) xs e =
    then_readable (2 + length before) (more_line_read s l) (λ x. more_lines_read (more_taken_in x s) (before ++ x ∷ []) ls) xs (IsReadable l) (AreReadable ls)
    (λ x i. line_readable s l x i) (λ x i. lines_readable (more_taken_in x s) (before ++ x ∷ []) ls xs i) e

-- ---- the header, and the lines after it

-- what the line after a header is checked against
abbrev pub state_of : Bool → Header → MoreState
state_of migrate h = first_state (after_header migrate h).1

-- what a session is that was read from these lines
pub record IsRead (ls : List (List ℕ)) (s : MoreSession) : Type 0 where
  pub header : Header
  pub ids : header.replicas ≡ s.replicas
  pub rest : more_lines_read (state_of true header) [] ls ≡ Ok s.lines

of_lines : (ls : List (List ℕ)) (s : MoreSession) (h : Header) (r : Result (List MoreLine) DecodeFault) → more_lines_read (state_of true h) [] ls ≡ r → with_header (after_header true h) r ≡ Ok s → IsRead ls s
of_lines ls s h (Err e) is k = cc
of_lines ls s h (Ok xs) is k =
    let same : record { version = h.version; base = h.base; replicas = h.replicas; lines = xs } ≡ s = cc k in
    record { header = h; ids = ap (λ (z : MoreSession). z.replicas) same; rest = is ∙ ap (λ (z : MoreSession). Ok z.lines) same }

of_header : (ls : List (List ℕ)) (s : MoreSession) (r : Result Header Word) → then_from 1 (then_header true r) (λ p. with_header p (more_lines_read (first_state p.1) [] ls)) ≡ Ok s → IsRead ls s
of_header ls s (Err w) e = cc
of_header ls s (Ok h) e = of_lines ls s h (more_lines_read (state_of true h) [] ls) refl e

pub was_read : (l : List ℕ) (ls : List (List ℕ)) (s : MoreSession) → more_session_of true (l ∷ ls) ≡ Ok s → IsRead ls s
unfolding header_read
was_read l ls s e = of_header ls s (header_of true l) e

by_limit : (ls : List (List ℕ)) (s : MoreSession) (b : Bool) → nat_lt lines_limit (length ls) ≡ b → cond b (Err (Lines (length ls))) (more_session_of true ls) ≡ Ok s → (length ls ≤ lines_limit) × (more_session_of true ls ≡ Ok s)
by_limit ls s true l e = cc
by_limit ls s false l e = (ltb-false lines_limit (length ls) l, e)

pub was_session : (input : List ℕ) (s : MoreSession) → more_session_of_text true input ≡ Ok s → (length (lines_of input) ≤ lines_limit) × (more_session_of true (lines_of input) ≡ Ok s)
unfolding more_session_of_text
was_session input s e = by_limit (lines_of input) s (nat_lt lines_limit (length (lines_of input))) refl e

-- the lines after the first are readable
pub all_readable : (input l : List ℕ) (rest : List ℕ) (s : MoreSession) → lines_of input ≡ l ∷ lines_of rest → more_session_of_text true input ≡ Ok s → AreReadable (lines_of rest)
all_readable input l rest s cut e =
    let r = was_read l (lines_of rest) s (ap (more_session_of true) (sym cut) ∙ (was_session input s e).1) in
    lines_readable (state_of true r.header) [] (lines_of rest) s.lines r.rest

-- ---- a session that is read to be migrated is one that is read

header_barred : (x h : Header) (b : Bool) → unless x (when b word.Cr) ≡ Ok h → ◌≡◌ {A = Result Header Word} (Ok x) (Ok h)
header_barred x h true e = cc
header_barred x h false e = e

header_plain : (o : Option Header) (h : Header) → value_or_word true o ≡ Ok h → value_or_word false o ≡ Ok h
header_plain None h e = cc
header_plain (Some x) h e = header_barred x h (bars_return true x && list_any is_return x.base) e

value_plain : (o : Option Data) (h : Header) → header_or_word true o ≡ Ok h → header_or_word false o ≡ Ok h
value_plain None h e = cc
value_plain (Some d) h e = header_plain (header_of_value d) h e

head_plain : (line : List ℕ) (h : Header) → header_of true line ≡ Ok h → header_of false line ≡ Ok h
unfolding header_of
head_plain line h e = value_plain (value_of line) h e

same_values : (ls : List (List ℕ)) → HaveValues ls ls
same_values [] = tt
same_values (l ∷ ls) = (refl, same_values ls)

rest_plain : (h : Header) (ls : List (List ℕ)) (s : MoreSession) (r : Result (List MoreLine) DecodeFault) → more_lines_read (state_of true h) [] ls ≡ r → with_header (after_header true h) r ≡ Ok s
    → with_header (after_header false h) (more_lines_read (state_of false h) [] ls) ≡ Ok s
rest_plain h ls s (Err e) is k = cc
rest_plain h ls s (Ok xs) is k =
    ap (with_header (after_header false h)) (lines_again h.version h.version (λ d x e. e) (λ e. refl) (state_of true h) [] ls ls xs refl (same_values ls) is) ∙ k

lines_plain : (l : List ℕ) (ls : List (List ℕ)) (s : MoreSession) (r : Result Header Word) → header_of true l ≡ r
    → then_from 1 (then_header true r) (λ p. with_header p (more_lines_read (first_state p.1) [] ls)) ≡ Ok s
    → then_from 1 (then_header false (header_of false l)) (λ p. with_header p (more_lines_read (first_state p.1) [] ls)) ≡ Ok s
lines_plain l ls s (Err w) is e = cc
lines_plain l ls s (Ok h) is e =
    ap (λ (r : Result Header Word). then_from 1 (then_header false r) (λ p. with_header p (more_lines_read (first_state p.1) [] ls))) (head_plain l h is)
    ∙ rest_plain h ls s (more_lines_read (state_of true h) [] ls) refl e

session_plain : (ls : List (List ℕ)) (s : MoreSession) → more_session_of true ls ≡ Ok s → more_session_of false ls ≡ Ok s
unfolding header_read
session_plain [] s e = cc
session_plain (l ∷ ls) s e = lines_plain l ls s (header_of true l) refl e

pub read_plainly : (input : List ℕ) (s : MoreSession) → more_session_of_text true input ≡ Ok s → more_session_of_text false input ≡ Ok s
unfolding more_session_of_text
read_plainly input s e =
    let was = was_session input s e in
    ap (λ (b : Bool). cond b (Err (Lines (length (lines_of input)))) (more_session_of false (lines_of input))) (le-ltb lines_limit (length (lines_of input)) was.0) ∙ session_plain (lines_of input) s was.1

-- ---- the lines that are written

abbrev pub texts_of : (ls : List (List ℕ)) → AreWritten ls → List (List ℕ)
texts_of [] w = []
texts_of (l ∷ ls) w = compact_text w.0.0 ∷ texts_of ls w.1

have_values : (ls : List (List ℕ)) (w : AreWritten ls) → HaveValues ls (texts_of ls w)
have_values [] w = tt
have_values (l ∷ ls) w = (w.0.3 ∙ sym w.0.1, have_values ls w.1)

line_is : (l : List ℕ) (w : IsWritten l) → written_line l ≡ compact_text w.0 ++ 10 ∷ []
line_is l w = ap (λ (o : Option Data). option_map_or line_text o []) w.1

lines_cut : (ls : List (List ℕ)) (w : AreWritten ls) → lines_of (flat_map written_line ls) ≡ texts_of ls w
lines_cut [] w = refl
lines_cut (l ∷ ls) w =
    ap (λ (t : List ℕ). lines_of (t ++ flat_map written_line ls)) (line_is l w.0)
    ∙ (cut_text (compact_text w.0.0) (flat_map written_line ls) w.0.2 ∙ ap (λ (ts : List (List ℕ)). compact_text w.0.0 ∷ ts) (lines_cut ls w.1))

length-texts : (ls : List (List ℕ)) (w : AreWritten ls) → length (texts_of ls w) ≡ length ls
length-texts [] w = refl
length-texts (l ∷ ls) w = omega (arith, length-texts ls w.1)

-- ---- the session

small_ids : (ids : List ℕ) → All IsReplica ids → AreSmallIds ids
small_ids [] h = tt
small_ids (r ∷ rs) h = (omega (arith, (All-head IsReplica r rs h).1), small_ids rs (All-tail IsReplica r rs h))

-- the forms of version 2
last_forms : (n : ℕ) → (n == 2) ≡ true → 2 ≡ n
last_forms n e = sym (eqb-true n 2 e)

module _ (input l rest : List ℕ) (s : MoreSession) (cut : lines_of input ≡ l ∷ lines_of rest) (e : more_session_of_text true input ≡ Ok s) where
  abbrev pub head : List ℕ
  head = compact_text (header_value 2 s.base s.replicas)

  abbrev second_header : List ℕ → Header
  second_header ids = record { version = 2; base = s.base; replicas = ids }

  decodes : (w : AreWritten (lines_of rest)) → IsUtf8 head → more_session_of_text false ((head ++ 10 ∷ []) ++ flat_map written_line (lines_of rest)) ≡ Ok (second s)
  unfolding more_session_of_text header_read
  decodes w utf8 =
      let ls : List (List ℕ) = lines_of rest in
      let was = was_session input s e in
      let r = was_read l ls s (ap (more_session_of true) (sym cut) ∙ was.1) in
      let i : IsSession (length input) (headed s) = is_session true input s was.1 in
      let ids : AreSmallIds s.replicas = small_ids s.replicas i.ids in
      let lines : lines_of ((head ++ 10 ∷ []) ++ flat_map written_line ls) ≡ head ∷ texts_of ls w =
      cut_text head (flat_map written_line ls) (head_one ids) ∙ ap (λ (ts : List (List ℕ)). head ∷ ts) (lines_cut ls w) in
      let few : nat_lt lines_limit (length (head ∷ texts_of ls w)) ≡ false =
      le-ltb lines_limit (length (head ∷ texts_of ls w)) (omega (arith, length-texts ls w, was.0, ap length cut)) in
      let again : more_lines_read (state_of false (second_header r.header.replicas)) [] (texts_of ls w) ≡ Ok s.lines =
      lines_again r.header.version 2 (λ d x. value_more x r.header.version d) (last_forms r.header.version) (state_of true r.header) [] ls (texts_of ls w) s.lines refl (have_values ls w) r.rest in
      ap (λ ts. cond (nat_lt lines_limit (length ts)) (Err (Lines (length ts))) (more_session_of false ts)) lines
      ∙ (ap (λ (t : Bool). cond t (Err (Lines (length (head ∷ texts_of ls w)))) (more_session_of false (head ∷ texts_of ls w))) few
      ∙ (ap (λ o. then_from 1 (then_header false o) (λ p. with_header p (more_lines_read (first_state p.1) [] (texts_of ls w)))) (head_read s.base s.replicas i.replicas ids utf8)
      ∙ ap (with_header (after_header false (second_header s.replicas))) (ap (λ (rs : List ℕ). more_lines_read (state_of false (second_header rs)) [] (texts_of ls w)) (sym r.ids) ∙ again)))
    where
      head_one : AreSmallIds s.replicas → is_one_line head ≡ true
      head_one ids = one_text (header_value 2 s.base s.replicas) (tt, (tt, (tt, (ids_forms s.replicas, tt)))) (tt, (omega arith, (tt, (ids_small s.replicas ids, tt))))

  -- so what is written is the session as one of version 2
  pub migrated : (w : AreWritten (lines_of rest)) → IsUtf8 head → (out : List ℕ) → out ≡ (head ++ 10 ∷ []) ++ flat_map written_line (lines_of rest) → IsMigrated s input out
  migrated w utf8 out is =
      let text : out ≡ migrated_text s (lines_of input) = is ∙ ap (migrated_text s) (sym cut) in
      record { text = text; session = ap (more_session_of_text false) is ∙ decodes w utf8 }
