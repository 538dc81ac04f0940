-- The text of a session that is made decodes to it.
use Rattle.std.proofs.Common.{◌≡◌, ℕ, zero, suc, ◌+◌, ◌≤◌, Bool, true, false, cond, List, [], ◌∷◌, ◌++◌, map, length, Some, None, Ok, Err, inl, inr, refl, ap, ap₂, ◌∙◌, arith, append_assoc}
use Rattle.std.specs.Prelude.{◌&&◌, codes, nat_le, nat_lt, option_and_then, option_map}
use Rattle.std.specs.List.{onto_first}
use Rattle.std.proofs.lemmas.Bool.{and_parts, cases_eq, le-leb, le-ltb, leb-true, ne_eqb}
use Rattle.std.proofs.lemmas.List.{length-map}
use Rattle.json.specs.Print.{escape_byte, quoted}
use Rattle.serde_json.specs.Data.{Data}
use Rattle.serde_json.specs.View.{items_of}
use Rattle.serde_json.specs.Written.{compact_text}
use Rattle.session_lines.specs.Cut.{lines_of}
use Rattle.session_lines.specs.Heading.{are_replicas, header_of_value, header_with, replicas_from}
use Rattle.session_lines.specs.Json.{list_of}
use Rattle.session_lines.specs.Parts.{all_of, id_of_value}
use Rattle.session_lines.specs.Session.{session_of_text, header_of, header_or_word, value_or_word, is_operation, rest_of, session_of, then_from, with_header, lines_limit}
use Rattle.session_lines.specs.declared.fault.DecodeFault.TheVariants.{Lines}
use Rattle.session_lines.specs.declared.header.Header.{Header}
use Rattle.session_lines.specs.declared.session.SessionLine.{SessionLine}
use Rattle.session_lines.proofs.Lines.{list_of-items}
use Rattle.session_maker.specs.Laws.{MadeSessionsDecode}
use Rattle.session_maker.specs.Made.{base_text, ids_to, made_lines, session_with}
use Rattle.session_maker.specs.Written.{line_value, session_text}
use Rattle.session_writer.specs.Values.{header_value, lines_text, number_value}
use Rattle.session_maker.proofs.MadeLines.{made_read, made_short}
use Rattle.session_maker.proofs.Values.{AreLine, IsLine, is_plain, plain_line, value_back}
use Rattle.session_maker.proofs.WrittenLines.{AreKnown, AreRead, known_from, rest_read, texts_of}

-- ---- the header

-- the ids of 1 to k replicas are those of a header
abbrev replicas_to : ℕ → Bool
replicas_to zero = true
replicas_to (suc k) = are_replicas (ids_to (suc k)) && replicas_to k

replicas_below : (k : ℕ) → replicas_to k ≡ true → (n : ℕ) → 1 ≤ n → n ≤ k → are_replicas (ids_to n) ≡ true
replicas_below zero all n some most = absurd (omega arith)
replicas_below (suc k) all n some most =
    let p = and_parts (are_replicas (ids_to (suc k))) (replicas_to k) all in
    elim (cases_eq n (suc k)) [ inl same ↦ ap (λ z. are_replicas (ids_to z)) same ∙ p.0 | inr other ↦ replicas_below k p.1 n some (omega arith) ]

ids_short : (ids rs : List ℕ) → AreKnown ids rs → AreLine (items_of (map number_value rs)) 0
ids_short ids [] h = tt
ids_short ids (r ∷ rs) h = let small : r ≤ 65535 = h.0.0 in (omega arith, ids_short ids rs h.1)

ids_from : (ids rs : List ℕ) → AreKnown ids rs → all_of id_of_value (map number_value rs) ≡ Some rs
ids_from ids [] h = refl
ids_from ids (r ∷ rs) h =
    ap₂ (λ (b : Bool) o. option_and_then (λ x. option_map (λ xs. x ∷ xs) o) (cond b (Some r) None)) (le-leb r 65535 h.0.0) (ids_from ids rs h.1)

plain_head : is_plain (quoted (codes "zedbuf")) ≡ true
unfolding escape_byte
plain_head = refl

plain_base : is_plain (quoted base_text) ≡ true
unfolding escape_byte
plain_base = refl

module _ (n : ℕ) (some : 1 ≤ n) (most : n ≤ 16) where
  known : AreKnown (ids_to n) (ids_to n)
  known = known_from n 1 n (omega arith) (omega arith) (omega arith)

  head_short : IsLine (header_value 1 base_text (ids_to n)) 2
  head_short = (plain_head, (omega arith, (plain_base, (ids_short (ids_to n) (ids_to n) known, tt))))

  head_form : header_of_value (header_value 1 base_text (ids_to n)) ≡ Some (record { version = 1; base = base_text; replicas = ids_to n })
  unfolding header_of_value
  head_form =
      let ds : List Data = map number_value (ids_to n) in
      let same : list_of (items_of ds) ≡ ds = list_of-items ds in
      let good : are_replicas (ids_to n) ≡ true = replicas_below 16 refl n some most in
      ap (λ l. header_with (Some 1) (Some base_text) (replicas_from l)) same
      ∙ ap (λ o. header_with (Some 1) (Some base_text) (option_and_then (λ ids. cond (are_replicas ids) (Some ids) None) o)) (ids_from (ids_to n) (ids_to n) known)
      ∙ ap (λ (b : Bool). header_with (Some 1) (Some base_text) (cond b (Some (ids_to n)) None)) good

  head_read : header_of false (compact_text (header_value 1 base_text (ids_to n))) ≡ Ok (record { version = 1; base = base_text; replicas = ids_to n })
  unfolding header_of
  head_read = ap (header_or_word false) (value_back (header_value 1 base_text (ids_to n)) 2 (omega arith) head_short) ∙ ap (value_or_word false) head_form

-- ---- the lines of the text

cut_line : (t rest : List ℕ) → is_plain t ≡ true → lines_of (t ++ 10 ∷ rest) ≡ t ∷ lines_of rest
cut_line [] rest h = refl
cut_line (x ∷ t) rest h =
    let p = and_parts (nat_le 32 x && nat_lt x 128) (is_plain t) h in
    let low : 32 ≤ x = leb-true 32 x (and_parts (nat_le 32 x) (nat_lt x 128) p.0).0 in
    ap₂ (λ (b : Bool) ls. cond b ([] ∷ ls) (onto_first x ls)) (ne_eqb x 10 (λ e. omega arith)) (cut_line t rest p.1)

cut_value : (d : Data) (ds : List Data) → is_plain (compact_text d) ≡ true → lines_of (lines_text (d ∷ ds)) ≡ compact_text d ∷ lines_of (lines_text ds)
cut_value d ds h = ap lines_of (append_assoc (compact_text d) (10 ∷ []) (lines_text ds)) ∙ cut_line (compact_text d) (lines_text ds) h

cut_lines : (ids : List ℕ) (a b : ℕ) (ls : List SessionLine) → AreRead ids a ls b → lines_of (lines_text (map line_value ls)) ≡ texts_of ls
cut_lines ids a b [] h = refl
cut_lines ids a b (l ∷ ls) h =
    cut_value (line_value l) (map line_value ls) h.0.0 ∙ ap (λ ts. compact_text (line_value l) ∷ ts) (cut_lines ids (cond (is_operation l) (a + 1) a) b ls h.1)

-- ---- the session

module _ (n : ℕ) (some : 1 ≤ n) (most : n ≤ 16) where
  session_read : (b : ℕ) (ls : List SessionLine) → AreRead (ids_to n) 0 ls b → length ls ≤ 1000000 → session_of_text false (session_text (session_with n ls)) ≡ Ok (session_with n ls)
  unfolding session_of_text
  session_read b ls h short =
      let d : Data = header_value 1 base_text (ids_to n) in
      let first : List ℕ = compact_text d in
      let header : Header = record { version = 1; base = base_text; replicas = ids_to n } in
      let lines : lines_of (session_text (session_with n ls)) ≡ first ∷ texts_of ls =
      cut_value d (map line_value ls) (plain_line d 2 (head_short n some most)) ∙ ap (λ ts. first ∷ ts) (cut_lines (ids_to n) 0 b ls h) in
      let few : nat_lt lines_limit (length (first ∷ texts_of ls)) ≡ false =
      le-ltb lines_limit (length (first ∷ texts_of ls)) (omega (arith, length-map ls (λ l. compact_text (line_value l)))) in
      ap (λ ts. cond (nat_lt lines_limit (length ts)) (Err (Lines (length ts))) (session_of false ts)) lines
      ∙ ap (λ (t : Bool). cond t (Err (Lines (length (first ∷ texts_of ls)))) (session_of false (first ∷ texts_of ls))) few
      ∙ ap (λ o. then_from 1 o (λ h. with_header h (rest_of false h [] (texts_of ls)))) (head_read n some most)
      ∙ ap (with_header header) (rest_read (ids_to n) [] 0 b ls refl h)

pub made_sessions_decode : (S : Type 0) → MadeSessionsDecode S
made_sessions_decode S after length_at s seed n edits some most le =
    session_read n some most edits (made_lines after length_at seed n edits s) (made_read n some most after length_at seed edits s le) (made_short n some most after length_at seed edits s le)
