-- Lines of the kinds that are made: what is written for one reads as it, behind the operation lines that it names.
use Rattle.std.proofs.Common.{◌≡◌, ℕ, zero, suc, ◌+◌, ◌-◌, ◌<◌, ◌≤◌, ◌^◌, ◌==◌, Bool, true, false, cond, List, [], ◌∷◌, ◌++◌, map, length, get_or, replicate, Some, None, Ok, refl, sym, ap, ap₂, ◌∙◌, subst, arith, append_assoc, append-nil}
use Rattle.std.specs.Prelude.{codes, not}
use Rattle.std.specs.List.{AllByRecursion, flat_map, range_with_len}
use Rattle.std.proofs.lemmas.Bool.{and_from, eq-eqb, le-leb}
use Rattle.std.proofs.lemmas.List.Folds.{list_any_at}
use Rattle.std.proofs.lemmas.List.FromFn.{get_or-range_with_len, length-range_with_len}
use Rattle.std.proofs.lemmas.List.Sums.{sum_by_push}
use Rattle.json.specs.Print.{escape, escape_byte, quoted}
use Rattle.json.proofs.Printed.Strings.{escape_byte_plain}
use Rattle.serde_json.specs.Written.{compact_text}
use Rattle.op_model.specs.Choice.{first_of, when}
use Rattle.session_lines.specs.Forms.{edit_with, give_with, line_of_value, undo_with}
use Rattle.session_lines.specs.Parts.{is_among}
use Rattle.session_lines.specs.Session.{form_or_word, is_known, is_named, is_number_of, is_numbered, is_operation, line_of, line_or_word, operation_count, rest_of, then_from, unless}
use Rattle.session_lines.specs.declared.fault.Word.TheVariants as word
use Rattle.session_lines.specs.declared.header.Header.{Header}
use Rattle.session_lines.specs.declared.session.SessionLine.{SessionLine}
use Rattle.session_lines.specs.declared.session.SessionLine.TheVariants.{Undo, Give}
use Rattle.session_lines.proofs.Queries.{numbered_one}
use Rattle.session_maker.specs.Made.{base_text, gives_to, ids_to}
use Rattle.session_maker.specs.Turns.{edit_line}
use Rattle.session_maker.specs.Written.{line_value}
use Rattle.session_maker.proofs.Values.{IsLine, is_plain, plain-one, plain_line, value_back}

-- ---- words and letters in quotes

plain_edit : is_plain (quoted (codes "edit")) ≡ true
unfolding escape_byte
plain_edit = refl

plain_undo : is_plain (quoted (codes "undo")) ≡ true
unfolding escape_byte
plain_undo = refl

plain_give : is_plain (quoted (codes "give")) ≡ true
unfolding escape_byte
plain_give = refl

-- so many times a letter, and the quote behind them
escaped_letters : (count x : ℕ) → 97 ≤ x → x < 128 → is_plain (escape (replicate count x) ++ 34 ∷ []) ≡ true
escaped_letters zero x low high = refl
escaped_letters (suc count) x low high =
    let one : escape_byte x ≡ x ∷ [] = escape_byte_plain x (λ e. omega arith) (λ e. omega arith) (omega arith) in
    let rest : List ℕ = escape (replicate count x) in
    ap (λ (l : List ℕ). is_plain ((l ++ rest) ++ 34 ∷ [])) one ∙ and_from _ (is_plain (rest ++ 34 ∷ [])) (plain-one x (omega arith) high) (escaped_letters count x low high)

pub plain_letters : (count x : ℕ) → 97 ≤ x → x < 128 → is_plain (quoted (replicate count x)) ≡ true
plain_letters count x low high = escaped_letters count x low high

pub plain_nothing : is_plain (quoted []) ≡ true
plain_nothing = refl

-- ---- a line behind so many operation lines

-- the header of a session that is made, whose replicas have the ids
abbrev pub made_header : List ℕ → Header
made_header ids = record { version = 1; base = base_text; replicas = ids }

-- what is written for the line reads as it, behind any lines of which so many are operation lines
abbrev pub IsRead : List ℕ → ℕ → SessionLine → Type 0
IsRead ids count line = (is_plain (compact_text (line_value line)) ≡ true) × ((before : List SessionLine) → operation_count before ≡ count → line_of false (made_header ids) before (compact_text (line_value line)) ≡ Ok line)

is_read : (ids : List ℕ) (count : ℕ) (line : SessionLine) → IsLine (line_value line) 3 → line_of_value 1 (line_value line) ≡ Some line → is_known ids line ≡ true → is_numbered count line ≡ true
    → ((before : List SessionLine) → is_named before line ≡ true) → IsRead ids count line
unfolding line_of
is_read ids count line h form known numbered named = (
  plain_line (line_value line) 3 h,
  λ before e. ap (line_or_word false (made_header ids) before) (value_back (line_value line) 3 (omega arith) h) ∙ ap (form_or_word false (made_header ids) before) form
      ∙ ap (λ a. unless line (first_of (when (not a) word.Replica ∷ when (not (is_numbered (operation_count before) line)) word.Number ∷ when (not (is_named before line)) word.Name ∷ None ∷ []))) known
      ∙ ap₂ (λ b c. unless line (first_of (None ∷ when (not b) word.Number ∷ when (not c) word.Name ∷ None ∷ []))) (ap (λ z. is_numbered z line) e ∙ numbered) (named before),
)

form_of_edit : (r s e : ℕ) (t : List ℕ) → r ≤ 65535 → line_of_value 1 (line_value (edit_line r s e t)) ≡ Some (edit_line r s e t)
unfolding line_of_value
form_of_edit r s e t h = ap (λ (b : Bool). edit_with (cond b (Some r) None) (Some (record { start = s; end = e; text = t } ∷ []))) (le-leb r 65535 h)

form_of_undo : (r m : ℕ) → r ≤ 65535 → line_of_value 1 (line_value (Undo r (m ∷ []))) ≡ Some (Undo r (m ∷ []))
unfolding line_of_value
form_of_undo r m h = ap (λ (b : Bool). undo_with (cond b (Some r) None) (Some (m ∷ []))) (le-leb r 65535 h)

form_of_give : (r m : ℕ) → r ≤ 65535 → line_of_value 1 (line_value (Give r m)) ≡ Some (Give r m)
unfolding line_of_value
form_of_give r m h = ap (λ (b : Bool). give_with (cond b (Some r) None) (Some m)) (le-leb r 65535 h)

module _ (ids : List ℕ) (count r : ℕ) (small : r ≤ 65535) (known : is_among ids r ≡ true) where
  pub edit_read : (s e : ℕ) (t : List ℕ) → s < 2 ^ 64 → e < 2 ^ 64 → is_plain (quoted t) ≡ true → IsRead ids count (edit_line r s e t)
  edit_read s e t low high plain =
      is_read ids count (edit_line r s e t) (plain_edit, (omega arith, (((low, (high, (plain, tt))), tt), tt))) (form_of_edit r s e t small) known refl (λ before. refl)

  pub undo_read : (m : ℕ) → 1 ≤ m → m ≤ count → count < 2 ^ 64 → IsRead ids count (Undo r (m ∷ []))
  undo_read m low high fits =
      is_read ids count (Undo r (m ∷ [])) (plain_undo, (omega arith, ((omega arith, tt), tt))) (form_of_undo r m small) known (and_from (is_number_of count m) true (numbered_one count m low high) refl) (λ before. refl)

  pub give_read : (m : ℕ) → 1 ≤ m → m ≤ count → count < 2 ^ 64 → IsRead ids count (Give r m)
  give_read m low high fits =
      is_read ids count (Give r m) (plain_give, (omega arith, (omega arith, tt))) (form_of_give r m small) known (numbered_one count m low high) (λ before. refl)

-- ---- lines one behind another, from so many operation lines to so many

abbrev pub AreRead : List ℕ → ℕ → List SessionLine → ℕ → Type 0
AreRead ids a [] b = a ≡ b
AreRead ids a (l ∷ ls) b = IsRead ids a l × AreRead ids (cond (is_operation l) (a + 1) a) ls b

pub are_read-append : (ids : List ℕ) (a b c : ℕ) (ls ks : List SessionLine) → AreRead ids a ls b → AreRead ids b ks c → AreRead ids a (ls ++ ks) c
are_read-append ids a b c [] ks p q = subst (λ (z : ℕ). AreRead ids z ks c) (sym p) q
are_read-append ids a b c (l ∷ ls) ks p q = (p.0, are_read-append ids (cond (is_operation l) (a + 1) a) b c ls ks p.1 q)

counted : (b : Bool) (a : ℕ) → a + cond b 1 0 ≡ cond b (a + 1) a
counted true a = refl
counted false a = omega arith

abbrev pub texts_of : List SessionLine → List (List ℕ)
texts_of ls = map (λ l. compact_text (line_value l)) ls

pub rest_read : (ids : List ℕ) (before : List SessionLine) (a b : ℕ) (ls : List SessionLine) → operation_count before ≡ a → AreRead ids a ls b → rest_of false (made_header ids) before (texts_of ls) ≡ Ok (before ++ ls)
rest_read ids before a b [] e h = ap Ok (sym (append-nil before))
rest_read ids before a b (l ∷ ls) e h =
    let here : line_of false (made_header ids) before (compact_text (line_value l)) ≡ Ok l = h.0.1 before e in
    let more : operation_count (before ++ l ∷ []) ≡ cond (is_operation l) (a + 1) a =
    sum_by_push (λ x. cond (is_operation x) 1 0) before l ∙ ap (λ z. z + cond (is_operation l) 1 0) e ∙ counted (is_operation l) a in
    ap (λ o. then_from (2 + length before) o (λ x. rest_of false (made_header ids) (before ++ x ∷ []) (texts_of ls))) here
    ∙ rest_read ids (before ++ l ∷ []) (cond (is_operation l) (a + 1) a) b ls more h.1 ∙ ap Ok (append_assoc before (l ∷ []) ls)

-- ---- gives

-- numbers of so many operation lines
abbrev pub AreNumbers : ℕ → List ℕ → Type 0
AreNumbers count ms = AllByRecursion (λ m. (1 ≤ m) × (m ≤ count)) ms

abbrev pub AreKnown : List ℕ → List ℕ → Type 0
AreKnown ids rs = AllByRecursion (λ r. (r ≤ 65535) × (is_among ids r ≡ true)) rs

gives_to_read : (ids : List ℕ) (count r : ℕ) (ns : List ℕ) → count < 2 ^ 64 → r ≤ 65535 → is_among ids r ≡ true → AreNumbers count ns → AreRead ids count (gives_to ns r) count
gives_to_read ids count r [] fits small known h = refl
gives_to_read ids count r (m ∷ ms) fits small known h = (give_read ids count r small known m h.0.0 h.0.1 fits, gives_to_read ids count r ms fits small known h.1)

pub gives_read : (ids : List ℕ) (count : ℕ) (ns rs : List ℕ) → count < 2 ^ 64 → AreNumbers count ns → AreKnown ids rs → AreRead ids count (flat_map (gives_to ns) rs) count
gives_read ids count ns [] fits h k = refl
gives_read ids count ns (r ∷ rs) fits h k =
    are_read-append ids count count count (gives_to ns r) (flat_map (gives_to ns) rs) (gives_to_read ids count r ns fits k.0.0 k.0.1 h) (gives_read ids count ns rs fits h k.1)

-- ---- ids and numbers from 1 on

pub known_id : (n r : ℕ) → 1 ≤ r → r ≤ n → is_among (ids_to n) r ≡ true
known_id n r low high =
    let at : get_or (ids_to n) (r - 1) 0 ≡ r = get_or-range_with_len 1 n (r - 1) 0 (omega arith) ∙ omega arith in
    list_any_at (λ x. x == r) (ids_to n) (r - 1) 0 (omega (arith, length-range_with_len 1 n)) (eq-eqb (get_or (ids_to n) (r - 1) 0) r at)

pub known_from : (n k m : ℕ) → 1 ≤ k → k + m ≤ n + 1 → n ≤ 65535 → AreKnown (ids_to n) (range_with_len k m)
known_from n k zero low high small = tt
known_from n k (suc m) low high small = ((omega arith, known_id n k low (omega arith)), known_from n (k + 1) m (omega arith) (omega arith) small)

pub numbers_from : (count k m : ℕ) → 1 ≤ k → k + m ≤ count + 1 → AreNumbers count (range_with_len k m)
numbers_from count k zero low high = tt
numbers_from count k (suc m) low high = ((low, omega arith), numbers_from count (k + 1) m (omega arith) (omega arith))
