-- Sessions of the lines of `session_lines` alone.
use Rattle.std.proofs.Common.{◌≡◌, ℕ, ◌+◌, Bool, true, false, cond, nat_lt, List, [], ◌∷◌, ◌++◌, length, map, Result, Ok, Err, refl, sym, ap, ◌∙◌, arith}
use Rattle.std.proofs.lemmas.Bool.{ltb-false, ltb-true}
use Rattle.std.proofs.lemmas.List.{map-append}
use Rattle.session_lines.specs.Before.{BeforeState, header_read, line_read, lines_read, taken_in, whole_read, with_before}
use Rattle.session_lines.specs.Cut.{lines_of}
use Rattle.session_lines.specs.Session.{lines_limit, session_of_text, then_from}
use Rattle.session_lines.specs.declared.fault.DecodeFault.{DecodeFault}
use Rattle.session_lines.specs.declared.fault.DecodeFault.TheVariants.{Bad, Lines}
use Rattle.session_lines.specs.declared.fault.Word.{Word}
use Rattle.session_lines.specs.declared.fault.Word.TheVariants as word
use Rattle.session_lines.specs.declared.session.Session.{Session}
use Rattle.session_lines.specs.declared.session.SessionLine.{SessionLine}
use Rattle.session_lines.proofs.Faults.{session_of_many}
use Rattle.session_lines.proofs.LinesRead.{text_read}
use Rattle.session_more.specs.Decoding.{more_line_read, more_lines_read, more_session_of, more_session_of_text, or_further, plainly, with_header}
use Rattle.session_more.specs.Laws.{OldSessionsStay}
use Rattle.session_more.specs.Lines.{more_taken_in}
use Rattle.session_more.specs.State.{MoreState, first_state}
use Rattle.session_more.specs.declared.session.MoreLine.{MoreLine}
use Rattle.session_more.specs.declared.session.MoreLine.TheVariants.{Plain}

-- ---- lines

line_same : (n m : ℕ) (s : MoreState) (line : List ℕ) (r : Result SessionLine Word) (f : MoreLine → Result (List MoreLine) DecodeFault)
    (g : SessionLine → Result (List SessionLine) DecodeFault) (ls : List SessionLine) → ((x : SessionLine) → g x ≡ Ok ls → f (Plain x) ≡ Ok (map Plain ls))
    → then_from m r g ≡ Ok ls → then_from n (or_further s line r) f ≡ Ok (map Plain ls)
line_same n m s line (Err w) f g ls h e = absurd (cc e)
line_same n m s line (Ok x) f g ls h e = h x e

lines_same : (s : MoreState) (before : List SessionLine) (lines : List (List ℕ)) (ls : List SessionLine) → lines_read s.plain before lines ≡ Ok ls
    → more_lines_read s (map Plain before) lines ≡ Ok (map Plain ls)
unfolding more_line_read
lines_same s before [] ls e =
    let same : before ≡ ls = cc e in
    ap (λ (l : List SessionLine). Ok (map Plain l)) same
lines_same s before (l ∷ lines) ls e =
    line_same (2 + length (map Plain before)) (2 + length before) s l (line_read s.plain l)
    (λ x. more_lines_read (more_taken_in x s) (map Plain before ++ x ∷ []) lines) (λ x. lines_read (taken_in x s.plain) (before ++ x ∷ []) lines) ls
    (λ x q. ap (λ ps. more_lines_read (more_taken_in (Plain x) s) ps lines) (sym (map-append Plain before (x ∷ [])))
    ∙ lines_same (more_taken_in (Plain x) s) (before ++ x ∷ []) lines ls q) e

-- ---- the session

with_same : (p : List ℕ × BeforeState) (r : Result (List SessionLine) DecodeFault) (m : Result (List MoreLine) DecodeFault) (s : Session)
    → ((ls : List SessionLine) → r ≡ Ok ls → m ≡ Ok (map Plain ls)) → with_before p.0 p.1 r ≡ Ok s → with_header p m ≡ Ok (plainly s)
with_same p (Err e) m s h q = absurd (cc q)
with_same p (Ok ls) m s h q =
    let same : record { version = p.1.version; base = p.0; replicas = p.1.replicas; lines = ls } ≡ s = cc q in
    ap (with_header p) (h ls refl) ∙ ap (λ (t : Session). Ok (plainly t)) same

header_same : (r : Result (List ℕ × BeforeState) Word) (lines : List (List ℕ)) (s : Session)
    → then_from 1 r (λ p. with_before p.0 p.1 (lines_read p.1 [] lines)) ≡ Ok s
    → then_from 1 r (λ p. with_header p (more_lines_read (first_state p.1) [] lines)) ≡ Ok (plainly s)
header_same (Err w) lines s e = absurd (cc e)
header_same (Ok p) lines s e =
    with_same p (lines_read p.1 [] lines) (more_lines_read (first_state p.1) [] lines) s (lines_same (first_state p.1) [] lines) e

whole_same : (migrate : Bool) (lines : List (List ℕ)) (s : Session) → whole_read migrate lines ≡ Ok s → more_session_of migrate lines ≡ Ok (plainly s)
whole_same migrate [] s e = absurd (cc e)
whole_same migrate (l ∷ lines) s e = header_same (header_read migrate l) lines s e

by_limit : (migrate : Bool) (input : List ℕ) (s : Session) (b : Bool) → nat_lt lines_limit (length (lines_of input)) ≡ b → session_of_text migrate input ≡ Ok s
    → cond b (Err (Lines (length (lines_of input)))) (more_session_of migrate (lines_of input)) ≡ Ok (plainly s)
by_limit migrate input s true e q =
    let many = sym (session_of_many migrate input (ltb-true lines_limit (length (lines_of input)) e)) ∙ q in
    absurd (cc many)
by_limit migrate input s false e q =
    whole_same migrate (lines_of input) s (sym (text_read migrate input (ltb-false lines_limit (length (lines_of input)) e)) ∙ q)

pub old_sessions_stay : OldSessionsStay
unfolding more_session_of_text
old_sessions_stay migrate input s e = by_limit migrate input s (nat_lt lines_limit (length (lines_of input))) refl e

-- a text without a byte has no line
pub session_of_nothing : (migrate : Bool) (input : List ℕ) → length input ≡ 0 → (more_session_of_text migrate input ≡ Err (Bad 1 word.Header)) × (length (lines_of input) ≡ 0)
unfolding more_session_of_text
session_of_nothing migrate [] h = (refl, refl)
session_of_nothing migrate (x ∷ xs) h = absurd (omega arith)
