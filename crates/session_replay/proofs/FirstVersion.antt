-- Sessions of version 1, which have the lines of `session_lines` alone.
use Rattle.std.proofs.Common.{◌≡◌, ℕ, ◌+◌, ◌==◌, Bool, true, cond, List, [], ◌∷◌, ◌++◌, length, map, Result, Ok, Err, refl, sym, ap, ◌∙◌}
use Rattle.std.proofs.lemmas.List.{map-append}
use Rattle.session_lines.specs.Before.{BeforeState, header_read, lines_read, line_read, taken_in, whole_read, with_before}
use Rattle.session_lines.specs.Cut.{lines_of}
use Rattle.session_lines.specs.Json.{value_of}
use Rattle.session_lines.specs.Session.{session_of_text, then_from}
use Rattle.session_lines.specs.declared.fault.DecodeFault.{DecodeFault}
use Rattle.session_lines.specs.declared.fault.Word.{Word}
use Rattle.session_lines.specs.declared.fault.Word.TheVariants as word
use Rattle.session_lines.specs.declared.session.Session.{Session}
use Rattle.session_lines.specs.declared.session.SessionLine.{SessionLine}
use Rattle.session_lines.proofs.LinesRead.{text_read}
use Rattle.session_more.specs.Decoding.{further_read, more_line_read, more_lines_read, more_session_of, more_session_of_text, or_further, plainly, value_after, with_header}
use Rattle.session_more.specs.Lines.{more_taken_in}
use Rattle.session_more.specs.State.{MoreState, first_state}
use Rattle.session_more.specs.declared.session.MoreLine.{MoreLine}
use Rattle.session_more.specs.declared.session.MoreLine.TheVariants.{Plain}
use Rattle.session_more.specs.declared.session.MoreSession.{MoreSession}
use Rattle.session_writer.proofs.Decoding.{was_session}

-- ---- a line

-- no line of a further form is read
unread : (s : MoreState) (line : List ℕ) → s.plain.version ≡ 1 → further_read s line ≡ Err word.Shape
unfolding further_read
unread s line one = ap (λ (v : ℕ). cond (v == 2) (value_after s (value_of line)) (Err word.Shape)) one

-- what is read of a line that is no line of `session_lines`
bad_line : (s : MoreState) (line : List ℕ) (w : Word) → s.plain.version ≡ 1 → or_further s line (Err w) ≡ Err w
bad_line s line word.Json one = refl
bad_line s line word.Header one = refl
bad_line s line word.Shape one = unread s line one
bad_line s line word.Replica one = refl
bad_line s line word.Number one = refl
bad_line s line word.Name one = refl
bad_line s line word.Cr one = refl

-- ---- all lines

-- the lines that were read are these lines of `session_lines`
abbrev ArePlain : Result (List SessionLine) DecodeFault → List MoreLine → Type 0
ArePlain r ms = (ls : List SessionLine) × (r ≡ Ok ls) × (ms ≡ map Plain ls)

line_plain : (n m : ℕ) (s : MoreState) (line : List ℕ) (r : Result SessionLine Word) (f : MoreLine → Result (List MoreLine) DecodeFault) (g : SessionLine → Result (List SessionLine) DecodeFault) (ms : List MoreLine)
    → s.plain.version ≡ 1 → ((x : SessionLine) → f (Plain x) ≡ Ok ms → ArePlain (g x) ms) → then_from n (or_further s line r) f ≡ Ok ms → ArePlain (then_from m r g) ms
line_plain n m s line (Err w) f g ms one h e =
    let bad = ap (λ (q : Result MoreLine Word). then_from n q f) (sym (bad_line s line w one)) ∙ e in
    absurd (cc bad)
line_plain n m s line (Ok x) f g ms one h e = h x e

lines_plain : (s : MoreState) (before : List SessionLine) (lines : List (List ℕ)) (ms : List MoreLine) → s.plain.version ≡ 1 → more_lines_read s (map Plain before) lines ≡ Ok ms
    → ArePlain (lines_read s.plain before lines) ms
unfolding more_line_read
lines_plain s before [] ms one e =
    let same : map Plain before ≡ ms = cc e in
    (before, refl, sym same)
lines_plain s before (l ∷ lines) ms one e =
    line_plain (2 + length (map Plain before)) (2 + length before) s l (line_read s.plain l) (λ x. more_lines_read (more_taken_in x s) (map Plain before ++ x ∷ []) lines)
    (λ x. lines_read (taken_in x s.plain) (before ++ x ∷ []) lines) ms one
    (λ x q. lines_plain (more_taken_in (Plain x) s) (before ++ x ∷ []) lines ms one
    (ap (λ ps. more_lines_read (more_taken_in (Plain x) s) ps lines) (map-append Plain before (x ∷ [])) ∙ q)) e

-- ---- the session

-- the session that was read is this one of `session_lines`
abbrev IsPlain : Result Session DecodeFault → MoreSession → Type 0
IsPlain r s = (o : Session) × (r ≡ Ok o) × (s ≡ plainly o)

with_plain : (p : List ℕ × BeforeState) (r : Result (List SessionLine) DecodeFault) (m : Result (List MoreLine) DecodeFault) (s : MoreSession) → ((ms : List MoreLine) → m ≡ Ok ms → ArePlain r ms)
    → with_header p m ≡ Ok s → IsPlain (with_before p.0 p.1 r) s
with_plain p r (Err e) s h q = absurd (cc q)
with_plain p r (Ok ms) s h q =
    let k = h ms refl in
    let same : record { version = p.1.version; base = p.0; replicas = p.1.replicas; lines = ms } ≡ s = cc q in (
      record { version = p.1.version; base = p.0; replicas = p.1.replicas; lines = k.0 },
      ap (with_before p.0 p.1) k.1,
      sym same ∙ ap (λ (xs : List MoreLine). record { version = p.1.version; base = p.0; replicas = p.1.replicas; lines = xs }) k.2,
    )

version_of : (p : List ℕ × BeforeState) (m : Result (List MoreLine) DecodeFault) (s : MoreSession) → with_header p m ≡ Ok s → p.1.version ≡ s.version
version_of p (Err e) s q = absurd (cc q)
version_of p (Ok ms) s q =
    let same : record { version = p.1.version; base = p.0; replicas = p.1.replicas; lines = ms } ≡ s = cc q in
    ap (λ (t : MoreSession). t.version) same

header_plain : (r : Result (List ℕ × BeforeState) Word) (lines : List (List ℕ)) (s : MoreSession) → s.version ≡ 1 → then_from 1 r (λ p. with_header p (more_lines_read (first_state p.1) [] lines)) ≡ Ok s
    → IsPlain (then_from 1 r (λ p. with_before p.0 p.1 (lines_read p.1 [] lines))) s
header_plain (Err w) lines s one e = absurd (cc e)
header_plain (Ok p) lines s one e =
    let m = more_lines_read (first_state p.1) [] lines in
    with_plain p (lines_read p.1 [] lines) m s (λ ms q. lines_plain (first_state p.1) [] lines ms (version_of p m s e ∙ one) q) e

whole_plain : (migrate : Bool) (lines : List (List ℕ)) (s : MoreSession) → s.version ≡ 1 → more_session_of migrate lines ≡ Ok s → IsPlain (whole_read migrate lines) s
whole_plain migrate [] s one e = absurd (cc e)
whole_plain migrate (l ∷ lines) s one e = header_plain (header_read migrate l) lines s one e

pub plain_session : (input : List ℕ) (s : MoreSession) → s.version ≡ 1 → more_session_of_text true input ≡ Ok s → (o : Session) × (session_of_text true input ≡ Ok o) × (s ≡ plainly o)
plain_session input s one e =
    let was = was_session input s e in
    let p = whole_plain true (lines_of input) s one was.1 in
    (p.0, text_read true input was.0 ∙ p.1, p.2)
