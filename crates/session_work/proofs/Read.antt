-- Sessions that were read.
use Rattle.std.proofs.Common.{◌≡◌, ℕ, ◌+◌, ◌^◌, ◌<◌, ◌≤◌, map, nat_le, nat_lt, ◌&&◌, Bool, true, false, cond, List, [], ◌∷◌, ◌++◌, length, Result, Ok, Err, refl, ap, subst, arith, length-append}
use Rattle.std.proofs.lemmas.Bool.{and_parts, leb-true, ltb-false}
use Rattle.std.proofs.lemmas.List.{length-map}
use Rattle.std.specs.List.{list_all}
use Rattle.text_buffer.specs.Buffer.{BaseText, BufferState}
use Rattle.session_lines.specs.Before.{BeforeState, header_read}
use Rattle.session_lines.specs.Cut.{lines_of}
use Rattle.session_lines.specs.Heading.{is_replica, most_replicas}
use Rattle.session_lines.specs.Parts.{are_distinct}
use Rattle.session_lines.specs.Session.{IsSession, lines_limit, then_from}
use Rattle.session_lines.specs.declared.fault.DecodeFault.{DecodeFault}
use Rattle.session_lines.specs.declared.fault.DecodeFault.TheVariants.{Lines}
use Rattle.session_lines.specs.declared.fault.Word.{Word}
use Rattle.session_more.specs.Decoding.{headed, more_line_read, more_lines_read, more_session_of, more_session_of_text, with_header}
use Rattle.session_more.specs.Lines.{more_taken_in}
use Rattle.session_more.specs.State.{MoreState, first_state}
use Rattle.session_more.specs.declared.session.MoreLine.{MoreLine}
use Rattle.session_more.specs.declared.session.MoreSession.{MoreSession}
use Rattle.session_work.specs.MoreWork.{IsMoreSession}
use Rattle.session_work.specs.Work.{first_buffer, session_limit}

pub few_replicas : (s : MoreSession) → IsSession session_limit (headed s) → length s.replicas ≤ most_replicas
few_replicas s h =
    let least = nat_le 1 (length s.replicas) in
    let most = nat_le (length s.replicas) most_replicas in
    let counted = (and_parts (least && most) (list_all is_replica s.replicas && are_distinct s.replicas) h.replicas).0 in
    leb-true (length s.replicas) most_replicas (and_parts least most counted).1

-- so its buffers are few
pub few_at_first : (s : MoreSession) (base : BaseText) (ids : List ℕ) (bs : List BufferState) → IsMoreSession s → bs ≡ map (first_buffer base) ids → ids ≡ s.replicas → length bs < 2 ^ 32
few_at_first s base ids bs h e i =
    let few = few_replicas s h.header in
    let n = ap (λ (l : List BufferState). length l) e in
    let k = ap (λ (l : List ℕ). length l) i in
    omega (arith, few, n, length-map ids (first_buffer base), k)

-- ---- a session has a line for each line after the header

one_read : (n : ℕ) (r : Result MoreLine Word) (f : MoreLine → Result (List MoreLine) DecodeFault) (xs : List MoreLine) (m : ℕ) → ((x : MoreLine) → f x ≡ Ok xs → length xs ≡ m)
    → then_from n r f ≡ Ok xs → length xs ≡ m
one_read n (Err w) f xs m h e = absurd (cc e)
one_read n (Ok x) f xs m h e = h x e

all_read : (s : MoreState) (before : List MoreLine) (ls : List (List ℕ)) (xs : List MoreLine) → more_lines_read s before ls ≡ Ok xs → length xs ≡ length before + length ls
all_read s before [] xs e = let is : before ≡ xs = cc e in omega (arith, ap (λ (x : List MoreLine). length x) is)
all_read s before (l ∷ ls) xs e =
    one_read (2 + length before) (more_line_read s l) (λ x. more_lines_read (more_taken_in x s) (before ++ x ∷ []) ls) xs (length before + length (l ∷ ls))
    (λ x r. let n = all_read (more_taken_in x s) (before ++ x ∷ []) ls xs r in omega (arith, n, length-append before (x ∷ []))) e

under_header : (p : List ℕ × BeforeState) (r : Result (List MoreLine) DecodeFault) (s : MoreSession) (m : ℕ) → ((xs : List MoreLine) → r ≡ Ok xs → length xs ≡ m) → with_header p r ≡ Ok s → length s.lines ≡ m
under_header p (Err e) s m h is = absurd (cc is)
under_header p (Ok ls) s m h is =
    let e : ◌≡◌ {A = MoreSession} (record { version = p.1.version; base = p.0; replicas = p.1.replicas; lines = ls }) s = cc is in
    subst (λ (x : MoreSession). length x.lines ≡ m) e (h ls refl)

after_header : (ls : List (List ℕ)) (r : Result (List ℕ × BeforeState) Word) (s : MoreSession) → then_from 1 r (λ p. with_header p (more_lines_read (first_state p.1) [] ls)) ≡ Ok s → length s.lines ≡ length ls
after_header ls (Err w) s e = absurd (cc e)
after_header ls (Ok p) s e =
    under_header p (more_lines_read (first_state p.1) [] ls) s (length ls) (λ xs r. let n = all_read (first_state p.1) [] ls xs r in omega (arith, n)) e

many_lines : (migrate : Bool) (ls : List (List ℕ)) (s : MoreSession) → more_session_of migrate ls ≡ Ok s → length s.lines + 1 ≡ length ls
many_lines migrate [] s e = absurd (cc e)
many_lines migrate (l ∷ ls) s e = let n = after_header ls (header_read migrate l) s e in omega (arith, n)

few_by : (migrate : Bool) (ls : List (List ℕ)) (s : MoreSession) (t : Bool) → nat_lt lines_limit (length ls) ≡ t → cond t (Err (Lines (length ls))) (more_session_of migrate ls) ≡ Ok s → length s.lines < lines_limit
few_by migrate ls s true few e = absurd (cc e)
few_by migrate ls s false few e = let n = many_lines migrate ls s e in let m = ltb-false lines_limit (length ls) few in omega (arith, n, m)

pub few_lines : (migrate : Bool) (input : List ℕ) (s : MoreSession) → more_session_of_text migrate input ≡ Ok s → length s.lines < lines_limit
unfolding more_session_of_text
few_lines migrate input s e = few_by migrate (lines_of input) s (nat_lt lines_limit (length (lines_of input))) refl e

-- it is like every session
pub is_read : (migrate : Bool) (input : List ℕ) (s : MoreSession) → more_session_of_text migrate input ≡ Ok s → IsSession (length input) (headed s) → length input ≤ session_limit → IsMoreSession s
is_read migrate input s e i l = record {
  header = record { version = i.version; base = omega (arith, i.base, l); replicas = i.replicas; ids = i.ids };
  few = few_lines migrate input s e;
}
