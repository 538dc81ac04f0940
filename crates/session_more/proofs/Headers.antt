-- What a session keeps of its header.
use Rattle.std.proofs.Common.{◌≡◌, ℕ, ◌≤◌, Bool, List, [], ◌∷◌, length, Result, Ok, Err, subst, refl, arith}
use Rattle.session_lines.specs.Before.{BeforeState, header_read, without_lines}
use Rattle.session_lines.specs.Cut.{lines_of}
use Rattle.session_lines.specs.Session.{IsSession, then_from}
use Rattle.session_lines.specs.declared.fault.DecodeFault.{DecodeFault}
use Rattle.session_lines.specs.declared.fault.Word.{Word}
use Rattle.session_lines.specs.declared.session.Session.{Session}
use Rattle.session_lines.proofs.Headers.{IsFirst, first_short, header_fits}
use Rattle.session_more.specs.Decoding.{headed, more_lines_read, more_session_of, with_header}
use Rattle.session_more.specs.Lines.{more_taken_in}
use Rattle.session_more.specs.State.{MoreState, first_state}
use Rattle.session_more.specs.declared.session.MoreLine.{MoreLine}
use Rattle.session_more.specs.declared.session.MoreLine.TheVariants.{Plain, Select, Share, Selected, Fold, Unfold, Folded, Display, Excerpt, Multi, Medit}
use Rattle.session_more.specs.declared.session.MoreSession.{MoreSession}

longer : (n m : ℕ) (s : Session) → n ≤ m → IsSession n s → IsSession m s
longer n m s le i = record { version = i.version; base = omega (arith, i.base); replicas = i.replicas; ids = i.ids }

of_lines : (n : ℕ) (p : List ℕ × BeforeState) (r : Result (List MoreLine) DecodeFault) (s : MoreSession) → IsSession n (without_lines p) → with_header p r ≡ Ok s → IsSession n (headed s)
of_lines n p (Err e) s i is = absurd (cc is)
of_lines n p (Ok ls) s i is =
    let e : record { version = p.1.version; base = p.0; replicas = p.1.replicas; lines = ls } ≡ s = cc is in
    subst (λ x. IsSession n (headed x)) e i

of_header : (migrate : Bool) (n : ℕ) (line : List ℕ) (lines : List (List ℕ)) (r : Result (List ℕ × BeforeState) Word) (s : MoreSession) → header_read migrate line ≡ r → length line ≤ n
    → then_from 1 r (λ p. with_header p (more_lines_read (first_state p.1) [] lines)) ≡ Ok s → IsSession n (headed s)
of_header migrate n line lines (Err w) s is le e = absurd (cc e)
of_header migrate n line lines (Ok p) s is le e =
    of_lines n p (more_lines_read (first_state p.1) [] lines) s (longer (length line) n (without_lines p) le (header_fits migrate line p is)) e

from_lines : (migrate : Bool) (n : ℕ) (lines : List (List ℕ)) (s : MoreSession) → IsFirst n lines → more_session_of migrate lines ≡ Ok s → IsSession n (headed s)
from_lines migrate n [] s i e = absurd (cc e)
from_lines migrate n (l ∷ lines) s i e = of_header migrate n l lines (header_read migrate l) s refl i e

pub is_session : (migrate : Bool) (input : List ℕ) (s : MoreSession) → more_session_of migrate (lines_of input) ≡ Ok s → IsSession (length input) (headed s)
is_session migrate input s e = from_lines migrate (length input) (lines_of input) s (first_short input) e

-- a line that is taken in leaves the header
pub header_stays : (line : MoreLine) (s : MoreState)
    → ((more_taken_in line s).plain.version ≡ s.plain.version) × ((more_taken_in line s).plain.replicas ≡ s.plain.replicas)
header_stays (Plain l) s = (refl, refl)
header_stays (Select r n ps) s = (refl, refl)
header_stays (Share r n) s = (refl, refl)
header_stays (Selected r a) s = (refl, refl)
header_stays (Fold r b e) s = (refl, refl)
header_stays (Unfold r b e) s = (refl, refl)
header_stays (Folded r) s = (refl, refl)
header_stays (Display r o) s = (refl, refl)
header_stays (Excerpt n r b e) s = (refl, refl)
header_stays (Multi n) s = (refl, refl)
header_stays (Medit n ps) s = (refl, refl)
