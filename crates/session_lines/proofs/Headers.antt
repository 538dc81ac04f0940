-- What a session keeps of its header: a base no longer than the text, and 1 to 64 distinct ids of replicas.
use Rattle.op_model.specs.Operations.{last_replica}
use Rattle.op_model.specs.Domains.{IsReplica}
use Rattle.std.proofs.Common.{◌≡◌, ◌⊎◌, inl, inr, ℕ, suc, ◌≤◌, Bool, true, false, cond, ◌&&◌, ◌==◌, nat_le, nat_lt, List, [], ◌∷◌, length, get_or, Option, Some, None, option_map, option_and_then, Result, Ok, Err, refl, sym, ap, ◌∙◌, subst, arith}
use Rattle.std.specs.Prelude.{⊤, codes}
use Rattle.std.specs.List.{All, AllByRecursion, list_all, list_any, onto_first}
use Rattle.std.specs.Str.{is_utf8}
use Rattle.std.proofs.lemmas.Bool.{and_parts, leb-true}
use Rattle.std.proofs.lemmas.List.Sums.{AllPass-from_list_all}
use Rattle.serde_json.specs.Data.{Data, Items, no_items, item}
use Rattle.serde_json.specs.Find.{as_str, as_array}
use Rattle.serde_json.specs.Read.{read}
use Rattle.session_lines.specs.Json.{value_of, list_of, members_of, is_text, is_number}
use Rattle.session_lines.specs.Cut.{lines_of}
use Rattle.session_lines.specs.Parts.{all_of, id_of_value, are_distinct}
use Rattle.session_lines.specs.Heading.{is_replica, most_replicas, are_replicas, replicas_from, format_of_value, header_with, header_from, header_of_value}
use Rattle.op_model.specs.Choice.{when}
use Rattle.op_model.specs.Rules.{is_return}
use Rattle.session_lines.specs.Before.{BeforeState, after_header, header_read, then_header, without_lines}
use Rattle.session_lines.specs.Session.{bars_return, unless, value_or_word, header_or_word, header_of, then_from, rest_of, with_header, session_of, session_of_text, lines_limit, IsSession}
use Rattle.session_lines.specs.declared.header.Header.{Header}
use Rattle.session_lines.specs.declared.session.SessionLine.{SessionLine}
use Rattle.session_lines.specs.declared.session.Session.{Session}
use Rattle.session_lines.specs.declared.fault.Word.{Word}
use Rattle.session_lines.specs.declared.fault.Word.TheVariants as word
use Rattle.session_lines.specs.declared.fault.DecodeFault.{DecodeFault}
use Rattle.session_lines.specs.declared.fault.DecodeFault.TheVariants.{Lines}
use Rattle.session_lines.proofs.Strings.{AtMost, ItemsOf, MembersOf, IsShortString, AreShortStrings, read-short}

-- ---- the members of a line

abbrev AreShortMembers : ℕ → List Data → Type 0
AreShortMembers n ds = AllByRecursion (IsShortString n) ds

of_list : (n : ℕ) (ds : Items) → AreShortStrings n ds → AreShortMembers n (list_of ds)
of_list n no_items h = tt
of_list n (item d ds) h = (h.0, of_list n ds h.1)

abbrev ListOf : ℕ → Option (List Data) → Type 0
ListOf n None = ⊤
ListOf n (Some ds) = AreShortMembers n ds

of_items : (n : ℕ) (o : Option Items) → ItemsOf n o → ListOf n (option_map list_of o)
of_items n None h = tt
of_items n (Some ds) h = of_list n ds h

value_short : (line : List ℕ) → MembersOf (length line) (value_of line)
unfolding value_of
value_short line = elim (is_utf8 line) as (λ b. MembersOf (length line) (cond b (read line) None)) [ true ↦ read-short line | false ↦ tt ]

-- ---- the header

abbrev Fits : ℕ → Header → Type 0
Fits n h = ((h.version ≡ 1) ⊎ (h.version ≡ 2)) × (length h.base ≤ n) × (are_replicas h.replicas ≡ true)

abbrev HeaderOf : ℕ → Option Header → Type 0
HeaderOf n None = ⊤
HeaderOf n (Some h) = Fits n h

abbrev IdsOf : Option (List ℕ) → Type 0
IdsOf None = ⊤
IdsOf (Some ids) = are_replicas ids ≡ true

checked : (ids : List ℕ) (b : Bool) → are_replicas ids ≡ b → IdsOf (cond b (Some ids) None)
checked ids true e = e
checked ids false e = tt

ids_checked : (o : Option (List ℕ)) → IdsOf (option_and_then (λ ids. cond (are_replicas ids) (Some ids) None) o)
ids_checked None = tt
ids_checked (Some ids) = checked ids (are_replicas ids) refl

ids_listed : (o : Option (List Data)) → IdsOf (option_and_then replicas_from o)
ids_listed None = tt
ids_listed (Some ds) = ids_checked (all_of id_of_value ds)

abbrev VersionOf : Option ℕ → Type 0
VersionOf None = ⊤
VersionOf (Some v) = (v ≡ 1) ⊎ (v ≡ 2)

one_or_two : (a b : Bool) → VersionOf (cond a (Some 1) (cond b (Some 2) None))
one_or_two true b = inl refl
one_or_two false true = inr refl
one_or_two false false = tt

with_all : (n : ℕ) (v : Option ℕ) (b : Option (List ℕ)) (rs : Option (List ℕ)) → VersionOf v → AtMost n b → IdsOf rs → HeaderOf n (header_with v b rs)
with_all n None b rs k h i = tt
with_all n (Some v) None rs k h i = tt
with_all n (Some v) (Some base) None k h i = tt
with_all n (Some v) (Some base) (Some ids) k h i = (k, h, i)

either : (n : ℕ) (b : Bool) (h : Option Header) → HeaderOf n h → HeaderOf n (cond b h None)
either n true h f = f
either n false h f = tt

from_members : (n : ℕ) (ds : List Data) → AreShortMembers n ds → HeaderOf n (header_from ds)
from_members n [] h = tt
from_members n (a ∷ []) h = tt
from_members n (a ∷ b ∷ []) h = tt
from_members n (a ∷ b ∷ c ∷ []) h = tt
from_members n (w ∷ v ∷ b ∷ rs ∷ []) h =
    either n (is_text (codes "zedbuf") w) _ (with_all n (format_of_value v) (as_str b) (option_and_then replicas_from (members_of rs)) (one_or_two (is_number 1 v) (is_number 2 v)) h.1.1.0 (ids_listed (members_of rs)))
from_members n (a ∷ b ∷ c ∷ d ∷ e ∷ ds) h = tt

from_list : (n : ℕ) (o : Option (List Data)) → ListOf n o → HeaderOf n (option_and_then header_from o)
from_list n None h = tt
from_list n (Some ds) h = from_members n ds h

header_of_value_short : (n : ℕ) (d : Data) → MembersOf n (Some d) → HeaderOf n (header_of_value d)
unfolding header_of_value
header_of_value_short n d h = from_list n (members_of d) (of_items n (as_array d) h)

abbrev HeaderOrWord : ℕ → Result Header Word → Type 0
HeaderOrWord n (Err w) = ⊤
HeaderOrWord n (Ok h) = Fits n h

unless_short : (n : ℕ) (x : Header) (w : Option Word) → Fits n x → HeaderOrWord n (unless x w)
unless_short n x None h = h
unless_short n x (Some w) h = tt

value_or_word_short : (n : ℕ) (m : Bool) (o : Option Header) → HeaderOf n o → HeaderOrWord n (value_or_word m o)
value_or_word_short n m None h = tt
value_or_word_short n m (Some x) h = unless_short n x (when (bars_return m x && list_any is_return x.base) word.Cr) h

header_or_word_short : (n : ℕ) (m : Bool) (o : Option Data) → MembersOf n o → HeaderOrWord n (header_or_word m o)
header_or_word_short n m None h = tt
header_or_word_short n m (Some d) h = value_or_word_short n m (header_of_value d) (header_of_value_short n d h)

header_short : (m : Bool) (line : List ℕ) → HeaderOrWord (length line) (header_of m line)
unfolding header_of
header_short m line = header_or_word_short (length line) m (value_of line) (value_short line)

-- ---- the session

abbrev pub IsFirst : ℕ → List (List ℕ) → Type 0
IsFirst n [] = ⊤
IsFirst n (l ∷ ls) = length l ≤ n

one_longer : (x n : ℕ) (ls : List (List ℕ)) → IsFirst n ls → IsFirst (suc n) (onto_first x ls)
one_longer x n [] h = omega arith
one_longer x n (l ∷ ls) h = omega arith

line_or : (b : Bool) (x n : ℕ) (ls : List (List ℕ)) → IsFirst n ls → IsFirst (suc n) (cond b ([] ∷ ls) (onto_first x ls))
line_or true x n ls h = omega arith
line_or false x n ls h = one_longer x n ls h

pub first_short : (text : List ℕ) → IsFirst (length text) (lines_of text)
first_short [] = tt
first_short (x ∷ xs) = line_or (x == 10) x (length xs) (lines_of xs) (first_short xs)

-- each of the ids is that of an editor's replica
ids_are_replicas : (ids : List ℕ) → are_replicas ids ≡ true → All IsReplica ids
ids_are_replicas ids e =
    let p = and_parts (nat_le 1 (length ids) && nat_le (length ids) most_replicas) (list_all is_replica ids && are_distinct ids) e in
    let q = and_parts (list_all is_replica ids) (are_distinct ids) p.1 in
    λ k d l.
    let x = and_parts (nat_le 1 (get_or ids k d)) (nat_le (get_or ids k d) last_replica) (AllPass-from_list_all is_replica ids q.0 k d l) in
    (leb-true 1 (get_or ids k d) x.0, leb-true (get_or ids k d) last_replica x.1)

abbrev SessionOf : ℕ → Result Session DecodeFault → Type 0
SessionOf n (Err e) = ⊤
SessionOf n (Ok s) = IsSession n s

with_lines : (n m : ℕ) (h : Header) (r : Result (List SessionLine) DecodeFault) → n ≤ m → Fits n h → SessionOf m (with_header h r)
with_lines n m h (Err e) le f = tt
with_lines n m h (Ok ls) le f = record { version = f.0; base = omega (arith, f.1); replicas = f.2; ids = ids_are_replicas h.replicas f.2 }

header_lines : (migrate : Bool) (n m : ℕ) (r : Result Header Word) (ls : List (List ℕ)) → n ≤ m → HeaderOrWord n r → SessionOf m (then_from 1 r (λ h. with_header h (rest_of migrate h [] ls)))
header_lines migrate n m (Err w) ls le f = tt
header_lines migrate n m (Ok h) ls le f = with_lines n m h (rest_of migrate h [] ls) le f

from_lines : (m : Bool) (n : ℕ) (ls : List (List ℕ)) → IsFirst n ls → SessionOf n (session_of m ls)
from_lines m n [] h = tt
from_lines m n (l ∷ ls) h = header_lines m (length l) n (header_of m l) ls h (header_short m l)

pub is_session : (m : Bool) (input : List ℕ) (s : Session) → session_of m (lines_of input) ≡ Ok s → IsSession (length input) s
is_session m input s e = subst (SessionOf (length input)) e (from_lines m (length input) (lines_of input) (first_short input))

read_by : (m : Bool) (input : List ℕ) (s : Session) (b : Bool) (n : ℕ) → cond b (Err (Lines n)) (session_of m (lines_of input)) ≡ Ok s → IsSession (length input) s
read_by m input s true n e = absurd (cc e)
read_by m input s false n e = is_session m input s e

pub session_read : (m : Bool) (input : List ℕ) (s : Session) → session_of_text m input ≡ Ok s → IsSession (length input) s
unfolding session_of_text
session_read m input s e = read_by m input s (nat_lt lines_limit (length (lines_of input))) (length (lines_of input)) e

-- ---- a header alone

fits_after : (m : Bool) (n : ℕ) (r : Result Header Word) (p : List ℕ × BeforeState) → HeaderOrWord n r → then_header m r ≡ Ok p → IsSession n (without_lines p)
fits_after m n (Err w) p f e = absurd (cc e)
fits_after m n (Ok h) p f e =
    let is : after_header m h ≡ p = cc e in
    subst (λ q. IsSession n (without_lines q)) is (with_lines n n h (Ok []) (omega arith) f)

pub header_fits : (m : Bool) (line : List ℕ) (p : List ℕ × BeforeState) → header_read m line ≡ Ok p → IsSession (length line) (without_lines p)
unfolding header_read
header_fits m line p e = fits_after m (length line) (header_of m line) p (header_short m line) e

-- a header that is read fits
pub header_kept : (m : Bool) (line : List ℕ) (h : Header) (p : List ℕ × BeforeState) → header_of m line ≡ Ok h → p ≡ after_header m h → IsSession (length line) (without_lines p)
unfolding header_read
header_kept m line h p e is = header_fits m line p (ap (then_header m) e ∙ ap Ok (sym is))
