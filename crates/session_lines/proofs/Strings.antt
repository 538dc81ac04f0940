-- A string of a JSON text has no more bytes than the text.
use Rattle.std.proofs.Common.{◌≡◌, ℕ, suc, ◌+◌, ◌≤◌, Bool, true, false, cond, ◌&&◌, ◌==◌, nat_lt, List, [], ◌∷◌, length, Option, Some, None, option_map, option_and_then, refl, ◌∙◌, subst, arith, append-nil}
use Rattle.std.proofs.lemmas.List.{length-append}
use Rattle.std.specs.Prelude.{⊤}
use Rattle.std.specs.List.{AllByRecursion}
use Rattle.std.specs.Char.{encode_utf8}
use Rattle.json.specs.Text.{code_unit, short_escape, is_high_surrogate, is_low_surrogate, surrogate_pair, Within, plain, after_backslash, after_u, after_high, prepend, content}
use Rattle.json.specs.Token.{Token}
use Rattle.json.specs.Word.{head, ends_word, after_number, number_before, word}
use Rattle.json.specs.Lex.{Lexeme, token, comma, colon, Class, quote, backslash, operator, space, other, class, operator_lexeme, string_token, Mode, between, in_word, in_string, in_escape, lex_byte, lex, Place, fresh, after_value, after_comma, after_key, begins_colon, may_begin, may_close, if_allowed, place_token, punctuate, tokens}
use Rattle.json.specs.Json as json
use Rattle.json.specs.Tree.{json_tokens, items_tokens}
use Rattle.json.proofs.Unique.Spelling.{value-json_tokens_back}
use Rattle.serde_json.specs.Data.{Data, number, array, object, Items, no_items, item, no_members}
use Rattle.serde_json.specs.Find.{as_str, as_array}
use Rattle.serde_json.specs.Read.{read, of_json, of_items, of_members, number_of, max_depth}
use Rattle.op_model.proofs.Elements.{each_left, each_right}

-- ---- the content of a string

abbrev pub AtMost : ℕ → Option (List ℕ) → Type 0
AtMost n None = ⊤
AtMost n (Some s) = length s ≤ n

both : (n : ℕ) (b : Bool) (x y : Option (List ℕ)) → AtMost n x → AtMost n y → AtMost n (cond b x y)
both n true x y f g = f
both n false x y f g = g

then : (n : ℕ) (f : ℕ → Option (List ℕ)) (o : Option ℕ) → ((u : ℕ) → AtMost n (f u)) → AtMost n (option_and_then f o)
then n f None h = tt
then n f (Some u) h = h u

more : (n m : ℕ) (r : Option (List ℕ)) → AtMost m r → m ≤ n → AtMost n r
more n m None h le = tt
more n m (Some s) h le = omega arith

longer : (n m : ℕ) (a : List ℕ) (r : Option (List ℕ)) → AtMost m r → length a + m ≤ n → AtMost n (prepend a r)
longer n m a None h le = tt
longer n m a (Some s) h le = omega (arith, length-append a s)

length-encode : (u : ℕ) → length (encode_utf8 u) ≤ 4
unfolding encode_utf8
length-encode u = grind arith

content-short : (w : Within) (xs : List ℕ) → AtMost (length xs) (content w xs)
unfolding content
content-short plain [] = tt
content-short plain (x ∷ xs) =
    let n = suc (length xs) in
    both n (x == 34) _ _ (omega arith) (both n (x == 92) _ _ (more n _ _ (content-short after_backslash xs) (omega arith))
    (both n (nat_lt x 32) _ _ tt (longer n _ (x ∷ []) _ (content-short plain xs) (omega arith))))
content-short after_backslash [] = tt
content-short after_backslash (x ∷ xs) =
    let n = suc (length xs) in
    both n (x == 117) _ _ (more n _ _ (content-short after_u xs) (omega arith))
    (then n _ (short_escape x) (λ c. longer n _ (c ∷ []) _ (content-short plain xs) (omega arith)))
content-short after_u [] = tt
content-short after_u (a ∷ []) = tt
content-short after_u (a ∷ b ∷ []) = tt
content-short after_u (a ∷ b ∷ c ∷ []) = tt
content-short after_u (a ∷ b ∷ c ∷ d ∷ xs) =
    let n = suc (suc (suc (suc (length xs)))) in
    then n _ (code_unit a b c d) (λ u. both n (is_high_surrogate u) _ _ (more n _ _ (content-short (after_high u) xs) (omega arith))
    (both n (is_low_surrogate u) _ _ tt (longer n _ (encode_utf8 u) _ (content-short plain xs) (omega (arith, length-encode u)))))
content-short (after_high h) [] = tt
content-short (after_high h) (s ∷ []) = tt
content-short (after_high h) (s ∷ u ∷ []) = tt
content-short (after_high h) (s ∷ u ∷ a ∷ []) = tt
content-short (after_high h) (s ∷ u ∷ a ∷ b ∷ []) = tt
content-short (after_high h) (s ∷ u ∷ a ∷ b ∷ c ∷ []) = tt
content-short (after_high h) (s ∷ u ∷ a ∷ b ∷ c ∷ d ∷ xs) =
    let n = suc (suc (suc (suc (suc (suc (length xs)))))) in
    both n ((s == 92) && (u == 117)) _ _ (then n _ (code_unit a b c d) (λ l. both n (is_low_surrogate l) _ _
    (longer n _ (encode_utf8 (surrogate_pair h l)) _ (content-short plain xs) (omega (arith, length-encode (surrogate_pair h l)))) tt)) tt

-- ---- tokens

-- a string among the tokens has at most n bytes
abbrev IsShort : ℕ → Token → Type 0
IsShort n Token.begin_object = ⊤
IsShort n Token.end_object = ⊤
IsShort n Token.begin_array = ⊤
IsShort n Token.end_array = ⊤
IsShort n (Token.key s) = ⊤
IsShort n (Token.string s) = length s ≤ n
IsShort n (Token.number s) = ⊤
IsShort n (Token.boolean b) = ⊤
IsShort n Token.null = ⊤
IsShort n Token.bad = ⊤

abbrev AreShort : ℕ → List Token → Type 0
AreShort n ts = AllByRecursion (IsShort n) ts

either : (n : ℕ) (b : Bool) (t u : Token) → IsShort n t → IsShort n u → IsShort n (cond b t u)
either n true t u p q = p
either n false t u p q = q

number_short : (n : ℕ) (t : List ℕ) (o : Option (List ℕ)) → IsShort n (number_before t o)
number_short n t None = tt
number_short n t (Some r) = either n (ends_word r) _ Token.bad tt tt

word_short : (n : ℕ) (t : List ℕ) → IsShort n (word t)
unfolding word
word_short n t =
    either n (head t == 116) _ _ (either n _ (Token.boolean true) Token.bad tt tt) (either n (head t == 102) _ _ (either n _ (Token.boolean false) Token.bad tt tt)
    (either n (head t == 110) _ _ (either n _ Token.null Token.bad tt tt) (number_short n t (after_number t))))

string_short : (n m : ℕ) (o : Option (List ℕ)) → AtMost m o → m ≤ n → IsShort n (string_token o)
string_short n m None h le = tt
string_short n m (Some s) h le = omega arith

-- ---- lexemes

abbrev IsShortLexeme : ℕ → Lexeme → Type 0
IsShortLexeme n (token t) = IsShort n t
IsShortLexeme n comma = ⊤
IsShortLexeme n colon = ⊤

abbrev AreShortLexemes : ℕ → List Lexeme → Type 0
AreShortLexemes n ls = AllByRecursion (IsShortLexeme n) ls

either_lexeme : (n : ℕ) (b : Bool) (k l : Lexeme) → IsShortLexeme n k → IsShortLexeme n l → IsShortLexeme n (cond b k l)
either_lexeme n true k l p q = p
either_lexeme n false k l p q = q

operator_short : (n x : ℕ) → IsShortLexeme n (operator_lexeme x)
operator_short n x =
    either_lexeme n (x == 123) _ _ tt (either_lexeme n (x == 125) _ _ tt (either_lexeme n (x == 91) _ _ tt
    (either_lexeme n (x == 93) _ _ tt (either_lexeme n (x == 44) comma colon tt tt))))

lex_byte-short : (n : ℕ) (m : Mode) (c : Class) (x : ℕ) (xs : List ℕ) (k : Mode → List Lexeme) → length xs ≤ n → ((next : Mode) → AreShortLexemes n (k next)) → AreShortLexemes n (lex_byte m c x xs k)
lex_byte-short n between quote x xs k le h = (string_short n _ _ (content-short plain xs) le, h in_string)
lex_byte-short n between backslash x xs k le h = (tt, h in_word)
lex_byte-short n between operator x xs k le h = (operator_short n x, h between)
lex_byte-short n between space x xs k le h = h between
lex_byte-short n between other x xs k le h = (word_short n (x ∷ xs), h in_word)
lex_byte-short n in_word quote x xs k le h = h in_word
lex_byte-short n in_word backslash x xs k le h = h in_word
lex_byte-short n in_word operator x xs k le h = (operator_short n x, h between)
lex_byte-short n in_word space x xs k le h = h between
lex_byte-short n in_word other x xs k le h = h in_word
lex_byte-short n in_string quote x xs k le h = h between
lex_byte-short n in_string backslash x xs k le h = h in_escape
lex_byte-short n in_string operator x xs k le h = h in_string
lex_byte-short n in_string space x xs k le h = h in_string
lex_byte-short n in_string other x xs k le h = h in_string
lex_byte-short n in_escape c x xs k le h = h in_string

lex-short : (n : ℕ) (m : Mode) (xs : List ℕ) → length xs ≤ n → AreShortLexemes n (lex m xs)
unfolding lex
lex-short n m [] le = tt
lex-short n m (x ∷ xs) le = lex_byte-short n m (class x) x xs (λ next. lex next xs) (omega arith) (λ next. lex-short n next xs (omega arith))

-- ---- commas and colons

if_allowed-short : (n : ℕ) (b : Bool) (t : Token) (k : Place → List Token) (p : Place) → IsShort n t → ((next : Place) → AreShort n (k next)) → AreShort n (if_allowed b t k p)
if_allowed-short n true t k p s h = (s, h p)
if_allowed-short n false t k p s h = (tt, tt)

place-short : (n : ℕ) (p : Place) (t : Token) (b : Bool) (k : Place → List Token) → IsShort n t → ((next : Place) → AreShort n (k next)) → AreShort n (place_token p t b k)
place-short n p Token.begin_object b k s h = if_allowed-short n (may_begin p) _ k fresh tt h
place-short n p Token.end_object b k s h = if_allowed-short n (may_close p) _ k after_value tt h
place-short n p Token.begin_array b k s h = if_allowed-short n (may_begin p) _ k fresh tt h
place-short n p Token.end_array b k s h = if_allowed-short n (may_close p) _ k after_value tt h
place-short n p (Token.key t) b k s h = (tt, tt)
place-short n p (Token.string t) true k s h = if_allowed-short n (may_begin p) (Token.key t) k after_key tt h
place-short n p (Token.string t) false k s h = if_allowed-short n (may_begin p) (Token.string t) k after_value s h
place-short n p (Token.number t) b k s h = if_allowed-short n (may_begin p) _ k after_value tt h
place-short n p (Token.boolean t) b k s h = if_allowed-short n (may_begin p) _ k after_value tt h
place-short n p Token.null b k s h = if_allowed-short n (may_begin p) _ k after_value tt h
place-short n p Token.bad b k s h = (tt, tt)

punctuate-short : (n : ℕ) (p : Place) (ls : List Lexeme) → AreShortLexemes n ls → AreShort n (punctuate p ls)
unfolding punctuate
punctuate-short n fresh [] h = tt
punctuate-short n after_value [] h = tt
punctuate-short n after_comma [] h = (tt, tt)
punctuate-short n after_key [] h = (tt, tt)
punctuate-short n fresh (token t ∷ ls) h = place-short n fresh t (begins_colon ls) (λ next. punctuate next ls) h.0 (λ next. punctuate-short n next ls h.1)
punctuate-short n after_value (token t ∷ ls) h = place-short n after_value t (begins_colon ls) (λ next. punctuate next ls) h.0 (λ next. punctuate-short n next ls h.1)
punctuate-short n after_comma (token t ∷ ls) h = place-short n after_comma t (begins_colon ls) (λ next. punctuate next ls) h.0 (λ next. punctuate-short n next ls h.1)
punctuate-short n after_key (token t ∷ ls) h = place-short n after_key t (begins_colon ls) (λ next. punctuate next ls) h.0 (λ next. punctuate-short n next ls h.1)
punctuate-short n fresh (comma ∷ ls) h = (tt, tt)
punctuate-short n after_value (comma ∷ ls) h = punctuate-short n after_comma ls h.1
punctuate-short n after_comma (comma ∷ ls) h = (tt, tt)
punctuate-short n after_key (comma ∷ ls) h = (tt, tt)
punctuate-short n fresh (colon ∷ ls) h = (tt, tt)
punctuate-short n after_value (colon ∷ ls) h = (tt, tt)
punctuate-short n after_comma (colon ∷ ls) h = (tt, tt)
punctuate-short n after_key (colon ∷ ls) h = punctuate-short n fresh ls h.1

tokens-short : (text : List ℕ) → AreShort (length text) (tokens text)
tokens-short text = punctuate-short (length text) fresh (lex between text) (lex-short (length text) between text (omega arith))

-- ---- values

-- where a value is a string, it has at most n bytes
abbrev pub IsShortString : ℕ → Data → Type 0
IsShortString n d = AtMost n (as_str d)

abbrev pub AreShortStrings : ℕ → Items → Type 0
AreShortStrings n no_items = ⊤
AreShortStrings n (item d ds) = IsShortString n d × AreShortStrings n ds

abbrev DataOf : ℕ → Option Data → Type 0
DataOf n None = ⊤
DataOf n (Some d) = IsShortString n d

no_string : (n : ℕ) {A : Type 0} (f : A → Data) (o : Option A) → ((a : A) → IsShortString n (f a)) → DataOf n (option_map f o)
no_string n f None h = tt
no_string n f (Some a) h = h a

of_json-short : (n : ℕ) (j : json.Json) → AreShort n (json_tokens j) → DataOf n (of_json j)
of_json-short n json.null h = tt
of_json-short n (json.boolean b) h = tt
of_json-short n (json.number s) h = no_string n number (number_of s) (λ a. tt)
of_json-short n (json.string s) h = h.0
of_json-short n (json.array js) h = no_string n array (of_items js) (λ a. tt)
of_json-short n (json.object ms) h = no_string n object (of_members ms no_members) (λ a. tt)

abbrev pub ItemsOf : ℕ → Option Items → Type 0
ItemsOf n None = ⊤
ItemsOf n (Some ds) = AreShortStrings n ds

one_more : (n : ℕ) (o : Option Data) (r : Option Items) → DataOf n o → ItemsOf n r → ItemsOf n (option_and_then (λ d. option_map (item d) r) o)
one_more n None r h g = tt
one_more n (Some d) None h g = tt
one_more n (Some d) (Some ds) h g = (h, g)

of_items-short : (n : ℕ) (js : json.Items) → AreShort n (items_tokens js) → ItemsOf n (of_items js)
of_items-short n json.no_items h = tt
of_items-short n (json.item j js) h =
    one_more n (of_json j) (of_items js) (of_json-short n j (each_left (IsShort n) (json_tokens j) (items_tokens js) h)) (of_items-short n js (each_right (IsShort n) (json_tokens j) (items_tokens js) h))

abbrev pub MembersOf : ℕ → Option Data → Type 0
MembersOf n None = ⊤
MembersOf n (Some d) = ItemsOf n (as_array d)

no_array : (n : ℕ) {A : Type 0} (f : A → Data) (o : Option A) → ((a : A) → ItemsOf n (as_array (f a))) → MembersOf n (option_map f o)
no_array n f None h = tt
no_array n f (Some a) h = h a

array_of : (n : ℕ) (o : Option Items) → ItemsOf n o → MembersOf n (option_map array o)
array_of n None h = tt
array_of n (Some ds) h = h

members_short : (n : ℕ) (j : json.Json) → AreShort n (json_tokens j) → MembersOf n (of_json j)
members_short n json.null h = tt
members_short n (json.boolean b) h = tt
members_short n (json.number s) h = no_array n number (number_of s) (λ a. tt)
members_short n (json.string s) h = tt
members_short n (json.array js) h = array_of n (of_items js) (of_items-short n js h.1)
members_short n (json.object ms) h = no_array n object (of_members ms no_members) (λ a. tt)

whole_short : (n : ℕ) (ts : List Token) (o : Option (json.Json × List Token)) → AreShort n ts → json.value max_depth ts ≡ o → MembersOf n (option_and_then of_json (option_and_then (λ p. json.if_last p.0 p.1) o))
whole_short n ts None h e = tt
whole_short n ts (Some (j, [])) h e = members_short n j (subst (AreShort n) (value-json_tokens_back max_depth ts [] j e ∙ append-nil (json_tokens j)) h)
whole_short n ts (Some (j, t ∷ r)) h e = tt

-- the strings of an array that a text is have at most as many bytes as the text
pub read-short : (text : List ℕ) → MembersOf (length text) (read text)
read-short text = whole_short (length text) (tokens text) (json.value max_depth (tokens text)) (tokens-short text) refl
