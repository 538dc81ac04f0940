-- A value that has a form of a line is one of arrays, strings and whole numbers.
use Rattle.std.proofs.Common.{◌≡◌, ℕ, ◌==◌, Bool, true, false, cond, ◌&&◌, List, [], ◌∷◌, Option, None, Some, subst}
use Rattle.std.specs.Prelude.{⊤, codes, nat_eq, option_and_then, option_map}
use Rattle.std.specs.List.{AllByRecursion}
use Rattle.std.specs.Cmp.Lexicographic.{pointwise}
use Rattle.serde_json.specs.Data.{Data, Items, array, boolean, float, item, negative, no_items, null, number, object, string, unsigned}
use Rattle.serde_json.specs.Find.{as_str}
use Rattle.op_model.specs.declared.anchor.Bias.{Bias}
use Rattle.session_lines.specs.Json.{is_text, list_of, members_of, whole_number}
use Rattle.session_lines.specs.Parts.{all_of, bias_of_value, clock_value, count_from, count_of_value, counts_of_value, entry_from, entry_of_value, id_of_value, numbers_of_value, piece_from, piece_of_value, pieces_of_value, stamp_from, stamp_of_value, stamp_with, version_from, version_of_value, version_with}
use Rattle.session_lines.specs.Forms.{anchor_from, asking_form, edit_from, find_from, form_of, give_from, later_form, line_from, line_of_value, mark_from, name_from, offset_from, op_from, point_from, reopen_from, since_from, text_from, undo_from, uop_from, where_from}
use Rattle.session_lines.specs.declared.session.SessionLine.{SessionLine}
use Rattle.session_more.specs.Forms.{display_from, excerpt_form, excerpt_from, fold_form, fold_from, folded_from, further_form, further_from, further_of_value, medit_from, multi_from, range_from, range_of_value, ranges_of_value, select_from, selected_from, share_from, unfold_from}
use Rattle.session_more.specs.declared.session.MoreLine.{MoreLine}
use Rattle.session_writer.specs.Readable.{AreForms, IsForm}

-- ---- what holds where there is something

abbrev OnSome : {A : Type 0} → Type 0 → Option A → Type 0
OnSome P None = ⊤
OnSome P (Some a) = P

abbrev AllForms : List Data → Type 0
AllForms ds = AllByRecursion IsForm ds

held : {A : Type 0} (P : Type 0) (o : Option A) → P → OnSome P o
held P None p = tt
held P (Some a) p = p

changed : {A : Type 0} (P Q : Type 0) (o : Option A) → (P → Q) → OnSome P o → OnSome Q o
changed P Q None f h = tt
changed P Q (Some a) f h = f h

then_held : {A B : Type 0} (P : Type 0) (o : Option A) (f : A → Option B) → OnSome P o → OnSome P (option_and_then f o)
then_held P None f h = tt
then_held P (Some a) f h = held P (f a) h

mapped : {A B : Type 0} (P : Type 0) (o : Option A) (f : A → B) → OnSome P o → OnSome P (option_map f o)
mapped P None f h = tt
mapped P (Some a) f h = h

one : {A B : Type 0} (P : Type 0) (o : Option A) (f : A → B) → OnSome P o → OnSome (P × ⊤) (option_map f o)
one P None f h = tt
one P (Some a) f h = (h, tt)

two : {A B C : Type 0} (P Q : Type 0) (o : Option A) (p : Option B) (f : A → B → C) → OnSome P o → OnSome Q p → OnSome (P × (Q × ⊤)) (option_and_then (λ a. option_map (f a) p) o)
two P Q None p f h k = tt
two P Q (Some a) None f h k = tt
two P Q (Some a) (Some b) f h k = (h, (k, tt))

two_then : {A B C : Type 0} (P Q : Type 0) (o : Option A) (p : Option B) (f : A → B → Option C) → OnSome P o → OnSome Q p → OnSome (P × (Q × ⊤)) (option_and_then (λ a. option_and_then (f a) p) o)
two_then P Q None p f h k = tt
two_then P Q (Some a) None f h k = tt
two_then P Q (Some a) (Some b) f h k = held (P × (Q × ⊤)) (f a b) (h, (k, tt))

three : {A B C D : Type 0} (P Q R : Type 0) (o : Option A) (p : Option B) (q : Option C) (f : A → B → C → D) → OnSome P o → OnSome Q p → OnSome R q
    → OnSome (P × (Q × (R × ⊤))) (option_and_then (λ a. option_and_then (λ b. option_map (f a b) q) p) o)
three P Q R None p q f h k l = tt
three P Q R (Some a) None q f h k l = tt
three P Q R (Some a) (Some b) None f h k l = tt
three P Q R (Some a) (Some b) (Some c) f h k l = (h, (k, (l, tt)))

four : {A B C D E : Type 0} (P Q R S : Type 0) (o : Option A) (p : Option B) (q : Option C) (r : Option D) (f : A → B → C → D → E) → OnSome P o → OnSome Q p → OnSome R q → OnSome S r
    → OnSome (P × (Q × (R × (S × ⊤)))) (option_and_then (λ a. option_and_then (λ b. option_and_then (λ c. option_map (f a b c) r) q) p) o)
four P Q R S None p q r f h k l m = tt
four P Q R S (Some a) None q r f h k l m = tt
four P Q R S (Some a) (Some b) None r f h k l m = tt
four P Q R S (Some a) (Some b) (Some c) None f h k l m = tt
four P Q R S (Some a) (Some b) (Some c) (Some d) f h k l m = (h, (k, (l, (m, tt))))

-- ---- numbers, strings and arrays

number_form : (d : Data) → OnSome (IsForm d) (whole_number d)
number_form null = tt
number_form (boolean b) = tt
number_form (number (unsigned n)) = tt
number_form (number (negative z)) = tt
number_form (number (float x)) = tt
number_form (string s) = tt
number_form (array ds) = tt
number_form (object ms) = tt

text_form : (d : Data) → OnSome (IsForm d) (as_str d)
text_form null = tt
text_form (boolean b) = tt
text_form (number n) = tt
text_form (string s) = tt
text_form (array ds) = tt
text_form (object ms) = tt

listed : (ds : Items) → AllForms (list_of ds) → AreForms ds
listed no_items h = tt
listed (item d ds) h = (h.0, listed ds h.1)

array_form : {A : Type 0} (g : List Data → Option A) → ((ds : List Data) → OnSome (AllForms ds) (g ds)) → (d : Data) → OnSome (IsForm d) (option_and_then g (members_of d))
array_form g h null = tt
array_form g h (boolean b) = tt
array_form g h (number n) = tt
array_form g h (string s) = tt
array_form g h (array ds) = changed (AllForms (list_of ds)) (AreForms ds) (g (list_of ds)) (listed ds) (h (list_of ds))
array_form g h (object ms) = tt

one_more : {A : Type 0} (P Q : Type 0) (o : Option A) (p : Option (List A)) → OnSome P o → OnSome Q p → OnSome (P × Q) (option_and_then (λ x. option_map (λ xs. x ∷ xs) p) o)
one_more P Q None p h k = tt
one_more P Q (Some a) None h k = tt
one_more P Q (Some a) (Some as_) h k = (h, k)

all_forms : {A : Type 0} (f : Data → Option A) → ((d : Data) → OnSome (IsForm d) (f d)) → (ds : List Data) → OnSome (AllForms ds) (all_of f ds)
all_forms f h [] = tt
all_forms f h (d ∷ ds) = one_more (IsForm d) (AllForms ds) (f d) (all_of f ds) (h d) (all_forms f h ds)

-- ---- parts of a line

id_form : (d : Data) → OnSome (IsForm d) (id_of_value d)
id_form d = then_held (IsForm d) (whole_number d) _ (number_form d)

clock_form : (d : Data) → OnSome (IsForm d) (clock_value d)
clock_form d = then_held (IsForm d) (whole_number d) _ (number_form d)

stamp_members : (ds : List Data) → OnSome (AllForms ds) (stamp_from ds)
stamp_members [] = tt
stamp_members (v ∷ []) = tt
stamp_members (v ∷ r ∷ []) = two (IsForm v) (IsForm r) (clock_value v) (id_of_value r) _ (clock_form v) (id_form r)
stamp_members (v ∷ r ∷ d ∷ ds) = tt

stamp_form : (d : Data) → OnSome (IsForm d) (stamp_of_value d)
stamp_form d = array_form stamp_from stamp_members d

entry_members : (ds : List Data) → OnSome (AllForms ds) (entry_from ds)
entry_members [] = tt
entry_members (r ∷ []) = tt
entry_members (r ∷ v ∷ []) = two_then (IsForm r) (IsForm v) (id_of_value r) (clock_value v) _ (id_form r) (clock_form v)
entry_members (r ∷ v ∷ d ∷ ds) = tt

entry_form : (d : Data) → OnSome (IsForm d) (entry_of_value d)
entry_form d = array_form entry_from entry_members d

version_members : (ds : List Data) → OnSome (AllForms ds) (version_from ds)
version_members ds = then_held (AllForms ds) (all_of entry_of_value ds) version_with (all_forms entry_of_value entry_form ds)

version_form : (d : Data) → OnSome (IsForm d) (version_of_value d)
version_form d = array_form version_from version_members d

piece_members : (ds : List Data) → OnSome (AllForms ds) (piece_from ds)
piece_members [] = tt
piece_members (s ∷ []) = tt
piece_members (s ∷ e ∷ []) = tt
piece_members (s ∷ e ∷ t ∷ []) = three (IsForm s) (IsForm e) (IsForm t) (whole_number s) (whole_number e) (as_str t) _ (number_form s) (number_form e) (text_form t)
piece_members (s ∷ e ∷ t ∷ d ∷ ds) = tt

piece_form : (d : Data) → OnSome (IsForm d) (piece_of_value d)
piece_form d = array_form piece_from piece_members d

pieces_form : (d : Data) → OnSome (IsForm d) (pieces_of_value d)
pieces_form d = array_form (all_of piece_of_value) (all_forms piece_of_value piece_form) d

count_members : (ds : List Data) → OnSome (AllForms ds) (count_from ds)
count_members [] = tt
count_members (v ∷ []) = tt
count_members (v ∷ r ∷ []) = tt
count_members (v ∷ r ∷ c ∷ []) =
    let t = two (IsForm v) (IsForm r) (clock_value v) (id_of_value r) _ (clock_form v) (id_form r) in
    changed ((IsForm v × (IsForm r × ⊤)) × (IsForm c × ⊤)) (AllForms (v ∷ r ∷ c ∷ [])) (count_from (v ∷ r ∷ c ∷ [])) (λ h. (h.0.0, (h.0.1.0, h.1)))
    (two (IsForm v × (IsForm r × ⊤)) (IsForm c) (stamp_with (clock_value v) (id_of_value r)) (clock_value c) _ t (clock_form c))
count_members (v ∷ r ∷ c ∷ d ∷ ds) = tt

count_form : (d : Data) → OnSome (IsForm d) (count_of_value d)
count_form d = array_form count_from count_members d

counts_form : (d : Data) → OnSome (IsForm d) (counts_of_value d)
counts_form d = array_form (all_of count_of_value) (all_forms count_of_value count_form) d

numbers_form : (d : Data) → OnSome (IsForm d) (numbers_of_value d)
numbers_form d = array_form (all_of whole_number) (all_forms whole_number number_form) d

range_members : (ds : List Data) → OnSome (AllForms ds) (range_from ds)
range_members [] = tt
range_members (s ∷ []) = tt
range_members (s ∷ e ∷ []) = two (IsForm s) (IsForm e) (whole_number s) (whole_number e) _ (number_form s) (number_form e)
range_members (s ∷ e ∷ d ∷ ds) = tt

range_form : (d : Data) → OnSome (IsForm d) (range_of_value d)
range_form d = array_form range_from range_members d

ranges_form : (d : Data) → OnSome (IsForm d) (ranges_of_value d)
ranges_form d = array_form (all_of range_of_value) (all_forms range_of_value range_form) d

bias_form : (d : Data) → OnSome (IsForm d) (bias_of_value d)
bias_form null = tt
bias_form (boolean b) = tt
bias_form (number n) = tt
bias_form (string s) = held (IsForm (string s)) (bias_of_value (string s)) tt
bias_form (array ds) = tt
bias_form (object ms) = tt

-- ---- the members after the word

edit_members : (ds : List Data) → OnSome (AllForms ds) (edit_from ds)
edit_members [] = tt
edit_members (r ∷ []) = tt
edit_members (r ∷ ps ∷ []) = two (IsForm r) (IsForm ps) (id_of_value r) (pieces_of_value ps) _ (id_form r) (pieces_form ps)
edit_members (r ∷ ps ∷ d ∷ ds) = tt

undo_members : (ds : List Data) → OnSome (AllForms ds) (undo_from ds)
undo_members [] = tt
undo_members (r ∷ []) = tt
undo_members (r ∷ ns ∷ []) = two (IsForm r) (IsForm ns) (id_of_value r) (numbers_of_value ns) _ (id_form r) (numbers_form ns)
undo_members (r ∷ ns ∷ d ∷ ds) = tt

op_members : (ds : List Data) → OnSome (AllForms ds) (op_from ds)
op_members [] = tt
op_members (t ∷ []) = tt
op_members (t ∷ v ∷ []) = tt
op_members (t ∷ v ∷ ps ∷ []) = three (IsForm t) (IsForm v) (IsForm ps) (stamp_of_value t) (version_of_value v) (pieces_of_value ps) _ (stamp_form t) (version_form v) (pieces_form ps)
op_members (t ∷ v ∷ ps ∷ d ∷ ds) = tt

uop_members : (ds : List Data) → OnSome (AllForms ds) (uop_from ds)
uop_members [] = tt
uop_members (t ∷ []) = tt
uop_members (t ∷ v ∷ []) = tt
uop_members (t ∷ v ∷ cs ∷ []) = three (IsForm t) (IsForm v) (IsForm cs) (stamp_of_value t) (version_of_value v) (counts_of_value cs) _ (stamp_form t) (version_form v) (counts_form cs)
uop_members (t ∷ v ∷ cs ∷ d ∷ ds) = tt

give_members : (ds : List Data) → OnSome (AllForms ds) (give_from ds)
give_members [] = tt
give_members (r ∷ []) = tt
give_members (r ∷ n ∷ []) = two (IsForm r) (IsForm n) (id_of_value r) (whole_number n) _ (id_form r) (number_form n)
give_members (r ∷ n ∷ d ∷ ds) = tt

text_members : (ds : List Data) → OnSome (AllForms ds) (text_from ds)
text_members [] = tt
text_members (r ∷ []) = one (IsForm r) (id_of_value r) _ (id_form r)
text_members (r ∷ d ∷ ds) = tt

anchor_members : (ds : List Data) → OnSome (AllForms ds) (anchor_from ds)
anchor_members [] = tt
anchor_members (r ∷ []) = tt
anchor_members (r ∷ t ∷ []) = tt
anchor_members (r ∷ t ∷ o ∷ []) = tt
anchor_members (r ∷ t ∷ o ∷ b ∷ []) =
    four (IsForm r) (IsForm t) (IsForm o) (IsForm b) (id_of_value r) (as_str t) (whole_number o) (bias_of_value b) _ (id_form r) (text_form t) (number_form o) (bias_form b)
anchor_members (r ∷ t ∷ o ∷ b ∷ d ∷ ds) = tt

name_members : (ds : List Data) → OnSome (AllForms ds) (name_from ds)
name_members [] = tt
name_members (r ∷ []) = tt
name_members (r ∷ t ∷ []) = two (IsForm r) (IsForm t) (id_of_value r) (as_str t) _ (id_form r) (text_form t)
name_members (r ∷ t ∷ d ∷ ds) = tt

find_members : (ds : List Data) → OnSome (AllForms ds) (find_from ds)
find_members [] = tt
find_members (r ∷ []) = tt
find_members (r ∷ t ∷ []) = two (IsForm r) (IsForm t) (id_of_value r) (as_str t) _ (id_form r) (text_form t)
find_members (r ∷ t ∷ d ∷ ds) = tt

point_members : (ds : List Data) → OnSome (AllForms ds) (point_from ds)
point_members [] = tt
point_members (r ∷ []) = tt
point_members (r ∷ o ∷ []) = two (IsForm r) (IsForm o) (id_of_value r) (whole_number o) _ (id_form r) (number_form o)
point_members (r ∷ o ∷ d ∷ ds) = tt

offset_members : (ds : List Data) → OnSome (AllForms ds) (offset_from ds)
offset_members [] = tt
offset_members (r ∷ []) = tt
offset_members (r ∷ k ∷ []) = tt
offset_members (r ∷ k ∷ c ∷ []) = three (IsForm r) (IsForm k) (IsForm c) (id_of_value r) (whole_number k) (whole_number c) _ (id_form r) (number_form k) (number_form c)
offset_members (r ∷ k ∷ c ∷ d ∷ ds) = tt

reopen_members : (ds : List Data) → OnSome (AllForms ds) (reopen_from ds)
reopen_members [] = tt
reopen_members (r ∷ []) = one (IsForm r) (id_of_value r) _ (id_form r)
reopen_members (r ∷ d ∷ ds) = tt

select_members : (ds : List Data) → OnSome (AllForms ds) (select_from ds)
select_members [] = tt
select_members (r ∷ []) = tt
select_members (r ∷ t ∷ []) = tt
select_members (r ∷ t ∷ ps ∷ []) = three (IsForm r) (IsForm t) (IsForm ps) (id_of_value r) (as_str t) (ranges_of_value ps) _ (id_form r) (text_form t) (ranges_form ps)
select_members (r ∷ t ∷ ps ∷ d ∷ ds) = tt

selected_members : (ds : List Data) → OnSome (AllForms ds) (selected_from ds)
selected_members [] = tt
selected_members (r ∷ []) = tt
selected_members (r ∷ a ∷ []) = two (IsForm r) (IsForm a) (id_of_value r) (id_of_value a) _ (id_form r) (id_form a)
selected_members (r ∷ a ∷ d ∷ ds) = tt

fold_members : (ds : List Data) → OnSome (AllForms ds) (fold_from ds)
fold_members [] = tt
fold_members (r ∷ []) = tt
fold_members (r ∷ s ∷ []) = tt
fold_members (r ∷ s ∷ e ∷ []) = three (IsForm r) (IsForm s) (IsForm e) (id_of_value r) (whole_number s) (whole_number e) _ (id_form r) (number_form s) (number_form e)
fold_members (r ∷ s ∷ e ∷ d ∷ ds) = tt

unfold_members : (ds : List Data) → OnSome (AllForms ds) (unfold_from ds)
unfold_members [] = tt
unfold_members (r ∷ []) = tt
unfold_members (r ∷ s ∷ []) = tt
unfold_members (r ∷ s ∷ e ∷ []) = three (IsForm r) (IsForm s) (IsForm e) (id_of_value r) (whole_number s) (whole_number e) _ (id_form r) (number_form s) (number_form e)
unfold_members (r ∷ s ∷ e ∷ d ∷ ds) = tt

folded_members : (ds : List Data) → OnSome (AllForms ds) (folded_from ds)
folded_members [] = tt
folded_members (r ∷ []) = one (IsForm r) (id_of_value r) _ (id_form r)
folded_members (r ∷ d ∷ ds) = tt

display_members : (ds : List Data) → OnSome (AllForms ds) (display_from ds)
display_members [] = tt
display_members (r ∷ []) = tt
display_members (r ∷ o ∷ []) = two (IsForm r) (IsForm o) (id_of_value r) (whole_number o) _ (id_form r) (number_form o)
display_members (r ∷ o ∷ d ∷ ds) = tt

excerpt_members : (ds : List Data) → OnSome (AllForms ds) (excerpt_from ds)
excerpt_members [] = tt
excerpt_members (t ∷ []) = tt
excerpt_members (t ∷ r ∷ []) = tt
excerpt_members (t ∷ r ∷ s ∷ []) = tt
excerpt_members (t ∷ r ∷ s ∷ e ∷ []) =
    four (IsForm t) (IsForm r) (IsForm s) (IsForm e) (as_str t) (id_of_value r) (whole_number s) (whole_number e) _ (text_form t) (id_form r) (number_form s) (number_form e)
excerpt_members (t ∷ r ∷ s ∷ e ∷ d ∷ ds) = tt

multi_members : (ds : List Data) → OnSome (AllForms ds) (multi_from ds)
multi_members [] = tt
multi_members (t ∷ []) = one (IsForm t) (as_str t) _ (text_form t)
multi_members (t ∷ d ∷ ds) = tt

medit_members : (ds : List Data) → OnSome (AllForms ds) (medit_from ds)
medit_members [] = tt
medit_members (t ∷ []) = tt
medit_members (t ∷ ps ∷ []) = two (IsForm t) (IsForm ps) (as_str t) (pieces_of_value ps) _ (text_form t) (pieces_form ps)
medit_members (t ∷ ps ∷ d ∷ ds) = tt

-- ---- a line, by its word

abbrev OnLine : {A : Type 0} → Data → List Data → Option A → Type 0
OnLine w ds o = OnSome (IsForm w × AllForms ds) o

picked : {A : Type 0} (ds : List Data) (b : Bool) (x y : Option A) → OnSome (AllForms ds) x → OnSome (⊤ × AllForms ds) y → OnSome (⊤ × AllForms ds) (cond b x y)
picked ds true x y h k = changed (AllForms ds) (⊤ × AllForms ds) x (λ a. (tt, a)) h
picked ds false x y h k = k

worded : {A : Type 0} (c : List ℕ) (w : Data) (ds : List Data) (x y : Option A) → OnSome (AllForms ds) x → OnLine w ds y → OnLine w ds (cond (is_text c w) x y)
worded c null ds x y h k = k
worded c (boolean b) ds x y h k = k
worded c (number n) ds x y h k = k
worded c (string s) ds x y h k = picked ds (pointwise nat_eq s c) x y h k
worded c (array es) ds x y h k = k
worded c (object ms) ds x y h k = k

asking_line : (w : Data) (ds : List Data) → OnLine w ds (asking_form w ds)
asking_line w ds =
    worded (codes "anchor") w ds (anchor_from ds) _ (anchor_members ds)
    (worded (codes "where") w ds (where_from ds) _ (mapped (AllForms ds) (name_from ds) _ (name_members ds))
    (worded (codes "mark") w ds (mark_from ds) _ (mapped (AllForms ds) (name_from ds) _ (name_members ds))
    (worded (codes "since") w ds (since_from ds) _ (mapped (AllForms ds) (name_from ds) _ (name_members ds))
    (worded (codes "find") w ds (find_from ds) _ (find_members ds)
    (worded (codes "point") w ds (point_from ds) _ (point_members ds)
    (worded (codes "offset") w ds (offset_from ds) None (offset_members ds) tt))))))

if_second : (t : Bool) (w : Data) (ds : List Data) (x y : Option SessionLine) → OnSome (AllForms ds) x → OnLine w ds y → OnLine w ds (cond (t && is_text (codes "reopen") w) x y)
if_second true w ds x y h k = worded (codes "reopen") w ds x y h k
if_second false w ds x y h k = k

later_line : (v : ℕ) (w : Data) (ds : List Data) → OnLine w ds (later_form v w ds)
later_line v w ds = if_second (v == 2) w ds (reopen_from ds) (asking_form w ds) (reopen_members ds) (asking_line w ds)

line : (v : ℕ) (w : Data) (ds : List Data) → OnLine w ds (form_of v w ds)
line v w ds =
    worded (codes "edit") w ds (edit_from ds) _ (edit_members ds)
    (worded (codes "undo") w ds (undo_from ds) _ (undo_members ds)
    (worded (codes "op") w ds (op_from ds) _ (op_members ds)
    (worded (codes "uop") w ds (uop_from ds) _ (uop_members ds)
    (worded (codes "give") w ds (give_from ds) _ (give_members ds)
    (worded (codes "text") w ds (text_from ds) (later_form v w ds) (text_members ds) (later_line v w ds))))))

line_members : (v : ℕ) (ds : List Data) → OnSome (AllForms ds) (line_from v ds)
line_members v [] = tt
line_members v (w ∷ ds) = line v w ds

line_form : (v : ℕ) (d : Data) → OnSome (IsForm d) (line_of_value v d)
unfolding line_of_value
line_form v d = array_form (line_from v) (line_members v) d

pub formed : (v : ℕ) (d : Data) (l : SessionLine) → line_of_value v d ≡ Some l → IsForm d
formed v d l e = subst (OnSome (IsForm d)) e (line_form v d)

-- ---- a line of a further form

excerpt_line : (w : Data) (ds : List Data) → OnLine w ds (excerpt_form w ds)
excerpt_line w ds =
    worded (codes "excerpt") w ds (excerpt_from ds) _ (excerpt_members ds)
    (worded (codes "multi") w ds (multi_from ds) _ (multi_members ds)
    (worded (codes "medit") w ds (medit_from ds) None (medit_members ds) tt))

fold_line : (w : Data) (ds : List Data) → OnLine w ds (fold_form w ds)
fold_line w ds =
    worded (codes "fold") w ds (fold_from ds) _ (fold_members ds)
    (worded (codes "unfold") w ds (unfold_from ds) _ (unfold_members ds)
    (worded (codes "folded") w ds (folded_from ds) _ (folded_members ds)
    (worded (codes "display") w ds (display_from ds) (excerpt_form w ds) (display_members ds) (excerpt_line w ds))))

further_line : (w : Data) (ds : List Data) → OnLine w ds (further_form w ds)
further_line w ds =
    worded (codes "select") w ds (select_from ds) _ (select_members ds)
    (worded (codes "share") w ds (share_from ds) _ (mapped (AllForms ds) (name_from ds) _ (name_members ds))
    (worded (codes "selected") w ds (selected_from ds) (fold_form w ds) (selected_members ds) (fold_line w ds)))

further_members : (ds : List Data) → OnSome (AllForms ds) (further_from ds)
further_members [] = tt
further_members (w ∷ ds) = further_line w ds

further_value : (d : Data) → OnSome (IsForm d) (further_of_value d)
unfolding further_of_value
further_value d = array_form further_from further_members d

pub further_formed : (d : Data) (l : MoreLine) → further_of_value d ≡ Some l → IsForm d
further_formed d l e = subst (OnSome (IsForm d)) e (further_value d)
