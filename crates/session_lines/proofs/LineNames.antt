-- Names, and one that is put among them.
use Rattle.std.proofs.Common.{◌≡◌, ℕ, Bool, true, false, ◌||◌, List, [], ◌∷◌, map, Option, None, Some, refl, sym, ap, ap₂, ◌∙◌}
use Rattle.std.proofs.lemmas.Cmp.{nat_list_eq_equiv}
use Rattle.std.proofs.lemmas.Map.Text.{is_eq-slice_cmp}
use Rattle.std.proofs.lemmas.Slice.Eq.{bytes_eq-Decides}
use Rattle.std.specs.BTreeSet.{BTreeSet, contains_text, insert_key}
use Rattle.std.specs.Cmp.Lexicographic.{slice_cmp}
use Rattle.std.specs.Ordering.{is_eq, match_ordering, nat_cmp}
use Rattle.std.specs.Str.{bytes_eq}
use Rattle.std.specs.Prelude.{String}
use Rattle.std.specs.String.{string_bytes, string_cmp}
use Rattle.std.specs.declared.cmp.Ordering.{Ordering}
use Rattle.std.specs.declared.cmp.Ordering.TheVariants.{Less, Equal, Greater}
use Rattle.session_lines.specs.Before.{has_name, name_added, names_of, with_name}
use Rattle.session_lines.specs.Session.{is_name}

-- ---- the names of a set

mapped : {Y : Type 0} (o : Ordering) (a b c : List (String Y)) (x y z : List (List ℕ)) → map string_bytes a ≡ x → map string_bytes b ≡ y → map string_bytes c ≡ z
    → map string_bytes (match_ordering o a b c) ≡ match_ordering o x y z
mapped Less a b c x y z p q r = p
mapped Equal a b c x y z p q r = q
mapped Greater a b c x y z p q r = r

keys_added : {Y : Type 0} (ks : List (String Y)) (k : String Y) → map string_bytes (insert_key string_cmp ks k) ≡ name_added (map string_bytes ks) (string_bytes k)
keys_added [] k = refl
keys_added (x ∷ xs) k =
    mapped (string_cmp k x) (k ∷ x ∷ xs) (x ∷ xs) (x ∷ insert_key string_cmp xs k) _ _ _ refl refl (ap (λ ns. string_bytes x ∷ ns) (keys_added xs k))

-- the names after a key was put among the keys
pub names_added : {Y : Type 0} (s t : BTreeSet (String Y)) (k : String Y) → t.keys ≡ insert_key string_cmp s.keys k → names_of t ≡ name_added (names_of s) (string_bytes k)
names_added s t k e = ap (map string_bytes) e ∙ keys_added s.keys k

found : {Y : Type 0} (q : List ℕ) (ks : List (String Y)) → contains_text (record { keys = ks }) q ≡ has_name (map string_bytes ks) q
found q [] = refl
found q (k ∷ ks) = ap₂ (λ a b. a || b) (is_eq-slice_cmp q (string_bytes k)) (found q ks)

-- a name is looked for among the keys
pub name_found : {Y : Type 0} (s : BTreeSet (String Y)) (q : List ℕ) → contains_text s q ≡ has_name (names_of s) q
name_found s q = found q s.keys

-- ---- one name more

or_false : (b : Bool) → (b || false) ≡ b
or_false true = refl
or_false false = refl

or_turned : (a b : Bool) → (a || b) ≡ (b || a)
or_turned true true = refl
or_turned true false = refl
or_turned false b = sym (or_false b)

or_grouped : (a b c : Bool) → (a || (b || c)) ≡ ((a || b) || c)
or_grouped true b c = refl
or_grouped false b c = refl

or_again : (a b : Bool) → (a || b) ≡ ((a || b) || a)
or_again true b = refl
or_again false b = sym (or_false b)

turned : (n q : List ℕ) → bytes_eq q n ≡ bytes_eq n q
turned n q = nat_list_eq_equiv.symm q n

equal_names : (n x : List ℕ) → slice_cmp nat_cmp n x ≡ Equal → n ≡ x
equal_names n x e = (bytes_eq-Decides n x).0 (sym (is_eq-slice_cmp n x) ∙ ap is_eq e)

has_more : (q n x : List ℕ) (xs ys : List (List ℕ)) (o : Ordering) → slice_cmp nat_cmp n x ≡ o → has_name ys q ≡ (has_name xs q || bytes_eq n q)
    → has_name (match_ordering o (n ∷ x ∷ xs) (x ∷ xs) (x ∷ ys)) q ≡ (has_name (x ∷ xs) q || bytes_eq n q)
has_more q n x xs ys Less o e = ap (λ b. b || has_name (x ∷ xs) q) (turned n q) ∙ or_turned (bytes_eq n q) (has_name (x ∷ xs) q)
has_more q n x xs ys Equal o e =
    or_again (bytes_eq q x) (has_name xs q) ∙ ap (λ b. has_name (x ∷ xs) q || b) (turned x q ∙ ap (λ m. bytes_eq m q) (sym (equal_names n x o)))
has_more q n x xs ys Greater o e = ap (λ b. bytes_eq q x || b) e ∙ or_grouped (bytes_eq q x) (has_name xs q) (bytes_eq n q)

has_added : (names : List (List ℕ)) (n q : List ℕ) → has_name (name_added names n) q ≡ (has_name names q || bytes_eq n q)
has_added [] n q = or_false (bytes_eq q n) ∙ turned n q
has_added (x ∷ xs) n q = has_more q n x xs (name_added xs n) (slice_cmp nat_cmp n x) refl (has_added xs n q)

-- a name is there after another was put there, if one was
pub has_with : (o : Option (List ℕ)) (names : List (List ℕ)) (q : List ℕ) → has_name (with_name o names) q ≡ (has_name names q || is_name q o)
has_with None names q = sym (or_false (has_name names q))
has_with (Some n) names q = has_added names n q
