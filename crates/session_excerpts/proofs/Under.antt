-- What is under a name, in the map of a session.
use Rattle.std.proofs.Common.{◌≡◌, ℕ, Bool, true, false, cond, List, [], ◌∷◌, None, Some, Option, String, Global, BTreeMap, MutBor, string_bytes, refl, sym, ap, ap₂, ◌∙◌}
use Rattle.std.specs.BTreeMap.{get_by, insert_entry, is_at}
use Rattle.std.specs.Map.{set_value}
use Rattle.std.specs.Option.{option_copied_mut}
use Rattle.std.specs.Ordering.{nat_cmp}
use Rattle.std.specs.declared.cmp.Ordering.{Ordering}
use Rattle.std.specs.Cmp.Lexicographic.{slice_cmp}
use Rattle.std.specs.Str.{bytes_eq}
use Rattle.std.specs.String.{string_cmp}
use Rattle.std.proofs.lemmas.Map.Text.{is_eq-slice_cmp}
use Rattle.multi_buffer.specs.State.{MultiState}
use Rattle.session_selections.specs.Names.{by_bytes, under, with_name}
use Rattle.session_selections.proofs.Named.{found_under, put_under}
use Rattle.session_excerpts.specs.State.{Multis, with_multi}

module _ {Y : Type 0} (name : List ℕ) (f : MultiState → MultiState) (m n : MultiState) (new : n ≡ f m) where
  put_by : (t u : Bool) (k : String Y) (x : MultiState) (es : List (String Y × MultiState)) (rest : Multis) → t ≡ u
      → (Some m ≡ under name rest → by_bytes (set_value (is_at (λ k. slice_cmp nat_cmp name (string_bytes k))) es n) ≡ with_multi name f rest)
      → Some m ≡ cond u (Some x) (under name rest)
      → by_bytes (cond t ((k, n) ∷ es) ((k, x) ∷ set_value (is_at (λ k. slice_cmp nat_cmp name (string_bytes k))) es n)) ≡ cond u ((string_bytes k, f x) ∷ by_bytes es) ((string_bytes k, x) ∷ with_multi name f rest)
  put_by true true k x es rest e h is = let same : m ≡ x = cc is in ap (λ (y : MultiState). (string_bytes k, y) ∷ by_bytes es) (new ∙ ap f same)
  put_by false false k x es rest e h is = ap (λ (l : Multis). (string_bytes k, x) ∷ l) (h is)
  put_by true false k x es rest e h is = absurd (cc e)
  put_by false true k x es rest e h is = absurd (cc e)

  -- a value is written through at the bytes of a name
  pub written_under : (es : List (String Y × MultiState)) → Some m ≡ under name (by_bytes es)
      → by_bytes (set_value (is_at (λ k. slice_cmp nat_cmp name (string_bytes k))) es n) ≡ with_multi name f (by_bytes es)
  written_under [] is = absurd (cc is)
  written_under (e ∷ es) is = put_by (is_at (λ k. slice_cmp nat_cmp name (string_bytes k)) e.0) (bytes_eq name (string_bytes e.0)) e.0 e.1 es (by_bytes es) (is_eq-slice_cmp name (string_bytes e.0)) (written_under es) is

absent_by : (name : List ℕ) (f : MultiState → MultiState) (t : Bool) (k : List ℕ) (x : MultiState) (w : Multis) → (None ≡ under name w → with_multi name f w ≡ w) → None ≡ cond t (Some x) (under name w)
    → cond t ((k, f x) ∷ w) ((k, x) ∷ with_multi name f w) ≡ (k, x) ∷ w
absent_by name f true k x w h none = absurd (cc none)
absent_by name f false k x w h none = ap (λ (l : Multis). (k, x) ∷ l) (h none)

-- where nothing is under the name, nothing changes
pub absent : (name : List ℕ) (f : MultiState → MultiState) (w : Multis) → None ≡ under name w → with_multi name f w ≡ w
absent name f [] none = refl
absent name f (e ∷ w) none = absent_by name f (bytes_eq name e.0) e.0 e.1 w (absent name f w) none

-- ---- what a map lends at the bytes of a name

abbrev pub text_at : List ℕ → String Global → Ordering
text_at key k = slice_cmp nat_cmp key (string_bytes k)

module _ (key name : List ℕ) (old : BTreeMap (String Global) MultiState) (w : Multis) (same : key ≡ name) (view : by_bytes old.entries ≡ w) where
  seen_under : under key (by_bytes old.entries) ≡ under name w
  seen_under = ap₂ (λ (k : List ℕ) (v : Multis). under k v) same view

  pub found_at : (r : Option (MutBor MultiState)) (slot : MutBor MultiState) → r ≡ Some slot → option_copied_mut r ≡ get_by (text_at key) old → Some slot.now ≡ under name w
  found_at r slot is value = ap option_copied_mut (sym is) ∙ (value ∙ (found_under key old.entries ∙ seen_under))

  pub missing_at : (r : Option (MutBor MultiState)) → r ≡ None → option_copied_mut r ≡ get_by (text_at key) old → None ≡ under name w
  missing_at r is value = ap option_copied_mut (sym is) ∙ (value ∙ (found_under key old.entries ∙ seen_under))

  -- what writing through it leaves
  pub written_at : (f : MultiState → MultiState) (m n : MultiState) (new : BTreeMap (String Global) MultiState) → Some m ≡ under name w → n ≡ f m
      → new.entries ≡ set_value (is_at (text_at key)) old.entries n → by_bytes new.entries ≡ with_multi name f w
  written_at f m n new is e written =
      ap by_bytes written ∙ (written_under key f m n e old.entries (is ∙ sym seen_under) ∙ ap₂ (λ (k : List ℕ) (v : Multis). with_multi k f v) same view)

  -- and what is left where nothing is there
  pub same_at : (new : BTreeMap (String Global) MultiState) → new ≡ old → by_bytes new.entries ≡ w
  same_at new e = ap (λ (b : BTreeMap (String Global) MultiState). by_bytes b.entries) e ∙ view

  -- what a value of the name's own leaves there
  pub put_at : (k : String Global) (m : MultiState) (same_name : string_bytes k ≡ name) (lent new : BTreeMap (String Global) MultiState) → lent ≡ old → new.entries ≡ insert_entry string_cmp lent.entries k m
      → by_bytes new.entries ≡ with_name name (Some m) w
  put_at k m same_name lent new e put =
      ap by_bytes put ∙ (put_under k m lent.entries ∙ ap₂ (λ (n : List ℕ) (v : Multis). with_name n (Some m) v) same_name (same_at lent e))
