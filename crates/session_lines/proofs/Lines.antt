-- What `serde_json` says of a line, in the words of this crate.
use Rattle.std.proofs.Common.{◌≡◌, ℕ, List, [], ◌∷◌, map, refl, sym, ap, ◌∙◌, cond, true, false, Option, None, Some, option_map}
use Rattle.std.specs.Str.{is_utf8, IsUtf8}
use Rattle.std.proofs.lemmas.Str.{is_utf8-from_IsUtf8, IsUtf8-from_is_utf8}
use Rattle.serde_json.specs.Data.{Data}
use Rattle.serde_json.specs.Read.{read}
use Rattle.serde_json.specs.Find.{as_array}
use Rattle.serde_json.specs.View.{view, items_of, items_view}
use Rattle.serde_json.specs.declared.value.Value.{Value}
use Rattle.session_lines.specs.Json.{value_of, list_of, members_of}

pub value_read : (line : List ℕ) (o : Option Data) → IsUtf8 line → read line ≡ o → value_of line ≡ o
unfolding value_of
value_read line o u e = ap (λ b. cond b (read line) None) (is_utf8-from_IsUtf8 line u) ∙ e

pub value_none : (line : List ℕ) → (IsUtf8 line → read line ≡ None) → value_of line ≡ None
unfolding value_of
value_none line h =
    elim (is_utf8 line) as (λ b. is_utf8 line ≡ b → cond b (read line) None ≡ None) [
      | true ↦ λ e. h (IsUtf8-from_is_utf8 line e)
      | false ↦ λ e. refl
    ] refl

pub list_of-items : (ds : List Data) → list_of (items_of ds) ≡ ds
list_of-items [] = refl
list_of-items (d ∷ ds) = ap (λ l. d ∷ l) (list_of-items ds)

pub members_of-view : (vs : List Value) (d : Data) → Some (items_view vs) ≡ as_array d → Some (map view vs) ≡ members_of d
members_of-view vs d e = ap Some (sym (list_of-items (map view vs))) ∙ ap (option_map list_of) e
