-- Maps by the bytes of their names, and the anchor that is made where there is no fault.
use Rattle.std.proofs.Common.{◌≡◌, ℕ, cond, List, [], ◌∷◌, None, Some, Result, Ok, Err, String, string_bytes, is_none, IfOk, refl, sym, ap, ◌∙◌}
use Rattle.std.specs.BTreeMap.{insert_entry, is_at}
use Rattle.std.specs.Map.{lookup}
use Rattle.std.specs.Ordering.{match_ordering, nat_cmp}
use Rattle.std.specs.declared.cmp.Ordering.{Ordering}
use Rattle.std.specs.declared.cmp.Ordering.TheVariants.{Less, Equal, Greater}
use Rattle.std.specs.Cmp.Lexicographic.{slice_cmp}
use Rattle.std.specs.Result.{result_err, result_ok}
use Rattle.std.specs.Str.{bytes_eq}
use Rattle.std.specs.String.{string_cmp}
use Rattle.std.proofs.lemmas.Map.Text.{is_eq-slice_cmp}
use Rattle.anchors.specs.Making.{made_anchor}
use Rattle.op_model.specs.Anchors.{place_fault}
use Rattle.op_model.specs.Histories.{History}
use Rattle.op_model.specs.declared.anchor.Anchor.{Anchor}
use Rattle.op_model.specs.declared.anchor.Bias.{Bias}
use Rattle.op_model.specs.declared.faults.PlaceFault.{PlaceFault}
use Rattle.session_work.specs.Names.{new_anchor, by_bytes, under, with_name}

module _ {X Y : Type 0} where
  -- what a map has at the bytes of a name
  pub found_under : (name : List ℕ) (es : List (String Y × X)) → lookup (is_at (λ k. slice_cmp nat_cmp name (string_bytes k))) es ≡ under name (by_bytes es)
  found_under name [] = refl
  found_under name (e ∷ es) =
      ap (λ t. cond t (Some e.1) (lookup (is_at (λ k. slice_cmp nat_cmp name (string_bytes k))) es)) (is_eq-slice_cmp name (string_bytes e.0))
      ∙ ap (λ o. cond (bytes_eq name (string_bytes e.0)) (Some e.1) o) (found_under name es)

  put_by : (k : String Y) (x : X) (e : String Y × X) (es : List (String Y × X)) (o : Ordering)
      → by_bytes (insert_entry string_cmp es k x) ≡ insert_entry (slice_cmp nat_cmp) (by_bytes es) (string_bytes k) x
      → by_bytes (match_ordering o ((k, x) ∷ e ∷ es) ((e.0, x) ∷ es) (e ∷ insert_entry string_cmp es k x))
      ≡ match_ordering o ((string_bytes k, x) ∷ by_bytes (e ∷ es)) ((string_bytes e.0, x) ∷ by_bytes es) ((string_bytes e.0, e.1) ∷ insert_entry (slice_cmp nat_cmp) (by_bytes es) (string_bytes k) x)
  put_by k x e es Less h = refl
  put_by k x e es Equal h = refl
  put_by k x e es Greater h = ap (λ l. (string_bytes e.0, e.1) ∷ l) h

  -- a value is put under a name
  pub put_under : (k : String Y) (x : X) (es : List (String Y × X)) → by_bytes (insert_entry string_cmp es k x) ≡ with_name (string_bytes k) (Some x) (by_bytes es)
  put_under k x [] = refl
  put_under k x (e ∷ es) = put_by k x e es (string_cmp k e.0) (put_under k x es)

-- an anchor that was made is the one that is defined, and none is where there is a fault
pub made_is : (o : ℕ) (b : Bias) (h : History) (r : Result Anchor PlaceFault) → result_err r ≡ place_fault h o → IfOk r (λ a. made_anchor h o b ≡ Some a) → result_ok r ≡ new_anchor o b h
made_is o b h (Ok a) e i = sym i ∙ ap (λ f. cond (is_none f) (made_anchor h o b) None) e
made_is o b h (Err x) e i = ap (λ f. cond (is_none f) (made_anchor h o b) None) e
