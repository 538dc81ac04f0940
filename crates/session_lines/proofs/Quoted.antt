-- A text that a writer wrote alone, and one that is written in parts.
use Rattle.std.proofs.Common.{◌≡◌, List, ℕ, [], ◌∷◌, ◌++◌, Result, Ok, Err, OnOk, OnErr, ap, ap₂, sym, ◌∙◌, Option, map, refl, subst, append-nil}
use denote.Bor.{Bor}
use Rattle.std.specs.List.{concat}
use Rattle.std.specs.Iterator.{YieldsFirstRef}
use Rattle.std.proofs.lemmas.List.{append_assoc, map-append}
use Rattle.std.proofs.lemmas.List.Folds.{concat-append}
use Rattle.std.proofs.lemmas.Grind.{flat_map-append}
use Rattle.std.proofs.lemmas.Iterator.{items_from_drains}
use Rattle.std.proofs.lemmas.Iterator.Consumers.{YieldsList-from_first}
use Rattle.session_lines.specs.Report.{OnText, head_words, line_text, text_line}
use Rattle.session_lines.specs.declared.report.TextHead.{TextHead}
use Rattle.session_lines.specs.declared.report.Report.TheVariants.{Text}
use Rattle.json.specs.Token.{Token, string}
use Rattle.json.specs.Print.{print, print_from, escape, escape_byte, quoted}
use Rattle.json.specs.Written.{Written, Writes}

-- one string token is printed as the quoted text
print-string : (s : List ℕ) → print (string s ∷ []) ≡ quoted s
unfolding print_from
print-string s = append-nil (quoted s)

-- the text is quoted after what was there
pub quoted-ok : {E : Type 0} (r : Result (Unit {0}) E) (old new : Written) (before s items : List ℕ) → Writes r old new (string s) → old.before ≡ before → old.tokens ≡ [] → items ≡ new.before ++ print new.tokens → OnOk r (items ≡ before ++ quoted s)
quoted-ok (Ok u) old new before s items w at none e =
    e ∙ ap₂ (λ (b : List ℕ) (t : List Token). b ++ print t) (w.room.0 ∙ at) (w.ok ∙ ap (λ (t : List Token). t ++ string s ∷ []) none) ∙ ap (λ (t : List ℕ). before ++ t) (print-string s)
quoted-ok (Err u) old new before s items w at none e = tt

-- if an allocation fails nothing is added to what was there
pub quoted-err : {E : Type 0} (r : Result (Unit {0}) E) (old new : Written) (before s items : List ℕ) → Writes r old new (string s) → old.before ≡ before → old.tokens ≡ [] → items ≡ new.before ++ print new.tokens → OnErr r (items ≡ before)
unfolding print_from
quoted-err (Ok u) old new before s items w at none e = tt
quoted-err (Err u) old new before s items w at none e =
    e ∙ ap₂ (λ (b : List ℕ) (t : List Token). b ++ print t) (w.room.0 ∙ at) (w.err ∙ none) ∙ append-nil before

-- a text after its opening quote, and one part more of it
pub escape_more : {A : Type 0} (v : A → List ℕ) (front : List ℕ) (parts : List A) (part : A) → (front ++ 34 ∷ escape (concat (map v parts))) ++ escape (v part) ≡ front ++ 34 ∷ escape (concat (map v (parts ++ part ∷ [])))
escape_more v front parts part =
    let joined : concat (map v (parts ++ part ∷ [])) ≡ concat (map v parts) ++ v part =
    ap concat (map-append v parts (part ∷ [])) ∙ concat-append (map v parts) (v part ∷ []) ∙ ap (λ t. concat (map v parts) ++ t) (append-nil (v part)) in
    append_assoc front (34 ∷ escape (concat (map v parts))) (escape (v part)) ∙ ap (λ t. front ++ 34 ∷ t) (sym (flat_map-append escape_byte (concat (map v parts)) (v part)) ∙ ap escape (sym joined))

-- the line is written by its head, the text that the parts are, and a line feed
pub text_written : {S : Type 0} (steps : S → Option (Bor (List ℕ)) → S → Type 0) (s : S) (h : TextHead) (words old one two new : List ℕ) → words ≡ head_words h → one ≡ old ++ words → OnText steps s (λ text. two ≡ one ++ quoted text) → new ≡ two ++ 10 ∷ [] → OnText steps s (λ text. new ≡ old ++ line_text (Text h text))
unfolding line_text text_line
text_written steps s h words old one two new w o (parts, drains, q) n =
    let text : List ℕ = concat (map (λ part. part.now) parts) in (
      parts,
      drains,
      n ∙ ap (λ t. t ++ 10 ∷ []) (q ∙ ap (λ t. t ++ quoted text) (o ∙ ap (λ t. old ++ t) w))
          ∙ append_assoc (old ++ head_words h) (quoted text) (10 ∷ []) ∙ append_assoc old (head_words h) (quoted text ++ 10 ∷ []),
    )

-- what holds of the text that the parts are, holds of the texts that were left, one after the other
pub text_left : {S : Type 0} (left : S → List (List ℕ)) (s : S) (P : List ℕ → Type 0) → OnText (YieldsFirstRef left) s P → P (concat (left s))
text_left left s P (parts, drains, holds) =
    subst P (ap concat (items_from_drains parts (drains.1.0, drains.1.1, λ w. (drains.0, drains.1.2)) (YieldsList-from_first (λ part. part.now) left (left s) refl))) holds
