-- Lines of a text that are written one after another.
use Rattle.std.proofs.Common.{◌≡◌, ℕ, Bool, true, false, cond, not, ◌&&◌, ◌==◌, List, [], ◌∷◌, ◌++◌, refl, ap, ap₂, ◌∙◌, append_assoc}
use Rattle.std.specs.List.{onto_first}
use Rattle.std.proofs.lemmas.Bool.{and_parts}
use Rattle.serde_json.specs.Data.{Data}
use Rattle.serde_json.specs.Written.{compact_text}
use Rattle.session_lines.specs.Cut.{lines_of}
use Rattle.session_writer.specs.Readable.{is_one_line}
use Rattle.session_writer.specs.Values.{lines_text}

not_feed : (b : Bool) → not b ≡ true → b ≡ false
not_feed true e = cc
not_feed false e = refl

pub cut_line : (t rest : List ℕ) → is_one_line t ≡ true → lines_of (t ++ 10 ∷ rest) ≡ t ∷ lines_of rest
cut_line [] rest h = refl
cut_line (x ∷ t) rest h =
    let p = and_parts (not (x == 10)) (is_one_line t) h in
    ap₂ (λ (b : Bool) ls. cond b ([] ∷ ls) (onto_first x ls)) (not_feed (x == 10) p.0) (cut_line t rest p.1)

pub cut_text : (t rest : List ℕ) → is_one_line t ≡ true → lines_of ((t ++ 10 ∷ []) ++ rest) ≡ t ∷ lines_of rest
cut_text t rest h = ap lines_of (append_assoc t (10 ∷ []) rest) ∙ cut_line t rest h

pub cut_value : (d : Data) (ds : List Data) → is_one_line (compact_text d) ≡ true → lines_of (lines_text (d ∷ ds)) ≡ compact_text d ∷ lines_of (lines_text ds)
cut_value d ds h = cut_text (compact_text d) (lines_text ds) h
