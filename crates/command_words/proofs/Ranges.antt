-- Each option has a number of its range, where `clap` finds no fault.
use Rattle.std.proofs.Common.{◌≡◌, ◌⊎◌, inl, inr, ◌++◌, ◌||◌, ℕ, Bool, true, false, cond, List, [], ◌∷◌, length, nat_lt, Some, None, is_some, refl, sym, ap, ◌∙◌, subst, true≢false, option_map, ne_eqb, arith}
use Rattle.std.proofs.lemmas.Option.{same_Some}
use Rattle.std.specs.Prelude.{option_and_then, slice_get}
use Rattle.std.specs.List.{AllByRecursion, find, fold}
use Rattle.std.specs.Option.{option_map_or}
use Rattle.std.specs.Str.{bytes_eq}
use Rattle.std.specs.Str.Parse.{digits_value, without_leading_plus}
use Rattle.clap.specs.Facts.{explicit_source, parser_of_value, unwrap_or_range}
use Rattle.clap.specs.Walk.{Row, Rule, Text, action_of, at_row, default_rows, has_row, is_empty, more_values, most_values, reading_by, row_text, used, used_as, values_or_missing, with_default, with_values, without}
use Rattle.clap.specs.Values.{read_as, reading_of}
use Rattle.clap.specs.ValueTests.{accepts, is_unsigned_in}
use Rattle.clap.specs.Kinds.{range_kinds, request_kinds, value_kinds, values_kinds}
use Rattle.clap.specs.Faults.{action_fault, default_fault, defaults_fault, given_default_fault, repeat_fault, use_fault, values_fault}
use Rattle.clap.specs.Takes.{is_given}
use Rattle.clap.specs.declared.builder.action.ArgAction.TheVariants as action
use Rattle.clap.specs.declared.builder.value_parser.Reading.{Reading}
use Rattle.clap.specs.declared.builder.value_parser.Reading.TheVariants.{AsWritten}
use Rattle.clap.specs.declared.builder.value_parser.ValueParser.{ValueParser}
use Rattle.clap.specs.declared.builder.value_parser.ValueParser.TheVariants.{Unsigned}
use Rattle.clap.specs.declared.parser.matches.ValueSource.{ValueSource}
use Rattle.clap.specs.declared.parser.matches.ValueSource.TheVariants.{CommandLine, DefaultValue}
use Rattle.command_words.specs.Words.{number_in, number_of}
use Rattle.command_words.proofs.Kept.{neither}

-- ---- the option of a name, with a number of `least` to `most`

module _ (name : Text) (least most : ℕ) where
  abbrev begins_in : List Text → Bool
  begins_in [] = false
  begins_in (v ∷ vs) = is_unsigned_in least most v

  abbrev Reads : List Text → Reading → Type 0
  Reads values how = (begins_in values ≡ true) × (how ≡ AsWritten)

  abbrev pub IsRead : Row → Type 0
  IsRead r = bytes_eq r.id name ≡ true → Reads r.values r.reading

  -- each row of that name has a number of the range
  abbrev pub AllRead : List Row → Type 0
  AllRead rows = AllByRecursion IsRead rows

  -- an option of one value or more, each a number of the range where it has that name; or a request for help
  abbrev pub Takes : Rule → Type 0
  Takes a = ((action_of a ≡ action.Set) ⊎ (action_of a ≡ action.Help))
      × (bytes_eq a.id name ≡ true → (nat_lt 0 (unwrap_or_range a.range).start_inclusive ≡ true) × (parser_of_value a.parser ≡ Unsigned least most))

  begins_with : (vs ws : List Text) → begins_in vs ≡ true → begins_in (vs ++ ws) ≡ true
  begins_with [] ws e = absurd (true≢false (sym e))
  begins_with (v ∷ vs) ws e = e

  all_with : (rs ts : List Row) → AllRead rs → AllRead ts → AllRead (rs ++ ts)
  all_with [] ts h k = k
  all_with (r ∷ rs) ts h k = (h.0, all_with rs ts h.1 k)

  at_row_reads : (id : Text) (change : Row → List Row) (missing : List Row) → ((r : Row) → bytes_eq r.id id ≡ true → IsRead r → AllRead (change r)) → AllRead missing
      → (rs : List Row) → AllRead rs → AllRead (at_row id change missing rs)
  at_row_reads id change missing changed new [] h = new
  at_row_reads id change missing changed new (r ∷ rs) h = go (bytes_eq r.id id) refl (at_row_reads id change missing changed new rs h.1)
    where
      go : (b : Bool) → bytes_eq r.id id ≡ b → AllRead (at_row id change missing rs) → AllRead (cond b (change r ++ rs) (r ∷ at_row id change missing rs))
      go true e rest = all_with (change r) rs (changed r e h.0) h.1
      go false e rest = (h.0, rest)

  without_reads : (id : Text) (rs : List Row) → AllRead rs → AllRead (without id rs)
  without_reads id rs h = at_row_reads id (λ _. []) [] (λ r e k. tt) tt rs h

  values_read : (id : Text) (how : Reading) (s : ValueSource) (values : List Text) → (bytes_eq id name ≡ true → Reads values how) → (rs : List Row) → AllRead rs → AllRead (with_values id how s values rs)
  values_read id how s values new rs h =
      at_row_reads id (more_values s values) (record { id = id; values = values; count = None; source = Some s; reading = how } ∷ [])
      (λ r e k. ((λ same. (begins_with r.values values (k same).0, (k same).1)), tt)) (new, tt) rs h

  -- ---- a use, and a default

  value_passes : (i : Bool) (p : ValueParser) (v : Text) (vs : List Text) → values_kinds i p (v ∷ vs) ≡ [] → accepts i p v ≡ true
  value_passes i p v vs e = go (accepts i p v) (neither (value_kinds i p v) (values_kinds i p vs) e).0
    where
      go : (b : Bool) → cond b [] (Rattle.clap.specs.Values.refused_kind p ∷ []) ≡ [] → b ≡ true
      go true e = refl
      go false e = absurd (cc e)

  reads_first : (a : Rule) (v : Text) (vs : List Text) → Takes a → values_fault a (v ∷ vs) ≡ [] → bytes_eq a.id name ≡ true → Reads (v ∷ vs) (reading_by a)
  reads_first a v vs t e same =
      let parser = (t.1 same).1 in
      (ap (λ p. accepts a.ignore_case p v) (sym parser) ∙ value_passes a.ignore_case (parser_of_value a.parser) v vs e, ap reading_of parser)

  no_value : (start most_of : ℕ) → nat_lt 0 start ≡ true → range_kinds start most_of 0 ≡ [] → ⊥
  no_value start most_of e none = let bad = rw (e) at none in absurd (cc bad)

  reads_values : (a : Rule) (values : List Text) → Takes a → range_kinds (unwrap_or_range a.range).start_inclusive (most_values a) (length values) ≡ [] → values_fault a (values_or_missing a values) ≡ []
      → bytes_eq a.id name ≡ true → Reads (values_or_missing a values) (reading_by a)
  reads_values a [] t range e same = absurd (no_value (unwrap_or_range a.range).start_inclusive (most_values a) (t.1 same).0 range)
  reads_values a (v ∷ vs) t range e same = reads_first a v vs t e same

  pub used_reads : (again : Bool) (a : Rule) (values : List Text) (rows : List Row) → Takes a → use_fault again a values rows ≡ [] → AllRead rows → AllRead (used a values rows)
  used_reads again a values rows t e h =
      let parts = neither (range_kinds (unwrap_or_range a.range).start_inclusive (most_values a) (length values)) (action_fault (action_of a) again a (values_or_missing a values) rows) e in
      elim t.0 [
        | inl set ↦
            let fine : action_fault action.Set again a (values_or_missing a values) rows ≡ [] = ap (λ x. action_fault x again a (values_or_missing a values) rows) (sym set) ∙ parts.1 in
            let passed = (neither (repeat_fault again a.id rows) (values_fault a (values_or_missing a values)) fine).1 in
            subst (λ x. AllRead (used_as x a.id (reading_by a) (values_or_missing a values) rows)) (sym set)
            (values_read a.id (reading_by a) CommandLine (values_or_missing a values) (reads_values a values t parts.0 passed) (without a.id rows) (without_reads a.id rows h))
        | inr help ↦
            let bad = ap (λ x. action_fault x again a (values_or_missing a values) rows) (sym help) ∙ parts.1 in absurd (cc bad)
      ]

  default_reads : (rows : List Row) (a : Rule) → Takes a → default_fault rows a ≡ [] → AllRead rows → AllRead (with_default rows a)
  default_reads rows a t e h = go (has_row a.id rows) e
    where
      standing : (values : List Text) → cond (is_empty values) [] (given_default_fault a values) ≡ [] → AllRead (default_rows a.id (reading_by a) values rows)
      standing [] e = h
      standing (v ∷ vs) e =
          let some : is_empty (v ∷ vs) ≡ false = ne_eqb (length (v ∷ vs)) 0 (λ none. omega arith) in
          let passed = neither (request_kinds (action_of a)) (values_fault a (v ∷ vs)) (ap (λ b. cond b [] (given_default_fault a (v ∷ vs))) (sym some) ∙ e) in
          values_read a.id (reading_by a) DefaultValue (v ∷ vs) (reads_first a v vs t passed.1) rows h

      go : (b : Bool) → cond (b || is_empty a.defaults) [] (given_default_fault a a.defaults) ≡ [] → AllRead (cond b rows (default_rows a.id (reading_by a) a.defaults rows))
      go true e = h
      go false e = standing a.defaults e

  abbrev pub EachTakes : List Rule → Type 0
  EachTakes rules = AllByRecursion Takes rules

  pub defaults_read : (rows : List Row) (rules : List Rule) → EachTakes rules → defaults_fault rows rules ≡ [] → AllRead rows → AllRead (fold with_default rows rules)
  unfolding defaults_fault
  defaults_read rows [] t e h = h
  defaults_read rows (a ∷ rest) t e h =
      let both = neither (default_fault rows a) (defaults_fault (with_default rows a) rest) e in
      defaults_read (with_default rows a) rest t.1 both.1 (default_reads rows a t.0 both.0 h)

  -- what is found among the arguments is one of them
  pub found_takes : (rules : List Rule) → EachTakes rules → (p : Rule → Bool) (a : Rule) → find p rules ≡ Some a → Takes a
  found_takes [] t p a e = absurd (cc e)
  found_takes (x ∷ rest) t p a e = go (p x) e (found_takes rest t.1 p a)
    where
      go : (b : Bool) → cond b (Some x) (find p rest) ≡ Some a → (find p rest ≡ Some a → Takes a) → Takes a
      go true e later = subst Takes (same_Some x a e) t.0
      go false e later = later e

  -- ---- the number

  number_of_row : (r : Row) → Reads r.values r.reading → is_some (option_and_then (number_in least most) (row_text r)) ≡ true
  number_of_row r reads =
      ap (λ how. is_some (option_and_then (number_in least most) (option_map (read_as how) (slice_get r.values 0)))) reads.1 ∙ go r.values reads.0
    where
      go : (values : List Text) → begins_in values ≡ true → is_some (option_and_then (number_in least most) (option_map (read_as AsWritten) (slice_get values 0))) ≡ true
      go [] e = absurd (true≢false (sym e))
      go (v ∷ vs) e = ap (λ b. is_some (cond b (Some (digits_value 10 (without_leading_plus v))) None)) e

  -- there is a row of that name, so the option has a number
  pub number_there : (rows : List Row) → AllRead rows → has_row name rows ≡ true → is_some (number_of least most name rows) ≡ true
  number_there [] h e = absurd (true≢false (sym e))
  number_there (r ∷ rs) h e = go (bytes_eq r.id name) refl e (number_there rs h.1)
    where
      go : (b : Bool) → bytes_eq r.id name ≡ b → (b || has_row name rs) ≡ true → (has_row name rs ≡ true → is_some (number_of least most name rs) ≡ true)
          → is_some (option_and_then (number_in least most) (option_and_then row_text (cond b (Some r) (find (λ x. bytes_eq x.id name) rs)))) ≡ true
      go true same e later = number_of_row r (h.0 same)
      go false same e later = later e

-- a row that the words gave is a row
pub given_there : (id : Text) (rows : List Row) → is_given id rows ≡ true → has_row id rows ≡ true
given_there id [] e = e
given_there id (r ∷ rs) e = go (bytes_eq r.id id) e (given_there id rs)
  where
    go : (b : Bool) → option_map_or (λ x. explicit_source x.source) (cond b (Some r) (find (λ x. bytes_eq x.id id) rs)) false ≡ true → (is_given id rs ≡ true → has_row id rs ≡ true) → (b || has_row id rs) ≡ true
    go true e later = refl
    go false e later = later e
