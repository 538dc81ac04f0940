-- What each use of an option keeps, a parse without fault keeps: along the words, and where defaults come in.
use Rattle.std.proofs.Common.{◌≡◌, ◌&&◌, ℕ, zero, suc, Bool, true, false, not, cond, List, [], ◌∷◌, length, drop, Option, Some, None, is_some, refl}
use Rattle.std.specs.Prelude.{encode_utf8, slice_get}
use Rattle.std.specs.List.{find, fold}
use Rattle.std.specs.Option.{option_map_or}
use Rattle.std.specs.Str.{bytes_eq, chars}
use Rattle.clap.specs.Lexer.{long_of, short_of}
use Rattle.clap.specs.Walk.{Held, Names, Outcome, Row, Rule, Step, Text, Waiting, Walk, after_flag, after_step, arg_by_id, arg_by_index, arg_by_long, arg_by_short, attached_value, bundle_met, bundle_step, done, flag_met, has_long, has_short, idle, is_pending, long_met, long_or_other, next, option, option_met, option_word, plain, plain_word, positional, reacted, refused, settled, settled_rows, short_met, short_or_plain, subcommand, subcommand_met, subcommand_or_other, takes_several, takes_values, to_positional, trailing, used, used_by_id, value, waits, walked, walked_from, word_met}
use Rattle.clap.specs.Simple.{Shape}
use Rattle.clap.specs.Kinds.{Kinds, or_else}
use Rattle.clap.specs.Faults.{bundle_step_fault, flag_word_fault, flags_fault, long_fault, option_fault, other_fault, positional_fault, react_fault, settle_fault, short_fault, step_fault, stray_fault, turn_fault, use_fault, walk_fault, word_fault}
use Rattle.clap.specs.declared.error.kind.ErrorKind.TheVariants as kind

-- neither step has a fault
pub neither : (a b : Kinds) → or_else a b ≡ [] → (a ≡ []) × (b ≡ [])
neither [] b e = (refl, e)
neither (k ∷ ks) b e = absurd (cc e)

module _ (s : Shape) (P : List Row → Type 0) (keeps : (p : Rule → Bool) (a : Rule) (values : List Text) (rows : List Row) → find p s.rules ≡ Some a → use_fault s.args_override_self a values rows ≡ [] → P rows → P (used a values rows)) where
  -- what is pending is used
  settle_from : (o : Option (Text × List Text)) (rows : List Row) → option_map_or (λ p. option_map_or (λ a. use_fault s.args_override_self a p.1 rows) (arg_by_id s.rules p.0) []) o [] ≡ [] → P rows → P (settled_rows s.rules o rows)
  settle_from None rows e h = h
  settle_from (Some p) rows e h = go (arg_by_id s.rules p.0) refl e
    where
      go : (o : Option Rule) → arg_by_id s.rules p.0 ≡ o → option_map_or (λ a. use_fault s.args_override_self a p.1 rows) o [] ≡ [] → P (used_by_id o p.1 rows)
      go None is e = h
      go (Some a) is e = keeps (λ a. bytes_eq a.id p.0) a p.1 rows is e h

  pub settle_keeps : (h : Held) → settle_fault s.rules s.args_override_self h ≡ [] → P h.rows → P (settled s.rules h).rows
  settle_keeps h e k = settle_from h.pending h.rows e k

  react_keeps : (p : Rule → Bool) (a : Rule) → find p s.rules ≡ Some a → (values : List Text) (h : Held) → react_fault s.rules s.args_override_self a values h ≡ [] → P h.rows → P (reacted s.rules a values h).rows
  react_keeps p a is values h e k =
      let both = neither (settle_fault s.rules s.args_override_self h) (use_fault s.args_override_self a values (settled s.rules h).rows) e in
      keeps p a values (settled s.rules h).rows is both.1 (settle_keeps h both.0 k)

  option_keeps : (p : Rule → Bool) (a : Rule) → find p s.rules ≡ Some a → (v : Option Text) (h : Held) → option_fault s.rules s.args_override_self a v h ≡ [] → P h.rows → P (option_met s.rules a v h).0.rows
  option_keeps p a is None h e k = settle_keeps h e k
  option_keeps p a is (Some v) h e k = react_keeps p a is (v ∷ []) h e k

  flag_keeps : (p : Rule → Bool) (a : Rule) → find p s.rules ≡ Some a → (v : Option Text) (h : Held) → cond (is_some v) (kind.TooManyValues ∷ []) (react_fault s.rules s.args_override_self a [] h) ≡ [] → P h.rows → P (flag_met s.rules a v h).0.rows
  flag_keeps p a is (Some v) h e k = k
  flag_keeps p a is None h e k = react_keeps p a is [] h e k

  long_keeps : (p : Rule → Bool) (o : Option Rule) → find p s.rules ≡ o → (v : Option Text) (h : Held) → long_fault s.rules s.args_override_self o v h ≡ [] → P h.rows → P (long_met s.rules o v h).0.rows
  long_keeps p None is v h e k = k
  long_keeps p (Some a) is v h e k = go (takes_values a) e
    where
      go : (b : Bool) → cond b (option_fault s.rules s.args_override_self a v h) (cond (is_some v) (kind.TooManyValues ∷ []) (react_fault s.rules s.args_override_self a [] h)) ≡ []
          → P (cond b (option_met s.rules a v h) (flag_met s.rules a v h)).0.rows
      go true e = option_keeps p a is v h e k
      go false e = flag_keeps p a is v h e k

  short_keeps : (p : Rule → Bool) (o : Option Rule) → find p s.rules ≡ o → (rest : Text) (h : Held) (then : Held → Held × Outcome) (then_fault : Held → Kinds)
      → ((g : Held) → then_fault g ≡ [] → P g.rows → P (then g).0.rows) → short_fault s.rules s.args_override_self o rest h then_fault ≡ [] → P h.rows → P (short_met s.rules o rest h then).0.rows
  short_keeps p None is rest h then then_fault after e k = k
  short_keeps p (Some a) is rest h then then_fault after e k = go (takes_values a) e
    where
      go : (b : Bool) → cond b (option_fault s.rules s.args_override_self a (attached_value rest) h) (or_else (react_fault s.rules s.args_override_self a [] h) (then_fault (reacted s.rules a [] h))) ≡ []
          → P (cond b (option_met s.rules a (attached_value rest) h) (then (reacted s.rules a [] h))).0.rows
      go true e = option_keeps p a is (attached_value rest) h e k
      go false e =
          let both = neither (react_fault s.rules s.args_override_self a [] h) (then_fault (reacted s.rules a [] h)) e in
          after (reacted s.rules a [] h) both.1 (react_keeps p a is [] h both.0 k)

  -- one character of a bundle, where the characters after it keep it
  bundle_step_keeps : (n : ℕ)
      → ((flags : Text) (skip : ℕ) (so_far : Outcome) (h : Held) → flags_fault s.rules s.args_override_self n flags skip h ≡ [] → P h.rows → P (bundle_met s.rules n flags skip so_far h).0.rows)
      → (o : Option ℕ) (flags : Text) (skip : ℕ) (so_far : Outcome) (h : Held) → bundle_step_fault s.rules s.args_override_self o flags skip h (flags_fault s.rules s.args_override_self n) ≡ []
      → P h.rows → P (bundle_step s.rules o flags skip so_far h (bundle_met s.rules n)).0.rows
  bundle_step_keeps n after None flags skip so_far h e k = k
  bundle_step_keeps n after (Some x) flags zero so_far h e k =
      let rest : Text = drop (length (encode_utf8 x)) flags in
      short_keeps (λ a. not (is_some a.index) && has_short a x) (arg_by_short s.rules x) refl rest h (bundle_met s.rules n rest 0 done) (flags_fault s.rules s.args_override_self n rest 0) (after rest 0 done) e k
  bundle_step_keeps n after (Some x) flags (suc skip) so_far h e k = after (drop (length (encode_utf8 x)) flags) skip so_far h e k

  bundle_keeps : (n : ℕ) (flags : Text) (skip : ℕ) (so_far : Outcome) (h : Held) → flags_fault s.rules s.args_override_self n flags skip h ≡ [] → P h.rows → P (bundle_met s.rules n flags skip so_far h).0.rows
  unfolding flags_fault bundle_met
  bundle_keeps zero flags skip so_far h e k = k
  bundle_keeps (suc n) flags skip so_far h e k = bundle_step_keeps n (bundle_keeps n) (slice_get (chars flags) 0) flags skip so_far h e k

  -- a word that is no flag only joins what is pending
  option_word_keeps : (o : Option Rule) (id word : Text) (h : Held) → P h.rows → P (option_word o id word h).0.rows
  option_word_keeps None id word h k = k
  option_word_keeps (Some a) id word h k = k

  plain_keeps : (waiting : Waiting) (word : Text) (h : Held) → P h.rows → P (plain_word s.rules waiting word h).0.rows
  plain_keeps idle word h k = k
  plain_keeps (option id) word h k = option_word_keeps (arg_by_id s.rules id) id word h k
  plain_keeps positional word h k = k

  after_keeps : (waiting : Waiting) (word : Text) (h : Held) (o : Outcome) → P h.rows → P (after_flag s.rules waiting word h o).0.rows
  after_keeps waiting word h done k = k
  after_keeps waiting word h (waits id) k = k
  after_keeps waiting word h plain k = plain_keeps waiting word h k
  after_keeps waiting word h refused k = plain_keeps waiting word h k

  bundle_word_keeps : (o : Option Text) (waiting : Waiting) (word : Text) (h : Held) → option_map_or (λ flags. flags_fault s.rules s.args_override_self (length flags) flags h.skip (record h { skip = 0 })) o [] ≡ [] → P h.rows
      → P (short_or_plain s.rules waiting word o h).0.rows
  bundle_word_keeps None waiting word h e k = plain_keeps waiting word h k
  bundle_word_keeps (Some flags) waiting word h e k =
      let met = bundle_met s.rules (length flags) flags h.skip plain (record h { skip = 0 }) in
      after_keeps waiting word met.0 met.1 (bundle_keeps (length flags) flags h.skip plain (record h { skip = 0 }) e k)

  flag_word_keeps : (o : Option (Text × Option Text)) (waiting : Waiting) (word : Text) (h : Held) → flag_word_fault s.rules s.args_override_self o word h ≡ [] → P h.rows → P (long_or_other s.rules waiting word o h).0.rows
  flag_word_keeps None waiting word h e k = bundle_word_keeps (short_of word) waiting word h e k
  flag_word_keeps (Some p) waiting word h e k =
      let met = long_met s.rules (arg_by_long s.rules p.0) p.1 h in
      after_keeps waiting word met.0 met.1 (long_keeps (λ a. not (is_some a.index) && has_long a p.0) (arg_by_long s.rules p.0) refl p.1 h e k)

  other_keeps : (o : Option Text) (waiting : Waiting) (position : ℕ) (word : Text) (h : Held) → other_fault s o word h ≡ [] → P h.rows → P (subcommand_or_other s.rules o waiting position word h).0.rows
  other_keeps (Some name) waiting position word h e k = k
  other_keeps None waiting position word h e k = go (bytes_eq word (45 ∷ 45 ∷ [])) e
    where
      go : (b : Bool) → cond b [] (flag_word_fault s.rules s.args_override_self (long_of word) word h) ≡ [] → P (cond b (h, trailing position) (long_or_other s.rules waiting word (long_of word) h)).0.rows
      go true e = k
      go false e = flag_word_keeps (long_of word) waiting word h e k

  word_keeps : (names : Names) (is_trailing : Bool) (waiting : Waiting) (position : ℕ) (word : Text) (h : Held) → word_fault s names is_trailing waiting word h ≡ [] → P h.rows
      → P (word_met s.rules names is_trailing waiting position word h).0.rows
  word_keeps names true waiting position word h e k = k
  word_keeps names false waiting position word h e k = other_keeps (subcommand_met names waiting word) waiting position word h e k

  position_keeps : (o : Option Rule) (word : Text) (w : Walk) (h : Held) → option_map_or (λ a. positional_fault s.rules s.args_override_self a h) o (stray_fault s) ≡ [] → P h.rows → P (to_positional s.rules o word w h).held.rows
  position_keeps None word w h e k = k
  position_keeps (Some a) word w h e k = go (is_pending a h.pending && takes_several a) e
    where
      go : (b : Bool) → cond b [] (settle_fault s.rules s.args_override_self h) ≡ [] → P (cond b h (settled s.rules h)).rows
      go true e = k
      go false e = settle_keeps h e k

  step_keeps : (step : Step) (w : Walk) (word : Text) (h : Held) → step_fault s w.position h step ≡ [] → P h.rows → P (after_step s.rules word w h step).held.rows
  step_keeps (next waiting) w word h e k = k
  step_keeps (trailing position) w word h e k = k
  step_keeps (subcommand name) w word h e k = k
  step_keeps value w word h e k = position_keeps (arg_by_index s.rules w.position) word w h e k

  turn_keeps : (names : Names) (o : Option (Text × List Text)) (w : Walk) (word : Text)
      → cond (is_some o) [] (or_else (word_fault s names w.is_trailing w.waiting word w.held) (step_fault s w.position (word_met s.rules names w.is_trailing w.waiting w.position word w.held).0 (word_met s.rules names w.is_trailing w.waiting w.position word w.held).1)) ≡ []
      → P w.held.rows → P (walked_from s.rules names o w word).held.rows
  turn_keeps names (Some p) w word e k = k
  turn_keeps names None w word e k =
      let met = word_met s.rules names w.is_trailing w.waiting w.position word w.held in
      let both = neither (word_fault s names w.is_trailing w.waiting word w.held) (step_fault s w.position met.0 met.1) e in
      step_keeps met.1 w word met.0 both.1 (word_keeps names w.is_trailing w.waiting w.position word w.held both.0 k)

  pub walk_keeps : (names : Names) (w : Walk) (words : List Text) → walk_fault s names w words ≡ [] → P w.held.rows → P (fold (walked s.rules names) w words).held.rows
  unfolding walk_fault walked
  walk_keeps names w [] e k = k
  walk_keeps names w (word ∷ rest) e k =
      let both = neither (turn_fault s names w word) (walk_fault s names (walked s.rules names w word) rest) e in
      walk_keeps names (walked s.rules names w word) rest both.1 (turn_keeps names w.stopped w word both.0 k)
