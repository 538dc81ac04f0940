-- A parse without fault never enters the subcommand `help`.
use Rattle.std.proofs.Common.{◌≡◌, ℕ, Bool, true, false, not, cond, ◌&&◌, List, [], ◌∷◌, Option, Some, None, is_some, refl}
use Rattle.std.specs.Prelude.{⊤, codes}
use Rattle.std.specs.List.{fold}
use Rattle.std.specs.Str.{bytes_eq}
use Rattle.clap.specs.Lexer.{long_of, short_of}
use Rattle.clap.specs.Walk.{Held, Names, Outcome, Rule, Step, Text, Waiting, Walk, after_flag, after_step, arg_by_index, arg_by_long, bundle, done, idle, long_met, long_or_other, next, option, plain, plain_word, positional, refused, short_or_plain, subcommand, subcommand_met, subcommand_or_other, to_positional, trailing, value, waits, walked, walked_from, word_met}
use Rattle.clap.specs.Simple.{Shape}
use Rattle.clap.specs.Kinds.{or_else}
use Rattle.clap.specs.Faults.{other_fault, step_fault, turn_fault, walk_fault, word_fault}
use Rattle.clap.specs.declared.error.kind.ErrorKind.TheVariants as kind
use Rattle.command_words.proofs.Kept.{neither}

module _ (s : Shape) (names : Names) (offers_help : s.disable_help_subcommand ≡ false) where
  abbrev pub StopsElsewhere : Option (Text × List Text) → Type 0
  StopsElsewhere None = ⊤
  StopsElsewhere (Some p) = bytes_eq p.0 (codes "help") ≡ false

  abbrev LeadsElsewhere : Step → Type 0
  LeadsElsewhere (subcommand name) = bytes_eq name (codes "help") ≡ false
  LeadsElsewhere _ = ⊤

  plain_leads : (waiting : Waiting) (word : Text) (h : Held) → LeadsElsewhere (plain_word s.rules waiting word h).1
  plain_leads idle word h = tt
  plain_leads (option id) word h = tt
  plain_leads positional word h = tt

  after_leads : (waiting : Waiting) (word : Text) (h : Held) (o : Outcome) → LeadsElsewhere (after_flag s.rules waiting word h o).1
  after_leads waiting word h done = tt
  after_leads waiting word h (waits id) = tt
  after_leads waiting word h plain = plain_leads waiting word h
  after_leads waiting word h refused = plain_leads waiting word h

  bundle_leads : (o : Option Text) (waiting : Waiting) (word : Text) (h : Held) → LeadsElsewhere (short_or_plain s.rules waiting word o h).1
  bundle_leads None waiting word h = plain_leads waiting word h
  bundle_leads (Some flags) waiting word h = after_leads waiting word (bundle s.rules flags h).0 (bundle s.rules flags h).1

  flag_leads : (o : Option (Text × Option Text)) (waiting : Waiting) (word : Text) (h : Held) → LeadsElsewhere (long_or_other s.rules waiting word o h).1
  flag_leads None waiting word h = bundle_leads (short_of word) waiting word h
  flag_leads (Some p) waiting word h = after_leads waiting word (long_met s.rules (arg_by_long s.rules p.0) p.1 h).0 (long_met s.rules (arg_by_long s.rules p.0) p.1 h).1

  other_leads : (o : Option Text) (waiting : Waiting) (position : ℕ) (word : Text) (h : Held) → other_fault s o word h ≡ [] → LeadsElsewhere (subcommand_or_other s.rules o waiting position word h).1
  other_leads (Some name) waiting position word h e = go (bytes_eq name (codes "help")) s.disable_help_subcommand offers_help e
    where
      go : (b d : Bool) → d ≡ false → cond (b && not d) (kind.DisplayHelp ∷ kind.InvalidSubcommand ∷ []) [] ≡ [] → b ≡ false
      go false d off e = refl
      go true true off e = absurd (cc off)
      go true false off e = absurd (cc e)
  other_leads None waiting position word h e = go (bytes_eq word (45 ∷ 45 ∷ []))
    where
      go : (b : Bool) → LeadsElsewhere (cond b (h, trailing position) (long_or_other s.rules waiting word (long_of word) h)).1
      go true = tt
      go false = flag_leads (long_of word) waiting word h

  word_leads : (is_trailing : Bool) (waiting : Waiting) (position : ℕ) (word : Text) (h : Held) → word_fault s names is_trailing waiting word h ≡ [] → LeadsElsewhere (word_met s.rules names is_trailing waiting position word h).1
  word_leads true waiting position word h e = tt
  word_leads false waiting position word h e = other_leads (subcommand_met names waiting word) waiting position word h e

  position_stops : (o : Option Rule) (word : Text) (w : Walk) (h : Held) → StopsElsewhere w.stopped → StopsElsewhere (to_positional s.rules o word w h).stopped
  position_stops None word w h k = k
  position_stops (Some a) word w h k = tt

  step_stops : (step : Step) (word : Text) (w : Walk) (h : Held) → StopsElsewhere w.stopped → LeadsElsewhere step → StopsElsewhere (after_step s.rules word w h step).stopped
  step_stops (next waiting) word w h k leads = k
  step_stops (trailing position) word w h k leads = k
  step_stops (subcommand name) word w h k leads = leads
  step_stops value word w h k leads = position_stops (arg_by_index s.rules w.position) word w h k

  turn_stops : (o : Option (Text × List Text)) (w : Walk) (word : Text)
      → cond (is_some o) [] (or_else (word_fault s names w.is_trailing w.waiting word w.held) (step_fault s w.position (word_met s.rules names w.is_trailing w.waiting w.position word w.held).0 (word_met s.rules names w.is_trailing w.waiting w.position word w.held).1)) ≡ []
      → StopsElsewhere o → StopsElsewhere w.stopped → StopsElsewhere (walked_from s.rules names o w word).stopped
  turn_stops (Some p) w word e from k = from
  turn_stops None w word e from k =
      let met = word_met s.rules names w.is_trailing w.waiting w.position word w.held in
      let passed = (neither (word_fault s names w.is_trailing w.waiting word w.held) (step_fault s w.position met.0 met.1) e).0 in
      step_stops met.1 word w met.0 k (word_leads w.is_trailing w.waiting w.position word w.held passed)

  pub walk_stops : (w : Walk) (words : List Text) → walk_fault s names w words ≡ [] → StopsElsewhere w.stopped → StopsElsewhere (fold (walked s.rules names) w words).stopped
  unfolding walk_fault walked
  walk_stops w [] e k = k
  walk_stops w (word ∷ rest) e k =
      let both = neither (turn_fault s names w word) (walk_fault s names (walked s.rules names w word) rest) e in
      walk_stops (walked s.rules names w word) rest both.1 (turn_stops w.stopped w word both.0 k k)
