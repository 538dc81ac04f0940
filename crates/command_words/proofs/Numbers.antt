-- The number that `clap` reads of an option is the one that its text writes.
use Rattle.std.proofs.Common.{◌≡◌, inl, inr, ℕ, ◌≤◌, Bool, true, false, cond, List, Option, None, Some, Result, Ok, Err, refl, sym, ap, ◌∙◌, subst}
use Rattle.std.specs.Prelude.{◌&&◌, nat_le, option_and_then}
use Rattle.std.specs.Bool.{then_some}
use Rattle.std.proofs.lemmas.Bool.{and_from, and_parts, cases_Bool, false_from_ne_true, le-leb, leb-true, true≢false}
use Rattle.std.specs.Str.Parse.{ParsesUnsigned, digits_value, without_leading_plus}
use Rattle.clap.specs.Matches.{ReadsOne}
use Rattle.clap.specs.Values.{Accepts}
use Rattle.clap.specs.ValueTests.{is_unsigned_in}
use Rattle.clap.specs.declared.builder.value_parser.ValueParser.TheVariants.{Unsigned}
use Rattle.clap.proofs.ValueTestLemmas.{Accepts-accepts, accepts-Accepts}
use Rattle.command_words.specs.Words.{number_in}

module _ (E : Type 0) (G : List ℕ → Result ℕ E → Type 0) (only : (u : List ℕ) (x : Result ℕ E) → G u x → ParsesUnsigned 64 10 u x) (least most : ℕ) where
  passed : (t : List ℕ) → is_unsigned_in least most t ≡ true → Accepts false (Unsigned least most) t
  passed t e = accepts-Accepts false (Unsigned least most) t e

  kept : (t : List ℕ) → is_unsigned_in least most t ≡ true → number_in least most t ≡ Some (digits_value 10 (without_leading_plus t))
  kept t e = ap (λ b. cond b (Some (digits_value 10 (without_leading_plus t))) None) e

  dropped : (t : List ℕ) → is_unsigned_in least most t ≡ false → number_in least most t ≡ None
  dropped t e = ap (λ b. cond b (Some (digits_value 10 (without_leading_plus t))) None) e

  unread : (t : List ℕ) → ReadsOne G t None → number_in least most t ≡ None
  unread t h = elim (cases_Bool (is_unsigned_in least most t)) [
    | inl e ↦ let a = passed t e in absurd (only t (Err h.0) h.1 (a.0, a.1))
    | inr e ↦ dropped t e
  ]

  pub none_read : (o : Option (List ℕ)) → ((t : List ℕ) → o ≡ Some t → ReadsOne G t None) → None ≡ option_and_then (number_in least most) o
  none_read None h = refl
  none_read (Some t) h = sym (unread t (h t refl))

  module _ (n : ℕ) where
    outside : (t : List ℕ) → n ≡ digits_value 10 (without_leading_plus t) → (nat_le least n && nat_le n most) ≡ false → Accepts false (Unsigned least most) t → ⊥
    outside t e not_in a =
        let low : nat_le least n ≡ true = le-leb least n (subst (λ (m : ℕ). least ≤ m) (sym e) a.2) in
        let high : nat_le n most ≡ true = le-leb n most (subst (λ (m : ℕ). m ≤ most) (sym e) a.3) in
        true≢false (sym (and_from (nat_le least n) (nat_le n most) low high) ∙ not_in)

    read_in : (t : List ℕ) → ReadsOne G t (Some n) → number_in least most t ≡ then_some (nat_le least n && nat_le n most) n
    read_in t h =
        let p = only t (Ok n) h in
        let within : Bool = nat_le least n && nat_le n most in
        elim (cases_Bool within) [
          | inl e ↦
              let parts = and_parts (nat_le least n) (nat_le n most) e in
              let low : least ≤ n = leb-true least n parts.0 in
              let high : n ≤ most = leb-true n most parts.1 in
              kept t (Accepts-accepts false (Unsigned least most) t (p.0.0, p.0.1, subst (λ (m : ℕ). least ≤ m) p.1 low, subst (λ (m : ℕ). m ≤ most) p.1 high))
              ∙ ap Some (sym p.1) ∙ ap (λ b. then_some b n) (sym e)
          | inr e ↦ dropped t (false_from_ne_true (is_unsigned_in least most t) (λ y. outside t p.1 e (passed t y))) ∙ ap (λ b. then_some b n) (sym e)
        ]

    pub some_read : (o : Option (List ℕ)) → (o ≡ None → Some n ≡ None) → ((t : List ℕ) → o ≡ Some t → ReadsOne G t (Some n)) → then_some (nat_le least n && nat_le n most) n ≡ option_and_then (number_in least most) o
    some_read None none h = let bad : Some n ≡ None = none refl in absurd (cc bad)
    some_read (Some t) none h = sym (read_in t (h t refl))
