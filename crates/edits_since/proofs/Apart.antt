-- The edits since a version are apart, and take the text then to the text now.
use Rattle.std.proofs.Common.{◌≡◌, ℕ, suc, ◌+◌, ◌≤◌, true, false, cond, List, [], ◌∷◌, sym, ap, ◌∙◌, subst, arith}
use Rattle.lamport_clock.specs.Versions.{Entries}
use Rattle.op_model.specs.declared.anchor.TextEdit.{TextEdit}
use Rattle.op_model.specs.Histories.{History}
use Rattle.op_model.specs.Shown.{text}
use Rattle.op_model.specs.Since.{Fate, fates, runs, number_gone, number_new, changes, edits_of, since, text_at, apply_edits}
use Rattle.op_model.proofs.MainLaws.{edits_since_tell_the_change}
use Rattle.edits_since.specs.Laws.{AreApartFrom, AreApart, EditsTakeThenToNow}

sooner : (old new a b : ℕ) (es : List TextEdit) → old ≤ a → new ≤ b → AreApartFrom a b es → AreApartFrom old new es
sooner old new a b [] p q f = tt
sooner old new a b (e ∷ es) p q f = (omega (arith, p, f.0), f.1, omega (arith, q, f.2), f.3, f.4)

edits_apart : (old new : ℕ) (rs : List (List Fate)) → AreApartFrom old new (edits_of old new rs)
edits_apart old new [] = tt
edits_apart old new (r ∷ rs) =
    let a : ℕ = old + number_gone r in
    let b : ℕ = new + number_new r in
    let ih = edits_apart (suc a) (suc b) rs in
    elim (changes r) as (λ c. AreApartFrom old new (cond c (record { old = (old, a); new = (new, b) } ∷ edits_of (suc a) (suc b) rs) (edits_of (suc a) (suc b) rs))) [
      | true ↦ (omega arith, omega arith, omega arith, omega arith, ih)
      | false ↦ sooner old new (suc a) (suc b) (edits_of (suc a) (suc b) rs) (omega arith) (omega arith) ih
    ]

pub since_apart : (h : History) (v : Entries) → AreApart (since h v)
unfolding since
since_apart h v = edits_apart 0 0 (runs (fates h v))

pub take_then_to_now : EditsTakeThenToNow
take_then_to_now fs u v es a h m =
    let e : es ≡ since h v = a h m in (
      ap (λ (z : List TextEdit). apply_edits 0 z (text_at h v) (text h)) e ∙ edits_since_tell_the_change h v m.lawful m.closed,
      subst AreApart (sym e) (since_apart h v),
    )
