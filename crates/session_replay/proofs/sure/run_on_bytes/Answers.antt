use Rattle.std.proofs.Common.{◌≡◌, ◌<◌, ◌≤◌, ◌⊎◌, List, ℕ, length, subst}
use Rattle.session_replay.specs.Replay.{HasMany, IsBad, IsGood, IsRefused}
use Rattle.session_work.specs.Work.{session_limit}
use Rattle.session_replay.specs.declared.top.Status.TheVariants as status
use Rattle.session_replay.proofs.BytesEnd.{never_rose, not_middle, not_last, is_bad, is_large, of_task}
use Rattle.session_replay.proofs.sure.run_on_bytes.Goals as goal

pub returns-clause-usage : goal.returns-clause-usage
returns-clause-usage g c = λ e. not_middle (c.run.ensures.refused e) c.run.ensures.write_fault

pub returns-clause-completes : goal.returns-clause-completes
returns-clause-completes g c = λ t e. subst (λ (b : List ℕ). length b ≤ session_limit → IsGood t b → (c.run.result ≡ status.Done) ⊎ (c.run.result ≡ status.Memory))
    c.new-src.ensures (c.run.ensures.completes never_rose never_rose t e)

pub returns-clause-made : goal.returns-clause-made
returns-clause-made g c = λ s n e k. not_last ((c.run.ensures.made s n e k).1) c.run.ensures.write_fault

pub returns-clause-refuses : goal.returns-clause-refuses
returns-clause-refuses g c = λ t e. subst (λ (b : List ℕ). (session_limit < length b) ⊎ IsRefused t b → (c.run.result ≡ status.Session) ⊎ ((c.run.result ≡ status.TooLarge) ⊎ (c.run.result ≡ status.Memory)))
    c.new-src.ensures (c.run.ensures.refuses never_rose never_rose t e)

pub returns-clause-session : goal.returns-clause-session
returns-clause-session g c = λ k. let r = c.run.ensures.session k in let b = is_bad _ _ c.new-src.ensures _ _ _ _ _ (IsBad r.0) _ r.2 in (b.0, (r.0, r.1, b.1))

pub returns-clause-large : goal.returns-clause-large
returns-clause-large g c = λ k.
    let r = c.run.ensures.large k in
    of_task _ _ r.0 r.1 (is_large _ _ c.new-src.ensures _ _ _ _ _ (HasMany r.0) _ _ _ r.2)
