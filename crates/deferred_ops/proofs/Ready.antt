-- The least operation that is ready.
use Rattle.std.proofs.Common.{[], ◌≡◌, false, List, ◌∷◌, refl, ap, true, ◌++◌, None, Option, Some, Bool, cond, sym, ◌∙◌, subst, inl, inr, ◌&&◌}
use Rattle.std.specs.List.{AllByRecursion, find}
use Rattle.std.proofs.lemmas.Bool.{and_parts, cases_Bool}
use Rattle.lamport_clock.specs.declared.stamp.Lamport.{Lamport}
use Rattle.lamport_clock.specs.Stamps.{same_stamp}
use Rattle.lamport_clock.proofs.Later.{later_differs, same_stamp_refl}
use Rattle.lamport_clock.specs.Versions.{within}
use Rattle.op_model.specs.declared.operation.Operation.{Operation}
use Rattle.op_model.specs.Operations.{stamp_of, version_of}
use Rattle.op_model.specs.Sorted.{Ascending}
use Rattle.op_model.specs.Steps.{older, without}
use Rattle.op_model.proofs.Elements.{each_map}
use Rattle.op_model.proofs.settling.Passes.{older_around}
use Rattle.op_model.specs.Histories.{History, version}
use Rattle.op_model.proofs.settling.AllApplied.{AllMiss}
use Rattle.op_model.proofs.settling.Settling.{after}
use Rattle.deferred_ops.specs.Deferred.{is_past, least_ready}

pub without_others : (t : Lamport) (w : List Operation) → AllByRecursion (λ (o : Operation). same_stamp (stamp_of o) t ≡ false) w → without t w ≡ w
without_others t [] e = refl
without_others t (o ∷ w) e = rw e.0 (ap (λ (z : List Operation). o ∷ z) (without_others t w e.1))

pub without_one : (t : Lamport) (v : List Operation) (op : Operation) (w : List Operation) → same_stamp (stamp_of op) t ≡ true → AllByRecursion (λ (o : Operation). same_stamp (stamp_of o) t ≡ false) v
    → AllByRecursion (λ (o : Operation). same_stamp (stamp_of o) t ≡ false) w → without t (v ++ op ∷ w) ≡ v ++ w
without_one t [] op w s e f = rw s (without_others t w f)
without_one t (o ∷ v) op w s e f = rw e.0 (ap (λ (z : List Operation). o ∷ z) (without_one t v op w s e.1 f))

pub without_mid : (v : List Operation) (op : Operation) (w : List Operation) → Ascending older (v ++ op ∷ w) → without (stamp_of op) (v ++ op ∷ w) ≡ v ++ w
without_mid v op w u =
    let a = older_around v op w u in
    let t = stamp_of op in
    without_one t v op w (same_stamp_refl t) (each_map (λ (o : Operation). older o op ≡ true) (λ (o : Operation). same_stamp (stamp_of o) t ≡ false) (λ o e. (later_differs (stamp_of o) t e).0) v a.0)
    (each_map (λ (o : Operation). older op o ≡ true) (λ (o : Operation). same_stamp (stamp_of o) t ≡ false) (λ o e. (later_differs t (stamp_of o) e).1) w a.1)

pub all_past : (w : List Operation) → AllByRecursion (λ (o : Operation). is_past None o ≡ true) w
all_past [] = tt
all_past (o ∷ w) = (refl, all_past w)

-- ---- what is found

pub record Parted (t : Operation → Bool) (w : List Operation) (op : Operation) : Type 0 where
  pub missed : List Operation
  pub behind : List Operation
  pub is : w ≡ missed ++ op ∷ behind
  pub misses : AllByRecursion (λ (o : Operation). t o ≡ false) missed
  pub hit : t op ≡ true

pub part_of : (t : Operation → Bool) (w : List Operation) (op : Operation) → find t w ≡ Some op → Parted t w op
part_of t [] op e = cc
part_of t (o ∷ w) op e = elim (cases_Bool (t o)) [
  | inl y ↦ (let q : Some o ≡ Some op = subst (λ (b : Bool). cond b (Some o) (find t w) ≡ Some op) y e in let s : o ≡ op = cc in
      record { missed = []; behind = w; is = ap (λ (x : Operation). x ∷ w) s; misses = tt; hit = ap t (sym s) ∙ y })
  | inr n ↦ (let p = part_of t w op (subst (λ (b : Bool). cond b (Some o) (find t w) ≡ Some op) n e) in
      record { missed = o ∷ p.missed; behind = p.behind; is = ap (λ (x : List Operation). o ∷ x) p.is; misses = (n, p.misses); hit = p.hit })
]

-- ---- what is ready

abbrev pub is_ready : Option Lamport → History → Operation → Bool
is_ready after h o = is_past after o && within (version_of o) (version h)

pub ready_within : (after : Option Lamport) (h : History) (w : List Operation) (op : Operation) → least_ready after (version h) w ≡ Some op → within (version_of op) (version h) ≡ true
ready_within after h w op e = let p = part_of (is_ready after h) w op e in (and_parts (is_past after op) (within (version_of op) (version h)) p.hit).1

-- it has ended where nothing more is ready
pub past_missing : (after : Option Lamport) (h : History) (w : List Operation) → AllByRecursion (λ (o : Operation). is_past after o ≡ true) w → AllByRecursion (λ (o : Operation). is_ready after h o ≡ false) w → AllMiss h w
past_missing after h [] a r = tt
past_missing after h (o ∷ w) a r = (rw a.0 at r.0, past_missing after h w a.1 r.1)
