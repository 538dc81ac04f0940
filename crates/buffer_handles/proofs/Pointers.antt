-- What the pointer of a handle says of what the handle holds. Assumes `Logic`.
use Rattle.std.specs.Prelude.{◌≡◌, Option, Some, None, is_some, true}
use mathlib.Core.Bool.{true≢false}
use mathlib.Core.Path.{refl, sym, subst}
use mathlib.Core.List.{[], ◌∷◌}
use lib.Dec.{T, lit<}
use seplogic.Ra.Ura.{Ura}
use mir.Syntax.{ty_ptr, ptr_ne}
use mir.Val.{vbool, vnull, op2_val, has_ty, WT}
use mir.Raw.{raw as bare}
use base.Fml.{ftrue, fex}
use base.Logic.{ent, never, never_e, via, fst∗, snd∗}
use types.Logic.{Logic, sem}
use types.Kit.{‵, ◌$◌, ◌∵◌, !, qed, by, fpick}
use contract.Monad.{fact, fact_i, fact_mono}
use denote.Memory.{lone}
use denote.RattleType.{RattleType}
use denote.RawPtr.{Ptr, block_ptr, null_ptr, ptr_val, Testable}
use Rattle.std.specs.Global.{Global}
use Rattle.core.specs.Ptr.{points_to}
use Rattle.std_heap.specs.contracts.GlobalAllocator.TheImpl.{ghosts}
use Rattle.std_heap.proofs.GlobalToken.{dealloc_token-Testable}
use Rattle.buffer_handles.specs.Handles.{owns_inside}

-- the machine value of a pointer has its type
pub ptr_typed : (p : Ptr) → T (has_ty ty_ptr (ptr_val p)) × WT (ptr_val p)
ptr_typed (block_ptr b o) = (tt, tt)
ptr_typed null_ptr = (tt, record { fits = lit< tt })

-- the pointer may be compared with null, and is not null just where there is something inside
abbrev pub Tells : {X : Type 0} → Ptr → Option X → Type 0
Tells p inside = Testable p × (op2_val ptr_ne (ptr_val p) vnull ≡ vbool (is_some inside))

-- what is inside where there is something
pub inside_of : {X : Type 0} → (i : Option X) → is_some i ≡ true → (x : X) × (i ≡ Some x)
inside_of (Some x) e = (x, refl)
inside_of None e = absurd (true≢false (sym e))

module _ (R : RattleType) {M : Type 1} {𝓤 : Ura M} (𝓛 : Logic 𝓤) (alloc : Global) where
  nothing_tells : (p : Ptr) → p ≡ null_ptr → Tells {X = R.Denot} p None
  nothing_tells p e = subst (λ (q : Ptr). Tells {X = R.Denot} q None) (sym e) (lit< tt, refl)

  pub owns_tells : (p : Ptr) (inside : Option R.Denot) → ent 𝓤 (sem 𝓛 (owns_inside R alloc p inside)) (fact 𝓤 (Tells p inside))
  owns_tells p None = qed 𝓛 (‵ (fex (p ≡ null_ptr) (λ _. ftrue)) ∷ []) ∵ fpick ! (λ e. by ! (fact_i 𝓤 (Tells {X = R.Denot} p None) _ (nothing_tells p e)))
  owns_tells (block_ptr b o) (Some x) =
      via 𝓤 (fact 𝓤 (Testable (block_ptr b o)))
      (via 𝓤 _ (snd∗ 𝓤 (sem 𝓛 (points_to R (block_ptr b o) x)) (sem 𝓛 (ghosts.dealloc_token alloc (bare (lone R.mir)) (block_ptr b o))))
      (dealloc_token-Testable 𝓛 alloc (bare (lone R.mir)) (block_ptr b o)))
      (fact_mono 𝓤 (Testable (block_ptr b o)) (Tells (block_ptr b o) (Some x)) (λ t. (t, refl)))
  owns_tells null_ptr (Some x) =
      via 𝓤 (never 𝓤) (fst∗ 𝓤 (never 𝓤) (sem 𝓛 (ghosts.dealloc_token alloc (bare (lone R.mir)) null_ptr))) (never_e 𝓤 _)
