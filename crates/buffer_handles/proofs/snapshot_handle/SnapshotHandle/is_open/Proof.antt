-- `is_open` compares the pointer with null.
use Rattle.std.proofs.Common.{◌≡◌, List, [], ◌∷◌, refl, sym, is_some}
use seplogic.Ra.Ura.{Ura}
use base.Fraction.{full_share}
use base.Fml.{ftrue, flft}
use mir.Syntax.{named}
use mir.Val.{Val, vbool}
use contract.Running.{tables}
use types.Kit.{‵, ◌⊛◌, ◌$◌, ◌∵◌, !, qed, by, move, keep, split, join, fsplit, fsplit3, feq_i, rewrite, suffices, frame, group, done}
use types.Run.{enter, of_opd, bin, lit, load, stop, fld, returns}
use types.ByLocal.{alloc_all, pass_all, free_all, look_at, get, through, sets, is}
use types.Part.{whole, sub, look_in}
use denote.Laws.{Is, shows}
use denote.Memory.{cell_at}
use denote.RawPtr.{ptr_val, tests_null}
use denote.Ref.{MutRef, mut_vals, mut_Tells}
use denote.Signature.{plain}
use denote.Steps.{nothing, opens, closes, peeks}
use denote.Triple.Walked.{Stays, walk_of, stay_ref, Goes-ref, ends_at}
use Rattle.core.proofs.mem.Facts.{says_two}
use Rattle.std.proofs.raw_atomic.Walks.{proved}
use Rattle.buffer_handles.proofs.AsBox.{snapshot_box as E}
use Rattle.buffer_handles.proofs.Pointers.{Tells, owns_tells, ptr_typed}
use Rattle.buffer_handles.specs.contracts.snapshot_handle.SnapshotHandle.{the_row as R}
use Rattle.buffer_handles.proofs.snapshot_handle.SnapshotHandle.TheLaws.{lowers}
use Rattle.buffer_handles.specs.contracts.snapshot_handle.SnapshotHandle.is_open as f
use Rattle.buffer_handles.proofs.snapshot_handle.SnapshotHandle.is_open.Statement.{statement}
use Rattle.buffer_handles.proofs.snapshot_handle.SnapshotHandle.is_open.Code as code

abbrev stayed : Stays f.ended.signature.params f.ended.kept
stayed = (stay_ref (0 ∷ []) tt (plain (λ _. R)), tt)

pub is_open_spec : {M : Type 1} → statement M
is_open_spec 𝓤 𝓛 𝓜 𝓡 wired =
    let c = f.clauses 𝓛 𝓜.mem 𝓡.returns in let W = walk_of 𝓛 f.ended stayed c in
    proved 𝓛 f.ended stayed c 𝓜 𝓡 (Goes-ref 𝓛 1 0 tt (plain (λ _. R)), tt)
    f.Key.name code.function (code.unfolded 𝓤 𝓛.H 𝓜 𝓡 wired)
    (λ κs. (mut_vals, tt)) (λ κs. (mut_Tells (named 0) κs.0 R, tt)) (λ κs qs bounds a _ are.
    let b = a.0.ref_ptr.0 in let o = a.0.ref_ptr.1 in let h = a.0.now in let vs = mut_vals a.0 in
    let y : W.Ghost = ((κs, qs, bounds, a, (vs, tt)), tt) in
    qed 𝓛 (((‵ (flft κs.0 qs.0) ⊛ ‵ ftrue) ⊛ ‵ ((MutRef (named 0) κs.0 R).own_val a.0 vs) ⊛ ‵ ftrue) ∷ ‵ ftrue ∷ []) ∵
    split ! $ split ! $ move ! (2 ∷ []) $ split ! $ keep ! (0 ∷ 2 ∷ []) $
    enter ! _ _ _ _ _ $ alloc_all ! (λ l. pass_all ! refl ((tt, tt), tt) $
    fsplit3 ! $ move ! (1 ∷ 2 ∷ 3 ∷ []) $ opens ! tt R b o (λ us.
    move ! (1 ∷ []) $ peeks ! R _ (shows 𝓛 R) h us (λ is_h.
    peeks ! R (λ x _. Tells x.at x.inside) (λ x ws. qed 𝓛 (‵ (R.own_val x ws) ∷ []) ∵ fsplit ! $ keep ! (1 ∷ []) $ by ! (owns_tells E.row 𝓛 x.alloc x.at x.inside)) h us (λ tells.
    let word = lowers.val_is h us is_h in
    let Cell = λ (ws : List Val). ‵ (cell_at full_share R.mir ws b o) in
    rewrite ! 1 Cell word refl $
    -- [what the handle owns; its cell; the open borrow, in three entries]
    sets ! (of_opd ! (load ! (through ! refl (fld ! refl (stop !))) (look_in ! 1 (sub ! 0 refl (whole !))))) refl (ptr_typed h.at) $
    sets ! (is ! (bin ! (get ! refl) (lit ! tt) (tests_null h.at tells.0)) tells.1) refl (tt, tt) $
    rewrite ! 1 Cell (sym word) refl $ move ! (1 ∷ []) $ closes ! tt R h us b o $
    -- [two parts of self; the token; self's first part]
    returns ! (look_at ! 0 refl) $ free_all ! refl $ move ! (3 ∷ []) $
    suffices ! _ (ends_at 𝓛 f.ended stayed c y (vbool (is_some h.inside)) (is_some h.inside) (h, tt) (tt, tt)) $ says_two ! (refl, refl) $
    group ! 3 $ nothing ! $ move ! (1 ∷ 0 ∷ []) $ join ! $ nothing ! $ move ! (2 ∷ 0 ∷ []) $ join ! $ frame ! $ frame ! $
    feq_i ! _ (vbool (is_some h.inside) ∷ []) _ refl $ done !)))))
