-- What calls of sets return, as what is defined, where no allocation failed.
use Rattle.std.proofs.Common.{◌≡◌, ◌⊎◌, inl, inr, ℕ, List, [], ◌∷◌, map, Option, None, Some, Result, Ok, Err, IfOk, IfErr, OnOk, OnErr, refl, sym, ap, ap₂, ◌∙◌}
use Rattle.std.specs.List.{filter_map}
use Rattle.std.specs.Result.{result_ok}
use Rattle.op_model.specs.Histories.{History}
use Rattle.selections.specs.Setting.{own_stamp, selection_of, set_fault}
use Rattle.selections.specs.Sets.{SelectionState, keep, kept_for}
use Rattle.selections.specs.Taking.{after_answer, answer}
use Rattle.selections.specs.declared.faults.SelFault.{SelFault}
use Rattle.selections.specs.declared.faults.SelFault.TheVariants as take_fault
use Rattle.selections.specs.declared.faults.SelTook.{SelTook}
use Rattle.selections.specs.declared.faults.SelTook.TheVariants as took
use Rattle.selections.specs.declared.faults.SetFault.{SetFault}
use Rattle.selections.specs.declared.faults.SetFault.TheVariants as set_fault_of
use Rattle.selections.specs.declared.selection.SelectionOp.{SelectionOp}
use Rattle.session_lines.specs.Session.{unless}
use Rattle.session_more.specs.declared.report.ShareAnswer.{ShareAnswer}
use Rattle.session_selections.specs.Answers.{after_set, after_reply, set_outcome, take_answer}

-- the values of a function that has one everywhere
filter_map-all : {X Y : Type 0} (f : X → Option Y) (xs : List X) (ys : List Y) → map Some ys ≡ map f xs → ys ≡ filter_map f xs
filter_map-all f [] [] e = refl
filter_map-all f [] (y ∷ ys) e = cc
filter_map-all f (x ∷ xs) [] e = cc
filter_map-all {X} {Y} f (x ∷ xs) (y ∷ ys) e =
    let head : Some y ≡ f x = cc in
    let rest : map Some ys ≡ map f xs = cc in
    let tail = filter_map-all f xs ys rest in
    rw (← head, ← tail) refl

-- ---- set

module _ (s : SelectionState) (h : History) (rs : List (ℕ × ℕ)) where
  pub set-outcome : (x : Result SelectionOp SetFault) → OnOk x (set_fault s h rs ≡ None) → IfOk x (λ op. op.stamp ≡ own_stamp s) → IfOk x (λ op. map Some op.ranges ≡ map (selection_of h) rs)
      → IfErr x (λ e. (set_fault s h rs ≡ Some e) ⊎ ((e ≡ set_fault_of.OutOfMemory) × (set_fault s h rs ≡ None)))
      → (x ≡ set_outcome s h rs) ⊎ (x ≡ Err set_fault_of.OutOfMemory)
  set-outcome (Ok op) none stamp ranges fault =
      let r : op.ranges ≡ filter_map (selection_of h) rs = filter_map-all (selection_of h) rs op.ranges ranges in
      let e : op ≡ record { stamp = own_stamp s; ranges = filter_map (selection_of h) rs } = λ i. record { stamp = stamp i; ranges = r i } in
      inl (ap₂ unless e (sym none))
  set-outcome (Err f) none stamp ranges (inl e) = inl (ap (unless (record { stamp = own_stamp s; ranges = filter_map (selection_of h) rs })) (sym e))
  set-outcome (Err f) none stamp ranges (inr e) = inr (ap Err e.0)

pub after_set-new : (x : Result SelectionOp SetFault) (s n : SelectionState) → IfOk x (λ op. n ≡ keep op s) → OnErr x (n ≡ s) → n ≡ after_set x s
after_set-new (Ok op) s n new err = new
after_set-new (Err e) s n new err = err

-- ---- what a call answered, where no allocation failed

-- x is y, unless it is the fault f
pub is_outcome : {T E : Type 0} (P : Type 0) (x y : Result T E) (f : E) → IfOk x (λ t. y ≡ Ok t) → IfErr x (λ e. (y ≡ Err e) ⊎ ((e ≡ f) × P)) → (x ≡ y) ⊎ (x ≡ Err f)
is_outcome P (Ok t) y f ok fault = inl (sym ok)
is_outcome P (Err e) y f ok (inl is) = inl (sym is)
is_outcome P (Err e) y f ok (inr is) = inr (ap Err is.0)

pub some_of_ok : {A F : Type 0} (z : Result A F) (o : Option A) → result_ok z ≡ o → IfOk z (λ a. o ≡ Some a)
some_of_ok (Ok a) o e = sym e
some_of_ok (Err e) o is = tt

-- what is said of x is said of y, as nothing is said of f
pub said_of : {T E A F : Type 0} (say : Result T E → Option A) (x y : Result T E) (f : E) (z : Result A F) → say (Err f) ≡ None → (x ≡ y) ⊎ (x ≡ Err f)
    → IfOk z (λ a. say x ≡ Some a) → IfOk z (λ a. say y ≡ Some a)
said_of say x y f (Ok a) none (inl e) is = ap say (sym e) ∙ is
said_of say x y f (Ok a) none (inr e) is = let said : say x ≡ None = ap say e ∙ none in cc
said_of say x y f (Err e) none or is = tt

-- x is y where something is said of it
pub said_is : {T E A : Type 0} (say : Result T E → Option A) (x y : Result T E) (f : E) (a : A) → say (Err f) ≡ None → (x ≡ y) ⊎ (x ≡ Err f) → say x ≡ Some a → x ≡ y
said_is say x y f a none (inl e) is = e
said_is say x y f a none (inr e) is = let said : say x ≡ None = ap say e ∙ none in cc

-- ---- take

pub take-outcome : (s : SelectionState) (op : SelectionOp) (x : Result SelTook SelFault) → IfOk x (λ t. answer s op ≡ Ok t)
    → IfErr x (λ e. (answer s op ≡ Err e) ⊎ ((e ≡ take_fault.OutOfMemory) × (answer s op ≡ Ok took.Set) × (kept_for op.stamp.replica s ≡ None)))
    → (x ≡ answer s op) ⊎ (x ≡ Err take_fault.OutOfMemory)
take-outcome s op (Ok t) ok fault = inl (sym ok)
take-outcome s op (Err e) ok (inl is) = inl (sym is)
take-outcome s op (Err e) ok (inr is) = inr (ap Err is.0)

module _ (s n : SelectionState) (op : SelectionOp) where
  after_reply-new : (x : Result SelTook SelFault) → IfOk x (λ t. n ≡ after_answer t op s) → OnErr x (n ≡ s) → n ≡ after_reply x op s
  after_reply-new (Ok t) new err = new
  after_reply-new (Err e) new err = err

  untaken : (x : Result SelTook SelFault) → None ≡ take_answer x → OnErr x (n ≡ s) → n ≡ s
  untaken (Ok took.Repeat) none err = cc
  untaken (Ok (took.Old t)) none err = cc
  untaken (Ok took.Set) none err = cc
  untaken (Err e) none err = err

  module _ (x : Result SelTook SelFault) (or : (x ≡ answer s op) ⊎ (x ≡ Err take_fault.OutOfMemory)) (new : IfOk x (λ t. n ≡ after_answer t op s)) (err : OnErr x (n ≡ s)) where
    -- the sets after what was reported of them
    pub shared-after : {F : Type 0} (z : Result ShareAnswer F) → result_ok z ≡ take_answer x → OnOk z (n ≡ after_reply (answer s op) op s)
    shared-after (Ok a) e = after_reply-new x new err ∙ ap (λ (y : Result SelTook SelFault). after_reply y op s) (said_is take_answer x (answer s op) take_fault.OutOfMemory a refl or (sym e))
    shared-after (Err f) e = tt

    pub shared-err : {F : Type 0} (z : Result ShareAnswer F) → result_ok z ≡ take_answer x → OnErr z (n ≡ s)
    shared-err (Ok a) e = tt
    shared-err (Err f) e = untaken x e err
