use Rattle.std.proofs.Common.{◌≡◌, ◌⊎◌, inl, inr, ℕ, ◌++◌, Option, None, Some, Result, Ok, Err, IfErr, OnErr, OnOk, option_to_list, refl, sym, ap, ap₂, ◌∙◌}
use Rattle.std.specs.Result.{result_err, result_ok}
use Rattle.std.proofs.lemmas.Result.{on_ok_weaker}
use Rattle.op_model.specs.Histories.{History}
use Rattle.fold_map.specs.Calls.{IsFoldOf, IsFolded, fold_fault}
use Rattle.fold_map.specs.Folds.{FoldState}
use Rattle.fold_map.specs.declared.faults.FoldFault.{FoldFault}
use Rattle.fold_map.specs.declared.faults.FoldFault.TheVariants.{OutOfMemory}
use Rattle.fold_map.specs.declared.fold.Fold.{Fold}
use Rattle.session_more.specs.declared.report.FoldAnswer.{FoldAnswer}
use Rattle.session_folds.specs.Answers.{after_fold, both, fold_answer, fold_of, fold_unless}
use Rattle.session_folds.specs.State.{ReplicaFolds}
use Rattle.session_folds.proofs.replica.ReplicaMap.fold.Goals as goal

fold_made : (h : History) (s e : ℕ) (f : Fold) → IsFoldOf h s e f → Some f ≡ fold_of h s e
fold_made h s e f is = sym (ap₂ both is.start is.end)

folded_is : (m n : FoldState) (s e : ℕ) → IsFolded m n s e → n ≡ fold_unless None s e m
folded_is m n s e is =
    let folds : n.folds ≡ m.folds ++ option_to_list (fold_of m.history s e) = is.folds ∙ ap (λ (o : Option Fold). m.folds ++ option_to_list o) (fold_made m.history s e is.fold is.is_made) in
    λ i. record { history = is.history i; folds = folds i }

-- the fault of a range is f, or else an allocation failed
abbrev IsCause : Option FoldFault → FoldFault → Type 0
IsCause o f = (o ≡ Some f) ⊎ ((o ≡ None) × (f ≡ OutOfMemory))

-- n is the map m after a call that returned x, of which z is reported
left_by : {A F : Type 0} (m n : FoldState) (s e : ℕ) (o : Option FoldFault) (x : Result A FoldFault) (z : Result FoldAnswer F) → result_ok z ≡ fold_answer (result_err x)
    → OnOk x (IsFolded m n s e) → OnOk x (o ≡ None) → OnErr x (n ≡ m) → IfErr x (IsCause o) → OnOk z (n ≡ fold_unless o s e m)
left_by m n s e o (Ok v) (Ok a) says ok none err cause = folded_is m n s e ok ∙ ap (λ (p : Option FoldFault). fold_unless p s e m) (sym none)
left_by m n s e o (Err f) (Ok a) says ok none err (inl is) = err ∙ ap (λ (p : Option FoldFault). fold_unless p s e m) (sym is)
left_by m n s e o (Err f) (Ok a) says ok none err (inr is) =
    let no : fold_answer (Some f) ≡ None = ap (λ (g : FoldFault). fold_answer (Some g)) is.1 in absurd (cc (says, no))
left_by m n s e o (Ok v) (Err a) says ok none err cause = tt
left_by m n s e o (Err f) (Err a) says ok none err cause = tt

pub returns-clause-after : goal.returns-clause-after
returns-clause-after c =
    let m = c.in_ok-map.map in
    let n = c.fold-folded.new.self in
    let own : c.self.inside.id ≡ c.args.self.now.replica = ap (λ (f : ReplicaFolds). f.replica) c.self.view_is ∙ c.in_ok-map.ensures.replica in
    let with_both : ℕ → FoldState → ReplicaFolds = λ r k. record { replica = r; shown = Some k } in
    on_ok_weaker c.fold_answer.result (λ e. ap₂ with_both own (e ∙ ap (after_fold c.args.start c.args.end) c.in_ok-map.ensures.ok))
    (left_by m n c.args.start c.args.end (fold_fault m.history c.args.start c.args.end) c.fold-folded.result c.fold_answer.result c.fold_answer.ensures c.fold-folded.ensures.ok c.fold-folded.ensures.faultless
    c.fold-folded.ensures.err c.fold-folded.ensures.fault)
