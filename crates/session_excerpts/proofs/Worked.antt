-- What the lines report and do, once it is known what is under their name.
use Rattle.std.proofs.Common.{◌≡◌, ℕ, ◌<◌, ◌^◌, cond, List, length, take, Option, None, Some, Result, Ok, Err, IfSome, OnErr, is_none, option_and_then, option_map, sym, ap, ◌∙◌, subst}
use Rattle.std.specs.Option.{unwrap_or}
use Rattle.op_model.specs.Histories.{History}
use Rattle.op_model.specs.declared.operation.Piece.{Piece}
use Rattle.multi_buffer.specs.State.{MultiState, multi_text, new_state}
use Rattle.session_more.specs.declared.report.ExcerptAnswer.{ExcerptAnswer}
use Rattle.session_more.specs.declared.report.MoreReport.TheVariants as report
use Rattle.session_selections.specs.Names.{under, with_name}
use Rattle.session_excerpts.specs.Answers.{after_put, excerpt_answer, push_outcome, split_answer, split_outcome}
use Rattle.session_excerpts.specs.Lines.{after_excerpt, after_sync_of, excerpt_report, history_at, medit_split, multi_report}
use Rattle.session_excerpts.specs.State.{GoOn, GoOnAt, HasRoomAt, Multis, StopsInSync, sync_all, with_multi}
use Rattle.session_excerpts.specs.declared.answers.SplitAnswer.{SplitAnswer}
use Rattle.session_excerpts.proofs.Under.{absent}

-- what holds anyway holds after an error
pub on_err : {T E : Type 0} (x : Result T E) (P : Type 0) → P → OnErr x P
on_err (Ok v) P p = tt
on_err (Err e) P p = p

-- what is reported of a further excerpt
abbrev pub answer_of : ℕ → ℕ → ℕ → List History → MultiState → Option ExcerptAnswer
answer_of i s e hs m = excerpt_answer (push_outcome (history_at i hs) s e (sync_all hs m))

module _ (name : List ℕ) (hs : List History) (w : Multis) where
  -- ---- m is under the name

  module _ (m : MultiState) (is : Some m ≡ under name w) where
    pub goes_on : GoOnAt name hs w → GoOn hs m
    goes_on g = subst (λ (o : Option MultiState). IfSome o (GoOn hs)) (sym is) g

    pub has_room : HasRoomAt name w → length m.excerpts < 2 ^ 20
    has_room g = subst (λ (o : Option MultiState). IfSome o (λ x. length x.excerpts < 2 ^ 20)) (sym is) g

    pub excerpt_said : (i s e : ℕ) (a : ExcerptAnswer) → answer_of i s e hs m ≡ Some a → excerpt_report name i s e hs w ≡ Some (report.Excerpt name a)
    excerpt_said i s e a says =
        ap (λ (o : Option MultiState). option_map (report.Excerpt name) (answer_of i s e hs (unwrap_or o new_state))) (sym is)
        ∙ ap (option_map (report.Excerpt name)) says

    pub excerpt_put : (i s e : ℕ) → with_multi name (λ x. after_put i (history_at i hs) s e (sync_all hs x)) w ≡ after_excerpt name i s e hs w
    excerpt_put i s e =
        ap (λ (o : Option MultiState). cond (is_none o) (with_name name (Some (after_put i (history_at i hs) s e (sync_all hs new_state))) w) (with_multi name (λ x. after_put i (history_at i hs) s e (sync_all hs x)) w)) is

    pub multi_said : (t : List ℕ) → t ≡ multi_text (sync_all hs m) → Some (report.Multi name t) ≡ multi_report name hs w
    multi_said t e = ap (λ (u : List ℕ). Some (report.Multi name u)) e ∙ ap (option_map (λ x. report.Multi name (multi_text (sync_all hs x)))) is

    pub split_said : (ps : List Piece) (a : SplitAnswer) → split_answer (split_outcome ps (sync_all hs m)) ≡ Some a → Some a ≡ medit_split name ps hs w
    split_said ps a says = sym says ∙ ap (option_and_then (λ x. split_answer (split_outcome ps (sync_all hs x)))) is

  -- ---- nothing is

  module _ (none : None ≡ under name w) where
    pub excerpt_said_first : (i s e : ℕ) (a : ExcerptAnswer) → answer_of i s e hs new_state ≡ Some a → excerpt_report name i s e hs w ≡ Some (report.Excerpt name a)
    excerpt_said_first i s e a says =
        ap (λ (o : Option MultiState). option_map (report.Excerpt name) (answer_of i s e hs (unwrap_or o new_state))) (sym none)
        ∙ ap (option_map (report.Excerpt name)) says

    pub excerpt_put_first : (i s e : ℕ) (m : MultiState) → m ≡ after_put i (history_at i hs) s e (sync_all hs new_state) → with_name name (Some m) w ≡ after_excerpt name i s e hs w
    excerpt_put_first i s e m new =
        ap (λ (x : MultiState). with_name name (Some x) w) new
        ∙ ap (λ (o : Option MultiState). cond (is_none o) (with_name name (Some (after_put i (history_at i hs) s e (sync_all hs new_state))) w) (with_multi name (λ x. after_put i (history_at i hs) s e (sync_all hs x)) w)) none

    pub no_text : None ≡ multi_report name hs w
    no_text = ap (option_map (λ x. report.Multi name (multi_text (sync_all hs x)))) none

    pub no_split : (ps : List Piece) → None ≡ medit_split name ps hs w
    no_split ps = ap (option_and_then (λ x. split_answer (split_outcome ps (sync_all hs x)))) none

    pub unchanged : (v : Multis) → v ≡ w → v ≡ after_sync_of name hs w
    unchanged v e = e ∙ sym (absent name (sync_all hs) w none)

    pub stays : (v : Multis) → v ≡ w → StopsInSync name hs w v
    stays v e = (0, e ∙ sym (absent name (sync_all (take 0 hs)) w none))
