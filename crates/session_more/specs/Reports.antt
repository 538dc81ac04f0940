-- The texts of a report's lines.
use Rattle.std.specs.Prelude.{ℕ, ◌+◌, Bool, true, false, List, [], ◌∷◌, ◌++◌, length, codes, decimal}
use Rattle.std.specs.List.{flat_map, join_by}
use Rattle.json.specs.Print.{quoted}
use Rattle.lamport_clock.specs.Stamps.{stamp_text}
use Rattle.session_lines.specs.Report.{edit_fault_words, line_text}
use Rattle.session_lines.specs.declared.report.Report.TheVariants.{Checked}
use Rattle.session_more.specs.Lines.{operation_count, query_count}
use Rattle.session_more.specs.declared.report.MoreReport.{MoreReport}
use Rattle.session_more.specs.declared.report.MoreReport.TheVariants.{Plain, Select, Share, Selected, Fold, Unfold, Folded, Display, Excerpt, Multi, Medit}
use Rattle.session_more.specs.declared.report.DisplayAnswer.{DisplayAnswer}
use Rattle.session_more.specs.declared.report.DisplayAnswer.TheVariants as shown
use Rattle.session_more.specs.declared.report.ExcerptAnswer.{ExcerptAnswer}
use Rattle.session_more.specs.declared.report.ExcerptAnswer.TheVariants as excerpt
use Rattle.session_more.specs.declared.report.FoldAnswer.{FoldAnswer}
use Rattle.session_more.specs.declared.report.FoldAnswer.TheVariants as made
use Rattle.session_more.specs.declared.report.FoldRefusal.{FoldRefusal}
use Rattle.session_more.specs.declared.report.FoldRefusal.TheVariants.{Reversed, PastEnd, InsideChar, EmptyRange}
use Rattle.session_more.specs.declared.report.MeditAnswer.{MeditAnswer}
use Rattle.session_more.specs.declared.report.MeditAnswer.TheVariants as medit
use Rattle.session_more.specs.declared.report.NumberAnswer.{NumberAnswer}
use Rattle.session_more.specs.declared.report.PartAnswer.{PartAnswer}
use Rattle.session_more.specs.declared.report.PartAnswer.TheVariants as part
use Rattle.session_more.specs.declared.report.SplitRefusal.{SplitRefusal}
use Rattle.session_more.specs.declared.report.SplitRefusal.TheVariants as split
use Rattle.session_more.specs.declared.report.UnfoldAnswer.{UnfoldAnswer}
use Rattle.session_more.specs.declared.report.UnfoldAnswer.TheVariants as taken
use Rattle.session_more.specs.declared.report.SelectAnswer.{SelectAnswer}
use Rattle.session_more.specs.declared.report.SelectAnswer.TheVariants as select
use Rattle.session_more.specs.declared.report.SelectedAnswer.{SelectedAnswer}
use Rattle.session_more.specs.declared.report.SelectedAnswer.TheVariants as selected
use Rattle.session_more.specs.declared.report.ShareAnswer.{ShareAnswer}
use Rattle.session_more.specs.declared.report.ShareAnswer.TheVariants as share
use Rattle.session_more.specs.declared.session.MoreSession.{MoreSession}

-- ---- selections

abbrev pub select_words : SelectAnswer → List ℕ
select_words (select.Made t) = stamp_text t
select_words (select.Reversed i) = codes "reversed " ++ decimal i
select_words (select.PastEnd i len) = codes "pastend " ++ (decimal i ++ (codes " " ++ decimal len))
select_words (select.InsideChar i) = codes "insidechar " ++ decimal i
select_words (select.TooMany n) = codes "toomany " ++ decimal n
select_words select.ClockEnd = codes "clockend"

unfoldable pub select_line : List ℕ → SelectAnswer → List ℕ
select_line name answer = codes "select " ++ (quoted name ++ (codes ": " ++ (select_words answer ++ codes "\n")))

abbrev pub share_words : ShareAnswer → List ℕ
share_words share.Set = codes "set"
share_words share.Repeat = codes "repeat"
share_words (share.Old t) = codes "old " ++ stamp_text t
share_words share.Nothing = codes "nothing"
share_words share.BadStamp = codes "badstamp"
share_words (share.TooMany n) = codes "toomany " ++ decimal n
share_words (share.Conflict t) = codes "conflict " ++ stamp_text t

unfoldable pub share_line : List ℕ → ℕ → ShareAnswer → List ℕ
share_line name r answer =
    codes "share " ++ (quoted name ++ (codes " to " ++ (decimal r ++ (codes ": "
    ++ (share_words answer ++ codes "\n")))))

abbrev pub range_words : ℕ × ℕ → List ℕ
range_words p = decimal p.0 ++ (codes ".." ++ decimal p.1)

-- the ranges with a comma and a space between them
abbrev pub ranges_words : List (ℕ × ℕ) → List ℕ
ranges_words [] = codes "empty"
ranges_words (p ∷ ps) = join_by range_words (codes ", ") (p ∷ ps)

abbrev pub selected_words : SelectedAnswer → List ℕ
selected_words (selected.Ranges ps) = ranges_words ps
selected_words selected.Nothing = codes "none"
selected_words (selected.Unknown i) = codes "unknown " ++ decimal i

unfoldable pub selected_line : ℕ → ℕ → SelectedAnswer → List ℕ
selected_line a r answer =
    codes "selected " ++ (decimal a ++ (codes " at " ++ (decimal r ++ (codes ": "
    ++ (selected_words answer ++ codes "\n")))))

-- ---- folds

abbrev pub fold_refusal_words : FoldRefusal → List ℕ
fold_refusal_words (Reversed i) = codes "reversed " ++ decimal i
fold_refusal_words (PastEnd i len) = codes "pastend " ++ (decimal i ++ (codes " " ++ decimal len))
fold_refusal_words (InsideChar i) = codes "insidechar " ++ decimal i
fold_refusal_words EmptyRange = codes "emptyrange"

abbrev pub fold_words : FoldAnswer → List ℕ
fold_words made.Set = codes "set"
fold_words (made.Refused e) = fold_refusal_words e

unfoldable pub fold_line : ℕ → FoldAnswer → List ℕ
fold_line r answer = codes "fold " ++ (decimal r ++ (codes ": " ++ (fold_words answer ++ codes "\n")))

abbrev pub unfold_words : UnfoldAnswer → List ℕ
unfold_words (taken.Count n) = decimal n
unfold_words (taken.Refused e) = fold_refusal_words e

unfoldable pub unfold_line : ℕ → UnfoldAnswer → List ℕ
unfold_line r answer = codes "unfold " ++ (decimal r ++ (codes ": " ++ (unfold_words answer ++ codes "\n")))

unfoldable pub folded_line : ℕ → List ℕ → List ℕ
folded_line r text =
    codes "folded " ++ (decimal r ++ (codes ": " ++ (decimal (length text) ++ (codes " bytes, "
    ++ (quoted text ++ codes "\n")))))

abbrev pub display_words : DisplayAnswer → List ℕ
display_words (shown.Places left right) = decimal left ++ (codes " " ++ decimal right)
display_words shown.Nothing = codes "none"

unfoldable pub display_line : ℕ → ℕ → DisplayAnswer → List ℕ
display_line o r answer =
    codes "display " ++ (decimal o ++ (codes " at " ++ (decimal r ++ (codes ": "
    ++ (display_words answer ++ codes "\n")))))

-- ---- excerpts

abbrev pub excerpt_words : ExcerptAnswer → List ℕ
excerpt_words (excerpt.Index i) = decimal i
excerpt_words (excerpt.Reversed i) = codes "reversed " ++ decimal i
excerpt_words (excerpt.PastEnd i len) = codes "pastend " ++ (decimal i ++ (codes " " ++ decimal len))
excerpt_words (excerpt.InsideChar i) = codes "insidechar " ++ decimal i

unfoldable pub excerpt_line : List ℕ → ExcerptAnswer → List ℕ
excerpt_line name answer =
    codes "excerpt " ++ (quoted name ++ (codes ": " ++ (excerpt_words answer ++ codes "\n")))

unfoldable pub multi_line : List ℕ → List ℕ → List ℕ
multi_line name text =
    codes "multi " ++ (quoted name ++ (codes ": " ++ (decimal (length text) ++ (codes " bytes, "
    ++ (quoted text ++ codes "\n")))))

abbrev pub part_words : PartAnswer → List ℕ
part_words (part.Made t) = stamp_text t
part_words part.Nothing = codes "nothing"
part_words (part.Refused e) = edit_fault_words e

abbrev pub number_words : NumberAnswer → List ℕ
number_words a = decimal a.number ++ (codes " " ++ part_words a.answer)

abbrev pub split_words : SplitRefusal → List ℕ
split_words (split.Reversed i) = codes "reversed " ++ decimal i
split_words (split.Overlap i) = codes "overlap " ++ decimal i
split_words (split.PastEnd i len) = codes "pastend " ++ (decimal i ++ (codes " " ++ decimal len))
split_words (split.InsideChar i) = codes "insidechar " ++ decimal i
split_words (split.TextLimit n) = codes "textlimit " ++ decimal n
split_words (split.Crosses i) = codes "crosses " ++ decimal i
split_words (split.Shared i x) = codes "shared " ++ (decimal i ++ (codes " " ++ decimal x))

abbrev pub medit_words : MeditAnswer → List ℕ
medit_words (medit.Numbers ns) = join_by number_words (codes ", ") ns
medit_words (medit.Refused e) = split_words e

unfoldable pub medit_line : List ℕ → MeditAnswer → List ℕ
medit_line name answer =
    codes "medit " ++ (quoted name ++ (codes ": " ++ (medit_words answer ++ codes "\n")))

-- ---- a line of each kind

unfoldable pub more_line_text : MoreReport → List ℕ
more_line_text (Plain r) = line_text r
more_line_text (Select name answer) = select_line name answer
more_line_text (Share name r answer) = share_line name r answer
more_line_text (Selected a r answer) = selected_line a r answer
more_line_text (Fold r answer) = fold_line r answer
more_line_text (Unfold r answer) = unfold_line r answer
more_line_text (Folded r text) = folded_line r text
more_line_text (Display o r answer) = display_line o r answer
more_line_text (Excerpt name answer) = excerpt_line name answer
more_line_text (Multi name text) = multi_line name text
more_line_text (Medit name answer) = medit_line name answer

-- whether it is a further line with no JSON string in it, for private clauses
abbrev pub is_plain : MoreReport → Bool
is_plain (Selected a r answer) = true
is_plain (Fold r answer) = true
is_plain (Unfold r answer) = true
is_plain (Display o r answer) = true
is_plain _ = false

-- the text of a whole report
unfoldable pub more_report_text : List MoreReport → List ℕ
more_report_text rs = flat_map more_line_text rs

-- ---- what is counted of a session

-- all its lines, the header too; its ids; its operation lines; its queries
abbrev pub more_session_counts : MoreSession → MoreReport
more_session_counts s =
    Plain (Checked (1 + length s.lines) (length s.replicas) (operation_count (length s.replicas) s.lines)
    (query_count s.lines))
