-- A session of the lines of `session_lines` alone reports what these lines report.
use Rattle.std.proofs.Common.{◌≡◌, ℕ, ◌+◌, List, [], ◌∷◌, ◌++◌, length, map, refl, sym, ap, ap₂, ◌∙◌}
use Rattle.std.specs.List.{flat_map}
use Rattle.std.proofs.lemmas.List.{map-append}
use Rattle.session_lines.specs.declared.session.Session.{Session}
use Rattle.session_lines.specs.declared.session.SessionLine.{SessionLine}
use Rattle.session_more.specs.Decoding.{plainly}
use Rattle.session_more.specs.declared.report.MoreReport.{MoreReport}
use Rattle.session_more.specs.declared.report.MoreReport.TheVariants.{Plain}
use Rattle.session_more.specs.declared.session.MoreLine.TheVariants as line
use Rattle.session_work.specs.MoreQueries.{more_queries_from, more_report_of}
use Rattle.session_work.specs.MoreWork.{MoreState, after_all_more, all_more_events, more_opening, more_step}
use Rattle.session_work.specs.Queries.{AskedQuery, end_of, plain_line, queries_from, queries_of, query_at, report_of}
use Rattle.session_work.specs.Work.{State, after_all, all_events, at_end, events, opening, step}

events_same : (ls : List SessionLine) (s : MoreState) → all_more_events (map line.Plain ls) s ≡ map Plain (all_events ls s.plain)
events_same [] s = refl
events_same (l ∷ ls) s =
    ap (λ (rs : List MoreReport). map Plain (events l s.plain) ++ rs) (events_same ls (more_step (line.Plain l) s))
    ∙ sym (map-append Plain (events l s.plain) (all_events ls (step l s.plain)))

end_same : (ls : List SessionLine) (s : MoreState) → (after_all_more (map line.Plain ls) s).plain ≡ after_all ls s.plain
end_same [] s = refl
end_same (l ∷ ls) s = end_same ls (more_step (line.Plain l) s)

queries_same : (q : ℕ) (ls : List SessionLine) (s : MoreState) → more_queries_from q (map line.Plain ls) s ≡ queries_from q ls s.plain
queries_same q [] s = refl
queries_same q (l ∷ ls) s =
    let qs : List AskedQuery = query_at q l s.plain in ap (λ (ks : List AskedQuery). qs ++ ks) (queries_same (q + length qs) ls (more_step (line.Plain l) s))

pub report_same : (s : Session) → more_report_of (plainly s) ≡ map Plain (report_of s)
unfolding more_report_of report_of
report_same s =
    let o : MoreState = more_opening (plainly s) in
    let answers = ap₂ (λ (qs : List AskedQuery) (u : State). map plain_line qs ++ flat_map at_end u.buffers) (queries_same 1 s.lines o) (end_same s.lines o) in
    ap₂ (λ (es qs : List MoreReport). es ++ qs) (events_same s.lines o) (ap (map Plain) answers)
    ∙ sym (map-append Plain (all_events s.lines (opening s)) (map plain_line (queries_of s) ++ flat_map at_end (end_of s).buffers))
