-- What one replica reports of settling, and at the end.
use Rattle.std.proofs.Common.{◌≡◌, ℕ, ◌+◌, ◌<◌, ◌≤◌, List, [], ◌∷◌, ◌++◌, length, drop, get_or, map, refl, sym, ap, ◌∙◌}
use Rattle.std.proofs.lemmas.List.{drop_all, drop_more}
use Rattle.lamport_clock.specs.declared.stamp.Lamport.{Lamport}
use Rattle.op_model.specs.Shown.{text}
use Rattle.op_model.specs.declared.faults.OpFault.{OpFault}
use Rattle.text_buffer.specs.Buffer.{BufferState, number_applied, after_settle}
use Rattle.text_buffer.specs.Outcomes.{pair_of}
use Rattle.text_buffer.specs.declared.outcomes.Refused.{Refused as Entry}
use Rattle.session_lines.specs.Report.{line_text, report_text}
use Rattle.session_lines.specs.declared.report.TextHead.TheVariants as head
use Rattle.session_lines.specs.declared.report.Report.{Report}
use Rattle.session_lines.specs.declared.report.Report.TheVariants as report
use Rattle.session_lines.proofs.Reports.{all_written, line_reported, written, more_reported, parts_reported, some_of, none_of}
use Rattle.session_work.specs.Work.{at_end, counts_report, refused_report, settled_reports}

module _ (b after : BufferState) (c : ℕ) (is : after ≡ after_settle b) (count : c ≡ number_applied b after) where
  same_count : c ≡ number_applied b (after_settle b)
  same_count = count ∙ ap (number_applied b) is

  pub none_settled : (out : List ℕ) → c ≡ 0 → out ≡ out ++ report_text (settled_reports b)
  none_settled out e = none_of b.replica (number_applied b (after_settle b)) out (sym same_count ∙ e)

  pub some_settled : (r : ℕ) (out new : List ℕ) → (c ≡ 0 → ⊥) → b.replica ≡ r → new ≡ out ++ line_text (report.Settled r c) → new ≡ out ++ report_text (settled_reports b)
  some_settled r out new h i e =
      let line : report.Settled r c ≡ report.Settled b.replica (number_applied b (after_settle b)) = cc (i, same_count) in
      some_of b.replica (number_applied b (after_settle b)) out new (λ z. h (same_count ∙ z)) (e ∙ ap (λ q. out ++ line_text q) line)

-- ---- at the end

abbrev pub refusals : ℕ → List Entry → List Report
refusals r es = map (refused_report r) (map pair_of es)

pub more_refused : (r : ℕ) (es : List Entry) (i : ℕ) (d : Entry) (out new all : List ℕ) → i < length es → out ++ report_text (refusals r (drop i es)) ≡ all
    → new ≡ out ++ line_text (report.Refused r (get_or es i d).stamp (get_or es i d).fault) → new ++ report_text (refusals r (drop (i + 1) es)) ≡ all
more_refused r es i d out new all lt e n =
    let line : Report = report.Refused r (get_or es i d).stamp (get_or es i d).fault in
    written (line ∷ []) (refusals r (drop (i + 1) es)) out new all (ap (λ l. out ++ report_text (refusals r l)) (sym (drop_more es i d lt)) ∙ e) (line_reported line line out new refl n)

pub refused_done : (r : ℕ) (es : List Entry) (i : ℕ) (out all : List ℕ) → length es ≤ i → out ++ report_text (refusals r (drop i es)) ≡ all → out ≡ all
refused_done r es i out all le e = all_written out all (ap (λ l. out ++ report_text (refusals r l)) (sym (drop_all i es le)) ∙ e)

pub end_reported : (b : BufferState) (r : ℕ) (fs : List (Lamport × OpFault)) (t out one two new : List ℕ) → b.replica ≡ r → fs ≡ b.refused → t ≡ text b.history
    → one ≡ out ++ line_text (counts_report b) → two ≡ one ++ report_text (map (refused_report r) fs) → new ≡ two ++ line_text (report.Text (head.FinalText r) t) → new ≡ out ++ report_text (at_end b)
end_reported b r fs t out one two new i f e h k l =
    let last : Report = report.Text (head.FinalText b.replica) (text b.history) in
    let same : report.Text (head.FinalText r) t ≡ last = cc in
    let middle : two ≡ one ++ report_text (map (refused_report b.replica) b.refused) =
    k ∙ ap (λ q. one ++ report_text (map (refused_report q) fs)) (sym i) ∙ ap (λ fs. one ++ report_text (map (refused_report b.replica) fs)) f in
    more_reported (counts_report b) (map (refused_report b.replica) b.refused ++ last ∷ []) out one new h
    (parts_reported (map (refused_report b.replica) b.refused) (last ∷ []) one two new middle (line_reported (report.Text (head.FinalText r) t) last two new same l))
