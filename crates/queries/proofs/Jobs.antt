-- The jobs among the entries of a queue.
use Rattle.std.proofs.Common.{◌≡◌, List, [], ◌∷◌, ◌++◌, map, refl, sym, ap, ◌∙◌, subst}
use Rattle.std.proofs.lemmas.List.{map-append}
use Rattle.queries.specs.declared.job.Job.{Job}
use Rattle.queries.specs.declared.job.Entry.{Entry}
use Rattle.queries.specs.declared.job.Entry.TheVariants as entry
use Rattle.queries.specs.Queue.{jobs_of, IsOpen, IsEnded}
use Rattle.queries.specs.Asks.{ask_of, asks_of}

module _ {Q : Type 0} where
  pub jobs_of-job : (es : List (Entry Q)) (j : Job Q) → jobs_of (es ++ entry.Job j ∷ []) ≡ jobs_of es ++ j ∷ []
  jobs_of-job [] j = refl
  jobs_of-job (entry.Job k ∷ es) j = ap (λ (l : List (Job Q)). k ∷ l) (jobs_of-job es j)
  jobs_of-job (entry.End ∷ es) j = jobs_of-job es j

  pub jobs_of-end : (es : List (Entry Q)) → jobs_of (es ++ entry.End ∷ []) ≡ jobs_of es
  jobs_of-end [] = refl
  jobs_of-end (entry.Job k ∷ es) = ap (λ (l : List (Job Q)). k ∷ l) (jobs_of-end es)
  jobs_of-end (entry.End ∷ es) = jobs_of-end es

  pub asks_more : (es more : List (Entry Q)) (j : Job Q) → more ≡ es ++ entry.Job j ∷ [] → asks_of more ≡ asks_of es ++ ask_of j ∷ []
  asks_more es more j e = ap asks_of e ∙ ap (λ (l : List (Job Q)). map ask_of l) (jobs_of-job es j) ∙ map-append ask_of (jobs_of es) (j ∷ [])

  pub asks_ended : (es more : List (Entry Q)) → more ≡ es ++ entry.End ∷ [] → asks_of more ≡ asks_of es
  asks_ended es more e = ap asks_of e ∙ ap (λ (l : List (Job Q)). map ask_of l) (jobs_of-end es)

  pub open_more : (es more : List (Entry Q)) (j : Job Q) → more ≡ es ++ entry.Job j ∷ [] → IsOpen es → IsOpen more
  open_more es more j e h = subst IsOpen (sym e) (
      ap (λ (l : List (Entry Q)). l ++ entry.Job j ∷ []) h ∙ (sym (map-append entry.Job (jobs_of es) (j ∷ [])) ∙ ap (λ (l : List (Job Q)). map entry.Job l) (sym (jobs_of-job es j)))
      )

  pub ended_more : (es more : List (Entry Q)) → more ≡ es ++ entry.End ∷ [] → IsOpen es → IsEnded more
  ended_more es more e h = subst IsEnded (sym e) (
      ap (λ (l : List (Entry Q)). l ++ entry.End ∷ []) h ∙ ap (λ (l : List (Job Q)). map entry.Job l ++ entry.End ∷ []) (sym (jobs_of-end es))
      )

  same_jobs : (js ks : List (Job Q)) (items : List (Entry Q)) → map entry.Job js ++ entry.End ∷ [] ≡ (map entry.Job ks ++ entry.End ∷ []) ++ items → js ≡ ks
  same_jobs [] [] items e = refl
  same_jobs [] (k ∷ ks) items e = absurd (cc e)
  same_jobs (j ∷ js) [] items e = absurd (cc e)
  same_jobs (j ∷ js) (k ∷ ks) items e = let rest = same_jobs js ks items (cc e) in cc (e, rest)

  -- where both have their end mark, nothing is left
  pub all_taken : (sent taken items : List (Entry Q)) → IsEnded sent → IsEnded taken → sent ≡ taken ++ items → asks_of sent ≡ asks_of taken
  all_taken sent taken items s t e = ap (λ (l : List (Job Q)). map ask_of l) (same_jobs (jobs_of sent) (jobs_of taken) items (sym s ∙ (e ∙ ap (λ (l : List (Entry Q)). l ++ items) t)))
