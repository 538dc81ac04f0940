use Rattle.std.proofs.Common.{◌≡◌, ◌==◌, ◌+◌, List, [], ◌∷◌, ◌++◌, length, get_or, None, Some, ap, ◌∙◌, subst}
use Rattle.std.specs.List.{position}
use Rattle.text_buffer.specs.Buffer.{BufferState}
use Rattle.queries.specs.Asks.{Ask}
use Rattle.queries.specs.Dealt.{HasAsked}
use Rattle.session_work.specs.Queries.{query_of, query_with}
use Rattle.session_work.specs.declared.queries.Question.{Question}
use Rattle.session_work.specs.Working.{more_state_of}
use Rattle.session_replay.proofs.Asking.{asked_one, asks_more, at_place, begins, is_listed, nothing_asked, one_ask}
use Rattle.session_work.proofs.Buffers.{not_found}
use Rattle.session_replay.proofs.beside.Editor.put.Goals as goal

pub returns-in_default-clause-asking : goal.returns-in_default-clause-asking
returns-in_default-clause-asking g c =
    let bs = c.args.self.now.progress.plain.exchange.buffers in
    let none : None ≡ position (λ (b : BufferState). b.replica == c.args.id) bs = c.in_default.ensures in
    λ asks a. nothing_asked _ asks _ _ _ (ap (query_of (length asks + 1) c.args.id c.args.question) (not_found c.args.id (λ (b : BufferState). b) bs none).0) a

pub ask-requires-clause-index : goal.ask-requires-clause-index
ask-requires-clause-index g c =
    is_listed _ c.args.id c.in-Some.index c.index-replicas-index.result c.in-Some.ensures c.requires.asking.0 c.args.self.now.dispatcher c.args.publishers.now c.requires.asking.1

pub ask-requires-clause-grows : goal.ask-requires-clause-grows
ask-requires-clause-grows g c =
    begins _ c.args.id c.in-Some.index c.index-replicas-index.result c.in-Some.ensures c.requires.asking.0 c.args.self.now.dispatcher c.args.publishers.now c.requires.asking.1
    _ (c.in_ok-snapshot.ensures ∙ (ap (λ (b : BufferState). b.history) c.index-replicas-index.is ∙ ap (λ bs. (get_or bs c.in-Some.index c.index-replicas-index.result).history) c.replicas.ensures))

pub returns-clause-asking : goal.returns-clause-asking
returns-clause-asking g c =
    let s = (more_state_of c.args.self.now.progress).plain in
    let bs = c.args.self.now.progress.plain.exchange.buffers in
    let r = c.args.id in
    let i = c.in-Some.index in
    let x = c.index-replicas-index.result in
    let question = c.args.question in
    let h = c.in_ok-snapshot.snapshot in
    let e = c.in-Some.ensures in
    let is : h ≡ (get_or bs i x).history = c.in_ok-snapshot.ensures ∙ (ap (λ (b : BufferState). b.history) c.index-replicas-index.is ∙ ap (λ all. (get_or all i x).history) c.replicas.ensures) in
    let put = c.in_ok-ask.ensures in
    let d = c.args.self.now.dispatcher in
    let asked : (ks : List (Ask Question)) → HasAsked d ks → HasAsked c.ask.new.self (ks ++ one_ask (d.count + 1) i question h ∷ []) =
    λ ks k. subst (λ (q : Question). HasAsked c.ask.new.self (ks ++ one_ask (d.count + 1) i q h ∷ [])) c.new.ensures (put.asked ks k) in
    λ asks a. asks_more bs asks _ _ _ _ i x (query_with (length asks + 1) s (Some (r, question))) question h (at_place bs r i x e).0 is
    (asked_one bs r i x e (length asks + 1) question h is)
    asked put.level put.workers put.rows put.pairs put.published a
