-- Moves that carry the bytes of fragments back to what a version saw make the text that it saw.
use Rattle.op_model.proofs.texts.WholeWalks.{texts_of as proper_texts}
use Rattle.std.proofs.Common.{◌≡◌, ℕ, zero, suc, Bool, true, false, ◌&&◌, cond, List, [], ◌∷◌, ◌++◌, map, get_or, refl, sym, ap, ◌∙◌, arith}
use Rattle.std.specs.List.{AllByRecursion, filter}
use Rattle.lamport_clock.specs.declared.stamp.Lamport.{Lamport}
use Rattle.lamport_clock.specs.Versions.{Entries, sees}
use Rattle.op_model.specs.declared.operation.Operation.{Operation}
use Rattle.op_model.specs.Domains.{IsProper}
use Rattle.op_model.specs.Operations.{stamp_of}
use Rattle.op_model.specs.Histories.{History, In, newest_first}
use Rattle.op_model.specs.Cells.{Cell, seq, cells}
use Rattle.op_model.specs.Shown.{byte, deleters, hidden_text, text}
use Rattle.op_model.specs.Facts.{Fact, fact, cell_facts, alike}
use Rattle.op_model.specs.Walked.{IsWhole, facts_of}
use Rattle.op_model.specs.Lawful.{Lawful, IsClosed}
use Rattle.op_model.specs.Since.{text_at, is_shown_at as was_shown_in}
use Rattle.op_model.proofs.histories.Lawful.{LawInv}
use Rattle.op_model.proofs.answers.Good.{lawful_ready}
use Rattle.op_model.proofs.order.SameSets.{newest_same}
use Rattle.op_model.proofs.MainLaws.{texts_at_closed_versions}
use Rattle.op_model.proofs.texts.WholeTexts.{byte_of}
use Rattle.op_model.proofs.texts.WholeRuns.{byte_new, whole_runs}
use Rattle.op_model.proofs.texts.Utf8Runs.{bytes}
use Rattle.undo_map.specs.declared.entry.UndoEntry.{UndoEntry}
use Rattle.undo_map.specs.Undos.{undo_entries}
use Rattle.fragments.specs.declared.fragment.Fragment.{Fragment}
use Rattle.fragments.specs.Stand.{runs}
use Rattle.remote_edit.specs.declared.moves.Move.{Move}
use Rattle.remote_edit.specs.Marks.{was_shown}
use Rattle.remote_edit.specs.Moves.{Texts, after_moves, TakeTexts}
use Rattle.remote_edit.specs.Carried.{Carried, IsText, shown_bytes}
use Rattle.remote_edit.proofs.Texts.{text_bytes, hidden_text_bytes}
use Rattle.remote_edit.proofs.WholeFragments.{texts_are}
use Rattle.edits_since.specs.Fates.{was_in_text}
use Rattle.edits_since.specs.Back.{AreMovesBack, TakeCharacters}
use Rattle.edits_since.proofs.Walking.{IsSettled}
use Rattle.edits_since.proofs.Standing.{settled, was_is}
use Rattle.edits_since.proofs.Moving.{as_seen, CarryBack}
use Rattle.op_model.proofs.answers.SameAnswers.{no_bytes}

-- ---- the text at a version

abbrev refact : List UndoEntry → Entries → Fact → Fact
refact u v q = record { cell = q.cell; visible = sees v q.cell.stamp && was_shown u v q.cell.stamp q.deletions; deletions = q.deletions }

alike_seen : (u : List UndoEntry) (v : Entries) (t : Lamport) (k n : ℕ) (b : Bool) (d : List Lamport) (s : List Fact)
    → alike t k n (sees v t && was_shown u v t d) d ++ map (refact u v) s ≡ map (refact u v) (alike t k n b d ++ s)
alike_seen u v t k zero b d s = refl
alike_seen u v t k (suc n) b d s = ap (λ (z : List Fact). record { cell = record { stamp = t; k = k }; visible = sees v t && was_shown u v t d; deletions = d } ∷ z) (alike_seen u v t (suc k) n b d s)

facts_seen : (u : List UndoEntry) (v : Entries) (fs : List Fragment) → facts_of (runs (map (as_seen u v) fs)) ≡ map (refact u v) (facts_of (runs fs))
facts_seen u v [] = refl
facts_seen u v (f ∷ fs) = ap (λ (z : List Fact). alike f.stamp f.offset f.len (was_in_text u v f) f.deletions ++ z) (facts_seen u v fs)
    ∙ alike_seen u v f.stamp f.offset f.len f.visible f.deletions (facts_of (runs fs))

module _ (h : History) (v : Entries) (l : Lawful h) (k : IsClosed h v) where
  laws : LawInv h
  laws = (lawful_ready h l).0

  bytes_seen : (s : List Cell) → bytes (byte_of h) (filter (λ (q : Fact). q.visible) (map (refact (undo_entries h) v) (map (fact h) s))) ≡ map (byte h) (filter (was_shown_in h v) s)
  bytes_seen [] = refl
  bytes_seen (c ∷ s) =
      ap (λ (b : Bool). bytes (byte_of h) (cond b (record { cell = c; visible = b; deletions = deleters h c } ∷ others) others)) (sym (was_is h v l k c))
      ∙ pick (was_shown_in h v c) (bytes_seen s)
    where
      others : List Fact
      others = filter (λ (q : Fact). q.visible) (map (refact (undo_entries h) v) (map (fact h) s))

      pick : (b : Bool) → bytes (byte_of h) others ≡ map (byte h) (filter (was_shown_in h v) s)
          → bytes (byte_of h) (cond b (record { cell = c; visible = b; deletions = deleters h c } ∷ others) others) ≡ map (byte h) (cond b (c ∷ filter (was_shown_in h v) s) (filter (was_shown_in h v) s))
      pick true e = ap (λ (x : ℕ). x ∷ bytes (byte_of h) others) (byte_new h laws.distinct c.stamp c.k) ∙ ap (λ (z : List ℕ). byte h c ∷ z) e
      pick false e = e

  text_seen : (fs : List Fragment) (u : List UndoEntry) → u ≡ undo_entries h → facts_of (runs fs) ≡ cell_facts h → shown_bytes (byte_of h) (map (as_seen u v) fs) ≡ text_at h v
  text_seen fs u e t =
      ap (λ (w : List UndoEntry). shown_bytes (byte_of h) (map (as_seen w v) fs)) e
      ∙ ap (λ (s : List Fact). bytes (byte_of h) (filter (λ (q : Fact). q.visible) s)) (facts_seen (undo_entries h) v fs)
      ∙ ap (λ (s : List Fact). bytes (byte_of h) (filter (λ (q : Fact). q.visible) (map (refact (undo_entries h) v) s))) t
      ∙ bytes_seen (cells (seq h))
      ∙ sym (texts_at_closed_versions h v l k).1

  -- ---- no operation has this stamp
  abbrev nobody : Lamport
  nobody = record { value = 0; replica = 0 }

  positive : (o : Operation) → In h o → stamp_of o ≡ nobody → ⊥
  positive o i e = let a = laws.above o i 0 in let b : (stamp_of o).value ≡ 0 = ap (λ (t : Lamport). t.value) e in absurd (omega arith)

  of_nobody : (j : ℕ) → byte_of h (record { stamp = nobody; k = j }) ≡ get_or [] j 0
  of_nobody j = ap (λ (x : List ℕ). get_or x j 0) (no_bytes (newest_first h) nobody (λ o i. positive o ((newest_same h o).0 i)))

  module _ (fs : List Fragment) (u : List UndoEntry) (ms : List Move) (counts : u ≡ undo_entries h) (tell : facts_of (runs fs) ≡ cell_facts h) (c : CarryBack fs u v ms) where
    carried : Carried (byte_of h) nobody (text h) (hidden_text h) [] ms (map (as_seen u v) fs) [] 0
    carried = c nobody (byte_of h) (text h) (hidden_text h) [] (omega arith) (record {
      moves = record {
        put = refl;
        left_shown = sym (text_bytes h fs tell);
        left_hidden = sym (hidden_text_bytes h fs laws.distinct tell);
        news = refl;
      };
      text = of_nobody;
      characters = λ x. tt;
    })

    text_back : (after_moves ms (text h) (hidden_text h) []).shown ≡ text_at h v
    text_back = ap (λ (x : Texts). x.shown) carried.moves.put ∙ text_seen fs u counts tell

    each_seen : (gs : List Fragment) → AllByRecursion (IsText (byte_of h)) gs → AllByRecursion (IsText (byte_of h)) (map (as_seen u v) gs)
    each_seen [] e = tt
    each_seen (g ∷ gs) e = (e.0, each_seen gs e.1)

    take_texts : AllByRecursion IsProper h → AllByRecursion (IsWhole h) (runs fs) → TakeTexts ms (text h) (hidden_text h) []
    take_texts p w = carried.characters (each_seen fs (texts_are (byte_of h) fs (whole_runs h l (proper_texts h p) (runs fs) w)))

-- ---- where the fragments stand for the history

module _ (fs : List Fragment) (u : List UndoEntry) (v : Entries) (ms : List Move) (c : AllByRecursion (IsSettled u v) fs → CarryBack fs u v ms) where
  pub moves_are_back : AreMovesBack fs u v ms
  moves_are_back h m = text_back h v m.lawful m.closed fs u ms m.stands.counts m.stands.cells (c (settled fs u v h m))

  pub characters_are_whole : TakeCharacters fs u v ms
  characters_are_whole h m p w = take_texts h v m.lawful m.closed fs u ms m.stands.counts m.stands.cells (c (settled fs u v h m)) p w
