-- The bytes of fragments with the cells of a history are its texts.
use Rattle.std.proofs.Common.{◌≡◌, ℕ, Bool, not, List, [], ◌∷◌, ◌++◌, length, refl, sym, ap, ◌∙◌, arith}
use Rattle.std.specs.List.{AllByRecursion, filter}
use Rattle.op_model.specs.declared.operation.Operation.{Operation}
use Rattle.op_model.specs.Operations.{stamp_of, pieces_of}
use Rattle.op_model.specs.Histories.{History, Distinct}
use Rattle.op_model.specs.Shown.{text, hidden_text, texts}
use Rattle.op_model.specs.Facts.{Fact, cell_facts}
use Rattle.op_model.specs.Answers.{answer}
use Rattle.op_model.specs.Answers.Answer.{Good}
use Rattle.op_model.specs.Lawful.{Lawful}
use Rattle.op_model.specs.Walked.{facts_of}
use Rattle.op_model.proofs.answers.Good.{lawful_ready, good_more}
use Rattle.op_model.proofs.texts.WholeTexts.{byte_of, text_told, byte_is, in_last, bytes_told, same_bytes}
use Rattle.op_model.proofs.texts.Utf8Runs.{bytes}
use Rattle.fragments.specs.declared.fragment.Fragment.{Fragment}
use Rattle.fragments.specs.Stand.{runs, Tell}
use Rattle.remote_edit.specs.declared.moves.Move.{Move}
use Rattle.remote_edit.specs.Moves.{texts_of, TakeTexts}
use Rattle.remote_edit.specs.Carried.{AreMovesOf, shown_bytes, hidden_bytes, IsText, Carried, Carry}
use Rattle.remote_edit.specs.CarriedLaws.{CarriedTextsAreThose}
use Rattle.op_model.proofs.Elements.{each_filter}
use Rattle.op_model.proofs.texts.Hidden.{hidden_told}

pub text_bytes : (h : History) (fs : List Fragment) → Tell fs h → shown_bytes (byte_of h) fs ≡ text h
text_bytes h fs e = ap (λ s. bytes (byte_of h) (filter (λ (q : Fact). q.visible) s)) e ∙ sym (text_told h)

pub hidden_text_bytes : (h : History) (fs : List Fragment) → Distinct h → Tell fs h → hidden_bytes (byte_of h) fs ≡ hidden_text h
hidden_text_bytes h fs d e = ap (λ s. bytes (byte_of h) (filter (λ (q : Fact). not q.visible) s)) e ∙ sym (hidden_told h d)

-- the bytes of the cells of h in the history with op
module _ (h : History) (op : Operation) (d : Distinct h) (e : Distinct (h ++ op ∷ [])) where
  pub old_bytes : (p : Fact → Bool) (fs : List Fragment) → Tell fs h → bytes (byte_of (h ++ op ∷ [])) (filter p (facts_of (runs fs))) ≡ bytes (byte_of h) (filter p (facts_of (runs fs)))
  old_bytes p fs t = ap (λ s. bytes (byte_of (h ++ op ∷ [])) (filter p s)) t
      ∙ sym (same_bytes (byte_of h) (byte_of (h ++ op ∷ [])) (filter p (cell_facts h)) (each_filter (λ (q : Fact). byte_of h q.cell ≡ byte_of (h ++ op ∷ []) q.cell) p (cell_facts h) (bytes_told h op d e)))
      ∙ sym (ap (λ s. bytes (byte_of h) (filter p s)) t)

  -- nothing is put out yet
  pub begun : (fs : List Fragment) → Tell fs h → Carried (byte_of (h ++ op ∷ [])) (stamp_of op) (text h) (hidden_text h) (texts (pieces_of op)) [] [] fs 0
  begun fs t = record {
    moves = record {
      put = refl;
      left_shown = sym (old_bytes (λ (q : Fact). q.visible) fs t ∙ text_bytes h fs t);
      left_hidden = sym (old_bytes (λ (q : Fact). not q.visible) fs t ∙ hidden_text_bytes h fs d t);
      news = refl;
    };
    text = byte_is (h ++ op ∷ []) e op (in_last h op);
    characters = λ u. tt;
  }

  -- all is put out
  pub ended : (gs : List Fragment) (ms : List Move) (k : ℕ) → Tell gs (h ++ op ∷ [])
      → Carried (byte_of (h ++ op ∷ [])) (stamp_of op) (text h) (hidden_text h) (texts (pieces_of op)) ms gs [] k → AreMovesOf ms h op
  ended gs ms k t c = c.moves.put ∙ both (shown_bytes (byte_of (h ++ op ∷ [])) gs) (text (h ++ op ∷ [])) (hidden_bytes (byte_of (h ++ op ∷ [])) gs) (hidden_text (h ++ op ∷ []))
      (text_bytes (h ++ op ∷ []) gs t) (hidden_text_bytes (h ++ op ∷ []) gs e t)
    where
      both : (a b x y : List ℕ) → a ≡ b → x ≡ y → texts_of a x ≡ texts_of b y
      both a b x y i j = rw (i, j) refl

pub carried_texts : CarriedTextsAreThose
carried_texts h op fs gs ms l g t u c =
    let r = lawful_ready h l in
    let d = r.0.distinct in
    let e = (good_more h op r g).0.0.distinct in
    ended h op d e gs ms (length (texts (pieces_of op))) u (c (byte_of (h ++ op ∷ [])) (text h) (hidden_text h) (texts (pieces_of op)) (omega arith) (begun h op d e fs t))

-- moves that carry the bytes of fragments to others take whole characters if the bytes of each of these are UTF-8
pub carried_characters : (h : History) (op : Operation) (fs gs : List Fragment) (ms : List Move) → Lawful h → answer h [] op ≡ Good → Tell fs h → Carry ms op fs gs
    → AllByRecursion (IsText (byte_of (h ++ op ∷ []))) gs → TakeTexts ms (text h) (hidden_text h) (texts (pieces_of op))
carried_characters h op fs gs ms l g t c u =
    let r = lawful_ready h l in
    (c (byte_of (h ++ op ∷ [])) (text h) (hidden_text h) (texts (pieces_of op)) (omega arith) (begun h op r.0.distinct (good_more h op r g).0.0.distinct fs t)).characters u
