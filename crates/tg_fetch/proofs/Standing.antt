-- What is taken of a body by a value is an open body.
use Rattle.std.proofs.Common.{◌≡◌, ℕ, List, [], Option, Some, None, refl, sym, subst, inl}
use Rattle.tg_client.specs.Body.{BodyStands, StandsSo}
use Rattle.tg_client.specs.declared.body.CarBody.{CarBody}
use Rattle.tg_fetch.specs.Bodies.{IsOpenBody, IsTaking, IsTakingAbsence, IsTakingAnswer, absence, answer, block}
use Rattle.tg_fetch.specs.declared.sections.Sections.{Sections}
use Rattle.tg_fetch.specs.declared.sections.Sections.TheVariants as takings
use Rattle.tg_http.specs.declared.reply.ReplyHead.{ReplyHead}
use Rattle.tg_model.specs.Answer.{answer as answer_of}
use Rattle.tg_model.specs.Dag.{Section}
use Rattle.tg_model.specs.Fits.{IsFrontOfAnswer}
use Rattle.tg_model.specs.LimitNumbers.{LimitNumbers}
use Rattle.tg_model.specs.Queries.{QueryParts}
use Rattle.tg_verify.specs.Absences.{path_limits, path_query}
use Rattle.tg_verify.specs.Sound.{ForEachSound, IsItsFront}

-- nothing is a front of an answer
none_is_front : (all : Option (List ℕ)) → IsFrontOfAnswer [] all
none_is_front (Some text) = (text, refl)
none_is_front None = refl

pub none_written : (q : QueryParts) (sections : List Section) (text : List ℕ) → text ≡ [] → ForEachSound q (λ d. IsItsFront q d sections text)
none_written q sections text none = subst (λ (t : List ℕ). ForEachSound q (λ d. IsItsFront q d sections t)) (sym none) (λ d sound root. inl (none_is_front (answer_of q d)))

-- an open body, with what is written a front of each sound DAG's answer
pub record OpenSo (q : QueryParts) (limits : LimitNumbers) (head : ReplyHead) (given text : List ℕ) : Type 0 where
  pub sections : List Section
  pub body : IsOpenBody q limits head given sections text
  pub front : ForEachSound q (λ d. IsItsFront q d sections text)

module _ (stands : BodyStands) (q : QueryParts) (limits : LimitNumbers) (head : ReplyHead) where
  -- of a CAR for these query and limits
  pub stands_for : (asked : QueryParts) (most : LimitNumbers) (body : CarBody) (given : List ℕ) (sections : List Section) (written : List ℕ) → body.verifier.left.query ≡ asked
      → body.verifier.limits ≡ most → StandsSo body.verifier.left.query body.verifier.limits body.verifier.left.wanted given sections written
      → StandsSo asked most body.verifier.left.wanted given sections written
  stands_for asked most body given sections written query limits_are s =
      subst (λ (l : LimitNumbers). StandsSo asked l body.verifier.left.wanted given sections written) limits_are
      (subst (λ (a : QueryParts). StandsSo a body.verifier.limits body.verifier.left.wanted given sections written) query s)

  abbrev pub answer_open : (body : CarBody) (given written : List ℕ) → IsTakingAnswer q limits head body given written → OpenSo q limits head given written
  answer_open body given written t =
      let s = stands_for q limits body given t.sections written t.query t.limits_are (stands body given t.sections written t.is_body) in
      record {
        sections = t.sections;
        body = answer (record { form = t.form; is_head = t.is_head; received = s.received; held = s.held });
        front = s.front;
      }

  abbrev pub absence_open : (body : CarBody) (given written : List ℕ) → IsTakingAbsence q limits head body given → written ≡ [] → OpenSo q limits head given written
  absence_open body given written t none =
      let s = stands_for (path_query q) (path_limits limits) body given t.sections t.said t.query t.limits_are (stands body given t.sections t.said t.is_body) in
      record {
        sections = t.sections;
        body = absence (record { is_head = t.is_head; received = s.received; said = t.said; waits = s.waits t.wanted; no_text = none });
        front = none_written q t.sections written none;
      }

  abbrev pub taking_is_open : (sections : Sections) (given written : List ℕ) → IsTaking q limits head sections given written → OpenSo q limits head given written
  taking_is_open (takings.Answer body) given written t = answer_open body given written t
  taking_is_open (takings.Absence body) given written t = absence_open body given written t.0 t.1
  taking_is_open (takings.Block raw) given written t = record {
    sections = [];
    body = block (record { form = t.0.form; is_head = t.0.is_head; few = t.0.few; no_section = refl; no_text = t.1 });
    front = none_written q [] written t.1;
  }
