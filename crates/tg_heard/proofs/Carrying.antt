-- Replies carry their sections.
use Rattle.std.proofs.Common.{◌≡◌, ℕ, ◌≤◌, Bool, true, false, List, [], ◌∷◌, ◌++◌, Option, Some, codes, refl, sym, subst, ◌∙◌, arith}
use Rattle.httparse.specs.Grammar.{trim_ows}
use Rattle.std.specs.Prelude.{IfSome, length}
use Rattle.std.proofs.lemmas.List.{append-nil}
use Rattle.tg_bytes.specs.Lists.{joined}
use Rattle.tg_body.specs.Bodies.{BodyText}
use Rattle.tg_cid.specs.Computed.{v1_bytes}
use Rattle.tg_http.specs.Fields.{is_identity}
use Rattle.tg_http.specs.declared.framing.Framing.{Framing}
use Rattle.tg_http.specs.declared.framing.Framing.TheVariants as framings
use Rattle.tg_http.specs.declared.reply.ReplyHead.{ReplyHead}
use Rattle.tg_model.specs.Dag.{Section}
use Rattle.tg_model.specs.Queries.{QueryParts}
use Rattle.tg_model.specs.declared.queries.Form.{Form}
use Rattle.tg_model.specs.declared.queries.Form.TheVariants as forms
use Rattle.tg_query.specs.Accepts.{choice_of, form_of_range, param_of, raw_type}
use Rattle.tg_query.specs.Requests.{car_with_dups, dups_word}
use Rattle.tg_query.specs.Types.{HasType, IsCarType, IsTypeOf}
use Rattle.tg_reply.specs.Bodies.{IsCar}
use Rattle.tg_reply.specs.CarBytes.{car_parts}
use Rattle.tg_reply.specs.Laws.{ReadsBack, Tells, number_of}
use Rattle.tg_reply.specs.Readings.{CarReads, RawReads, Reads}
use Rattle.tg_reply.specs.Replies.{Reply, car_reply, raw_reply, reply_bytes}
use Rattle.tg_heard.specs.Carried.{BodyCarries, CarriesBehind, HasAskedType, IsAbsenceHead, IsAnswerHead}
use Rattle.tg_heard.specs.FinalHeads.{FinalHead, none}
use Rattle.tg_heard.specs.Laws.{CarsCarry, RawsCarry}
use Rattle.tg_heard.proofs.Framings.{told_of}

-- ---- the types

-- the type of a CAR is read as the form of a CAR
car_form : (dups : Bool) → form_of_range (car_with_dups dups) ≡ Some forms.Car
unfolding form_of_range trim_ows
car_form true = refl
car_form false = refl

-- and its parameters as those of which it is made
car_choice : (dups : Bool) → ((choice_of (car_with_dups dups)).version ≡ codes "1") × ((choice_of (car_with_dups dups)).order ≡ codes "dfs") × ((choice_of (car_with_dups dups)).dups ≡ dups_word dups)
unfolding param_of trim_ows
car_choice true = (refl, refl, refl)
car_choice false = (refl, refl, refl)

-- the type that a reply with a CAR states is the one that is asked
car_type : (dups : Bool) → IsCarType dups (car_with_dups dups)
car_type dups = record { form = car_form dups; version = (car_choice dups).0; order = (car_choice dups).1; dups = (car_choice dups).2 }

-- the type of a raw block is read as the raw form
raw_form : form_of_range raw_type ≡ Some forms.Raw
unfolding form_of_range trim_ows
raw_form = refl

-- a head that is told to state the type that is asked, and no coding
pub asked_type : (q : QueryParts) (size status : ℕ) (kind : List ℕ) (framing : Framing) (head : ReplyHead) → IsTypeOf q kind → Tells size status kind framing head → HasAskedType q head
asked_type q size status kind framing head type_is says = record {
  kind = kind;
  kind_is = says.kind_is;
  type_is = type_is;
  coding = subst (λ (o : Option (List ℕ)). IfSome o (λ coding. is_identity coding ≡ true)) (sym says.coding) tt;
}

-- ---- what is read is carried

-- the head of a reply that reads back is final at the front of its bytes
pub final_read : (text body kind : List ℕ) (status : ℕ) (framing : Framing) → 200 ≤ status → ReadsBack text status kind framing
    → (head : ReplyHead) × FinalHead (text ++ body) head body × Tells (length text) status kind framing head
final_read text body kind status framing high back =
    let told = told_of (length text) back.tree in
    let says = back.told told.0 told.1 in
    let status_is : told.0.status ≡ status = says.status_is in (
      told.0,
      record {
        count = 0;
        behind = text ++ body;
        interims = none (text ++ body);
        few = omega arith;
        begins = record { text = text; tree = back.tree; is_reply = back.is_reply body; told = told.1; whole = refl };
        final = λ i. omega (arith, i.1, status_is, high);
      },
      says,
    )

module _ (IsHead : ReplyHead → Type 0) (reply : Reply) (q : QueryParts) (sections : List Section) (kind : List ℕ) (framing : Framing) (content : List ℕ)
    (high : 200 ≤ number_of reply.status) (reads : Reads reply kind framing content)
    (is_head : (head : ReplyHead) → Tells (length reply.head) (number_of reply.status) kind framing head → IsHead head)
    (carries : BodyCarries q.form q content sections) where
  -- what is read of a reply is carried by its bytes
  carried : (more : List ℕ) (ended : Bool) → (framing ≡ framings.UntilClose → (ended ≡ true) × (more ≡ []))
      → CarriesBehind IsHead (reply_bytes reply ++ more) ended q sections
  carried more ended closed =
      let found = final_read reply.head reply.body kind (number_of reply.status) framing high reads.head in
      let same : found.0.framing ≡ framing = found.2.framing_is in
      record {
        front = reply_bytes reply;
        more = more;
        heard_is = refl;
        head = found.0;
        rest = reply.body;
        final = found.1;
        is_head = is_head found.0 found.2;
        body = content;
        body_is = subst (λ (f : Framing). BodyText f content reply.body) (sym same) reads.body;
        closed = λ e. closed (sym same ∙ e);
        carries = carries;
      }

-- chunks end by themselves
pub chunked_open : framings.Chunked ≡ framings.UntilClose → ⊥
chunked_open e = cc

-- and so does a body of a length
length_open : (n : ℕ) → framings.Length n ≡ framings.UntilClose → ⊥
length_open n e = cc

-- a reply with a CAR, whose head is one of these
module _ (IsHead : ReplyHead → Type 0) (reply : Reply) (q : QueryParts) (sections : List Section) (form : q.form ≡ forms.Car)
    (high : 200 ≤ number_of reply.status)
    (is_head : (framing : Framing) (head : ReplyHead) → Tells (length reply.head) (number_of reply.status) (car_with_dups q.dups) framing head → IsHead head)
    (car : IsCar q.root sections) where
  -- the parts of the CAR are a body that carries its sections
  car_body : BodyCarries q.form q (joined (car_parts q.root sections)) sections
  car_body = subst (λ (f : Form). BodyCarries f q (joined (car_parts q.root sections)) sections) (sym form) ((0 ∷ v1_bytes q.root) ∷ [], car.text)

  -- in chunks it carries them whatever follows
  pub in_chunks : Reads reply (car_with_dups q.dups) framings.Chunked (joined (car_parts q.root sections))
      → (more : List ℕ) (ended : Bool) → CarriesBehind IsHead (reply_bytes reply ++ more) ended q sections
  in_chunks reads more ended =
      carried IsHead reply q sections (car_with_dups q.dups) framings.Chunked (joined (car_parts q.root sections)) high reads
      (is_head framings.Chunked) car_body more ended (λ e. absurd (chunked_open e))

  -- and until the connection closes where it ended
  pub until_close : Reads reply (car_with_dups q.dups) framings.UntilClose (joined (car_parts q.root sections))
      → CarriesBehind IsHead (reply_bytes reply) true q sections
  until_close reads =
      subst (λ (l : List ℕ). CarriesBehind IsHead l true q sections) (append-nil (reply_bytes reply))
      (carried IsHead reply q sections (car_with_dups q.dups) framings.UntilClose (joined (car_parts q.root sections)) high reads
      (is_head framings.UntilClose) car_body [] true (λ e. (refl, refl)))

-- the heads of an answer and of an absence with a CAR
pub answer_head : (q : QueryParts) (size : ℕ) → q.form ≡ forms.Car → (framing : Framing) (head : ReplyHead) → Tells size 200 (car_with_dups q.dups) framing head → IsAnswerHead q head
answer_head q size form framing head says = record {
  status = says.status_is;
  type_is = asked_type q size 200 (car_with_dups q.dups) framing head (subst (λ (f : Form). HasType f q.dups (car_with_dups q.dups)) (sym form) (car_type q.dups)) says;
}

-- the same with status 404
pub absence_head : (q : QueryParts) (size : ℕ) → q.form ≡ forms.Car → (framing : Framing) (head : ReplyHead) → Tells size 404 (car_with_dups q.dups) framing head → IsAbsenceHead q head
absence_head q size form framing head says = record {
  car = form;
  status = says.status_is;
  type_is = asked_type q size 404 (car_with_dups q.dups) framing head (subst (λ (f : Form). HasType f q.dups (car_with_dups q.dups)) (sym form) (car_type q.dups)) says;
}

-- a CAR, found or not
pub cars_carry : CarReads → CarsCarry
cars_carry cars head true q sections get form spelled fits =
    let both = cars head true q sections get spelled fits in
    let r = car_reply head true q sections false in (
      λ e more ended. in_chunks (IsAnswerHead q) r q sections form (omega arith) (answer_head q (length r.head) form) (both.0 e).car (both.0 e).reads more ended,
      λ e. until_close (IsAnswerHead q) r q sections form (omega arith) (answer_head q (length r.head) form) (both.1 e).car (both.1 e).reads,
    )
cars_carry cars head false q sections get form spelled fits =
    let both = cars head false q sections get spelled fits in
    let r = car_reply head false q sections false in (
      λ e more ended. in_chunks (IsAbsenceHead q) r q sections form (omega arith) (absence_head q (length r.head) form) (both.0 e).car (both.0 e).reads more ended,
      λ e. until_close (IsAbsenceHead q) r q sections form (omega arith) (absence_head q (length r.head) form) (both.1 e).car (both.1 e).reads,
    )

-- a raw block
pub raws_carry : RawReads → RawsCarry
raws_carry raws head q block get form small fits more ended =
    let section : Section = record { cid = q.root; block = block } in
    let r = raw_reply head q block in
    carried (IsAnswerHead q) r q (section ∷ []) raw_type (framings.Length (length block)) block (omega arith) (raws head q block get small fits)
    (λ told says. record {
      status = says.status_is;
      type_is = asked_type q (length r.head) 200 raw_type (framings.Length (length block)) told (subst (λ (f : Form). HasType f q.dups raw_type) (sym form) raw_form) says;
    })
    (subst (λ (f : Form). BodyCarries f q block (section ∷ [])) (sym form) refl) more ended (λ e. absurd (length_open (length block) e))
