-- Which sections a reply carries for a query (RFC 9112, sections 6 and 7; Trustless Gateway specification, response types and
-- CAR responses).
use Rattle.std.specs.Prelude.{Bool, IfSome, List, Some, [], true, ℕ, ◌++◌, ◌∷◌, ◌≡◌}
use Rattle.tg_body.specs.Bodies.{BodyText}
use Rattle.tg_client.specs.Received.{IsCarOf}
use Rattle.tg_heard.specs.FinalHeads.{FinalHead}
use Rattle.tg_http.specs.Fields.{is_identity}
use Rattle.tg_http.specs.declared.framing.Framing.TheVariants as framings
use Rattle.tg_http.specs.declared.reply.ReplyHead.{ReplyHead}
use Rattle.tg_model.specs.Dag.{Section}
use Rattle.tg_model.specs.Queries.{QueryParts}
use Rattle.tg_model.specs.declared.queries.Form.{Form}
use Rattle.tg_model.specs.declared.queries.Form.TheVariants as forms
use Rattle.tg_query.specs.Types.{IsTypeOf}

-- the head states the type that the query asks, and no coding of it
pub record HasAskedType (q : QueryParts) (head : ReplyHead) : Type 0 where
  pub kind : List ℕ
  pub kind_is : head.kind ≡ Some kind
  pub type_is : IsTypeOf q kind
  pub coding : IfSome head.coding (λ coding. is_identity coding ≡ true)

-- a head that answers the query
pub record IsAnswerHead (q : QueryParts) (head : ReplyHead) : Type 0 where
  pub status : head.status ≡ 200
  pub type_is : HasAskedType q head

-- a head behind which a CAR shows that the query's path leads nowhere (this project's own extension)
pub record IsAbsenceHead (q : QueryParts) (head : ReplyHead) : Type 0 where
  pub car : q.form ≡ forms.Car
  pub status : head.status ≡ 404
  pub type_is : HasAskedType q head

-- the body is these sections: those of a CAR, or the root with the body
abbrev pub BodyCarries : Form → QueryParts → List ℕ → List Section → Type 0
BodyCarries forms.Raw q body sections = sections ≡ record { cid = q.root; block = body } ∷ []
BodyCarries forms.Car q body sections = IsCarOf body sections

-- What was heard is a reply whose head is such a one and whose body is these sections: a front of it where the body ends by
-- itself; and all of it, with the link ended, where the body goes on until the link closes.
pub record CarriesBehind (IsHead : ReplyHead → Type 0) (heard : List ℕ) (ended : Bool) (q : QueryParts) (sections : List Section) : Type 0 where
  pub front : List ℕ
  pub more : List ℕ
  pub heard_is : heard ≡ front ++ more
  pub head : ReplyHead
  pub rest : List ℕ
  pub final : FinalHead front head rest
  pub is_head : IsHead head
  pub body : List ℕ
  pub body_is : BodyText head.framing body rest
  pub closed : head.framing ≡ framings.UntilClose → (ended ≡ true) × (more ≡ [])
  pub carries : BodyCarries q.form q body sections

-- the answer, and the blocks that show that there is none
abbrev pub Carries : List ℕ → Bool → QueryParts → List Section → Type 0
Carries heard ended q = CarriesBehind (IsAnswerHead q) heard ended q

abbrev pub CarriesAbsence : List ℕ → Bool → QueryParts → List Section → Type 0
CarriesAbsence heard ended q = CarriesBehind (IsAbsenceHead q) heard ended q
