-- Laws of what replies carry.
use Rattle.std.specs.Prelude.{All, Bool, List, [], false, length, true, ℕ, ◌++◌, ◌<◌, ◌^◌, ◌∷◌, ◌≡◌, ◌≤◌, ⊤}
use Rattle.tg_heard.specs.Carried.{Carries, CarriesAbsence, CarriesBehind}
use Rattle.tg_heard.specs.FinalHeads.{FinalHead}
use Rattle.tg_http.specs.declared.reply.ReplyHead.{ReplyHead}
use Rattle.tg_http.specs.declared.request.RequestHead.{RequestHead}
use Rattle.tg_model.specs.Dag.{Dag, Section}
use Rattle.tg_model.specs.PathWalk.{Stop, not_reached, path_walk, terminal}
use Rattle.tg_model.specs.Queries.{QueryParts}
use Rattle.tg_model.specs.StoreView.{store_view}
use Rattle.tg_model.specs.Stores.{Store}
use Rattle.tg_model.specs.Traversal.{block_list}
use Rattle.tg_model.specs.declared.queries.Form.TheVariants as forms
use Rattle.tg_reply.specs.Asked.{is_head}
use Rattle.tg_reply.specs.AskedReadings.{IsAskedByGet, IsByteStore}
use Rattle.tg_reply.specs.Bodies.{IsSpelled}
use Rattle.tg_reply.specs.Readings.{IsGet}
use Rattle.tg_reply.specs.Replies.{LeadsNowhere, Reply, car_reply, raw_reply, refused_request, reply, reply_bytes, sent_dag}
use Rattle.tg_reply.specs.declared.refusal.Refusal.{Refusal}

-- ---- what is heard is one

-- the final head, and what follows it
abbrev pub OneFinalHead : Type 0
OneFinalHead = (bytes more rest behind : List ℕ) (head other : ReplyHead) → FinalHead bytes head rest
    → FinalHead (bytes ++ more) other behind → (head ≡ other) × (behind ≡ rest ++ more)

-- at most one list of sections is carried for a query, behind whichever heads, and whether or not the link ended
abbrev pub OneCarried : Type 0
OneCarried = (heard : List ℕ) (ended later : Bool) (q : QueryParts) (sections more : List Section) → CarriesBehind (λ head. ⊤) heard ended q sections
    → CarriesBehind (λ head. ⊤) heard later q more → sections ≡ more

-- an answer, or an absence
abbrev pub CarriedBy : Bool → List ℕ → Bool → QueryParts → List Section → Type 0
CarriedBy true heard ended q sections = Carries heard ended q sections
CarriedBy false heard ended q sections = CarriesAbsence heard ended q sections

-- the same of an answer and of an absence
abbrev pub OneCarriedBy : Type 0
OneCarriedBy = (found other : Bool) (heard : List ℕ) (ended later : Bool) (q : QueryParts) (sections more : List Section) → CarriedBy found heard ended q sections
    → CarriedBy other heard later q more → sections ≡ more

-- no answer is an absence
abbrev pub NotBoth : Type 0
NotBoth = (heard : List ℕ) (ended later : Bool) (q : QueryParts) (sections more : List Section) → Carries heard ended q sections
    → CarriesAbsence heard later q more → ⊥

-- ---- the replies of a gateway

-- to a request of HTTP/1.1 the reply carries the sections whatever follows it, whether or not the link ended; to HTTP/1.0
-- where the link ended behind it
abbrev pub CarriesBy : (List ℕ → Bool → QueryParts → List Section → Type 0) → ℕ → Reply → QueryParts → List Section → Type 0
CarriesBy Carried minor reply q sections =
    (minor ≡ 1 → (more : List ℕ) (ended : Bool) → Carried (reply_bytes reply ++ more) ended q sections)
    × (minor ≡ 0 → Carried (reply_bytes reply) true q sections)

-- the CAR that isn't cut carries its sections, where they and the root are spelled, the names are bytes, and its head fits a
-- head
abbrev pub CarsCarry : Type 0
CarsCarry = (head : RequestHead) (found : Bool) (q : QueryParts) (sections : List Section) → IsGet head q → q.form ≡ forms.Car
    → All IsSpelled sections → length (car_reply head found q sections false).head ≤ 16384
    → CarriesBy (CarriedBy found) head.minor (car_reply head found q sections false) q sections

-- the raw block carries the root with the block
abbrev pub RawsCarry : Type 0
RawsCarry = (head : RequestHead) (q : QueryParts) (block : List ℕ) → IsGet head q → q.form ≡ forms.Raw → length block < 2 ^ 63
    → length (raw_reply head q block).head ≤ 16384 → (more : List ℕ) (ended : Bool)
    → Carries (reply_bytes (raw_reply head q block) ++ more) ended q (record { cid = q.root; block = block } ∷ [])

-- a CAR in chunks that is cut carries nothing
abbrev pub CutsCarryNothing : Type 0
CutsCarryNothing = (head : RequestHead) (found : Bool) (q : QueryParts) (sections some : List Section) (ended : Bool) → IsGet head q
    → q.form ≡ forms.Car → head.minor ≡ 1 → All IsSpelled sections → length (car_reply head found q sections true).head ≤ 16384
    → (Carries (reply_bytes (car_reply head found q sections true)) ended q some → ⊥)
    × (CarriesAbsence (reply_bytes (car_reply head found q sections true)) ended q some → ⊥)

-- a refusal carries nothing, whatever follows it
abbrev pub RefusalsCarryNothing : Type 0
RefusalsCarryNothing = (found : Bool) (head : RequestHead) (refusal : Refusal) (q : QueryParts) (some : List Section) (more : List ℕ) (ended : Bool)
    → is_head head.method ≡ false → CarriedBy found (reply_bytes (refused_request head refusal) ++ more) ended q some → ⊥

-- the reply over a store of bytes to GET for a CAR, where it isn't cut: of a path that leads to a terminal it carries the
-- sections of the query, and of one that leads nowhere the blocks on it
abbrev pub AskedAnswersCarry : Type 0
AskedAnswersCarry = (store : Store) (head : RequestHead) (q : QueryParts) (d : Dag) → IsByteStore store → IsAskedByGet store head q
    → q.form ≡ forms.Car → (path_walk q.path (store_view store q.root)).end ≡ terminal d → (reply store head).cut ≡ false
    → CarriesBy Carries head.minor (reply store head) q (block_list q (sent_dag store q.root))

abbrev pub AskedAbsencesCarry : Type 0
AskedAbsencesCarry = (store : Store) (head : RequestHead) (q : QueryParts) (stop : Stop) → IsByteStore store → IsAskedByGet store head q
    → q.form ≡ forms.Car → (path_walk q.path (store_view store q.root)).end ≡ not_reached stop → LeadsNowhere stop
    → (reply store head).cut ≡ false
    → CarriesBy CarriesAbsence head.minor (reply store head) q (block_list q (sent_dag store q.root))
